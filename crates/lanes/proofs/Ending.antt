-- A worker ends, and what workers have found is put together.
use Rattle.std.proofs.Common.{◌≡◌, ℕ, ◌<◌, ◌⊎◌, inl, inr, List, [], ◌∷◌, ◌++◌, length, slice_index_or, ap, subst, arith}
use Rattle.std.specs.Prelude.{Contains}
use Rattle.std.proofs.lemmas.List.{get_or-map, length-map}
use Rattle.std.proofs.lemmas.List.Elements.{Contains-append_left, Contains-append_right, Contains-append_cases}
use mathlib.Core.Logic.{dite}
use native.Mathlib.Decide.{dec_le}
use Rattle.plan_base.specs.declared.parts.Parts.{Parts}
use Rattle.plan_base.specs.declared.claim.Settings.{Settings}
use Rattle.plan_base.specs.declared.claim.Placement.{Placement}
use Rattle.plan_base.specs.Snapshot.{IsOrderly}
use Rattle.plan_base.specs.Planned.{IsEarlierRound}
use Rattle.board.specs.declared.seat.SeatView.{SeatView}
use Rattle.board.specs.Steps.{joined}
use Rattle.lanes.specs.declared.lane_prices.LanePrices.{LanePrices}
use Rattle.lanes.specs.declared.worker.LaneFound.{LaneFound}
use Rattle.lanes.specs.Found.{FoundSeen, bettered, IsFound}
use Rattle.lanes.specs.Searched.{LaneRounds, IsMade, IsBoundGiven, IsValueGiven, IsMetFor, IsLaneDone, IsSearched, IsEnded}
use Rattle.lanes.specs.InStep.{IsMadeSoFar, lanes_of, IsInStep}
use Rattle.lanes.proofs.Lists.{any_left, any_right, any_cases}
use Rattle.lanes.proofs.Finding.{bound_given_more, value_given_more, found_same, found_by_either, either, found_later}
use Rattle.lanes.proofs.InStep.{met_more}

-- the lanes before are earlier than one in step
later : (s : Parts) (settings : Settings) (opening : ℕ) (v : SeatView) (f : FoundSeen) (lanes : List LanePrices) (founds : List LaneFound)
    (h : IsInStep s settings opening v f lanes founds) (j : ℕ) → Contains (lanes_of lanes) j → (i k : ℕ) → IsMade h.before i k → i < j
later s settings opening v f [] founds h j (l, lt, is) i k m = absurd (omega arith)
later s settings opening v f (x ∷ xs) founds h j (l, lt, is) i k m =
    let names : length (lanes_of (x ∷ xs)) ≡ length (x ∷ xs) = length-map (x ∷ xs) (λ y. y.lane) in
    let e = get_or-map (λ y. y.lane) (x ∷ xs) l x j (omega arith) in
    let t = (h.taken l x (omega arith)).later i k m in
    omega arith

-- where no lane is in step, or bound and value have met before a round was made of those that are, the worker's lanes are searched
pub searched : (s : Parts) (settings : Settings) (opening : ℕ) (v : SeatView) (f : FoundSeen) (lanes : List LanePrices) (founds : List LaneFound)
    → ((l : ℕ) (d : LanePrices) → l < length lanes → (slice_index_or lanes l d).made ≡ 0) → (length lanes ≡ 0) ⊎ IsMetFor v
    → IsInStep s settings opening v f lanes founds → IsSearched s settings opening [] v f
searched s settings opening v f lanes founds fresh why h =
    let less : (j k : ℕ) → IsMadeSoFar h.before lanes j k → IsMade h.before j k = λ j k m. elim m [
      | inl b ↦ b
      | inr (l, x, lt, is, made) ↦ (let z = fresh l x lt in let e = ap (λ (y : LanePrices). y.made) is in let m' = made.1 in absurd (omega arith))
    ] in
    record {
      made = h.before;
      within = h.within;
      claimed = h.claimed;
      found = h.found;
      bound_given = bound_given_more s (IsMadeSoFar h.before lanes) (IsMade h.before) less v.least_given h.bound_given;
      value_given = value_given_more s (IsMadeSoFar h.before lanes) (IsMade h.before) less opening v.greatest_given h.value_given;
      lanes = λ j c lt. elim (h.done j c lt) [
        | inl done ↦ inl done
        | inr here ↦ (let names : length (lanes_of lanes) ≡ length lanes = length-map lanes (λ y. y.lane) in let l = here.1 in
            elim why [
              | inl none ↦ absurd (omega arith)
              | inr met ↦ inr (met, λ alone i k m. later s settings opening v f lanes founds h j here i k m)
            ])
      ];
    }

-- what two seats claimed was searched
module _ (s : Parts) (settings : Settings) (opening : ℕ) (plan : List Placement) (v w : SeatView) (f g : FoundSeen) (orderly : IsOrderly s)
    (alone : settings.workers ≡ 1 → v.claims ≡ []) (x : IsSearched s settings opening plan v f) (y : IsSearched s settings opening [] w g) where
  abbrev both : SeatView
  both = joined v w

  abbrev together : List LaneRounds
  together = x.made ++ y.made

  left : (j k : ℕ) → IsMade x.made j k → IsMade together j k
  left j k m = any_left (λ z. (z.lane ≡ j) × (k < z.rounds)) x.made y.made m

  right : (j k : ℕ) → IsMade y.made j k → IsMade together j k
  right j k m = any_right (λ z. (z.lane ≡ j) × (k < z.rounds)) x.made y.made m

  cases : (j k : ℕ) → IsMade together j k → IsMade x.made j k ⊎ IsMade y.made j k
  cases j k m = any_cases (λ z. (z.lane ≡ j) × (k < z.rounds)) x.made y.made m

  -- with one worker the first seat made no round
  none_left : settings.workers ≡ 1 → (j k : ℕ) → ¬ (IsMade x.made j k)
  none_left one j k m = let c = subst (λ (xs : List ℕ). Contains xs j) (alone one) (x.claimed j k m) in absurd (omega (arith, c.1))

  lanes_left : (j : ℕ) → IsLaneDone s settings (IsMade x.made) opening v j → IsLaneDone s settings (IsMade together) opening both j
  lanes_left j (inl all) = inl (λ k lt. left j k (all k lt))
  lanes_left j (inr met) = inr ((let m = met.0 in omega arith), λ one. met_more s (IsMade x.made) (IsMade together) opening j j left (omega arith) (met.1 one))

  lanes_right : (j : ℕ) → IsLaneDone s settings (IsMade y.made) opening w j → IsLaneDone s settings (IsMade together) opening both j
  lanes_right j (inl all) = inl (λ k lt. right j k (all k lt))
  lanes_right j (inr met) = inr (
    (let m = met.0 in omega arith),
    λ one. met_more s (IsMade y.made) (IsMade together) opening j j right (omega arith) (met.1 one),
  )

  least : IsBoundGiven s (IsMade together) both.least_given
  least = dite (dec_le v.least_given w.least_given)
      (λ le. subst (IsBoundGiven s (IsMade together)) (let e : v.least_given ≡ both.least_given = omega arith in
      e) (bound_given_more s (IsMade x.made) (IsMade together) left v.least_given x.bound_given))
      (λ no. subst (IsBoundGiven s (IsMade together)) (let e : w.least_given ≡ both.least_given = omega arith in
      e) (bound_given_more s (IsMade y.made) (IsMade together) right w.least_given y.bound_given))

  greatest : IsValueGiven s (IsMade together) opening both.greatest_given
  greatest = dite (dec_le w.greatest_given v.greatest_given)
      (λ le. subst (IsValueGiven s (IsMade together) opening) (let e : v.greatest_given ≡ both.greatest_given = omega arith in
      e) (value_given_more s (IsMade x.made) (IsMade together) left opening v.greatest_given x.value_given))
      (λ no. subst (IsValueGiven s (IsMade together) opening) (let e : w.greatest_given ≡ both.greatest_given = omega arith in
      e) (value_given_more s (IsMade y.made) (IsMade together) right opening w.greatest_given y.value_given))

  found_both : IsFound s settings.workers (IsMade together) opening plan (bettered f g)
  found_both =
      let before : settings.workers ≡ 1 → (i k j l : ℕ) → IsMade x.made i k → IsMade y.made j l → IsEarlierRound i k j l =
      λ one i k j l a b. absurd (none_left one i k a) in
      found_same s (either s settings.workers (IsMade x.made) (IsMade y.made) before) (IsMade together)
      (λ j k m. elim m [ inl a ↦ left j k a | inr b ↦ right j k b ]) settings.workers opening plan (bettered f g) cases
      (found_by_either s settings.workers (IsMade x.made) (IsMade y.made) before opening plan f g orderly x.found
      (found_later s settings.workers (IsMade y.made) opening opening [] g (omega arith) y.found))

  pub searched_both : IsSearched s settings opening plan (joined v w) (bettered f g)
  searched_both = record {
    made = together;
    within = λ j k m. elim (cases j k m) [ inl a ↦ x.within j k a | inr b ↦ y.within j k b ];
    claimed = λ j k m. elim (cases j k m) [
      | inl a ↦ Contains-append_left v.claims w.claims j (x.claimed j k a)
      | inr b ↦ Contains-append_right v.claims w.claims j (y.claimed j k b)
    ];
    found = found_both;
    bound_given = least;
    value_given = greatest;
    lanes = λ j c lt. elim (Contains-append_cases v.claims w.claims j c) [
      | inl a ↦ elim (x.lanes j a lt) [
        | inl done ↦ inl (lanes_left j done)
        | inr out ↦ inr (
          (let m = out.0 in omega arith),
          λ one i k m. elim (cases i k m) [
            | inl p ↦ absurd (none_left one i k p)
            | inr q ↦
                (let c = subst (λ (xs : List ℕ). Contains xs j) (alone one) a in absurd (omega (arith, c.1)))
          ],
        )
      ]
      | inr b ↦ elim (y.lanes j b lt) [
        | inl done ↦ inl (lanes_right j done)
        | inr out ↦ inr ((let m = out.0 in omega arith), λ one i k m. elim (cases i k m) [ inl p ↦ absurd (none_left one i k p) | inr q ↦ out.1 one i k q ])
      ]
    ];
  }

  pub ended_both : IsEnded settings v ⊎ IsEnded settings w → IsEnded settings (joined v w)
  ended_both (inl (inl (n, le, c))) = inl (n, le, Contains-append_left v.claims w.claims n c)
  ended_both (inl (inr met)) = inr (omega arith)
  ended_both (inr (inl (n, le, c))) = inl (n, le, Contains-append_right v.claims w.claims n c)
  ended_both (inr (inr met)) = inr (omega arith)
