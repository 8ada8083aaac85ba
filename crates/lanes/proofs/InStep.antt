-- Lanes in step: one more is begun, one makes a round, the seat looks, and a lane stops.
use Rattle.std.proofs.Common.{◌≡◌, ℕ, ◌+◌, ◌≤◌, ◌<◌, inl, inr, false, List, [], ◌∷◌, ◌++◌, length, slice_index_or, sym, ap, subst, ◌∙◌, arith}
use Rattle.std.specs.Prelude.{All, AllPairs, Contains}
use Rattle.std.proofs.lemmas.List.{get_or_append_left}
use Rattle.std.proofs.Math.Seq.{get_or-append_seam}
use Rattle.std.proofs.lemmas.List.{length-append, length-map, map-append, get_or-map}
use Rattle.std.proofs.lemmas.List.Elements.{All-contains, All-push, Contains-append_left, Contains-append_right, Contains-append_cases}
use Rattle.std.proofs.lemmas.List.Quantifiers.{all_pairs_push}
use Rattle.std.proofs.lemmas.Bool.{false≢true}
use mathlib.Core.Logic.{dite}
use native.Mathlib.Decide.{dec_lt}
use Rattle.plan_base.proofs.Orders.{contains_cases, contains_first}
use Rattle.plan_base.specs.declared.parts.Parts.{Parts}
use Rattle.plan_base.specs.declared.claim.Settings.{Settings}
use Rattle.board.specs.declared.seat.SeatView.{SeatView}
use Rattle.board.specs.Steps.{after_claim, IsCounterFor}
use Rattle.lanes.specs.declared.lane_prices.LanePrices.{LanePrices}
use Rattle.lanes.specs.declared.worker.LaneFound.{LaneFound}
use Rattle.lanes.specs.Found.{FoundSeen, IsFound}
use Rattle.lanes.specs.Searched.{LaneRounds, IsMade, up_to, IsBoundGiven, IsValueGiven, IsMetBy, IsMetFor, IsLaneDone}
use Rattle.lanes.specs.InStep.{IsMadeIn, IsMadeSoFar, lanes_of, IsTakenLane, IsFoundInStep, IsInStep}
use Rattle.lanes.specs.Working.{IsLook}
use Rattle.lanes.proofs.Lists.{any_left}
use Rattle.lanes.proofs.Finding.{bound_given_more, value_given_more}

-- where more was made, and up to a later lane, what has met has met
pub met_more : (s : Parts) (m n : ℕ → ℕ → Type 0) (opening i j : ℕ) → ((l k : ℕ) → m l k → n l k) → i ≤ j → IsMetBy s m opening i → IsMetBy s n opening j
met_more s m n opening i j more le x = record {
  bound = x.bound;
  value = x.value;
  gives = bound_given_more s (up_to m i) (up_to n j) (λ l k h. (more l k h.0, (let u = h.1 in omega arith))) x.bound x.gives;
  has = value_given_more s (up_to m i) (up_to n j) (λ l k h. (more l k h.0, (let u = h.1 in omega arith))) opening x.value x.has;
  met = x.met;
}

module _ (settings : Settings) (v w : SeatView) (claims : (j : ℕ) → Contains v.claims j → Contains w.claims j) where
  -- a lane that was claimed stays so while more is claimed
  pub taken_on : (before : List LaneRounds) (lanes : List LanePrices) → All (IsTakenLane settings v before) lanes → All (IsTakenLane settings w before) lanes
  taken_on before lanes all = λ l d lt. (let h = all l d lt in record { known = h.known; rounds = h.rounds; claimed = claims _ h.claimed; later = h.later })

module _ (s : Parts) (settings : Settings) (opening : ℕ) (v w : SeatView) (seen : IsMetFor v → IsMetFor w) where
  -- what a lane in step has found stays so while more is seen and made
  pub found_on : (m n : ℕ → ℕ → Type 0) (x : LanePrices) (y : LaneFound) → ((j k : ℕ) → m j k → n j k)
      → IsFoundInStep s settings opening v m x y → IsFoundInStep s settings opening w n x y
  found_on m n x y more h = record {
    found = h.found;
    stopped = λ is. (let t = h.stopped is in (seen t.0, λ alone. met_more s m n opening x.lane x.lane more (omega arith) (t.1 alone)));
  }

  pub done_on : (made : ℕ → ℕ → Type 0) (j : ℕ) → IsLaneDone s settings made opening v j → IsLaneDone s settings made opening w j
  done_on made j (inl all) = inl all
  done_on made j (inr met) = inr (seen met.0, met.1)

-- a look changes nothing of them
pub looked : (s : Parts) (settings : Settings) (opening : ℕ) (v w : SeatView) (f : FoundSeen) (lanes : List LanePrices) (founds : List LaneFound) → IsLook v w
    → IsInStep s settings opening v f lanes founds → IsInStep s settings opening w f lanes founds
looked s settings opening v w f lanes founds look h =
    let seen : IsMetFor v → IsMetFor w = λ met. (let a = look.lower in let b = look.greater in omega arith) in
    let claims : (j : ℕ) → Contains v.claims j → Contains w.claims j = λ j c. subst (λ (xs : List ℕ). Contains xs j) (sym look.claims) c in
    record {
      before = h.before;
      within = h.within;
      claimed = λ j k m. claims j (h.claimed j k m);
      found = h.found;
      bound_given = subst (λ (b : ℕ). IsBoundGiven s (IsMadeSoFar h.before lanes) b) (sym look.least) h.bound_given;
      value_given = subst (λ (b : ℕ). IsValueGiven s (IsMadeSoFar h.before lanes) opening b) (sym look.greatest) h.value_given;
      count = h.count;
      taken = taken_on settings v w claims h.before lanes h.taken;
      each = λ l d e lt. found_on s settings opening v w seen (IsMadeSoFar h.before lanes) (IsMadeSoFar h.before lanes) _ _ (λ j k m. m) (h.each l d e lt);
      rising = h.rising;
      done = λ j c lt. elim (h.done j (subst (λ (xs : List ℕ). Contains xs j) look.claims c) lt)
          [ inl done ↦ inl (done_on s settings opening v w seen (IsMade h.before) j done) | inr here ↦ inr here ];
    }

module _ (s : Parts) (settings : Settings) (opening : ℕ) (v : SeatView) (f : FoundSeen) (lanes : List LanePrices) (founds : List LaneFound)
    (h : IsInStep s settings opening v f lanes founds) where
  claims_more : (n j : ℕ) → Contains v.claims j → Contains (v.claims ++ n ∷ []) j
  claims_more n j c = Contains-append_left v.claims (n ∷ []) j c

  only : (n j : ℕ) → Contains (n ∷ []) j → n ≡ j
  only n j c = elim (contains_cases n j [] c) [ inl e ↦ e | inr none ↦ absurd (omega (arith, none.1)) ]

  -- a number is claimed that is no lane
  pub claimed_other : (n : ℕ) → settings.lanes ≤ n → IsInStep s settings opening (after_claim v n) f lanes founds
  claimed_other n beyond = record {
    before = h.before;
    within = h.within;
    claimed = λ j k m. claims_more n j (h.claimed j k m);
    found = h.found;
    bound_given = h.bound_given;
    value_given = h.value_given;
    count = h.count;
    taken = taken_on settings v (after_claim v n) (claims_more n) h.before lanes h.taken;
    each = λ l d e lt. found_on s settings opening v (after_claim v n) (λ met. met) (IsMadeSoFar h.before lanes) (IsMadeSoFar h.before lanes) _ _
        (λ j k m. m) (h.each l d e lt);
    rising = h.rising;
    done = λ j c lt. elim (Contains-append_cases v.claims (n ∷ []) j c) [
      | inl old ↦ elim (h.done j old lt)
          [ inl done ↦ inl (done_on s settings opening v (after_claim v n) (λ met. met) (IsMade h.before) j done) | inr here ↦ inr here ]
      | inr new ↦ (let e = only n j new in absurd (omega arith))
    ];
  }

  more_lane : (x : LanePrices) (j k : ℕ) → IsMadeSoFar h.before lanes j k → IsMadeSoFar h.before (lanes ++ x ∷ []) j k
  more_lane x j k (inl b) = inl b
  more_lane x j k (inr a) = inr (any_left (λ y. IsMadeIn y j k) lanes (x ∷ []) a)

  -- a lane is claimed and begun
  pub begun : (n : ℕ) (x : LanePrices) (y : LaneFound) → IsCounterFor v n → n < settings.lanes → x.lane ≡ n → x.made ≡ 0 → y.stopped ≡ false
      → IsFound s settings.workers (IsMadeIn x) 0 [] y.found → IsInStep s settings opening (after_claim v n) f (lanes ++ x ∷ []) (founds ++ y ∷ [])
  begun n x y counter known is fresh going found =
      let w : SeatView = after_claim v n in
      let below : (j : ℕ) → Contains v.claims j → j < n = λ j c. All-contains (λ z. z < n) v.claims j counter.rising c in
      let names : lanes_of (lanes ++ x ∷ []) ≡ lanes_of lanes ++ x.lane ∷ [] = map-append (λ z. z.lane) lanes (x ∷ []) in
      let longs : length (lanes ++ x ∷ []) ≡ length lanes + 1 = length-append lanes (x ∷ []) in
      let count : length founds ≡ length lanes = h.count in
      record {
        before = h.before;
        within = h.within;
        claimed = λ j k m. claims_more n j (h.claimed j k m);
        found = h.found;
        bound_given = bound_given_more s (IsMadeSoFar h.before lanes) (IsMadeSoFar h.before (lanes ++ x ∷ [])) (more_lane x) v.least_given h.bound_given;
        value_given = value_given_more s (IsMadeSoFar h.before lanes) (IsMadeSoFar h.before (lanes ++ x ∷ []))
            (more_lane x) opening v.greatest_given h.value_given;
        count = length-append founds (y ∷ []) ∙ ap (λ (i : ℕ). i + 1) count ∙ sym longs;
        taken = All-push (IsTakenLane settings w h.before) lanes x (taken_on settings v w (claims_more n) h.before lanes h.taken) (record {
          known = omega arith;
          rounds = omega arith;
          claimed = subst (Contains w.claims) (sym is) (Contains-append_right v.claims (n ∷ []) n (contains_first n []));
          later = λ i k m. (let b = below i (h.claimed i k m) in omega arith);
        });
        each = λ l d e lt. dite (dec_lt l (length lanes))
            (λ less. subst (λ (z : LanePrices). IsFoundInStep s settings opening w (IsMadeSoFar h.before (lanes ++ x ∷ [])) z
            (slice_index_or (founds ++ y ∷ []) l e)) (sym (get_or_append_left lanes (x ∷ []) d l less))
            (subst (λ (z : LaneFound). IsFoundInStep s settings opening w (IsMadeSoFar h.before (lanes ++ x ∷ [])) (slice_index_or lanes l d) z)
            (sym (get_or_append_left founds (y ∷ []) e l (omega arith)))
            (found_on s settings opening v w (λ met. met) (IsMadeSoFar h.before lanes) (IsMadeSoFar h.before (lanes ++ x ∷ [])) _ _
            (more_lane x) (h.each l d e less))))
            (λ no. let last : l ≡ length lanes = omega arith in
            let here : slice_index_or (lanes ++ x ∷ []) l d ≡ x = ap (λ (i : ℕ). slice_index_or (lanes ++ x ∷ []) i d) last ∙ get_or-append_seam lanes x [] d in
            let there : slice_index_or (founds ++ y ∷ []) l e ≡ y = ap (λ (i : ℕ). slice_index_or (founds ++ y ∷ []) i e) (last ∙ sym count)
            ∙ get_or-append_seam founds y [] e in
            subst (λ (z : LanePrices). IsFoundInStep s settings opening w (IsMadeSoFar h.before (lanes ++ x ∷ [])) z
            (slice_index_or (founds ++ y ∷ []) l e)) (sym here)
            (subst (λ (z : LaneFound). IsFoundInStep s settings opening w (IsMadeSoFar h.before (lanes ++ x ∷ [])) x z) (sym there)
            (record { found = found; stopped = λ stopped. absurd (false≢true (sym going ∙ stopped)) })));
        rising = subst (AllPairs (λ a b. a < b)) (sym names) (all_pairs_push (λ a b. a < b) (lanes_of lanes) x.lane h.rising (λ k d lt.
            let t = h.taken k x (let c = length-map lanes (λ z. z.lane) in omega arith) in
            let b = below _ t.claimed in
            let e : slice_index_or (lanes_of lanes) k d ≡ (slice_index_or lanes k x).lane =
            get_or-map (λ z. z.lane) lanes k x d (let c = length-map lanes (λ z. z.lane) in omega arith) in
            omega arith));
        done = λ j c lt. elim (Contains-append_cases v.claims (n ∷ []) j c) [
          | inl old ↦ elim (h.done j old lt) [
            | inl done ↦ inl (done_on s settings opening v w (λ met. met) (IsMade h.before) j done)
            | inr here ↦ inr (subst (λ (xs : List ℕ). Contains xs j) (sym names) (Contains-append_left (lanes_of lanes) (x.lane ∷ []) j here))
          ]
          | inr new ↦ inr (subst (λ (xs : List ℕ). Contains xs j) (sym names) (Contains-append_right (lanes_of lanes) (x.lane ∷ []) j
              (subst (Contains (x.lane ∷ [])) (is ∙ only n j new) (contains_first x.lane []))))
        ];
      }
