-- What lanes in step have found is kept.
use Rattle.std.proofs.Common.{◌≡◌, ℕ, zero, suc, ◌+◌, ◌≤◌, ◌<◌, ◌⊎◌, inl, inr, true, List, [], ◌∷◌, ◌++◌, length, map, take, slice_index_or, refl, sym}
use Rattle.std.proofs.Common.{ap, subst, ◌∙◌, arith}
use Rattle.std.specs.Prelude.{Contains}
use Rattle.std.specs.List.{fold}
use Rattle.std.proofs.lemmas.List.{take_more, get_or-take, get_or-map, length-map, length-take-le, map-append, get_or_default}
use Rattle.std.proofs.Math.Seq.{take-length}
use Rattle.std.proofs.lemmas.List.Sums.{fold_push}
use Rattle.plan_base.specs.declared.parts.Parts.{Parts}
use Rattle.plan_base.specs.declared.claim.Settings.{Settings}
use Rattle.plan_base.specs.Snapshot.{IsOrderly}
use Rattle.plan_base.specs.Planned.{IsEarlierRound}
use Rattle.board.specs.declared.seat.SeatView.{SeatView}
use Rattle.lanes.specs.declared.lane_prices.LanePrices.{LanePrices}
use Rattle.lanes.specs.declared.worker.LaneFound.{LaneFound}
use Rattle.lanes.specs.Found.{FoundSeen, bettered, IsFound}
use Rattle.lanes.specs.Searched.{LaneRounds, IsMade, IsLaneDone}
use Rattle.lanes.specs.InStep.{IsMadeIn, IsMadeSoFar, lanes_of, IsInStep}
use Rattle.lanes.proofs.Lists.{any_left, any_right, any_cases, any_map, any_from_map}
use Rattle.lanes.proofs.Finding.{bound_given_more, value_given_more, found_same, found_by_either, either, found_later}
use Rattle.lanes.proofs.InStep.{met_more}

-- each lane has made so many rounds, or makes no further one
abbrev pub AreMade : List LanePrices → List LaneFound → ℕ → Type 0
AreMade lanes founds rounds = (l : ℕ) (d : LanePrices) (e : LaneFound) → l < length lanes
    → ((slice_index_or founds l e).stopped ≡ true) ⊎ ((slice_index_or lanes l d).made ≡ rounds)

-- the better of what was found and what these lanes have
abbrev pub kept_of : FoundSeen → List LaneFound → FoundSeen
kept_of f founds = fold bettered f (map (λ y. y.found) founds)

-- one lane more
pub kept_more : (f : FoundSeen) (founds : List LaneFound) (n : ℕ) (e : LaneFound) → n < length founds
    → kept_of f (take (n + 1) founds) ≡ bettered (kept_of f (take n founds)) (slice_index_or founds n e).found
kept_more f founds n e lt =
    let found : LaneFound → FoundSeen = λ y. y.found in
    let one : List LaneFound = slice_index_or founds n e ∷ [] in
    ap (λ (ys : List LaneFound). fold bettered f (map found ys)) (take_more founds n e lt)
    ∙ ap (λ (gs : List FoundSeen). fold bettered f gs) (map-append found (take n founds) one)
    ∙ fold_push bettered f (map found (take n founds)) (slice_index_or founds n e).found

rounds_of : LanePrices → LaneRounds
rounds_of x = record { lane = x.lane; rounds = x.made }

module _ (s : Parts) (settings : Settings) (opening : ℕ) (v : SeatView) (f : FoundSeen) (lanes : List LanePrices) (founds : List LaneFound)
    (h : IsInStep s settings opening v f lanes founds) (orderly : IsOrderly s) (d : LanePrices) (e : LaneFound) where
  count : length founds ≡ length lanes
  count = h.count

  -- the lanes before are earlier
  earlier : (n : ℕ) → n < length lanes → settings.workers ≡ 1 → (i k j l : ℕ) → IsMadeSoFar h.before (take n lanes) i k
      → IsMadeIn (slice_index_or lanes n d) j l → IsEarlierRound i k j l
  earlier n lt alone i k j l (inl b) m = inl (let a = (h.taken n d lt).later i k b in let t = m.0 in omega arith)
  earlier n lt alone i k j l (inr (p, x, within, is, made)) m =
      let names : length (lanes_of lanes) ≡ length lanes = length-map lanes (λ y. y.lane) in
      let long : length (take n lanes) ≡ n = length-take-le n lanes (omega arith) in
      let below : p < n = omega arith in
      let r = h.rising p n 0 below (omega arith) in
      let a = get_or-map (λ y. y.lane) lanes p x 0 (omega arith) in
      let b = get_or-map (λ y. y.lane) lanes n d 0 lt in
      let c = ap (λ (y : LanePrices). y.lane) (sym (get_or-take n lanes p x below) ∙ is) in
      let g = made.0 in
      let t = m.0 in
      inl (omega arith)

  folded : (n : ℕ) → n ≤ length lanes → IsFound s settings.workers (IsMadeSoFar h.before (take n lanes)) opening [] (kept_of f (take n founds))
  folded zero le = found_same s (IsMade h.before) (IsMadeSoFar h.before []) (λ j k m. inl m) settings.workers opening [] f
      (λ j k m. elim m [ inl b ↦ b | inr none ↦ absurd (omega (arith, none.2)) ]) h.found
  folded (suc n) le =
      let lt : n < length lanes = omega arith in
      let x : LanePrices = slice_index_or lanes n d in
      let y : LaneFound = slice_index_or founds n e in
      let before = earlier n lt in
      let old = folded n (omega arith) in
      let both = found_by_either s settings.workers (IsMadeSoFar h.before (take n lanes)) (IsMadeIn x) before opening []
      (kept_of f (take n founds)) y.found orderly old
      (found_later s settings.workers (IsMadeIn x) opening 0 [] y.found (omega arith) (h.each n d e lt).found) in
      let more : take (n + 1) lanes ≡ take n lanes ++ x ∷ [] = take_more lanes n d lt in
      let next : suc n ≡ n + 1 = omega arith in
      let joined : IsFound s settings.workers (IsMadeSoFar h.before (take n lanes ++ x ∷ [])) opening [] (bettered (kept_of f (take n founds)) y.found) =
      found_same s (either s settings.workers (IsMadeSoFar h.before (take n lanes)) (IsMadeIn x) before) (IsMadeSoFar h.before (take n lanes ++ x ∷ []))
      (λ j k m. elim m [
        | inl a ↦ elim a [ inl b ↦ inl b | inr c ↦ inr (any_left (λ z. IsMadeIn z j k) (take n lanes) (x ∷ []) c) ]
        | inr b ↦ inr (any_right (λ z. IsMadeIn z j k) (take n lanes) (x ∷ []) (0, x, (omega arith), refl, b))
      ])
      settings.workers opening [] (bettered (kept_of f (take n founds)) y.found)
      (λ j k m. elim m [
        | inl b ↦ inl (inl b)
        | inr a ↦ elim (any_cases (λ z. IsMadeIn z j k) (take n lanes) (x ∷ []) a) [
          | inl c ↦ inl (inr c)
          | inr (zero, z, l, is, p) ↦ inr (subst (λ (w : LanePrices). IsMadeIn w j k) (sym is) p)
          | inr (suc i, z, l, is, p) ↦ absurd (omega arith)
        ]
      ])
      both in
      subst (λ (i : ℕ). IsFound s settings.workers (IsMadeSoFar h.before (take i lanes)) opening [] (kept_of f (take i founds))) (sym next)
      (subst (λ (ls : List LanePrices). IsFound s settings.workers (IsMadeSoFar h.before ls) opening [] (kept_of f (take (n + 1) founds))) (sym more)
      (subst (λ (g : FoundSeen). IsFound s settings.workers (IsMadeSoFar h.before (take n lanes ++ x ∷ [])) opening [] g)
      (sym (kept_more f founds n e (omega arith))) joined))

  whole : IsFound s settings.workers (IsMadeSoFar h.before lanes) opening [] (kept_of f founds)
  whole = subst (λ (ls : List LanePrices). IsFound s settings.workers (IsMadeSoFar h.before ls) opening [] (kept_of f founds)) (take-length lanes)
      (subst (λ (ys : List LaneFound). IsFound s settings.workers (IsMadeSoFar h.before (take (length lanes) lanes)) opening [] (kept_of f ys))
      (ap (λ (i : ℕ). take i founds) (sym count) ∙ take-length founds) (folded (length lanes) (omega arith)))

  abbrev after : List LaneRounds
  after = h.before ++ map rounds_of lanes

  made_after : (j k : ℕ) → IsMadeSoFar h.before lanes j k → IsMade after j k
  unfolding rounds_of
  made_after j k (inl b) = any_left (λ x. (x.lane ≡ j) × (k < x.rounds)) h.before (map rounds_of lanes) b
  made_after j k (inr a) = any_right (λ x. (x.lane ≡ j) × (k < x.rounds)) h.before (map rounds_of lanes)
      (any_map (λ x. (x.lane ≡ j) × (k < x.rounds)) rounds_of lanes a)

  after_made : (j k : ℕ) → IsMade after j k → IsMadeSoFar h.before lanes j k
  unfolding rounds_of
  after_made j k m = elim (any_cases (λ x. (x.lane ≡ j) × (k < x.rounds)) h.before (map rounds_of lanes) m) [
    | inl b ↦ inl b
    | inr a ↦ inr (any_from_map (λ x. (x.lane ≡ j) × (k < x.rounds)) rounds_of lanes d a)
  ]

  -- the lane that was taken at place l
  lane_at : (j : ℕ) → Contains (lanes_of lanes) j → (l : ℕ) × (l < length lanes) × ((slice_index_or lanes l d).lane ≡ j)
  lane_at j (l, lt, e) =
      let names : length (lanes_of lanes) ≡ length lanes = length-map lanes (λ y. y.lane) in
      (l, (omega arith), sym (get_or-map (λ y. y.lane) lanes l d j (omega arith)) ∙ e)

  done_lane : AreMade lanes founds settings.rounds → (j : ℕ) → Contains (lanes_of lanes) j → IsLaneDone s settings (IsMade after) opening v j
  done_lane all j c =
      let (l, lt, is) = lane_at j c in
      elim (all l d e lt) [
        | inl stopped ↦ (let t = (h.each l d e lt).stopped stopped in
            inr (
              t.0,
              λ alone. met_more s (IsMadeSoFar h.before lanes) (IsMade after) opening (slice_index_or lanes l d).lane j made_after
                  (omega arith) (t.1 alone),
            ))
        | inr made ↦ inl (λ k less. made_after j k
            (inr (l, slice_index_or lanes l d, lt, get_or_default lanes l (slice_index_or lanes l d) d lt, (is, omega arith))))
      ]

  kept_lanes : AreMade lanes founds settings.rounds → IsInStep s settings opening v (kept_of f founds) [] []
  kept_lanes all = record {
    before = after;
    within = λ j k m. elim (after_made j k m) [
      | inl b ↦ h.within j k b
      | inr (l, x, lt, is, (lane, made)) ↦ (let t = h.taken l x lt in let same = ap (λ (y : LanePrices). y.lane) is in
          let rounds = ap (λ (y : LanePrices). y.made) is in
          let a = t.known in let b = t.rounds in ((omega arith), (omega arith)))
    ];
    claimed = λ j k m. elim (after_made j k m) [
      | inl b ↦ h.claimed j k b
      | inr (l, x, lt, is, (lane, made)) ↦ subst (Contains v.claims) (ap (λ (y : LanePrices). y.lane) is ∙ lane) (h.taken l x lt).claimed
    ];
    found = found_same s (IsMadeSoFar h.before lanes) (IsMade after) made_after settings.workers opening [] (kept_of f founds) after_made whole;
    bound_given = bound_given_more s (IsMadeSoFar h.before lanes) (IsMadeSoFar after []) (λ j k m. inl (made_after j k m)) v.least_given h.bound_given;
    value_given = value_given_more s (IsMadeSoFar h.before lanes) (IsMadeSoFar after [])
        (λ j k m. inl (made_after j k m)) opening v.greatest_given h.value_given;
    count = refl;
    taken = λ l c lt. absurd (omega arith);
    each = λ l c g lt. absurd (omega arith);
    rising = λ i j c lt less. absurd (omega arith);
    done = λ j c lt. elim (h.done j c lt) [
      | inl done ↦ inl (elim done [
        | inl all ↦ inl (λ k less. made_after j k (inl (all k less)))
        | inr met ↦ inr (met.0, λ alone. met_more s (IsMade h.before) (IsMade after) opening j j (λ i k m. made_after i k (inl m)) (omega arith) (met.1 alone))
      ])
      | inr here ↦ inl (done_lane all j here)
    ];
  }

-- where all of them are done, what they have found is kept, and none is in step
pub kept : (s : Parts) (settings : Settings) (opening : ℕ) (v : SeatView) (f : FoundSeen) (lanes : List LanePrices) (founds : List LaneFound) → IsOrderly s
    → IsInStep s settings opening v f lanes founds → AreMade lanes founds settings.rounds → IsInStep s settings opening v (kept_of f founds) [] []
kept s settings opening v f [] [] orderly h all = h
kept s settings opening v f [] (y ∷ ys) orderly h all = (let c = h.count in absurd (omega arith))
kept s settings opening v f (x ∷ xs) [] orderly h all = (let c = h.count in absurd (omega arith))
kept s settings opening v f (x ∷ xs) (y ∷ ys) orderly h all = kept_lanes s settings opening v f (x ∷ xs) (y ∷ ys) h orderly x y all
