-- A lane in step stops.
use Rattle.std.proofs.Common.{◌≡◌, ℕ, ◌+◌, ◌≤◌, ◌<◌, inl, inr, List, [], length, map, take, slice_index_or, slice_set, sym, ap, subst, ◌∙◌, arith}
use Rattle.std.specs.Prelude.{Contains}
use Rattle.std.proofs.lemmas.List.{get_or-set_same, get_or-set_other, length-set, get_or-map, get_or-take, length-map, length-take-le, get_or_default}
use Rattle.plan_base.specs.declared.parts.Parts.{Parts}
use Rattle.plan_base.specs.declared.claim.Settings.{Settings}
use Rattle.plan_base.specs.declared.claim.Placement.{Placement}
use Rattle.plan_base.proofs.Orders.{contains_cases}
use Rattle.board.specs.declared.seat.SeatView.{SeatView}
use Rattle.lanes.specs.declared.lane_prices.LanePrices.{LanePrices}
use Rattle.lanes.specs.declared.worker.LaneFound.{LaneFound}
use Rattle.lanes.specs.Found.{FoundSeen, IsFound}
use Rattle.lanes.specs.Searched.{IsMade, up_to, IsBoundGiven, IsValueGiven, IsMetBy, IsMetFor}
use Rattle.lanes.specs.InStep.{IsMadeIn, IsMadeSoFar, lanes_of, IsFoundInStep, IsInStep}
use Rattle.lanes.specs.Working.{HasMetAt}
use Rattle.lanes.proofs.Finding.{bound_more, value_more}
use Rattle.lanes.proofs.Lists.{same_or_not}

-- what was found was given
found_bound : (s : Parts) (workers opening : ℕ) (plan : List Placement) (m n : ℕ → ℕ → Type 0) (f : FoundSeen) → ((j k : ℕ) → m j k → n j k)
    → IsFound s workers m opening plan f
    → IsBoundGiven s n f.bound
found_bound s workers opening plan m n f more x =
    elim x.bound [ inl none ↦ inl none.1 | inr l ↦ inr (f.prices, f.quota_prices, bound_more s m n more f.bound f.prices f.quota_prices l.reached) ]

found_value : (s : Parts) (workers opening top : ℕ) (plan : List Placement) (m n : ℕ → ℕ → Type 0) (f : FoundSeen) → opening ≤ top
    → ((j k : ℕ) → m j k → n j k) → IsFound s workers m opening plan f
    → IsValueGiven s n top f.value
found_value s workers opening top plan m n f under more x =
    elim x.value.reached [ inl o ↦ inl (let e = o.0 in omega arith) | inr y ↦ inr (f.plan, value_more s m n more f.value f.plan y.1.reached) ]

-- an element of what was mapped from a beginning of a list
mapped : {X : Type 0} (g : X → ℕ) (xs : List X) (n b : ℕ) → n ≤ length xs → Contains (map g (take n xs)) b
    → (k : ℕ) × (k < n) × ((d : X) → g (slice_index_or xs k d) ≡ b)
mapped g xs n b le (k, lt, e) =
    let long : length (take n xs) ≡ n = length-take-le n xs le in
    let same : length (map g (take n xs)) ≡ length (take n xs) = length-map (take n xs) g in
    (k, (omega arith), λ d. ap g (sym (get_or-take n xs k d (omega arith))) ∙ sym (get_or-map g (take n xs) k d b (omega arith)) ∙ e)

module _ (s : Parts) (settings : Settings) (opening : ℕ) (v : SeatView) (f : FoundSeen) (lanes : List LanePrices) (founds : List LaneFound)
    (h : IsInStep s settings opening v f lanes founds) (l : ℕ) (within : l < length lanes) where
  abbrev so_far : ℕ → ℕ → Type 0
  so_far = IsMadeSoFar h.before lanes

  not_later : (k : ℕ) (d : LanePrices) → k ≤ l → (slice_index_or lanes k d).lane ≤ (slice_index_or lanes l d).lane
  not_later k d le = elim (same_or_not k l) [
    | inl same ↦ (let e = ap (λ (i : ℕ). (slice_index_or lanes i d).lane) same in omega arith)
    | inr other ↦
        let count : length (lanes_of lanes) ≡ length lanes = length-map lanes (λ y. y.lane) in
        let less : k < l = omega (arith, other) in
        let r = h.rising k l 0 less (omega arith) in
        let a = get_or-map (λ y. y.lane) lanes k d 0 (omega arith) in
        let b = get_or-map (λ y. y.lane) lanes l d 0 within in
        omega arith
  ]

  from_before : (d : LanePrices) (j k : ℕ) → IsMade h.before j k → up_to so_far (slice_index_or lanes l d).lane j k
  from_before d j k m = (inl m, (let b = (h.taken l d within).later j k m in omega arith))

  from_lane : (d : LanePrices) (i j k : ℕ) → i ≤ l → IsMadeIn (slice_index_or lanes i d) j k → up_to so_far (slice_index_or lanes l d).lane j k
  from_lane d i j k le m =
      let x = slice_index_or lanes i d in
      (inr (i, x, (omega arith), get_or_default lanes i x d (omega arith), m), (let n = not_later i d le in let e = m.0 in omega arith))

  -- bound and value have met by what lanes up to it gave
  pub met_at : (d : LanePrices) (e : LaneFound) → HasMetAt f founds l → IsMetBy s so_far opening (slice_index_or lanes l d).lane
  met_at d e x =
      let count : length founds ≡ length lanes = h.count in
      let lane : ℕ = (slice_index_or lanes l d).lane in
      record {
        bound = x.bound;
        value = x.value;
        gives = elim (contains_cases f.bound x.bound (map (λ y. y.found.bound) (take (l + 1) founds)) x.found_bound) [
          | inl same ↦ subst (IsBoundGiven s (up_to so_far lane)) same
              (found_bound s settings.workers opening [] (IsMade h.before) (up_to so_far lane) f (from_before d) h.found)
          | inr among ↦ (let (i, lt, is) = mapped (λ y. y.found.bound) founds (l + 1) x.bound (omega arith) among in
              subst (IsBoundGiven s (up_to so_far lane)) (is e)
              (found_bound s settings.workers 0 [] (IsMadeIn (slice_index_or lanes i d)) (up_to so_far lane) (slice_index_or founds i e).found
              (λ j k. from_lane d i j k (omega arith)) (h.each i d e (omega arith)).found))
        ];
        has = elim (contains_cases f.value x.value (map (λ y. y.found.value) (take (l + 1) founds)) x.found_value) [
          | inl same ↦ subst (IsValueGiven s (up_to so_far lane) opening) same
              (found_value s settings.workers opening opening [] (IsMade h.before) (up_to so_far lane) f (omega arith) (from_before d) h.found)
          | inr among ↦ (let (i, lt, is) = mapped (λ y. y.found.value) founds (l + 1) x.value (omega arith) among in
              subst (IsValueGiven s (up_to so_far lane) opening) (is e)
              (found_value s settings.workers 0 opening [] (IsMadeIn (slice_index_or lanes i d)) (up_to so_far lane)
              (slice_index_or founds i e).found
              (omega arith) (λ j k. from_lane d i j k (omega arith)) (h.each i d e (omega arith)).found))
        ];
        met = x.met;
      }

  -- it may make no further round
  pub stopped_one : (e y : LaneFound) → IsMetFor v → (settings.workers ≡ 1 → HasMetAt f founds l) → y.found ≡ (slice_index_or founds l e).found
      → IsInStep s settings opening v f lanes (slice_set founds l y)
  stopped_one e y met why found = record {
    before = h.before;
    within = h.within;
    claimed = h.claimed;
    found = h.found;
    bound_given = h.bound_given;
    value_given = h.value_given;
    count = length-set founds l y ∙ h.count;
    taken = h.taken;
    each = λ k c g lt. elim (same_or_not k l) [
      | inl same ↦
          let long : length founds ≡ length lanes = h.count in
          let there : slice_index_or (slice_set founds l y) k g ≡ y = ap (λ (i : ℕ). slice_index_or (slice_set founds l y) i g) same
          ∙ get_or-set_same founds l y g (omega arith) in
          subst (λ (z : LaneFound). IsFoundInStep s settings opening v so_far (slice_index_or lanes k c) z) (sym there)
          (subst (λ (i : ℕ). IsFoundInStep s settings opening v so_far (slice_index_or lanes i c) y) (sym same) (record {
            found = subst (λ (z : FoundSeen). IsFound s settings.workers (IsMadeIn (slice_index_or lanes l c)) 0 [] z) (sym found) (h.each l c e within).found;
            stopped = λ yes. (met, λ alone. met_at c e (why alone));
          }))
      | inr other ↦ subst (λ (z : LaneFound). IsFoundInStep s settings opening v so_far (slice_index_or lanes k c) z)
          (sym (get_or-set_other founds l k y g other)) (h.each k c g lt)
    ];
    rising = h.rising;
    done = h.done;
  }
