-- A start qualifies exactly where what goes for it is worth less than it, and its seconds are within its quota.
use Rattle.std.proofs.Common.{◌≡◌, ℕ, ◌+◌, ◌-◌, ◌<◌, ◌≤◌, Bool, cond, not, ◌||◌, List, [], ◌∷◌, ◌++◌, length, map, filter, slice_index_or, sum_by, All}
use Rattle.std.proofs.Common.{Some, None, Option, refl, sym, ◌∙◌, ap, subst, arith}
use Rattle.std.specs.Bool.{Decides}
use Rattle.std.proofs.lemmas.Bool.{eq-eqb}
use Rattle.std.proofs.lemmas.Bool.Decides.{Decides-at}
use Rattle.plan_base.specs.declared.parts.Parts.{Parts}
use Rattle.plan_base.specs.declared.claim.Placement.{Placement}
use Rattle.plan_base.specs.Requests.{IsKnown, quota_of, seconds_of}
use Rattle.plan_base.specs.Snapshot.{IsOrderly}
use Rattle.plan_base.specs.Starts.{IsPossibleStart, worth_at, value_of_plan}
use Rattle.plan_base.specs.Feasible.{requests_of, is_quota, quota_seconds, quota_at, IsFeasible}
use Rattle.rapid.specs.declared.held.Held.{Held}
use Rattle.rapid.specs.declared.seeking.Found.{Found}
use Rattle.rapid.specs.Displaced.{HasToGo, Displaces, IsWorthIt, Qualifies}
use Rattle.rapid.specs.Found.{IsFound}
use Rattle.rapid.specs.Held.{held_of, has_to_go, strikes_and, is_flagged, goes_by, counted_of, AreStruck, plan_of, meets}
use Rattle.rapid.specs.Stage.{IsStage}
use Rattle.rapid.proofs.Appended.{same_filters}
use Rattle.rapid.proofs.Sums.{chosen, sum_of_map, filter_of_map}
use Rattle.rapid.proofs.Telling.{goes_tells}
use Rattle.rapid.proofs.Parting.{one_part, parting, feasible_with, room_where}

flagged : (new : Held) (held : List Held) (n : ℕ) (flags : List Bool) (a : Option ℕ) → AreStruck new held n flags → ((g : ℕ) → a ≡ Some g → g < n)
    → is_flagged flags a ≡ strikes_and new held a
flagged new held n flags None struck below = refl
flagged new held n flags (Some g) struck below = struck.each g (below g refl)

again : {X Y : Type 0} (f : X → Y) (g : Y → X) → ((x : X) → g (f x) ≡ x) → (xs : List X) → map g (map f xs) ≡ xs
again f g h [] = refl
again {X} f g h (x ∷ xs) = ap (λ (y : X). y ∷ map g (map f xs)) (h x) ∙ ap (λ (l : List X). x ∷ l) (again f g h xs)

counted_towards : (s : Parts) (q : ℕ) (plan : List Placement) → sum_by (λ p. counted_of s (Some q) p.request.0) plan ≡ quota_seconds s q (requests_of plan)
counted_towards s q plan =
    sym (sum_of_map (λ r. cond (is_quota q (quota_of s r)) (seconds_of s r) 0) (λ p. p.request.0) plan)
    ∙ sym (chosen (λ r. is_quota q (quota_of s r)) (seconds_of s) (requests_of plan))

module _ (s : Parts) (held : List Held) (p : Placement) (o : IsOrderly s) (stage : IsStage s p.request.0 held) (possible : IsPossibleStart s p)
    (flags : List Bool) (struck : AreStruck (held_of s (quota_of s p.request.0) p) held (length s.groups) flags) where
  abbrev u : Option ℕ
  u = quota_of s p.request.0

  abbrev new : Held
  new = held_of s u p

  abbrev plan : List Placement
  plan = plan_of held

  abbrev test : Placement → Bool
  test q = has_to_go new held (held_of s u q)

  known : All (λ q. IsKnown s q.request.0) plan
  known = λ i d l. (stage.feasible.possible i d l).known

  agree : All (λ h. goes_by flags new h ≡ has_to_go new held h) held
  agree = λ i d l. ap (λ (b : Bool). meets new (slice_index_or held i d) || b)
      (flagged new held (length s.groups) flags (slice_index_or held i d).and_place struck (λ g e. stage.places i d l g e))

  tells : All (λ q. Decides (test q) (HasToGo s plan p q)) plan
  tells = λ i d l.
      let q : Placement = slice_index_or plan i d in
      Decides-at (test q) (has_to_go new (map (held_of s u) plan) (held_of s u q))
      (ap (λ (hs : List Held). has_to_go new hs (held_of s u q)) stage.told) (goes_tells s u plan p o known possible.known q (known i d l))

  -- a filter of what is held is a filter of the plan
  filtered : (f : Held → Bool) → filter f held ≡ map (held_of s u) (filter (λ q. f (held_of s u q)) plan)
  filtered f = ap (filter f) stage.told ∙ filter_of_map f (held_of s u) plan

  placements : (xs : List Placement) → plan_of (map (held_of s u) xs) ≡ xs
  placements xs = again (held_of s u) (λ h. h.placement) (λ x. refl) xs

  abbrev gone : List Placement
  gone = filter test plan

  abbrev kept : List Placement
  kept = filter (λ q. not (test q)) plan

  going : filter (goes_by flags new) held ≡ map (held_of s u) gone
  going = same_filters (goes_by flags new) (has_to_go new held) held agree ∙ filtered (has_to_go new held)

  staying : filter (λ h. not (goes_by flags new h)) held ≡ map (held_of s u) kept
  staying = same_filters (λ h. not (goes_by flags new h)) (λ h. not (has_to_go new held h)) held (λ i d l. ap not (agree i d l))
      ∙ filtered (λ h. not (has_to_go new held h))

  pub gone_is : plan_of (filter (goes_by flags new) held) ≡ gone
  gone_is = ap plan_of going ∙ placements gone

  pub kept_is : plan_of (filter (λ h. not (goes_by flags new h)) held) ≡ kept
  kept_is = ap plan_of staying ∙ placements kept

  lost_is : sum_by (λ h. h.worth) (filter (goes_by flags new) held) ≡ value_of_plan s gone
  lost_is = ap (sum_by (λ (h : Held). h.worth)) going ∙ sum_of_map (λ h. h.worth) (held_of s u) gone

  counted_is : sum_by (λ h. h.counted) (filter (λ h. not (goes_by flags new h)) held) ≡ sum_by (λ q. counted_of s u q.request.0) kept
  counted_is = ap (sum_by (λ (h : Held). h.counted)) staying ∙ sum_of_map (λ h. h.counted) (held_of s u) kept

  displaces : Displaces s plan p gone kept
  displaces = parting s plan p o stage.feasible possible stage.single stage.unplaced test tells

  counted_quota : (q : ℕ) → u ≡ Some q
      → (sum_by (λ h. h.counted) (filter (λ h. not (goes_by flags new h)) held) ≡ quota_seconds s q (requests_of kept))
      × (new.counted ≡ seconds_of s p.request.0)
  counted_quota q e = (
    counted_is ∙ ap (λ (v : Option ℕ). sum_by (λ x. counted_of s v x.request.0) kept) e ∙ counted_towards s q kept,
    ap (λ (w : Option ℕ). counted_of s w p.request.0) e
        ∙ ap (λ (w : Option ℕ). cond (is_quota q w) (seconds_of s p.request.0) 0) e
        ∙ ap (λ (b : Bool). cond b (seconds_of s p.request.0) 0) (eq-eqb q q refl),
  )

  -- where the start qualifies
  pub found_is : (found : Found) (lost counted : ℕ) → lost ≡ sum_by (λ h. h.worth) (filter (goes_by flags new) held)
      → counted ≡ sum_by (λ h. h.counted) (filter (λ h. not (goes_by flags new h)) held) + new.counted
      → lost < new.worth → ((q : ℕ) → u ≡ Some q → counted ≤ quota_at s q)
      → found.start ≡ p → found.gone.items ≡ plan_of (filter (goes_by flags new) held)
      → found.kept.items ≡ plan_of (filter (λ h. not (goes_by flags new h)) held) → found.gain ≡ new.worth - lost → IsFound s held p found
  found_is found lost counted lost_e counted_e less room start gone_e kept_e gain =
      let g : found.gone.items ≡ gone = gone_e ∙ gone_is in
      let k : found.kept.items ≡ kept = kept_e ∙ kept_is in
      let value : lost ≡ value_of_plan s gone = lost_e ∙ lost_is in
      record {
        start = start;
        worth_it = subst (λ (xs : List Placement). IsWorthIt s plan p xs found.kept.items) (sym g)
            (subst (λ (xs : List Placement). IsWorthIt s plan p gone xs) (sym k) (record {
              displaces = displaces;
              feasible = feasible_with s plan p o stage.feasible possible stage.single stage.unplaced test tells (λ q e. let both = counted_quota q e in
                  let within = room q e in omega arith);
              dearer = subst (λ (n : ℕ). n < worth_at s p) value less;
            }));
        gain = (let same : value_of_plan s found.gone.items ≡ value_of_plan s gone = ap (value_of_plan s) g in omega arith);
      }

  -- and where it doesn't
  pub not_worth : (lost : ℕ) → lost ≡ sum_by (λ h. h.worth) (filter (goes_by flags new) held) → new.worth ≤ lost → ¬ (Qualifies s plan p)
  not_worth lost lost_e most (other_gone, other_kept, worth_it) =
      let same : other_gone ≡ gone = one_part (HasToGo s plan p) plan other_gone gone worth_it.displaces.go displaces.go in
      let value : value_of_plan s other_gone ≡ value_of_plan s gone = ap (value_of_plan s) same in
      let lost_value : lost ≡ value_of_plan s gone = lost_e ∙ lost_is in
      let less : value_of_plan s other_gone < worth_at s p = worth_it.dearer in
      omega arith

  pub not_within : (counted : ℕ) → counted ≡ sum_by (λ h. h.counted) (filter (λ h. not (goes_by flags new h)) held) + new.counted
      → ¬ ((q : ℕ) → u ≡ Some q → counted ≤ quota_at s q) → ¬ (Qualifies s plan p)
  not_within counted counted_e over (other_gone, other_kept, worth_it) =
      let same : other_kept ≡ kept = one_part (λ q. ¬ (HasToGo s plan p q)) plan other_kept kept worth_it.displaces.stay displaces.stay in
      let feasible : IsFeasible s (kept ++ p ∷ []) = subst (λ (xs : List Placement). IsFeasible s (xs ++ p ∷ [])) same worth_it.feasible in
      over (λ q e.
      let within = room_where s plan p o stage.feasible possible stage.single stage.unplaced test tells feasible q e in
      let both = counted_quota q e in
      omega arith)
