use Rattle.std.proofs.Common.{◌≡◌, ◌≢◌, ℕ, ◌+◌, ◌<◌, inl, inr, Bool, true, false, ◌||◌, ◌==◌, List, length, drop, slice_index_or, slice_set, refl, sym}
use Rattle.std.proofs.Common.{ap, ◌∙◌, arith, get_or-set_other, get_or-set_same}
use Rattle.std.proofs.lemmas.Grind.{common_steps}
use Rattle.std.proofs.lemmas.Bool.Decides.{nat_tests}
use Rattle.std.proofs.lemmas.List.{length-set, at_drop_more}
use Rattle.plan_base.specs.declared.parts.Parts.{Parts}
use Rattle.plan_base.specs.declared.claim.Placement.{Placement}
use Rattle.plan_base.specs.Requests.{listed, place_of, IsKnown}
use Rattle.plan_base.specs.Feasible.{requests_of}
use Rattle.bound_checker.proofs.Marks.{placed_at, one_at_place}
use Rattle.group_trees.specs.Plans.{is_placed}
use Rattle.group_trees.specs.Standings.{is_flagged}
use Rattle.group_trees.proofs.Stable.{decide_same}
use Rattle.group_trees.proofs.standing.placed_flags.Goals as goal

or_here : (a b t w : Bool) → a ≡ true → t ≡ true → (a || w) ≡ (b || (t || w))
or_here true true true w e f = refl
or_here true false true w e f = refl
or_here a b false w e f = cc
or_here false b t w e f = cc

or_other : (a b t w : Bool) → a ≡ b → t ≡ false → (a || w) ≡ (b || (t || w))
or_other a b false w e f = ap (λ (x : Bool). x || w) e
or_other a b true w e f = cc

test_itself : (a b : ℕ) → a ≡ b → (b == a) ≡ true
test_itself a b e = grind (arith, nat_tests)

test_differs : (a b : ℕ) → a ≢ b → (b == a) ≡ false
test_differs a b h = grind (arith, nat_tests)

flags_more : (s : Parts) (plan : List Placement) (i : ℕ) (flags : List Bool) (place r : ℕ) → i < length plan → IsKnown s (placed_at plan i).request.0
    → place ≡ place_of s (placed_at plan i).request.0 → length flags ≡ length (listed s) → IsKnown s r
    → (is_flagged s (slice_set flags place true) r || is_placed (requests_of (drop (i + 1) plan)) r)
    ≡ (is_flagged s flags r || is_placed (requests_of (drop i plan)) r)
flags_more s plan i flags place r l known at count kr =
    let x : ℕ = (placed_at plan i).request.0 in
    let w : Bool = is_placed (requests_of (drop (i + 1) plan)) r in
    let set : List Bool = slice_set flags (place_of s x) true in
    let more : (is_flagged s flags r || is_placed (requests_of (drop i plan)) r) ≡ (is_flagged s flags r || ((x == r) || w)) =
    at_drop_more (λ (ps : List Placement). is_flagged s flags r || is_placed (requests_of ps) r) plan i
    (record { request = record { 0 = 0 }; telescope = record { 0 = 0 }; slice = record { 0 = 0 } }) l in
    ap (λ (k : ℕ). is_flagged s (slice_set flags k true) r || w) at
    ∙ elim (decide_same r x) [
      | inl e ↦ or_here (is_flagged s set r) (is_flagged s flags r) (x == r) w (ap (λ (n : ℕ). slice_index_or set (place_of s n) false) e
          ∙ get_or-set_same flags (place_of s x) true false (omega arith)) (test_itself r x e)
      | inr other ↦ or_other (is_flagged s set r) (is_flagged s flags r) (x == r) w
          (get_or-set_other flags (place_of s x) (place_of s r) true false (λ e. other (one_at_place s r x kr known e))) (test_differs r x other)
    ]
    ∙ sym more

pub loop-placement-preserved : goal.loop-placement-preserved
loop-placement-preserved c = (
  length-set c.loop-placement.flags.items c.known_place-place.result true ∙ c.loop-placement.invariant.0,
  λ r known. flags_more c.args.snapshot.now c.args.plan.now c.loop-placement.placement-index c.loop-placement.flags.items c.known_place-place.result r
      (omega arith) (c.requires c.loop-placement.placement-index _ (omega arith)) c.known_place-place.ensures.value c.loop-placement.invariant.0 known
      ∙ c.loop-placement.invariant.1 r known,
)

pub loop-placement-init : goal.loop-placement-init
loop-placement-init c = grind (arith, common_steps)

pub returns : goal.returns
returns c = grind (arith, common_steps)
