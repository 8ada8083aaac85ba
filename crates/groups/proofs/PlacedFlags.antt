-- The tables tell which requests are placed, and of which groups none is.
use Rattle.std.proofs.Common.{◌≡◌, ℕ, ◌<◌, ◌⊎◌, inl, inr, Bool, true, false, cond, nat_eq, List, slice_index_or, sum_by, Contains, refl, sym, ◌∙◌, ap}
use Rattle.std.proofs.Common.{subst, arith}
use Rattle.std.proofs.lemmas.Bool.{eq-eqb, eqb-true}
use Rattle.std.proofs.lemmas.List.{get_or_default}
use Rattle.std.proofs.lemmas.List.Elements.{All-contains}
use Rattle.plan_base.specs.declared.parts.Parts.{Parts}
use Rattle.plan_base.specs.declared.claim.Placement.{Placement}
use Rattle.plan_base.specs.Requests.{Listed, listed, place_of, IsKnown, group_of, members}
use Rattle.plan_base.specs.Snapshot.{IsOrderly}
use Rattle.plan_base.specs.Feasible.{requests_of}
use Rattle.plan_base.specs.FeasibleSoFar.{IsFeasibleSoFar}
use Rattle.plan_base.specs.Saturated.{HasNonePlaced}
use Rattle.plan_base.proofs.Lists.{contains_map}
use Rattle.plan_base.proofs.Known.{known_as}
use Rattle.plan_base.proofs.Members.{contains_from_map, is_of_member, member_is_of}
use Rattle.std.proofs.lemmas.List.Elements.{Contains-get_or}
use Rattle.groups.specs.Tables.{flag, same}
use Rattle.groups.proofs.Shares.{sum_zero, sum_above}
use Rattle.groups.proofs.Told.{same_self, same_above}
use Rattle.groups.proofs.Opens.{none_when_none}

true_or_false : (b : Bool) → (b ≡ true) ⊎ (b ≡ false)
true_or_false true = inl refl
true_or_false false = inr refl

none_or_above : (n : ℕ) → (n ≡ 0) ⊎ (0 < n)
none_or_above n = grind arith

-- requests that stand at one place are one
one_at_place : (s : Parts) (a b : ℕ) → IsKnown s a → IsKnown s b → place_of s a ≡ place_of s b → a ≡ b
one_at_place s a b ka kb e =
    let x = known_as s a ka in
    let y = known_as s b kb in
    let here : x.0 ≡ y.0
    = sym x.1.at_place ∙ ap (λ (k : ℕ). slice_index_or (listed s) k x.0) e ∙ get_or_default (listed s) (place_of s b) x.0 y.0 kb ∙ y.1.at_place
    in
    sym x.1.number ∙ ap (λ (z : Listed). z.request.request.0) here ∙ y.1.number

-- the flag at its place tells whether a request is placed
pub flag_tells : (s : Parts) (plan : List Placement) (placed : List Bool) (r : ℕ) (b : Bool) → IsFeasibleSoFar s plan → IsKnown s r
    → ((i : ℕ) → flag placed i ≡ sum_by (λ p. same (place_of s p.request.0) i) plan) → slice_index_or placed (place_of s r) false ≡ b
    → (b ≡ true → Contains (requests_of plan) r) × (Contains (requests_of plan) r → b ≡ true)
flag_tells s plan placed r b so_far known told is = (
  λ yes.
      let one : flag placed (place_of s r) ≡ 1 = ap (λ (v : Bool). cond v 1 0) (is ∙ yes) in
      let sum = told (place_of s r) in
      let found = sum_above (λ p. same (place_of s p.request.0) (place_of s r)) plan (omega arith) in
      let possible : IsKnown s found.0.request.0 = All-contains (λ p. IsKnown s p.request.0) plan found.0 (λ i d l. (so_far.possible i d l).known) found.1 in
      subst (Contains (requests_of plan)) (one_at_place s found.0.request.0 r possible known (same_above _ _ found.2))
      (contains_map (λ p. p.request.0) plan found.0 found.1),
  λ has. elim (true_or_false b) [
    | inl on ↦ on
    | inr off ↦
        let none : flag placed (place_of s r) ≡ 0 = ap (λ (v : Bool). cond v 1 0) (is ∙ off) in
        let sum = told (place_of s r) in
        let all = sum_zero (λ p. same (place_of s p.request.0) (place_of s r)) plan (omega arith) in
        let found = contains_from_map (λ p. p.request.0) plan r has in
        let zero : same (place_of s found.0.request.0) (place_of s r) ≡ 0 =
        All-contains (λ p. same (place_of s p.request.0) (place_of s r) ≡ 0) plan found.0 all found.1 in
        let own : same (place_of s found.0.request.0) (place_of s r) ≡ 1 = same_self _ _ (ap (place_of s) found.2) in
        absurd (omega arith)
  ],
)

-- a request that the snapshot doesn't have isn't placed
pub unknown_not_placed : (s : Parts) (plan : List Placement) (r : ℕ) → IsFeasibleSoFar s plan → ¬ (IsKnown s r) → ¬ (Contains (requests_of plan) r)
unknown_not_placed s plan r so_far unknown has =
    let found = contains_from_map (λ p. p.request.0) plan r has in
    unknown (subst (IsKnown s) found.2 (All-contains (λ p. IsKnown s p.request.0) plan found.0 (λ i d l. (so_far.possible i d l).known) found.1))

-- the count of a group tells whether none of it is placed
pub count_tells : (s : Parts) (g n : ℕ) (plan : List Placement) → IsOrderly s → IsFeasibleSoFar s plan → n ≡ sum_by (λ p. same (group_of s p.request.0) g) plan
    → (nat_eq n 0 ≡ true → HasNonePlaced s plan g) × (HasNonePlaced s plan g → nat_eq n 0 ≡ true)
count_tells s g n plan o so_far told = (
  λ zero. let count : n ≡ 0 = eqb-true n 0 zero in
      λ i d l. none_when_none s g plan o so_far (sym told ∙ count) _ (is_of_member s g _ o (Contains-get_or (members s g) i d l)),
  λ none. elim (none_or_above n) [
    | inl zero ↦ eq-eqb n 0 zero
    | inr some ↦
        let found = sum_above (λ p. same (group_of s p.request.0) g) plan (omega arith) in
        let known : IsKnown s found.0.request.0 = All-contains (λ p. IsKnown s p.request.0) plan found.0 (λ i d l. (so_far.possible i d l).known) found.1 in
        absurd (All-contains (λ r. ¬ (Contains (requests_of plan) r)) (members s g) found.0.request.0 none
        (member_is_of s g found.0.request.0 (known, same_above _ g found.2)) (contains_map (λ p. p.request.0) plan found.0 found.1))
  ],
)
