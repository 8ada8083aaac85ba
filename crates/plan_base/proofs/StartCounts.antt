-- A snapshot has one number of possible starts.
use Rattle.std.proofs.Common.{◌≡◌, ◌≢◌, ℕ, ◌≤◌, Bool, true, false, ◌&&◌, ◌==◌, List, length, AllPairs, Contains, Decides, refl, subst, arith}
use Rattle.std.specs.Cmp.{IsEquivalence}
use Rattle.std.proofs.lemmas.Bool.{eqb-true}
use Rattle.std.proofs.lemmas.Bool.Decides.{Decides-eqb}
use Rattle.std.proofs.lemmas.Cmp.{nat_eq_equiv, on_equiv, and_equiv}
use Rattle.std.proofs.lemmas.List.Elements.{All-contains}
use Rattle.std.proofs.lemmas.Map.Made.{IsDistinct-from_AllPairs, is_member-Decides, length-le_from_is_member}
use Rattle.plan_base.specs.declared.parts.Parts.{Parts}
use Rattle.plan_base.specs.declared.claim.Placement.{Placement}
use Rattle.plan_base.specs.Starts.{IsStartCount, IsPossibleStart}
use Rattle.plan_base.proofs.OneFill.{same_placement}

-- both are of the same request, telescope and slice
abbrev alike : Placement → Placement → Bool
alike p q = (p.request.0 == q.request.0) && ((p.telescope.0 == q.telescope.0) && (p.slice.0 == q.slice.0))

alike_equiv : IsEquivalence alike
alike_equiv = and_equiv (on_equiv (λ p. p.request.0) nat_eq_equiv)
    (and_equiv (on_equiv (λ p. p.telescope.0) nat_eq_equiv) (on_equiv (λ p. p.slice.0) nat_eq_equiv))

both_true : (a b : Bool) → (a && b) ≡ true → (a ≡ true) × (b ≡ true)
both_true a b h = (
  elim a as (λ v. (v && b) ≡ true → v ≡ true) [ true ↦ λ g. refl | false ↦ λ g. g ] h,
  elim a as (λ v. (v && b) ≡ true → b ≡ true) [ true ↦ λ g. g | false ↦ λ g. cc ] h,
)

same_test : (n : ℕ) → (n == n) ≡ true
same_test n = (Decides-eqb n n).1 refl

-- the test tells whether two placements are one
decided : (p q : Placement) → Decides (alike p q) (p ≡ q)
decided p q = (
  λ h.
      let parts = both_true (p.request.0 == q.request.0) _ h in
      let rest = both_true (p.telescope.0 == q.telescope.0) _ parts.1 in
      same_placement p q (eqb-true _ _ parts.0) (eqb-true _ _ rest.0) (eqb-true _ _ rest.1),
  λ e. subst (λ (x : Placement). alike p x ≡ true) e (alike_equiv.refl p),
)

-- a list without repetitions, of which each is in another, is no longer
no_longer : (xs ys : List Placement) → AllPairs (λ a b. a ≢ b) xs → ((p : Placement) → Contains xs p → Contains ys p) → length xs ≤ length ys
no_longer xs ys once within =
    length-le_from_is_member alike_equiv xs ys (IsDistinct-from_AllPairs {eq = alike} decided xs once)
    (λ q m. (is_member-Decides {eq = alike} decided ys q).1 (within q ((is_member-Decides {eq = alike} decided xs q).0 m)))

pub one_start_count : (s : Parts) (m n : ℕ) → IsStartCount s m → IsStartCount s n → m ≡ n
one_start_count s m n (xs, a, e) (ys, b, f) =
    let up = no_longer xs ys a.once (λ p c. b.complete p (All-contains (IsPossibleStart s) xs p a.possible c)) in
    let down = no_longer ys xs b.once (λ p c. a.complete p (All-contains (IsPossibleStart s) ys p b.possible c)) in
    omega arith
