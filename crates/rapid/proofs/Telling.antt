-- The tests over what is held tell what has to go for a start.
use Rattle.std.proofs.Common.{◌≡◌, ◌≢◌, ℕ, ◌<◌, ◌⊎◌, inl, inr, Bool, true, false, ◌==◌, ◌&&◌, ◌||◌, nat_lt, List, [], ◌∷◌, length, map, slice_index_or}
use Rattle.std.proofs.Common.{All, Any, Some, None, Option, refl, sym, ◌∙◌, ap, subst, arith}
use Rattle.std.specs.Bool.{Decides}
use Rattle.std.specs.List.{list_any}
use Rattle.std.proofs.lemmas.Bool.{cases_lt, and_parts, and_from, eqb-true, eq-eqb}
use Rattle.std.proofs.lemmas.Bool.Decides.{nat_tests, Decides-or}
use Rattle.std.proofs.lemmas.List.{get_or-map}
use Rattle.std.proofs.lemmas.List.Folds.{Any-from_list_any, list_any-from_Any}
use Rattle.std.proofs.lemmas.List.Elements.{All-contains}
use Rattle.plan_base.specs.declared.parts.Parts.{Parts}
use Rattle.plan_base.specs.declared.parts.GroupPart.{GroupPart}
use Rattle.plan_base.specs.declared.parts.Op.{Op}
use Rattle.plan_base.specs.declared.parts.Op.TheVariants.{Single, Many, OneOf, And}
use Rattle.plan_base.specs.declared.claim.Placement.{Placement}
use Rattle.plan_base.specs.declared.number.TelescopeNo.{TelescopeNo}
use Rattle.plan_base.specs.Requests.{IsKnown, group_of, IsOf, IsKind}
use Rattle.plan_base.specs.Round.{op_at}
use Rattle.plan_base.specs.Snapshot.{IsOrderly}
use Rattle.plan_base.specs.Starts.{ShareSlice, size_of}
use Rattle.plan_base.specs.Tables.{slice_after}
use Rattle.plan_base.specs.Feasible.{is_quota}
use Rattle.plan_base.proofs.Known.{group_known}
use Rattle.plan_base.proofs.Sizes.{size_above}
use Rattle.rapid.specs.declared.held.Held.{Held}
use Rattle.rapid.specs.Displaced.{AreOfOneAnd, HasToGo}
use Rattle.rapid.specs.Held.{and_at, and_of, held_of, meets, strikes, strikes_and, has_to_go}

same_telescope : (a b : TelescopeNo) → a.0 ≡ b.0 → a ≡ b
same_telescope a b e i = record { 0 = e i }

meeting : (s : Parts) (a b : Placement) → 0 < size_of s a.request.0 → 0 < size_of s b.request.0 → a.telescope.0 ≡ b.telescope.0
    → a.slice.0 < slice_after s b → b.slice.0 < slice_after s a → ShareSlice s a b
meeting s a b j k same left right = elim (cases_lt a.slice.0 b.slice.0) [
  | inl below ↦ (same_telescope a.telescope b.telescope same, b.slice.0, (omega arith, omega arith), (omega arith, omega arith))
  | inr above ↦ (same_telescope a.telescope b.telescope same, a.slice.0, (omega arith, omega arith), (omega arith, omega arith))
]

parts_of : (t u a m b n : ℕ) → ((t == u) && nat_lt a m && nat_lt b n) ≡ true → (t ≡ u) × (a < m) × (b < n)
parts_of t u a m b n h = (grind (arith, nat_tests), grind (arith, nat_tests), grind (arith, nat_tests))

from_parts : (t u a m b n : ℕ) → t ≡ u → a < m → b < n → ((t == u) && nat_lt a m && nat_lt b n) ≡ true
from_parts t u a m b n e l k = grind (arith, nat_tests)

shared_bounds : (s : Parts) (a b : Placement) → ShareSlice s a b → (a.slice.0 < slice_after s b) × (b.slice.0 < slice_after s a)
shared_bounds s a b (e, k, (p, q), (u, v)) = (omega arith, omega arith)

pub meets_tells : (s : Parts) (u : Option ℕ) (a b : Placement) → IsOrderly s → IsKnown s a.request.0 → IsKnown s b.request.0
    → Decides (meets (held_of s u a) (held_of s u b)) (ShareSlice s a b)
meets_tells s u a b o j k = (
  (λ h. let p = parts_of a.telescope.0 b.telescope.0 a.slice.0 (slice_after s b) b.slice.0 (slice_after s a) h in
      meeting s a b (size_above s a.request.0 o j) (size_above s b.request.0 o k) p.0 p.1 p.2),
  (λ share. let bounds = shared_bounds s a b share in
      from_parts a.telescope.0 b.telescope.0 a.slice.0 (slice_after s b) b.slice.0 (slice_after s a)
      (ap (λ (t : TelescopeNo). t.0) share.0) bounds.0 bounds.1),
)

and_cases : (k : Op) (g : ℕ) → ((and_at k g ≡ None) × (k ≢ And)) ⊎ ((and_at k g ≡ Some g) × (k ≡ And))
and_cases Single g = inl (refl, λ e. cc)
and_cases Many g = inl (refl, λ e. cc)
and_cases OneOf g = inl (refl, λ e. cc)
and_cases And g = inr (refl, refl)

-- the kind of a known request's group
op_from_kind : (s : Parts) (k : Op) (g : ℕ) → g < length s.groups → IsKind s k g → op_at s g ≡ k
op_from_kind s k g l h = at s.groups g l h
  where
    at : (xs : List GroupPart) (i : ℕ) → i < length xs → ((d : GroupPart) → (slice_index_or xs i d).op ≡ k) → slice_index_or (map (λ x. x.op) xs) i Single ≡ k
    at [] i l h = absurd (omega arith)
    at (x ∷ xs) i l h = get_or-map (λ y. y.op) (x ∷ xs) i x Single l ∙ h x

kind_from_op : (s : Parts) (k : Op) (g : ℕ) → g < length s.groups → op_at s g ≡ k → IsKind s k g
kind_from_op s k g l e d = sym (get_or-map (λ x. x.op) s.groups g d Single l) ∙ e

is_quota_same : (g : ℕ) (o : Option ℕ) → is_quota g o ≡ true → o ≡ Some g
is_quota_same g None h = cc
is_quota_same g (Some p) h = ap (λ (n : ℕ). Some n) (eqb-true p g h)

same_is_quota : (g : ℕ) (o : Option ℕ) → o ≡ Some g → is_quota g o ≡ true
same_is_quota g o e = ap (is_quota g) e ∙ eq-eqb g g refl

some_same : (a b : ℕ) → Some a ≡ Some b → a ≡ b
some_same a b e = cc

-- a request whose AND has this place is of it
of_and : (s : Parts) (r g : ℕ) → IsKnown s r → and_of s r ≡ Some g → IsOf s g r × IsKind s And g
of_and s r g k e = elim (and_cases (op_at s (group_of s r)) (group_of s r)) [
  | inl none ↦ let bad : None ≡ Some g = sym none.0 ∙ e in cc
  | inr found ↦
      let same : group_of s r ≡ g = some_same (group_of s r) g (sym found.0 ∙ e) in
      ((k, same), subst (IsKind s And) same (kind_from_op s And (group_of s r) (group_known s r k) found.1))
]

and_from_of : (s : Parts) (r g : ℕ) → IsOf s g r → IsKind s And g → and_of s r ≡ Some g
and_from_of s r g of kind =
    let below : group_of s r < length s.groups = group_known s r of.0 in
    let op : op_at s (group_of s r) ≡ And = op_from_kind s And (group_of s r) below (subst (IsKind s And) (sym of.1) kind) in
    ap (λ (k : Op). and_at k (group_of s r)) op ∙ ap (λ (n : ℕ). Some n) of.1

any_of_map : {X Y : Type 0} (p : Y → Bool) (g : X → Y) (xs : List X) → list_any p (map g xs) ≡ list_any (λ x. p (g x)) xs
any_of_map p g [] = refl
any_of_map p g (x ∷ xs) = ap (λ (b : Bool). p (g x) || b) (any_of_map p g xs)

module _ (s : Parts) (u : Option ℕ) (plan : List Placement) (p : Placement) (o : IsOrderly s) (known : All (λ a. IsKnown s a.request.0) plan)
    (start : IsKnown s p.request.0) where
  abbrev new : Held
  new = held_of s u p

  abbrev held : List Held
  held = map (held_of s u) plan

  abbrev StrikesOne : ℕ → Type 0
  StrikesOne r = Any (λ a. ShareSlice s p a × AreOfOneAnd s a.request.0 r) plan

  struck_to : (g r : ℕ) → IsOf s g r → IsKind s And g → strikes new held g ≡ true → StrikesOne r
  struck_to g r of kind h =
      let found = Any-from_list_any (λ a. meets new (held_of s u a) && is_quota g (and_of s a.request.0)) plan
      (sym (any_of_map (λ h. meets new h && is_quota g h.and_place) (held_of s u) plan) ∙ h) in
      let a : Placement = found.1 in
      let a_known : IsKnown s a.request.0 = All-contains (λ x. IsKnown s x.request.0) plan a known (found.0, found.2, found.3) in
      let both = and_parts (meets new (held_of s u a)) (is_quota g (and_of s a.request.0)) found.4 in
      let a_of = of_and s a.request.0 g a_known (is_quota_same g (and_of s a.request.0) both.1) in
      (found.0, a, found.2, found.3, ((meets_tells s u p a o start a_known).0 both.0, (g, kind, a_of.0, of)))

  struck_from : (g r : ℕ) → IsOf s g r → StrikesOne r → strikes new held g ≡ true
  struck_from g r of (k, a, l, e, (share, (h, kind, of_a, of_r))) =
      let same : h ≡ g = sym of_r.1 ∙ of.1 in
      let a_and : and_of s a.request.0 ≡ Some g = and_from_of s a.request.0 h of_a kind ∙ ap (λ (n : ℕ). Some n) same in
      any_of_map (λ h. meets new h && is_quota g h.and_place) (held_of s u) plan
      ∙ list_any-from_Any (λ a. meets new (held_of s u a) && is_quota g (and_of s a.request.0)) plan (
        k,
        a,
        l,
        e,
        and_from (meets new (held_of s u a)) (is_quota g (and_of s a.request.0)) ((meets_tells s u p a o start of_a.0).1 share)
            (same_is_quota g (and_of s a.request.0) a_and),
      )

  -- whether an AND's placement has to go since another of it does
  strikes_tells : (r : ℕ) → IsKnown s r → Decides (strikes_and new held (and_of s r)) (StrikesOne r)
  strikes_tells r k = by (and_of s r) (λ g e. of_and s r g k e) (λ one. let d = one.4.1 in (d.0, and_from_of s r d.0 d.3 d.1))
    where
      by : (a : Option ℕ) → ((g : ℕ) → a ≡ Some g → IsOf s g r × IsKind s And g) → (StrikesOne r → (g : ℕ) × (a ≡ Some g))
          → Decides (strikes_and new held a) (StrikesOne r)
      by None of some = ((λ (h : false ≡ true). absurd (let e = h in cc)), (λ one. let e = (some one).1 in cc))
      by (Some g) of some = ((λ h. struck_to g r (of g refl).0 (of g refl).1 h), (λ one. struck_from g r (of g refl).0 one))

  pub goes_tells : (q : Placement) → IsKnown s q.request.0 → Decides (has_to_go new held (held_of s u q)) (HasToGo s plan p q)
  goes_tells q k = Decides-or (meets new (held_of s u q)) (strikes_and new held (and_of s q.request.0)) (meets_tells s u p q o start k)
      (strikes_tells q.request.0 k)
