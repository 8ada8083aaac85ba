-- One filled plan for the same plan.
use Rattle.std.proofs.Common.{◌≡◌, ◌≢◌, ℕ, zero, suc, ◌<◌, ◌⊎◌, inl, inr, List, [], ◌∷◌, ◌++◌, length, All, Contains, HoldsAt, refl, sym, ◌∙◌, ap, subst, arith}
use Rattle.std.proofs.lemmas.List.Elements.{All-contains, All-head, All-tail, All-cons, All-nil}
use Rattle.plan_base.specs.declared.parts.Parts.{Parts}
use Rattle.plan_base.specs.declared.parts.GroupPart.{GroupPart}
use Rattle.plan_base.specs.declared.parts.Op.{Op}
use Rattle.plan_base.specs.declared.parts.Op.TheVariants.{Single, Many, OneOf, And}
use Rattle.plan_base.specs.declared.claim.Placement.{Placement}
use Rattle.plan_base.specs.Requests.{request_value, IsOf, IsKind, members}
use Rattle.plan_base.specs.Feasible.{requests_of}
use Rattle.plan_base.specs.Saturated.{HasNoFree, HasNonePlaced, IsNoLater, IsEarliestFree, TakesEach}
use Rattle.plan_base.specs.Fill.{group_worth, IsFillOrder, IsMemberOrder, TriesOne, TriesEach, TriesUntilOne, TakesAllOrNone, VisitsGroup, VisitsEach}
use Rattle.plan_base.specs.Fill.{IsPass, PassesTo, IsFilled}
use Rattle.plan_base.proofs.Orders.{contains_cases, contains_rest, one_order}

pub same_placement : (p q : Placement) → p.request.0 ≡ q.request.0 → p.telescope.0 ≡ q.telescope.0 → p.slice.0 ≡ q.slice.0 → p ≡ q
same_placement p q r t k = λ i. record { request = record { 0 = r i }; telescope = record { 0 = t i }; slice = record { 0 = k i } }

no_later_both : (p q : Placement) → IsNoLater p q → IsNoLater q p → (p.telescope.0 ≡ q.telescope.0) × (p.slice.0 ≡ q.slice.0)
no_later_both p q (inl a) (inl b) = absurd (omega arith)
no_later_both p q (inl a) (inr (e, b)) = let same : q.slice.0 ≡ p.slice.0 = ap (λ k. k.0) e in absurd (omega arith)
no_later_both p q (inr (e, a)) (inl b) = let same : p.slice.0 ≡ q.slice.0 = ap (λ k. k.0) e in absurd (omega arith)
no_later_both p q (inr (e, a)) (inr (f, b)) = (omega arith, ap (λ k. k.0) e)

pub one_earliest : (s : Parts) (plan : List Placement) (r : ℕ) (p q : Placement) → IsEarliestFree s plan r p → IsEarliestFree s plan r q → p ≡ q
one_earliest s plan r p q a b =
    let both = no_later_both p q (a.earliest q b.same_request b.free) (b.earliest p a.same_request a.free) in
    same_placement p q (a.same_request ∙ sym b.same_request) both.0 both.1

none_and_earliest : (s : Parts) (plan : List Placement) (r : ℕ) (p : Placement) → HasNoFree s plan r → IsEarliestFree s plan r p → ⊥
none_and_earliest s plan r p h a = h p a.same_request a.free

added : (plan after : List Placement) (p q : Placement) → p ≡ q → after ≡ plan ++ q ∷ [] → after ≡ plan ++ p ∷ []
added plan after p q e h = subst (λ (x : Placement). after ≡ plan ++ x ∷ []) (sym e) h

pub one_taking : (s : Parts) (plan : List Placement) (rs : List ℕ) (a b : List Placement) → TakesEach s plan rs a → TakesEach s plan rs b → a ≡ b
one_taking s plan [] a b h g = h ∙ sym g
one_taking s plan (r ∷ rs) a b (p, e, h) (q, f, g) =
    let same : q ≡ p = one_earliest s plan r q p f e in
    one_taking s (plan ++ p ∷ []) rs a b h (subst (λ (x : Placement). TakesEach s (plan ++ x ∷ []) rs b) same g)

one_trial : (s : Parts) (plan : List Placement) (r : ℕ) (a b : List Placement) → TriesOne s plan r a → TriesOne s plan r b → a ≡ b
one_trial s plan r a b (inl (c, h)) (inl (d, g)) = h ∙ sym g
one_trial s plan r a b (inl (c, h)) (inr (n, g)) = absurd (n c)
one_trial s plan r a b (inr (n, h)) (inl (d, g)) = absurd (n d)
one_trial s plan r a b (inr (n, inl (p, e, h))) (inr (m, inl (q, f, g))) = h ∙ sym (added plan b p q (one_earliest s plan r p q e f) g)
one_trial s plan r a b (inr (n, inl (p, e, h))) (inr (m, inr (f, g))) = absurd (none_and_earliest s plan r p f e)
one_trial s plan r a b (inr (n, inr (e, h))) (inr (m, inl (q, f, g))) = absurd (none_and_earliest s plan r q e f)
one_trial s plan r a b (inr (n, inr (e, h))) (inr (m, inr (f, g))) = h ∙ sym g

one_each : (s : Parts) (plan : List Placement) (rs : List ℕ) (a b : List Placement) → TriesEach s plan rs a → TriesEach s plan rs b → a ≡ b
one_each s plan [] a b h g = h ∙ sym g
one_each s plan (r ∷ rs) a b (x, e, h) (y, f, g) =
    let same : y ≡ x = one_trial s plan r y x f e in
    one_each s x rs a b h (subst (λ (z : List Placement). TriesEach s z rs b) same g)

one_until : (s : Parts) (plan : List Placement) (rs : List ℕ) (a b : List Placement) → TriesUntilOne s plan rs a → TriesUntilOne s plan rs b → a ≡ b
one_until s plan [] a b h g = h ∙ sym g
one_until s plan (r ∷ rs) a b (inl (p, e, h)) (inl (q, f, g)) = h ∙ sym (added plan b p q (one_earliest s plan r p q e f) g)
one_until s plan (r ∷ rs) a b (inl (p, e, h)) (inr (f, g)) = absurd (none_and_earliest s plan r p f e)
one_until s plan (r ∷ rs) a b (inr (e, h)) (inl (q, f, g)) = absurd (none_and_earliest s plan r q e f)
one_until s plan (r ∷ rs) a b (inr (e, h)) (inr (f, g)) = one_until s plan rs a b h g

one_whole : (s : Parts) (plan : List Placement) (rs : List ℕ) (a b : List Placement) → TakesAllOrNone s plan rs a → TakesAllOrNone s plan rs b → a ≡ b
one_whole s plan rs a b (inl h) (inl g) = one_taking s plan rs a b h g
one_whole s plan rs a b (inl h) (inr (n, g)) = absurd (n a h)
one_whole s plan rs a b (inr (n, h)) (inl g) = absurd (n b g)
one_whole s plan rs a b (inr (n, h)) (inr (m, g)) = h ∙ sym g

-- falling by a number, then rising by itself, is a strict order
abbrev pub FallsBy : (ℕ → ℕ) → ℕ → ℕ → Type 0
FallsBy f a b = (f b < f a) ⊎ ((f a ≡ f b) × (a < b))

falls_irreflexive : (f : ℕ → ℕ) (a : ℕ) → ¬ (FallsBy f a a)
falls_irreflexive f a (inl h) = omega arith
falls_irreflexive f a (inr (e, h)) = omega arith

falls_asymmetric : (f : ℕ → ℕ) (a b : ℕ) → FallsBy f a b → ¬ (FallsBy f b a)
falls_asymmetric f a b (inl h) (inl g) = omega arith
falls_asymmetric f a b (inl h) (inr (e, g)) = omega arith
falls_asymmetric f a b (inr (e, h)) (inl g) = omega arith
falls_asymmetric f a b (inr (e, h)) (inr (d, g)) = omega arith

one_member_order : (s : Parts) (g : ℕ) (xs ys : List ℕ) → IsMemberOrder s g xs → IsMemberOrder s g ys → xs ≡ ys
one_member_order s g xs ys a b =
    one_order (FallsBy (request_value s)) (falls_irreflexive (request_value s)) (falls_asymmetric (request_value s)) xs ys a.falling b.falling
    (λ z c. b.complete z (All-contains (IsOf s g) xs z a.members c)) (λ z c. a.complete z (All-contains (IsOf s g) ys z b.members c))

one_fill_order : (s : Parts) (xs ys : List ℕ) → IsFillOrder s xs → IsFillOrder s ys → xs ≡ ys
one_fill_order s xs ys a b =
    one_order (FallsBy (group_worth s)) (falls_irreflexive (group_worth s)) (falls_asymmetric (group_worth s)) xs ys a.falling b.falling
    (λ z c. b.complete z (All-contains (λ g. g < length s.groups) xs z a.places c))
    (λ z c. a.complete z (All-contains (λ g. g < length s.groups) ys z b.places c))

-- whether a number is in a list can be told, and so whether none of a list is placed
nat_cases : (a b : ℕ) → (a ≡ b) ⊎ (a ≢ b)
nat_cases a b = grind arith

pub contains_or_not : (xs : List ℕ) (z : ℕ) → Contains xs z ⊎ ¬ (Contains xs z)
contains_or_not [] z = inr (λ c. omega (arith, c.1))
contains_or_not (x ∷ xs) z = elim (nat_cases x z) [
  | inl e ↦ inl (0, omega arith, e)
  | inr n ↦ elim (contains_or_not xs z) [
    | inl c ↦ inl (contains_rest x z xs c)
    | inr m ↦ inr (λ c. elim (contains_cases x z xs c) [ inl e ↦ n e | inr d ↦ m d ])
  ]
]

none_or_some : (ps rs : List ℕ) → All (λ r. ¬ (Contains ps r)) rs ⊎ ¬ (All (λ r. ¬ (Contains ps r)) rs)
none_or_some ps [] = inl (All-nil (λ r. ¬ (Contains ps r)))
none_or_some ps (r ∷ rs) = elim (contains_or_not ps r) [
  | inl c ↦ inr (λ a. All-head (λ q. ¬ (Contains ps q)) r rs a c)
  | inr n ↦ elim (none_or_some ps rs) [
    | inl a ↦ inl (All-cons (λ q. ¬ (Contains ps q)) r rs n a)
    | inr m ↦ inr (λ a. m (All-tail (λ q. ¬ (Contains ps q)) r rs a))
  ]
]

pub none_placed_or_some : (s : Parts) (plan : List Placement) (g : ℕ) → HasNonePlaced s plan g ⊎ ¬ (HasNonePlaced s plan g)
none_placed_or_some s plan g = none_or_some (requests_of plan) (members s g)

abbrev KindCases : (Op → Type 0) → Type 0
KindCases P = ((P Single ⊎ P Many) ⊎ P OneOf) ⊎ P And

kind_of : (P : Op → Type 0) (k : Op) → P k → KindCases P
kind_of P Single h = inl (inl (inl h))
kind_of P Many h = inl (inl (inr h))
kind_of P OneOf h = inl (inr h)
kind_of P And h = inr h

kind_at : (xs : List GroupPart) (g : ℕ) → g < length xs → KindCases (λ k. HoldsAt (λ x. x.op ≡ k) xs g)
kind_at [] g l = absurd (omega arith)
kind_at (x ∷ xs) zero l = kind_of (λ k. HoldsAt (λ y. y.op ≡ k) (x ∷ xs) 0) x.op (λ d. refl)
kind_at (x ∷ xs) (suc g) l = kind_at xs g (omega arith)

one_visit : (s : Parts) (plan : List Placement) (g : ℕ) (a b : List Placement) → g < length s.groups → VisitsGroup s plan g a → VisitsGroup s plan g b → a ≡ b
one_visit s plan g a b l h f = elim (kind_at s.groups g l) [
  | inl (inl k) ↦ one_each s plan (members s g) a b (h.alone k) (f.alone k)
  | inl (inr k) ↦ elim (none_placed_or_some s plan g) [
    | inl n ↦ by_member_order k n
    | inr m ↦ h.served (inl k) m ∙ sym (f.served (inl k) m)
  ]
  | inr k ↦ elim (none_placed_or_some s plan g) [
    | inl n ↦ one_whole s plan (members s g) a b (h.absent (k, n)) (f.absent (k, n))
    | inr m ↦ h.served (inr k) m ∙ sym (f.served (inr k) m)
  ]
]
  where
    by_member_order : IsKind s OneOf g → HasNonePlaced s plan g → a ≡ b
    by_member_order k n =
        let x = h.untouched (k, n) in
        let y = f.untouched (k, n) in
        let same : y.0 ≡ x.0 = one_member_order s g y.0 x.0 y.1 x.1 in
        one_until s plan x.0 a b x.2 (subst (λ (o : List ℕ). TriesUntilOne s plan o b) same y.2)

one_visits : (s : Parts) (plan : List Placement) (gs : List ℕ) (a b : List Placement) → All (λ g. g < length s.groups) gs → VisitsEach s plan gs a
    → VisitsEach s plan gs b → a ≡ b
one_visits s plan [] a b l h f = h ∙ sym f
one_visits s plan (g ∷ gs) a b l (x, e, h) (y, d, f) =
    let same : y ≡ x = one_visit s plan g y x (All-head (λ i. i < length s.groups) g gs l) d e in
    one_visits s x gs a b (All-tail (λ i. i < length s.groups) g gs l) h (subst (λ (z : List Placement). VisitsEach s z gs b) same f)

pub one_pass : (s : Parts) (plan a b : List Placement) → IsPass s plan a → IsPass s plan b → a ≡ b
one_pass s plan a b (x, e, h) (y, d, f) =
    let same : y ≡ x = one_fill_order s y x d e in
    one_visits s plan x a b e.places h (subst (λ (z : List ℕ). VisitsEach s plan z b) same f)

one_passes : (s : Parts) (plan : List Placement) (xs ys : List (List Placement)) (a b : List Placement) → PassesTo s plan xs a → PassesTo s plan ys b → a ≡ b
one_passes s plan [] [] a b (e, h) (f, g) = e ∙ sym f
one_passes s plan [] (y ∷ ys) a b (e, h) (g, n, f) = absurd (n (one_pass s plan y plan g h))
one_passes s plan (x ∷ xs) [] a b (h, n, e) (f, g) = absurd (n (one_pass s plan x plan h g))
one_passes s plan (x ∷ xs) (y ∷ ys) a b (h, n, e) (g, m, f) =
    let same : y ≡ x = one_pass s plan y x g h in
    one_passes s x xs ys a b e (subst (λ (z : List Placement). PassesTo s z ys b) same f)

pub one_filled : (s : Parts) (plan a b : List Placement) → IsFilled s plan a → IsFilled s plan b → a ≡ b
one_filled s plan a b h g = one_passes s plan h.0 g.0 a b h.1 g.1
