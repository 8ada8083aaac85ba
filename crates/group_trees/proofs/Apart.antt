-- Lists of numbers of which no two are equal, in two parts.
use Rattle.std.proofs.Common.{◌≡◌, ◌≢◌, ℕ, inl, inr, List, [], ◌∷◌, ◌++◌, AllPairs, Contains, refl, sym, ap, ◌∙◌, subst, arith}
use Rattle.std.proofs.lemmas.List.Elements.{All-contains, All-contains_itself, Contains-append_left, Contains-append_right}
use Rattle.std.proofs.lemmas.List.Kept.{AllPairs-cons}
use Rattle.plan_base.proofs.Orders.{contains_cases, contains_first, contains_rest, pairs_head, pairs_tail}

pub pairs_left : (xs ys : List ℕ) → AllPairs (λ a b. a ≢ b) (xs ++ ys) → AllPairs (λ a b. a ≢ b) xs
pairs_left [] ys h = λ i j d l m. absurd (omega arith)
pairs_left (x ∷ xs) ys h =
    AllPairs-cons (λ a b. a ≢ b) x xs
    (λ k d l. All-contains (λ z. x ≢ z) (xs ++ ys) _ (pairs_head (λ a b. a ≢ b) x (xs ++ ys) h) (Contains-append_left xs ys _ (All-contains_itself xs k d l)))
    (pairs_left xs ys (pairs_tail (λ a b. a ≢ b) x (xs ++ ys) h))

pub pairs_right : (xs ys : List ℕ) → AllPairs (λ a b. a ≢ b) (xs ++ ys) → AllPairs (λ a b. a ≢ b) ys
pairs_right [] ys h = h
pairs_right (x ∷ xs) ys h = pairs_right xs ys (pairs_tail (λ a b. a ≢ b) x (xs ++ ys) h)

-- no number is in both parts
pub apart : (xs ys : List ℕ) (r : ℕ) → AllPairs (λ a b. a ≢ b) (xs ++ ys) → Contains xs r → Contains ys r → ⊥
apart [] ys r h (k, l, e) c = omega arith
apart (x ∷ xs) ys r h b c = elim (contains_cases x r xs b) [
  | inl e ↦ All-contains (λ z. x ≢ z) (xs ++ ys) r (pairs_head (λ a b. a ≢ b) x (xs ++ ys) h) (Contains-append_right xs ys r c) e
  | inr rest ↦ apart xs ys r (pairs_tail (λ a b. a ≢ b) x (xs ++ ys) h) rest c
]

head_or : List ℕ → ℕ → ℕ
head_or [] d = d
head_or (x ∷ xs) d = x

tail_of : List ℕ → List ℕ
tail_of [] = []
tail_of (x ∷ xs) = xs

same_heads : (x y : ℕ) (xs ys : List ℕ) → x ∷ xs ≡ y ∷ ys → x ≡ y
unfolding head_or
same_heads x y xs ys e = ap (λ (l : List ℕ). head_or l x) e

same_tails : (x y : ℕ) (xs ys : List ℕ) → x ∷ xs ≡ y ∷ ys → xs ≡ ys
unfolding tail_of
same_tails x y xs ys e = ap tail_of e

-- two ways to cut a list are the same where no number crosses from one to the other
pub parts_same : (xs ys us vs : List ℕ) → xs ++ ys ≡ us ++ vs → ((r : ℕ) → Contains xs r → Contains vs r → ⊥)
    → ((r : ℕ) → Contains us r → Contains ys r → ⊥) → (xs ≡ us) × (ys ≡ vs)
parts_same [] ys [] vs e f g = (refl, e)
parts_same [] ys (u ∷ us) vs e f g = absurd (g u (contains_first u us) (subst (λ (zs : List ℕ). Contains zs u) (sym e) (contains_first u (us ++ vs))))
parts_same (x ∷ xs) ys [] vs e f g = absurd (f x (contains_first x xs) (subst (λ (zs : List ℕ). Contains zs x) e (contains_first x (xs ++ ys))))
parts_same (x ∷ xs) ys (u ∷ us) vs e f g =
    let heads : x ≡ u = same_heads x u (xs ++ ys) (us ++ vs) e in
    let rest = parts_same xs ys us vs (same_tails x u (xs ++ ys) (us ++ vs) e) (λ r b c. f r (contains_rest x r xs b) c)
    (λ r b c. g r (contains_rest u r us b) c) in
    (ap (λ (z : ℕ). z ∷ xs) heads ∙ ap (λ (zs : List ℕ). u ∷ zs) rest.0, rest.1)

-- a list of which no element can be is empty
pub no_elements : (xs : List ℕ) → ((r : ℕ) → Contains xs r → ⊥) → xs ≡ []
no_elements [] h = refl
no_elements (x ∷ xs) h = absurd (h x (contains_first x xs))

pub append_empty_left : (xs ys : List ℕ) → xs ++ ys ≡ [] → xs ≡ []
append_empty_left [] ys e = refl
append_empty_left (x ∷ xs) ys e = cc

pub append_empty_right : (xs ys : List ℕ) → xs ++ ys ≡ [] → ys ≡ []
append_empty_right [] ys e = e
append_empty_right (x ∷ xs) ys e = cc
