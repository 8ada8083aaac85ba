-- Lists: filters that keep all or nothing, and what a test says of a list.
use Rattle.std.proofs.Common.{◌≡◌, Bool, true, false, cond, not, ◌&&◌, List, [], ◌∷◌, filter, All, get_or, refl, ap}
use Rattle.std.proofs.lemmas.List.Elements.{All-head, All-tail, All-weaker}
use Rattle.std.proofs.lemmas.List.Elements.{filter_passes}

keep_head : {X : Type 0} (b : Bool) (x : X) (ys zs : List X) → b ≡ true → ys ≡ zs → cond b (x ∷ ys) ys ≡ x ∷ zs
keep_head true x ys zs e h = ap (λ (l : List _). x ∷ l) h
keep_head false x ys zs e h = cc

-- a filter that each element passes keeps all
pub filter_all : {X : Type 0} (p : X → Bool) (xs : List X) → All (λ x. p x ≡ true) xs → filter p xs ≡ xs
filter_all p [] h = refl
filter_all p (x ∷ xs) h = keep_head (p x) x (filter p xs) xs (All-head (λ y. p y ≡ true) x xs h) (filter_all p xs (All-tail (λ y. p y ≡ true) x xs h))

drop_head : {X : Type 0} (b : Bool) (x : X) (ys : List X) → b ≡ false → ys ≡ [] → cond b (x ∷ ys) ys ≡ []
drop_head true x ys e h = cc
drop_head false x ys e h = h

-- a filter that no element passes keeps nothing
pub filter_none : {X : Type 0} (p : X → Bool) (xs : List X) → All (λ x. p x ≡ false) xs → filter p xs ≡ []
filter_none p [] h = refl
filter_none p (x ∷ xs) h = drop_head (p x) x (filter p xs) (All-head (λ y. p y ≡ false) x xs h) (filter_none p xs (All-tail (λ y. p y ≡ false) x xs h))

pub not_true : (b : Bool) → not b ≡ true → b ≡ false
not_true true h = cc
not_true false h = refl

pub not_false : (b : Bool) → b ≡ false → not b ≡ true
not_false true h = cc
not_false false h = refl

pub and_false : (b : Bool) → (b && false) ≡ false
and_false true = refl
and_false false = refl

-- what a filter by the opposite keeps doesn't pass
pub fails_after : {X : Type 0} (p : X → Bool) (xs : List X) → All (λ x. p x ≡ false) (filter (λ x. not (p x)) xs)
fails_after p xs = All-weaker (λ x. not (p x) ≡ true) (λ x. p x ≡ false) (λ x h. not_true (p x) h) (filter (λ x. not (p x)) xs)
    (filter_passes (λ x. not (p x)) xs)

-- where none passes, all pass the opposite
pub passes_opposite : {X : Type 0} (p : X → Bool) (xs : List X) → All (λ x. p x ≡ false) xs → All (λ x. not (p x) ≡ true) xs
passes_opposite p xs h = All-weaker (λ x. p x ≡ false) (λ x. not (p x) ≡ true) (λ x e. not_false (p x) e) xs h

-- what holds of both choices holds of the choice
pub of_choice : {X : Type 0} (T : X → Type 0) (b : Bool) (x y : X) → (b ≡ true → T x) → (b ≡ false → T y) → T (cond b x y)
of_choice T true x y h k = h refl
of_choice T false x y h k = k refl

-- what holds of everything holds of each element
pub all_of : {X : Type 0} (P : X → Type 0) (xs : List X) → ((x : X) → P x) → All P xs
all_of P xs h = λ k d l. h (get_or xs k d)
