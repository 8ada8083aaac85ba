-- Sums of what a test keeps.
use Rattle.std.proofs.Common.{◌≡◌, ℕ, ◌+◌, ◌≤◌, Bool, true, false, not, cond, List, [], ◌∷◌, map, filter, sum_by, refl, sym, ◌∙◌, ap, arith}
use Rattle.std.proofs.lemmas.List.Sums.{sum_by-cons}

-- what f gives of those that pass
pub chosen : {X : Type 0} (p : X → Bool) (f : X → ℕ) (xs : List X) → sum_by f (filter p xs) ≡ sum_by (λ x. cond (p x) (f x) 0) xs
chosen p f [] = refl
chosen p f (x ∷ xs) =
    let rest : sum_by f (filter p xs) ≡ sum_by (λ y. cond (p y) (f y) 0) xs = chosen p f xs in
    let more : sum_by f (x ∷ filter p xs) ≡ f x + sum_by f (filter p xs) = sum_by-cons f x (filter p xs) in
    let here : sum_by (λ y. cond (p y) (f y) 0) (x ∷ xs) ≡ cond (p x) (f x) 0 + sum_by (λ y. cond (p y) (f y) 0) xs =
    sum_by-cons (λ y. cond (p y) (f y) 0) x xs in
    (elim (p x) as (λ b. sum_by f (cond b (x ∷ filter p xs) (filter p xs)) ≡ cond b (f x) 0 + sum_by (λ y. cond (p y) (f y) 0) xs)
    [ true ↦ omega arith | false ↦ omega arith ]) ∙ sym here

pub part_of : (b : Bool) (n : ℕ) → cond b n 0 ≤ n
part_of true n = omega arith
part_of false n = omega arith

pub other_part : (b : Bool) (n : ℕ) → cond (not b) n 0 ≤ n
other_part true n = omega arith
other_part false n = omega arith

pub sum_of_map : {X Y : Type 0} (f : Y → ℕ) (g : X → Y) (xs : List X) → sum_by f (map g xs) ≡ sum_by (λ x. f (g x)) xs
sum_of_map f g [] = refl
sum_of_map f g (x ∷ xs) =
    let left : sum_by f (g x ∷ map g xs) ≡ f (g x) + sum_by f (map g xs) = sum_by-cons f (g x) (map g xs) in
    let right : sum_by (λ y. f (g y)) (x ∷ xs) ≡ f (g x) + sum_by (λ y. f (g y)) xs = sum_by-cons (λ y. f (g y)) x xs in
    let rest : sum_by f (map g xs) ≡ sum_by (λ y. f (g y)) xs = sum_of_map f g xs in
    omega arith

-- a filter of a map is a map of a filter
pub filter_of_map : {X Y : Type 0} (p : Y → Bool) (g : X → Y) (xs : List X) → filter p (map g xs) ≡ map g (filter (λ x. p (g x)) xs)
filter_of_map p g [] = refl
filter_of_map {X} {Y} p g (x ∷ xs) =
    let rest : filter p (map g xs) ≡ map g (filter (λ y. p (g y)) xs) = filter_of_map p g xs in
    elim (p (g x)) as (λ b. cond b (g x ∷ filter p (map g xs)) (filter p (map g xs)) ≡ map g (cond b (x ∷ filter (λ y. p (g y)) xs) (filter (λ y. p (g y)) xs)))
    [ true ↦ ap (λ (l : List Y). g x ∷ l) rest | false ↦ rest ]
