-- Lists: what a filter and a map keep, and that numbers no two of which are equal are no more than those among which they are.
use Rattle.std.proofs.Common.{◌≡◌, ◌≢◌, ℕ, zero, suc, ◌<◌, ◌≤◌, Bool, true, false, cond, List, [], ◌∷◌, length, map, filter, All, AllPairs, Contains}
use Rattle.std.proofs.Common.{refl, ◌∙◌, ap, arith}
use Rattle.std.specs.List.{IsDistinct, flat_map}
use Rattle.std.specs.Prelude.{nat_eq}
use Rattle.std.proofs.lemmas.Bool.Decides.{Decides-eqb}
use Rattle.std.proofs.lemmas.Cmp.{nat_eq_equiv}
use Rattle.std.proofs.lemmas.List.{length-map, get_or-map}
use Rattle.std.proofs.lemmas.List.Elements.{All-head, All-tail, All-nil, All-append, All-map, All-contains}
use Rattle.std.proofs.lemmas.List.Kept.{AllPairs-cons}
use Rattle.std.proofs.lemmas.Map.Made.{IsDistinct-from_AllPairs, is_member-Decides, length-le_from_is_member}
use Rattle.std.proofs.lemmas.Map.Steps.{length-le_from_distinct_below}
use Rattle.plan_base.proofs.Orders.{contains_rest, pairs_head, pairs_tail}

within_step : {X : Type 0} (q : X → Bool) (b : Bool) (x : X) (ys zs : List X) → (q x ≡ true → b ≡ true) → filter q ys ≡ zs
    → filter q (cond b (x ∷ ys) ys) ≡ cond (q x) (x ∷ zs) zs
within_step q true x ys zs h e = ap (λ (l : List _). cond (q x) (x ∷ l) l) e
within_step q false x ys zs h e = elim (q x) as (λ v. (v ≡ true → false ≡ true) → filter q ys ≡ cond v (x ∷ zs) zs)
    [ true ↦ λ g. let bad : false ≡ true = g refl in cc | false ↦ λ g. e ] h

-- a filter within another that keeps all that it keeps
pub filter_within : {X : Type 0} (p q : X → Bool) (xs : List X) → ((x : X) → q x ≡ true → p x ≡ true) → filter q (filter p xs) ≡ filter q xs
filter_within p q [] h = refl
filter_within p q (x ∷ xs) h = within_step q (p x) x (filter p xs) (filter q xs) (h x) (filter_within p q xs h)

keeps_first : {X : Type 0} (b : Bool) (x y : X) (ys : List X) → y ≡ x → b ≡ true → Contains (cond b (y ∷ ys) ys) x
keeps_first true x y ys e h = (0, omega arith, e)
keeps_first false x y ys e h = cc

keeps_rest : {X : Type 0} (b : Bool) (x y : X) (ys : List X) → Contains ys x → Contains (cond b (y ∷ ys) ys) x
keeps_rest true x y ys c = contains_rest y x ys c
keeps_rest false x y ys c = c

-- a filter keeps what passes
pub contains_filter : {X : Type 0} (p : X → Bool) (xs : List X) (x : X) → Contains xs x → p x ≡ true → Contains (filter p xs) x
contains_filter p [] x (k, l, e) h = absurd (omega arith)
contains_filter p (y ∷ xs) x (zero, l, e) h = keeps_first (p y) x y (filter p xs) e (ap p e ∙ h)
contains_filter p (y ∷ xs) x (suc k, l, e) h = keeps_rest (p y) x y (filter p xs) (contains_filter p xs x (k, omega arith, e) h)

-- a map of a list has what it gives of each element
pub contains_map : {X Y : Type 0} (f : X → Y) (xs : List X) (x : X) → Contains xs x → Contains (map f xs) (f x)
contains_map f xs x (k, l, e) = let len : length (map f xs) ≡ length xs = length-map xs f in (k, omega arith, get_or-map f xs k x (f x) l ∙ ap f e)

-- what holds of each two in a list holds of each two in a map of it
pub AllPairs-map : {X Y : Type 0} (R : Y → Y → Type 0) (f : X → Y) (xs : List X) → AllPairs (λ a b. R (f a) (f b)) xs → AllPairs R (map f xs)
AllPairs-map R f [] h = λ i j d l m. absurd (omega arith)
AllPairs-map R f (x ∷ xs) h =
    AllPairs-cons R (f x) (map f xs) (All-map (R (f x)) f xs (pairs_head (λ a b. R (f a) (f b)) x xs h))
    (AllPairs-map R f xs (pairs_tail (λ a b. R (f a) (f b)) x xs h))

is_distinct : (xs : List ℕ) → AllPairs (λ a b. a ≢ b) xs → IsDistinct nat_eq xs
is_distinct xs h = IsDistinct-from_AllPairs {eq = nat_eq} Decides-eqb xs h

-- numbers no two of which are equal, each of them one of ys, are at most as many as ys
pub length_among : (xs ys : List ℕ) → AllPairs (λ a b. a ≢ b) xs → All (Contains ys) xs → length xs ≤ length ys
length_among xs ys once h =
    length-le_from_is_member nat_eq_equiv xs ys (is_distinct xs once)
    (λ q m. (is_member-Decides {eq = nat_eq} Decides-eqb ys q).1 (All-contains (Contains ys) xs q h ((is_member-Decides {eq = nat_eq} Decides-eqb xs q).0 m)))

-- numbers below n no two of which are equal are at most n
pub length_below : (xs : List ℕ) (n : ℕ) → AllPairs (λ a b. a ≢ b) xs → All (λ x. x < n) xs → length xs ≤ n
length_below xs n once h =
    length-le_from_distinct_below xs n (is_distinct xs once)
    (λ q m. All-contains (λ x. x < n) xs q h ((is_member-Decides {eq = nat_eq} Decides-eqb xs q).0 m))

-- what holds of each element of each list holds of each of all of them, one list after another
pub all_flat : {X Y : Type 0} (P : Y → Type 0) (f : X → List Y) (xs : List X) → All (λ x. All P (f x)) xs → All P (flat_map f xs)
all_flat P f [] h = All-nil P
all_flat P f (x ∷ xs) h =
    All-append P (f x) (flat_map f xs) (All-head (λ y. All P (f y)) x xs h) (all_flat P f xs (All-tail (λ y. All P (f y)) x xs h))
