-- Lists as the snapshot is made of them: zips, parts of parts, sums, and numbers in rising order.
use Rattle.std.proofs.Common.{◌≡◌, ℕ, suc, ◌+◌, ◌<◌, ◌≤◌, Bool, true, false, cond, not, List, [], ◌∷◌, ◌++◌, length, length-append, slice_index_or, refl, ap}
use Rattle.std.proofs.Common.{arith, nat_lt, Option, Some, None}
use Rattle.std.specs.Prelude.{◌==◌}
use Rattle.std.specs.List.{zip, flat_map, filter, filter_map, cons_option, fold, sum_by, count_by, AllZip, All, AllPairs, enumerate_from, range_with_len}
use Rattle.std.specs.Ordering.{nat_cmp, match_ordering}
use Rattle.std.specs.declared.cmp.Ordering.TheVariants.{Less, Equal, Greater}
use Rattle.std.specs.BTreeSet.{insert_key}
use Rattle.std.proofs.lemmas.Bool.Decides.{nat_tests}
use Rattle.std.proofs.lemmas.List.Elements.{All-nil, All-cons, All-head, All-tail, All-weaker, All-append}
use Rattle.std.proofs.lemmas.List.Kept.{AllPairs-cons}
use Rattle.std.proofs.lemmas.List.Sums.{sum_by-cons, sum_by-append}
use Rattle.std.proofs.lemmas.List.Filters.{sum_by-filter_both}
use Rattle.std.proofs.lemmas.List.FromFn.{length-enumerate_from, get_or-enumerate_from, length-range_with_len, get_or-range_with_len}
use Rattle.std.proofs.lemmas.Map.Views.{All-insert_key}
use Rattle.plan_base.proofs.Orders.{pairs_head, pairs_tail}

-- ---- zips

-- what holds place by place holds of each pair
pub all_zip : {A B : Type 0} (R : A → B → Type 0) (xs : List A) (ys : List B) → AllZip R xs ys → All (λ p. R p.0 p.1) (zip xs ys)
all_zip R [] [] h = All-nil (λ p. R p.0 p.1)
all_zip R [] (y ∷ ys) h = absurd h
all_zip R (x ∷ xs) [] h = absurd h
all_zip R (x ∷ xs) (y ∷ ys) h = All-cons (λ p. R p.0 p.1) (x, y) (zip xs ys) h.0 (all_zip R xs ys h.1)

-- what holds of each of the second list holds of each second part
pub all_seconds : {A B : Type 0} (P : B → Type 0) (xs : List A) (ys : List B) → All P ys → All (λ p. P p.1) (zip xs ys)
all_seconds P [] ys h = All-nil (λ p. P p.1)
all_seconds P (x ∷ xs) [] h = All-nil (λ p. P p.1)
all_seconds P (x ∷ xs) (y ∷ ys) h = All-cons (λ p. P p.1) (x, y) (zip xs ys) (All-head P y ys h) (all_seconds P xs ys (All-tail P y ys h))

pub all_firsts : {A B : Type 0} (P : A → Type 0) (xs : List A) (ys : List B) → All P xs → All (λ p. P p.0) (zip xs ys)
all_firsts P [] ys h = All-nil (λ p. P p.0)
all_firsts P (x ∷ xs) [] h = All-nil (λ p. P p.0)
all_firsts P (x ∷ xs) (y ∷ ys) h = All-cons (λ p. P p.0) (x, y) (zip xs ys) (All-head P x xs h) (all_firsts P xs ys (All-tail P x xs h))

pub pairs_seconds : {A B : Type 0} (R : B → B → Type 0) (xs : List A) (ys : List B) → AllPairs R ys → AllPairs (λ p q. R p.1 q.1) (zip xs ys)
pairs_seconds R [] ys h = λ i j d l m. absurd (omega arith)
pairs_seconds R (x ∷ xs) [] h = λ i j d l m. absurd (omega arith)
pairs_seconds R (x ∷ xs) (y ∷ ys) h =
    AllPairs-cons (λ p q. R p.1 q.1) (x, y) (zip xs ys) (all_seconds (R y) xs ys (pairs_head R y ys h)) (pairs_seconds R xs ys (pairs_tail R y ys h))

pub pairs_firsts : {A B : Type 0} (R : A → A → Type 0) (xs : List A) (ys : List B) → AllPairs R xs → AllPairs (λ p q. R p.0 q.0) (zip xs ys)
pairs_firsts R [] ys h = λ i j d l m. absurd (omega arith)
pairs_firsts R (x ∷ xs) [] h = λ i j d l m. absurd (omega arith)
pairs_firsts R (x ∷ xs) (y ∷ ys) h =
    AllPairs-cons (λ p q. R p.0 q.0) (x, y) (zip xs ys) (all_firsts (R x) xs ys (pairs_head R x xs h)) (pairs_firsts R xs ys (pairs_tail R x xs h))

pub length_zip : {A B : Type 0} (xs : List A) (ys : List B) → length (zip xs ys) ≤ length xs
length_zip [] ys = omega arith
length_zip (x ∷ xs) [] = omega arith
length_zip (x ∷ xs) (y ∷ ys) = omega (arith, length_zip xs ys)

-- ---- lists one after another

pub pairs_append : {X : Type 0} (R : X → X → Type 0) (xs ys : List X) → AllPairs R xs → AllPairs R ys → All (λ x. All (R x) ys) xs → AllPairs R (xs ++ ys)
pairs_append R [] ys left right across = right
pairs_append R (x ∷ xs) ys left right across =
    AllPairs-cons R x (xs ++ ys) (All-append (R x) xs ys (pairs_head R x xs left) (All-head (λ y. All (R y) ys) x xs across))
    (pairs_append R xs ys (pairs_tail R x xs left) right (All-tail (λ y. All (R y) ys) x xs across))

pub all_right : {X : Type 0} (P : X → Type 0) (xs ys : List X) → All P (xs ++ ys) → All P ys
all_right P [] ys h = h
all_right P (x ∷ xs) ys h = all_right P xs ys (All-tail P x (xs ++ ys) h)

pub all_left : {X : Type 0} (P : X → Type 0) (xs ys : List X) → All P (xs ++ ys) → All P xs
all_left P [] ys h = All-nil P
all_left P (x ∷ xs) ys h = All-cons P x xs (All-head P x (xs ++ ys) h) (all_left P xs ys (All-tail P x (xs ++ ys) h))

-- what holds of each pair of joined lists holds across them
pub across : {X : Type 0} (R : X → X → Type 0) (xs ys : List X) → AllPairs R (xs ++ ys) → All (λ x. All (R x) ys) xs
across R [] ys h = All-nil (λ x. All (R x) ys)
across R (x ∷ xs) ys h =
    All-cons (λ y. All (R y) ys) x xs (all_right (R x) xs ys (pairs_head R x (xs ++ ys) h)) (across R xs ys (pairs_tail R x (xs ++ ys) h))

pub length_flat : {X Y : Type 0} (f : X → List Y) (xs : List X) → length (flat_map f xs) ≡ sum_by (λ x. length (f x)) xs
length_flat f [] = refl
length_flat f (x ∷ xs) = omega (arith, length-append (f x) (flat_map f xs), length_flat f xs, sum_by-cons (λ y. length (f y)) x xs)

-- ---- sums

pub count_flat : {X Y : Type 0} (p : Y → Bool) (f : X → List Y) (xs : List X) → count_by p (flat_map f xs) ≡ sum_by (λ x. count_by p (f x)) xs
count_flat p f [] = refl
count_flat p f (x ∷ xs) =
    omega (arith, sum_by-append (λ y. cond (p y) 1 0) (f x) (flat_map f xs), count_flat p f xs, sum_by-cons (λ y. count_by p (f y)) x xs)

-- a part has no greater sum
pub less_filtered : {X : Type 0} (f : X → ℕ) (p : X → Bool) (xs : List X) → sum_by f (filter p xs) ≤ sum_by f xs
less_filtered f p xs = omega (arith, sum_by-filter_both p (λ x. not (p x)) (λ x. refl) f xs)

pub less_each : {X : Type 0} (f g : X → ℕ) (xs : List X) → All (λ x. f x ≤ g x) xs → sum_by f xs ≤ sum_by g xs
less_each f g [] h = omega arith
less_each f g (x ∷ xs) h =
    omega (arith, sum_by-cons f x xs, sum_by-cons g x xs, All-head (λ y. f y ≤ g y) x xs h, less_each f g xs (All-tail (λ y. f y ≤ g y) x xs h))

pub less_seconds : {A B : Type 0} (f : B → ℕ) (xs : List A) (ys : List B) → sum_by (λ p. f p.1) (zip xs ys) ≤ sum_by f ys
less_seconds f [] ys = omega arith
less_seconds f (x ∷ xs) [] = omega arith
less_seconds {A = A} {B = B} f (x ∷ xs) (y ∷ ys) =
    let tail : List (A × B) = zip xs ys in
    omega (arith, sum_by-cons (λ p. f p.1) (x, y) tail, sum_by-cons f y ys, less_seconds f xs ys)

-- there are no more elements than the sum of numbers above 0
pub no_more : {X : Type 0} (f : X → ℕ) (xs : List X) → All (λ x. 1 ≤ f x) xs → length xs ≤ sum_by f xs
no_more f [] h = omega arith
no_more f (x ∷ xs) h = omega (arith, sum_by-cons f x xs, All-head (λ y. 1 ≤ f y) x xs h, no_more f xs (All-tail (λ y. 1 ≤ f y) x xs h))

-- ---- numbers in rising order

abbrev pub Rise : List ℕ → Type 0
Rise ns = AllPairs (λ a b. a < b) ns

rise_more : (n x : ℕ) (xs : List ℕ) → Rise (x ∷ xs) → Rise (insert_key nat_cmp xs n) → (a b : Bool) → a ≡ nat_lt n x → b ≡ (n == x)
    → Rise (match_ordering (cond a Less (cond b Equal Greater)) (n ∷ x ∷ xs) (x ∷ xs) (x ∷ insert_key nat_cmp xs n))
rise_more n x xs h rest true b before same =
    let lt : n < x = grind (arith, nat_tests) in
    AllPairs-cons (λ a b. a < b) n (x ∷ xs)
    (All-cons (λ m. n < m) x xs lt (All-weaker (λ m. x < m) (λ m. n < m) (λ m l. omega arith) xs (pairs_head (λ a b. a < b) x xs h))) h
rise_more n x xs h rest false true before same = h
rise_more n x xs h rest false false before same =
    let lt : x < n = grind (arith, nat_tests) in
    AllPairs-cons (λ a b. a < b) x (insert_key nat_cmp xs n) (All-insert_key nat_cmp n (λ m. x < m) xs (pairs_head (λ a b. a < b) x xs h) lt) rest

pub rise_insert : (n : ℕ) (xs : List ℕ) → Rise xs → Rise (insert_key nat_cmp xs n)
rise_insert n [] h = AllPairs-cons (λ a b. a < b) n [] (All-nil (λ m. n < m)) h
rise_insert n (x ∷ xs) h = rise_more n x xs h (rise_insert n xs (pairs_tail (λ a b. a < b) x xs h)) (nat_lt n x) (n == x) refl refl

-- numbers as a set rise
pub rise_all : (ns xs : List ℕ) → Rise xs → Rise (fold (insert_key nat_cmp) xs ns)
rise_all [] xs h = h
rise_all (n ∷ ns) xs h = rise_all ns (insert_key nat_cmp xs n) (rise_insert n xs h)

-- .. and are those that were put in
pub all_inserted : (P : ℕ → Type 0) (ns xs : List ℕ) → All P xs → All P ns → All P (fold (insert_key nat_cmp) xs ns)
all_inserted P [] xs old new = old
all_inserted P (n ∷ ns) xs old new =
    all_inserted P ns (insert_key nat_cmp xs n) (All-insert_key nat_cmp n P xs old (All-head P n ns new)) (All-tail P n ns new)

-- the places of a list
pub places_below : {X : Type 0} (xs : List X) → All (λ p. p.0 < length xs) (enumerate_from 0 xs)
places_below xs k d lt =
    let in_range : k < length xs = omega (arith, length-enumerate_from 0 xs) in
    let place : (slice_index_or (enumerate_from 0 xs) k d).0 ≡ 0 + k = ap (λ p. p.0) (get_or-enumerate_from 0 xs k d in_range) in
    omega arith

pub places_rise : {X : Type 0} (xs : List X) → AllPairs (λ p q. p.0 < q.0) (enumerate_from 0 xs)
places_rise xs i j d lt in_range =
    let second : j < length xs = omega (arith, length-enumerate_from 0 xs) in
    let one : (slice_index_or (enumerate_from 0 xs) i d).0 ≡ 0 + i = ap (λ p. p.0) (get_or-enumerate_from 0 xs i d (omega arith)) in
    let other : (slice_index_or (enumerate_from 0 xs) j d).0 ≡ 0 + j = ap (λ p. p.0) (get_or-enumerate_from 0 xs j d second) in
    omega arith

pub range_below : (n : ℕ) → All (λ k. k < n) (range_with_len 0 n)
range_below n k d lt = omega (arith, length-range_with_len 0 n, get_or-range_with_len 0 n k d (omega (arith, length-range_with_len 0 n)))

pub range_rises : (n : ℕ) → Rise (range_with_len 0 n)
range_rises n i j d lt in_range =
    let second : j < n = omega (arith, length-range_with_len 0 n) in
    omega (arith, get_or-range_with_len 0 n i d (omega arith), get_or-range_with_len 0 n j d second)

-- ---- what is made of some elements

length_one : {Y : Type 0} (o : Option Y) (ys : List Y) (n : ℕ) → length ys ≤ n → length (cons_option o ys) ≤ suc n
length_one None ys n le = omega arith
length_one (Some y) ys n le = omega arith

pub length_some : {X Y : Type 0} (f : X → Option Y) (xs : List X) → length (filter_map f xs) ≤ length xs
length_some f [] = omega arith
length_some f (x ∷ xs) = length_one (f x) (filter_map f xs) (length xs) (length_some f xs)

all_one : {Y : Type 0} (P : Y → Type 0) (o : Option Y) (ys : List Y) → ((y : Y) → o ≡ Some y → P y) → All P ys → All P (cons_option o ys)
all_one P None ys h rest = rest
all_one P (Some y) ys h rest = All-cons P y ys (h y refl) rest

-- what holds of what is made of each
pub all_some : {X Y : Type 0} (f : X → Option Y) (Q : X → Type 0) (P : Y → Type 0) → ((x : X) (y : Y) → Q x → f x ≡ Some y → P y) → (xs : List X) → All Q xs
    → All P (filter_map f xs)
all_some f Q P h [] all = All-nil P
all_some f Q P h (x ∷ xs) all = all_one P (f x) (filter_map f xs) (λ y e. h x y (All-head Q x xs all) e) (all_some f Q P h xs (All-tail Q x xs all))

pairs_one : {Y : Type 0} (R : Y → Y → Type 0) (o : Option Y) (ys : List Y) → ((y : Y) → o ≡ Some y → All (R y) ys) → AllPairs R ys
    → AllPairs R (cons_option o ys)
pairs_one R None ys h rest = rest
pairs_one R (Some y) ys h rest = AllPairs-cons R y ys (h y refl) rest

-- .. and of each pair
pub pairs_some : {X Y : Type 0} (f : X → Option Y) (S : X → X → Type 0) (R : Y → Y → Type 0)
    → ((x z : X) (y w : Y) → S x z → f x ≡ Some y → f z ≡ Some w → R y w)
    → (xs : List X) → AllPairs S xs → AllPairs R (filter_map f xs)
pairs_some f S R h [] pairs = λ i j d l m. absurd (omega arith)
pairs_some f S R h (x ∷ xs) pairs =
    pairs_one R (f x) (filter_map f xs) (λ y e. all_some f (S x) (R y) (λ z w s g. h x z y w s e g) xs (pairs_head S x xs pairs))
    (pairs_some f S R h xs (pairs_tail S x xs pairs))
