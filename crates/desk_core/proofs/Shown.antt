-- The accounts and the groups that are shown.
use Rattle.std.proofs.Common.{◌≡◌, ◌∙◌, ℕ, zero, suc, ◌+◌, ◌<◌, ◌≤◌, refl, ap, sym, subst, Bool, true, false, List, [], ◌∷◌, ◌++◌, length}
use Rattle.std.proofs.Common.{length-append, Contains, map, take, get_or, slice_get, Some, None, arith}
use Rattle.std.specs.List.{AllZip, find, zip}
use Rattle.std.proofs.lemmas.Bool.{eqb-true}
use Rattle.std.proofs.lemmas.List.{map-append, take_more, take_all}
use Rattle.std.proofs.lemmas.List.Elements.{Contains-get_or}
use Rattle.std.proofs.lemmas.Option.{slice_get_within, get_or_from_slice_get, same_Some}
use Rattle.plan_base.specs.declared.number.GroupNo.{GroupNo}
use Rattle.desk_runs.specs.declared.group.Group.{Group}
use Rattle.desk_runs.specs.Numbers.{is_group}
use Rattle.desk_runs.proofs.Places.{IsCountedFrom, counted_tail, counted_head}
use Rattle.desk_core.specs.declared.desk.Submitted.{Submitted}

-- ---- a list as far as it was made

-- one more
pub more_made : {X Y : Type 0} (f : X → Y) (xs : List X) (ys : List Y) (x : X) → ys ≡ map f (take (length ys) xs) → slice_get xs (length ys) ≡ Some x
    → ys ++ f x ∷ [] ≡ map f (take (length ys + 1) xs)
more_made f xs ys x made at =
    let within : length ys < length xs = slice_get_within xs (length ys) x at in
    ap (λ l. l ++ f x ∷ []) made
    ∙ sym (map-append f (take (length ys) xs) (x ∷ []))
    ∙ ap (map f) (ap (λ y. take (length ys) xs ++ y ∷ []) (sym (get_or_from_slice_get xs (length ys) x x at)) ∙ sym (take_more xs (length ys) x within))

-- the element at a place is one
pub slice_contains : {X : Type 0} (xs : List X) (n : ℕ) (x : X) → slice_get xs n ≡ Some x → Contains xs x
slice_contains xs n x at = subst (Contains xs) (get_or_from_slice_get xs n x x at) (Contains-get_or xs n x (slice_get_within xs n x at))

-- one more was pushed
pub next_made : {X Y : Type 0} (f : X → Y) (xs : List X) (ys zs : List Y) (x : X) (y : Y) (n : ℕ) → ys ≡ map f (take (length ys) xs) → n ≡ length ys
    → Some x ≡ slice_get xs n → y ≡ f x → zs ≡ ys ++ y ∷ []
    → zs ≡ map f (take (length zs) xs)
next_made f xs ys zs x y n made count at is pushed =
    let all : zs ≡ ys ++ f x ∷ [] = pushed ∙ ap (λ v. ys ++ v ∷ []) is in
    all ∙ more_made f xs ys x made (ap (slice_get xs) (sym count) ∙ sym at) ∙ ap (λ k. map f (take k xs)) (sym (ap length all ∙ length-append ys (f x ∷ [])))

-- all of it
pub all_made : {X Y : Type 0} (f : X → Y) (xs : List X) (ys : List Y) → ys ≡ map f (take (length ys) xs) → slice_get xs (length ys) ≡ None → ys ≡ map f xs
all_made f xs ys made none = made ∙ ap (map f) (take_all (length ys) xs (past (length ys) xs none))
  where
    past : {X : Type 0} (n : ℕ) (xs : List X) → slice_get xs n ≡ None → length xs ≤ n
    past n [] none = omega arith
    past zero (x ∷ xs) none = absurd (cc)
    past (suc n) (x ∷ xs) none = let le : length xs ≤ n = past n xs none in omega arith

-- ---- a group by its number

-- the group that has the number, with what was submitted at its place
pub record IsFound (b : ℕ) (n : GroupNo) (ws : List Submitted) (gs : List Group) (g : Group) : Type 0 where
  pub place : ℕ
  pub at : n.0 ≡ b + place + 1
  pub within : place < length ws
  pub number : g.number ≡ n
  pub found : (w : Submitted) → find (λ p. is_group n p.1) (zip ws gs) ≡ Some (get_or ws place w, g)

pub found_at : (b : ℕ) (n : GroupNo) (ws : List Submitted) (gs : List Group) (g : Group) → length ws ≡ length gs
    → IsCountedFrom b (map (λ x. x.number.0) gs) → find (is_group n) gs ≡ Some g → IsFound b n ws gs g
found_at b n [] [] g same counted is = absurd (cc)
found_at b n [] (x ∷ gs) g same counted is = absurd (omega arith)
found_at b n (w ∷ ws) [] g same counted is = absurd (omega arith)
found_at b n (w ∷ ws) (x ∷ gs) g same counted is =
    by (is_group n x) refl (found_at (b + 1) n ws gs g (omega arith) (counted_tail b x.number.0 (map (λ y. y.number.0) gs) counted))
  where
    by : (c : Bool) → is_group n x ≡ c → (find (is_group n) gs ≡ Some g → IsFound (b + 1) n ws gs g) → IsFound b n (w ∷ ws) (x ∷ gs) g
    by true e rest =
        let here : x ≡ g = same_Some x g (rw e at is) in
        let number : x.number.0 ≡ n.0 = eqb-true x.number.0 n.0 e in
        let first : x.number.0 ≡ b + 1 = counted_head b x.number.0 (map (λ y. y.number.0) gs) counted in
        record {
          place = 0;
          at = omega (arith, number, first);
          within = omega arith;
          number = subst (λ y. y.number ≡ n) here (λ j. record { 0 = number j });
          found = λ d. rw e (ap (λ y. Some (w, y)) here);
        }
    by false e rest =
        let later = rest (rw e at is) in
        let place : n.0 ≡ b + 1 + later.place + 1 = later.at in
        let within : later.place < length ws = later.within in
        record { place = suc later.place; at = omega (arith, place); within = omega (arith, within); number = later.number; found = λ d. rw e (later.found d) }

-- no group has it
pub not_found : (n : GroupNo) (ws : List Submitted) (gs : List Group) → find (is_group n) gs ≡ None → find (λ p. is_group n p.1) (zip ws gs) ≡ None
not_found n [] gs is = refl
not_found n (w ∷ ws) [] is = refl
not_found n (w ∷ ws) (x ∷ gs) is = by (is_group n x) refl (not_found n ws gs)
  where
    by : (c : Bool) → is_group n x ≡ c → (find (is_group n) gs ≡ None → find (λ p. is_group n p.1) (zip ws gs) ≡ None)
        → find (λ p. is_group n p.1) (zip (w ∷ ws) (x ∷ gs)) ≡ None
    by true e rest = let none = rw e at is in absurd (cc)
    by false e rest = rw e (rest (rw e at is))

-- a list that was copied is the same
pub copied : {X : Type 0} (xs ys : List X) → AllZip (λ x y. y ≡ x) xs ys → ys ≡ xs
copied [] [] h = refl
copied [] (y ∷ ys) h = absurd h
copied (x ∷ xs) [] h = absurd h
copied (x ∷ xs) (y ∷ ys) h = λ j. h.0 j ∷ copied xs ys h.1 j
