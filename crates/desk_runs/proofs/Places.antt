-- Groups and requests at the places of their numbers.
use Rattle.std.proofs.Common.{◌≡◌, ◌≢◌, ℕ, zero, suc, ◌+◌, ◌-◌, ◌<◌, ◌≤◌, ◌==◌, Bool, true, false, cond, List, [], ◌∷◌, ◌++◌, length, map, filter, All}
use Rattle.std.proofs.Common.{get_or, refl, sym, ◌∙◌, ap, subst, arith, inl, inr, Option, Some, None, MatchOption}
use Rattle.std.specs.List.{slice_get, list_any, fold}
use Rattle.std.proofs.lemmas.Bool.{cases_lt, eqb-true, eq-eqb, false_from_ne_true}
use Rattle.std.proofs.lemmas.List.{append_assoc, length-map, length_push, get_or-map, get_or_default, get_or_append_left, get_or-append_right}
use Rattle.std.proofs.lemmas.List.{get_or-append-add, map-append, set_at, length-append}
use Rattle.std.proofs.lemmas.List.Elements.{All-filter}
use Rattle.std.proofs.lemmas.List.Folds.{map_fixed, list_any_at, list_any_none}
use Rattle.plan_base.specs.declared.number.GroupNo.{GroupNo}
use Rattle.plan_base.specs.declared.number.RequestNo.{RequestNo}
use Rattle.desk_runs.specs.declared.group.Group.{Group}
use Rattle.desk_runs.specs.declared.group.Request.{Request}
use Rattle.plan_base.specs.declared.state.RequestState.TheVariants.{Pending}
use Rattle.desk_runs.specs.States.{is_open}
use Rattle.desk_runs.specs.Numbers.{requests_of, is_request, has_request, group_at, group_with}
use Rattle.desk_runs.specs.Turning.{no_group, group_of, groups_of}
use Rattle.desk_runs.specs.Changes.{put}
use Rattle.desk_runs.specs.Sound.{IsCounted}
use Rattle.desk_runs.specs.Owners.{owners_from}

-- the numbers go on from b
abbrev pub IsCountedFrom : ℕ → List ℕ → Type 0
IsCountedFrom b numbers = (i : ℕ) → i < length numbers → get_or numbers i 0 ≡ b + i + 1

pub counted_from : (xs : List ℕ) → IsCounted xs → IsCountedFrom 0 xs
counted_from xs h = λ i l. let e : get_or xs i 0 ≡ i + 1 = h i l in omega arith

pub counted_tail : (b x : ℕ) (xs : List ℕ) → IsCountedFrom b (x ∷ xs) → IsCountedFrom (b + 1) xs
counted_tail b x xs h = λ i l. let e : get_or xs i 0 ≡ b + suc i + 1 = h (suc i) (omega arith) in omega arith

pub counted_head : (b x : ℕ) (xs : List ℕ) → IsCountedFrom b (x ∷ xs) → x ≡ b + 1
counted_head b x xs h = let e : x ≡ b + 0 + 1 = h 0 (omega arith) in omega arith

-- the group at a place has the number after it
pub number_at : (gs : List Group) (k : ℕ) (d : Group) → IsCounted (map (λ g. g.number.0) gs) → k < length gs → (get_or gs k d).number.0 ≡ k + 1
number_at gs k d h l =
    let len : length (map (λ g. g.number.0) gs) ≡ length gs = length-map gs (λ g. g.number.0) in
    sym (get_or-map (λ g. g.number.0) gs k d 0 l) ∙ h k (omega arith)

-- each group stands at the place of its number
pub stands : (gs : List Group) → IsCounted (map (λ g. g.number.0) gs) → All (λ g. group_of gs g.number ≡ g) gs
stands gs h = λ k d l.
    let e : (get_or gs k d).number.0 ≡ k + 1 = number_at gs k d h l in
    let place : (get_or gs k d).number.0 - 1 ≡ k = omega arith in
    ap (λ (i : ℕ). get_or gs i no_group) place ∙ get_or_default gs k no_group d l

map_map : {X Y Z : Type 0} (f : X → Y) (h : Y → Z) (xs : List X) → map h (map f xs) ≡ map (λ x. h (f x)) xs
map_map f h [] = refl
map_map f h (x ∷ xs) = ap (λ (l : List _). h (f x) ∷ l) (map_map f h xs)

-- the groups with the numbers of the open groups are the open groups
pub opened_groups : (gs : List Group) → IsCounted (map (λ g. g.number.0) gs) → groups_of gs (map (λ g. g.number) (filter is_open gs)) ≡ filter is_open gs
opened_groups gs h =
    map_map (λ g. g.number) (group_of gs) (filter is_open gs)
    ∙ map_fixed (λ g. group_of gs g.number) (filter is_open gs) (All-filter is_open (λ g. group_of gs g.number ≡ g) gs (stands gs h))

-- ---- a group by its number

find_step : {X : Type 0} (b : Bool) (x : X) (o p : Option X) → b ≡ false → o ≡ p → cond b (Some x) o ≡ p
find_step true x o p e h = cc
find_step false x o p e h = h

find_first : {X : Type 0} (b : Bool) (x : X) (o : Option X) → b ≡ true → cond b (Some x) o ≡ Some x
find_first true x o e = refl
find_first false x o e = cc

pub differs : (a b : ℕ) → a ≢ b → (a == b) ≡ false
differs a b h = false_from_ne_true (a == b) (λ e. h (eqb-true a b e))

pub found_from : (b : ℕ) (gs : List Group) (n : GroupNo) (i : ℕ) → IsCountedFrom b (map (λ g. g.number.0) gs) → n.0 ≡ b + i + 1 → group_at gs n ≡ slice_get gs i
found_from b [] n i h e = refl
found_from b (g ∷ gs) n zero h e =
    let first : g.number.0 ≡ b + 1 = counted_head b g.number.0 (map (λ g. g.number.0) gs) h in
    let same : g.number.0 ≡ n.0 = omega arith in
    find_first (g.number.0 == n.0) g (group_at gs n) (eq-eqb g.number.0 n.0 same)
found_from b (g ∷ gs) n (suc i) h e =
    let first : g.number.0 ≡ b + 1 = counted_head b g.number.0 (map (λ g. g.number.0) gs) h in
    let ne : g.number.0 ≢ n.0 = λ same. absurd (omega arith) in
    find_step (g.number.0 == n.0) g (group_at gs n) (slice_get gs i) (differs g.number.0 n.0 ne)
    (found_from (b + 1) gs n i (counted_tail b g.number.0 (map (λ g. g.number.0) gs) h) (omega arith))

pub found_none : (b : ℕ) (gs : List Group) (n : GroupNo) → IsCountedFrom b (map (λ g. g.number.0) gs) → n.0 ≤ b → group_at gs n ≡ None
found_none b [] n h e = refl
found_none b (g ∷ gs) n h e =
    let first : g.number.0 ≡ b + 1 = counted_head b g.number.0 (map (λ g. g.number.0) gs) h in
    let ne : g.number.0 ≢ n.0 = λ same. absurd (omega arith) in
    find_step (g.number.0 == n.0) g (group_at gs n) None (differs g.number.0 n.0 ne)
    (found_none (b + 1) gs n (counted_tail b g.number.0 (map (λ g. g.number.0) gs) h) (omega arith))

-- ---- groups put in their places

put_step : (b : Bool) (f : Group → Group) (ps xs ys : List Group) (x : Group) → (b ≡ false → f x ≡ x) → put (ps ++ x ∷ xs) (f x) ≡ ps ++ f x ∷ xs
    → (fold put (ps ++ f x ∷ xs) ys ≡ ps ++ f x ∷ map f xs) → fold put (ps ++ x ∷ xs) (map f (cond b (x ∷ []) []) ++ ys) ≡ ps ++ f x ∷ map f xs
put_step true f ps xs ys x same there rest = ap (λ (l : List Group). fold put l ys) there ∙ rest
put_step false f ps xs ys x same there rest = ap (λ (g : Group). fold put (ps ++ g ∷ xs) ys) (sym (same refl)) ∙ rest

filter_cons : (p : Group → Bool) (f : Group → Group) (x : Group) (xs : List Group)
    → map f (filter p (x ∷ xs)) ≡ map f (cond (p x) (x ∷ []) []) ++ map f (filter p xs)
filter_cons p f x xs = elim (p x) as (λ b. map f (cond b (x ∷ filter p xs) (filter p xs)) ≡ map f (cond b (x ∷ []) []) ++ map f (filter p xs))
    [ true ↦ refl | false ↦ refl ]

pub put_from : (p : Group → Bool) (f : Group → Group) (ps xs : List Group) → ((g : Group) → p g ≡ false → f g ≡ g) → ((g : Group) → (f g).number ≡ g.number)
    → IsCountedFrom (length ps) (map (λ g. g.number.0) xs) → fold put (ps ++ xs) (map f (filter p xs)) ≡ ps ++ map f xs
put_from p f ps [] same keeps h = refl
put_from p f ps (x ∷ xs) same keeps h =
    let first : x.number.0 ≡ length ps + 1 = counted_head (length ps) x.number.0 (map (λ g. g.number.0) xs) h in
    let number : (f x).number.0 ≡ x.number.0 = ap (λ n. n.0) (keeps x) in
    let place : length ps ≡ (f x).number.0 - 1 = omega arith in
    let there : put (ps ++ x ∷ xs) (f x) ≡ ps ++ f x ∷ xs = set_at ps x xs (f x) ((f x).number.0 - 1) place in
    let longer : length (ps ++ f x ∷ []) ≡ length ps + 1 = length_push ps (f x) in
    let tail : IsCountedFrom (length (ps ++ f x ∷ [])) (map (λ g. g.number.0) xs) =
    subst (λ (n : ℕ). IsCountedFrom n (map (λ g. g.number.0) xs)) (sym longer)
    (counted_tail (length ps) x.number.0 (map (λ g. g.number.0) xs) h) in
    let rest : fold put ((ps ++ f x ∷ []) ++ xs) (map f (filter p xs)) ≡ (ps ++ f x ∷ []) ++ map f xs = put_from p f (ps ++ f x ∷ []) xs same keeps tail in
    ap (λ (l : List Group). fold put (ps ++ x ∷ xs) l) (filter_cons p f x xs)
    ∙ put_step (p x) f ps xs (map f (filter p xs)) x (same x) there
    (ap (λ (l : List Group). fold put l (map f (filter p xs))) (sym (append_assoc ps (f x ∷ []) xs)) ∙ rest
    ∙ append_assoc ps (f x ∷ []) (map f xs))

-- the groups that a function changes, put in their places, are all groups under the function
pub put_all : (p : Group → Bool) (f : Group → Group) (gs : List Group) → ((g : Group) → p g ≡ false → f g ≡ g) → ((g : Group) → (f g).number ≡ g.number)
    → IsCounted (map (λ g. g.number.0) gs) → fold put gs (map f (filter p gs)) ≡ map f gs
put_all p f gs same keeps h = put_from p f [] gs same keeps (counted_from (map (λ g. g.number.0) gs) h)

-- ---- the group of a request

-- a request of the group has the number, where the group's numbers go on from b and this is one of them
has_here : (b k : ℕ) (number : RequestNo) (qs : List Request) → IsCountedFrom b (map (λ q. q.number.0) qs) → number.0 ≡ b + k + 1 → k < length qs
    → list_any (is_request number) qs ≡ true
has_here b k number [] h e l = absurd (omega arith)
has_here b k number (q ∷ qs) h e l =
    let d : Request = q in
    let len : length (map (λ q. q.number.0) (q ∷ qs)) ≡ length (q ∷ qs) = length-map (q ∷ qs) (λ q. q.number.0) in
    let at : get_or (map (λ q. q.number.0) (q ∷ qs)) k 0 ≡ b + k + 1 = h k (omega arith) in
    let is : (get_or (q ∷ qs) k d).number.0 ≡ number.0 = sym (get_or-map (λ q. q.number.0) (q ∷ qs) k d 0 l) ∙ at ∙ sym e in
    list_any_at (is_request number) (q ∷ qs) k d l (eq-eqb (get_or (q ∷ qs) k d).number.0 number.0 is)

-- none has it, where it is beyond them
has_not : (b k : ℕ) (number : RequestNo) (qs : List Request) → IsCountedFrom b (map (λ q. q.number.0) qs) → number.0 ≡ b + k + 1 → length qs ≤ k
    → list_any (is_request number) qs ≡ false
has_not b k number qs h e far = list_any_none (is_request number) qs (λ j d l.
    let len : length (map (λ q. q.number.0) qs) ≡ length qs = length-map qs (λ q. q.number.0) in
    let at : get_or (map (λ q. q.number.0) qs) j 0 ≡ b + j + 1 = h j (omega arith) in
    let is : (get_or qs j d).number.0 ≡ b + j + 1 = sym (get_or-map (λ q. q.number.0) qs j d 0 l) ∙ at in
    differs (get_or qs j d).number.0 number.0 (λ same. absurd (omega arith)))

-- the request at no place
abbrev no_request : Request
no_request = record { number = record { 0 = 0 }; seconds = 0; last = record { 0 = 0 }; state = Pending }

pub counted_front : (b : ℕ) (xs ys : List ℕ) → IsCountedFrom b (xs ++ ys) → IsCountedFrom b xs
counted_front b xs ys h = λ i l. let len : length (xs ++ ys) ≡ length xs + length ys = length-append xs ys in
    sym (get_or_append_left xs ys 0 i l) ∙ h i (omega arith)

pub counted_back : (b : ℕ) (xs ys : List ℕ) → IsCountedFrom b (xs ++ ys) → IsCountedFrom (b + length xs) ys
counted_back b xs ys h = λ i l.
    let len : length (xs ++ ys) ≡ length xs + length ys = length-append xs ys in
    let at : get_or (xs ++ ys) (length xs + i) 0 ≡ get_or ys i 0 = get_or-append-add xs ys i 0 in
    let is : get_or (xs ++ ys) (length xs + i) 0 ≡ b + (length xs + i) + 1 = h (length xs + i) (omega arith) in
    omega arith

-- the numbers of the first group's requests, and those of the others
pub front_of : (b : ℕ) (g : Group) (gs : List Group) → IsCountedFrom b (map (λ q. q.number.0) (requests_of (g ∷ gs)))
    → IsCountedFrom b (map (λ q. q.number.0) g.requests)
front_of b g gs h = counted_front b (map (λ q. q.number.0) g.requests) (map (λ q. q.number.0) (requests_of gs))
    (subst (IsCountedFrom b) (map-append (λ q. q.number.0) g.requests (requests_of gs)) h)

pub back_of : (b : ℕ) (g : Group) (gs : List Group) → IsCountedFrom b (map (λ q. q.number.0) (requests_of (g ∷ gs)))
    → IsCountedFrom (b + length g.requests) (map (λ q. q.number.0) (requests_of gs))
back_of b g gs h =
    subst (λ (n : ℕ). IsCountedFrom (b + n) (map (λ q. q.number.0) (requests_of gs))) (length-map g.requests (λ q. q.number.0))
    (counted_back b (map (λ q. q.number.0) g.requests) (map (λ q. q.number.0) (requests_of gs))
    (subst (IsCountedFrom b) (map-append (λ q. q.number.0) g.requests (requests_of gs)) h))

-- as many owners as requests
pub owners_length : (p : ℕ) (gs : List Group) → length (owners_from p gs) ≡ length (requests_of gs)
owners_length p [] = refl
owners_length p (g ∷ gs) =
    let a : length (map (λ q. p) g.requests ++ owners_from (p + 1) gs) ≡ length (map (λ q. p) g.requests) + length (owners_from (p + 1) gs) =
    length-append (map (λ q. p) g.requests) (owners_from (p + 1) gs) in
    let b : length (map (λ q. p) g.requests) ≡ length g.requests = length-map g.requests (λ q. p) in
    let c : length (owners_from (p + 1) gs) ≡ length (requests_of gs) = owners_length (p + 1) gs in
    let d : length (g.requests ++ requests_of gs) ≡ length g.requests + length (requests_of gs) = length-append g.requests (requests_of gs) in
    omega arith

-- what is looked up stands within the list or beyond it
pub match_get : (P : Type 0) (Q : ℕ → Type 0) (l : List ℕ) (i d : ℕ) → (length l ≤ i → P) → (i < length l → Q (get_or l i d))
    → MatchOption (slice_get l i) P Q
match_get P Q [] i d far near = far (omega arith)
match_get P Q (x ∷ l) zero d far near = near (omega arith)
match_get P Q (x ∷ l) (suc i) d far near = match_get P Q l i d (λ h. far (omega (arith, h))) (λ h. near (omega (arith, h)))

-- no group has a request of a number at or below that after which they go on
pub with_none : (b : ℕ) (number : RequestNo) (gs : List Group) → IsCountedFrom b (map (λ q. q.number.0) (requests_of gs)) → number.0 ≤ b
    → group_with gs number ≡ None
with_none b number [] h e = refl
with_none b number (g ∷ gs) h e =
    find_step (has_request number g) g (group_with gs number) None
    (list_any_none (is_request number) g.requests (λ j d l.
    let len : length (map (λ q. q.number.0) g.requests) ≡ length g.requests = length-map g.requests (λ q. q.number.0) in
    let at : get_or (map (λ q. q.number.0) g.requests) j 0 ≡ b + j + 1 = front_of b g gs h j (omega arith) in
    let is : (get_or g.requests j d).number.0 ≡ b + j + 1 = sym (get_or-map (λ q. q.number.0) g.requests j d 0 l) ∙ at in
    differs (get_or g.requests j d).number.0 number.0 (λ same. absurd (omega arith))))
    (with_none (b + length g.requests) number gs (back_of b g gs h) (omega arith))

-- nor of one beyond all
pub with_beyond : (b p k : ℕ) (number : RequestNo) (gs : List Group) → IsCountedFrom b (map (λ q. q.number.0) (requests_of gs)) → number.0 ≡ b + k + 1
    → length (requests_of gs) ≤ k → group_with gs number ≡ None
with_beyond b p k number [] h e far = refl
with_beyond b p k number (g ∷ gs) h e far =
    let d : length (g.requests ++ requests_of gs) ≡ length g.requests + length (requests_of gs) = length-append g.requests (requests_of gs) in
    find_step (has_request number g) g (group_with gs number) None
    (has_not b k number g.requests (front_of b g gs h) e (omega arith))
    (with_beyond (b + length g.requests) p (k - length g.requests) number gs (back_of b g gs h) (omega arith) (omega arith))

-- the place that is kept for a request is that of its group
pub record Owns (p o : ℕ) (number : RequestNo) (gs : List Group) : Type 0 where
  pub from : p ≤ o
  pub within : o - p < length gs
  pub group : group_with gs number ≡ Some (get_or gs (o - p) no_group)

owns_first : (p o : ℕ) (number : RequestNo) (g : Group) (gs : List Group) → o ≡ p → has_request number g ≡ true → Owns p o number (g ∷ gs)
owns_first p o number g gs e h = record {
  from = omega arith;
  within = omega arith;
  group =
      let zero_place : o - p ≡ 0 = omega arith in
      find_first (has_request number g) g (group_with gs number) h ∙ ap (λ (i : ℕ). Some (get_or (g ∷ gs) i no_group)) (sym zero_place);
}

owns_later : (p o : ℕ) (number : RequestNo) (g : Group) (gs : List Group) → has_request number g ≡ false → Owns (p + 1) o number gs → Owns p o number (g ∷ gs)
owns_later p o number g gs h r =
    let from : p + 1 ≤ o = r.from in
    let within : o - (p + 1) < length gs = r.within in
    record {
      from = omega arith;
      within = omega arith;
      group =
          let next : o - p ≡ suc (o - (p + 1)) = omega arith in
          find_step (has_request number g) g (group_with gs number) (Some (get_or gs (o - (p + 1)) no_group)) h r.group
          ∙ ap (λ (i : ℕ). Some (get_or (g ∷ gs) i no_group)) (sym next);
    }

pub owner_from : (b p k : ℕ) (number : RequestNo) (gs : List Group) → IsCountedFrom b (map (λ q. q.number.0) (requests_of gs)) → number.0 ≡ b + k + 1
    → k < length (requests_of gs) → Owns p (get_or (owners_from p gs) k p) number gs
owner_from b p k number [] h e l = absurd (omega arith)
owner_from b p k number (g ∷ gs) h e l =
    let all : length (g.requests ++ requests_of gs) ≡ length g.requests + length (requests_of gs) = length-append g.requests (requests_of gs) in
    let mapped : length (map (λ q. p) g.requests) ≡ length g.requests = length-map g.requests (λ q. p) in
    elim (cases_lt k (length g.requests)) [
      | inl here ↦
          let fits : k < length (map (λ q. p) g.requests) = omega arith in
          owns_first p (get_or (owners_from p (g ∷ gs)) k p) number g gs
          (get_or_append_left (map (λ q. p) g.requests) (owners_from (p + 1) gs) p k fits ∙ get_or-map (λ q. p) g.requests k no_request p here)
          (has_here b k number g.requests (front_of b g gs h) e here)
      | inr beyond ↦
          let j : ℕ = k - length g.requests in
          let rest : Owns (p + 1) (get_or (owners_from (p + 1) gs) j (p + 1)) number gs =
          owner_from (b + length g.requests) (p + 1) j number gs (back_of b g gs h) (omega arith) (omega arith) in
          let count : length (owners_from (p + 1) gs) ≡ length (requests_of gs) = owners_length (p + 1) gs in
          let inside : j < length (owners_from (p + 1) gs) = omega arith in
          let same : get_or (owners_from p (g ∷ gs)) k p ≡ get_or (owners_from (p + 1) gs) j (p + 1) =
          get_or-append_right (map (λ q. p) g.requests) (owners_from (p + 1) gs) (length g.requests) k p mapped beyond
          ∙ get_or_default (owners_from (p + 1) gs) j p (p + 1) inside in
          owns_later p (get_or (owners_from p (g ∷ gs)) k p) number g gs (has_not b k number g.requests (front_of b g gs h) e beyond)
          (subst (λ (o : ℕ). Owns (p + 1) o number gs) (sym same) rest)
    ]
