-- Groups by their numbers, and the pass over those that are open.
use Rattle.std.proofs.Common.{◌≡◌, ℕ, zero, suc, ◌+◌, ◌-◌, ◌<◌, Bool, true, false, cond, not, ◌&&◌, ◌||◌, List, [], ◌∷◌, ◌++◌, length, get_or, map, take}
use Rattle.std.proofs.Common.{refl, sym, ap, ◌∙◌, subst, arith, nat_lt, Option, Some}
use Rattle.std.specs.Prelude.{filter, All}
use Rattle.std.specs.List.{zip, slice_get, list_any, enumerate_from}
use Rattle.std.proofs.lemmas.Bool.{and_parts}
use Rattle.std.proofs.lemmas.Bool.Decides.{nat_tests}
use Rattle.std.proofs.lemmas.List.{length-map, get_or-map, map-append}
use Rattle.std.proofs.lemmas.List.Elements.{All-filter, filter_more}
use Rattle.std.proofs.lemmas.Option.{get_or_from_slice_get, slice_get-get_or, same_Some}
use Rattle.std.proofs.lemmas.List.FromFn.{get_or-enumerate_from}
use Rattle.std.proofs.lemmas.Slice.Zip.{AllZip-long}
use Rattle.plan_base.specs.declared.number.GroupNo.{GroupNo}
use Rattle.plan_base.specs.States.{is_pending}
use Rattle.plan_base.proofs.Here.{element_at}
use Rattle.plan_base.proofs.Lists.{filter_within}
use Rattle.desk_runs.specs.declared.group.Group.{Group}
use Rattle.desk_runs.specs.declared.group.Request.{Request}
use Rattle.desk_runs.specs.declared.observation.Observation.{Observation}
use Rattle.desk_runs.specs.Clock.{is_waiting}
use Rattle.desk_runs.specs.Numbers.{is_placed}
use Rattle.plan_base.specs.Operators.{is_oneof}
use Rattle.desk_runs.specs.States.{is_open}
use Rattle.desk_runs.specs.Turning.{no_group, group_of}
use Rattle.desk_runs.proofs.Places.{number_at}
use Rattle.desk_core.specs.declared.desk.Submitted.{Submitted}
use Rattle.desk_core.specs.declared.desk.Wanted.{Wanted}
use Rattle.desk_core.specs.Desk.{DeskSeen}
use Rattle.desk_core.specs.Kept.{IsDesk, IsAlong}
use Rattle.desk_core.specs.DeskSnapshot.{both_of, both_at, IsGroupNo, waiting_of, has_running, is_listed, listed_groups}
use Rattle.desk_core.proofs.SnapshotGroups.{target_count, along}

-- ---- a group by its number

-- what stands at a place of a zip stands there in both lists
pub zip_parts : {A B : Type 0} (xs : List A) (ys : List B) (i : ℕ) (p : A × B) → slice_get (zip xs ys) i ≡ Some p → (slice_get xs i ≡ Some p.0)
    × (slice_get ys i ≡ Some p.1)
zip_parts [] ys i p e = cc
zip_parts (x ∷ xs) [] i p e = cc
zip_parts (x ∷ xs) (y ∷ ys) zero p e = let same : (x, y) ≡ p = cc in (ap (λ q. Some q.0) same, ap (λ q. Some q.1) same)
zip_parts (x ∷ xs) (y ∷ ys) (suc i) p e = zip_parts xs ys i p e

-- the group with a number, as it was submitted
pub submission_is : (d : DeskSeen) (number : GroupNo) (p : Submitted × Group) (w : Submitted) → both_at d number ≡ Some p
    → slice_get d.groups (number.0 - 1) ≡ Some w → w ≡ p.0
submission_is d number p w e is = same_Some w p.0 (sym is ∙ (zip_parts d.groups d.progress.groups (number.0 - 1) p e).0)

-- .. and as it is
pub group_at : (d : DeskSeen) (number : GroupNo) (p : Submitted × Group) → both_at d number ≡ Some p → group_of d.progress.groups number ≡ p.1
group_at d number p e = get_or_from_slice_get d.progress.groups (number.0 - 1) p.1 no_group (zip_parts d.groups d.progress.groups (number.0 - 1) p e).1

pub as_many : (d : DeskSeen) → IsDesk d → length d.progress.groups ≡ length d.groups
as_many d h = AllZip-long (IsAlong (target_count d)) d.groups d.progress.groups h.along

pub along_at : (d : DeskSeen) → IsDesk d → (number : GroupNo) (p : Submitted × Group) → both_at d number ≡ Some p → number.0 - 1 < length (both_of d)
    → IsAlong (target_count d) p.0 p.1
along_at d h number p e lt =
    subst (λ (q : Submitted × Group). IsAlong (target_count d) q.0 q.1) (get_or_from_slice_get (both_of d) (number.0 - 1) p p e) (along d h (number.0 - 1) p lt)

length_both : (xs : List Submitted) (ys : List Group) → length ys ≡ length xs → length (zip xs ys) ≡ length ys
length_both [] [] e = refl
length_both [] (y ∷ ys) e = absurd (omega arith)
length_both (x ∷ xs) [] e = absurd (omega arith)
length_both (x ∷ xs) (y ∷ ys) e = let tail : length (zip xs ys) ≡ length ys = length_both xs ys (omega arith) in omega (arith, tail)

pub both_many : (d : DeskSeen) → IsDesk d → length (both_of d) ≡ length d.progress.groups
both_many d h = length_both d.groups d.progress.groups (as_many d h)

-- each group has its number
pub record IsNumberedAt (d : DeskSeen) (p : Submitted × Group) : Type 0 where
  pub at : both_at d p.1.number ≡ Some p
  pub known : IsGroupNo d p.1.number

pub numbered_at : (d : DeskSeen) → IsDesk d → All (IsNumberedAt d) (both_of d)
numbered_at d h k e lt =
    let p = get_or (both_of d) k e in
    let found : both_at_place d k ≡ Some p = slice_get-get_or (both_of d) k e lt in
    let second : get_or d.progress.groups k p.1 ≡ p.1 = get_or_from_slice_get d.progress.groups k p.1 p.1 (zip_parts d.groups d.progress.groups k p found).1 in
    let many = both_many d h in
    let number : (get_or d.progress.groups k p.1).number.0 ≡ k + 1 = number_at d.progress.groups k p.1 h.sound.numbered.groups (omega arith) in
    let is : p.1.number.0 ≡ k + 1 = ap (λ (g : Group). g.number.0) (sym second) ∙ number in
    let place : p.1.number.0 - 1 ≡ k = omega arith in
    record { at = ap (λ i. slice_get (both_of d) i) place ∙ found; known = (omega arith, omega arith) }
  where
    both_at_place : DeskSeen → ℕ → Option (Submitted × Group)
    both_at_place d k = slice_get (both_of d) k

-- ---- which are listed

-- a group has a request to list where one is waiting
pub some_waiting : (running : List Observation) (qs : List Request) (ws : List Wanted) → length ws ≡ length qs
    → list_any (is_waiting running) qs ≡ nat_lt 0 (length (filter (λ m. is_waiting running m.0) (zip qs ws)))
some_waiting running [] ws e = refl
some_waiting running (q ∷ qs) [] e = absurd (omega arith)
some_waiting running (q ∷ qs) (w ∷ ws) e = by_first (is_waiting running q) (some_waiting running qs ws (omega arith))
  where
    by_first : (b : Bool) → list_any (is_waiting running) qs ≡ nat_lt 0 (length (filter (λ m. is_waiting running m.0) (zip qs ws)))
        → (b || list_any (is_waiting running) qs)
        ≡ nat_lt 0 (length (cond b ((q, w) ∷ filter (λ m. is_waiting running m.0) (zip qs ws))
        (filter (λ m. is_waiting running m.0) (zip qs ws))))
    by_first true rest = grind (arith, nat_tests)
    by_first false rest = rest

pub listed_is : (d : DeskSeen) (p : Submitted × Group) → length p.0.requests ≡ length p.1.requests
    → is_listed d p ≡ (not (is_oneof p.1.op && has_running d p.1) && list_any (is_waiting d.progress.running) p.1.requests)
listed_is d p e = ap (λ b. not (is_oneof p.1.op && has_running d p.1) && b) (sym (some_waiting d.progress.running p.1.requests p.0.requests e))

open_step : (pending placed rest : Bool) (n : ℕ) → (nat_lt 0 n ≡ true → rest ≡ true) → (m : ℕ) → m ≡ cond (pending && not placed) (suc n) n
    → nat_lt 0 m ≡ true → (pending || rest) ≡ true
open_step true placed rest n h m e lt = refl
open_step false placed rest n h m e lt = h (ap (nat_lt 0) (sym e) ∙ lt)

length_choice : {X : Type 0} (b : Bool) (x : X) (xs : List X) → length (cond b (x ∷ xs) xs) ≡ cond b (suc (length xs)) (length xs)
length_choice true x xs = refl
length_choice false x xs = refl

waiting_open : (running : List Observation) (qs : List Request) (ws : List Wanted)
    → nat_lt 0 (length (filter (λ m. is_waiting running m.0) (zip qs ws))) ≡ true → list_any (λ q. is_pending q.state) qs ≡ true
waiting_open running [] ws e = e
waiting_open running (q ∷ qs) [] e = cc
waiting_open running (q ∷ qs) (w ∷ ws) e =
    let kept : List (Request × Wanted) = filter (λ m. is_waiting running m.0) (zip qs ws) in
    open_step (is_pending q.state) (is_placed running q.number) (list_any (λ r. is_pending r.state) qs) (length kept) (waiting_open running qs ws)
    (length (filter (λ m. is_waiting running m.0) (zip (q ∷ qs) (w ∷ ws)))) (length_choice (is_waiting running q) (q, w) kept) e

-- a listed group is open
pub listed_open : (d : DeskSeen) (p : Submitted × Group) → is_listed d p ≡ true → is_open p.1 ≡ true
listed_open d p e = waiting_open d.progress.running p.1.requests p.0.requests
    (and_parts (not (is_oneof p.1.op && has_running d p.1)) (nat_lt 0 (length (waiting_of d p))) e).1

-- ---- the pass over the open groups

-- the open groups
abbrev pub opened_of : DeskSeen → List (Submitted × Group)
opened_of d = filter (λ p. is_open p.1) (both_of d)

open_one : (b : Bool) (w : Submitted) (g : Group) (ps : List (Submitted × Group)) (gs : List Group) → map (λ p. p.1.number) ps ≡ map (λ g. g.number) gs
    → map (λ p. p.1.number) (cond b ((w, g) ∷ ps) ps) ≡ map (λ g. g.number) (cond b (g ∷ gs) gs)
open_one true w g ps gs e = ap (λ l. g.number ∷ l) e
open_one false w g ps gs e = e

open_numbers : (ws : List Submitted) (gs : List Group) → length gs ≡ length ws
    → map (λ p. p.1.number) (filter (λ p. is_open p.1) (zip ws gs)) ≡ map (λ g. g.number) (filter is_open gs)
open_numbers [] [] e = refl
open_numbers [] (g ∷ gs) e = absurd (omega arith)
open_numbers (w ∷ ws) [] e = absurd (omega arith)
open_numbers (w ∷ ws) (g ∷ gs) e =
    open_one (is_open g) w g (filter (λ p. is_open p.1) (zip ws gs)) (filter is_open gs) (open_numbers ws gs (omega arith))

pub opened_numbers : (d : DeskSeen) → IsDesk d → map (λ g. g.number) (filter is_open d.progress.groups) ≡ map (λ p. p.1.number) (opened_of d)
opened_numbers d h = sym (open_numbers d.groups d.progress.groups (as_many d h))

-- all that is listed is among the open groups
pub listed_of_opened : (d : DeskSeen) → filter (is_listed d) (opened_of d) ≡ listed_groups d
listed_of_opened d = filter_within (λ p. is_open p.1) (is_listed d) (both_of d) (listed_open d)

-- the group whose number stands next
pub record IsNext (d : DeskSeen) (groups : List (Submitted × Group)) (numbers : List GroupNo) (i : ℕ) : Type 0 where
  pub group : Submitted × Group
  pub number : get_or numbers i record { 0 = 0 } ≡ group.1.number
  pub stands : get_or groups i group ≡ group
  pub in_range : i < length groups
  pub numbered : IsNumberedAt d group

pub next_is : (d : DeskSeen) (groups : List (Submitted × Group)) (numbers : List GroupNo) (i : ℕ) → All (IsNumberedAt d) groups
    → numbers ≡ map (λ p. p.1.number) groups
    → i < length numbers → IsNext d groups numbers i
next_is d groups numbers i all is lt =
    let in_range : i < length groups = omega (arith, ap length is, length-map groups (λ (p : Submitted × Group). p.1.number)) in
    let here = element_at groups i in_range in
    record {
      group = here.0;
      number = ap (λ (l : List GroupNo). get_or l i record { 0 = 0 }) is
          ∙ get_or-map (λ (p : Submitted × Group). p.1.number) groups i here.0 record { 0 = 0 } in_range
          ∙ ap (λ (p : Submitted × Group). p.1.number) here.1;
      stands = here.1;
      in_range = in_range;
      numbered = subst (IsNumberedAt d) here.1 (all i here.0 in_range);
    }

pub opened_at : (d : DeskSeen) → IsDesk d → All (IsNumberedAt d) (opened_of d)
opened_at d h = All-filter (λ p. is_open p.1) (IsNumberedAt d) (both_of d) (numbered_at d h)

pub listed_at : (d : DeskSeen) → IsDesk d → All (IsNumberedAt d) (listed_groups d)
listed_at d h = All-filter (is_listed d) (IsNumberedAt d) (both_of d) (numbered_at d h)

-- ---- steps of loops

-- one more element, kept where it passes
pub kept_more : {X Y : Type 0} (f : X → Y) (test : X → Bool) (xs : List X) (i : ℕ) (x : X) → i < length xs → get_or xs i x ≡ x → (old new : List Y)
    → old ≡ map f (filter test (take i xs)) → (b : Bool) → b ≡ test x → new ≡ old ++ cond b (f x ∷ []) [] → new ≡ map f (filter test (take (i + 1) xs))
kept_more {X = X} {Y = Y} f test xs i x lt stands old new so_far b is pushed =
    let more : filter test (take (i + 1) xs) ≡ filter test (take i xs) ++ cond (test x) (x ∷ []) []
    = filter_more test xs i x lt ∙ ap (λ y. filter test (take i xs) ++ cond (test y) (y ∷ []) []) stands
    in
    pushed ∙ ap (λ l. l ++ cond b (f x ∷ []) []) so_far ∙ ap (λ c. map f (filter test (take i xs)) ++ cond c (f x ∷ []) []) is
    ∙ ap (λ l. map f (filter test (take i xs)) ++ l) (map_choice f (test x) x)
    ∙ sym (map-append f (filter test (take i xs)) (cond (test x) (x ∷ []) [])) ∙ ap (map f) (sym more)
  where
    map_choice : (f : X → Y) (b : Bool) (x : X) → cond b (f x ∷ []) [] ≡ map f (cond b (x ∷ []) [])
    map_choice f true x = refl
    map_choice f false x = refl

-- the place and the telescope that stand next
pub place_at : {X : Type 0} (xs : List X) (i : ℕ) → i < length xs → (x : X) × (slice_get xs i ≡ Some x) × (get_or (enumerate_from 0 xs) i (i, x) ≡ (i, x))
place_at xs i lt =
    let here = element_at xs i lt in
    let place : 0 + i ≡ i = omega arith in (
      here.0,
      slice_get-get_or xs i here.0 lt ∙ ap (λ z. Some z) here.1,
      get_or-enumerate_from 0 xs i (i, here.0) lt ∙ ap (λ k. (k, get_or xs i here.0)) place ∙ ap (λ z. (i, z)) here.1,
    )

-- whether a group is listed, by what is told of it
pub listed_from : (d : DeskSeen) (g : Group) (p : Submitted × Group) → g ≡ p.1 → length p.0.requests ≡ length p.1.requests → (blocked waiting : Bool)
    → blocked ≡ (is_oneof g.op && has_running d g) → waiting ≡ list_any (is_waiting d.progress.running) g.requests → (not blocked && waiting) ≡ is_listed d p
listed_from d g p same counts blocked waiting is_blocked is_some =
    ap (λ b. not b && waiting) is_blocked ∙ ap (λ w. not (is_oneof g.op && has_running d g) && w) is_some
    ∙ ap (λ (h : Group). not (is_oneof h.op && has_running d h) && list_any (is_waiting d.progress.running) h.requests) same ∙ sym (listed_is d p counts)

-- nothing is left of a zip where nothing is left of one of its lists
pub none_left_first : {A B : Type 0} (xs : List A) (ys : List B) → length xs ≡ 0 → zip xs ys ≡ []
none_left_first [] ys e = refl
none_left_first (x ∷ xs) ys e = absurd (omega arith)

pub none_left_second : {A B : Type 0} (xs : List A) (ys : List B) → length ys ≡ 0 → zip xs ys ≡ []
none_left_second [] ys e = refl
none_left_second (x ∷ xs) [] e = refl
none_left_second (x ∷ xs) (y ∷ ys) e = absurd (omega arith)
