-- What a moment does to groups, one after another.
use Rattle.std.proofs.Common.{◌≡◌, ℕ, ◌+◌, ◌<◌, Bool, true, false, cond, ◌&&◌, List, [], ◌∷◌, ◌++◌, length, map, filter, All, get_or, take, refl, ◌∙◌}
use Rattle.std.proofs.Common.{ap, inl, inr}
use Rattle.std.specs.List.{list_any, flat_map}
use Rattle.std.proofs.lemmas.Bool.{or_parts, and_cases}
use Rattle.std.proofs.lemmas.List.{append-nil, map-append, map_more}
use Rattle.std.proofs.lemmas.List.Concat.{flat_map-append}
use Rattle.std.proofs.lemmas.List.Elements.{All-cons, All-nil, filter-append}
use Rattle.plan_base.specs.declared.number.GroupNo.{GroupNo}
use Rattle.plan_base.specs.declared.number.RequestNo.{RequestNo}
use Rattle.plan_base.specs.declared.number.Sec.{Sec}
use Rattle.plan_base.specs.declared.state.RequestState.{RequestState}
use Rattle.plan_base.specs.declared.state.RequestState.TheVariants.{Pending, Completed, WindowExpired, Canceled}
use Rattle.desk_runs.specs.declared.group.Group.{Group}
use Rattle.desk_runs.specs.declared.group.Request.{Request}
use Rattle.desk_runs.specs.declared.observation.Observation.{Observation}
use Rattle.plan_base.specs.States.{is_pending, is_over}
use Rattle.desk_runs.specs.Clock.{is_waiting, is_past, is_lost, with_lost, became}
use Rattle.desk_runs.specs.Turning.{turned, is_touched, group_of, groups_of}
use Rattle.desk_runs.proofs.Settling.{change_none, lost_none, lost_not}

-- where none passes, each fails
pub any_false : {X : Type 0} (p : X → Bool) (xs : List X) → list_any p xs ≡ false → All (λ x. p x ≡ false) xs
any_false p [] e = All-nil (λ x. p x ≡ false)
any_false p (x ∷ xs) e = let parts = or_parts (p x) (list_any p xs) e in All-cons (λ y. p y ≡ false) x xs parts.0 (any_false p xs parts.1)

-- a group that isn't touched stays
pub untouched : (running : List Observation) (now : Sec) (g : Group) → is_touched running now g ≡ false → turned running now g ≡ g
untouched running now g e =
    let parts = or_parts (list_any (is_past running now) g.requests) (is_lost g && list_any (is_waiting running) g.requests) e in
    ap (with_lost running) (change_none (is_past running now) WindowExpired g (any_false (is_past running now) g.requests parts.0))
    ∙ elim (and_cases (is_lost g) (list_any (is_waiting running) g.requests) parts.1) [
      | inl free ↦ lost_not running g free
      | inr idle ↦ lost_none running g (any_false (is_waiting running) g.requests idle)
    ]

same_state : (s : RequestState) → (is_pending s && is_over s) ≡ false
same_state Pending = refl
same_state Completed = refl
same_state WindowExpired = refl
same_state Canceled = refl

-- no request is over where none changed
pub over_none : (qs : List Request) → became is_over qs qs ≡ []
over_none [] = refl
over_none (q ∷ qs) = ap (λ (b : Bool). cond b (q.number ∷ became is_over qs qs) (became is_over qs qs)) (same_state q.state) ∙ over_none qs

-- nothing is over in a group that isn't touched
pub untouched_over : (running : List Observation) (now : Sec) (g : Group) → is_touched running now g ≡ false
    → became is_over g.requests (turned running now g).requests ≡ []
untouched_over running now g e = ap (λ (h : Group). became is_over g.requests h.requests) (untouched running now g e) ∙ over_none g.requests

-- ---- steps of loops

map_choice : (f : Group → Group) (b : Bool) (g : Group) → map f (cond b (g ∷ []) []) ≡ cond b (f g ∷ []) []
map_choice f true g = refl
map_choice f false g = refl

-- one group more of those that are changed
pub changed_more : (p : Group → Bool) (f : Group → Group) (gs : List Group) (ns : List GroupNo) (i : ℕ) (d : GroupNo) → i < length ns
    → map f (filter p (groups_of gs (take (i + 1) ns))) ≡ map f (filter p (groups_of gs (take i ns)))
    ++ cond (p (group_of gs (get_or ns i d))) (f (group_of gs (get_or ns i d)) ∷ []) []
changed_more p f gs ns i d l =
    let g : Group = group_of gs (get_or ns i d) in
    let before : List Group = groups_of gs (take i ns) in
    ap (λ (l : List Group). map f (filter p l)) (map_more (group_of gs) ns i d l) ∙ ap (map f) (filter-append p before (g ∷ []))
    ∙ map-append f (filter p before) (filter p (g ∷ []))
    ∙ ap (λ (l : List Group). map f (filter p before) ++ l) (map_choice f (p g) g)

-- and of what they give
pub gathered_more : (h : Group → List RequestNo) (gs : List Group) (ns : List GroupNo) (i : ℕ) (d : GroupNo) → i < length ns
    → flat_map h (groups_of gs (take (i + 1) ns)) ≡ flat_map h (groups_of gs (take i ns)) ++ h (group_of gs (get_or ns i d))
gathered_more h gs ns i d l =
    let g : Group = group_of gs (get_or ns i d) in
    let before : List Group = groups_of gs (take i ns) in
    ap (flat_map h) (map_more (group_of gs) ns i d l) ∙ flat_map-append h before (g ∷ [])
    ∙ ap (λ (l : List RequestNo). flat_map h before ++ l) (append-nil (h g))
