-- Changes of one group.
use Rattle.std.proofs.Common.{◌≡◌, ℕ, ◌+◌, ◌≤◌, Bool, true, false, cond, not, List, [], ◌∷◌, length, map, filter, All, get_or, refl, sym, ◌∙◌, ap}
use Rattle.std.proofs.Common.{subst, arith, Option, Some}
use Rattle.std.specs.List.{AllZip, flat_map, fold}
use Rattle.std.proofs.lemmas.Bool.{eqb-true}
use Rattle.std.proofs.lemmas.List.{append-nil, length-map, get_or-map}
use Rattle.std.proofs.lemmas.List.Elements.{filter_passes}
use Rattle.plan_base.specs.declared.number.GroupNo.{GroupNo}
use Rattle.plan_base.specs.declared.number.RequestNo.{RequestNo}
use Rattle.desk_runs.specs.declared.group.Group.{Group}
use Rattle.desk_runs.specs.declared.observation.Observation.{Observation}
use Rattle.plan_base.specs.States.{is_over}
use Rattle.desk_runs.specs.Numbers.{is_group, group_at, is_pending_at}
use Rattle.desk_runs.specs.Clock.{became, became_in}
use Rattle.desk_runs.specs.Changes.{put}
use Rattle.desk_runs.specs.Sound.{IsNumbered, IsLater, AreTold}
use Rattle.desk_runs.proofs.Lists.{filter_none}
use Rattle.desk_runs.proofs.Later.{later_map, later_self}
use Rattle.desk_runs.proofs.Places.{IsCountedFrom, counted_head, counted_tail, differs, put_all}
use Rattle.desk_runs.proofs.Turns.{over_none}
use Rattle.desk_runs.proofs.Told.{told_of}
use Rattle.desk_runs.proofs.Moves.{became_groups, gathered_by, dropped_by, is_among}

-- what a test picks is changed, all else stays
abbrev pub change_where : (Group → Bool) → (Group → Group) → Group → Group
change_where p f g = cond (p g) (f g) g

-- ---- one group is picked

some_is : (x y : Group) → Some x ≡ Some y → x ≡ y
some_is x y e = cc

pub pick_step : (b : Bool) (g g0 : Group) (gs rest : List Group) (found : Option Group) → cond b (Some g) found ≡ Some g0 → (b ≡ true → rest ≡ [])
    → (found ≡ Some g0 → rest ≡ g0 ∷ []) → cond b (g ∷ rest) rest ≡ g0 ∷ []
pick_step true g g0 gs rest found e none more = ap (λ (x : Group). x ∷ rest) (some_is g g0 e) ∙ ap (λ (l : List Group). g0 ∷ l) (none refl)
pick_step false g g0 gs rest found e none more = more e

-- no group further on has the number
none_later : (b : ℕ) (gs : List Group) (n : GroupNo) → IsCountedFrom b (map (λ g. g.number.0) gs) → n.0 ≤ b → filter (is_group n) gs ≡ []
none_later b gs n h e = filter_none (is_group n) gs (λ k d l.
    let len : length (map (λ g. g.number.0) gs) ≡ length gs = length-map gs (λ g. g.number.0) in
    let at : get_or (map (λ g. g.number.0) gs) k 0 ≡ b + k + 1 = h k (omega arith) in
    let is : (get_or gs k d).number.0 ≡ b + k + 1 = sym (get_or-map (λ g. g.number.0) gs k d 0 l) ∙ at in
    differs (get_or gs k d).number.0 n.0 (λ same. absurd (omega arith)))

pub picked_from : (b : ℕ) (gs : List Group) (n : GroupNo) (g0 : Group) → IsCountedFrom b (map (λ g. g.number.0) gs) → group_at gs n ≡ Some g0
    → filter (is_group n) gs ≡ g0 ∷ []
picked_from b [] n g0 h e = cc
picked_from b (g ∷ gs) n g0 h e =
    let first : g.number.0 ≡ b + 1 = counted_head b g.number.0 (map (λ x. x.number.0) gs) h in
    let tail : IsCountedFrom (b + 1) (map (λ x. x.number.0) gs) = counted_tail b g.number.0 (map (λ x. x.number.0) gs) h in
    pick_step (is_group n g) g g0 gs (filter (is_group n) gs) (group_at gs n) e
    (λ t. let same : g.number.0 ≡ n.0 = eqb-true g.number.0 n.0 t in none_later (b + 1) gs n tail (omega arith))
    (λ later. picked_from (b + 1) gs n g0 tail later)

-- ---- what follows where one is picked

pub choose : (p : Group → Bool) (f : Group → Group) (g : Group) → (p g ≡ true → change_where p f g ≡ f g) × (p g ≡ false → change_where p f g ≡ g)
choose p f g = elim (p g) as (λ b. (b ≡ true → cond b (f g) g ≡ f g) × (b ≡ false → cond b (f g) g ≡ g)) [
  | true ↦ (λ e. refl, λ e. cc)
  | false ↦ (λ e. cc, λ e. refl)
]

pub later_where : (p : Group → Bool) (f : Group → Group) → ((g : Group) → IsLater g (f g)) → (g : Group) → IsLater g (change_where p f g)
later_where p f h g = elim (p g) as (λ b. IsLater g (cond b (f g) g)) [ true ↦ h g | false ↦ later_self g ]

pub all_later : (p : Group → Bool) (f : Group → Group) → ((g : Group) → IsLater g (f g)) → (gs : List Group) → AllZip IsLater gs (map (change_where p f) gs)
all_later p f h gs = later_map (change_where p f) (later_where p f h) gs

pub picked_passes : (p : Group → Bool) (gs : List Group) (g0 : Group) → filter p gs ≡ g0 ∷ [] → p g0 ≡ true
picked_passes p gs g0 e = subst (All (λ g. p g ≡ true)) e (filter_passes p gs) 0 g0 (omega arith)

-- the changed group, put in its place, is all groups with what is picked changed
pub put_one : (p : Group → Bool) (f : Group → Group) (gs : List Group) (g0 : Group) → ((g : Group) → IsLater g (f g)) → IsNumbered gs
    → filter p gs ≡ g0 ∷ [] → fold put gs (f g0 ∷ []) ≡ map (change_where p f) gs
put_one p f gs g0 h n e =
    let changed : map (change_where p f) (filter p gs) ≡ f g0 ∷ [] = ap (map (change_where p f)) e
    ∙ ap (λ (g : Group). let l : List Group = g ∷ [] in l) ((choose p f g0).0 (picked_passes p gs g0 e)) in
    ap (fold put gs) (sym changed) ∙ put_all p (change_where p f) gs (λ g no. (choose p f g).1 no) (λ g. (later_where p f h g).number) n.groups

-- and it is what the change tells
pub told_one : (p : Group → Bool) (f : Group → Group) (gs : List Group) (g0 : Group) → ((g : Group) → IsLater g (f g)) → IsNumbered gs
    → filter p gs ≡ g0 ∷ [] → AreTold gs (f g0 ∷ []) (map (change_where p f) gs)
told_one p f gs g0 h n e =
    let changed : map (change_where p f) (filter p gs) ≡ f g0 ∷ [] = ap (map (change_where p f)) e
    ∙ ap (λ (g : Group). let l : List Group = g ∷ [] in l) ((choose p f g0).0 (picked_passes p gs g0 e)) in
    told_of p (change_where p f) gs (f g0 ∷ []) (map (change_where p f) gs) n (λ g. (later_where p f h g).number)
    (λ g no. (choose p f g).1 no) (sym changed) refl

-- what is over of all requests is what is over of the picked group's
pub over_one : (p : Group → Bool) (f : Group → Group) (gs : List Group) (g0 : Group) → ((g : Group) → IsLater g (f g)) → filter p gs ≡ g0 ∷ []
    → became_in is_over gs (map (change_where p f) gs) ≡ became is_over g0.requests (f g0).requests
over_one p f gs g0 h e =
    let gives : Group → List RequestNo = λ g. became is_over g.requests (change_where p f g).requests in
    became_groups is_over (change_where p f) (later_where p f h) gs
    ∙ sym (gathered_by p gives (λ g no. ap (λ (x : Group). became is_over g.requests x.requests) ((choose p f g).1 no) ∙ over_none g.requests) gs)
    ∙ ap (flat_map gives) e ∙ append-nil (gives g0) ∙ ap (λ (x : Group). became is_over g0.requests x.requests) ((choose p f g0).0 (picked_passes p gs g0 e))

-- so dropping the observations of requests that are over in the picked group drops those that are no longer pending
pub drop_one : (p : Group → Bool) (f : Group → Group) (gs : List Group) (g0 : Group) (os : List Observation) → ((g : Group) → IsLater g (f g))
    → IsNumbered gs → filter p gs ≡ g0 ∷ [] → All (λ o. is_pending_at gs o.request ≡ true) os
    → filter (λ o. not (is_among o.request (became is_over g0.requests (f g0).requests))) os
    ≡ filter (λ o. is_pending_at (map (change_where p f) gs) o.request) os
drop_one p f gs g0 os h n e pending =
    ap (λ (l : List RequestNo). filter (λ o. not (is_among o.request l)) os) (sym (over_one p f gs g0 h e))
    ∙ dropped_by gs (map (change_where p f) gs) os n (all_later p f h gs) pending
