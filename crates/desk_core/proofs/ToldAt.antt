-- The groups that a change tells, found by their numbers.
use Rattle.std.proofs.Common.{◌≡◌, ℕ, suc, ◌+◌, ◌-◌, ◌<◌, ◌≤◌, Bool, true, false, cond, List, [], ◌∷◌, ◌++◌, length, map, filter, All, get_or, drop}
use Rattle.std.proofs.Common.{refl, sym, ◌∙◌, ap, subst, arith, inl, inr, ◌⊎◌, Some, None}
use Rattle.std.specs.List.{AllZip, zip, slice_get}
use Rattle.std.proofs.Math.Seq.{drop-cons}
use Rattle.std.proofs.lemmas.List.{length-map, get_or-map}
use Rattle.std.proofs.lemmas.List.Elements.{All-nil, All-cons, All-weaker, All-filter}
use Rattle.std.proofs.lemmas.Option.{slice_get_cases, slice_get_within, get_or_from_slice_get, same_Some}
use Rattle.plan_base.specs.declared.number.GroupNo.{GroupNo}
use Rattle.plan_base.specs.declared.parts.Op.{Op}
use Rattle.plan_base.specs.declared.parts.Op.TheVariants.{Single, Many, OneOf, And}
use Rattle.plan_base.specs.Snapshot.{most_requests}
use Rattle.desk_runs.specs.declared.change.Change.{Change}
use Rattle.desk_runs.specs.declared.group.Group.{Group}
use Rattle.desk_runs.specs.Changes.{changed}
use Rattle.desk_runs.specs.States.{is_open}
use Rattle.desk_runs.specs.Sound.{IsLater, is_told, CanChange}
use Rattle.desk_runs.specs.Turning.{no_group, group_of}
use Rattle.desk_runs.proofs.Places.{IsCountedFrom, counted_from, counted_head, counted_tail}
use Rattle.desk_core.specs.declared.desk.Submitted.{Submitted}
use Rattle.desk_core.specs.Desk.{DeskSeen}
use Rattle.desk_core.specs.Holds.{groups_along}
use Rattle.desk_core.specs.Kept.{LastsADay, IsAlong, IsDesk}
use Rattle.desk_core.specs.Endings.{IsToldAt, ending_of, endings_of, told_along}
use Rattle.desk_core.proofs.WentOn.{as_submitted, along_then}

most_of_all : (op : Op) → most_requests op ≤ 256
most_of_all Single = omega arith
most_of_all Many = omega arith
most_of_all OneOf = omega arith
most_of_all And = omega arith

-- a group at the place of its number
told_one : (d : DeskSeen) (b : ℕ) (w : Submitted) (g h : Group) → g.number.0 ≡ b + 1 → slice_get d.groups b ≡ Some w → slice_get d.progress.groups b ≡ Some g
    → IsAlong (length d.network.registry.targets) w g → IsLater g h → IsToldAt d (w, (g, h)) h
told_one d b w g h number at before along later =
    let same : h.number.0 ≡ g.number.0 = ap (λ (n : GroupNo). n.0) later.number in
    let place : h.number.0 - 1 ≡ b = omega arith in
    let then : IsAlong (length d.network.registry.targets) w h = along_then (length d.network.registry.targets) w g h along later in
    let most : most_requests h.op ≤ 256 = most_of_all h.op in
    record {
      from = omega arith;
      submitted = ap (slice_get d.groups) place ∙ at;
      before = ap (slice_get d.progress.groups) place ∙ before;
      is = refl;
      count = then.count;
      few = omega (arith, then.shape, most);
      short = All-weaker LastsADay (λ q. q.seconds ≤ 86400) (λ q a. omega (arith, a)) h.requests then.asked;
    }

-- of each of these groups, which stand from place b on
told_all : (d : DeskSeen) (b : ℕ) (ws : List Submitted) (gs hs : List Group) → ((i : ℕ) → slice_get d.groups (b + i) ≡ slice_get ws i)
    → ((i : ℕ) → slice_get d.progress.groups (b + i) ≡ slice_get gs i)
    → IsCountedFrom b (map (λ g. g.number.0) gs) → AllZip (IsAlong (length d.network.registry.targets)) ws gs → AllZip IsLater gs hs
    → All (λ p. IsToldAt d p p.1.1) (zip ws (zip gs hs))
told_all d b [] gs hs s p c a z = All-nil (λ p. IsToldAt d p p.1.1)
told_all d b (w ∷ ws) [] hs s p c a z = absurd a
told_all d b (w ∷ ws) (g ∷ gs) [] s p c a z = absurd z
told_all d b (w ∷ ws) (g ∷ gs) (h ∷ hs) s p c a z =
    let here : b ≡ b + 0 = omega arith in
    All-cons (λ p. IsToldAt d p p.1.1) (w, (g, h)) (zip ws (zip gs hs))
    (told_one d b w g h (counted_head b g.number.0 (map (λ x. x.number.0) gs) c) (ap (slice_get d.groups) here ∙ s 0)
    (ap (slice_get d.progress.groups) here ∙ p 0) a.0 z.0)
    (told_all d (b + 1) ws gs hs
    (λ i. let next : b + 1 + i ≡ b + suc i = omega arith in ap (slice_get d.groups) next ∙ s (suc i))
    (λ i. let next : b + 1 + i ≡ b + suc i = omega arith in ap (slice_get d.progress.groups) next ∙ p (suc i))
    (counted_tail b g.number.0 (map (λ x. x.number.0) gs) c) a.1 z.1)

lasts_all : (ws : List Submitted) (gs hs : List Group) → length ws ≡ length gs → AllZip IsLater gs hs → map (λ p. p.1.1) (zip ws (zip gs hs)) ≡ hs
lasts_all [] [] [] n z = refl
lasts_all [] [] (h ∷ hs) n z = absurd z
lasts_all [] (g ∷ gs) hs n z = absurd (omega arith)
lasts_all (w ∷ ws) [] hs n z = absurd (omega arith)
lasts_all (w ∷ ws) (g ∷ gs) [] n z = absurd z
lasts_all (w ∷ ws) (g ∷ gs) (h ∷ hs) n z = ap (λ (l : List Group). h ∷ l) (lasts_all ws gs hs (omega arith) z.1)

filter_lasts : (t : Group → Bool) (ps : List (Submitted × (Group × Group))) → map (λ p. p.1.1) (filter (λ p. t p.1.1) ps) ≡ filter t (map (λ p. p.1.1) ps)
filter_lasts t [] = refl
filter_lasts t (p ∷ ps) = by (t p.1.1) (filter_lasts t ps)
  where
    by : (b : Bool) → map (λ q. q.1.1) (filter (λ q. t q.1.1) ps) ≡ filter t (map (λ q. q.1.1) ps)
        → map (λ q. q.1.1) (cond b (p ∷ filter (λ q. t q.1.1) ps) (filter (λ q. t q.1.1) ps)) ≡ cond b (p.1.1 ∷ filter t (map (λ q. q.1.1) ps))
        (filter t (map (λ q. q.1.1) ps))
    by true e = ap (λ (l : List Group). p.1.1 ∷ l) e
    by false e = e

-- those that are told, in the order in which they are told
told_lasts : (d : DeskSeen) (c : Change) → IsDesk d → CanChange d.progress c → map (λ p. p.1.1) (told_along c.groups d (changed d.progress c)) ≡ c.groups
told_lasts d c h can =
    filter_lasts (is_told c.groups) (groups_along d (changed d.progress c))
    ∙ ap (filter (is_told c.groups)) (lasts_all d.groups d.progress.groups (changed d.progress c).groups (as_submitted d h) can.later)
    ∙ sym can.told.listed

told_facts : (d : DeskSeen) (c : Change) → IsDesk d → CanChange d.progress c → All (λ p. IsToldAt d p p.1.1) (told_along c.groups d (changed d.progress c))
told_facts d c h can =
    All-filter (λ p. is_told c.groups p.1.1) (λ p. IsToldAt d p p.1.1) (groups_along d (changed d.progress c))
    (told_all d 0 d.groups d.progress.groups (changed d.progress c).groups (λ i. let same : 0 + i ≡ i = omega arith in ap (slice_get d.groups) same)
    (λ i. let same : 0 + i ≡ i = omega arith in ap (slice_get d.progress.groups) same)
    (counted_from (map (λ g. g.number.0) d.progress.groups) h.sound.numbered.groups) h.along can.later)

-- the one at a place
pub record Picked (d : DeskSeen) (ps : List (Submitted × (Group × Group))) (i : ℕ) (after : Group) : Type 0 where
  pub one : Submitted × (Group × Group)
  pub rest : drop i ps ≡ one ∷ drop (i + 1) ps
  pub told : IsToldAt d one after

pub picked : (d : DeskSeen) (c : Change) (i : ℕ) (after : Group) → IsDesk d → CanChange d.progress c → i < length c.groups → after ≡ get_or c.groups i after
    → Picked d (told_along c.groups d (changed d.progress c)) i after
picked d c i after h can l e =
    let ps : List (Submitted × (Group × Group)) = told_along c.groups d (changed d.progress c) in
    let long : length ps ≡ length c.groups = sym (length-map ps (λ p. p.1.1)) ∙ ap length (told_lasts d c h can) in
    by ps (omega (arith, long)) (told_facts d c h can) (told_lasts d c h can) (slice_get_cases ps i).1
  where
    by : (ps : List (Submitted × (Group × Group))) → i < length ps → All (λ p. IsToldAt d p p.1.1) ps → map (λ p. p.1.1) ps ≡ c.groups
        → ((p : Submitted × (Group × Group)) × (i < length ps) × (slice_get ps i ≡ Some p) × (get_or ps i p ≡ p))
        ⊎ ((length ps ≤ i) × (slice_get ps i ≡ None)) → Picked d ps i after
    by ps within facts lasts (inl found) =
        let p : Submitted × (Group × Group) = found.0 in
        let last : p.1.1 ≡ after = ap (λ (q : Submitted × (Group × Group)). q.1.1) (sym found.3) ∙ sym (get_or-map (λ q. q.1.1) ps i p after within)
        ∙ ap (λ (l : List Group). get_or l i after) lasts ∙ sym e in
        let told : IsToldAt d p p.1.1 = subst (λ (q : Submitted × (Group × Group)). IsToldAt d q q.1.1) found.3 (facts i p within) in
        let next : i + 1 ≡ suc i = omega arith in
        record {
          one = p;
          rest = drop-cons ps i p within ∙ ap (λ (q : Submitted × (Group × Group)). q ∷ drop (suc i) ps) found.3 ∙ ap (λ (n : ℕ). p ∷ drop n ps) (sym next);
          told = subst (IsToldAt d p) last told;
        }
    by ps within facts lasts (inr past) = absurd (let far : length ps ≤ i = past.0 in omega (arith, far, within))

-- endings, one after another
pub endings_cons : (p : Submitted × (Group × Group)) (ps : List (Submitted × (Group × Group))) → endings_of (p ∷ ps) ≡ endings_of (p ∷ []) ++ endings_of ps
endings_cons p ps = by (is_open p.1.0)
  where
    by : (b : Bool) → map ending_of (cond b (p ∷ filter (λ q. is_open q.1.0) ps) (filter (λ q. is_open q.1.0) ps))
        ≡ map ending_of (cond b (p ∷ []) []) ++ endings_of ps
    by true = refl
    by false = refl

-- ---- as they are found

-- what it was is the group at the place of its number
pub before_is : (d : DeskSeen) (p : Submitted × (Group × Group)) (after : Group) → IsToldAt d p after → group_of d.progress.groups after.number ≡ p.1.0
before_is d p after h = get_or_from_slice_get d.progress.groups (after.number.0 - 1) p.1.0 no_group h.before

pub submitted_is : (d : DeskSeen) (p : Submitted × (Group × Group)) (after : Group) (w : Submitted) → IsToldAt d p after
    → slice_get d.groups (after.number.0 - 1) ≡ Some w → w ≡ p.0
submitted_is d p after w h e = same_Some w p.0 (sym e ∙ h.submitted)

pub within_groups : (d : DeskSeen) (p : Submitted × (Group × Group)) (after : Group) → IsToldAt d p after → after.number.0 ≤ length d.progress.groups
within_groups d p after h = let l : after.number.0 - 1 < length d.progress.groups =
    slice_get_within d.progress.groups (after.number.0 - 1) p.1.0 h.before in omega (arith, l)

pub none_ends : (d : DeskSeen) (p : Submitted × (Group × Group)) (before after : Group) → IsToldAt d p after → before ≡ group_of d.progress.groups after.number
    → is_open before ≡ false → endings_of (p ∷ []) ≡ []
none_ends d p before after h e closed =
    ap (λ (b : Bool). map ending_of (cond b (p ∷ []) [])) (ap is_open (sym (e ∙ before_is d p after h)) ∙ closed)

pub one_ends : (d : DeskSeen) (p : Submitted × (Group × Group)) (w : Submitted) (before after : Group) → IsToldAt d p after
    → slice_get d.groups (after.number.0 - 1) ≡ Some w
    → before ≡ group_of d.progress.groups after.number → is_open before ≡ true
    → endings_of (p ∷ []) ≡ ending_of (w, (before, after)) ∷ []
one_ends d p w before after h s e opened =
    let was : before ≡ p.1.0 = e ∙ before_is d p after h in
    let sub : w ≡ p.0 = submitted_is d p after w h s in
    ap (λ (b : Bool). map ending_of (cond b (p ∷ []) [])) (ap is_open (sym was) ∙ opened)
    ∙ ap (λ (x : Submitted). ending_of (x, (p.1.0, p.1.1)) ∷ []) (sym sub)
    ∙ ap (λ (x : Group). ending_of (w, (x, p.1.1)) ∷ []) (sym was)
    ∙ ap (λ (x : Group). ending_of (w, (before, x)) ∷ []) h.is

-- as many as are told
pub told_length : (d : DeskSeen) (c : Change) → IsDesk d → CanChange d.progress c → length (told_along c.groups d (changed d.progress c)) ≡ length c.groups
told_length d c h can = sym (length-map (told_along c.groups d (changed d.progress c)) (λ p. p.1.1)) ∙ ap length (told_lasts d c h can)
