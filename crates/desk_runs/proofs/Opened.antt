-- The open groups, once groups have gone on.
use Rattle.std.proofs.Common.{◌≡◌, ◌+◌, ◌<◌, ◌≤◌, ◌&&◌, Bool, true, false, cond, List, [], ◌∷◌, length, map, filter, All, get_or, refl, sym, ◌∙◌, ap}
use Rattle.std.proofs.Common.{arith, inl, inr}
use Rattle.std.specs.List.{AllZip, list_any}
use Rattle.std.proofs.lemmas.Bool.{or_cases, or_left, or_right, lt-ltb}
use Rattle.std.proofs.lemmas.List.{length-map}
use Rattle.std.proofs.lemmas.List.Elements.{All-head, All-tail, All-map, All-filter, length_all_zip}
use Rattle.plan_base.specs.declared.number.GroupNo.{GroupNo}
use Rattle.desk_runs.specs.declared.group.Group.{Group}
use Rattle.desk_runs.specs.declared.group.Request.{Request}
use Rattle.plan_base.specs.States.{is_pending}
use Rattle.desk_runs.specs.States.{is_open}
use Rattle.desk_runs.specs.Numbers.{requests_of}
use Rattle.desk_runs.specs.Turning.{is_open_at, group_of}
use Rattle.desk_runs.specs.Sound.{IsCounted, IsNumbered, IsLaterRequest, IsLater}
use Rattle.desk_runs.proofs.Later.{all_numbers}
use Rattle.desk_runs.proofs.Places.{number_at, stands}

pending_back : (xs ys : List Request) → AllZip IsLaterRequest xs ys → list_any (λ q. is_pending q.state) ys ≡ true
    → list_any (λ q. is_pending q.state) xs ≡ true
pending_back [] [] z e = e
pending_back [] (y ∷ ys) z e = absurd z
pending_back (x ∷ xs) [] z e = absurd z
pending_back (x ∷ xs) (y ∷ ys) z e = elim (or_cases (is_pending y.state) (list_any (λ q. is_pending q.state) ys) e) [
  | inl here ↦ or_left (is_pending x.state) (list_any (λ q. is_pending q.state) xs) (ap is_pending (sym (z.0.pending here)) ∙ here)
  | inr there ↦ or_right (is_pending x.state) (list_any (λ q. is_pending q.state) xs) (pending_back xs ys z.1 there)
]

-- a group that is open later was open
pub open_back : (g h : Group) → IsLater g h → is_open h ≡ true → is_open g ≡ true
open_back g h later e = pending_back g.requests h.requests later.requests e

keep_step : (p : GroupNo → Bool) (g h : Group) (fg fh : List Group) (a b : Bool) → (b ≡ true → a ≡ true) → p g.number ≡ b → h.number ≡ g.number
    → filter p (map (λ x. x.number) fg) ≡ map (λ x. x.number) fh
    → filter p (map (λ x. x.number) (cond a (g ∷ fg) fg)) ≡ map (λ x. x.number) (cond b (h ∷ fh) fh)
keep_step p g h fg fh true true imp e n r =
    ap (λ (v : Bool). cond v (g.number ∷ filter p (map (λ x. x.number) fg)) (filter p (map (λ x. x.number) fg))) e
    ∙ ap (λ (k : GroupNo). k ∷ filter p (map (λ x. x.number) fg)) (sym n) ∙ ap (λ (l : List GroupNo). h.number ∷ l) r
keep_step p g h fg fh true false imp e n r = ap (λ (v : Bool). cond v (g.number ∷ filter p (map (λ x. x.number) fg)) (filter p (map (λ x. x.number) fg))) e ∙ r
keep_step p g h fg fh false true imp e n r = let bad : false ≡ true = imp refl in cc
keep_step p g h fg fh false false imp e n r = r

-- of the numbers of the groups that were open, those of groups that still are
pub open_kept : (p : GroupNo → Bool) (gs hs : List Group) → AllZip IsLater gs hs → All (λ h. p h.number ≡ is_open h) hs
    → filter p (map (λ g. g.number) (filter is_open gs)) ≡ map (λ g. g.number) (filter is_open hs)
open_kept p [] [] z h = refl
open_kept p [] (y ∷ ys) z h = absurd z
open_kept p (x ∷ xs) [] z h = absurd z
open_kept p (x ∷ xs) (y ∷ ys) z h =
    keep_step p x y (filter is_open xs) (filter is_open ys) (is_open x) (is_open y) (open_back x y z.0)
    (ap p (sym z.0.number) ∙ All-head (λ g. p g.number ≡ is_open g) y ys h) z.0.number
    (open_kept p xs ys z.1 (All-tail (λ g. p g.number ≡ is_open g) y ys h))

-- each group is found open by its number where it is open
pub open_at : (gs : List Group) → IsCounted (map (λ g. g.number.0) gs) → All (λ g. is_open_at gs g.number ≡ is_open g) gs
open_at gs h = λ k d l.
    let g : Group = get_or gs k d in
    let number : g.number.0 ≡ k + 1 = number_at gs k d h l in
    let above : 0 < g.number.0 = omega arith in
    ap (λ (v : Bool). v && is_open (group_of gs g.number)) (lt-ltb 0 g.number.0 above) ∙ ap is_open (stands gs h k d l)

-- ---- once a change is made

-- the open groups after a change
pub opened_after : (gs hs : List Group) (numbers kept : List GroupNo) → AllZip IsLater gs hs → IsNumbered hs
    → numbers ≡ map (λ g. g.number) (filter is_open gs) → kept ≡ filter (is_open_at hs) numbers → kept ≡ map (λ g. g.number) (filter is_open hs)
opened_after gs hs numbers kept later n e k = k ∙ ap (filter (is_open_at hs)) e ∙ open_kept (is_open_at hs) gs hs later (open_at hs n.groups)

-- as many groups, and as many requests
pub as_many : (gs hs : List Group) → AllZip IsLater gs hs → length hs ≡ length gs
as_many gs hs later = sym (length_all_zip IsLater gs hs later)

pub as_many_requests : (gs hs : List Group) → AllZip IsLater gs hs → length (requests_of hs) ≡ length (requests_of gs)
as_many_requests gs hs later =
    sym (length-map (requests_of hs) (λ q. q.number.0)) ∙ ap length (all_numbers gs hs later) ∙ length-map (requests_of gs) (λ q. q.number.0)

-- the numbers of open groups are those of groups that are there
pub open_in_range : (gs : List Group) → IsCounted (map (λ g. g.number.0) gs)
    → All (λ n. (1 ≤ n.0) × (n.0 ≤ length gs)) (map (λ g. g.number) (filter is_open gs))
open_in_range gs h =
    All-map (λ n. (1 ≤ n.0) × (n.0 ≤ length gs)) (λ g. g.number) (filter is_open gs)
    (All-filter is_open (λ g. (1 ≤ g.number.0) × (g.number.0 ≤ length gs)) gs
    (λ k d l. let number : (get_or gs k d).number.0 ≡ k + 1 = number_at gs k d h l in (omega arith, omega arith)))
