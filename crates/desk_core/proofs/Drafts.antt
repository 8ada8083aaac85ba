-- What is so of a group that is added for a document.
use Rattle.std.proofs.Common.{◌≡◌, ◌∙◌, ap, refl, ℕ, suc, ◌+◌, ◌-◌, ◌<◌, ◌≤◌, List, [], ◌∷◌, ◌++◌, All, length, map, get_or, arith}
use Rattle.std.specs.List.{All}
use Rattle.std.proofs.lemmas.List.Elements.{All-nil, All-cons, All-head, All-tail}
use Rattle.plan_base.specs.Snapshot.{most_requests}
use Rattle.plan_base.specs.declared.number.GroupNo.{GroupNo}
use Rattle.plan_base.specs.declared.number.Sec.{Sec}
use Rattle.plan_base.specs.declared.parts.Op.{Op}
use Rattle.plan_base.specs.declared.parts.Op.TheVariants.{Single, Many, OneOf, And}
use Rattle.desk_runs.specs.declared.group.Ask.{Ask}
use Rattle.desk_runs.specs.declared.group.Group.{Group}
use Rattle.desk_runs.specs.Adding.{requests_from, next_group, with_group}
use Rattle.desk_runs.specs.Progress.{Progress}
use Rattle.desk_runs.specs.Turning.{no_group, group_of}
use Rattle.desk_runs.proofs.Adding.{asked_length}
use Rattle.desk_core.specs.declared.asking.Made.{Made}
use Rattle.desk_core.specs.Asking.{MadeSeen, seen_made}
use Rattle.desk_core.specs.Submitting.{asks_of}
use Rattle.desk_core.specs.Making.{IsMade}
use Rattle.desk_core.proofs.Makings.{ends_later}

-- ---- what is asked for

-- what is so of the requests as they are seen is so of them
pub short_made : (now : Sec) (made : List Made) → All (IsMade now) (map seen_made made) → All (λ m. m.seconds ≤ 86400) made
short_made now [] h = All-nil (λ m. m.seconds ≤ 86400)
short_made now (m ∷ ms) h = All-cons (λ m. m.seconds ≤ 86400) m ms (All-head (IsMade now) (seen_made m) (map seen_made ms) h).seconds.high
    (short_made now ms (All-tail (IsMade now) (seen_made m) (map seen_made ms) h))

pub late_asks : (now : Sec) (made : List MadeSeen) → All (IsMade now) made → All (λ a. now.0 < a.last.0) (asks_of made)
late_asks now [] h = All-nil (λ a. now.0 < a.last.0)
late_asks now (m ∷ ms) h =
    All-cons (λ a. now.0 < a.last.0) _ (asks_of ms) (ends_later now m.windows (All-head (IsMade now) m ms h).late)
    (late_asks now ms (All-tail (IsMade now) m ms h))

pub count_asks : (made : List MadeSeen) → length (asks_of made) ≡ length made
count_asks [] = refl
count_asks (m ∷ ms) = ap suc (count_asks ms)

-- ---- the group

pub few_of : (op : Op) (n : ℕ) → n ≤ most_requests op → n ≤ 256
few_of Single n h = omega arith
few_of Many n h = h
few_of OneOf n h = omega arith
few_of And n h = omega arith

-- the group that was added last
pub added_group : (op : Op) (asks : List Ask) (s : Progress) (number : GroupNo) → number.0 ≡ length s.groups + 1
    → group_of (with_group op asks s).groups number ≡ next_group op asks s
added_group op asks s number e =
    let place : number.0 - 1 ≡ length s.groups = omega (arith, e) in
    ap (λ (i : ℕ). get_or (with_group op asks s).groups i no_group) place ∙ last s.groups (next_group op asks s)
  where
    last : (gs : List Group) (g : Group) → get_or (gs ++ g ∷ []) (length gs) no_group ≡ g
    last [] g = refl
    last (x ∷ gs) g = last gs g

short_from : (n : ℕ) (now : Sec) (made : List MadeSeen) → All (IsMade now) made → All (λ q. q.seconds ≤ 86400) (requests_from n (asks_of made))
short_from n now [] h = All-nil (λ q. q.seconds ≤ 86400)
short_from n now (m ∷ ms) h =
    All-cons (λ q. q.seconds ≤ 86400) _ (requests_from (n + 1) (asks_of ms)) (All-head (IsMade now) m ms h).seconds.high
    (short_from (n + 1) now ms (All-tail (IsMade now) m ms h))

pub added_count : (op : Op) (made : List MadeSeen) (s : Progress) → length (next_group op (asks_of made) s).requests ≡ length made
added_count op made s = asked_length _ (asks_of made) ∙ count_asks made

pub added_short : (op : Op) (now : Sec) (made : List MadeSeen) (s : Progress) → All (IsMade now) made
    → All (λ q. q.seconds ≤ 86400) (next_group op (asks_of made) s).requests
added_short op now made s h = short_from _ now made h
