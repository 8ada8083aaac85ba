-- A charge, before and after groups have gone on.
use Rattle.std.proofs.Common.{◌≡◌, ℕ, ◌+◌, ◌≤◌, Bool, true, false, cond, List, [], ◌∷◌, fold, All, refl, sym, ◌∙◌, ap, subst, arith, Option, Some, None}
use Rattle.std.specs.Option.{IfSome, option_map_or}
use Rattle.std.specs.Bool.{IsTrue}
use Rattle.std.proofs.lemmas.List.Elements.{All-head, All-tail}
use Rattle.plan_base.specs.declared.number.GroupNo.{GroupNo}
use Rattle.plan_base.specs.declared.number.RequestNo.{RequestNo}
use Rattle.allocations.specs.declared.entry.Entry.{Entry}
use Rattle.allocations.specs.declared.entry.Hold.{Hold}
use Rattle.allocations.specs.declared.key.Key.{Key}
use Rattle.allocations.specs.Books.{Books, has_grant, balance_of, held_of, available_of}
use Rattle.allocations.specs.Changes.{with_entry, request_entry, released, refunded}
use Rattle.desk_runs.specs.declared.group.Group.{Group}
use Rattle.desk_runs.specs.Numbers.{group_with}
use Rattle.desk_runs.specs.Progress.{Progress}
use Rattle.desk_runs.specs.States.{is_open}
use Rattle.desk_core.specs.declared.desk.Submitted.{Submitted}
use Rattle.desk_core.specs.declared.desk.Wanted.{Wanted}
use Rattle.desk_core.specs.Desk.{DeskSeen}
use Rattle.desk_core.specs.Holds.{key_of, held_by, is_refunded, after_group, groups_along, with_progress}
use Rattle.desk_core.specs.Timing.{charged}

-- ---- where nothing is refunded

step_first : (n : GroupNo) (hs : List Hold) (e : Entry) (books : Books) (a b : Bool) → b ≡ false
    → cond a (cond b (refunded n (released n hs (with_entry e books))) (released n hs (with_entry e books))) (with_entry e books)
    ≡ with_entry e (cond a (cond b (refunded n (released n hs books)) (released n hs books)) books)
step_first n hs e books true true no_refund = cc
step_first n hs e books true false no_refund = refl
step_first n hs e books false b no_refund = refl

-- an entry may be made before groups go on, or after
pub entry_first : (e : Entry) (books : Books) (ps : List (Submitted × (Group × Group))) → All (λ p. is_refunded p.1.0 p.1.1 ≡ false) ps
    → fold after_group (with_entry e books) ps ≡ with_entry e (fold after_group books ps)
entry_first e books [] h = refl
entry_first e books (p ∷ ps) h =
    ap (λ (b : Books). fold after_group b ps)
    (step_first p.1.1.number (held_by p.0 p.1.1) e books (is_open p.1.0) (is_refunded p.1.0 p.1.1)
    (All-head (λ q. is_refunded q.1.0 q.1.1 ≡ false) p ps h))
    ∙ entry_first e (after_group books p) ps (All-tail (λ q. is_refunded q.1.0 q.1.1 ≡ false) p ps h)

step_entries : (n : GroupNo) (hs : List Hold) (books : Books) (a b : Bool) → b ≡ false
    → (cond a (cond b (refunded n (released n hs books)) (released n hs books)) books).entries ≡ books.entries
step_entries n hs books true true no_refund = cc
step_entries n hs books true false no_refund = refl
step_entries n hs books false b no_refund = refl

-- and no entry is made
pub entries_stay : (books : Books) (ps : List (Submitted × (Group × Group))) → All (λ p. is_refunded p.1.0 p.1.1 ≡ false) ps
    → (fold after_group books ps).entries ≡ books.entries
entries_stay books [] h = refl
entries_stay books (p ∷ ps) h =
    entries_stay (after_group books p) ps (All-tail (λ q. is_refunded q.1.0 q.1.1 ≡ false) p ps h)
    ∙ step_entries p.1.1.number (held_by p.0 p.1.1) books (is_open p.1.0) (is_refunded p.1.0 p.1.1) (All-head (λ q. is_refunded q.1.0 q.1.1 ≡ false) p ps h)

-- ---- what is available

covered_at : (r : Option ℕ) (x : ℕ) (P : ℕ → Type 0) → r ≡ Some x → IfSome r P → P x
covered_at r x P e h = let Q : Option ℕ → Type 0 = λ o. IfSome o P in subst Q e h

granted_some : (b : Bool) (x : ℕ) → b ≡ true → (let o : Option ℕ = cond b (Some x) None in o) ≡ Some x
granted_some true x e = refl
granted_some false x e = cc

-- where less is held than before by at least this, this is available
pub enough : (before after : Books) (key : Key) (used : ℕ) (r : Option ℕ) → IsTrue (has_grant before.entries key)
    → r ≡ cond (has_grant before.entries key) (Some (available_of before key)) None
    → IfSome r (λ a. a + held_of before.holds key ≡ balance_of before.entries key)
    → after.entries ≡ before.entries → used + held_of after.holds key ≤ held_of before.holds key → used ≤ available_of after key
enough before after key used r granted is covered same less =
    let all : available_of before key + held_of before.holds key ≡ balance_of before.entries key =
    covered_at r (available_of before key) (λ a. a + held_of before.holds key ≡ balance_of before.entries key)
    (is ∙ granted_some (has_grant before.entries key) (available_of before key) granted) covered in
    let balance : balance_of after.entries key ≡ balance_of before.entries key = ap (λ (xs : List Entry). balance_of xs key) same in
    omega (arith, all, balance, less)

-- ---- the desk then

pub charged_then : (d : DeskSeen) (after : Progress) (number : RequestNo) (used : ℕ) (w : Submitted) (v : Wanted) (g : Group) (key : Key) (group : GroupNo)
    → All (λ p. is_refunded p.1.0 p.1.1 ≡ false) (groups_along d after)
    → key ≡ key_of w.document v → group_with d.progress.groups number ≡ Some g → g.number ≡ group
    → record (with_progress after d) { books = with_entry (request_entry key used group number) (with_progress after d).books }
    ≡ with_progress after (charged number used w v d)
charged_then d after number used w v g key group none k known n =
    let e : Entry = request_entry key used group number in
    let entry : request_entry (key_of w.document v) used g.number number ≡ e =
    ap (λ (x : Key). request_entry x used g.number number) (sym k) ∙ ap (λ (x : GroupNo). request_entry key used x number) n in
    let books : (charged number used w v d).books ≡ with_entry e d.books =
    ap (λ (o : Option Group). option_map_or (λ x. with_entry (request_entry (key_of w.document v) used x.number number) d.books) o d.books) known
    ∙ ap (λ (x : Entry). with_entry x d.books) entry in
    ap (λ (b : Books). let x : DeskSeen = record d { books = b; progress = after } in x) (sym (entry_first e d.books (groups_along d after) none))
    ∙ ap (λ (b : Books). let x : DeskSeen = record d { books = fold after_group b (groups_along d after); progress = after } in x) (sym books)
