-- A withdrawal and a new group commute.
use Rattle.std.proofs.Common.{◌≡◌, ℕ, ◌+◌, ◌≤◌, Bool, true, false, ◌&&◌, ◌||◌, List, [], ◌∷◌, ◌++◌, length, map, filter, get_or, refl, sym, ◌∙◌, ap, arith}
use Rattle.std.specs.List.{AllZip, list_any}
use Rattle.std.proofs.lemmas.Bool.{and_left, or_parts, cond-false}
use Rattle.std.proofs.lemmas.List.{map-append}
use Rattle.std.proofs.lemmas.List.Folds.{list_any-append}
use Rattle.plan_base.specs.declared.number.GroupNo.{GroupNo}
use Rattle.plan_base.specs.declared.number.RequestNo.{RequestNo}
use Rattle.plan_base.specs.declared.parts.Op.{Op}
use Rattle.plan_base.specs.States.{is_pending}
use Rattle.desk_runs.specs.declared.group.Ask.{Ask}
use Rattle.desk_runs.specs.declared.group.Group.{Group}
use Rattle.desk_runs.specs.declared.group.Request.{Request}
use Rattle.desk_runs.specs.declared.observation.Observation.{Observation}
use Rattle.desk_runs.specs.Numbers.{requests_of, is_group, is_request, is_pending_at}
use Rattle.desk_runs.specs.Progress.{Progress}
use Rattle.desk_runs.specs.Adding.{requests_from, next_group, with_group}
use Rattle.desk_runs.specs.Reports.{canceled, withdrawn}
use Rattle.desk_runs.specs.Sound.{IsSound, IsLater, AllPending}
use Rattle.desk_runs.proofs.Settling.{facts_of}
use Rattle.desk_runs.proofs.Later.{later_canceled}
use Rattle.desk_runs.proofs.Places.{differs}
use Rattle.desk_runs.proofs.Moves.{filter_same}
use Rattle.desk_runs.proofs.Opened.{as_many, as_many_requests}
use Rattle.desk_runs.proofs.Single.{change_where, all_later}
use Rattle.desk_runs.proofs.Adding.{pending_low, new_free}

-- the next group is the same where the same numbers are taken
same_next : (op : Op) (asks : List Ask) (s t : Progress) → length t.groups ≡ length s.groups
    → length (requests_of t.groups) ≡ length (requests_of s.groups) → next_group op asks t ≡ next_group op asks s
same_next op asks s t g r =
    ap (λ (n : ℕ). let x : Group = record { number = record { 0 = n + 1 }; op = op; requests = requests_from (length (requests_of t.groups) + 1) asks } in x) g
    ∙ ap (λ (n : ℕ). let x : Group = record { number = record { 0 = length s.groups + 1 }; op = op; requests = requests_from (n + 1) asks } in x) r

none_with : (p q : Request → Bool) (xs : List Request) → list_any p xs ≡ false → list_any (λ x. p x && q x) xs ≡ false
none_with p q [] e = refl
none_with p q (x ∷ xs) e =
    let parts = or_parts (p x) (list_any p xs) e in
    ap (λ (b : Bool). b || list_any (λ y. p y && q y) xs) (and_left (p x) (q x) parts.0) ∙ none_with p q xs parts.1

or_false : (b : Bool) → (b || false) ≡ b
or_false true = refl
or_false false = refl

-- the new group has none of the requests before it
not_new : (op : Op) (asks : List Ask) (s : Progress) (gs : List Group) (number : RequestNo) → number.0 ≤ length (requests_of s.groups)
    → is_pending_at (gs ++ next_group op asks s ∷ []) number ≡ is_pending_at gs number
not_new op asks s gs number low =
    let has : Group → Bool = λ g. list_any (λ q. is_request number q && is_pending q.state) g.requests in
    list_any-append has gs (next_group op asks s ∷ [])
    ∙ ap (λ (b : Bool). is_pending_at gs number || (b || false))
    (none_with (is_request number) (λ q. is_pending q.state) (next_group op asks s).requests
    (new_free (length (requests_of s.groups)) asks number low))
    ∙ or_false (is_pending_at gs number)

pub withdrawal_commutes : (s : Progress) (n : GroupNo) (op : Op) (asks : List Ask) → IsSound s → n.0 ≤ length s.groups
    → withdrawn n (with_group op asks s) ≡ with_group op asks (withdrawn n s)
withdrawal_commutes s n op asks h low =
    let f : Group → Group = change_where (is_group n) canceled in
    let hs : List Group = map f s.groups in
    let g : Group = next_group op asks s in
    let later : AllZip IsLater s.groups hs = all_later (is_group n) canceled later_canceled s.groups in
    let next : next_group op asks (withdrawn n s) ≡ g = same_next op asks s (withdrawn n s) (as_many s.groups hs later) (as_many_requests s.groups hs later) in
    let other : is_group n g ≡ false = differs g.number.0 n.0 (λ same. absurd (omega arith)) in
    let stays : f g ≡ g = cond-false (is_group n g) (canceled g) g other in
    let groups : map f (s.groups ++ g ∷ []) ≡ hs ++ next_group op asks (withdrawn n s) ∷ [] =
    map-append f s.groups (g ∷ []) ∙ ap (λ (x : Group). hs ++ x ∷ []) (stays ∙ sym next) in
    let pending : AllPending s.groups s.kept = (facts_of s h.settled).pending in
    let kept : filter (λ o. is_pending_at (map f (s.groups ++ g ∷ [])) o.request) s.kept ≡ filter (λ o. is_pending_at hs o.request) s.kept =
    ap (λ (l : List Group). filter (λ o. is_pending_at l o.request) s.kept) (groups ∙ ap (λ (x : Group). hs ++ x ∷ []) next)
    ∙ filter_same (λ o. is_pending_at (hs ++ g ∷ []) o.request) (λ o. is_pending_at hs o.request) s.kept
    (λ k d l. not_new op asks s hs (get_or s.kept k d).request (pending_low s.groups (get_or s.kept k d).request h.numbered (pending k d l))) in
    ap (λ (l : List Observation). let p : Progress = record s { groups = map f (s.groups ++ g ∷ []); kept = l } in p) kept
    ∙ ap (λ (l : List Group). let p : Progress = record s { groups = l; kept = filter (λ o. is_pending_at hs o.request) s.kept } in p) groups
