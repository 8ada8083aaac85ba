-- A group that is submitted: its requests have the accounts of its document's, and its charge is told.
use Rattle.std.proofs.Common.{◌≡◌, ◌∙◌, ap, sym, subst, refl, ℕ, suc, ◌+◌, ◌≤◌, nat_lt, Bool, true, false, cond, List, [], ◌∷◌, ◌++◌, length, map}
use Rattle.std.proofs.Common.{Option, Some, None, Result, Ok, Err, arith}
use Rattle.std.specs.List.{zip, enumerate_from, list_any}
use Rattle.std.specs.Option.{option_to_list}
use Rattle.std.proofs.lemmas.Bool.{eqb-true, ltb-false}
use Rattle.std.proofs.lemmas.List.{append-nil, map-append, length-map}
use Rattle.plan_base.specs.declared.number.GroupNo.{GroupNo}
use Rattle.plan_base.specs.declared.number.RequestNo.{RequestNo}
use Rattle.plan_base.specs.declared.parts.Op.{Op}
use Rattle.plan_base.specs.declared.parts.Op.TheVariants.{Single, Many, OneOf, And}
use Rattle.plan_base.specs.declared.span.Span.{Span}
use Rattle.request_model.specs.Group.{is_shape}
use Rattle.request_model.specs.Ranges.{IsGroup}
use Rattle.request_model.specs.declared.group.GroupDoc.{GroupDoc}
use Rattle.request_model.specs.declared.request.RequestDoc.{RequestDoc}
use Rattle.request_model.specs.declared.request.When.{When}
use Rattle.request_model.specs.declared.request.When.TheVariants.{Windows, Cadence}
use Rattle.allocations.specs.declared.entry.Hold.{Hold}
use Rattle.allocations.specs.declared.key.Key.{Key}
use Rattle.allocations.specs.Changes.{charge_entry}
use Rattle.allocations.specs.Key.{is_key}
use Rattle.allocations.specs.Refusals.{ipp_key, proposal_of}
use Rattle.desk_runs.specs.Adding.{requests_from}
use Rattle.desk_runs.specs.declared.group.Group.{Group}
use Rattle.desk_events.specs.declared.refusal.Refusal.{Refusal}
use Rattle.desk_events.specs.declared.refusal.Refusal.TheVariants.{OutsideSemester, WindowPast, NoTelescope}
use Rattle.desk_core.specs.declared.desk.Submitted.{Submitted}
use Rattle.plan_base.specs.Operators.{is_single}
use Rattle.desk_core.specs.Asking.{follows, turned_into, seconds_for, windows_for, is_outside, is_past, is_fitted, made_with, tested}
use Rattle.desk_core.specs.Asking.{made_from, gathered, made_of, MadeSeen}
use Rattle.desk_core.specs.Desk.{DeskSeen}
use Rattle.desk_core.specs.Kept.{IsDesk}
use Rattle.desk_core.specs.Making.{AreMade}
use Rattle.desk_core.specs.Submitting.{wanted_of, asks_of, group_of, holds_for, charge_for, submitted_of, with_submission, numbers_for, targets_with}
use Rattle.desk_core.proofs.Submissions.{booked_proposal}
use Rattle.desk_core.proofs.WentOn.{as_submitted}
use Rattle.desk_accounts.specs.Balance.{GroupTold, group_accounts, asked_for, key_for, account_at, seconds_on}
use Rattle.desk_accounts.proofs.Known.{groups_in, member_account, AreKnown, known_more, group_accounts-append, all_low}
use Rattle.desk_accounts.proofs.Numbered.{behind, at_head}
use Rattle.desk_accounts.proofs.Refunds.{IsClosedIn, closed_more}
use Rattle.desk_accounts.proofs.Tallies.{Tally, tally_of, charge_tally, Adds}

-- ---- what is asked for

-- the part of the document that a request is made from
abbrev pub asked_of : List MadeSeen → List RequestDoc
asked_of made = map (λ m. m.asked) made

-- all are made from the same part, one for each list of windows
abbrev pub same_for : {X : Type 0} → RequestDoc → List X → List RequestDoc
same_for q xs = map (λ x. q) xs

as_many : {X Y : Type 0} (q : RequestDoc) (xs : List X) (ys : List Y) → length xs ≡ length ys → same_for q xs ≡ same_for q ys
as_many q [] [] n = refl
as_many q [] (y ∷ ys) n = absurd (omega arith)
as_many q (x ∷ xs) [] n = absurd (omega arith)
as_many q (x ∷ xs) (y ∷ ys) n = ap (λ (l : List RequestDoc). q ∷ l) (as_many q xs ys (omega arith))

asked_with : (q : RequestDoc) (seconds : ℕ) (lists : List (List Span)) → asked_of (made_with q seconds lists) ≡ same_for q lists
asked_with q seconds [] = refl
asked_with q seconds (l ∷ lists) = ap (λ (qs : List RequestDoc). q ∷ qs) (asked_with q seconds lists)

tested_is : (d : DeskSeen) (index : ℕ) (q : RequestDoc) (seconds : ℕ) (lists : List (List Span)) (made : List MadeSeen)
    → tested d index q seconds lists ≡ Ok made → made_with q seconds lists ≡ made
tested_is d index q seconds lists made e = by (is_outside d.opening.semester lists) (list_any (is_past d.progress.moment) lists)
    (is_fitted d.network.registry q) e
  where
    by : (a b c : Bool)
        → (let r : Result (List MadeSeen) Refusal =
        cond a (Err (OutsideSemester index)) (cond b (Err (WindowPast index)) (cond c (Ok (made_with q seconds lists)) (Err (NoTelescope index)))) in
        r) ≡ Ok made
        → made_with q seconds lists ≡ made
    by true b c f = cc
    by false true c f = cc
    by false false true f = cc
    by false false false f = cc

-- only a SINGLE has more than one list of windows
one_list : (op : Op) (index seconds : ℕ) (when : When) (lists : List (List Span)) → is_single op ≡ false
    → windows_for op index seconds when ≡ Ok lists → length lists ≡ 1
one_list op index seconds (Windows ws) lists other e = let same : ws ∷ [] ≡ lists = cc in ap length (sym same)
one_list op index seconds (Cadence c) lists other e = let bad = rw other at e in absurd (cc)

-- what is made from one part
pub record AreFrom (op : Op) (q : RequestDoc) (made : List MadeSeen) : Type 0 where
  pub lists : List (List Span)
  pub asked : asked_of made ≡ same_for q lists
  pub one : is_single op ≡ false → length lists ≡ 1

are_from : (d : DeskSeen) (op : Op) (index : ℕ) (q : RequestDoc) (made : List MadeSeen) → made_from d op (index, q) ≡ Ok made → AreFrom op q made
are_from d op index q made e = by (seconds_for d.network.registry index q) e
  where
    listed : (seconds : ℕ) (r : Result (List (List Span)) Refusal) → windows_for op index seconds q.when ≡ r
        → follows r (tested d index q seconds) ≡ Ok made → AreFrom op q made
    listed seconds (Err refusal) t f = cc
    listed seconds (Ok lists) t f = record {
      lists = lists;
      asked = sym (ap asked_of (tested_is d index q seconds lists made f)) ∙ asked_with q seconds lists;
      one = λ other. one_list op index seconds q.when lists other t;
    }

    by : (r : Result ℕ Refusal) → follows r (λ seconds. follows (windows_for op index seconds q.when) (tested d index q seconds)) ≡ Ok made → AreFrom op q made
    by (Err refusal) f = cc
    by (Ok seconds) f = listed seconds (windows_for op index seconds q.when) refl f

only_one : {X : Type 0} (q : RequestDoc) (xs : List X) → length xs ≡ 1 → same_for q xs ≡ q ∷ []
only_one q [] n = absurd (omega arith)
only_one q (x ∷ []) n = refl
only_one q (x ∷ y ∷ xs) n = absurd (omega arith)

-- each request of a group that isn't a SINGLE is made from its part of the document
one_each : (d : DeskSeen) (op : Op) (index : ℕ) (qs : List RequestDoc) (made : List MadeSeen) → is_single op ≡ false
    → gathered (map (made_from d op) (enumerate_from index qs)) ≡ Ok made
    → asked_of made ≡ qs
one_each d op index [] made other e = let same : [] ≡ made = cc in ap asked_of (sym same)
one_each d op index (q ∷ qs) made other e = by (made_from d op (index, q)) refl e (λ rest. one_each d op (index + 1) qs rest other)
  where
    then : (first : List MadeSeen) (r : Result (List MadeSeen) Refusal) → gathered (map (made_from d op) (enumerate_from (index + 1) qs)) ≡ r
        → made_from d op (index, q) ≡ Ok first
        → turned_into r (λ rest. first ++ rest) ≡ Ok made
        → ((rest : List MadeSeen) → gathered (map (made_from d op) (enumerate_from (index + 1) qs)) ≡ Ok rest → asked_of rest ≡ qs)
        → asked_of made ≡ q ∷ qs
    then first (Err refusal) t is f others = cc
    then first (Ok rest) t is f others =
        let same : first ++ rest ≡ made = cc in
        let from : AreFrom op q first = are_from d op index q first is in
        ap asked_of (sym same)
        ∙ map-append (λ (m : MadeSeen). m.asked) first rest
        ∙ ap (λ (l : List RequestDoc). l ++ asked_of rest) (from.asked ∙ only_one q from.lists (from.one other))
        ∙ ap (λ (l : List RequestDoc). q ∷ l) (others rest t)

    by : (r : Result (List MadeSeen) Refusal) → made_from d op (index, q) ≡ r
        → follows r (λ first. turned_into (gathered (map (made_from d op) (enumerate_from (index + 1) qs))) (λ rest. first ++ rest)) ≡ Ok made
        → ((rest : List MadeSeen) → gathered (map (made_from d op) (enumerate_from (index + 1) qs)) ≡ Ok rest → asked_of rest ≡ qs) → asked_of made ≡ q ∷ qs
    by (Err refusal) is f others = cc
    by (Ok first) is f others = then first (gathered (map (made_from d op) (enumerate_from (index + 1) qs))) refl is f others

not_single : (op : Op) (n : ℕ) → 2 ≤ n → is_shape op n ≡ true → is_single op ≡ false
not_single Single n many e = let one = eqb-true n 1 e in absurd (omega arith)
not_single Many n many e = refl
not_single OneOf n many e = refl
not_single And n many e = refl

asked_list : (d : DeskSeen) (op : Op) (qs : List RequestDoc) (made : List MadeSeen) (numbers : List RequestNo) → is_shape op (length qs) ≡ true
    → gathered (map (made_from d op) (enumerate_from 0 qs)) ≡ Ok made → length numbers ≡ length made → asked_for qs numbers ≡ asked_of made
asked_list d op [] made numbers shape e n = let same : [] ≡ made = cc in ap asked_of same
asked_list d op (q ∷ []) made numbers shape e n = by (made_from d op (0, q)) refl e
  where
    by : (r : Result (List MadeSeen) Refusal) → made_from d op (0, q) ≡ r
        → follows r (λ first. turned_into (gathered []) (λ rest. first ++ rest)) ≡ Ok made → same_for q numbers ≡ asked_of made
    by (Err refusal) is f = cc
    by (Ok first) is f =
        let same : first ++ [] ≡ made = cc in
        let from : AreFrom op q first = are_from d op 0 q first is in
        let all : asked_of made ≡ same_for q from.lists = sym (ap asked_of (sym (append-nil first) ∙ same)) ∙ from.asked in
        let count : length (asked_of made) ≡ length made = length-map made (λ m. m.asked) in
        let many : length (same_for q from.lists) ≡ length from.lists = length-map from.lists (λ x. q) in
        let equal : length numbers ≡ length from.lists = n ∙ sym count ∙ ap length all ∙ many in
        as_many q numbers from.lists equal ∙ sym all
asked_list d op (q ∷ p ∷ qs) made numbers shape e n = sym (one_each d op 0 (q ∷ p ∷ qs) made (not_single op (length (q ∷ p ∷ qs)) (omega arith) shape) e)

-- the requests that are made are from the parts that their numbers stand for
pub asked_is : (d : DeskSeen) (document : GroupDoc) (made : List MadeSeen) (numbers : List RequestNo) → IsGroup document
    → made_of d document ≡ Ok made → length numbers ≡ length made
    → asked_for document.requests numbers ≡ asked_of made
asked_is d document made numbers g e n = asked_list d document.op document.requests made numbers g.shape e n

-- ---- the new group

-- as it is told
abbrev pub told_group : DeskSeen → GroupDoc → List MadeSeen → GroupTold
told_group d document made =
    record { document = document; number = (group_of d document made).number; charged = charge_for d document made; requests = numbers_for d document made }

new_accounts : (document : GroupDoc) (targets : List (List ℕ)) (n : ℕ) (made : List MadeSeen)
    → zip (map (λ r. r.0) (map (λ q. q.number) (requests_from n (asks_of made)))) (map (key_for document) (asked_of made))
    ≡ map (member_account document) (zip (requests_from n (asks_of made)) (map (wanted_of targets document) made))
new_accounts document targets n [] = refl
new_accounts document targets n (m ∷ made) = ap (λ (l : List (ℕ × Key)). (n, key_for document m.asked) ∷ l) (new_accounts document targets (n + 1) made)

new_count : (n : ℕ) (made : List MadeSeen) → length (map (λ q. q.number) (requests_from n (asks_of made))) ≡ length made
new_count n [] = refl
new_count n (m ∷ made) = ap suc (new_count (n + 1) made)

one_known : (d : DeskSeen) (document : GroupDoc) (made : List MadeSeen) → IsGroup document → made_of d document ≡ Ok made
    → AreKnown (told_group d document made ∷ []) ((submitted_of d document made, group_of d document made) ∷ [])
one_known d document made g e = record {
  groups = refl;
  charges = refl;
  requests =
      let numbers : List RequestNo = numbers_for d document made in
      ap (λ (qs : List RequestDoc). zip (map (λ r. r.0) numbers) (map (key_for document) qs) ++ []) (asked_is d document made numbers g e (new_count _ made))
      ∙ ap (λ (l : List (ℕ × Key)). l ++ []) (new_accounts document (targets_with d document) _ made);
}

zip_more : {A B : Type 0} (xs : List A) (ys : List B) (x : A) (y : B) → length xs ≡ length ys → zip (xs ++ x ∷ []) (ys ++ y ∷ []) ≡ zip xs ys ++ (x, y) ∷ []
zip_more [] [] x y e = refl
zip_more [] (b ∷ ys) x y e = absurd (omega arith)
zip_more (a ∷ xs) [] x y e = absurd (omega arith)
zip_more {A} {B} (a ∷ xs) (b ∷ ys) x y e = ap (λ (l : List (A × B)). (a, b) ∷ l) (zip_more xs ys x y (omega arith))

-- the groups that are known then
pub submission_known : (told : List GroupTold) (d : DeskSeen) (document : GroupDoc) (made : List MadeSeen) → IsDesk d → IsGroup document
    → made_of d document ≡ Ok made
    → AreKnown told (groups_in d) → AreKnown (told ++ told_group d document made ∷ []) (groups_in (with_submission d document made))
submission_known told d document made h g e known =
    let w : Submitted = submitted_of d document made in
    let group : Group = group_of d document made in
    subst (AreKnown (told ++ told_group d document made ∷ [])) (sym (zip_more d.groups d.progress.groups w group (as_submitted d h)))
    (known_more told (groups_in d) (told_group d document made) (w, group) known (one_known d document made g e))

-- closed groups stay so
pub submission_stay : (d : DeskSeen) (document : GroupDoc) (made : List MadeSeen) (n : GroupNo) → IsDesk d → IsClosedIn (groups_in d) n
    → IsClosedIn (groups_in (with_submission d document made)) n
submission_stay d document made n h c =
    let w : Submitted = submitted_of d document made in
    let group : Group = group_of d document made in
    subst (λ (ps : List (Submitted × Group)). IsClosedIn ps n) (sym (zip_more d.groups d.progress.groups w group (as_submitted d h)))
    (closed_more (groups_in d) ((w, group) ∷ []) n c)

-- its ipp account is found, whatever is told later
pub new_paid : (told later : List GroupTold) (d : DeskSeen) (document : GroupDoc) (made : List MadeSeen) → IsDesk d → AreKnown told (groups_in d)
    → account_at (group_accounts (told ++ told_group d document made ∷ later)) (group_of d document made).number.0 ≡ Some (ipp_key document.proposal)
new_paid told later d document made h known =
    let g : GroupTold = told_group d document made in
    let n = (group_of d document made).number.0 in
    ap (λ (xs : List (ℕ × Key)). account_at xs n) (group_accounts-append told (g ∷ later))
    ∙ behind (group_accounts told) (group_accounts (g ∷ later)) n (all_low told d h known)
    ∙ at_head (n, ipp_key document.proposal) (group_accounts later)

-- ---- its charge

-- what is told of it
abbrev pub charge_by : List (ℕ × Key) → GroupNo → ℕ → Key → Tally
charge_by accounts group charged key = record { granted = 0; has = false; charged = seconds_on key (account_at accounts group.0) charged; back = 0 }

nothing_on : (key : Key) (o : Option Key) → seconds_on key o 0 ≡ 0
nothing_on key None = refl
nothing_on key (Some k) = by (is_key k key)
  where
    by : (b : Bool) → cond {A = ℕ} b 0 0 ≡ 0
    by true = refl
    by false = refl

-- the ipp charge, if there is one
abbrev pub charge_if : Bool → List ℕ → ℕ → Option Hold
charge_if b proposal charged = cond b (Some (record { key = ipp_key proposal; seconds = charged })) None

abbrev pub only_charged : ℕ → Tally
only_charged n = record { granted = 0; has = false; charged = n; back = 0 }

charge_is : (accounts : List (ℕ × Key)) (n : GroupNo) (proposal : List ℕ) (c : ℕ) (key : Key) (b : Bool)
    → account_at accounts n.0 ≡ Some (ipp_key proposal) → nat_lt 0 c ≡ b
    → tally_of (map (charge_entry n) (option_to_list (charge_if b proposal c))) key ≡ charge_by accounts n c key
charge_is accounts n proposal c key true found e =
    charge_tally n (record { key = ipp_key proposal; seconds = c }) key ∙ ap (λ (o : Option Key). only_charged (seconds_on key o c)) (sym found)
charge_is accounts n proposal c key false found e =
    let few = ltb-false 0 c e in
    let none : 0 ≡ c = omega arith in
    ap only_charged (sym (nothing_on key (account_at accounts n.0)) ∙ ap (seconds_on key (account_at accounts n.0)) none)

-- the ledger's entry is what is told
pub submission_adds : (accounts : List (ℕ × Key)) (d : DeskSeen) (document : GroupDoc) (made : List MadeSeen) → AreMade d.progress.moment document made
    → account_at accounts (group_of d document made).number.0 ≡ Some (ipp_key document.proposal)
    → Adds d.books.entries (with_submission d document made).books.entries (charge_by accounts (group_of d document made).number (charge_for d document made))
submission_adds accounts d document made m found =
    let n : GroupNo = (group_of d document made).number in
    let c = charge_for d document made in
    record {
      more = map (charge_entry n) (option_to_list (charge_if (nat_lt 0 c) (proposal_of (holds_for d document made)) c));
      entries = refl;
      tallies = λ key.
          ap (λ (p : List ℕ). tally_of (map (charge_entry n) (option_to_list (charge_if (nat_lt 0 c) p c))) key) (booked_proposal d document made m)
          ∙ charge_is accounts n document.proposal c key (nat_lt 0 c) found refl;
    }
