-- A desk with a new group is one.
use Rattle.std.proofs.Common.{◌≡◌, ◌∙◌, ap, sym, subst, refl, ℕ, ◌+◌, ◌<◌, ◌≤◌, ◌==◌, nat_lt, nat_le, Bool, true, false, cond, List, [], ◌∷◌, ◌++◌}
use Rattle.std.proofs.Common.{length, map, sum_by, All, IsTrue, get_or, Option, Some, None, Result, Ok, Err, arith}
use Rattle.std.specs.List.{AllZip, zip, find, filter_map, cons_option, slice_get}
use Rattle.std.specs.Option.{IfSome, option_map_or, option_to_list}
use Rattle.std.specs.Prelude.{option_and_then}
use Rattle.std.specs.Ordering.{nat_cmp, match_ordering}
use Rattle.std.specs.BTreeSet.{replace_key}
use Rattle.std.specs.declared.cmp.Ordering.{Ordering}
use Rattle.std.specs.declared.cmp.Ordering.TheVariants.{Less, Equal, Greater}
use Rattle.std.proofs.lemmas.Bool.{le-ltb, ltb-false}
use Rattle.std.proofs.lemmas.List.{length-append}
use Rattle.std.proofs.lemmas.List.Elements.{All-nil, All-cons, All-head, All-tail, All-append}
use Rattle.std.proofs.lemmas.List.Sums.{sum_by-append}
use Rattle.plan_base.specs.declared.number.GroupNo.{GroupNo}
use Rattle.request_model.specs.Ranges.{IsGroup}
use Rattle.request_model.specs.declared.group.GroupDoc.{GroupDoc}
use Rattle.allocations.specs.declared.entry.Entry.{Entry}
use Rattle.allocations.specs.declared.entry.Hold.{Hold}
use Rattle.allocations.specs.declared.fault.LedgerFault.TheVariants as ledger
use Rattle.allocations.specs.declared.key.Key.{Key}
use Rattle.allocations.specs.Books.{Books, GroupHolds, has_grant, available_of}
use Rattle.allocations.specs.Changes.{group_cmp, charge_entry, ipp_of, booked}
use Rattle.allocations.specs.Changes as changes
use Rattle.allocations.specs.Ledger.{seconds_of_holds}
use Rattle.allocations.specs.Refusals.{ipp_key, ipp_need, proposal_of, knows_proposal, refusal_at, first_refusal, refusal_of}
use Rattle.allocations.proofs.Granted.{has_grant-append}
use Rattle.desk_runs.specs.declared.group.Group.{Group}
use Rattle.desk_runs.specs.Owners.{pending_count}
use Rattle.desk_runs.proofs.Adding.{added_sound}
use Rattle.desk_runs.proofs.Counts.{pending_more}
use Rattle.desk_runs.proofs.Places.{differs}
use Rattle.desk_events.specs.declared.refusal.Refusal.{Refusal}
use Rattle.desk_core.specs.declared.desk.Submitted.{Submitted}
use Rattle.desk_core.specs.Desk.{DeskSeen}
use Rattle.desk_core.specs.Kept.{IsAlong, IsHeldFor, IsDesk, standing, most_added}
use Rattle.desk_core.specs.Refusals.{refusal_of_ledger}
use Rattle.desk_core.specs.Targets.{target_names}
use Rattle.desk_core.specs.Asking.{MadeSeen, made_of}
use Rattle.desk_core.specs.Submitting.{targets_with, asks_of, op_of, group_of, holds_for, charge_for, submitted_of, submission_refusal}
use Rattle.desk_core.specs.Submitting.{with_submission, on_submit, on_made}
use Rattle.desk_core.specs.Making.{AreMade}
use Rattle.desk_core.proofs.Along.{all_seconds}
use Rattle.desk_core.proofs.Drafts.{late_asks, count_asks}
use Rattle.desk_core.proofs.Makings.{made_are}
use Rattle.desk_core.proofs.Numbering.{all_numbered_at_least}
use Rattle.desk_core.proofs.Submissions.{groups_low, booked_proposal, small_holds, charge_at_most}
use Rattle.desk_core.proofs.WantedRanges.{more_targets, is_along}
use Rattle.desk_core.proofs.WentOn.{as_submitted}

-- ---- lists with one more

zip_more : {A B : Type 0} (xs : List A) (ys : List B) (x : A) (y : B) → length xs ≡ length ys → zip (xs ++ x ∷ []) (ys ++ y ∷ []) ≡ zip xs ys ++ (x, y) ∷ []
zip_more [] [] x y e = refl
zip_more [] (b ∷ ys) x y e = absurd (omega arith)
zip_more (a ∷ xs) [] x y e = absurd (omega arith)
zip_more {A} {B} (a ∷ xs) (b ∷ ys) x y e = ap (λ (l : List (A × B)). (a, b) ∷ l) (zip_more xs ys x y (omega arith))

all_zip_more : {A B : Type 0} (R : A → B → Type 0) (xs : List A) (ys : List B) (x : A) (y : B) → AllZip R xs ys → R x y → AllZip R (xs ++ x ∷ []) (ys ++ y ∷ [])
all_zip_more R [] [] x y h r = (r, tt)
all_zip_more R [] (b ∷ ys) x y h r = absurd h
all_zip_more R (a ∷ xs) [] x y h r = absurd h
all_zip_more R (a ∷ xs) (b ∷ ys) x y h r = (h.0, all_zip_more R xs ys x y h.1 r)

all_zip_then : {A B : Type 0} (R S : A → B → Type 0) (xs : List A) (ys : List B) → ((x : A) (y : B) → R x y → S x y) → AllZip R xs ys → AllZip S xs ys
all_zip_then R S [] [] f h = tt
all_zip_then R S [] (y ∷ ys) f h = absurd h
all_zip_then R S (x ∷ xs) [] f h = absurd h
all_zip_then R S (x ∷ xs) (y ∷ ys) f h = (f x y h.0, all_zip_then R S xs ys f h.1)

all_more : {X : Type 0} (P : X → Type 0) (xs : List X) (x : X) → All P xs → P x → All P (xs ++ x ∷ [])
all_more P xs x h p = All-append P xs (x ∷ []) h (All-cons P x [] p (All-nil P))

-- ---- the books

greater : (a b : ℕ) → a < b → nat_cmp b a ≡ Greater
greater a b l =
    ap (λ (t : Bool). cond t Less (cond (b == a) Equal Greater)) (le-ltb b a (omega arith))
    ∙ ap (λ (t : Bool). cond t Equal Greater) (differs b a (λ e. absurd (omega arith)))

-- the entry of the last group goes to the end
put_last : (es : List GroupHolds) (k : GroupHolds) → All (λ e. e.group.0 < k.group.0) es → replace_key group_cmp es k ≡ es ++ k ∷ []
put_last [] k h = refl
put_last (e ∷ es) k h =
    ap (λ (o : Ordering). match_ordering o (k ∷ e ∷ es) (k ∷ es) (e ∷ replace_key group_cmp es k))
    (greater e.group.0 k.group.0 (All-head (λ e. e.group.0 < k.group.0) e es h))
    ∙ ap (λ (l : List GroupHolds). e ∷ l) (put_last es k (All-tail (λ e. e.group.0 < k.group.0) e es h))

-- and it has no entry before
no_ipp : (es : List GroupHolds) (n : GroupNo) → All (λ e. e.group.0 < n.0) es → ipp_of n es ≡ None
no_ipp [] n h = refl
no_ipp (e ∷ es) n h =
    let low = All-head (λ e. e.group.0 < n.0) e es h in
    ap (λ (b : Bool). option_and_then (λ g. g.ipp) (cond b (Some e) (find (λ g. g.group.0 == n.0) es))) (differs e.group.0 n.0 (λ same. absurd (omega arith)))
    ∙ no_ipp es n (All-tail (λ e. e.group.0 < n.0) e es h)

stands_new : (o : Option Hold) → changes.standing o None ≡ o
stands_new None = refl
stands_new (Some h) = refl

pub booked_is : (books : Books) (n : GroupNo) (hs : List Hold) (ipp : ℕ) → All (λ e. e.group.0 < n.0) books.holds
    → booked n hs ipp books ≡ record {
      entries = books.entries ++ map (charge_entry n) (option_to_list (ipp_need hs ipp));
      holds = books.holds ++ record { group = n; holds = hs; ipp = ipp_need hs ipp } ∷ [];
    }
booked_is books n hs ipp low =
    let xs : List Entry = books.entries ++ map (charge_entry n) (option_to_list (ipp_need hs ipp)) in
    let of : List GroupHolds → Books = λ es. record { entries = xs; holds = es } in
    ap (λ (o : Option Hold). of (replace_key group_cmp books.holds record { group = n; holds = hs; ipp = changes.standing (ipp_need hs ipp) o }))
    (no_ipp books.holds n low)
    ∙ ap (λ (o : Option Hold). of (replace_key group_cmp books.holds record { group = n; holds = hs; ipp = o })) (stands_new (ipp_need hs ipp))
    ∙ ap of (put_last books.holds record { group = n; holds = hs; ipp = ipp_need hs ipp } low)

-- ---- what isn't refused

granted_needs : (b : Books) (needs : List Hold) → option_and_then refusal_of_ledger (first_refusal b needs) ≡ None
    → All (λ n. has_grant b.entries n.key ≡ true) needs
granted_needs b [] e = All-nil (λ n. has_grant b.entries n.key ≡ true)
granted_needs b (n ∷ ns) e = by (has_grant b.entries n.key) (nat_le n.seconds (available_of b n.key)) refl refl e (granted_needs b ns)
  where
    by : (g a : Bool) → has_grant b.entries n.key ≡ g → nat_le n.seconds (available_of b n.key) ≡ a
        → option_and_then refusal_of_ledger
        (slice_get (cons_option (cond (has_grant b.entries n.key)
        (cond (nat_le n.seconds (available_of b n.key)) None (Some (ledger.NotEnoughTime n.seconds (available_of b n.key))))
        (Some (ledger.NoSuchAllocation n.key.account))) (filter_map (refusal_at b) ns)) 0) ≡ None
        → (option_and_then refusal_of_ledger (first_refusal b ns) ≡ None → All (λ n. has_grant b.entries n.key ≡ true) ns)
        → All (λ n. has_grant b.entries n.key ≡ true) (n ∷ ns)
    by false a x y e rest = let bad = rw x at e in absurd (cc)
    by true false x y e rest = let bad = rw y at (rw x at e) in absurd (cc)
    by true true x y e rest = All-cons (λ n. has_grant b.entries n.key ≡ true) n ns x (rest (rw y at (rw x at e)))

granted_by : (b : Books) (hs : List Hold) (ipp : ℕ) → option_and_then refusal_of_ledger (refusal_of b hs ipp) ≡ None
    → All (λ n. has_grant b.entries n.key ≡ true) (hs ++ option_to_list (ipp_need hs ipp))
granted_by b hs ipp e = by (knows_proposal b.entries (proposal_of hs)) refl e
  where
    by : (k : Bool) → knows_proposal b.entries (proposal_of hs) ≡ k → option_and_then refusal_of_ledger (refusal_of b hs ipp) ≡ None
        → All (λ n. has_grant b.entries n.key ≡ true) (hs ++ option_to_list (ipp_need hs ipp))
    by false x e = let bad = rw x at e in absurd (cc)
    by true x e = granted_needs b (hs ++ option_to_list (ipp_need hs ipp)) (rw x at e)

-- what follows where nothing is refused
pub record IsAllowed (d : DeskSeen) (document : GroupDoc) (made : List MadeSeen) : Type 0 where
  pub few : pending_count d.progress.groups + length made ≤ 1024
  pub granted : All (λ n. has_grant d.books.entries n.key ≡ true)
      (holds_for d document made ++ option_to_list (ipp_need (holds_for d document made) (charge_for d document made)))

pub allowed : (d : DeskSeen) (document : GroupDoc) (made : List MadeSeen) → submission_refusal d document made ≡ None → IsAllowed d document made
allowed d document made e = by (nat_lt 1024 (pending_count d.progress.groups + length made)) (nat_lt 2048 (length (targets_with d document))) refl refl e
  where
    by : (a b : Bool) → nat_lt 1024 (pending_count d.progress.groups + length made) ≡ a → nat_lt 2048 (length (targets_with d document)) ≡ b
        → submission_refusal d document made ≡ None → IsAllowed d document made
    by true b x y e = let bad = rw x at e in absurd (cc)
    by false true x y e = let bad = rw y at (rw x at e) in absurd (cc)
    by false false x y e = record {
      few = ltb-false 1024 (pending_count d.progress.groups + length made) x;
      granted = granted_by d.books (holds_for d document made) (charge_for d document made) (rw y at (rw x at e));
    }

-- ---- the desk

all_front : {X : Type 0} (P : X → Type 0) (xs ys : List X) → All P (xs ++ ys) → All P xs
all_front P [] ys h = All-nil P
all_front P (x ∷ xs) ys h = All-cons P x xs (All-head P x (xs ++ ys) h) (all_front P xs ys (All-tail P x (xs ++ ys) h))

all_back : {X : Type 0} (P : X → Type 0) (xs ys : List X) → All P (xs ++ ys) → All P ys
all_back P [] ys h = h
all_back P (x ∷ xs) ys h = all_back P xs ys (All-tail P x (xs ++ ys) h)

granted_still : (xs more : List Entry) (key : Key) → has_grant xs key ≡ true → IsTrue (has_grant (xs ++ more) key)
granted_still xs more key e = has_grant-append xs more key e

charged_still : (xs more : List Entry) (o : Option Hold) → IfSome o (λ h. IsTrue (has_grant xs h.key)) → IfSome o (λ h. IsTrue (has_grant (xs ++ more) h.key))
charged_still xs more None h = tt
charged_still xs more (Some x) h = has_grant-append xs more x.key h

charged_new : (xs more : List Entry) (o : Option Hold) → All (λ n. has_grant xs n.key ≡ true) (option_to_list o)
    → IfSome o (λ h. IsTrue (has_grant (xs ++ more) h.key))
charged_new xs more None h = tt
charged_new xs more (Some x) h = granted_still xs more x.key (All-head (λ n. has_grant xs n.key ≡ true) x [] h)

-- a desk with a new group that isn't refused is one
pub submission_keeps : (d : DeskSeen) (document : GroupDoc) (made : List MadeSeen) → IsDesk d → IsGroup document
    → AreMade d.progress.moment document made → submission_refusal d document made ≡ None → IsDesk (with_submission d document made)
submission_keeps d document made h g m e =
    let w : Submitted = submitted_of d document made in
    let group : Group = group_of d document made in
    let holds : List Hold = holds_for d document made in
    let charge = charge_for d document made in
    let need : Option Hold = ipp_need holds charge in
    let entry : GroupHolds = record { group = group.number; holds = holds; ipp = need } in
    let more : List Entry = map (charge_entry group.number) (option_to_list need) in
    let low : All (λ x. x.group.0 < group.number.0) d.books.holds = λ i x l. let at = groups_low d h i x l in omega (arith, at) in
    let may = allowed d document made e in
    let many = length d.groups in
    let asks : length (asks_of made) ≡ length made = count_asks made in
    let pending = pending_more (op_of document made) (asks_of made) d.progress in
    let after : Books → DeskSeen = λ b. record (with_submission d document made) { books = b } in
    let with_entry : Books = record { entries = d.books.entries ++ more; holds = d.books.holds ++ entry ∷ [] } in
    let zipped : zip (d.groups ++ w ∷ []) (d.progress.groups ++ group ∷ []) ≡ zip d.groups d.progress.groups ++ (w, group) ∷ [] =
    zip_more d.groups d.progress.groups w group (as_submitted d h) in
    let least = all_numbered_at_least d.network.registry.targets (target_names document.requests) in
    let new : IsHeldFor (w, group) entry = record {
      group = refl;
      holds = refl;
      charge = λ opened. ap (λ (p : List ℕ). cond (nat_lt 0 charge) (Some (let x : Hold = record { key = ipp_key p; seconds = charge } in x)) None)
          (booked_proposal d document made m);
    } in
    let kept : IsDesk (after with_entry) = record {
      opening = h.opening;
      len = h.len;
      moment = h.moment;
      sound = added_sound (op_of document made) (asks_of made) d.progress h.sound (late_asks d.progress.moment made m.each);
      along = all_zip_more (IsAlong (length (targets_with d document))) d.groups d.progress.groups w group
          (all_zip_then (IsAlong (length d.network.registry.targets)) (IsAlong (length (targets_with d document))) d.groups d.progress.groups
          (λ x y a. more_targets (length d.network.registry.targets) (length (targets_with d document)) x y least a) h.along)
          (is_along d document made g m);
      pending = omega (arith, pending, asks, may.few);
      once = h.once;
      held = subst (λ (l : List (Submitted × Group)). AllZip IsHeldFor l (d.books.holds ++ entry ∷ [])) (sym zipped)
          (all_zip_more IsHeldFor (zip d.groups d.progress.groups) d.books.holds (w, group) entry h.held new);
      granted = all_more (λ x. All (λ y. IsTrue (has_grant (d.books.entries ++ more) y.key)) x.holds) d.books.holds entry
          (λ i x l j y k. has_grant-append d.books.entries more (get_or (get_or d.books.holds i x).holds j y).key (h.granted i x l j y k))
          (λ j y k. granted_still d.books.entries more (get_or holds j y).key
          (all_front (λ n. has_grant d.books.entries n.key ≡ true) holds (option_to_list need) may.granted j y k));
      charged = all_more (λ x. IfSome x.ipp (λ y. IsTrue (has_grant (d.books.entries ++ more) y.key))) d.books.holds entry
          (λ i x l. charged_still d.books.entries more (get_or d.books.holds i x).ipp (h.charged i x l))
          (charged_new d.books.entries more need (all_back (λ n. has_grant d.books.entries n.key ≡ true) holds (option_to_list need) may.granted));
      closures = h.closures;
      published = h.published;
    } in
    subst (λ (b : Books). IsDesk (after b)) (sym (booked_is d.books group.number holds charge low)) kept

-- and its books have but a few seconds more
pub submission_seconds : (d : DeskSeen) (document : GroupDoc) (made : List MadeSeen) → IsDesk d → IsGroup document
    → AreMade d.progress.moment document made → all_seconds (with_submission d document made).books ≤ all_seconds d.books + most_added
submission_seconds d document made h g m =
    let group : Group = group_of d document made in
    let holds : List Hold = holds_for d document made in
    let charge = charge_for d document made in
    let low : All (λ x. x.group.0 < group.number.0) d.books.holds = λ i x l. let at = groups_low d h i x l in omega (arith, at) in
    let small = small_holds d document made m in
    let few = charge_at_most document.ipp holds g.share.high in
    let same = ap all_seconds (booked_is d.books group.number holds charge low) in
    let entries = sum_by-append (λ x. x.seconds) d.books.entries (map (charge_entry group.number) (option_to_list (ipp_need holds charge))) in
    let held = sum_by-append (λ x. seconds_of_holds x.holds) d.books.holds (record { group = group.number; holds = holds; ipp = ipp_need holds charge } ∷ []) in
    let stands = sum_by-append (λ x. option_map_or (λ y. y.seconds) x.ipp 0) d.books.holds
    (record { group = group.number; holds = holds; ipp = ipp_need holds charge } ∷ []) in
    let added : sum_by (λ x. x.seconds) (map (charge_entry group.number) (option_to_list (ipp_need holds charge))) ≤ charge =
    one_charge group.number holds charge in
    let stand : option_map_or (λ y. y.seconds) (ipp_need holds charge) 0 ≤ charge = one_standing holds charge in
    omega (arith, same, entries, held, stands, added, stand, small, few)
  where
    one_charge : (n : GroupNo) (hs : List Hold) (charge : ℕ) → sum_by (λ x. x.seconds) (map (charge_entry n) (option_to_list (ipp_need hs charge))) ≤ charge
    one_charge n hs charge = by (nat_lt 0 charge)
      where
        by : (b : Bool) → sum_by (λ x. x.seconds)
            (map (charge_entry n) (option_to_list
            (cond b (Some (let x : Hold = record { key = ipp_key (proposal_of hs); seconds = charge } in x)) None))) ≤ charge
        by true = omega arith
        by false = omega arith

    one_standing : (hs : List Hold) (charge : ℕ) → option_map_or (λ y. y.seconds) (ipp_need hs charge) 0 ≤ charge
    one_standing hs charge = by (nat_lt 0 charge)
      where
        by : (b : Bool) → option_map_or (λ y. y.seconds)
            (cond b (Some (let x : Hold = record { key = ipp_key (proposal_of hs); seconds = charge } in x)) None) 0 ≤ charge
        by true = omega arith
        by false = omega arith

-- ---- the line

pub submit_keeps : (d : DeskSeen) (document : GroupDoc) → IsDesk d → IsGroup document → (on_submit d document).refusal ≡ None
    → IsDesk (on_submit d document).desk
submit_keeps d document h g e = by (made_of d document) refl e
  where
    by : (r : Result (List MadeSeen) Refusal) → made_of d document ≡ r → (on_made d document r).refusal ≡ None → IsDesk (on_made d document r).desk
    by (Err refusal) t e = absurd (cc)
    by (Ok made) t e = submission_keeps d document made h g (made_are d document made g t) e

pub submit_seconds : (d : DeskSeen) (document : GroupDoc) → IsDesk d → IsGroup document
    → all_seconds (on_submit d document).desk.books ≤ all_seconds d.books + most_added
submit_seconds d document h g = by (made_of d document) refl
  where
    by : (r : Result (List MadeSeen) Refusal) → made_of d document ≡ r → all_seconds (on_made d document r).desk.books ≤ all_seconds d.books + most_added
    by (Err refusal) t = omega arith
    by (Ok made) t = submission_seconds d document made h g (made_are d document made g t)

-- with at most one group more
pub submit_groups : (d : DeskSeen) (document : GroupDoc) → length (on_submit d document).desk.progress.groups ≤ length d.progress.groups + 1
submit_groups d document = by (made_of d document)
  where
    by : (r : Result (List MadeSeen) Refusal) → length (on_made d document r).desk.progress.groups ≤ length d.progress.groups + 1
    by (Err refusal) = omega arith
    by (Ok made) = let n = length-append d.progress.groups (group_of d document made ∷ []) in omega (arith, n)
