-- A group that is submitted finds what it holds and is charged available.
use Rattle.std.proofs.Common.{◌≡◌, ◌≢◌, ◌∙◌, ap, sym, subst, refl, ℕ, suc, ◌+◌, ◌<◌, ◌≤◌, nat_lt, nat_le, Bool, true, false, cond, ◌&&◌, List, [], ◌∷◌}
use Rattle.std.proofs.Common.{◌++◌, length, get_or, map, All, arith}
use Rattle.std.proofs.Common.{inl, inr, Option, Some, None}
use Rattle.std.specs.Prelude.{option_and_then}
use Rattle.std.specs.List.{slice_get, filter_map, cons_option}
use Rattle.std.specs.Option.{option_to_list}
use Rattle.std.specs.Ordering.{is_eq}
use Rattle.std.specs.declared.cmp.Ordering.TheVariants.{Less}
use Rattle.std.proofs.lemmas.Bool.{cases_Bool, false_from_ne_true, leb-true}
use Rattle.std.proofs.lemmas.List.{length-map, get_or-map}
use Rattle.std.proofs.lemmas.List.Elements.{All-nil, All-cons, All-head, All-tail, All-weaker}
use Rattle.std.proofs.lemmas.List.Sums.{sum_by-cons, sum_by-append, sum_by_push}
use Rattle.plan_base.specs.declared.number.GroupNo.{GroupNo}
use Rattle.request_model.specs.declared.group.GroupDoc.{GroupDoc}
use Rattle.allocations.specs.declared.entry.Entry.{Entry}
use Rattle.allocations.specs.declared.entry.EntryKind.{EntryKind}
use Rattle.allocations.specs.declared.entry.EntryKind.TheVariants.{Grant, Charge, Refund}
use Rattle.allocations.specs.declared.entry.Hold.{Hold}
use Rattle.allocations.specs.declared.fault.LedgerFault.{LedgerFault}
use Rattle.allocations.specs.declared.fault.LedgerFault.TheVariants.{NoSuchAllocation, NotEnoughTime}
use Rattle.allocations.specs.declared.key.Account.TheVariants.{Ipp}
use Rattle.allocations.specs.declared.key.Key.{Key}
use Rattle.allocations.specs.Books.{Books, GroupHolds, is_kind, seconds_of, has_grant, held_in, held_of, available_of}
use Rattle.allocations.specs.Changes.{charge_entry}
use Rattle.allocations.specs.Key.{key_cmp, is_key}
use Rattle.allocations.specs.Refusals.{ipp_key, ipp_need, proposal_of, knows_proposal, refusal_at, first_refusal, refusal_of}
use Rattle.allocations.specs.Rising.{Rises}
use Rattle.allocations.proofs.Keys.{is_key-refl, is_key-true}
use Rattle.desk_runs.specs.Owners.{pending_count}
use Rattle.desk_core.specs.Asking.{MadeSeen}
use Rattle.desk_core.specs.Desk.{DeskSeen}
use Rattle.desk_core.specs.Kept.{IsDesk}
use Rattle.desk_core.specs.Making.{AreMade}
use Rattle.desk_core.specs.Refusals.{refusal_of_ledger}
use Rattle.desk_core.specs.Submitting.{targets_with, group_of, holds_for, charge_for, submission_refusal, with_submission}
use Rattle.desk_core.proofs.KeptSubmitting.{booked_is}
use Rattle.desk_core.proofs.Submissions.{groups_low, is_booked}
use Rattle.desk_accounts.specs.Covered.{IsCovered}
use Rattle.desk_accounts.proofs.Requests.{charge_if}
use Rattle.desk_accounts.proofs.Tallies.{Tally, charge_tally}

-- ---- what isn't refused

-- the need is available
abbrev IsAvailable : Books → Hold → Type 0
IsAvailable b n = n.seconds ≤ available_of b n.key

-- why it is refused, by whether its account has a grant and enough is available
abbrev refusal_by : Books → Hold → Bool → Bool → Option LedgerFault
refusal_by b n granted enough =
    cond granted (cond enough None (Some (NotEnoughTime n.seconds (available_of b n.key)))) (Some (NoSuchAllocation n.key.account))

all_available : (b : Books) (needs : List Hold) → option_and_then refusal_of_ledger (first_refusal b needs) ≡ None → All (IsAvailable b) needs
all_available b [] e = All-nil (IsAvailable b)
all_available b (n ∷ ns) e = by (has_grant b.entries n.key) (nat_le n.seconds (available_of b n.key)) refl e (all_available b ns)
  where
    by : (granted enough : Bool) → nat_le n.seconds (available_of b n.key) ≡ enough
        → option_and_then refusal_of_ledger (slice_get (cons_option (refusal_by b n granted enough) (filter_map (refusal_at b) ns)) 0) ≡ None
        → (option_and_then refusal_of_ledger (first_refusal b ns) ≡ None → All (IsAvailable b) ns) → All (IsAvailable b) (n ∷ ns)
    by false enough is f rest = absurd (cc)
    by true false is f rest = absurd (cc)
    by true true is f rest = All-cons (IsAvailable b) n ns (leb-true n.seconds (available_of b n.key) is) (rest f)

ledger_available : (b : Books) (hs : List Hold) (ipp : ℕ) → option_and_then refusal_of_ledger (refusal_of b hs ipp) ≡ None
    → All (IsAvailable b) (hs ++ option_to_list (ipp_need hs ipp))
ledger_available b hs ipp e = by (knows_proposal b.entries (proposal_of hs)) refl e
  where
    by : (k : Bool) → knows_proposal b.entries (proposal_of hs) ≡ k → option_and_then refusal_of_ledger (refusal_of b hs ipp) ≡ None
        → All (IsAvailable b) (hs ++ option_to_list (ipp_need hs ipp))
    by false x e = let bad = rw x at e in absurd (cc)
    by true x e = all_available b (hs ++ option_to_list (ipp_need hs ipp)) (rw x at e)

needs_available : (d : DeskSeen) (document : GroupDoc) (made : List MadeSeen) → submission_refusal d document made ≡ None
    → All (IsAvailable d.books) (holds_for d document made ++ option_to_list (ipp_need (holds_for d document made) (charge_for d document made)))
needs_available d document made e =
    by (nat_lt 1024 (pending_count d.progress.groups + length made)) (nat_lt 2048 (length (targets_with d document))) refl refl e
  where
    by : (a b : Bool) → nat_lt 1024 (pending_count d.progress.groups + length made) ≡ a → nat_lt 2048 (length (targets_with d document)) ≡ b
        → submission_refusal d document made ≡ None
        → All (IsAvailable d.books) (holds_for d document made ++ option_to_list (ipp_need (holds_for d document made) (charge_for d document made)))
    by true b x y e = let bad = rw x at e in absurd (cc)
    by false true x y e = let bad = rw y at (rw x at e) in absurd (cc)
    by false false x y e = ledger_available d.books (holds_for d document made) (charge_for d document made) (rw y at (rw x at e))

-- ---- holds of one account

all_first : {X : Type 0} (P : X → Type 0) (xs ys : List X) → All P (xs ++ ys) → All P xs
all_first P [] ys h = All-nil P
all_first P (x ∷ xs) ys h = All-cons P x xs (All-head P x (xs ++ ys) h) (all_first P xs ys (All-tail P x (xs ++ ys) h))

all_last : {X : Type 0} (P : X → Type 0) (xs ys : List X) → All P (xs ++ ys) → All P ys
all_last P [] ys h = h
all_last P (x ∷ xs) ys h = all_last P xs ys (All-tail P x (xs ++ ys) h)

none_held : (key : Key) (hs : List Hold) → All (λ x. is_key x.key key ≡ false) hs → held_in key hs ≡ 0
none_held key [] h = refl
none_held key (x ∷ hs) h =
    let sum = sum_by-cons (λ (y : Hold). cond (is_key y.key key) y.seconds 0) x hs in
    let first : cond (is_key x.key key) x.seconds 0 ≡ 0 = ap (λ (b : Bool). cond b x.seconds 0) (All-head (λ y. is_key y.key key ≡ false) x hs h) in
    let rest : held_in key hs ≡ 0 = none_held key hs (All-tail (λ y. is_key y.key key ≡ false) x hs h) in
    omega (arith, sum, first, rest)

-- where keys rise, one stands once
not_again : (x : Hold) (hs : List Hold) (key : Key) → Rises key_cmp (map (λ y. y.key) (x ∷ hs)) → is_key x.key key ≡ true
    → All (λ y. is_key y.key key ≡ false) hs
not_again x hs key rises first = λ i d l. false_from_ne_true (is_key (get_or hs i d).key key) (λ same.
    let count : length (map (λ (y : Hold). y.key) hs) ≡ length hs = length-map hs (λ y. y.key) in
    let less : key_cmp x.key (get_or (map (λ (y : Hold). y.key) hs) i x.key) ≡ Less = rises 0 (suc i) x.key (omega arith) (omega (arith, count, l)) in
    let is : get_or (map (λ (y : Hold). y.key) hs) i x.key ≡ (get_or hs i d).key = get_or-map (λ (y : Hold). y.key) hs i d x.key l in
    let back : get_or (map (λ (y : Hold). y.key) hs) i x.key ≡ x.key = is ∙ is_key-true (get_or hs i d).key key same ∙ sym (is_key-true x.key key first) in
    let tie : key_cmp x.key x.key ≡ Less = ap (key_cmp x.key) (sym back) ∙ less in
    let bad : true ≡ false = sym (is_key-refl x.key) ∙ ap is_eq tie in
    cc)

rises_rest : (x : Hold) (hs : List Hold) → Rises key_cmp (map (λ y. y.key) (x ∷ hs)) → Rises key_cmp (map (λ y. y.key) hs)
rises_rest x hs rises i j d before l = rises (suc i) (suc j) d (omega (arith, before)) (omega (arith, l))

-- so what is held of it is what one hold has
once_held : (most : ℕ) (key : Key) (hs : List Hold) → Rises key_cmp (map (λ y. y.key) hs)
    → All (λ x. is_key x.key key ≡ true → x.seconds ≤ most) hs → held_in key hs ≤ most
once_held most key [] rises h = omega arith
once_held most key (x ∷ hs) rises h =
    let sum = sum_by-cons (λ (y : Hold). cond (is_key y.key key) y.seconds 0) x hs in
    elim (cases_Bool (is_key x.key key)) [
      | inl on ↦
          let first : cond (is_key x.key key) x.seconds 0 ≡ x.seconds = ap (λ (b : Bool). cond b x.seconds 0) on in
          let few : x.seconds ≤ most = All-head (λ y. is_key y.key key ≡ true → y.seconds ≤ most) x hs h on in
          let rest : held_in key hs ≡ 0 = none_held key hs (not_again x hs key rises on) in
          omega (arith, sum, first, few, rest)
      | inr off ↦
          let first : cond (is_key x.key key) x.seconds 0 ≡ 0 = ap (λ (b : Bool). cond b x.seconds 0) off in
          let rest : held_in key hs ≤ most =
          once_held most key hs (rises_rest x hs rises) (All-tail (λ y. is_key y.key key ≡ true → y.seconds ≤ most) x hs h) in
          omega (arith, sum, first, rest)
    ]

-- ---- what a group holds and is charged

-- what its charge adds to the charges of an account
abbrev charged_to : Bool → List ℕ → ℕ → Key → ℕ
charged_to b proposal c key = cond b (cond (is_key (ipp_key proposal) key) c 0) 0

charge_adds : (n : GroupNo) (proposal : List ℕ) (c : ℕ) (key : Key) (b : Bool)
    → seconds_of Charge key (map (charge_entry n) (option_to_list (charge_if b proposal c))) ≡ charged_to b proposal c key
charge_adds n proposal c key true = ap (λ (t : Tally). t.charged) (charge_tally n (record { key = ipp_key proposal; seconds = c }) key)
charge_adds n proposal c key false = refl

charge_grants : (n : GroupNo) (proposal : List ℕ) (c : ℕ) (key : Key) (b : Bool)
    → seconds_of Grant key (map (charge_entry n) (option_to_list (charge_if b proposal c))) ≡ 0
charge_grants n proposal c key true = ap (λ (t : Tally). t.granted) (charge_tally n (record { key = ipp_key proposal; seconds = c }) key)
charge_grants n proposal c key false = refl

charge_refunds : (n : GroupNo) (proposal : List ℕ) (c : ℕ) (key : Key) (b : Bool)
    → seconds_of Refund key (map (charge_entry n) (option_to_list (charge_if b proposal c))) ≡ 0
charge_refunds n proposal c key true = ap (λ (t : Tally). t.back) (charge_tally n (record { key = ipp_key proposal; seconds = c }) key)
charge_refunds n proposal c key false = refl

at_key : (b : Books) (key : Key) (hs : List Hold) → All (IsAvailable b) hs → All (λ x. is_key x.key key ≡ true → x.seconds ≤ available_of b key) hs
at_key b key hs h =
    All-weaker (IsAvailable b) (λ x. is_key x.key key ≡ true → x.seconds ≤ available_of b key)
    (λ x few on. subst (λ (k : Key). x.seconds ≤ available_of b k) (is_key-true x.key key on) few) hs h

-- of any account, no more than is available
fits : (b : Books) (key : Key) (hs : List Hold) (proposal : List ℕ) (c : ℕ) (q : Bool) → Rises key_cmp (map (λ y. y.key) hs) → All (λ x. x.key.account ≢ Ipp) hs
    → All (IsAvailable b) (hs ++ option_to_list (charge_if q proposal c)) → held_in key hs + charged_to q proposal c key ≤ available_of b key
fits b key hs proposal c false rises not_ipp h =
    let held = once_held (available_of b key) key hs rises (at_key b key hs (all_first (IsAvailable b) hs [] h)) in
    omega (arith, held)
fits b key hs proposal c true rises not_ipp h =
    let charge : Hold = record { key = ipp_key proposal; seconds = c } in
    elim (cases_Bool (is_key (ipp_key proposal) key)) [
      | inl on ↦
          let few : c ≤ available_of b (ipp_key proposal) = All-head (IsAvailable b) charge [] (all_last (IsAvailable b) hs (charge ∷ []) h) in
          let here : c ≤ available_of b key = subst (λ (k : Key). c ≤ available_of b k) (is_key-true (ipp_key proposal) key on) few in
          let charged : cond (is_key (ipp_key proposal) key) c 0 ≡ c = ap (λ (x : Bool). cond x c 0) on in
          let none : held_in key hs ≡ 0 =
          none_held key hs (All-weaker (λ x. x.key.account ≢ Ipp) (λ x. is_key x.key key ≡ false)
          (λ x other. false_from_ne_true (is_key x.key key)
          (λ same. other (ap (λ (k : Key). k.account) (is_key-true x.key key same ∙ sym (is_key-true (ipp_key proposal) key on))))) hs not_ipp) in
          omega (arith, here, charged, none)
      | inr off ↦
          let charged : cond (is_key (ipp_key proposal) key) c 0 ≡ 0 = ap (λ (x : Bool). cond x c 0) off in
          let held = once_held (available_of b key) key hs rises (at_key b key hs (all_first (IsAvailable b) hs (charge ∷ []) h)) in
          omega (arith, charged, held)
    ]

entries_sum : (kind : EntryKind) (key : Key) (xs ys : List Entry) → seconds_of kind key (xs ++ ys) ≡ seconds_of kind key xs + seconds_of kind key ys
entries_sum kind key xs ys = sum_by-append (λ (e : Entry). cond (is_kind kind e.kind && is_key e.key key) e.seconds 0) xs ys

-- a group that isn't refused leaves the accounts covered
pub submission_covered : (d : DeskSeen) (document : GroupDoc) (made : List MadeSeen) → IsDesk d → AreMade d.progress.moment document made
    → submission_refusal d document made ≡ None
    → IsCovered d.books → IsCovered (with_submission d document made).books
submission_covered d document made h m none covered =
    let n : GroupNo = (group_of d document made).number in
    let hs : List Hold = holds_for d document made in
    let c = charge_for d document made in
    let q : Bool = nat_lt 0 c in
    let p : List ℕ = proposal_of hs in
    let low : All (λ x. x.group.0 < n.0) d.books.holds = λ i x l. let at = groups_low d h i x l in omega (arith, at) in
    let entry : GroupHolds = record { group = n; holds = hs; ipp = ipp_need hs c } in
    let more : List Entry = map (charge_entry n) (option_to_list (charge_if q p c)) in
    let list = is_booked d document made m in
    subst IsCovered (sym (booked_is d.books n hs c low)) (λ key.
    let held : held_of (d.books.holds ++ entry ∷ []) key ≡ held_of d.books.holds key + held_in key hs =
    sum_by_push (λ (g : GroupHolds). held_in key g.holds) d.books.holds entry in
    let granted : seconds_of Grant key (d.books.entries ++ more) ≡ seconds_of Grant key d.books.entries + seconds_of Grant key more =
    entries_sum Grant key d.books.entries more in
    let charged : seconds_of Charge key (d.books.entries ++ more) ≡ seconds_of Charge key d.books.entries + seconds_of Charge key more =
    entries_sum Charge key d.books.entries more in
    let back : seconds_of Refund key (d.books.entries ++ more) ≡ seconds_of Refund key d.books.entries + seconds_of Refund key more =
    entries_sum Refund key d.books.entries more in
    let few : held_in key hs + charged_to q p c key ≤ available_of d.books key =
    fits d.books key hs p c q list.rising list.not_ipp (needs_available d document made none) in
    let now = covered key in
    omega (arith, held, granted, charged, back, few, now, charge_grants n p c key q, charge_adds n p c key q, charge_refunds n p c key q))
