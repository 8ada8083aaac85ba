-- What groups that go on give back: the ledger's entries are the refunds that are told.
use Rattle.std.proofs.Common.{◌≡◌, ◌∙◌, ap, sym, refl, ℕ, ◌+◌, ◌≤◌, nat_lt, Bool, true, false, cond, List, [], ◌∷◌, ◌++◌, map, filter, fold, sum_by}
use Rattle.std.proofs.Common.{All, inl, inr, Option, Some, None, length, arith}
use Rattle.std.specs.List.{AllZip, zip, filter_map, cons_option}
use Rattle.std.specs.Option.{option_map, option_to_list}
use Rattle.std.proofs.lemmas.Bool.{cases_Bool}
use Rattle.std.proofs.lemmas.List.{append-nil, append_assoc}
use Rattle.std.proofs.lemmas.List.Elements.{All-nil, All-head, All-tail}
use Rattle.std.proofs.lemmas.List.Sums.{sum_by-append}
use Rattle.plan_base.specs.declared.number.GroupNo.{GroupNo}
use Rattle.allocations.specs.declared.entry.Entry.{Entry}
use Rattle.allocations.specs.declared.entry.Hold.{Hold}
use Rattle.allocations.specs.declared.key.Key.{Key}
use Rattle.allocations.specs.Books.{Books, GroupHolds}
use Rattle.allocations.specs.Changes.{refund_entry}
use Rattle.allocations.specs.Refusals.{ipp_key}
use Rattle.desk_runs.specs.declared.group.Group.{Group}
use Rattle.desk_runs.specs.Progress.{Progress}
use Rattle.desk_runs.specs.Sound.{IsLater}
use Rattle.desk_runs.specs.States.{is_open}
use Rattle.desk_events.specs.declared.reply.GroupRefund.{GroupRefund}
use Rattle.desk_core.specs.declared.desk.Submitted.{Submitted}
use Rattle.desk_core.specs.Desk.{DeskSeen}
use Rattle.desk_core.specs.Endings.{ending_of, endings_of, refund_in, refunds_in}
use Rattle.desk_core.specs.Holds.{is_refunded, after_group, groups_along, refund_of, refunds_of, with_progress}
use Rattle.desk_core.specs.Kept.{standing, IsHeldFor, IsDesk}
use Rattle.desk_core.proofs.Along.{AreAlong, along_tail, moved_at, low_at, group_after, ending_more, ending_none}
use Rattle.desk_core.proofs.OneAlong.{books_at, entry_after, more_after}
use Rattle.desk_core.proofs.ToldAlong.{refunds_all}
use Rattle.desk_core.proofs.WentOn.{as_submitted, are_along}
use Rattle.desk_accounts.specs.Balance.{account_at, seconds_on, refund_on}
use Rattle.desk_accounts.proofs.Tallies.{Tally, plus, same_tally, tally_of, tally-append, refund_tally, Adds}

-- what refunds give back to an account
abbrev pub back_by : List (ℕ × Key) → List GroupRefund → Key → Tally
back_by accounts refunds key = record { granted = 0; has = false; charged = 0; back = sum_by (refund_on accounts key) refunds }

back-append : (accounts : List (ℕ × Key)) (rs ss : List GroupRefund) (key : Key)
    → plus (back_by accounts rs key) (back_by accounts ss key) ≡ back_by accounts (rs ++ ss) key
back-append accounts rs ss key =
    same_tally (plus (back_by accounts rs key) (back_by accounts ss key)) (back_by accounts (rs ++ ss) key) refl refl refl
    (sym (sum_by-append (refund_on accounts key) rs ss))

-- a group's ipp account is found by its number
abbrev pub IsPaidBy : List (ℕ × Key) → Submitted × (Group × Group) → Type 0
IsPaidBy accounts p = account_at accounts p.1.0.number.0 ≡ Some (ipp_key p.0.document.proposal)

-- ---- one group

-- the refund that is told of it, if there is one
abbrev pub back_in : Submitted × (Group × Group) → Option GroupRefund
back_in p = cond (is_open p.1.0) (refund_in (ending_of p)) None

abbrev pub all_of : Submitted × (Group × Group) → Bool
all_of p = true

cons_is : (o : Option GroupRefund) (rs : List GroupRefund) → cons_option o rs ≡ option_to_list o ++ rs
cons_is None rs = refl
cons_is (Some r) rs = refl

-- it is the first of those that are told
pub back_more : (p : Submitted × (Group × Group)) (ps : List (Submitted × (Group × Group)))
    → option_to_list (back_in p) ++ refunds_in (endings_of (filter all_of ps)) ≡ refunds_in (endings_of (filter all_of (p ∷ ps)))
back_more p ps = elim (cases_Bool (is_open p.1.0)) [
  | inl opened ↦
      ap (λ (b : Bool). option_to_list (cond b (refund_in (ending_of p)) None) ++ refunds_in (endings_of (filter all_of ps))) opened
      ∙ sym (cons_is (refund_in (ending_of p)) (refunds_in (endings_of (filter all_of ps))))
      ∙ sym (ap refunds_in (ending_more all_of p ps refl opened))
  | inr closed ↦
      ap (λ (b : Bool). option_to_list (cond b (refund_in (ending_of p)) None) ++ refunds_in (endings_of (filter all_of ps))) closed
      ∙ sym (ap refunds_in (ending_none all_of p ps closed))
]

-- the refund of a charge that stands
one_back : (accounts : List (ℕ × Key)) (p : Submitted × (Group × Group)) (key : Key) → IsLater p.1.0 p.1.1 → IsPaidBy accounts p
    → tally_of (refund_entry p.1.1.number (record { key = ipp_key p.0.document.proposal; seconds = p.0.charged }) ∷ []) key
    ≡ back_by accounts (record { group = p.1.1.number; seconds = p.0.charged } ∷ []) key
one_back accounts p key later paid =
    let found : account_at accounts p.1.1.number.0 ≡ Some (ipp_key p.0.document.proposal) = ap (λ (n : GroupNo). account_at accounts n.0) later.number ∙ paid in
    let seconds : seconds_on key (account_at accounts p.1.1.number.0) p.0.charged ≡ seconds_on key (Some (ipp_key p.0.document.proposal)) p.0.charged =
    ap (λ (o : Option Key). seconds_on key o p.0.charged) found in
    let sum : 0 + seconds_on key (account_at accounts p.1.1.number.0) p.0.charged ≡ seconds_on key (account_at accounts p.1.1.number.0) p.0.charged =
    omega arith in
    refund_tally p.1.1.number (record { key = ipp_key p.0.document.proposal; seconds = p.0.charged }) key
    ∙ ap (λ (n : ℕ). let t : Tally = record { granted = 0; has = false; charged = 0; back = n } in t) (sym (sum ∙ seconds))

-- what is told of a charge that is given back
abbrev pub refund_told : Submitted × (Group × Group) → Option Hold → Option GroupRefund
refund_told p o = option_map (λ h. record { group = p.1.1.number; seconds = h.seconds }) o

-- what the ledger's entries of one group say is what is told of it
one_group : (accounts : List (ℕ × Key)) (p : Submitted × (Group × Group)) (e : GroupHolds) (key : Key) → IsLater p.1.0 p.1.1
    → IsHeldFor (p.0, p.1.0) e → IsPaidBy accounts p
    → tally_of (more_after p e) key ≡ back_by accounts (option_to_list (back_in p)) key
one_group accounts p e key later held paid = by (is_open p.1.0) (is_refunded p.1.0 p.1.1) refl
  where
    stands : (c : Bool) → (let o : Option Hold = cond c (Some (record { key = ipp_key p.0.document.proposal; seconds = p.0.charged })) None in
        tally_of (map (refund_entry p.1.1.number) (option_to_list o)) key ≡ back_by accounts (option_to_list (refund_told p o)) key)
    stands true = one_back accounts p key later paid
    stands false = refl

    by : (a b : Bool) → is_open p.1.0 ≡ a
        → tally_of (cond a (cond b (map (refund_entry p.1.1.number) (option_to_list e.ipp)) []) []) key
        ≡ back_by accounts (option_to_list (cond a (refund_told p (cond b (standing p.0.document.proposal p.0.charged) None)) None)) key
    by true true opened = ap (λ (o : Option Hold). tally_of (map (refund_entry p.1.1.number) (option_to_list o)) key) (held.charge opened)
        ∙ stands (nat_lt 0 p.0.charged)
    by true false opened = refl
    by false b opened = refl

-- ---- all groups

back_all : (accounts : List (ℕ × Key)) (b : ℕ) (xs : List Entry) (front : List GroupHolds) (ps : List (Submitted × (Group × Group))) (es : List GroupHolds)
    → All (λ x. x.group.0 ≤ b) front → AreAlong b ps es → All (IsPaidBy accounts) ps
    → Adds xs (fold after_group (books_at xs front es) ps).entries (back_by accounts (refunds_in (endings_of (filter all_of ps))))
back_all accounts b xs front [] [] low h paid = record { more = []; entries = sym (append-nil xs); tallies = λ key. refl }
back_all accounts b xs front [] (e ∷ es) low h paid = absurd h.held
back_all accounts b xs front (p ∷ ps) [] low h paid = absurd h.held
back_all accounts b xs front (p ∷ ps) (e ∷ es) low h paid =
    let later : IsLater p.1.0 p.1.1 = All-head (λ q. IsLater q.1.0 q.1.1) p ps h.later in
    let held : IsHeldFor (p.0, p.1.0) e = h.held.0 in
    let x : GroupHolds = entry_after p e in
    let ys : List Entry = xs ++ more_after p e in
    let between : Books = books_at ys (front ++ x ∷ []) es in
    let moved : after_group (books_at xs front (e ∷ es)) p ≡ between = moved_at b xs front p ps e es low h in
    let rest : Adds ys (fold after_group between ps).entries (back_by accounts (refunds_in (endings_of (filter all_of ps)))) =
    back_all accounts (b + 1) ys (front ++ x ∷ []) ps es (low_at b front p ps e es x low h (group_after p e)) (along_tail b p ps e es h)
    (All-tail (IsPaidBy accounts) p ps paid) in
    let on : fold after_group (books_at xs front (e ∷ es)) (p ∷ ps) ≡ fold after_group between ps = ap (λ (z : Books). fold after_group z ps) moved in
    let paid_first : IsPaidBy accounts p = All-head (IsPaidBy accounts) p ps paid in
    record {
      more = more_after p e ++ rest.more;
      entries = ap (λ (z : Books). z.entries) on ∙ rest.entries ∙ append_assoc xs (more_after p e) rest.more;
      tallies = λ key.
          tally-append (more_after p e) rest.more key
          ∙ ap (λ (t : Tally). plus t (tally_of rest.more key)) (one_group accounts p e key later held paid_first)
          ∙ ap (plus (back_by accounts (option_to_list (back_in p)) key)) (rest.tallies key)
          ∙ back-append accounts (option_to_list (back_in p)) (refunds_in (endings_of (filter all_of ps))) key
          ∙ ap (λ (rs : List GroupRefund). back_by accounts rs key) (back_more p ps);
    }

-- ---- the desk

pairs_are : (ws : List Submitted) (gs hs : List Group) → length ws ≡ length gs → map (λ p. p.1) (zip ws (zip gs hs)) ≡ zip gs hs
pairs_are [] [] hs n = refl
pairs_are [] (g ∷ gs) hs n = absurd (omega arith)
pairs_are (w ∷ ws) [] hs n = absurd (omega arith)
pairs_are (w ∷ ws) (g ∷ gs) [] n = refl
pairs_are (w ∷ ws) (g ∷ gs) (x ∷ hs) n = ap (λ (l : List (Group × Group)). (g, x) ∷ l) (pairs_are ws gs hs (omega arith))

-- the refunds of the groups' endings are those that are told
pub refunds_told : (d : DeskSeen) (after : Progress) → IsDesk d → AllZip IsLater d.progress.groups after.groups
    → refunds_in (endings_of (filter all_of (groups_along d after))) ≡ refunds_of d after
refunds_told d after h later =
    refunds_all all_of 0 d.books.entries [] (groups_along d after) d.books.holds (All-nil (λ x. x.group.0 ≤ 0)) (are_along d after h later)
    (λ k e l no. let bad : true ≡ false = no in cc)
    ∙ ap (filter_map (refund_of d.books)) (pairs_are d.groups d.progress.groups after.groups (as_submitted d h))

-- groups that go on give back what is told
pub progress_adds : (accounts : List (ℕ × Key)) (d : DeskSeen) (after : Progress) → IsDesk d → AllZip IsLater d.progress.groups after.groups
    → All (IsPaidBy accounts) (groups_along d after)
    → Adds d.books.entries (with_progress after d).books.entries (back_by accounts (refunds_of d after))
progress_adds accounts d after h later paid =
    let ps : List (Submitted × (Group × Group)) = groups_along d after in
    let along : AreAlong 0 ps d.books.holds = are_along d after h later in
    let a : Adds d.books.entries (fold after_group d.books ps).entries (back_by accounts (refunds_in (endings_of (filter all_of ps)))) =
    back_all accounts 0 d.books.entries [] ps d.books.holds (All-nil (λ x. x.group.0 ≤ 0)) along paid in
    let told : refunds_in (endings_of (filter all_of ps)) ≡ refunds_of d after = refunds_told d after h later in
    record { more = a.more; entries = a.entries; tallies = λ key. a.tallies key ∙ ap (λ (rs : List GroupRefund). back_by accounts rs key) told }
