-- `submit` and `amend` add to the ledger what they tell.
use Rattle.std.proofs.Common.{◌≡◌, ℕ, ◌+◌, false, List, [], ◌∷◌, ◌++◌, refl, arith, Option, Some, None, Result, Ok, Err}
use Rattle.std.specs.Option.{option_or}
use Rattle.plan_base.specs.declared.number.GroupNo.{GroupNo}
use Rattle.request_model.specs.Ranges.{IsGroup}
use Rattle.request_model.specs.declared.group.GroupDoc.{GroupDoc}
use Rattle.allocations.specs.declared.key.Key.{Key}
use Rattle.desk_runs.specs.Numbers.{group_at}
use Rattle.desk_runs.specs.Progress.{Progress}
use Rattle.desk_runs.specs.Reports.{withdrawn}
use Rattle.desk_runs.proofs.GoingOn.{withdrawal_goes_on}
use Rattle.desk_events.specs.declared.command.Command.TheVariants as command
use Rattle.desk_events.specs.declared.refusal.Refusal.{Refusal}
use Rattle.desk_events.specs.declared.reply.GroupRefund.{GroupRefund}
use Rattle.desk_core.specs.Asking.{MadeSeen, made_of}
use Rattle.desk_core.specs.Closing.{begun_member, ending_refusal, without_group, on_freed, on_amend}
use Rattle.desk_core.specs.Desk.{DeskSeen}
use Rattle.desk_core.specs.Holds.{refunds_of}
use Rattle.desk_core.specs.Kept.{IsDesk}
use Rattle.desk_core.specs.Submitting.{asks_of, op_of, group_of, charge_for, with_submission, on_made, on_submit}
use Rattle.desk_core.proofs.KeptAmending.{may_amend}
use Rattle.desk_core.proofs.KeptSubmitting.{submission_keeps}
use Rattle.desk_core.proofs.KeptTiming.{without_keeps}
use Rattle.desk_core.proofs.Makings.{made_are}
use Rattle.desk_accounts.specs.Balance.{GroupTold, group_accounts}
use Rattle.desk_accounts.proofs.Back.{back_by, progress_adds}
use Rattle.desk_accounts.proofs.Booked.{submission_covered}
use Rattle.desk_accounts.proofs.Completing.{none_completed, later_stay, added_stay}
use Rattle.desk_accounts.proofs.Covered.{still_covered, held_less}
use Rattle.desk_accounts.proofs.Goes.{LineGoes}
use Rattle.desk_accounts.proofs.Known.{groups_in, AreKnown, known_along, all_paid}
use Rattle.desk_accounts.proofs.Refunds.{none_back, back_then, progress_back}
use Rattle.desk_accounts.proofs.Requests.{told_group, submission_known, new_paid, charge_by, submission_adds, submission_stay}
use Rattle.desk_accounts.proofs.Tallies.{Tally, plus, same_tally, Adds, adds_then, adds_as}

-- ---- `submit`

submit_made : (known : List GroupTold) (version : ℕ) (d : DeskSeen) (document : GroupDoc) (made : List MadeSeen) → IsDesk d → IsGroup document
    → AreKnown known (groups_in d)
    → made_of d document ≡ Ok made → (on_made d document (Ok made)).refusal ≡ None
    → LineGoes known version d (command.Submit document) (on_made d document (Ok made)).reply (with_submission d document made)
submit_made known version d document made h g k is none =
    let m = made_are d document made g is in
    record {
      desk = submission_keeps d document made h g m none;
      groups = submission_known known d document made h g is k;
      covers = submission_covered d document made h m none;
      adds = λ later. submission_adds (group_accounts (known ++ told_group d document made ∷ later)) d document made m
          (new_paid known later d document made h k);
      back = none_back (groups_in d) (groups_in (with_submission d document made)) (λ n c. submission_stay d document made n h c);
      done = none_completed d.progress.groups (with_submission d document made).progress.groups
          (λ n over. added_stay (op_of document made) (asks_of made) d.progress n over);
    }

pub submit_line : (known : List GroupTold) (version : ℕ) (d : DeskSeen) (document : GroupDoc) → IsDesk d → IsGroup document → AreKnown known (groups_in d)
    → (on_submit d document).refusal ≡ None → LineGoes known version d (command.Submit document) (on_submit d document).reply (on_submit d document).desk
submit_line known version d document h g k none = by (made_of d document) refl none
  where
    by : (r : Result (List MadeSeen) Refusal) → made_of d document ≡ r → (on_made d document r).refusal ≡ None
        → LineGoes known version d (command.Submit document) (on_made d document r).reply (on_made d document r).desk
    by (Err refusal) is e = absurd (cc)
    by (Ok made) is e = submit_made known version d document made h g k is e

-- ---- `amend`

-- what is given back and charged
abbrev both : List (ℕ × Key) → List GroupRefund → GroupNo → ℕ → Key → Tally
both accounts refunds n c key = record { granted = 0; has = false; charged = (charge_by accounts n c key).charged; back = (back_by accounts refunds key).back }

both_are : (accounts : List (ℕ × Key)) (refunds : List GroupRefund) (n : GroupNo) (c : ℕ) (key : Key)
    → plus (back_by accounts refunds key) (charge_by accounts n c key) ≡ both accounts refunds n c key
both_are accounts refunds n c key =
    same_tally (plus (back_by accounts refunds key) (charge_by accounts n c key)) (both accounts refunds n c key)
    refl refl (front (charge_by accounts n c key).charged) (end (back_by accounts refunds key).back)
  where
    front : (x : ℕ) → 0 + x ≡ x
    front x = omega arith

    end : (x : ℕ) → x + 0 ≡ x
    end x = omega arith

amend_made : (known : List GroupTold) (version : ℕ) (d : DeskSeen) (old : GroupNo) (document : GroupDoc) (made : List MadeSeen) → IsDesk d
    → IsGroup document → AreKnown known (groups_in d)
    → IsDesk (without_group old d) → made_of (without_group old d) document ≡ Ok made → (on_made (without_group old d) document (Ok made)).refusal ≡ None
    → LineGoes known version d (command.Amend old document) (on_freed d old document (Ok made)).reply (with_submission (without_group old d) document made)
amend_made known version d old document made h g k keeps is none =
    let freed : DeskSeen = without_group old d in
    let after : Progress = withdrawn old d.progress in
    let refunds : List GroupRefund = refunds_of d after in
    let n : GroupNo = (group_of freed document made).number in
    let c = charge_for freed document made in
    let later = (withdrawal_goes_on d.progress old).later in
    let known_then : AreKnown known (groups_in freed) = known_along known d.groups d.progress.groups after.groups later k in
    let m = made_are freed document made g is in
    let back : (more : List GroupTold) → Adds d.books.entries freed.books.entries (back_by (group_accounts (known ++ more)) refunds) =
    λ more. progress_adds (group_accounts (known ++ more)) d after h later (all_paid known more d after h k) in
    record {
      desk = submission_keeps freed document made keeps g m none;
      groups = submission_known known freed document made keeps g is known_then;
      covers = λ covered.
          submission_covered freed document made keeps m none
          (still_covered d.books freed.books (back_by (group_accounts (known ++ [])) refunds) (back [])
          (λ key. let less = held_less d after key h later in omega (arith, less)) covered);
      adds = λ more.
          let all : List GroupTold = told_group freed document made ∷ more in
          let accounts : List (ℕ × Key) = group_accounts (known ++ all) in
          adds_as d.books.entries (with_submission freed document made).books.entries
          (λ key. plus (back_by accounts refunds key) (charge_by accounts n c key)) (both accounts refunds n c)
          (adds_then d.books.entries freed.books.entries (with_submission freed document made).books.entries (back_by accounts refunds)
          (charge_by accounts n c) (back all)
          (submission_adds accounts freed document made m (new_paid known more freed document made keeps known_then)))
          (both_are accounts refunds n c);
      back =
          back_then refunds (groups_in d) (groups_in freed) (groups_in (with_submission freed document made)) (progress_back d after h later)
          (λ m closed. submission_stay freed document made m keeps closed);
      done =
          none_completed d.progress.groups (with_submission freed document made).progress.groups
          (λ m over. added_stay (op_of document made) (asks_of made) freed.progress m (later_stay d.progress.groups after.groups m later over));
    }

-- neither refuses where the first of both doesn't
neither : (a b : Option Refusal) → option_or a b ≡ None → (a ≡ None) × (b ≡ None)
neither None b e = (refl, e)
neither (Some r) b e = absurd (cc)

pub amend_line : (known : List GroupTold) (version : ℕ) (d : DeskSeen) (old : GroupNo) (document : GroupDoc) → IsDesk d → IsGroup document
    → AreKnown known (groups_in d)
    → (on_amend d old document).refusal ≡ None
    → LineGoes known version d (command.Amend old document) (on_amend d old document).reply (on_amend d old document).desk
amend_line known version d old document h g k none =
    let freed : DeskSeen = without_group old d in
    let parts = neither (ending_refusal (begun_member d) (group_at d.progress.groups old)) (on_submit freed document).refusal none in
    by (without_keeps d old h (may_amend d old parts.0)) (made_of freed document) refl parts.1
  where
    by : IsDesk (without_group old d) → (r : Result (List MadeSeen) Refusal) → made_of (without_group old d) document ≡ r
        → (on_made (without_group old d) document r).refusal ≡ None
        → LineGoes known version d (command.Amend old document) (on_freed d old document r).reply (on_freed d old document r).desk
    by keeps (Err refusal) is e = absurd (cc)
    by keeps (Ok made) is e = amend_made known version d old document made h g k keeps is e
