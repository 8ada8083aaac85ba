-- What an entry does to a state is what it tells.
use Rattle.std.proofs.Common.{◌≡◌, ℕ, ◌+◌, List, [], ◌∷◌, ◌++◌, refl, sym, subst, ap, arith, Option, Some, None, Result, Ok}
use Rattle.std.specs.Prelude.{if◌then◌else◌}
use Rattle.std.specs.List.{AllZip}
use Rattle.std.specs.Option.{IfSome, option_to_list, option_map_or}
use Rattle.std.proofs.lemmas.List.{append-nil}
use Rattle.std.proofs.lemmas.Option.{same_Some}
use Rattle.plan_base.specs.declared.number.RequestNo.{RequestNo}
use Rattle.allocations.specs.declared.entry.Entry.{Entry}
use Rattle.allocations.specs.declared.key.Key.{Key}
use Rattle.allocations.specs.Books.{Books, held_of}
use Rattle.allocations.specs.Changes.{with_entry, grant_entry}
use Rattle.allocations.specs.Key.{is_key}
use Rattle.desk_runs.specs.declared.group.Group.{Group}
use Rattle.desk_runs.specs.Progress.{Progress}
use Rattle.desk_runs.specs.Sound.{IsLater}
use Rattle.desk_events.specs.declared.command.Command.{Command}
use Rattle.desk_events.specs.declared.command.Command.TheVariants as command
use Rattle.desk_events.specs.declared.fault.CommandFault.{CommandFault}
use Rattle.desk_events.specs.declared.refusal.Refusal.{Refusal}
use Rattle.desk_events.specs.declared.reply.GroupRefund.{GroupRefund}
use Rattle.desk_events.specs.declared.reply.Reply.{Reply}
use Rattle.desk_events.specs.declared.reply.Reply.TheVariants as reply
use Rattle.desk_core.specs.declared.desk.Submitted.{Submitted}
use Rattle.desk_core.specs.Desk.{DeskSeen, StateSeen, Stepped, Decision, decided}
use Rattle.desk_core.specs.Holds.{refunds_of, with_progress}
use Rattle.desk_core.specs.Kept.{IsDesk}
use Rattle.desk_core.specs.Step.{opened}
use Rattle.desk_accounts.specs.Balance.{Told, GroupTold, group_told, group_accounts, refunds_in, completed_told}
use Rattle.desk_accounts.specs.Covered.{IsCovered}
use Rattle.desk_accounts.proofs.Back.{back_by, progress_adds}
use Rattle.desk_accounts.proofs.Completing.{IsOverIn, Completes, none_completed, later_stay}
use Rattle.desk_accounts.proofs.Covered.{still_covered, held_less}
use Rattle.desk_accounts.proofs.Known.{groups_in, AreKnown, known_along, all_paid}
use Rattle.desk_accounts.proofs.Refunds.{IsClosedIn, GivesBack, none_back, progress_back}
use Rattle.desk_accounts.proofs.Tallies.{Tally, nothing, tally_by, grant_tally, Adds, adds_nothing, adds_as}

-- ---- what an entry does

abbrev pub no_books : Books
no_books = record { entries = []; holds = [] }

-- the books and the groups of a state, none before the desk is opened
abbrev pub books_of : StateSeen → Books
books_of s = option_map_or (λ d. d.books) s.desk no_books

abbrev pub groups_of : StateSeen → List (Submitted × Group)
groups_of s = option_map_or groups_in s.desk []

-- how far they have come
abbrev pub runs_of : StateSeen → List Group
runs_of s = option_map_or (λ d. d.progress.groups) s.desk []

-- where these groups were told so far, an entry leaves a desk whose groups are known with the one that it tells, and whose accounts
-- are covered where they were; it adds to the ledger what it tells of each account, whatever is told later; and it refunds groups
-- that close, and completes a request that wasn't over
pub record Goes (known : List GroupTold) (t : Told) (before after : StateSeen) : Type 0 where
  pub desk : IfSome after.desk IsDesk
  pub groups : AreKnown (known ++ option_to_list (group_told t)) (groups_of after)
  pub covers : IsCovered (books_of before) → IsCovered (books_of after)
  pub adds : (later : List GroupTold) → Adds (books_of before).entries (books_of after).entries (tally_by (known ++ (option_to_list (group_told t) ++ later)) t)
  pub back : GivesBack (refunds_in t.reply) (groups_of before) (groups_of after)
  pub done : Completes (completed_told t) (runs_of before) (runs_of after)

-- where no group is told, those that are known stay so
pub stay_known : (known : List GroupTold) (ps : List (Submitted × Group)) (t : Told) → group_told t ≡ None → AreKnown known ps
    → AreKnown (known ++ option_to_list (group_told t)) ps
stay_known known ps t none k =
    subst (λ (o : Option GroupTold). AreKnown (known ++ option_to_list o) ps) (sym none)
    (subst (λ (l : List GroupTold). AreKnown l ps) (sym (append-nil known)) k)

-- ---- an entry that tells nothing of accounts

pub record IsQuiet (t : Told) : Type 0 where
  pub group : group_told t ≡ None
  pub tally : (groups : List GroupTold) (key : Key) → tally_by groups t key ≡ nothing
  pub back : refunds_in t.reply ≡ []
  pub done : completed_told t ≡ None

pub refused_quiet : (line : Result Command CommandFault) (r : Refusal) → IsQuiet (record { line = line; reply = reply.Refused r })
refused_quiet line r = record { group = refl; tally = λ groups key. refl; back = refl; done = refl }

quiet_back : (t : Told) (before after : StateSeen) → IsQuiet t → groups_of after ≡ groups_of before
    → GivesBack (refunds_in t.reply) (groups_of before) (groups_of after)
quiet_back t before after quiet groups =
    subst (λ (rs : List GroupRefund). GivesBack rs (groups_of before) (groups_of after)) (sym quiet.back)
    (none_back (groups_of before) (groups_of after) (λ n c. subst (λ (ps : List (Submitted × Group)). IsClosedIn ps n) (sym groups) c))

quiet_done : (t : Told) (before after : StateSeen) → IsQuiet t → runs_of after ≡ runs_of before → Completes (completed_told t) (runs_of before) (runs_of after)
quiet_done t before after quiet runs =
    subst (λ (o : Option RequestNo). Completes o (runs_of before) (runs_of after)) (sym quiet.done)
    (none_completed (runs_of before) (runs_of after) (λ n h. subst (λ (gs : List Group). IsOverIn gs n) (sym runs) h))

-- it leaves the books and the groups
pub quiet_goes : (known : List GroupTold) (t : Told) (before after : StateSeen) → IsQuiet t → IfSome after.desk IsDesk → AreKnown known (groups_of before)
    → groups_of after ≡ groups_of before → books_of after ≡ books_of before → runs_of after ≡ runs_of before → Goes known t before after
quiet_goes known t before after quiet h k groups books runs = record {
  desk = h;
  groups = stay_known known (groups_of after) t quiet.group (subst (AreKnown known) (sym groups) k);
  covers = λ covered. subst IsCovered (sym books) covered;
  adds = λ later.
      let all : List GroupTold = known ++ (option_to_list (group_told t) ++ later) in
      let entries : List Entry = (books_of before).entries in
      subst (λ (b : Books). Adds entries b.entries (tally_by all t)) (sym books)
      (adds_as entries entries (λ key. nothing) (tally_by all t) (adds_nothing entries) (λ key. sym (quiet.tally all key)));
  back = quiet_back t before after quiet groups;
  done = quiet_done t before after quiet runs;
}

-- ---- a line that an opened desk accepts

abbrev pub told_at : Command → Reply → Told
told_at c answer = record { line = Ok c; reply = answer }

-- with this reply, and leaves that desk
abbrev pub LineGoes : List GroupTold → ℕ → DeskSeen → Command → Reply → DeskSeen → Type 0
LineGoes known version d c answer e = Goes known (told_at c answer) (opened version d) (opened (version + 1) e)

pub quiet_line : (known : List GroupTold) (version : ℕ) (d e : DeskSeen) (c : Command) (answer : Reply) → IsQuiet (told_at c answer) → IsDesk e
    → AreKnown known (groups_in d)
    → groups_in e ≡ groups_in d → e.books ≡ d.books → e.progress.groups ≡ d.progress.groups → LineGoes known version d c answer e
quiet_line known version d e c answer quiet h k groups books runs =
    quiet_goes known (told_at c answer) (opened version d) (opened (version + 1) e) quiet h k groups books runs

by_decided : (known : List GroupTold) (version : ℕ) (d e : DeskSeen) (c : Command) (refusal : Option Refusal) (answer : Reply) → IsDesk d
    → AreKnown known (groups_in d)
    → (refusal ≡ None → LineGoes known version d c answer e)
    → (let s : Stepped = decided (opened version d) (record { refusal = refusal; reply = answer; desk = e }) in
    Goes known (told_at c s.reply) (opened version d) s.state)
by_decided known version d e c None answer h k goes = goes refl
by_decided known version d e c (Some r) answer h k goes = quiet_goes known (told_at c (reply.Refused r)) (opened version d) (opened version d)
    (refused_quiet (Ok c) r) h k refl refl refl

-- a decision that is the step
pub decided_goes : (known : List GroupTold) (version : ℕ) (d : DeskSeen) (c : Command) (decision : Decision) (stepped : Stepped) → IsDesk d
    → AreKnown known (groups_in d)
    → Some (decided (opened version d) decision) ≡ Some stepped → (decision.refusal ≡ None → LineGoes known version d c decision.reply decision.desk)
    → Goes known (told_at c stepped.reply) (opened version d) stepped.state
decided_goes known version d c decision stepped h k is goes =
    subst (λ (s : Stepped). Goes known (told_at c s.reply) (opened version d) s.state) (same_Some (decided (opened version d) decision) stepped is)
    (by_decided known version d decision.desk c decision.refusal decision.reply h k goes)

-- ---- groups that go on

pub progress_line : (known : List GroupTold) (version : ℕ) (d : DeskSeen) (after : Progress) (c : Command) (answer : Reply) → IsDesk d
    → IsDesk (with_progress after d)
    → AllZip IsLater d.progress.groups after.groups → AreKnown known (groups_in d) → group_told (told_at c answer) ≡ None
    → ((groups : List GroupTold) (key : Key) → back_by (group_accounts groups) (refunds_of d after) key ≡ tally_by groups (told_at c answer) key)
    → refunds_in answer ≡ refunds_of d after → completed_told (told_at c answer) ≡ None → LineGoes known version d c answer (with_progress after d)
progress_line known version d after c answer h e later k none says back done =
    let t : Told = told_at c answer in
    let adds : (more : List GroupTold)
    → Adds d.books.entries (with_progress after d).books.entries (back_by (group_accounts (known ++ more)) (refunds_of d after)) =
    λ more. progress_adds (group_accounts (known ++ more)) d after h later (all_paid known more d after h k) in
    record {
      desk = e;
      groups = stay_known known (groups_in (with_progress after d)) t none (known_along known d.groups d.progress.groups after.groups later k);
      covers = still_covered d.books (with_progress after d).books (back_by (group_accounts (known ++ [])) (refunds_of d after)) (adds [])
          (λ key. let less = held_less d after key h later in omega (arith, less));
      adds = λ more.
          let all : List GroupTold = option_to_list (group_told t) ++ more in
          adds_as d.books.entries (with_progress after d).books.entries (back_by (group_accounts (known ++ all)) (refunds_of d after))
          (tally_by (known ++ all) t) (adds all) (says (known ++ all));
      back = subst (λ (rs : List GroupRefund). GivesBack rs (groups_in d) (groups_in (with_progress after d))) (sym back) (progress_back d after h later);
      done =
          subst (λ (o : Option RequestNo). Completes o d.progress.groups after.groups) (sym done)
          (none_completed d.progress.groups after.groups (λ n over. later_stay d.progress.groups after.groups n later over));
    }

-- ---- `grant`

pub grant_line : (known : List GroupTold) (version : ℕ) (d e : DeskSeen) (account : Key) (seconds balance : ℕ) → IsDesk e
    → AreKnown known (groups_in d) → groups_in e ≡ groups_in d
    → e.books ≡ with_entry (grant_entry account seconds) d.books → e.progress.groups ≡ d.progress.groups
    → LineGoes known version d (command.Grant account seconds) (reply.Granted balance) e
grant_line known version d e account seconds balance h k groups books runs =
    let given : Key → Tally = λ key. record { granted = if is_key account key then seconds else 0; has = is_key account key; charged = 0; back = 0 } in
    let adds : Adds d.books.entries e.books.entries given = record {
      more = grant_entry account seconds ∷ [];
      entries = ap (λ (b : Books). b.entries) books;
      tallies = λ key. grant_tally account seconds key;
    } in
    record {
      desk = h;
      groups = stay_known known (groups_in e) (told_at (command.Grant account seconds) (reply.Granted balance)) refl (subst (AreKnown known) (sym groups) k);
      covers = still_covered d.books e.books given adds (λ key.
          let same : held_of e.books.holds key ≡ held_of d.books.holds key = ap (λ (b : Books). held_of b.holds key) books in omega (arith, same));
      adds = λ later. adds;
      back = none_back (groups_in d) (groups_in e) (λ n c. subst (λ (ps : List (Submitted × Group)). IsClosedIn ps n) (sym groups) c);
      done = none_completed d.progress.groups e.progress.groups (λ n over. subst (λ (gs : List Group). IsOverIn gs n) (sym runs) over);
    }
