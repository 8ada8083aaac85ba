-- The balances that are printed are those that are told.
use Rattle.std.proofs.Common.{◌≡◌, ◌∙◌, ap, sym, subst, ℕ, Bool, List, [], ◌∷◌, ◌++◌, map, cond, Option, Some, None, Result, Ok, Err}
use Rattle.std.specs.Prelude.{option_and_then}
use Rattle.std.specs.Option.{option_map_or}
use Rattle.std.proofs.lemmas.List.{append_assoc}
use Rattle.std.proofs.lemmas.List.Sums.{fold_push}
use Rattle.plan_io.specs.declared.lines.ScriptLine.{ScriptLine}
use Rattle.allocations.specs.declared.key.Key.{Key}
use Rattle.allocations.specs.Books.{held_of, balance_of, accounts_of}
use Rattle.allocations.proofs.Granted.{has_grant-last}
use Rattle.desk_events.specs.declared.command.Command.{Command}
use Rattle.desk_events.specs.declared.command.Command.TheVariants as command
use Rattle.desk_events.specs.declared.entry.EventEntry.{EventEntry}
use Rattle.desk_events.specs.declared.entry.What.{What}
use Rattle.desk_events.specs.declared.entry.What.TheVariants.{Line, Take, Publish}
use Rattle.desk_events.specs.declared.fault.CommandFault.{CommandFault}
use Rattle.desk_events.specs.declared.reply.AccountBalance.{AccountBalance}
use Rattle.desk_events.specs.declared.reply.Reply.{Reply}
use Rattle.desk_events.specs.declared.reply.Reply.TheVariants as reply
use Rattle.desk_core.specs.Desk.{DeskSeen, StateSeen, start}
use Rattle.desk_core.specs.History.{read_at, after_line, after_what, after_entry, replay, IsLineReply, IsPublication, IsReply, IsEntry, IsLegal}
use Rattle.desk_core.specs.Registering.{on_grant}
use Rattle.desk_core.specs.Showing.{account_balance}
use Rattle.desk_core.specs.Step.{balance_in}
use Rattle.desk_accounts.specs.Balance.{GrantTold, grant_in, is_granted, grant_told, told_by, balance_after}
use Rattle.desk_accounts.specs.Covered.{IsCovered, held_at}
use Rattle.desk_accounts.specs.Laws.{IsShown}
use Rattle.desk_accounts.proofs.Goes.{no_books, books_of}
use Rattle.desk_accounts.proofs.Histories.{line_leaves, told_balance, begun_told}
use Rattle.desk_accounts.proofs.Listed.{all_shown}
use Rattle.desk_accounts.proofs.Shows.{Shows, step_shows}

-- ---- `balances`

-- the accounts of the desk are shown
abbrev AreListed : StateSeen → List AccountBalance → Type 0
AreListed s shown = (d : DeskSeen) × (s.desk ≡ Some d) × (shown ≡ map (account_balance d.books) (accounts_of d.books.entries))

line_lists : (s : StateSeen) (read : Result Command CommandFault) (answer : Reply) (shown : List AccountBalance) → IsLineReply s read answer
    → answer ≡ reply.Balances shown → AreListed s shown
line_lists s (Err fault) answer shown r e = let bad : reply.Refused r.0 ≡ reply.Balances shown = sym r.2 ∙ e in absurd (cc)
line_lists s (Ok c) answer shown r e = subst (Shows s.desk c r.0.state) (r.2 ∙ e) (step_shows r.1.0 s s.desk c r.0 r.1.2)

entry_lists : (scripts : List (List ScriptLine)) (before : List EventEntry) (e : EventEntry) (what : What) (shown : List AccountBalance)
    → IsReply scripts before e what
    → e.reply ≡ reply.Balances shown
    → AreListed (replay scripts before) shown
entry_lists scripts before e Line shown r is = line_lists (replay scripts before) (read_at scripts e) e.reply shown r.1 is
entry_lists scripts before e Take shown r is = let bad : reply.Taken ≡ reply.Balances shown = sym r.1 ∙ is in absurd (cc)
entry_lists scripts before e Publish shown r is = absurd (subst (IsPublication (replay scripts before) r.0) is r.2)

-- the books of an opened desk, and what they hold
books_are : (s : StateSeen) (d : DeskSeen) → s.desk ≡ Some d → books_of s ≡ d.books
books_are s d is = ap (λ (o : Option DeskSeen). option_map_or (λ x. x.books) o no_books) is

held_is : (s : StateSeen) (d : DeskSeen) → s.desk ≡ Some d → held_of d.books.holds ≡ held_at s
held_is s d is = ap {B = Key → ℕ} (λ (o : Option DeskSeen) (key : Key). option_map_or (λ (x : DeskSeen). held_of x.books.holds key) o 0) (sym is)

pub balances_shown : (scripts : List (List ScriptLine)) (history before after : List EventEntry) (e : EventEntry) (shown : List AccountBalance)
    → IsLegal scripts history
    → history ≡ before ++ e ∷ after → e.reply ≡ reply.Balances shown → IsShown (balance_after scripts before) (held_at (replay scripts before)) shown
balances_shown scripts history before after e shown h is printed =
    let told = begun_told scripts history before (e ∷ after) h is in
    let entry : IsEntry scripts before e = h.each before after e is in
    let listed : AreListed (replay scripts before) shown = entry_lists scripts before e e.what shown entry.reply printed in
    let covered : IsCovered listed.0.books = subst IsCovered (books_are (replay scripts before) listed.0 listed.1) told.covered in
    subst (λ (f : Key → ℕ). IsShown (balance_after scripts before) f shown) (held_is (replay scripts before) listed.0 listed.1)
    (subst (IsShown (balance_after scripts before) (held_of listed.0.books.holds)) (sym listed.2)
    (all_shown listed.0.books (balance_after scripts before) covered (λ key.
    ap (option_and_then (λ d. balance_in d key)) (sym listed.1) ∙ told_balance scripts before key told)))

-- ---- `grant`

-- a grant is made, and its account's balance is shown
pub record IsMade (s after : StateSeen) (read : Result Command CommandFault) (balance : ℕ) : Type 0 where
  pub desk : DeskSeen
  pub key : Key
  pub seconds : ℕ
  pub says : read ≡ Ok (command.Grant key seconds)
  pub then : after.desk ≡ Some (on_grant desk key seconds).desk
  pub is : balance ≡ balance_of (on_grant desk key seconds).desk.books.entries key

line_grants : (s : StateSeen) (read : Result Command CommandFault) (answer : Reply) (balance : ℕ) → IsLineReply s read answer → answer ≡ reply.Granted balance
    → IsMade s (after_line s read answer) read balance
line_grants s (Err fault) answer balance r e = let bad : reply.Refused r.0 ≡ reply.Granted balance = sym r.2 ∙ e in absurd (cc)
line_grants s (Ok c) answer balance r e =
    let shows : Shows s.desk c r.0.state (reply.Granted balance) = subst (Shows s.desk c r.0.state) (r.2 ∙ e) (step_shows r.1.0 s s.desk c r.0 r.1.2) in
    record {
      desk = shows.0;
      key = shows.1;
      seconds = shows.2;
      says = ap (λ (x : Command). let y : Result Command CommandFault = Ok x in y) shows.4;
      then = ap (λ (x : StateSeen). x.desk) (line_leaves s c answer r) ∙ shows.5;
      is = shows.6;
    }

entry_grants : (scripts : List (List ScriptLine)) (before : List EventEntry) (e : EventEntry) (what : What) (balance : ℕ)
    → IsReply scripts before e what → e.reply ≡ reply.Granted balance
    → IsMade (replay scripts before) (after_what (replay scripts before) (read_at scripts e) what e.reply) (read_at scripts e) balance
entry_grants scripts before e Line balance r is = line_grants (replay scripts before) (read_at scripts e) e.reply balance r.1 is
entry_grants scripts before e Take balance r is = let bad : reply.Taken ≡ reply.Granted balance = sym r.1 ∙ is in absurd (cc)
entry_grants scripts before e Publish balance r is = absurd (subst (IsPublication (replay scripts before) r.0) is r.2)

pub grants_shown : (scripts : List (List ScriptLine)) (history before after : List EventEntry) (e : EventEntry) (balance : ℕ) → IsLegal scripts history
    → history ≡ before ++ e ∷ after → e.reply ≡ reply.Granted balance
    → (g : GrantTold) × (grant_told (told_by scripts e) ≡ Some g) × (balance_after scripts (before ++ e ∷ []) g.key ≡ Some balance)
grants_shown scripts history before after e balance h is printed =
    let whole : history ≡ (before ++ e ∷ []) ++ after = is ∙ sym (append_assoc before (e ∷ []) after) in
    let told = begun_told scripts history (before ++ e ∷ []) after h whole in
    let entry : IsEntry scripts before e = h.each before after e is in
    let m : IsMade (replay scripts before) (after_entry scripts (replay scripts before) e) (read_at scripts e) balance =
    entry_grants scripts before e e.what balance entry.reply printed in
    let then : (replay scripts (before ++ e ∷ [])).desk ≡ Some (on_grant m.desk m.key m.seconds).desk =
    ap (λ (s : StateSeen). s.desk) (fold_push (after_entry scripts) start before e) ∙ m.then in
    let kept : option_and_then (λ d. balance_in d m.key) (replay scripts (before ++ e ∷ [])).desk ≡ balance_in (on_grant m.desk m.key m.seconds).desk m.key =
    ap (option_and_then (λ d. balance_in d m.key)) then in
    let some : balance_in (on_grant m.desk m.key m.seconds).desk m.key ≡ Some (balance_of (on_grant m.desk m.key m.seconds).desk.books.entries m.key) =
    ap (λ (b : Bool). let o : Option ℕ = cond b (Some (balance_of (on_grant m.desk m.key m.seconds).desk.books.entries m.key)) None in
    o) (has_grant-last m.desk.books.entries m.key m.seconds) in (
      record { key = m.key; seconds = m.seconds },
      ap (λ (a : Reply). let o : Option GrantTold = cond (is_granted a) (grant_in (read_at scripts e)) None in o) printed ∙ ap grant_in m.says,
      sym (told_balance scripts (before ++ e ∷ []) m.key told) ∙ kept ∙ some ∙ ap (λ (n : ℕ). let o : Option ℕ = Some n in o) (sym m.is),
    )
