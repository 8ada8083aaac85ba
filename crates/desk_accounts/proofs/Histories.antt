-- After each legal history the ledger's entries say what the history's entries tell.
use Rattle.std.proofs.Common.{◌≡◌, ◌∙◌, ap, sym, subst, refl, ℕ, ◌+◌, ◌*◌, ◌≤◌, arith, List, [], ◌∷◌, ◌++◌, Option, Some, None, Result, Ok, Err}
use Rattle.std.specs.Prelude.{option_and_then}
use Rattle.std.specs.List.{cons_option}
use Rattle.std.specs.Option.{IfSome, option_to_list}
use Rattle.std.proofs.lemmas.List.{append-nil, append_assoc, map-append}
use Rattle.std.proofs.lemmas.List.Elements.{filter_map-append}
use Rattle.std.proofs.lemmas.List.Sums.{fold_push, sum_by_push}
use Rattle.plan_base.specs.Limits.{most_grant}
use Rattle.plan_base.specs.declared.claim.Claim.{Claim}
use Rattle.plan_base.specs.declared.parts.Parts.{Parts}
use Rattle.plan_base.specs.Verdict.{IsCertified}
use Rattle.plan_io.specs.declared.lines.ScriptLine.{ScriptLine}
use Rattle.allocations.specs.declared.entry.Entry.{Entry}
use Rattle.allocations.specs.declared.key.Key.{Key}
use Rattle.desk_events.specs.declared.command.Command.{Command}
use Rattle.desk_events.specs.declared.entry.EventEntry.{EventEntry}
use Rattle.desk_events.specs.declared.entry.What.{What}
use Rattle.desk_events.specs.declared.entry.What.TheVariants.{Line, Take, Publish}
use Rattle.desk_events.specs.declared.fault.CommandFault.{CommandFault}
use Rattle.desk_events.specs.declared.reply.Reply.{Reply}
use Rattle.desk_events.specs.declared.reply.Reply.TheVariants as reply
use Rattle.desk_events.specs.Line.{command_of_line}
use Rattle.desk_events.proofs.InRange.{in_range}
use Rattle.desk_core.specs.Desk.{DeskSeen, StateSeen, Stepped, start}
use Rattle.desk_core.specs.History.{line_of, read_at, verdict_told, left_by, after_line, with_published, after_publish, after_what, after_entry}
use Rattle.desk_core.specs.History.{replay, IsLineReply, IsPublication, IsReply}
use Rattle.desk_core.specs.History.{IsEntry, EachAfter, IsLegal}
use Rattle.desk_core.specs.Kept.{IsDesk}
use Rattle.desk_core.specs.Publishing.{with_publication}
use Rattle.desk_core.specs.Step.{IsSnapshotOf, step, balance_in, opened}
use Rattle.desk_core.proofs.KeptPublishing.{snapshot_is}
use Rattle.desk_core.proofs.Publications.{publication_keeps}
use Rattle.desk_accounts.specs.Balance.{Told, told_by, GroupTold, group_told, groups_told, seconds_granted, told_of, granted_told}
use Rattle.desk_accounts.specs.Balance.{all_granted, charged_told, refunded_told, balance_after}
use Rattle.desk_accounts.specs.Covered.{IsCovered}
use Rattle.desk_accounts.proofs.Known.{AreKnown, none_known}
use Rattle.desk_accounts.proofs.Lines.{line_goes, told_step}
use Rattle.desk_accounts.proofs.Goes.{books_of, groups_of, Goes, refused_quiet, quiet_goes}
use Rattle.desk_accounts.proofs.Grants.{Grows, step_grows, published_grows}
use Rattle.desk_accounts.proofs.Once.{AreOnce, none_yet, once_more}
use Rattle.desk_accounts.proofs.Tallies.{Tally, plus, balance_from, tally_of, tally_by, tally_told, tally-append, told-push, Adds}

-- ---- what an entry does

-- a line leaves what its step leaves
pub line_leaves : (s : StateSeen) (c : Command) (answer : Reply) → (r : IsLineReply s (Ok c) answer) → after_line s (Ok c) answer ≡ r.0.state
line_leaves s c answer r = ap (λ (a : Reply). left_by s (step (verdict_told a) s c)) (sym r.2) ∙ ap (left_by s) (told_step r.1.0 s s.desk c r.0 r.1.2)

-- a line with a reply: its fault or its step
line_entry : (known : List GroupTold) (s : StateSeen) (l : ScriptLine) (read : Result Command CommandFault) (answer : Reply) → IfSome s.desk IsDesk
    → AreKnown known (groups_of s)
    → command_of_line l ≡ read → IsLineReply s read answer → Goes known (record { line = read; reply = answer }) s (after_line s read answer)
line_entry known s l (Err fault) answer h k is r =
    subst (λ (a : Reply). Goes known (record { line = Err fault; reply = a }) s s) (sym r.2)
    (quiet_goes known (record { line = Err fault; reply = reply.Refused r.0 }) s s (refused_quiet (Err fault) r.0) h k refl refl refl)
line_entry known s l (Ok c) answer h k is r =
    let stepped : Stepped = r.0 in
    let goes : Goes known (record { line = Ok c; reply = stepped.reply }) s stepped.state =
    line_goes known s.version s.desk c stepped h k (in_range l c is) r.1 in
    subst (λ (after : StateSeen). Goes known (record { line = Ok c; reply = answer }) s after) (sym (line_leaves s c answer r))
    (subst (λ (a : Reply). Goes known (record { line = Ok c; reply = a }) s stepped.state) r.2 goes)

-- a claim that is published for the snapshot
claim_entry : (known : List GroupTold) (version : ℕ) (o : Option DeskSeen) (line : Result Command CommandFault) (claim : Claim) (parts : Parts)
    → IfSome o IsDesk
    → AreKnown known (groups_of (record { version = version; desk = o })) → IsSnapshotOf (record { version = version; desk = o }) parts
    → IsCertified parts claim
    → Goes known (record { line = line; reply = reply.Published claim }) (record { version = version; desk = o })
    (with_published (record { version = version; desk = o }) o claim)
claim_entry known version None line claim parts h k of certified = let none = of.1 in absurd (cc)
claim_entry known version (Some d) line claim parts h k of certified =
    let is : parts ≡ _ = snapshot_is (opened version d) version d parts refl of in
    let after : StateSeen = opened (version + 1) (with_publication version claim d) in
    quiet_goes known (record { line = line; reply = reply.Published claim }) (opened version d) after
    (record { group = refl; tally = λ groups key. refl; back = refl; done = refl })
    (publication_keeps version d claim h (subst (λ (p : Parts). IsCertified p claim) is certified)) k refl refl refl

published_entry : (known : List GroupTold) (s : StateSeen) (v : ℕ) (line : Result Command CommandFault) (answer : Reply) → IfSome s.desk IsDesk
    → AreKnown known (groups_of s)
    → IsPublication s v answer → Goes known (record { line = line; reply = answer }) s (after_publish s answer)
published_entry known s v line (reply.Published claim) h k p = claim_entry known s.version s.desk line claim p.1.0 h k p.1.1 p.1.3
published_entry known s v line (reply.Refused r) h k p =
    quiet_goes known (record { line = line; reply = reply.Refused r }) s s (refused_quiet line r) h k refl refl refl
published_entry known s v line _ h k p = absurd p

-- an entry that is this much of its line
pub what_entry : (scripts : List (List ScriptLine)) (before : List EventEntry) (e : EventEntry) (what : What) (known : List GroupTold)
    → IfSome (replay scripts before).desk IsDesk
    → AreKnown known (groups_of (replay scripts before))
    → IsReply scripts before e what
    → Goes known (told_by scripts e) (replay scripts before) (after_what (replay scripts before) (read_at scripts e) what e.reply)
what_entry scripts before e Line known h k r = line_entry known (replay scripts before) (line_of scripts e) (read_at scripts e) e.reply h k refl r.1
what_entry scripts before e Take known h k r =
    let s : StateSeen = replay scripts before in
    subst (λ (a : Reply). Goes known (record { line = read_at scripts e; reply = a }) s s) (sym r.1)
    (quiet_goes known (record { line = read_at scripts e; reply = reply.Taken }) s s
    (record { group = refl; tally = λ groups key. refl; back = refl; done = refl }) h k refl refl refl)
what_entry scripts before e Publish known h k r = published_entry known (replay scripts before) r.0 (read_at scripts e) e.reply h k r.2

-- ---- what an entry grants

line_grows : (s : StateSeen) (l : ScriptLine) (read : Result Command CommandFault) (answer : Reply) → command_of_line l ≡ read → IsLineReply s read answer
    → Grows (record { line = read; reply = answer }) s (after_line s read answer)
line_grows s l (Err fault) answer is r = subst (λ (a : Reply). Grows (record { line = Err fault; reply = a }) s s) (sym r.2) (omega arith)
line_grows s l (Ok c) answer is r =
    let stepped : Stepped = r.0 in
    let grows : Grows (record { line = Ok c; reply = stepped.reply }) s stepped.state = step_grows r.1.0 s s.desk c stepped (in_range l c is) r.1.2 in
    subst (λ (after : StateSeen). Grows (record { line = Ok c; reply = answer }) s after) (sym (line_leaves s c answer r))
    (subst (λ (a : Reply). Grows (record { line = Ok c; reply = a }) s stepped.state) r.2 grows)

what_grows : (scripts : List (List ScriptLine)) (before : List EventEntry) (e : EventEntry) (what : What) → IsReply scripts before e what
    → Grows (told_by scripts e) (replay scripts before) (after_what (replay scripts before) (read_at scripts e) what e.reply)
what_grows scripts before e Line r = line_grows (replay scripts before) (line_of scripts e) (read_at scripts e) e.reply refl r.1
what_grows scripts before e Take r =
    let s : StateSeen = replay scripts before in
    subst (λ (a : Reply). Grows (record { line = read_at scripts e; reply = a }) s s) (sym r.1) (omega arith)
what_grows scripts before e Publish r = published_grows (replay scripts before) r.0 (read_at scripts e) e.reply r.2

-- ---- what entries tell of a state

-- the desk is one, its groups are those that were told, its accounts are covered, all grants are few for its changes, nothing was refunded or
-- completed twice, and its
-- ledger says what was told of each account, whatever is told later
pub record AreTold (entries : List Told) (s : StateSeen) : Type 0 where
  pub desk : IfSome s.desk IsDesk
  pub groups : AreKnown (groups_told entries) (groups_of s)
  pub covered : IsCovered (books_of s)
  pub grants : all_granted entries ≤ most_grant * s.version
  pub once : AreOnce entries s
  pub tallies : (later : List GroupTold) (key : Key) → tally_of (books_of s).entries key ≡ tally_told (groups_told entries ++ later) entries key

one_told : (o : Option GroupTold) → cons_option o [] ≡ option_to_list o
one_told None = refl
one_told (Some g) = refl

groups-push : (entries : List Told) (t : Told) → groups_told (entries ++ t ∷ []) ≡ groups_told entries ++ option_to_list (group_told t)
groups-push entries t = filter_map-append group_told entries (t ∷ []) ∙ ap (λ (l : List GroupTold). groups_told entries ++ l) (one_told (group_told t))

told_more : (entries : List Told) (t : Told) (before after : StateSeen) → AreTold entries before
    → Goes (groups_told entries) t before after → Grows t before after
    → AreTold (entries ++ t ∷ []) after
told_more entries t before after h g more = record {
  desk = g.desk;
  groups = subst (λ (l : List GroupTold). AreKnown l (groups_of after)) (sym (groups-push entries t)) g.groups;
  covered = g.covers h.covered;
  grants =
      let sum : all_granted (entries ++ t ∷ []) ≡ all_granted entries + seconds_granted t = sum_by_push seconds_granted entries t in
      let few = h.grants in
      omega (arith, sum, few, more);
  once = once_more entries t before after h.once g.back g.done;
  tallies = λ later key.
      let own : List GroupTold = option_to_list (group_told t) in
      let all : List GroupTold = groups_told entries ++ (own ++ later) in
      let adds : Adds (books_of before).entries (books_of after).entries (tally_by all t) = g.adds later in
      let same : all ≡ groups_told (entries ++ t ∷ []) ++ later = sym (append_assoc (groups_told entries) own later)
      ∙ ap (λ (l : List GroupTold). l ++ later) (sym (groups-push entries t)) in
      ap (λ (l : List Entry). tally_of l key) adds.entries
      ∙ tally-append (books_of before).entries adds.more key
      ∙ ap (λ (x : Tally). plus x (tally_of adds.more key)) (h.tallies (own ++ later) key)
      ∙ ap (plus (tally_told all entries key)) (adds.tallies key)
      ∙ sym (told-push all entries t key)
      ∙ ap (λ (l : List GroupTold). tally_told l (entries ++ t ∷ []) key) same;
}

-- ---- histories

-- after one entry more
entry_told : (scripts : List (List ScriptLine)) (before : List EventEntry) (e : EventEntry) → IsEntry scripts before e
    → AreTold (told_of scripts before) (replay scripts before)
    → AreTold (told_of scripts (before ++ e ∷ [])) (replay scripts (before ++ e ∷ []))
entry_told scripts before e is h =
    let told : List Told = told_of scripts before in
    let s : StateSeen = replay scripts before in
    let more : AreTold (told ++ told_by scripts e ∷ []) (after_entry scripts s e) =
    told_more told (told_by scripts e) s (after_entry scripts s e) h (what_entry scripts before e e.what (groups_told told) h.desk h.groups is.reply)
    (what_grows scripts before e e.what is.reply) in
    subst (λ (l : List Told). AreTold l (replay scripts (before ++ e ∷ []))) (sym (map-append (told_by scripts) before (e ∷ [])))
    (subst (AreTold (told ++ told_by scripts e ∷ [])) (sym (fold_push (after_entry scripts) start before e)) more)

-- after all entries
told_after : (scripts : List (List ScriptLine)) (history before after : List EventEntry) → EachAfter (IsEntry scripts) history → history ≡ before ++ after
    → AreTold (told_of scripts before) (replay scripts before) → AreTold (told_of scripts history) (replay scripts history)
told_after scripts history before [] each is h =
    subst (λ (l : List EventEntry). AreTold (told_of scripts l) (replay scripts l)) (sym (is ∙ append-nil before)) h
told_after scripts history before (e ∷ after) each is h =
    told_after scripts history (before ++ e ∷ []) after each (is ∙ sym (append_assoc before (e ∷ []) after))
    (entry_told scripts before e (each before after e is) h)

-- each entry of a beginning is one of the whole
each_before : (R : List EventEntry → EventEntry → Type 0) (before after : List EventEntry) → EachAfter R (before ++ after) → EachAfter R before
each_before R before after each b a e is = each b (a ++ after) e (ap (λ (l : List EventEntry). l ++ after) is ∙ append_assoc b (e ∷ a) after)

-- so it is after each beginning of a legal history
pub begun_told : (scripts : List (List ScriptLine)) (history before after : List EventEntry) → IsLegal scripts history → history ≡ before ++ after
    → AreTold (told_of scripts before) (replay scripts before)
begun_told scripts history before after h is =
    told_after scripts before [] before (each_before (IsEntry scripts) before after (subst (EachAfter (IsEntry scripts)) is h.each)) refl
    (record { desk = tt; groups = none_known; covered = λ key. omega arith; grants = omega arith; once = none_yet; tallies = λ later key. refl })

-- and after all of it
pub legal_told : (scripts : List (List ScriptLine)) (history : List EventEntry) → IsLegal scripts history
    → AreTold (told_of scripts history) (replay scripts history)
legal_told scripts history h = begun_told scripts history history [] h (sym (append-nil history))

-- ---- balances

-- a balance is what the ledger's entries make
balance_is : (o : Option DeskSeen) (version : ℕ) (key : Key)
    → option_and_then (λ d. balance_in d key) o ≡ balance_from (tally_of (books_of (record { version = version; desk = o })).entries key)
balance_is None version key = refl
balance_is (Some d) version key = refl

-- what the ledger says of an account
tally_is : (scripts : List (List ScriptLine)) (history : List EventEntry) (key : Key) → AreTold (told_of scripts history) (replay scripts history)
    → tally_of (books_of (replay scripts history)).entries key ≡ tally_told (groups_told (told_of scripts history)) (told_of scripts history) key
tally_is scripts history key told = told.tallies [] key
    ∙ ap (λ (l : List GroupTold). tally_told l (told_of scripts history) key) (append-nil (groups_told (told_of scripts history)))

-- an account's balance is what is told
pub told_balance : (scripts : List (List ScriptLine)) (history : List EventEntry) (key : Key) → AreTold (told_of scripts history) (replay scripts history)
    → option_and_then (λ d. balance_in d key) (replay scripts history).desk ≡ balance_after scripts history key
told_balance scripts history key told =
    let s : StateSeen = replay scripts history in
    balance_is s.desk s.version key ∙ ap balance_from (tally_is scripts history key told)

-- ---- laws

-- the accounts of a state are covered, so those of its desk are
desk_covered : (o : Option DeskSeen) (version : ℕ) → IsCovered (books_of (record { version = version; desk = o })) → IfSome o (λ d. IsCovered d.books)
desk_covered None version covered = tt
desk_covered (Some d) version covered = covered

pub balances_told : (scripts : List (List ScriptLine)) (history : List EventEntry) (key : Key) → IsLegal scripts history
    → option_and_then (λ d. balance_in d key) (replay scripts history).desk ≡ balance_after scripts history key
balances_told scripts history key h = told_balance scripts history key (legal_told scripts history h)

pub charges_covered : (scripts : List (List ScriptLine)) (history : List EventEntry) (key : Key) → IsLegal scripts history
    → charged_told (told_of scripts history) key ≤ granted_told (told_of scripts history) key + refunded_told (told_of scripts history) key
charges_covered scripts history key h =
    let told : AreTold (told_of scripts history) (replay scripts history) = legal_told scripts history h in
    let tally = tally_is scripts history key told in
    let granted = ap (λ (t : Tally). t.granted) tally in
    let charged = ap (λ (t : Tally). t.charged) tally in
    let back = ap (λ (t : Tally). t.back) tally in
    let covered = told.covered key in
    omega (arith, granted, charged, back, covered)

pub holds_covered : (scripts : List (List ScriptLine)) (history : List EventEntry) → IsLegal scripts history
    → IfSome (replay scripts history).desk (λ d. IsCovered d.books)
holds_covered scripts history h =
    let s : StateSeen = replay scripts history in
    desk_covered s.desk s.version (legal_told scripts history h).covered
