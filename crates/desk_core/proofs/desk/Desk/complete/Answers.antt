use Rattle.std.proofs.Common.{◌≡◌, ◌∙◌, ◌≤◌, ◌^◌, List, ap, sym, subst, refl, true, arith}
use Rattle.std.specs.Bool.{IsTrue}
use Rattle.plan_base.specs.declared.number.RequestNo.{RequestNo}
use Rattle.allocations.specs.declared.entry.Entry.{Entry}
use Rattle.allocations.specs.Books.{Books, has_grant, available_of, total_seconds}
use Rattle.allocations.specs.Changes.{with_entry, request_entry}
use Rattle.desk_events.specs.declared.reply.Reply.{Reply}
use Rattle.desk_events.specs.declared.reply.Reply.TheVariants as reply
use Rattle.desk_runs.specs.Progress.{Progress}
use Rattle.desk_runs.specs.Reports.{reported}
use Rattle.desk_runs.proofs.GoingOn.{report_goes_on}
use Rattle.desk_core.specs.Desk.{DeskSeen, seen}
use Rattle.desk_core.specs.Holds.{groups_along, with_progress}
use Rattle.desk_core.proofs.Along.{all_seconds}
use Rattle.desk_core.proofs.Charged.{entries_stay, enough, charged_then}
use Rattle.desk_core.proofs.WentOn.{progress_seconds}
use Rattle.desk_core.proofs.desk.Desk.complete.Goals as goal

pub charge-requires-clause-granted : goal.charge-requires-clause-granted
charge-requires-clause-granted c =
    let now : seen c.go_on.new.self ≡ with_progress (reported c.args.number true c.args.self.now.runs) (seen c.args.self.now) =
    c.in_ok-go_on.ensures.seen ∙ ap (λ (p : Progress). with_progress p (seen c.args.self.now)) c.in_ok-canceled.ensures.reported in
    let entries : c.go_on.new.self.ledger.books.entries ≡ c.args.self.now.ledger.books.entries =
    ap (λ (x : DeskSeen). x.books.entries) now
    ∙ entries_stay c.args.self.now.ledger.books (groups_along (seen c.args.self.now) (reported c.args.number true c.args.self.now.runs))
    c.requires.charge.none in
    subst (λ (xs : List Entry). IsTrue (has_grant xs c.args.key.now)) (sym entries) c.requires.charge.granted

pub charge-requires-clause-available : goal.charge-requires-clause-available
charge-requires-clause-available c =
    let now : seen c.go_on.new.self ≡ with_progress (reported c.args.number true c.args.self.now.runs) (seen c.args.self.now) =
    c.in_ok-go_on.ensures.seen ∙ ap (λ (p : Progress). with_progress p (seen c.args.self.now)) c.in_ok-canceled.ensures.reported in
    let d : DeskSeen = seen c.args.self.now in
    let after : DeskSeen = with_progress (reported c.args.number true c.args.self.now.runs) d in
    subst (λ (b : Books). c.args.used ≤ available_of b c.args.key.now) (sym (ap (λ (x : DeskSeen). x.books) now))
    (enough d.books after.books c.args.key.now c.args.used c.available.result c.requires.charge.granted c.available.ensures.available
    c.available.ensures.covered
    (entries_stay d.books (groups_along d (reported c.args.number true c.args.self.now.runs)) c.requires.charge.none) c.requires.charge.less)

pub charge-requires-clause-bound : goal.charge-requires-clause-bound
charge-requires-clause-bound c =
    let now : seen c.go_on.new.self ≡ with_progress (reported c.args.number true c.args.self.now.runs) (seen c.args.self.now) =
    c.in_ok-go_on.ensures.seen ∙ ap (λ (p : Progress). with_progress p (seen c.args.self.now)) c.in_ok-canceled.ensures.reported in
    let d : DeskSeen = seen c.args.self.now in
    let after : Progress = reported c.args.number true c.args.self.now.runs in
    let few : all_seconds d.books ≤ 10 ^ 18 = omega (arith, c.requires.room) in
    let fewer = progress_seconds d after c.requires.desk (report_goes_on c.args.self.now.runs c.args.number true).later few in
    let same = ap (λ (x : DeskSeen). total_seconds x.books) now in
    omega (arith, c.requires.room, fewer, same, c.requires.charge.short)

pub returns : goal.returns
returns c = λ w v g k known n.
    let now : seen c.go_on.new.self ≡ with_progress (reported c.args.number true c.args.self.now.runs) (seen c.args.self.now) =
    c.in_ok-go_on.ensures.seen ∙ ap (λ (p : Progress). with_progress p (seen c.args.self.now)) c.in_ok-canceled.ensures.reported in
    let d : DeskSeen = seen c.args.self.now in
    let after : Progress = reported c.args.number true c.args.self.now.runs in
    let e : Entry = request_entry c.args.key.now c.args.used c.args.group c.args.number in
    let desk = ap (λ (b : Books). let x : DeskSeen = record (seen c.go_on.new.self) { books = b } in x) c.charge.ensures.books
    ∙ ap (λ (x : DeskSeen). let y : DeskSeen = record x { books = with_entry e x.books } in y) now
    ∙ charged_then d after c.args.number c.args.used w v g c.args.key.now c.args.group c.requires.charge.none k known n in
    record {
      ok = (refl, ap (λ (l : List RequestNo). let x : Reply = reply.Completed l c.args.used in x) c.in_ok-canceled.ensures.canceled, desk);
      refused = tt;
      unchanged = tt;
    }
