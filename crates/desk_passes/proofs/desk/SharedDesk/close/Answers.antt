use Rattle.desk_passes.proofs.Ends.{closes}
use Rattle.desk_passes.proofs.Known.{closed_none, closed_book}
use Rattle.desk_passes.proofs.desk.SharedDesk.close.Goals as goal

pub unreachable-requires : goal.unreachable-requires
unreachable-requires c =
    closed_none (closes _ _ _ _ _ c.args.root.first c.args.root.looked c.requires.back c.close_with-closed.ensures.values.2) c.take-slot.result
    c.take-slot.ensures.value c.in_default.is

pub returns-clause-callers : goal.returns-clause-callers
returns-clause-callers c =
    (closed_book (closes _ _ _ _ _ c.args.root.first c.args.root.looked c.requires.back c.close_with-closed.ensures.values.2) c.take-slot.result
    c.in-Some.book c.take-slot.ensures.value c.in-Some.is).0

pub returns-clause-seen : goal.returns-clause-seen
returns-clause-seen c =
    (closed_book (closes _ _ _ _ _ c.args.root.first c.args.root.looked c.requires.back c.close_with-closed.ensures.values.2) c.take-slot.result
    c.in-Some.book c.take-slot.ensures.value c.in-Some.is).1

pub returns-clause-each : goal.returns-clause-each
returns-clause-each c =
    (closed_book (closes _ _ _ _ _ c.args.root.first c.args.root.looked c.requires.back c.close_with-closed.ensures.values.2) c.take-slot.result
    c.in-Some.book c.take-slot.ensures.value c.in-Some.is).2

pub returns-clause-nobody : goal.returns-clause-nobody
returns-clause-nobody c =
    (closed_book (closes _ _ _ _ _ c.args.root.first c.args.root.looked c.requires.back c.close_with-closed.ensures.values.2) c.take-slot.result
    c.in-Some.book c.take-slot.ensures.value c.in-Some.is).3
