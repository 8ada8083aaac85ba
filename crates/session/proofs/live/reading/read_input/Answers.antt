use Rattle.std.proofs.Common.{ℕ, ap, ◌∙◌, arith}
use Rattle.plan_io.specs.LinesSeen.{LinesSeen}
use Rattle.plan_io.specs.declared.lines.LineAnswer.TheVariants as answer
use Rattle.session.proofs.Going.{later_read, on_err}
use Rattle.session.proofs.Naming.{live_reader, naming_first, next_naming, naming_callers, room_for, naming_line, no_caller, naming_ended, some_read, some_sent}
use Rattle.session.proofs.live.reading.read_input.Goals as goal

pub loop-reader-init : goal.loop-reader-init
loop-reader-init g c =
    let first = c.in_ok-reader.ensures ∙ ap (λ (n : ℕ). let r : LinesSeen = record live_reader { most_lines = n } in r) c.from.ensures in
    record {
      naming = naming_first (g.S.Source.left c.args.source.now) c.in_ok-reader.reader c.args.book.now first c.requires;
      steady = ap (λ (r : LinesSeen). r.failed) first;
      reads = omega arith;
    }

pub returns-in_err-line-clause-first : goal.returns-in_err-line-clause-first
returns-in_err-line-clause-first g c =
    let a = g.S.Source.left c.args.source.now in
    let b = g.S.Source.left c.loop-reader.source in
    let after = g.S.Source.left c.next.new.source in
    let r = c.loop-reader.reader in
    let n = c.loop-reader.number in
    let book = c.loop-reader.book in
    let was = c.loop-reader.invariant in
    on_err _ c.from_residual-in_err-line.result
    (some_read a b after r c.next.new.self n book was.naming c.in_err-line.ensures.err c.in_err-line.ensures.err_state.1
    (λ e f. (c.in_err-line.ensures.stays_ended e f).1))

pub send_line-requires-clause-callers : goal.send_line-requires-clause-callers
send_line-requires-clause-callers g c =
    let a = g.S.Source.left c.args.source.now in
    let b = g.S.Source.left c.loop-reader.source in
    let after = g.S.Source.left c.next.new.source in
    let r = c.loop-reader.reader in
    let n = c.loop-reader.number in
    let book = c.loop-reader.book in
    let was = c.loop-reader.invariant in
    naming_callers a b r n book was.naming

pub send_line-requires-clause-room : goal.send_line-requires-clause-room
send_line-requires-clause-room g c =
    let a = g.S.Source.left c.args.source.now in
    let b = g.S.Source.left c.loop-reader.source in
    let after = g.S.Source.left c.next.new.source in
    let r = c.loop-reader.reader in
    let n = c.loop-reader.number in
    let book = c.loop-reader.book in
    let was = c.loop-reader.invariant in
    let line = c.in-Line.line in
    let next = next_naming a b after r c.next.new.self n book line c.in_ok-line.field-0 c.in-Line.is was.naming c.in_ok-line.ensures.next
    (λ e f. let same = c.in_ok-line.ensures.stays_ended e f in (ap (g.S.Source.left) same.0, same.1.0)) in
    room_for a b after r c.next.new.self n book line next

pub returns-in_err-send_line-in-Line-clause-first : goal.returns-in_err-send_line-in-Line-clause-first
returns-in_err-send_line-in-Line-clause-first g c =
    let a = g.S.Source.left c.args.source.now in
    let b = g.S.Source.left c.loop-reader.source in
    let after = g.S.Source.left c.next.new.source in
    let r = c.loop-reader.reader in
    let n = c.loop-reader.number in
    let book = c.loop-reader.book in
    let was = c.loop-reader.invariant in
    let line = c.in-Line.line in
    let next = next_naming a b after r c.next.new.self n book line c.in_ok-line.field-0 c.in-Line.is was.naming c.in_ok-line.ensures.next
    (λ e f. let same = c.in_ok-line.ensures.stays_ended e f in (ap (g.S.Source.left) same.0, same.1.0)) in
    on_err _ c.from_residual-in_err-send_line-in-Line.result (some_sent a b after r c.next.new.self n book line next)

pub returns-then-not-branch-clause-input : goal.returns-then-not-branch-clause-input
returns-then-not-branch-clause-input g c =
    let a = g.S.Source.left c.args.source.now in
    let b = g.S.Source.left c.loop-reader.source in
    let after = g.S.Source.left c.next.new.source in
    let r = c.loop-reader.reader in
    let n = c.loop-reader.number in
    let book = c.loop-reader.book in
    let was = c.loop-reader.invariant in
    let line = c.in-Line.line in
    let next = next_naming a b after r c.next.new.self n book line c.in_ok-line.field-0 c.in-Line.is was.naming c.in_ok-line.ensures.next
    (λ e f. let same = c.in_ok-line.ensures.stays_ended e f in (ap (g.S.Source.left) same.0, same.1.0)) in
    no_caller a b after r c.next.new.self n book c.send_line.new.book line c.in_ok-send_line-in-Line.field-0 c.if-not-branch.true next
    c.in_ok-send_line-in-Line.ensures

pub loop-reader-preserved : goal.loop-reader-preserved
loop-reader-preserved g c =
    let a = g.S.Source.left c.args.source.now in
    let b = g.S.Source.left c.loop-reader.source in
    let after = g.S.Source.left c.next.new.source in
    let r = c.loop-reader.reader in
    let n = c.loop-reader.number in
    let book = c.loop-reader.book in
    let was = c.loop-reader.invariant in
    let line = c.in-Line.line in
    let next = next_naming a b after r c.next.new.self n book line c.in_ok-line.field-0 c.in-Line.is was.naming c.in_ok-line.ensures.next
    (λ e f. let same = c.in_ok-line.ensures.stays_ended e f in (ap (g.S.Source.left) same.0, same.1.0)) in
    record {
      naming = naming_line a b after r c.next.new.self n book c.send_line.new.book line c.in_ok-send_line-in-Line.field-0 c.if-not-branch.false next
          c.in_ok-send_line-in-Line.ensures;
      steady = next.steady;
      reads = omega (
        arith,
        was.reads,
        later_read r (g.S.Source.faults c.loop-reader.source) (g.S.Source.faults c.next.new.source) c.in_ok-line.field-0 line c.in-Line.is
            c.in_ok-line.ensures.cause,
      );
    }

pub returns-in-End-clause-input : goal.returns-in-End-clause-input
returns-in-End-clause-input g c =
    let a = g.S.Source.left c.args.source.now in
    let b = g.S.Source.left c.loop-reader.source in
    let after = g.S.Source.left c.next.new.source in
    let r = c.loop-reader.reader in
    let n = c.loop-reader.number in
    let book = c.loop-reader.book in
    let was = c.loop-reader.invariant in
    naming_ended a b after r c.next.new.self n book c.in_ok-line.field-0 answer.End c.in-End.is was.naming c.in_ok-line.ensures.next
    (λ e f. let same = c.in_ok-line.ensures.stays_ended e f in (ap (g.S.Source.left) same.0, same.1.0)) (λ line e. cc)

pub returns-in-ReadFault-clause-input : goal.returns-in-ReadFault-clause-input
returns-in-ReadFault-clause-input g c =
    let a = g.S.Source.left c.args.source.now in
    let b = g.S.Source.left c.loop-reader.source in
    let after = g.S.Source.left c.next.new.source in
    let r = c.loop-reader.reader in
    let n = c.loop-reader.number in
    let book = c.loop-reader.book in
    let was = c.loop-reader.invariant in
    let ended = naming_ended a b after r c.next.new.self n book c.in_ok-line.field-0 answer.ReadFault c.in-ReadFault.is was.naming
    c.in_ok-line.ensures.next (λ e f. let same = c.in_ok-line.ensures.stays_ended e f in
    (ap (g.S.Source.left) same.0, same.1.0)) (λ line e. cc) in
    (ended.0, ended.1)

pub returns-in-InputOver-clause-input : goal.returns-in-InputOver-clause-input
returns-in-InputOver-clause-input g c =
    let a = g.S.Source.left c.args.source.now in
    let b = g.S.Source.left c.loop-reader.source in
    let after = g.S.Source.left c.next.new.source in
    let r = c.loop-reader.reader in
    let n = c.loop-reader.number in
    let book = c.loop-reader.book in
    let was = c.loop-reader.invariant in
    let ended = naming_ended a b after r c.next.new.self n book c.in_ok-line.field-0 answer.InputOver c.in-InputOver.is was.naming
    c.in_ok-line.ensures.next (λ e f. let same = c.in_ok-line.ensures.stays_ended e f in
    (ap (g.S.Source.left) same.0, same.1.0)) (λ line e. cc) in
    (ended.0, ended.1)
