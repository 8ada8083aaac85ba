use Rattle.std.proofs.Common.{◌≡◌, ℕ, [], ap, sym, ◌∙◌, subst, arith}
use Rattle.plan_io.specs.LinesSeen.{LinesSeen}
use Rattle.plan_io.specs.declared.lines.LineAnswer.TheVariants as answer
use Rattle.plan_io.specs.Next.{IsNext}
use Rattle.session.proofs.Going.{first_reader, going_first, going_due, going_line, later_read, later_written, next_line, few_done}
use Rattle.session.proofs.Going.{gathered_none, gathered_read, gathered_line, broken_by_due, all_answered, no_line_left, on_err}
use Rattle.session.proofs.run.answer_lines.Goals as goal

pub loop-cache-init : goal.loop-cache-init
loop-cache-init g c =
    let first = c.in_ok-reader.ensures ∙ ap (λ (n : ℕ). let r : LinesSeen = record first_reader { most_lines = n } in r) c.from.ensures in
    record {
      going =
          going_first (g.S.Source.left c.args.source.now) (g.K.Sink.written c.args.sink.now) c.in_ok-reader.reader c.args.replies.now.items
          c.args.state.now first c.requires.none c.requires.start;
      steady = ap (λ (r : LinesSeen). r.failed) first;
      reads = omega arith;
      writes = omega arith;
    }

pub do_line-requires-clause-version : goal.do_line-requires-clause-version
do_line-requires-clause-version g c κs sub =
    let a = g.S.Source.left c.args.source.now in
    let b = g.S.Source.left c.loop-cache.source in
    let w = g.K.Sink.written c.args.sink.now in
    let x = g.K.Sink.written c.loop-cache.sink in
    let y = g.K.Sink.written c.write_due.new.sink in
    let r = c.loop-cache.reader in
    let s = c.loop-cache.state in
    let n = c.loop-cache.done in
    let old = c.loop-cache.replies.items in
    let now = c.write_due.new.replies.items in
    let was = c.loop-cache.invariant in
    let after = g.S.Source.left c.next.new.source in
    let due = going_due a b w x y r old now n s c.write_due.result c.in-Done.is was.going c.write_due.ensures.bytes in
    let line = c.in-Line.line in
    let next = next_line a b after w y r c.next.new.self now n s line c.in_ok-line.field-0 c.in-Line.is due c.in_ok-line.ensures.next
    (λ e f. let same = c.in_ok-line.ensures.stays_ended e f in (ap (g.S.Source.left) same.0, same.1.0)) in
    omega (arith, few_done a b after w y r c.next.new.self now n s line next, was.going.version)

pub loop-cache-preserved : goal.loop-cache-preserved
loop-cache-preserved g c =
    let a = g.S.Source.left c.args.source.now in
    let b = g.S.Source.left c.loop-cache.source in
    let w = g.K.Sink.written c.args.sink.now in
    let x = g.K.Sink.written c.loop-cache.sink in
    let y = g.K.Sink.written c.write_due.new.sink in
    let r = c.loop-cache.reader in
    let s = c.loop-cache.state in
    let n = c.loop-cache.done in
    let old = c.loop-cache.replies.items in
    let now = c.write_due.new.replies.items in
    let was = c.loop-cache.invariant in
    let after = g.S.Source.left c.next.new.source in
    let due = going_due a b w x y r old now n s c.write_due.result c.in-Done.is was.going c.write_due.ensures.bytes in
    let line = c.in-Line.line in
    let next = next_line a b after w y r c.next.new.self now n s line c.in_ok-line.field-0 c.in-Line.is due c.in_ok-line.ensures.next
    (λ e f. let same = c.in_ok-line.ensures.stays_ended e f in (ap (g.S.Source.left) same.0, same.1.0)) in
    record {
      going = going_line a b after w y r c.next.new.self now c.do_line.new.replies.items n s c.do_line.new.state line c.in_ok-do_line-in-Line.field-0
          next c.in_ok-do_line-in-Line.ensures;
      steady = next.steady;
      reads = omega (
        arith,
        was.reads,
        later_read r (g.S.Source.faults c.loop-cache.source) (g.S.Source.faults c.next.new.source) c.in_ok-line.field-0 line c.in-Line.is
            c.in_ok-line.ensures.cause,
      );
      writes = omega (
        arith,
        was.writes,
        later_written (g.K.Sink.faults c.loop-cache.sink)
            (g.K.Sink.faults c.write_due.new.sink) c.write_due.result c.in-Done.is c.write_due.ensures.cause,
      );
    }

pub loop-cache-preserved-in_ok-do_line-in-Line : goal.loop-cache-preserved-in_ok-do_line-in-Line
loop-cache-preserved-in_ok-do_line-in-Line g c =
    let a = g.S.Source.left c.args.source.now in
    let b = g.S.Source.left c.loop-cache.source in
    let w = g.K.Sink.written c.args.sink.now in
    let x = g.K.Sink.written c.loop-cache.sink in
    let y = g.K.Sink.written c.write_due.new.sink in
    let r = c.loop-cache.reader in
    let s = c.loop-cache.state in
    let n = c.loop-cache.done in
    let old = c.loop-cache.replies.items in
    let now = c.write_due.new.replies.items in
    let was = c.loop-cache.invariant in
    let after = g.S.Source.left c.next.new.source in
    let due = going_due a b w x y r old now n s c.write_due.result c.in-Done.is was.going c.write_due.ensures.bytes in
    let line = c.in-Line.line in
    let next = next_line a b after w y r c.next.new.self now n s line c.in_ok-line.field-0 c.in-Line.is due c.in_ok-line.ensures.next
    (λ e f. let same = c.in_ok-line.ensures.stays_ended e f in (ap (g.S.Source.left) same.0, same.1.0)) in
    record {
      going = going_line a b after w y r c.next.new.self now c.do_line.new.replies.items n s c.do_line.new.state line c.in_ok-do_line-in-Line.field-0
          next c.in_ok-do_line-in-Line.ensures;
      steady = next.steady;
      reads = omega (
        arith,
        was.reads,
        later_read r (g.S.Source.faults c.loop-cache.source) (g.S.Source.faults c.next.new.source) c.in_ok-line.field-0 line c.in-Line.is
            c.in_ok-line.ensures.cause,
      );
      writes = omega (
        arith,
        was.writes,
        later_written (g.K.Sink.faults c.loop-cache.sink)
            (g.K.Sink.faults c.write_due.new.sink) c.write_due.result c.in-Done.is c.write_due.ensures.cause,
      );
    }

pub returns-in_err-reader-clause-gathered : goal.returns-in_err-reader-clause-gathered
returns-in_err-reader-clause-gathered g c =
    on_err _ c.from_residual.result
    (gathered_none (g.S.Source.left c.args.source.now) (g.K.Sink.written c.args.sink.now) c.args.replies.now.items c.requires.none)

pub returns-in-WriteFault-clause-session : goal.returns-in-WriteFault-clause-session
returns-in-WriteFault-clause-session g c =
    let a = g.S.Source.left c.args.source.now in
    let b = g.S.Source.left c.loop-cache.source in
    let w = g.K.Sink.written c.args.sink.now in
    let x = g.K.Sink.written c.loop-cache.sink in
    let y = g.K.Sink.written c.write_due.new.sink in
    let r = c.loop-cache.reader in
    let s = c.loop-cache.state in
    let n = c.loop-cache.done in
    let old = c.loop-cache.replies.items in
    let now = c.write_due.new.replies.items in
    let was = c.loop-cache.invariant in
    broken_by_due a b w x y r old now n s c.write_due.result c.in-WriteFault.is was.going c.write_due.ensures.bytes

pub returns-in_err-line-clause-gathered : goal.returns-in_err-line-clause-gathered
returns-in_err-line-clause-gathered g c =
    let a = g.S.Source.left c.args.source.now in
    let b = g.S.Source.left c.loop-cache.source in
    let w = g.K.Sink.written c.args.sink.now in
    let x = g.K.Sink.written c.loop-cache.sink in
    let y = g.K.Sink.written c.write_due.new.sink in
    let r = c.loop-cache.reader in
    let s = c.loop-cache.state in
    let n = c.loop-cache.done in
    let old = c.loop-cache.replies.items in
    let now = c.write_due.new.replies.items in
    let was = c.loop-cache.invariant in
    let due = going_due a b w x y r old now n s c.write_due.result c.in-Done.is was.going c.write_due.ensures.bytes in
    let after = g.S.Source.left c.next.new.source in
    on_err _ c.from_residual-in_err-line.result
    (gathered_read a b after w y r c.next.new.self now n s due c.in_err-line.ensures.err c.in_err-line.ensures.err_state.1
    (λ e f. (c.in_err-line.ensures.stays_ended e f).1))

pub returns-in_err-do_line-in-Line-clause-gathered : goal.returns-in_err-do_line-in-Line-clause-gathered
returns-in_err-do_line-in-Line-clause-gathered g c =
    let a = g.S.Source.left c.args.source.now in
    let b = g.S.Source.left c.loop-cache.source in
    let w = g.K.Sink.written c.args.sink.now in
    let x = g.K.Sink.written c.loop-cache.sink in
    let y = g.K.Sink.written c.write_due.new.sink in
    let r = c.loop-cache.reader in
    let s = c.loop-cache.state in
    let n = c.loop-cache.done in
    let old = c.loop-cache.replies.items in
    let now = c.write_due.new.replies.items in
    let was = c.loop-cache.invariant in
    let after = g.S.Source.left c.next.new.source in
    let due = going_due a b w x y r old now n s c.write_due.result c.in-Done.is was.going c.write_due.ensures.bytes in
    let line = c.in-Line.line in
    let next = next_line a b after w y r c.next.new.self now n s line c.in_ok-line.field-0 c.in-Line.is due c.in_ok-line.ensures.next
    (λ e f. let same = c.in_ok-line.ensures.stays_ended e f in (ap (g.S.Source.left) same.0, same.1.0)) in
    on_err _ c.from_residual-in_err-do_line-in-Line.result
    (gathered_line a b after w y r c.next.new.self now c.do_line.new.replies.items n s c.do_line.new.state line c.in_err-do_line-in-Line.field-0.0
    next c.in_err-do_line-in-Line.ensures)

pub returns-in-End-clause-session : goal.returns-in-End-clause-session
returns-in-End-clause-session g c =
    let a = g.S.Source.left c.args.source.now in
    let b = g.S.Source.left c.loop-cache.source in
    let w = g.K.Sink.written c.args.sink.now in
    let x = g.K.Sink.written c.loop-cache.sink in
    let y = g.K.Sink.written c.write_due.new.sink in
    let r = c.loop-cache.reader in
    let s = c.loop-cache.state in
    let n = c.loop-cache.done in
    let old = c.loop-cache.replies.items in
    let now = c.write_due.new.replies.items in
    let was = c.loop-cache.invariant in
    let after = g.S.Source.left c.next.new.source in
    let due = going_due a b w x y r old now n s c.write_due.result c.in-Done.is was.going c.write_due.ensures.bytes in
    let none : now ≡ [] = no_line_left r now c.in_ok-line.field-0 answer.End (λ line e. cc) c.in-End.is c.write_due.ensures.due
    (λ has. (c.in_ok-line.ensures.at_hand has).1) in
    all_answered a b after w y r c.next.new.self now n s answer.End none due
    (subst (IsNext r b c.next.new.self after) c.in-End.is c.in_ok-line.ensures.next) (λ e f. let same = c.in_ok-line.ensures.stays_ended e f in
    (ap (g.S.Source.left) same.0, sym c.in-End.is ∙ same.1.0)) (λ line e. cc)

pub returns-in-ReadFault-clause-session : goal.returns-in-ReadFault-clause-session
returns-in-ReadFault-clause-session g c =
    let a = g.S.Source.left c.args.source.now in
    let b = g.S.Source.left c.loop-cache.source in
    let w = g.K.Sink.written c.args.sink.now in
    let x = g.K.Sink.written c.loop-cache.sink in
    let y = g.K.Sink.written c.write_due.new.sink in
    let r = c.loop-cache.reader in
    let s = c.loop-cache.state in
    let n = c.loop-cache.done in
    let old = c.loop-cache.replies.items in
    let now = c.write_due.new.replies.items in
    let was = c.loop-cache.invariant in
    let after = g.S.Source.left c.next.new.source in
    let due = going_due a b w x y r old now n s c.write_due.result c.in-Done.is was.going c.write_due.ensures.bytes in
    let none : now ≡ [] = no_line_left r now c.in_ok-line.field-0 answer.ReadFault (λ line e. cc) c.in-ReadFault.is c.write_due.ensures.due
    (λ has. (c.in_ok-line.ensures.at_hand has).1) in
    all_answered a b after w y r c.next.new.self now n s answer.ReadFault none due
    (subst (IsNext r b c.next.new.self after) c.in-ReadFault.is c.in_ok-line.ensures.next)
    (λ e f. let same = c.in_ok-line.ensures.stays_ended e f in (ap (g.S.Source.left) same.0, sym c.in-ReadFault.is ∙ same.1.0)) (λ line e. cc)

pub returns-in-InputOver-clause-session : goal.returns-in-InputOver-clause-session
returns-in-InputOver-clause-session g c =
    let a = g.S.Source.left c.args.source.now in
    let b = g.S.Source.left c.loop-cache.source in
    let w = g.K.Sink.written c.args.sink.now in
    let x = g.K.Sink.written c.loop-cache.sink in
    let y = g.K.Sink.written c.write_due.new.sink in
    let r = c.loop-cache.reader in
    let s = c.loop-cache.state in
    let n = c.loop-cache.done in
    let old = c.loop-cache.replies.items in
    let now = c.write_due.new.replies.items in
    let was = c.loop-cache.invariant in
    let after = g.S.Source.left c.next.new.source in
    let due = going_due a b w x y r old now n s c.write_due.result c.in-Done.is was.going c.write_due.ensures.bytes in
    let none : now ≡ [] = no_line_left r now c.in_ok-line.field-0 answer.InputOver (λ line e. cc) c.in-InputOver.is c.write_due.ensures.due
    (λ has. (c.in_ok-line.ensures.at_hand has).1) in
    all_answered a b after w y r c.next.new.self now n s answer.InputOver none due
    (subst (IsNext r b c.next.new.self after) c.in-InputOver.is c.in_ok-line.ensures.next)
    (λ e f. let same = c.in_ok-line.ensures.stays_ended e f in (ap (g.S.Source.left) same.0, sym c.in-InputOver.is ∙ same.1.0)) (λ line e. cc)
