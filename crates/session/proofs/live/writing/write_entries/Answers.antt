use Rattle.std.proofs.Common.{◌+◌, arith}
use Rattle.session.proofs.Gathering.{gathered_entry, gathered_written, told_fault, told_last}
use Rattle.session.proofs.Going.{later_written}
use Rattle.session.proofs.live.writing.write_entries.Goals as goal

pub returns-in-WriteFault-clause-told : goal.returns-in-WriteFault-clause-told
returns-in-WriteFault-clause-told g c =
    let w = g.K.Sink.written c.args.sink.now in
    let x = g.K.Sink.written c.loop-index.sink in
    let y = g.K.Sink.written c.write_many.new.sink in
    let history = c.args.book.now.history in
    let n = c.loop-index.index in
    let old = c.loop-index.replies.items in
    let added = c.add_entry.new.replies.items in
    told_fault w x y history (n + 1) added c.write_many.new.replies.items c.write_many.result c.in-WriteFault.is
    (gathered_entry w x history n old added c.loop-index.invariant.gathered c.in_ok-add_entry.ensures.ok) c.write_many.ensures.bytes

pub loop-index-preserved : goal.loop-index-preserved
loop-index-preserved g c =
    let w = g.K.Sink.written c.args.sink.now in
    let x = g.K.Sink.written c.loop-index.sink in
    let y = g.K.Sink.written c.write_many.new.sink in
    let history = c.args.book.now.history in
    let n = c.loop-index.index in
    let old = c.loop-index.replies.items in
    let added = c.add_entry.new.replies.items in
    record {
      gathered = gathered_written w x y history (n + 1) added c.write_many.new.replies.items c.write_many.result c.in-Done.is
          (gathered_entry w x history n old added c.loop-index.invariant.gathered c.in_ok-add_entry.ensures.ok) c.write_many.ensures.bytes;
      writes = omega (
        arith,
        c.loop-index.invariant.writes,
        later_written (g.K.Sink.faults c.loop-index.sink)
            (g.K.Sink.faults c.write_many.new.sink) c.write_many.result c.in-Done.is c.write_many.ensures.cause,
      );
    }

pub returns-clause-told : goal.returns-clause-told
returns-clause-told g c =
    told_last (g.K.Sink.written c.args.sink.now) (g.K.Sink.written c.loop-index.sink)
    (g.K.Sink.written c.write_replies.new.sink) c.args.book.now.history c.loop-index.index c.loop-index.replies.items
    c.write_replies.result (omega (arith, c.entries-index-end.ensures)) c.loop-index.invariant.gathered c.write_replies.ensures.bytes
