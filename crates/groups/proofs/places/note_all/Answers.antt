use Rattle.std.proofs.Common.{arith}
use Rattle.groups.proofs.Noted.{notes_more}
use Rattle.groups.proofs.places.note_all.Goals as goal

pub loop-place-preserved : goal.loop-place-preserved
loop-place-preserved c =
    notes_more c.args.snapshot.now c.loop-place.noted.items _ c.loop-place.place c.request_at.result.now c.recall_valid.ensures.orderly
    (omega arith) c.request_at.ensures c.loop-place.invariant
