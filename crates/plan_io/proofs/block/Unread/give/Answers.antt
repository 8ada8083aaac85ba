use Rattle.std.proofs.Common.{drop, sym, ◌∙◌}
use Rattle.plan_io.proofs.Blocks.{given_front}
use Rattle.plan_io.proofs.block.Unread.give.Goals as goal

pub returns-clause-given : goal.returns-clause-given
returns-clause-given c =
    let n = c.min-count.result in
    sym c.self.view_is
    ∙ given_front c.self.inside.bytes.items c.as_slice.result.now c.args.room.now c.copy_from_slice.new.self
    (drop n c.args.room.now) c.self.inside.start n c.as_slice.ensures.value c.min-count.ensures c.copy_from_slice.ensures.after
