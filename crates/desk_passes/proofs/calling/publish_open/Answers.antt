use Rattle.desk_passes.proofs.Known.{replies, none_else}
use Rattle.desk_passes.proofs.calling.publish_open.Goals as goal

pub unreachable-requires : goal.unreachable-requires
unreachable-requires c =
    let it = replies c.args.book.now c.args.solved c.in_ok-publish.field-0 c.publish.new.self c.requires c.in_ok-publish.ensures.ok in
    none_else c.in_ok-publish.field-0 it.0 it.1 c.in-NotTaken.is
