use Rattle.std.proofs.Common.{◌∙◌}
use Rattle.desk_lock.proofs.Lines.{same_scripts}
use Rattle.desk_lock.proofs.desk.Held.publish_kept.Goals as goal

pub invariant_of-self : goal.invariant_of-self
invariant_of-self g c = record {
  sent = same_scripts c.publish_kept.result c.args.self.now.book c.args.caller c.publish_kept.new.book c.publish_kept.ensures.ok c.publish_kept.ensures.err
      ∙ c.args.self.now.sent;
}
