use Rattle.site_model.specs.declared.changes.Change.TheVariants.{Close}
use Rattle.desk_events.specs.declared.reply.Reply.TheVariants.{Closed}
use Rattle.desk_core.specs.Desk.{seen}
use Rattle.desk_core.proofs.Early.{early}
use Rattle.desk_core.proofs.Closures.{closed, not_closed}
use Rattle.desk_core.proofs.desk.Desk.close.Goals as goal

pub returns-in_err-close : goal.returns-in_err-close
returns-in_err-close c =
    not_closed (seen c.args.self.now) Close c.args.scope.now c.args.spans.now c.in_ok-spans.spans Closed c.close.new.self c.in_err-close.field-0.0
    _ c.requires.desk.closures
    (early c.args.spans.now c.requires.spans.each) c.in_ok-spans.ensures.set c.from_residual-in_err-close.ensures.1 c.in_err-close.ensures.refused
    c.in_err-close.ensures.unchanged

pub returns : goal.returns
returns c =
    closed (seen c.args.self.now) Close c.args.scope.now c.args.spans.now c.in_ok-spans.spans Closed c.close.new.self c.requires.desk.closures
    (early c.args.spans.now c.requires.spans.each) c.in_ok-spans.ensures.set c.in_ok-close.ensures.ok
