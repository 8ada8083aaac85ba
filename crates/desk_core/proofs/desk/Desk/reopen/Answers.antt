use Rattle.site_model.specs.declared.changes.Change.TheVariants.{Reopen}
use Rattle.desk_events.specs.declared.reply.Reply.TheVariants.{Reopened}
use Rattle.desk_core.specs.Desk.{seen}
use Rattle.desk_core.proofs.Early.{early}
use Rattle.desk_core.proofs.Closures.{closed, not_closed}
use Rattle.desk_core.proofs.desk.Desk.reopen.Goals as goal

pub returns-in_err-reopen : goal.returns-in_err-reopen
returns-in_err-reopen c =
    not_closed (seen c.args.self.now) Reopen c.args.scope.now c.args.spans.now c.in_ok-spans.spans Reopened c.reopen.new.self
    c.in_err-reopen.field-0.0 _ c.requires.desk.closures
    (early c.args.spans.now c.requires.spans.each) c.in_ok-spans.ensures.set c.from_residual-in_err-reopen.ensures.1 c.in_err-reopen.ensures.refused
    c.in_err-reopen.ensures.unchanged

pub returns : goal.returns
returns c =
    closed (seen c.args.self.now) Reopen c.args.scope.now c.args.spans.now c.in_ok-spans.spans Reopened c.reopen.new.self c.requires.desk.closures
    (early c.args.spans.now c.requires.spans.each) c.in_ok-spans.ensures.set c.in_ok-reopen.ensures.ok
