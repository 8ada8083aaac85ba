use Rattle.std.proofs.Common.{◌<◌, length, arith}
use Rattle.std.proofs.lemmas.Grind.{common_steps}
use Rattle.plan_base.specs.declared.number.GroupNo.{GroupNo}
use Rattle.plan_base.specs.States.{is_over}
use Rattle.desk_runs.specs.Clock.{became}
use Rattle.desk_runs.specs.Turning.{turned, is_touched}
use Rattle.desk_runs.proofs.Turns.{changed_more, gathered_more}
use Rattle.desk_runs.proofs.expiry.expire.Goals as goal

pub loop-number-preserved : goal.loop-number-preserved
loop-number-preserved c =
    let i = c.loop-number.number-index in
    let none : GroupNo = record { 0 = 0 } in
    let l : i < length c.args.opened.now = omega arith in
    let running = c.args.running.now in
    let now = c.args.now in
    let groups = changed_more (is_touched running now) (turned running now) c.args.groups.now c.args.opened.now i none l in
    let requests = gathered_more (λ g. became is_over g.requests (turned running now g).requests) c.args.groups.now c.args.opened.now i none l in
    record {
      groups = cc (groups, c.in_ok-turn_group.ensures.groups, c.group_of-group.ensures, c.loop-number.invariant.groups);
      requests = cc (requests, c.in_ok-turn_group.ensures.requests, c.group_of-group.ensures, c.loop-number.invariant.requests);
    }

pub returns-clause-groups : goal.returns-clause-groups
returns-clause-groups c = grind (arith, common_steps)

pub returns-clause-requests : goal.returns-clause-requests
returns-clause-requests c = grind (arith, common_steps)
