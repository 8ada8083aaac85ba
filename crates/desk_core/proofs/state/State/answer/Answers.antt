use Rattle.std.proofs.Common.{◌<◌, ap, subst, Option, arith}
use Rattle.std.specs.Option.{option_map}
use Rattle.desk_core.specs.declared.desk.Desk.{Desk}
use Rattle.desk_core.specs.Desk.{StateSeen, seen}
use Rattle.desk_core.specs.Kept.{IsState}
use Rattle.desk_core.proofs.Unopened.{answered_keeps}
use Rattle.desk_core.proofs.state.State.answer.Goals as goal

-- the step keeps the state
pub invariant_of-self-2 : goal.invariant_of-self-2
invariant_of-self-2 c =
    let version = c.self.inside.version in
    let same = ap (λ (s : StateSeen). s.version) c.self.view_is in
    let few : version < 524288 = omega (arith, c.requires.version, same) in
    answered_keeps version c.changes.result (seen c.in-Some.desk) (seen c.answer.new.self) c.args.command.now c.in_ok-reply.reply few
    (subst (λ (o : Option Desk). IsState record { version = version; desk = option_map seen o }) c.in-Some.is c.self.invariant)
    c.requires.ranges c.changes.ensures.count
    c.in_ok-reply.ensures.ok
