use Rattle.std.proofs.Common.{◌<◌, ◌+◌, Some, ap, ◌∙◌, arith}
use Rattle.desk_core.specs.Desk.{DeskSeen, StateSeen, seen}
use Rattle.desk_core.specs.Step.{new_desk}
use Rattle.desk_core.proofs.KeptState.{open_keeps}
use Rattle.desk_core.proofs.state.State.open.Goals as goal

pub invariant_of-self : goal.invariant_of-self
invariant_of-self c =
    let same = ap (λ (s : StateSeen). s.version) c.self.view_is in
    let few : c.self.inside.version < 524288 = omega (arith, c.requires.version, same) in
    open_keeps c.self.inside.version c.args.opening c.args.now (seen c.in_ok-desk.desk) few c.requires.opening c.requires.moment c.in_ok-desk.ensures

pub returns-clause-opened : goal.returns-clause-opened
returns-clause-opened c =
    let version = ap (λ (s : StateSeen). s.version) c.self.view_is in
    ap (λ (d : DeskSeen). record { version = c.self.inside.version + 1; desk = Some d }) c.in_ok-desk.ensures
    ∙ ap (λ v. record { version = v + 1; desk = Some (new_desk c.args.opening c.args.now) }) version
