use Rattle.std.proofs.Common.{◌≡◌, subst}
use Rattle.std.specs.Prelude.{HoldsAt}
use Rattle.plan_base.specs.declared.parts.Parts.{Parts}
use Rattle.plan_base.specs.Requests.{listed}
use Rattle.plan_base.specs.Round.{uses_of}
use Rattle.interval_solver.specs.Solving.{Solving}
use Rattle.interval_solver.proofs.solver.Solver.uses.Goals as goal

pub returns : goal.returns
returns c =
    subst (λ (b : Solving). HoldsAt (λ x. c.count.result ≡ uses_of b.chosen x.request.request.0) (listed b.snapshot) c.args.member) c.self.view_is
    (subst (λ (s : Parts). HoldsAt (λ x. c.count.result ≡ uses_of c.self.inside.uses.starts x.request.request.0) (listed s) c.args.member)
    c.self.invariant.snapshot c.count.ensures)
