use Rattle.std.proofs.Common.{◌≤◌, length, lit<, arith}
use Rattle.plan_base.specs.Limits.{most_pending}
use Rattle.plan_base.specs.declared.fault.Counted.TheVariants.{Requests}
use Rattle.plan_base.specs.Requests.{listed}
use Rattle.plan_base.proofs.Orderly.{orderly}
use Rattle.plan_base.proofs.RowLemmas.{length-rows}
use Rattle.plan_base.proofs.snapshot.Snapshot.request_count.Goals as goal

pub returns-clause-value : goal.returns-clause-value
returns-clause-value c = rw (← c.self.view_is)
    (omega (arith, c.self.inside.rows.ok.0, length-rows c.self.inside.parts c.self.inside.rows.items c.self.invariant.1))

pub returns-clause-few : goal.returns-clause-few
returns-clause-few c =
    let few : length (listed c.self.inside.parts) ≤ most_pending = (orderly c.self.inside.parts c.self.invariant.0).within Requests 0 0 (lit< tt) in
    omega (arith, c.self.inside.rows.ok.0, length-rows c.self.inside.parts c.self.inside.rows.items c.self.invariant.1)
