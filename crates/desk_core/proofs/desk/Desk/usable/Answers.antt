use Rattle.desk_core.specs.Desk.{seen}
use Rattle.std.proofs.lemmas.Result.{IfOk-weaker}
use Rattle.desk_core.proofs.SnapshotSights.{usable_is}
use Rattle.desk_core.proofs.desk.Desk.usable.Goals as goal

pub returns-clause-usable : goal.returns-clause-usable
returns-clause-usable c =
    IfOk-weaker c.meet.result _ _ (λ cut meet site at.
    usable_is (seen c.args.self.now) site c.args.telescope.0 c.in_ok-usable.usable c.in_ok-observed.observed c.in_ok-free.free c.args.horizon.now cut
    c.in_ok-usable.ensures.usable at c.in_ok-observed.ensures c.in_ok-free.ensures c.requires.horizon meet) c.meet.ensures
