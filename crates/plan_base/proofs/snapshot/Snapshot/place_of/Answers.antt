use Rattle.plan_base.proofs.Orderly.{orderly}
use Rattle.plan_base.proofs.RowLemmas.{search_rows}
use Rattle.plan_base.proofs.snapshot.Snapshot.place_of.Goals as goal

pub returns : goal.returns
returns c =
    rw (c.ok.ensures.value, ← c.self.view_is)
    (search_rows c.self.inside.parts c.self.inside.rows.items c.self.invariant.1
    (orderly c.self.inside.parts c.self.invariant.0) c.args.request.0 c.search_rows.result
    (rw c.as_slice.ensures.value at c.search_rows.ensures.bound) (rw c.as_slice.ensures.value at c.search_rows.ensures.position))
