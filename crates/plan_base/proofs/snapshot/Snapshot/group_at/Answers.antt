use Rattle.std.proofs.Common.{◌<◌, length, sym, ap, ◌∙◌, arith}
use Rattle.std.proofs.lemmas.Option.{get_or_from_slice_get, slice_get_within}
use Rattle.plan_base.specs.Requests.{listed}
use Rattle.plan_base.proofs.RowLemmas.{length-rows, row_at}
use Rattle.plan_base.proofs.snapshot.Snapshot.group_at.Goals as goal

pub index-requires : goal.index-requires
index-requires c =
    let within : c.args.place < length (listed c.self.inside.parts) = rw c.self.view_is c.requires in
    omega (arith, c.self.inside.rows.ok.0, length-rows c.self.inside.parts c.self.inside.rows.items c.self.invariant.1)

pub returns-clause-value : goal.returns-clause-value
returns-clause-value c =
    let within : c.args.place < length (listed c.self.inside.parts) = rw c.self.view_is c.requires in
    let found = row_at c.self.inside.parts c.self.inside.rows.items c.self.invariant.1 c.args.place c.index.result.now within c.index.ensures in
    rw (← c.self.view_is) (λ d. ap (λ x. x.group) (get_or_from_slice_get (listed c.self.inside.parts) c.args.place found.0 d found.1) ∙ sym found.2.same_group)

pub returns-clause-within : goal.returns-clause-within
returns-clause-within c =
    let within : c.args.place < length (listed c.self.inside.parts) = rw c.self.view_is c.requires in
    let found = row_at c.self.inside.parts c.self.inside.rows.items c.self.invariant.1 c.args.place c.index.result.now within c.index.ensures in
    rw (← c.self.view_is) (slice_get_within c.self.inside.parts.groups c.index.result.now.group found.2.part found.2.at_group)
