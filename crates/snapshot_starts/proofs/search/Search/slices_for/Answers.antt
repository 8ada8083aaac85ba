use Rattle.std.proofs.Common.{sym, subst, ◌∙◌}
use Rattle.plan_base.specs.declared.parts.Parts.{Parts}
use Rattle.plan_base.specs.Snapshot.{IsOrderly}
use Rattle.snapshot_starts.specs.Mending.{IsRequest, IsSteadyPair}
use Rattle.snapshot_starts.proofs.search.Search.slices_for.Goals as goal

pub steady_for-requires : goal.steady_for-requires
steady_for-requires c = c.requires.known

pub mended_slices-requires-clause-orderly : goal.mended_slices-requires-clause-orderly
mended_slices-requires-clause-orderly c = subst IsOrderly (sym c.parts-parts.ensures.value) c.parts-parts.ensures.orderly

pub mended_slices-requires-clause-seconds : goal.mended_slices-requires-clause-seconds
mended_slices-requires-clause-seconds c = c.requires.seconds

pub mended_slices-requires-clause-known : goal.mended_slices-requires-clause-known
mended_slices-requires-clause-known c =
    subst (λ (s : Parts). IsRequest s c.args.request.now) (sym (c.parts-parts.ensures.value ∙ c.self.view_is)) c.requires.known

pub mended_slices-requires-clause-steady : goal.mended_slices-requires-clause-steady
mended_slices-requires-clause-steady c =
    subst (λ (s : Parts). IsSteadyPair c.in-Some.held.now s c.args.request.now.request.0 c.args.telescope.0)
    (sym (c.parts-parts.ensures.value ∙ c.self.view_is)) c.in-Some.ensures

pub start_slices-requires-clause-orderly : goal.start_slices-requires-clause-orderly
start_slices-requires-clause-orderly c = subst IsOrderly (sym c.parts-parts.ensures.value) c.parts-parts.ensures.orderly

pub start_slices-requires-clause-seconds : goal.start_slices-requires-clause-seconds
start_slices-requires-clause-seconds c = c.requires.seconds
