use Rattle.std.proofs.Common.{◌+◌, List, ℕ, drop, slice_index_or, refl, subst}
use Rattle.std.proofs.lemmas.List.{drop_more}
use Rattle.interval_solver.specs.Uses.{IsTally}
use Rattle.interval_solver.proofs.Tallying.{tally_less}
use Rattle.interval_solver.proofs.uses.take_back.Goals as goal

pub loop-place-preserved : goal.loop-place-preserved
loop-place-preserved c =
    tally_less (drop (c.loop-place.place-index + 1) c.args.places.now) c.loop-place.counts (slice_index_or c.args.places.now c.loop-place.place-index 0) _
    (subst (λ (ps : List ℕ). IsTally ps c.loop-place.counts) (drop_more c.args.places.now c.loop-place.place-index 0 c.loop-place-test.true)
    c.loop-place.invariant) refl
