use Rattle.std.proofs.Common.{ℕ, ◌<◌, slice_index_or}
use Rattle.plan_base.specs.declared.number.TelescopeNo.{TelescopeNo}
use Rattle.rapid.specs.Displaced.{Qualifies}
use Rattle.rapid.specs.Held.{plan_of}
use Rattle.rapid.specs.Found.{start_on}
use Rattle.rapid.proofs.seeking.first_at.Given as goal

abbrev pub invariant-loop-telescope : goal.invariant-loop-telescope
invariant-loop-telescope l = (k : ℕ) (d : TelescopeNo) → k < l.telescope-index
    → ¬ (Qualifies l.snapshot (plan_of l.held) (start_on l.request l.slice (slice_index_or l.telescopes k d)))
