use Rattle.std.proofs.Common.{◌≡◌, ◌||◌, ℕ, length, drop}
use Rattle.plan_base.specs.Requests.{listed, IsKnown}
use Rattle.plan_base.specs.Feasible.{requests_of}
use Rattle.group_trees.specs.Plans.{is_placed}
use Rattle.group_trees.specs.Standings.{is_flagged}
use Rattle.group_trees.proofs.standing.placed_flags.Given as goal

abbrev pub invariant-loop-placement : goal.invariant-loop-placement
invariant-loop-placement l =
    (length l.flags.items ≡ length (listed l.snapshot))
    × ((r : ℕ) → IsKnown l.snapshot r → (is_flagged l.snapshot l.flags.items r || is_placed (requests_of (drop l.placement-index l.plan)) r)
    ≡ is_placed (requests_of l.plan) r)
