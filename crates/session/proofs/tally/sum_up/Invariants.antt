use Rattle.std.proofs.Common.{◌≡◌, ◌-◌}
use Rattle.session.proofs.Tallies.{Tally, first_lines, with_given}
use Rattle.session.proofs.tally.sum_up.Given as goal

abbrev pub invariant-loop-cache : goal.invariant-loop-cache
invariant-loop-cache g l = record {
  is : l.workload ≡ with_given l.fn.number l.workload.given;
  tally : Tally (first_lines l.fn.number l.workload.given) l.state l.summary;
}

abbrev pub decreases-loop-cache : goal.decreases-loop-cache
decreases-loop-cache g l = 211 - l.workload.given
