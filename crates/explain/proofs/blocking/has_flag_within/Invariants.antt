use Rattle.openings.specs.Openings.{HasFlagWithin}
use Rattle.explain.proofs.blocking.has_flag_within.Given as goal

abbrev pub invariant-loop-place : goal.invariant-loop-place
invariant-loop-place l = ¬ (HasFlagWithin l.flags l.from l.place)
