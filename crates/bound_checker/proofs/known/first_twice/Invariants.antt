use Rattle.std.proofs.Common.{◌≡◌}
use Rattle.plan_base.specs.Requests.{listed, place_of}
use Rattle.bound_checker.proofs.Marks.{AreMarks}
use Rattle.bound_checker.proofs.known.first_twice.Given as goal

abbrev pub invariant-loop-index : goal.invariant-loop-index
invariant-loop-index l = AreMarks l.snapshot l.plan l.index l.placed.items
