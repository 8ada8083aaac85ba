use Rattle.std.proofs.Common.{length}
use Rattle.desk_passes.specs.Calls.{IsRootOf, root_view}
use Rattle.session.specs.Passes.{IsOf, EachPass, OnlyOut}
use Rattle.session.proofs.live.passes.give_back.Given as goal

abbrev pub invariant-loop-pass : goal.invariant-loop-pass
invariant-loop-pass l = IsRootOf l.desk l.root × EachPass (IsOf l.desk) l.passes.items × OnlyOut (root_view l.root) (length l.passes.items)

abbrev pub decreases-loop-pass : goal.decreases-loop-pass
decreases-loop-pass l = goal.left-loop-pass l
