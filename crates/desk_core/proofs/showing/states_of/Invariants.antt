use Rattle.std.proofs.Common.{◌≡◌, map, take}
use Rattle.desk_core.specs.Showing.{member_state}
use Rattle.desk_core.proofs.showing.states_of.Given as goal

abbrev pub invariant-loop-request : goal.invariant-loop-request
invariant-loop-request l = l.states ≡ map member_state (take l.request-index l.requests)
