use Rattle.std.proofs.Common.{◌≡◌, ◌++◌, map}
use Rattle.std.specs.Prelude.{filter}
use Rattle.std.specs.List.{zip}
use Rattle.desk_runs.specs.Clock.{is_waiting}
use Rattle.desk_core.specs.Desk.{seen}
use Rattle.desk_core.specs.DeskSnapshot.{request_part, waiting_of}
use Rattle.desk_core.proofs.desk.Desk.request_parts.Given as goal

abbrev pub invariant-loop-request : goal.invariant-loop-request
invariant-loop-request l =
    l.parts ++ map (request_part (seen l.self))
    (filter (λ m. is_waiting l.self.runs.running m.0) (zip l.request-iterator.a.rest.now l.request-iterator.b.rest.now))
    ≡ map (request_part (seen l.self)) (waiting_of (seen l.self) (l.submitted, l.group))
