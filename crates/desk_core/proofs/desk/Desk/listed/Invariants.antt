use Rattle.std.proofs.Common.{◌≡◌, map, take}
use Rattle.std.specs.Prelude.{filter}
use Rattle.desk_runs.specs.States.{is_open}
use Rattle.desk_core.specs.Desk.{seen}
use Rattle.desk_core.specs.DeskSnapshot.{both_of, is_listed}
use Rattle.desk_core.proofs.desk.Desk.listed.Given as goal

abbrev pub invariant-loop-number : goal.invariant-loop-number
invariant-loop-number l =
    l.listed.items ≡ map (λ p. p.1.number) (filter (is_listed (seen l.self)) (take l.number-index (filter (λ p. is_open p.1) (both_of (seen l.self)))))
