use Rattle.std.proofs.Common.{◌≡◌, ◌++◌, drop}
use Rattle.desk_runs.specs.Changes.{changed}
use Rattle.desk_core.specs.Desk.{seen}
use Rattle.desk_core.specs.Endings.{endings_of, told_along}
use Rattle.desk_core.proofs.desk.Desk.endings.Given as goal

abbrev pub invariant-loop-after : goal.invariant-loop-after
invariant-loop-after l =
    l.endings.items ++ endings_of (drop l.after-index (told_along l.change.groups (seen l.self) (changed l.self.runs l.change)))
    ≡ endings_of (told_along l.change.groups (seen l.self) (changed l.self.runs l.change))
