-- Changes that are made whole: first looked for, then made without memory.
use Rattle.std.specs.Prelude.{◌-◌, List, fold, slice_set}
use Rattle.desk_runs.specs.declared.group.Group.{Group}
use Rattle.desk_runs.specs.declared.change.Change.{Change}
use Rattle.desk_runs.specs.Progress.{Progress}

-- a group in the place of the one with its number; numbers count from 1
abbrev pub put : List Group → Group → List Group
put groups g = slice_set groups (g.number.0 - 1) g

-- what a change leaves
abbrev pub changed : Progress → Change → Progress
changed s c = record s { moment = c.now; groups = fold put s.groups c.groups; kept = c.kept; running = c.running }
