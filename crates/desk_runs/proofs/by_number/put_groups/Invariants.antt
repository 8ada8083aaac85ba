use Rattle.std.proofs.Common.{◌≡◌}
use Rattle.std.specs.List.{fold}
use Rattle.desk_runs.specs.Changes.{put}
use Rattle.desk_runs.proofs.by_number.put_groups.Given as goal

abbrev pub invariant-loop-group : goal.invariant-loop-group
invariant-loop-group l = l.groups.items ≡ fold put l.initial.groups.items l.yielded
