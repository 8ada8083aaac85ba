use Rattle.std.proofs.Common.{◌≡◌, map, filter, take}
use Rattle.std.specs.List.{flat_map}
use Rattle.plan_base.specs.States.{is_over}
use Rattle.desk_runs.specs.Clock.{became}
use Rattle.desk_runs.specs.Turning.{turned, is_touched, groups_of}
use Rattle.desk_runs.proofs.expiry.expire.Given as goal

abbrev pub invariant-loop-number : goal.invariant-loop-number
invariant-loop-number l = record {
  groups : l.expiry.groups.items ≡ map (turned l.running l.now) (filter (is_touched l.running l.now) (groups_of l.groups (take l.number-index l.opened)));
  requests : l.expiry.requests.items ≡ flat_map (λ g. became is_over g.requests (turned l.running l.now g).requests)
      (groups_of l.groups (take l.number-index l.opened));
}
