-- How runs are kept.
use Rattle.std.specs.Prelude.{◌≡◌, ◌<◌, ◌^◌, map, filter, length}
use Rattle.desk_runs.specs.declared.runs.Runs.TheInside.{Inside}
use Rattle.desk_runs.specs.States.{is_open}
use Rattle.desk_runs.specs.Numbers.{requests_of}
use Rattle.desk_runs.specs.Progress.{Progress}
use Rattle.desk_runs.specs.Owners.{owners_from, pending_count}
use Rattle.desk_runs.specs.Sound.{IsSound}

-- how far the groups have come
abbrev pub progress_of : Inside → Progress
progress_of a = record { len = a.len; moment = a.moment; groups = a.groups.items; kept = a.kept; running = a.running }

-- the state is sound, owners, open groups and pending requests are those of the groups, and numbers have 32 bits
pub record IsRuns (a : Inside) : Type 0 where
  pub sound : IsSound (progress_of a)
  pub opened : a.opened.items ≡ map (λ g. g.number) (filter is_open a.groups.items)
  pub owners : a.owners.items ≡ owners_from 0 a.groups.items
  pub pending : a.pending ≡ pending_count a.groups.items
  pub few_groups : length a.groups.items < 2 ^ 32
  pub few_requests : length (requests_of a.groups.items) < 2 ^ 32
