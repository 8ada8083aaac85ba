-- How a moment is looked for: which groups it touches.
use Rattle.std.specs.Prelude.{◌-◌, Bool, nat_lt, ◌&&◌, ◌||◌, List, [], map, slice_index_or}
use Rattle.std.specs.List.{list_any}
use Rattle.plan_base.specs.declared.number.Sec.{Sec}
use Rattle.plan_base.specs.declared.number.GroupNo.{GroupNo}
use Rattle.plan_base.specs.declared.parts.Op.TheVariants.{Single}
use Rattle.desk_runs.specs.declared.group.Group.{Group}
use Rattle.desk_runs.specs.declared.observation.Observation.{Observation}
use Rattle.desk_runs.specs.States.{is_open}
use Rattle.desk_runs.specs.Clock.{is_waiting, is_past, with_past, is_lost, with_lost}

-- what the two steps on groups make of one
abbrev pub turned : List Observation → Sec → Group → Group
turned running now g = with_lost running (with_past running now g)

-- whether a moment may change a group: a request is past, or it is lost and one is waiting
abbrev pub is_touched : List Observation → Sec → Group → Bool
is_touched running now g = list_any (is_past running now) g.requests || (is_lost g && list_any (is_waiting running) g.requests)

-- the group at no place
abbrev pub no_group : Group
no_group = record { number = record { 0 = 0 }; op = Single; requests = [] }

-- the group at the place of a number
abbrev pub group_of : List Group → GroupNo → Group
group_of groups number = slice_index_or groups (number.0 - 1) no_group

-- the groups with these numbers
abbrev pub groups_of : List Group → List GroupNo → List Group
groups_of groups numbers = map (group_of groups) numbers

-- whether the group at the place of a number is open
abbrev pub is_open_at : List Group → GroupNo → Bool
is_open_at groups number = nat_lt 0 number.0 && is_open (group_of groups number)
