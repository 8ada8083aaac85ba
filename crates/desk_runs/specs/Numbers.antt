-- Requests and groups by their numbers.
use Rattle.std.specs.Prelude.{Bool, ◌==◌, ◌&&◌, List, Option, find}
use Rattle.std.specs.List.{list_any, flat_map}
use Rattle.plan_base.specs.declared.number.GroupNo.{GroupNo}
use Rattle.plan_base.specs.declared.number.RequestNo.{RequestNo}
use Rattle.desk_runs.specs.declared.group.Group.{Group}
use Rattle.desk_runs.specs.declared.group.Request.{Request}
use Rattle.desk_runs.specs.declared.observation.Observation.{Observation}
use Rattle.plan_base.specs.States.{is_pending}

-- all requests, group by group
abbrev pub requests_of : List Group → List Request
requests_of groups = flat_map (λ g. g.requests) groups

-- whether a request has this number
abbrev pub is_request : RequestNo → Request → Bool
is_request number q = q.number.0 == number.0

-- whether a request of the group has this number
abbrev pub has_request : RequestNo → Group → Bool
has_request number g = list_any (is_request number) g.requests

-- the group that has the request with this number
abbrev pub group_with : List Group → RequestNo → Option Group
group_with groups number = find (has_request number) groups

-- whether a group has this number
abbrev pub is_group : GroupNo → Group → Bool
is_group number g = g.number.0 == number.0

-- the group with this number
abbrev pub group_at : List Group → GroupNo → Option Group
group_at groups number = find (is_group number) groups

-- whether the request with this number is pending
abbrev pub is_pending_at : List Group → RequestNo → Bool
is_pending_at groups number = list_any (λ g. list_any (λ q. is_request number q && is_pending q.state) g.requests) groups

-- whether the request with this number is observed
abbrev pub is_placed : List Observation → RequestNo → Bool
is_placed observations number = list_any (λ o. o.request.0 == number.0) observations
