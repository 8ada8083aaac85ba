-- The snapshot of the desk, in single seconds.
use Rattle.std.specs.Prelude.{ℕ, ◌+◌, ◌-◌, ◌*◌, ◌≤◌, ◌<◌, ◌∷◌, ◌==◌, nat_le, nat_lt, Bool, not, ◌&&◌, List, [], length, map, filter, filter_map, fold, Option}
use Rattle.std.specs.Prelude.{Some, None, slice_get, if◌then◌else◌}
use Rattle.std.specs.List.{zip, list_any, flat_map, enumerate_from, range_with_len}
use Rattle.std.specs.Option.{unwrap_or}
use Rattle.std.specs.Ordering.{nat_cmp}
use Rattle.std.specs.BTreeSet.{insert_key}
use Rattle.plan_base.specs.declared.number.GroupNo.{GroupNo}
use Rattle.plan_base.specs.declared.number.TargetNo.{TargetNo}
use Rattle.plan_base.specs.declared.number.TelescopeNo.{TelescopeNo}
use Rattle.plan_base.specs.declared.parts.GroupPart.{GroupPart}
use Rattle.plan_base.specs.declared.parts.Parts.{Parts}
use Rattle.plan_base.specs.declared.parts.RequestPart.{RequestPart}
use Rattle.plan_base.specs.declared.parts.Sky.{Sky}
use Rattle.plan_base.specs.declared.parts.TelescopePart.{TelescopePart}
use Rattle.plan_base.specs.declared.span.Span.{Span}
use Rattle.plan_base.specs.Starts.{slices_for}
use Rattle.interval_set.specs.Spans.{has, IsSetOf}
use Rattle.site_model.specs.Names.{number_of, numbered}
use Rattle.site_model.specs.Registry.{TelescopeSeen}
use Rattle.site_model.specs.Calendar.{set_at, sky_of, IsWithinLimits}
use Rattle.site_model.specs.Network.{NetworkSeen}
use Rattle.plan_base.specs.Limits.{most_telescopes}
use Rattle.site_model.specs.Limits.{most_sites, most_targets}
use Rattle.desk_runs.specs.declared.group.Group.{Group}
use Rattle.desk_runs.specs.declared.group.Request.{Request}
use Rattle.desk_runs.specs.declared.observation.Observation.{Observation}
use Rattle.plan_base.specs.Operators.{is_oneof}
use Rattle.desk_runs.specs.Numbers.{is_placed}
use Rattle.desk_runs.specs.Clock.{start_of, end_of, is_waiting}
use Rattle.desk_core.specs.declared.desk.Submitted.{Submitted}
use Rattle.desk_core.specs.declared.desk.Wanted.{Wanted}
use Rattle.desk_core.specs.Asking.{is_fit}
use Rattle.desk_core.specs.Desk.{DeskSeen}
use Rattle.desk_core.specs.Seconds.{spans_below}

-- ---- the horizon

-- the first slice that doesn't begin before now
abbrev pub first_slice : DeskSeen → ℕ
first_slice d = slices_for d.opening.slice d.progress.moment.0

-- the first second of the horizon
abbrev pub horizon_from : DeskSeen → ℕ
horizon_from d = first_slice d * d.opening.slice

-- the second after the last one of the horizon
abbrev pub horizon_to : DeskSeen → ℕ
horizon_to d = (first_slice d + d.opening.horizon) * d.opening.slice

-- its span
abbrev pub horizon_span : DeskSeen → Span
horizon_span d = record { from = record { 0 = horizon_from d }; to = record { 0 = horizon_to d } }

-- the set of its seconds
abbrev pub IsHorizonSet : DeskSeen → List Span → Type 0
IsHorizonSet d spans = IsSetOf (has (horizon_span d ∷ [])) spans

-- the one sorted list with gaps of the seconds of the horizon that pass
abbrev pub in_horizon : DeskSeen → (ℕ → Bool) → List Span
in_horizon d test = spans_below (λ x. nat_le (horizon_from d) x && test x) (horizon_to d)

-- ---- telescopes

-- the span of an observation, where slices have so many seconds
abbrev pub observation_span : ℕ → Observation → Span
observation_span len o = record { from = record { 0 = start_of len o }; to = record { 0 = end_of len o } }

-- the spans of the observations that run on telescope t
abbrev pub observed_on : DeskSeen → ℕ → List Span
observed_on d t = map (observation_span d.progress.len) (filter (λ o. o.telescope.0 == t) d.progress.running)

-- whether second x is usable on telescope t of the site: the night has it, it isn't closed, and nothing runs
abbrev pub is_usable : DeskSeen → ℕ → ℕ → ℕ → Bool
is_usable d site t x =
    has (set_at d.network.calendar.nights site) x && (not (has (set_at d.network.calendar.closures t) x) && not (has (observed_on d t) x))

-- the number of a telescope's site, which each telescope's site has
abbrev pub site_of : DeskSeen → TelescopeSeen → ℕ
site_of d t = unwrap_or (number_of d.network.registry.sites t.code.site) 0

-- a telescope: its site and when it is usable
abbrev pub telescope_part : DeskSeen → ℕ × TelescopeSeen → TelescopePart
telescope_part d p = record { site = record { 0 = site_of d p.1 }; usable = in_horizon d (is_usable d (site_of d p.1) p.0) }

-- all telescopes that are registered so far, in the order of their numbers
abbrev pub telescope_parts : DeskSeen → List TelescopePart
telescope_parts d = map (telescope_part d) (enumerate_from 0 d.network.registry.telescopes)

-- ---- groups

-- all groups, as they were submitted and how far they have come
abbrev pub both_of : DeskSeen → List (Submitted × Group)
both_of d = zip d.groups d.progress.groups

-- the one with a number, which counts from 1
abbrev pub both_at : DeskSeen → GroupNo → Option (Submitted × Group)
both_at d number = slice_get (both_of d) (number.0 - 1)

-- a group has the number
abbrev pub IsGroupNo : DeskSeen → GroupNo → Type 0
IsGroupNo d number = (1 ≤ number.0) × (number.0 ≤ length d.progress.groups)

-- the telescopes that fit, among all that are registered so far
abbrev pub telescopes_for : DeskSeen → Wanted → List TelescopeNo
telescopes_for d w = map (λ p. record { 0 = p.0 }) (filter (λ p. is_fit w.location w.instrument p.1) (enumerate_from 0 d.network.registry.telescopes))

-- a request as the snapshot has it, with the numbers of the telescopes that fit
abbrev pub request_part : DeskSeen → Request × Wanted → RequestPart
request_part d p = record {
  request = p.0.number;
  seconds = p.0.seconds;
  value = p.1.value;
  windows = p.1.windows;
  telescopes = telescopes_for d p.1;
  targets = p.1.targets;
  fade = p.1.fade;
}

-- a group's requests that are pending and aren't running
abbrev pub waiting_of : DeskSeen → Submitted × Group → List (Request × Wanted)
waiting_of d p = filter (λ m. is_waiting d.progress.running m.0) (zip p.1.requests p.0.requests)

-- whether a member is running
abbrev pub has_running : DeskSeen → Group → Bool
has_running d g = list_any (λ q. is_placed d.progress.running q.number) g.requests

-- whether a group is listed: a ONEOF with a running member isn't, nor is a group with no request to list
abbrev pub is_listed : DeskSeen → Submitted × Group → Bool
is_listed d p = not (is_oneof p.1.op && has_running d p.1) && nat_lt 0 (length (waiting_of d p))

-- the listed groups, by number
abbrev pub listed_groups : DeskSeen → List (Submitted × Group)
listed_groups d = filter (is_listed d) (both_of d)

-- the proposals of the listed groups, each once, in their order
abbrev pub proposals_of : DeskSeen → List (List ℕ)
proposals_of d = fold (λ names p. numbered names p.0.document.proposal) [] (listed_groups d)

-- the place of a proposal's quota, where the desk has one
abbrev pub quota_place : DeskSeen → List ℕ → Option ℕ → Option ℕ
quota_place d proposal None = None
quota_place d proposal (Some quota) = number_of (proposals_of d) proposal

-- a group as the snapshot has it: those of its requests that are waiting, and the place of its proposal's quota, if the desk has one
abbrev pub group_part : DeskSeen → Submitted × Group → GroupPart
group_part d p = record {
  group = p.1.number;
  op = p.1.op;
  requests = map (request_part d) (waiting_of d p);
  quota = quota_place d p.0.document.proposal d.opening.quota;
}

-- the quota once for each of those proposals, where the desk has one
abbrev pub quotas_of : DeskSeen → Option ℕ → List ℕ
quotas_of d None = []
quotas_of d (Some quota) = map (λ name. quota) (proposals_of d)

-- ---- skies

-- a set of numbers with those of targets, rising
abbrev pub with_numbers_of : List ℕ → List TargetNo → List ℕ
with_numbers_of numbers targets = fold (insert_key nat_cmp) numbers (map (λ t. t.0) targets)

-- the targets of the requests of a group, one request after another
abbrev pub group_targets : GroupPart → List TargetNo
group_targets x = flat_map (λ q. q.targets) x.requests

-- the targets of the requests of all groups, one group after another
abbrev pub part_targets : List GroupPart → List TargetNo
part_targets groups = flat_map group_targets groups

-- the targets of listed requests, each once, rising
abbrev pub targets_listed : DeskSeen → List ℕ
targets_listed d = with_numbers_of [] (flat_map (λ p. flat_map (λ m. m.1.targets) (waiting_of d p)) (listed_groups d))

-- the sky of a target at a site inside the horizon, where it has a second
abbrev pub sky_part : DeskSeen → ℕ → ℕ → Option Sky
sky_part d target site =
    let spans = in_horizon d (has (sky_of d.network.calendar.skies record { target = record { 0 = target }; site = record { 0 = site } })) in
    if nat_lt 0 (length spans) then Some record { target = record { 0 = target }; site = record { 0 = site }; spans = spans } else None

-- the skies of a target, by site
abbrev pub skies_at : DeskSeen → ℕ → List Sky
skies_at d target = filter_map (sky_part d target) (range_with_len 0 (length d.network.registry.sites))

-- the skies of the targets of listed requests, by target and then by site
abbrev pub skies_of : DeskSeen → List Sky
skies_of d = flat_map (skies_at d) (targets_listed d)

-- ---- all of it

-- the snapshot of a desk of this version
abbrev pub snapshot_of : ℕ → DeskSeen → Parts
snapshot_of version d = record {
  version = version;
  len = d.opening.slice;
  first = record { 0 = first_slice d };
  slices = d.opening.horizon;
  telescopes = telescope_parts d;
  skies = skies_of d;
  groups = map (group_part d) (listed_groups d);
  quotas = quotas_of d d.opening.quota;
}

-- a network has no more telescopes, sites and targets than it may, and where it has targets and sites no more times either, which
-- its type keeps
pub record HasFew (n : NetworkSeen) : Type 0 where
  pub telescopes : length n.registry.telescopes ≤ most_telescopes
  pub sites : length n.registry.sites ≤ most_sites
  pub targets : length n.registry.targets ≤ most_targets
  pub visible : 0 < length n.registry.targets → 0 < length n.registry.sites → IsWithinLimits n.calendar

-- and where it has telescopes
pub record IsSmall (n : NetworkSeen) : Type 0 where
  pub few : HasFew n
  pub usable : 0 < length n.registry.telescopes → IsWithinLimits n.calendar
