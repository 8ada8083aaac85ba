-- Which parts are a snapshot, and the first fault of those that aren't.
use Rattle.std.specs.Prelude.{◌≡◌, ℕ, ◌≤◌, ◌<◌, nat_le, nat_lt, Bool, true, not, ◌&&◌, ◌||◌, ◌==◌}
use Rattle.std.specs.Prelude.{if◌then◌else◌, List, [], ◌∷◌, ◌++◌, length, map, drop, Option, Some, None, All, AllPairs, sum_by, find, position}
use Rattle.std.specs.List.{flat_map, list_any, list_all, zip}
use Rattle.std.specs.Option.{ForSome, option_map, option_or}
use Rattle.plan_base.specs.declared.parts.Parts.{Parts}
use Rattle.plan_base.specs.declared.parts.GroupPart.{GroupPart}
use Rattle.plan_base.specs.declared.parts.Sky.{Sky}
use Rattle.plan_base.specs.declared.parts.Op.{Op}
use Rattle.plan_base.specs.declared.parts.Op.TheVariants.{Single, Many, OneOf, And}
use Rattle.plan_base.specs.declared.span.Span.{Span}
use Rattle.plan_base.specs.declared.number.TelescopeNo.{TelescopeNo}
use Rattle.plan_base.specs.declared.fault.Counted.{Counted}
use Rattle.plan_base.specs.declared.fault.Counted.TheVariants.{Telescopes, Usable, Skies, Spans, Groups, Requests, Windows, Targets, Fits, Quotas}
use Rattle.plan_base.specs.declared.fault.SnapshotFault.{SnapshotFault}
use Rattle.plan_base.specs.declared.fault.SnapshotFault.TheVariants.{
  OverLimit,
  EmptySpan,
  NotApart,
  GroupOrder,
  RequestOrder,
  BadShape,
  NoSuchTelescope,
  FadeRange,
  NoSuchQuota,
  QuotaRange,
}
use Rattle.plan_base.specs.Limits.{most_moment, most_slices, most_seconds, most_value, most_quota, most_version, least_len, most_len}
use Rattle.plan_base.specs.Limits.{most_first, most_pending, most_members, most_asked, most_windows, most_configurations, most_telescopes}
use Rattle.plan_base.specs.Limits.{most_visibility, most_fade}
use Rattle.plan_base.specs.Requests.{listed}
use Rattle.plan_base.specs.Skies.{SkiesRise}

-- a second that a span of a snapshot may name
abbrev pub IsMoment : ℕ → Type 0
IsMoment x = x ≤ most_moment

-- all spans of the usable times, then of the skies, then of the windows
abbrev pub all_spans : Parts → List Span
all_spans s = flat_map (λ t. t.usable) s.telescopes ++ flat_map (λ y. y.spans) s.skies ++ flat_map (λ x. x.request.windows) (listed s)

-- the version, the numbers of the horizon, the seconds and values of requests and the moments of all spans lie where a document
-- may put them; of fades and quotas the faults speak
pub record IsInRanges (s : Parts) : Type 0 where
  pub version : s.version ≤ most_version
  pub len_least : least_len ≤ s.len
  pub len_most : s.len ≤ most_len
  pub first : s.first.0 ≤ most_first
  pub slices_least : 1 ≤ s.slices
  pub slices_most : s.slices ≤ most_slices
  pub seconds : All (λ x. (1 ≤ x.request.seconds) × (x.request.seconds ≤ most_seconds)) (listed s)
  pub values : All (λ x. (1 ≤ x.request.value) × (x.request.value ≤ most_value)) (listed s)
  pub moments : All (λ w. IsMoment w.from.0 × IsMoment w.to.0) (all_spans s)

-- how many there may be
abbrev pub limit_of : Counted → ℕ
limit_of Telescopes = most_telescopes
limit_of Usable = 2048
limit_of Skies = 32768
limit_of Spans = most_visibility
limit_of Groups = most_pending
limit_of Requests = most_pending
limit_of Windows = most_windows
limit_of Targets = most_configurations
limit_of Fits = most_telescopes
limit_of Quotas = most_pending

-- how many there are, once or for each telescope or request
abbrev pub counts_of : Parts → Counted → List ℕ
counts_of s Telescopes = length s.telescopes ∷ []
counts_of s Usable = map (λ t. length t.usable) s.telescopes
counts_of s Skies = length s.skies ∷ []
counts_of s Spans = sum_by (λ y. length y.spans) s.skies ∷ []
counts_of s Groups = length s.groups ∷ []
counts_of s Requests = length (listed s) ∷ []
counts_of s Windows = map (λ x. length x.request.windows) (listed s)
counts_of s Targets = map (λ x. length x.request.targets) (listed s)
counts_of s Fits = map (λ x. length x.request.telescopes) (listed s)
counts_of s Quotas = length s.quotas ∷ []

-- all that is counted, in order
abbrev pub all_counted : List Counted
all_counted = Telescopes ∷ Usable ∷ Skies ∷ Spans ∷ Groups ∷ Requests ∷ Windows ∷ Targets ∷ Fits ∷ Quotas ∷ []

-- each `to` lies below the next `from`
abbrev pub is_apart : List Span → Bool
is_apart spans = list_all (λ p. nat_lt p.0.to.0 p.1.from.0) (zip spans (drop 1 spans))

-- sky y stands below sky z by target, then site
abbrev pub sky_below : Sky → Sky → Bool
sky_below y z = nat_lt y.target.0 z.target.0 || ((y.target.0 == z.target.0) && nat_lt y.site.0 z.site.0)

-- each sky stands below the next
abbrev pub skies_rise : List Sky → Bool
skies_rise skies = list_all (λ p. sky_below p.0 p.1) (zip skies (drop 1 skies))

-- how many requests a group of the kind may have
abbrev pub most_requests : Op → ℕ
most_requests Single = 1
most_requests Many = most_members
most_requests OneOf = most_asked
most_requests And = most_asked

-- whether the group has at least one request, and no more than its kind may have
abbrev pub has_shape : GroupPart → Bool
has_shape x = nat_le 1 (length x.requests) && nat_le (length x.requests) (most_requests x.op)

-- telescope t, after the one before it in a list, is one of n and rises
abbrev pub fits_after : ℕ → Option TelescopeNo × TelescopeNo → Bool
fits_after n (None, t) = nat_lt t.0 n
fits_after n (Some p, t) = nat_lt t.0 n && nat_lt p.0 t.0

-- each telescope of a list with the one before it
abbrev pub with_last : List TelescopeNo → List (Option TelescopeNo × TelescopeNo)
with_last ts = zip (None ∷ map (λ t. Some t) ts) ts

-- the quota, if one is named, is one of n
abbrev pub names_quota : ℕ → Option ℕ → Bool
names_quota n None = true
names_quota n (Some q) = nat_lt q n

-- the first that there is
abbrev pub first_some : {X : Type 0} → List (Option X) → Option X
first_some [] = None
first_some (x ∷ xs) = option_or x (first_some xs)

-- the fault of the first count above its limit
abbrev pub limit_fault : Parts → Option SnapshotFault
limit_fault s = first_some (map (λ what. option_map (λ n. OverLimit what n) (find (λ n. nat_lt (limit_of what) n) (counts_of s what))) all_counted)

-- the fault of a span without a second
abbrev pub span_fault : Parts → Option SnapshotFault
span_fault s = if list_any (λ w. nat_le w.to.0 w.from.0) (all_spans s) then Some EmptySpan else None

-- the fault of usable spans or skies that aren't in order with gaps between them
abbrev pub apart_fault : Parts → Option SnapshotFault
apart_fault s = if list_all (λ t. is_apart t.usable) s.telescopes && list_all (λ y. is_apart y.spans) s.skies && skies_rise s.skies then None else Some NotApart

-- the fault of the first group whose number isn't above that of the one before it
abbrev pub group_fault : Parts → Option SnapshotFault
group_fault s = option_map (λ p. GroupOrder p.1.group) (find (λ p. nat_le p.1.group.0 p.0.group.0) (zip s.groups (drop 1 s.groups)))

-- the fault of the first request whose number isn't above that of the one before it
abbrev pub request_fault : Parts → Option SnapshotFault
request_fault s =
    option_map (λ p. RequestOrder p.1.request.request) (find (λ p. nat_le p.1.request.request.0 p.0.request.request.0) (zip (listed s) (drop 1 (listed s))))

-- the fault of the first group with too few or too many requests
abbrev pub shape_fault : Parts → Option SnapshotFault
shape_fault s = option_map (λ x. BadShape x.group) (find (λ x. not (has_shape x)) s.groups)

-- the fault of the first telescope of a request that isn't in the list, or doesn't rise after the one before it
abbrev pub telescope_fault : Parts → Option SnapshotFault
telescope_fault s =
    option_map (λ p. NoSuchTelescope p.1) (find (λ p. not (fits_after (length s.telescopes) p)) (flat_map (λ x. with_last x.request.telescopes) (listed s)))

-- the fault of the first request that loses more than its value
abbrev pub fade_fault : Parts → Option SnapshotFault
fade_fault s = option_map (λ x. FadeRange x.request.request) (find (λ x. nat_lt most_fade x.request.fade) (listed s))

-- the fault of the first group that names a quota that isn't in the list
abbrev pub quota_fault : Parts → Option SnapshotFault
quota_fault s = option_map (λ x. NoSuchQuota x.group) (find (λ x. not (names_quota (length s.quotas) x.quota)) s.groups)

-- the fault of the first quota that is too great
abbrev pub quota_range_fault : Parts → Option SnapshotFault
quota_range_fault s = option_map (λ i. QuotaRange i) (position (λ q. nat_lt most_quota q) s.quotas)

-- the first fault, each test over the whole before the next
abbrev pub fault_of : Parts → Option SnapshotFault
fault_of s =
    first_some (limit_fault s ∷ span_fault s ∷ apart_fault s ∷ group_fault s ∷ request_fault s ∷ shape_fault s ∷ telescope_fault s ∷ fade_fault s
    ∷ quota_fault s ∷ quota_range_fault s ∷ [])

-- each span has a second, and ends before the next begins
pub record IsSortedApart (spans : List Span) : Type 0 where
  pub nonempty : All (λ w. w.from.0 < w.to.0) spans
  pub apart : AllPairs (λ v w. v.to.0 < w.from.0) spans

-- parts in their ranges to which no fault applies
pub record IsSnapshot (s : Parts) : Type 0 where
  pub ranges : IsInRanges s
  pub faultless : fault_of s ≡ None

-- what the faults' absence says of each part
pub record IsOrderly (s : Parts) : Type 0 where
  pub ranges : IsInRanges s
  pub within : (what : Counted) → All (λ n. n ≤ limit_of what) (counts_of s what)
  pub usable : All (λ t. IsSortedApart t.usable) s.telescopes
  pub skies : All (λ y. IsSortedApart y.spans) s.skies
  pub skies_rise : SkiesRise s.skies
  pub windows : All (λ x. All (λ w. w.from.0 < w.to.0) x.request.windows) (listed s)
  pub groups_rise : AllPairs (λ x y. x.group.0 < y.group.0) s.groups
  pub requests_rise : AllPairs (λ x y. x.request.request.0 < y.request.request.0) (listed s)
  pub shapes : All (λ x. (1 ≤ length x.requests) × (length x.requests ≤ most_requests x.op)) s.groups
  pub telescopes : All (λ x. All (λ t. t.0 < length s.telescopes) x.request.telescopes) (listed s)
  pub telescopes_rise : All (λ x. AllPairs (λ t u. t.0 < u.0) x.request.telescopes) (listed s)
  pub fades : All (λ x. x.request.fade ≤ most_fade) (listed s)
  pub quotas : All (λ x. ForSome x.quota (λ q. q < length s.quotas)) s.groups
  pub quota_ranges : All (λ q. q ≤ most_quota) s.quotas
