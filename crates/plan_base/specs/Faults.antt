-- Parts of the faults, as the tests of single lists find them.
use Rattle.std.specs.Prelude.{ℕ, Bool, nat_le, nat_lt, not, List, [], ◌∷◌, length, map, drop, Option, find, sum_by}
use Rattle.std.specs.List.{flat_map, list_any, zip}
use Rattle.std.specs.Option.{option_map}
use Rattle.plan_base.specs.declared.parts.Parts.{Parts}
use Rattle.plan_base.specs.declared.parts.GroupPart.{GroupPart}
use Rattle.plan_base.specs.declared.parts.RequestPart.{RequestPart}
use Rattle.plan_base.specs.declared.span.Span.{Span}
use Rattle.plan_base.specs.declared.number.TelescopeNo.{TelescopeNo}
use Rattle.plan_base.specs.declared.fault.Counted.{Counted}
use Rattle.plan_base.specs.declared.fault.Counted.TheVariants.{Telescopes, Usable, Skies, Spans, Groups, Requests, Windows, Targets, Fits, Quotas}
use Rattle.plan_base.specs.declared.fault.SnapshotFault.{SnapshotFault}
use Rattle.plan_base.specs.declared.fault.SnapshotFault.TheVariants.{OverLimit}
use Rattle.plan_base.specs.Requests.{listed}
use Rattle.plan_base.specs.Snapshot.{
  limit_of,
  fits_after,
  with_last,
  first_some,
  span_fault,
  apart_fault,
  group_fault,
  request_fault,
  shape_fault,
  telescope_fault,
  fade_fault,
  quota_fault,
  quota_range_fault,
}

-- the requests of all groups, one after another
abbrev pub all_requests : List GroupPart → List RequestPart
all_requests groups = flat_map (λ x. x.requests) groups

-- a span of the list has no second
abbrev pub has_empty : List Span → Bool
has_empty spans = list_any (λ w. nat_le w.to.0 w.from.0) spans

-- the fault of the first element whose count is above the limit
abbrev pub first_over : {X : Type 0} → Counted → (X → ℕ) → List X → Option SnapshotFault
first_over what count xs = option_map (λ x. OverLimit what (count x)) (find (λ x. nat_lt (limit_of what) (count x)) xs)

-- the fault of the counts of telescopes, of skies, and of their spans
abbrev pub site_limit_fault : Parts → Option SnapshotFault
site_limit_fault s =
    first_some (first_over Telescopes (λ n. n) (length s.telescopes ∷ []) ∷ first_over Usable (λ t. length t.usable) s.telescopes
    ∷ first_over Skies (λ n. n) (length s.skies ∷ []) ∷ first_over Spans (λ n. n) (sum_by (λ y. length y.spans) s.skies ∷ []) ∷ [])

-- the fault of the counts of groups, of requests, of what a request lists, and of quotas
abbrev pub request_limit_fault : Parts → Option SnapshotFault
request_limit_fault s =
    first_some (first_over Groups (λ n. n) (length s.groups ∷ []) ∷ first_over Requests (λ n. n) (length (listed s) ∷ [])
    ∷ first_over Windows (λ q. length q.windows) (all_requests s.groups) ∷ first_over Targets (λ q. length q.targets) (all_requests s.groups)
    ∷ first_over Fits (λ q. length q.telescopes) (all_requests s.groups) ∷ first_over Quotas (λ n. n) (length s.quotas ∷ []) ∷ [])

-- the first element whose number doesn't rise over that of the one before it
abbrev pub first_fall : {X : Type 0} → (X → ℕ) → List X → Option X
first_fall number xs = option_map (λ p. p.1) (find (λ p. nat_le (number p.1) (number p.0)) (zip xs (drop 1 xs)))

-- the first telescope of a list that isn't one of n or doesn't rise
abbrev pub first_unfit : ℕ → List TelescopeNo → Option TelescopeNo
first_unfit n ts = option_map (λ p. p.1) (find (λ p. not (fits_after n p)) (with_last ts))

-- that of the first request of the group that has one
abbrev pub unfit_in : ℕ → GroupPart → Option TelescopeNo
unfit_in n x = first_some (map (λ q. first_unfit n q.telescopes) x.requests)

-- the first fault of parts within the limits
abbrev pub fault_within_limits : Parts → Option SnapshotFault
fault_within_limits s =
    first_some (span_fault s ∷ apart_fault s ∷ group_fault s ∷ request_fault s ∷ shape_fault s ∷ telescope_fault s ∷ fade_fault s ∷ quota_fault s
    ∷ quota_range_fault s ∷ [])
