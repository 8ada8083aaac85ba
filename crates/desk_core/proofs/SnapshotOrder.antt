-- The snapshot of a kept desk is in order, so it has no fault.
use Rattle.std.proofs.Common.{ℕ, ◌<◌, ◌≤◌, List, [], ◌∷◌, ◌++◌, length, get_or, map, arith}
use Rattle.std.specs.Prelude.{All, AllPairs}
use Rattle.std.specs.List.{flat_map, enumerate_from}
use Rattle.std.proofs.lemmas.List.{length-map}
use Rattle.std.proofs.lemmas.List.Elements.{All-nil, All-cons, All-map, All-weaker, All-append}
use Rattle.plan_base.specs.declared.fault.Counted.{Counted}
use Rattle.plan_base.specs.declared.fault.Counted.TheVariants.{Telescopes, Usable, Skies, Spans, Groups, Requests, Windows, Targets, Fits, Quotas}
use Rattle.plan_base.specs.declared.parts.RequestPart.{RequestPart}
use Rattle.plan_base.specs.declared.span.Span.{Span}
use Rattle.plan_base.specs.Requests.{listed}
use Rattle.plan_base.specs.Snapshot.{IsMoment, IsInRanges, IsSnapshot, IsOrderly, all_spans, counts_of, limit_of}
use Rattle.interval_set.specs.Spans.{has}
use Rattle.site_model.specs.Calendar.{sky_of}
use Rattle.request_model.specs.Ranges.{IsWindow}
use Rattle.desk_core.specs.Desk.{DeskSeen}
use Rattle.desk_core.specs.Kept.{IsDesk}
use Rattle.desk_core.specs.DeskSnapshot.{site_of, is_usable, telescope_part, telescope_parts, listed_groups, group_part, skies_of, snapshot_of, IsSmall}
use Rattle.plan_base.proofs.Lists.{all_flat}
use Rattle.plan_base.proofs.Faultless.{faultless}
use Rattle.desk_core.proofs.SnapshotSpans.{horizon, moments_in}
use Rattle.desk_core.proofs.SnapshotGroups.{each_listed, few_requests, few_groups, shapes, groups_rise, requests_rise}
use Rattle.desk_core.proofs.SnapshotTelescopes.{usable_sorted, usable_few, telescope_count, fits_below, fits_rise, fits_few}
use Rattle.desk_core.proofs.SnapshotSkies.{key_of, all_skies, skies_stand, skies_sorted, skies_few, spans_few, quotas_few, quotas_known, quota_ranges}

abbrev AreMoments : List Span → Type 0
AreMoments spans = All (λ w. IsMoment w.from.0 × IsMoment w.to.0) spans

moments_usable : (d : DeskSeen) → IsDesk d → All (λ t. AreMoments t.usable) (telescope_parts d)
moments_usable d h =
    All-map (λ t. AreMoments t.usable) (telescope_part d) (enumerate_from 0 d.network.registry.telescopes)
    (λ k e lt. let p = get_or (enumerate_from 0 d.network.registry.telescopes) k e in moments_in d (is_usable d (site_of d p.1) p.0) h)

moments_sky : (d : DeskSeen) → IsDesk d → All (λ y. AreMoments y.spans) (skies_of d)
moments_sky d h k e lt =
    let y = get_or (skies_of d) k e in
    rw (all_skies d k e lt).spans_are (moments_in d (has (sky_of d.network.calendar.skies (key_of y))) h)

window_moments : (w : Span) → IsWindow w → IsMoment w.from.0 × IsMoment w.to.0
window_moments w h = let order = h.order in let last = h.last in (omega arith, omega arith)

moments_window : (version : ℕ) (d : DeskSeen) → IsDesk d → All (λ x. AreMoments x.request.windows) (listed (snapshot_of version d))
moments_window version d h =
    each_listed version d h (λ q. AreMoments q.windows)
    (λ m is. All-weaker IsWindow (λ w. IsMoment w.from.0 × IsMoment w.to.0) window_moments m.1.windows is.wanted.times.each)

all_moments : (version : ℕ) (d : DeskSeen) → IsDesk d → AreMoments (all_spans (snapshot_of version d))
all_moments version d h =
    let s = snapshot_of version d in
    let usable : List Span = flat_map (λ t. t.usable) s.telescopes in
    let skies : List Span = flat_map (λ y. y.spans) s.skies in
    All-append (λ w. IsMoment w.from.0 × IsMoment w.to.0) (usable ++ skies) (flat_map (λ x. x.request.windows) (listed s))
    (All-append (λ w. IsMoment w.from.0 × IsMoment w.to.0) usable skies
    (all_flat (λ w. IsMoment w.from.0 × IsMoment w.to.0) (λ t. t.usable) s.telescopes (moments_usable d h))
    (all_flat (λ w. IsMoment w.from.0 × IsMoment w.to.0) (λ y. y.spans) s.skies (moments_sky d h)))
    (all_flat (λ w. IsMoment w.from.0 × IsMoment w.to.0) (λ x. x.request.windows) (listed s) (moments_window version d h))

pub in_ranges : (version : ℕ) (d : DeskSeen) → version ≤ 524288 → IsDesk d → IsInRanges (snapshot_of version d)
in_ranges version d few h = record {
  version = few;
  len_least = h.opening.slice.low;
  len_most = h.opening.slice.high;
  first = (horizon d h).first;
  slices_least = h.opening.horizon.low;
  slices_most = h.opening.horizon.high;
  seconds = each_listed version d h (λ q. (1 ≤ q.seconds) × (q.seconds ≤ 86400)) (λ m is. (is.asked.low, is.asked.high));
  values = each_listed version d h (λ q. (1 ≤ q.value) × (q.value ≤ 288000000)) (λ m is. (is.wanted.worth.low, is.wanted.worth.high));
  moments = all_moments version d h;
}

one_count : (n most : ℕ) → n ≤ most → All (λ k. k ≤ most) (n ∷ [])
one_count n most le = All-cons (λ k. k ≤ most) n [] le (All-nil (λ k. k ≤ most))

each_count : (version : ℕ) (d : DeskSeen) → IsDesk d → (count : RequestPart → ℕ) (most : ℕ) → All (λ x. count x.request ≤ most) (listed (snapshot_of version d))
    → All (λ n. n ≤ most) (map (λ x. count x.request) (listed (snapshot_of version d)))
each_count version d h count most each = All-map (λ n. n ≤ most) (λ x. count x.request) (listed (snapshot_of version d)) each

within : (version : ℕ) (d : DeskSeen) → IsDesk d → IsSmall d.network → (what : Counted) → All (λ n. n ≤ limit_of what) (counts_of (snapshot_of version d) what)
within version d h small Telescopes = one_count (length (telescope_parts d)) 32 (omega (arith, telescope_count d, small.few.telescopes))
within version d h small Usable = usable_few d h small
within version d h small Skies = one_count (length (skies_of d)) 32768 (skies_few d h small.few)
within version d h small Spans = one_count _ 262144 (spans_few d h small.few)
within version d h small Groups =
    one_count (length (map (group_part d) (listed_groups d))) 1024 (omega (arith, length-map (listed_groups d) (group_part d), few_groups d h))
within version d h small Requests = one_count (length (listed (snapshot_of version d))) 1024 (few_requests version d h)
within version d h small Windows =
    each_count version d h (λ q. length q.windows) 32 (each_listed version d h (λ q. length q.windows ≤ 32) (λ m is. is.wanted.times.count.high))
within version d h small Targets =
    each_count version d h (λ q. length q.targets) 16 (each_listed version d h (λ q. length q.targets ≤ 16) (λ m is. is.wanted.few))
within version d h small Fits =
    each_count version d h (λ q. length q.telescopes) 32 (each_listed version d h (λ q. length q.telescopes ≤ 32) (λ m is. fits_few d m.1 small.few))
within version d h small Quotas = one_count _ 1024 (omega (arith, quotas_few d d.opening.quota, few_groups d h))

-- the snapshot of a kept desk is in order
pub in_order : (version : ℕ) (d : DeskSeen) → version ≤ 524288 → IsDesk d → IsSmall d.network → IsOrderly (snapshot_of version d)
in_order version d few h small = record {
  ranges = in_ranges version d few h;
  within = within version d h small;
  usable = usable_sorted d;
  skies = skies_sorted d;
  skies_rise = skies_stand d;
  windows = each_listed version d h (λ q. All (λ w. w.from.0 < w.to.0) q.windows)
      (λ m is. All-weaker IsWindow (λ w. w.from.0 < w.to.0) (λ w i. i.order) m.1.windows is.wanted.times.each);
  groups_rise = groups_rise d h;
  requests_rise = requests_rise version d h;
  shapes = shapes d h;
  telescopes = each_listed version d h (λ q. All (λ t. t.0 < length (telescope_parts d)) q.telescopes) (λ m is. fits_below d m.1);
  telescopes_rise = each_listed version d h (λ q. AllPairs (λ t u. t.0 < u.0) q.telescopes) (λ m is. fits_rise d m.1);
  fades = each_listed version d h (λ q. q.fade ≤ 1000) (λ m is. is.wanted.lost);
  quotas = quotas_known d;
  quota_ranges = quota_ranges d h;
}

-- .. so it is a snapshot
pub is_snapshot : (version : ℕ) (d : DeskSeen) → version ≤ 524288 → IsDesk d → IsSmall d.network → IsSnapshot (snapshot_of version d)
is_snapshot version d few h small = faultless (snapshot_of version d) (in_order version d few h small)
