-- The snapshot of a kept desk has a document: its numbers and counts are in the ranges in which they are read.
use Rattle.std.proofs.Common.{◌≡◌, ℕ, ◌+◌, ◌^◌, ◌<◌, ◌≤◌, refl, sym, ◌∙◌, ap, List, [], ◌∷◌, length, get_or, map, arith, Option, Some, None}
use Rattle.std.specs.Prelude.{All}
use Rattle.std.specs.List.{enumerate_from, flat_map, zip}
use Rattle.std.specs.Option.{ForSome, IfSome, unwrap_or}
use Rattle.std.proofs.lemmas.List.{get_or-map, length-map}
use Rattle.std.proofs.lemmas.List.Elements.{All-nil, All-cons, All-filter, All-map, All-weaker}
use Rattle.std.proofs.lemmas.List.Quantifiers.{position-Some}
use Rattle.plan_base.specs.declared.fault.Counted.TheVariants.{Usable}
use Rattle.plan_base.specs.declared.number.TargetNo.{TargetNo}
use Rattle.plan_base.specs.declared.number.TelescopeNo.{TelescopeNo}
use Rattle.plan_base.specs.declared.span.Span.{Span}
use Rattle.plan_base.specs.Limits.{most_moment, most_quota, most_version}
use Rattle.plan_base.specs.Snapshot.{IsOrderly, most_requests}
use Rattle.interval_set.specs.Spans.{has}
use Rattle.site_model.specs.Calendar.{sky_of}
use Rattle.site_model.specs.Names.{is_name, number_of}
use Rattle.site_model.specs.Registry.{TelescopeSeen}
use Rattle.site_model.proofs.Skies.{sky_few}
use Rattle.plan_doc.specs.Ranges.{AreUpTo, HasMoments, IsTelescope, IsSky, IsRequest, IsGroup, AreParts}
use Rattle.plan_doc.specs.Limits.{most_items}
use Rattle.request_model.specs.Ranges.{IsWindow}
use Rattle.desk_runs.specs.declared.group.Group.{Group}
use Rattle.desk_runs.specs.declared.group.Request.{Request}
use Rattle.desk_runs.specs.Clock.{is_waiting}
use Rattle.desk_runs.specs.Numbers.{requests_of}
use Rattle.desk_runs.specs.Sound.{IsCounted}
use Rattle.desk_core.specs.declared.desk.Submitted.{Submitted}
use Rattle.desk_core.specs.declared.desk.Wanted.{Wanted}
use Rattle.desk_core.specs.Desk.{DeskSeen}
use Rattle.desk_core.specs.Kept.{IsDesk}
use Rattle.desk_core.specs.DeskSnapshot.{site_of, is_usable, telescope_part, telescope_parts, telescopes_for, both_of, request_part, waiting_of}
use Rattle.desk_core.specs.DeskSnapshot.{is_listed, listed_groups, group_part}
use Rattle.desk_core.specs.DeskSnapshot.{skies_of, quotas_of, snapshot_of, HasFew}
use Rattle.desk_core.proofs.SnapshotLists.{all_left, all_right, all_firsts, all_seconds}
use Rattle.desk_core.proofs.SnapshotSpans.{cut_short, moments_in}
use Rattle.desk_core.proofs.SnapshotGroups.{IsMember, target_count, all_from_map, listed_along, members, few_groups, shapes}
use Rattle.desk_core.proofs.SnapshotTelescopes.{telescope_count, fits_below, fits_few}
use Rattle.desk_core.proofs.SnapshotSkies.{key_of, all_skies, skies_known, skies_few, quotas_few, quotas_known, quota_ranges}
use Rattle.desk_core.proofs.SnapshotOrder.{in_ranges}
use Rattle.desk_core.proofs.SnapshotListing.{listed_at}
use Rattle.desk_core.proofs.Drafts.{few_of}
use Rattle.desk_core.proofs.Submissions.{few_in}

-- ---- spans

have_moments : (spans : List Span) → All (λ w. (w.from.0 ≤ most_moment) × (w.to.0 ≤ most_moment)) spans → All HasMoments spans
have_moments spans h =
    All-weaker (λ w. (w.from.0 ≤ most_moment) × (w.to.0 ≤ most_moment)) HasMoments (λ w is. record { first = is.0; last = is.1 }) spans h

window_has : (w : Span) → IsWindow w → HasMoments w
window_has w h = let order = h.order in let last = h.last in record { first = omega arith; last = omega arith }

-- ---- telescopes

site_low : (d : DeskSeen) → HasFew d.network → (t : TelescopeSeen) → site_of d t ≤ 65535
site_low d few t = by (number_of d.network.registry.sites t.code.site) refl
  where
    by : (o : Option ℕ) → number_of d.network.registry.sites t.code.site ≡ o → unwrap_or o 0 ≤ 65535
    by None is = omega arith
    by (Some s) is = omega (arith, (position-Some (is_name t.code.site) d.network.registry.sites s t.code.site is).0, few.sites)

telescopes_in : (version : ℕ) (d : DeskSeen) → IsDesk d → HasFew d.network → IsOrderly (snapshot_of version d)
    → AreUpTo most_items IsTelescope (telescope_parts d)
telescopes_in version d h few o =
    let all = enumerate_from 0 d.network.registry.telescopes in
    let counts = all_from_map (λ n. n ≤ 2048) (λ t. length t.usable) (telescope_parts d) (o.within Usable) in
    let usable = all_from_map (λ t. length t.usable ≤ 2048) (telescope_part d) all counts in
    record {
      count = omega (arith, telescope_count d, few.telescopes);
      each = All-map IsTelescope (telescope_part d) all (λ k e lt.
          let p = get_or all k e in
          record {
            site = site_low d few p.1;
            usable = record { count = omega (arith, usable k e lt); each = have_moments _ (moments_in d (is_usable d (site_of d p.1) p.0) h) };
          });
    }

-- ---- skies

skies_in : (d : DeskSeen) → IsDesk d → HasFew d.network → AreUpTo most_items IsSky (skies_of d)
skies_in d h few = record {
  count = omega (arith, skies_few d h few);
  each = λ k e lt.
      let y = get_or (skies_of d) k e in
      let known = skies_known d h k e lt in
      let is = all_skies d k e lt in
      let spans = sky_of d.network.calendar.skies (key_of y) in
      let limits = few.visible (omega (arith, known.0)) (omega (arith, known.1)) in
      record {
        target = omega (arith, known.0, few.targets);
        site = omega (arith, known.1, few.sites);
        spans = record {
          count = omega (arith, ap length is.spans_are, cut_short d spans, sky_few d.network.calendar.skies (key_of y) 512 limits.skies);
          each = rw is.spans_are (have_moments _ (moments_in d (has spans) h));
        };
      };
}

-- ---- groups

-- what is counted is at most as high as its count
counted_low : {X : Type 0} (number : X → ℕ) (xs : List X) (most : ℕ) → IsCounted (map number xs) → length xs ≤ most → All (λ x. number x ≤ most) xs
counted_low number xs most h few k e lt =
    let count : length (map number xs) ≡ length xs = length-map xs number in
    let one : number (get_or xs k e) ≡ k + 1 = sym (get_or-map number xs k e 0 lt) ∙ h k (omega arith) in
    omega arith

-- what is so of all items is so of the items of each list
each_of_flat : {X Y : Type 0} (P : Y → Type 0) (f : X → List Y) (xs : List X) → All P (flat_map f xs) → All (λ x. All P (f x)) xs
each_of_flat P f [] h = All-nil (λ x. All P (f x))
each_of_flat P f (x ∷ xs) h =
    All-cons (λ y. All P (f y)) x xs (all_left P (f x) (flat_map f xs) h) (each_of_flat P f xs (all_right P (f x) (flat_map f xs) h))

-- the number of a request has 32 bits
abbrev IsLow : Request → Type 0
IsLow q = q.number.0 ≤ 4294967295

listed_low : (d : DeskSeen) → IsDesk d → length (requests_of d.progress.groups) ≤ 4294967295 → All (λ p. All IsLow p.1.requests) (listed_groups d)
listed_low d h few =
    All-filter (is_listed d) (λ p. All IsLow p.1.requests) (both_of d)
    (all_seconds (λ (g : Group). All IsLow g.requests) d.groups d.progress.groups
    (each_of_flat IsLow (λ (g : Group). g.requests) d.progress.groups
    (counted_low (λ (q : Request). q.number.0) (requests_of d.progress.groups) 4294967295 h.sound.numbered.requests few)))

request_in : (d : DeskSeen) → HasFew d.network → (m : Request × Wanted) → IsMember (target_count d) m → IsLow m.0 → IsRequest (request_part d m)
request_in d few m is low = record {
  request = low;
  seconds = is.asked;
  value = is.wanted.worth;
  windows = record { count = omega (arith, is.wanted.times.count.high); each = All-weaker IsWindow HasMoments window_has m.1.windows is.wanted.times.each };
  telescopes = record {
    count = omega (arith, fits_few d m.1 few);
    each = All-weaker (λ (t : TelescopeNo). t.0 < length (telescope_parts d)) (λ (t : TelescopeNo). t.0 ≤ 65535)
        (λ t lt. omega (arith, telescope_count d, few.telescopes)) (telescopes_for d m.1) (fits_below d m.1);
  };
  targets = record {
    count = omega (arith, is.wanted.few);
    each = All-weaker (λ (t : TargetNo). t.0 < target_count d) (λ (t : TargetNo). t.0 ≤ 65535) (λ t lt. omega (arith, few.targets)) m.1.targets is.wanted.known;
  };
  fade = is.wanted.lost;
}

waiting_low : (d : DeskSeen) (p : Submitted × Group) → All IsLow p.1.requests → All (λ m. IsLow m.0) (waiting_of d p)
waiting_low d p low =
    All-filter (λ m. is_waiting d.progress.running m.0) (λ m. IsLow m.0) (zip p.1.requests p.0.requests) (all_firsts IsLow p.1.requests p.0.requests low)

quota_low : (quota : Option ℕ) (n : ℕ) → n ≤ 65536 → ForSome quota (λ q. q < n) → IfSome quota (λ q. q ≤ 65535)
quota_low None n few h = tt
quota_low (Some q) n few h = let below : q < n = h q refl in omega arith

groups_in : (d : DeskSeen) → IsDesk d → HasFew d.network → length d.progress.groups ≤ most_version
    → AreUpTo most_items IsGroup (map (group_part d) (listed_groups d))
groups_in d h few groups =
    let requests : length (requests_of d.progress.groups) ≤ 4294967295 = omega (arith, few_in (target_count d) d.groups d.progress.groups h.along) in
    let shape = all_from_map (λ x. (1 ≤ length x.requests) × (length x.requests ≤ most_requests x.op)) (group_part d) (listed_groups d) (shapes d h) in
    let quota = all_from_map (λ x. ForSome x.quota (λ q. q < length (quotas_of d d.opening.quota))) (group_part d) (listed_groups d) (quotas_known d) in
    record {
      count = omega (arith, length-map (listed_groups d) (group_part d), few_groups d h);
      each = All-map IsGroup (group_part d) (listed_groups d) (λ k e lt.
          let p = get_or (listed_groups d) k e in
          let low : All (λ m. IsLow m.0) (waiting_of d p) = waiting_low d p (listed_low d h requests k e lt) in
          record {
            group = omega (arith, (listed_at d h k e lt).known.1);
            requests = record {
              count = omega (
                arith,
                few_of p.1.op (length (waiting_of d p))
                    (omega (arith, (shape k e lt).1, length-map (waiting_of d p) (request_part d))),
                length-map (waiting_of d p) (request_part d),
              );
              each = All-map IsRequest (request_part d) (waiting_of d p)
                  (λ i f l. request_in d few (get_or (waiting_of d p) i f) (members d p (listed_along d h k e lt) i f l) (low i f l));
            };
            quota = quota_low (group_part d p).quota (length (quotas_of d d.opening.quota))
                (omega (arith, quotas_few d d.opening.quota, few_groups d h)) (quota k e lt);
          });
    }

-- ---- all of it

-- the snapshot of a kept desk has a document, where it is in order and each group came with a change
pub parts_in : (version : ℕ) (d : DeskSeen) → version ≤ most_version → IsDesk d → HasFew d.network → length d.progress.groups ≤ most_version
    → IsOrderly (snapshot_of version d) → AreParts (snapshot_of version d)
parts_in version d low h few groups o = record {
  version = low;
  len = h.opening.slice;
  first = (in_ranges version d low h).first;
  slices = h.opening.horizon;
  telescopes = telescopes_in version d h few o;
  skies = skies_in d h few;
  groups = groups_in d h few groups;
  quotas = record {
    count = omega (arith, quotas_few d d.opening.quota, few_groups d h);
    each = All-weaker (λ q. q ≤ most_quota) (λ q. q ≤ 10 ^ 12) (λ q le. omega arith) (quotas_of d d.opening.quota) (quota_ranges d h);
  };
}
