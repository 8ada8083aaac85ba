-- The skies and the quotas of the snapshot.
use Rattle.std.proofs.Common.{◌≡◌, ℕ, ◌+◌, ◌*◌, ◌<◌, ◌≤◌, Bool, true, false, cond, List, [], ◌∷◌, ◌++◌, length, length-append, get_or, map, refl, sym, ap}
use Rattle.std.proofs.Common.{◌∙◌, subst, inl, inr, arith, Option, Some, None, nat_lt}
use Rattle.std.specs.Prelude.{fold, sum_by, All, AllPairs}
use Rattle.std.specs.List.{flat_map, range_with_len}
use Rattle.std.specs.Option.{ForSome, IfSome}
use Rattle.std.proofs.lemmas.Bool.Decides.{nat_tests}
use Rattle.std.proofs.lemmas.List.{length-map}
use Rattle.std.proofs.lemmas.List.Elements.{All-nil, All-head, All-weaker, All-map}
use Rattle.std.proofs.lemmas.List.FromFn.{length-range_with_len}
use Rattle.std.proofs.lemmas.List.Quantifiers.{position-Some}
use Rattle.std.proofs.lemmas.List.Sums.{sum_by-le}
use Rattle.plan_base.specs.declared.parts.Sky.{Sky}
use Rattle.plan_base.specs.Limits.{most_quota}
use Rattle.plan_json.specs.Ranges.{IsBetween}
use Rattle.plan_base.specs.Skies.{IsSkyBelow}
use Rattle.plan_base.specs.Snapshot.{IsSortedApart}
use Rattle.plan_base.proofs.Lists.{AllPairs-map, length_below}
use Rattle.plan_base.proofs.Orders.{pairs_head, pairs_tail}
use Rattle.interval_set.specs.Spans.{has}
use Rattle.site_model.specs.declared.calendar.SkyKey.{SkyKey}
use Rattle.site_model.specs.Calendar.{sky_of, is_sky, pieces_of, IsWithinLimits}
use Rattle.site_model.specs.Names.{is_name, is_named, numbered}
use Rattle.site_model.proofs.Skies.{skies_are_counted}
use Rattle.desk_runs.specs.declared.group.Group.{Group}
use Rattle.desk_core.specs.declared.desk.Submitted.{Submitted}
use Rattle.desk_core.specs.Desk.{DeskSeen}
use Rattle.desk_core.specs.Kept.{IsDesk}
use Rattle.desk_core.specs.DeskSnapshot.{in_horizon, waiting_of, listed_groups, proposals_of, quota_place, quotas_of, group_part, targets_listed, sky_part}
use Rattle.desk_core.specs.DeskSnapshot.{skies_at, skies_of, HasFew}
use Rattle.plan_base.proofs.Lists.{all_flat}
use Rattle.desk_core.proofs.SnapshotLists.{Rise, rise_all, all_inserted, range_below, range_rises, pairs_append, length_flat, length_some, all_some}
use Rattle.desk_core.proofs.SnapshotLists.{pairs_some, less_each}
use Rattle.desk_core.proofs.SnapshotSpans.{seconds_in, cut_short}
use Rattle.desk_core.proofs.SnapshotGroups.{target_count, members, listed_along, sum_map}

-- ---- the targets

pub targets_known : (d : DeskSeen) → IsDesk d → All (λ n. n < target_count d) (targets_listed d)
targets_known d h =
    all_inserted (λ n. n < target_count d) (map (λ t. t.0) (flat_map (λ p. flat_map (λ m. m.1.targets) (waiting_of d p)) (listed_groups d))) []
    (All-nil (λ n. n < target_count d))
    (All-map (λ n. n < target_count d) (λ t. t.0) (flat_map (λ p. flat_map (λ m. m.1.targets) (waiting_of d p)) (listed_groups d))
    (all_flat (λ t. t.0 < target_count d) (λ p. flat_map (λ m. m.1.targets) (waiting_of d p)) (listed_groups d) (λ k e lt.
    let p = get_or (listed_groups d) k e in
    all_flat (λ t. t.0 < target_count d) (λ m. m.1.targets) (waiting_of d p) (λ i f l. (members d p (listed_along d h k e lt) i f l).wanted.known))))

pub targets_rise : (d : DeskSeen) → Rise (targets_listed d)
targets_rise d = rise_all (map (λ t. t.0) (flat_map (λ p. flat_map (λ m. m.1.targets) (waiting_of d p)) (listed_groups d))) []
    (λ i j e l m. absurd (omega arith))

pub targets_few : (d : DeskSeen) → IsDesk d → HasFew d.network → length (targets_listed d) ≤ 2048
targets_few d h few = omega (
  arith,
  length_below (targets_listed d) (target_count d) (λ i j e l m same. omega (arith, same, targets_rise d i j e l m))
      (targets_known d h),
  few.targets,
)

-- ---- the skies

abbrev pub key_of : Sky → SkyKey
key_of y = record { target = y.target; site = y.site }

-- the sky of a target at a site, which has its seconds in the horizon
pub record IsSkyIn (d : DeskSeen) (target site : ℕ) (y : Sky) : Type 0 where
  pub target_is : y.target.0 ≡ target
  pub site_is : y.site.0 ≡ site
  pub spans_are : y.spans ≡ in_horizon d (has (sky_of d.network.calendar.skies (key_of y)))

sky_one : (d : DeskSeen) (target site : ℕ) (made y : Sky) → IsSkyIn d target site made → (b : Bool) → cond b (Some made) None ≡ Some y → IsSkyIn d target site y
sky_one d target site made y is true e = let same : made ≡ y = cc in subst (IsSkyIn d target site) same is
sky_one d target site made y is false e = cc

sky_in : (d : DeskSeen) (target site : ℕ) (y : Sky) → sky_part d target site ≡ Some y → IsSkyIn d target site y
sky_in d target site y e =
    let spans = in_horizon d (has (sky_of d.network.calendar.skies record { target = record { 0 = target }; site = record { 0 = site } })) in
    let made : Sky = record { target = record { 0 = target }; site = record { 0 = site }; spans = spans } in
    sky_one d target site made y record { target_is = refl; site_is = refl; spans_are = refl } (nat_lt 0 (length spans)) e

-- each sky is the one of its target at its site
pub all_skies : (d : DeskSeen) → All (λ y. IsSkyIn d y.target.0 y.site.0 y) (skies_of d)
all_skies d =
    all_flat (λ y. IsSkyIn d y.target.0 y.site.0 y) (skies_at d) (targets_listed d) (λ k e lt.
    all_some (sky_part d (get_or (targets_listed d) k e)) (λ site. Unit {0}) (λ y. IsSkyIn d y.target.0 y.site.0 y)
    (λ site y _ made. record { target_is = refl; site_is = refl; spans_are = (sky_in d (get_or (targets_listed d) k e) site y made).spans_are })
    (range_with_len 0 (length d.network.registry.sites)) (λ i f l. tt))

rise_at : (d : DeskSeen) (target : ℕ) → AllPairs IsSkyBelow (skies_at d target)
rise_at d target =
    pairs_some (sky_part d target) (λ a b. a < b) IsSkyBelow
    (λ a b y z lt e f. let one = sky_in d target a y e in let other = sky_in d target b z f in
    inr (one.target_is ∙ sym other.target_is, omega (arith, one.site_is, other.site_is)))
    (range_with_len 0 (length d.network.registry.sites)) (range_rises (length d.network.registry.sites))

of_target : (d : DeskSeen) (target : ℕ) → All (λ y. y.target.0 ≡ target) (skies_at d target)
of_target d target =
    all_some (sky_part d target) (λ site. Unit {0}) (λ y. y.target.0 ≡ target) (λ site y _ made. (sky_in d target site y made).target_is)
    (range_with_len 0 (length d.network.registry.sites)) (λ i f l. tt)

rise_through : (d : DeskSeen) (targets : List ℕ) → Rise targets → AllPairs IsSkyBelow (flat_map (skies_at d) targets)
rise_through d [] rise = λ i j e l m. absurd (omega arith)
rise_through d (t ∷ ts) rise =
    let later = flat_map (skies_at d) ts in
    let after : All (λ z. t < z.target.0) later
    = all_flat (λ z. t < z.target.0) (skies_at d) ts (λ k e lt.
    let above : t < get_or ts k e = pairs_head (λ a b. a < b) t ts rise k e lt in
    All-weaker (λ z. z.target.0 ≡ get_or ts k e) (λ z. t < z.target.0) (λ z is. omega (arith, is)) (skies_at d (get_or ts k e)) (of_target d (get_or ts k e)))
    in
    pairs_append IsSkyBelow (skies_at d t) later (rise_at d t) (rise_through d ts (pairs_tail (λ a b. a < b) t ts rise))
    (All-weaker (λ y. y.target.0 ≡ t) (λ y. All (IsSkyBelow y) later)
    (λ y is. All-weaker (λ z. t < z.target.0) (IsSkyBelow y) (λ z lt. inl (omega (arith, is))) later after) (skies_at d t) (of_target d t))

pub skies_stand : (d : DeskSeen) → AllPairs IsSkyBelow (skies_of d)
skies_stand d = rise_through d (targets_listed d) (targets_rise d)

pub skies_sorted : (d : DeskSeen) → All (λ y. IsSortedApart y.spans) (skies_of d)
skies_sorted d =
    All-weaker (λ y. IsSkyIn d y.target.0 y.site.0 y) (λ y. IsSortedApart y.spans)
    (λ y is. rw is.spans_are (seconds_in d (has (sky_of d.network.calendar.skies (key_of y)))).sorted) (skies_of d) (all_skies d)

-- there are at most 32,768 skies ..
pub skies_few : (d : DeskSeen) → IsDesk d → HasFew d.network → length (skies_of d) ≤ 32768
skies_few d h few =
    let each : sum_by (λ t. length (skies_at d t)) (targets_listed d) ≤ length (targets_listed d) * 16
    = sum_by-le (λ t. length (skies_at d t)) 16 (targets_listed d) (λ k e lt. omega (
      arith,
      length_some (sky_part d (get_or (targets_listed d) k e)) (range_with_len 0 (length d.network.registry.sites)),
      length-range_with_len 0 (length d.network.registry.sites),
      few.sites,
    ))
    in omega (arith, length_flat (skies_at d) (targets_listed d), each, targets_few d h few)

spans_counted : (d : DeskSeen) → IsWithinLimits d.network.calendar → sum_by (λ y. length y.spans) (skies_of d) ≤ 262144
spans_counted d within =
    let skies = d.network.calendar.skies in
    let apart : AllPairs (λ a b. is_sky a b ≡ false) (map key_of (skies_of d))
    = AllPairs-map (λ a b. is_sky a b ≡ false) key_of (skies_of d) (λ i j e l m.
    elim (skies_stand d i j e l m) [ inl lt ↦ grind (arith, nat_tests) | inr both ↦ grind (arith, nat_tests, both.0, both.1) ])
    in
    let counted : sum_by (λ key. length (sky_of skies key)) (map key_of (skies_of d)) ≤ pieces_of skies =
    skies_are_counted skies (map key_of (skies_of d)) apart in
    let less : sum_by (λ y. length y.spans) (skies_of d) ≤ sum_by (λ y. length (sky_of skies (key_of y))) (skies_of d)
    = less_each (λ y. length y.spans) (λ y. length (sky_of skies (key_of y))) (skies_of d) (λ k e lt.
    omega (arith, ap length (all_skies d k e lt).spans_are, cut_short d (sky_of skies (key_of (get_or (skies_of d) k e)))))
    in omega (arith, sum_map (λ key. length (sky_of skies key)) key_of (skies_of d), counted, less, within.visibility)

-- a sky is of a target and a site that have numbers
pub skies_known : (d : DeskSeen) → IsDesk d → All (λ y. (y.target.0 < target_count d) × (y.site.0 < length d.network.registry.sites)) (skies_of d)
skies_known d h =
    all_flat (λ y. (y.target.0 < target_count d) × (y.site.0 < length d.network.registry.sites)) (skies_at d) (targets_listed d) (λ k e lt.
    all_some (sky_part d (get_or (targets_listed d) k e)) (λ site. site < length d.network.registry.sites)
    (λ y. (y.target.0 < target_count d) × (y.site.0 < length d.network.registry.sites))
    (λ site y below made.
    let is = sky_in d (get_or (targets_listed d) k e) site y made in
    (omega (arith, is.target_is, targets_known d h k e lt), omega (arith, is.site_is)))
    (range_with_len 0 (length d.network.registry.sites)) (range_below (length d.network.registry.sites)))

-- .. of at most 262,144 spans
pub spans_few : (d : DeskSeen) → IsDesk d → HasFew d.network → sum_by (λ y. length y.spans) (skies_of d) ≤ 262144
spans_few d h few = by_first (skies_of d) refl
  where
    by_first : (skies : List Sky) → skies ≡ skies_of d → sum_by (λ y. length y.spans) (skies_of d) ≤ 262144
    by_first [] none = rw (sym none) (omega arith)
    by_first (y ∷ skies) is =
        let known : (y.target.0 < target_count d) × (y.site.0 < length d.network.registry.sites)
        = All-head (λ z. (z.target.0 < target_count d) × (z.site.0 < length d.network.registry.sites)) y skies
        (subst (All (λ z. (z.target.0 < target_count d) × (z.site.0 < length d.network.registry.sites))) (sym is) (skies_known d h))
        in spans_counted d (few.visible (omega (arith, known.0)) (omega (arith, known.1)))

-- ---- the quotas

numbered_one : (names : List (List ℕ)) (name : List ℕ) (b : Bool) → length (cond b names (names ++ name ∷ [])) ≤ length names + 1
numbered_one names name true = omega arith
numbered_one names name false = omega (arith, length-append names (name ∷ []))

numbered_few : (names : List (List ℕ)) (name : List ℕ) → length (numbered names name) ≤ length names + 1
numbered_few names name = numbered_one names name (is_named names name)

proposals_among : (names : List (List ℕ)) (ps : List (Submitted × Group)) → length (fold (λ names p. numbered names p.0.document.proposal) names ps)
    ≤ length names + length ps
proposals_among names [] = omega arith
proposals_among names (p ∷ ps) = omega (arith, proposals_among (numbered names p.0.document.proposal) ps, numbered_few names p.0.document.proposal)

pub proposals_few : (d : DeskSeen) → length (proposals_of d) ≤ length (listed_groups d)
proposals_few d = omega (arith, proposals_among [] (listed_groups d))

pub quotas_few : (d : DeskSeen) (quota : Option ℕ) → length (quotas_of d quota) ≤ length (listed_groups d)
quotas_few d None = omega arith
quotas_few d (Some quota) = omega (arith, proposals_few d, length-map (proposals_of d) (λ (name : List ℕ). quota))

-- a group's quota is one of the list
place_known : (d : DeskSeen) (proposal : List ℕ) (quota : Option ℕ) → ForSome (quota_place d proposal quota) (λ q. q < length (quotas_of d quota))
place_known d proposal None = λ q e. absurd (cc)
place_known d proposal (Some quota) = λ q e.
    omega (arith, (position-Some (is_name proposal) (proposals_of d) q proposal e).0, length-map (proposals_of d) (λ (name : List ℕ). quota))

pub quotas_known : (d : DeskSeen) → All (λ x. ForSome x.quota (λ q. q < length (quotas_of d d.opening.quota))) (map (group_part d) (listed_groups d))
quotas_known d =
    All-map (λ x. ForSome x.quota (λ q. q < length (quotas_of d d.opening.quota))) (group_part d) (listed_groups d)
    (λ k e lt. place_known d (get_or (listed_groups d) k e).0.document.proposal d.opening.quota)

quotas_within : (d : DeskSeen) (quota : Option ℕ) → IfSome quota (λ q. q ≤ most_quota) → All (λ q. q ≤ most_quota) (quotas_of d quota)
quotas_within d None h = All-nil (λ q. q ≤ most_quota)
quotas_within d (Some quota) h = All-map (λ q. q ≤ most_quota) (λ name. quota) (proposals_of d) (λ k e lt. h)

quota_most : (d : DeskSeen) → IsDesk d → IfSome d.opening.quota (λ q. q ≤ most_quota)
quota_most d h = most_of d.opening.quota h.opening.quota
  where
    most_of : (quota : Option ℕ) → IfSome quota (IsBetween 1 100000000) → IfSome quota (λ q. q ≤ most_quota)
    most_of None i = tt
    most_of (Some q) i = i.high

pub quota_ranges : (d : DeskSeen) → IsDesk d → All (λ q. q ≤ most_quota) (quotas_of d d.opening.quota)
quota_ranges d h = quotas_within d d.opening.quota (quota_most d h)
