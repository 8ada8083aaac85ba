-- What was read lies in the ranges.
use Rattle.std.proofs.Common.{◌≡◌, ◌^◌, ℕ, ◌≤◌, List, [], ◌∷◌, All, refl, Bool, true, is_some, Option, Some, None, IfSome, Result, IfOk, subst, arith, Ok}
use Rattle.std.specs.List.{list_all, flat_map}
use Rattle.std.proofs.lemmas.Bool.{le-leb, and_from}
use Rattle.std.proofs.lemmas.List.Elements.{All-nil, All-head, All-tail}
use Rattle.std.proofs.lemmas.List.Folds.{list_all-append}
use Rattle.serde_json.specs.Data.{Data, Members}
use Rattle.plan_base.specs.declared.number.TelescopeNo.{TelescopeNo}
use Rattle.plan_base.specs.declared.number.TargetNo.{TargetNo}
use Rattle.plan_base.specs.declared.span.Span.{Span}
use Rattle.plan_base.specs.declared.parts.GroupPart.{GroupPart}
use Rattle.plan_base.specs.declared.parts.RequestPart.{RequestPart}
use Rattle.plan_base.specs.declared.parts.Parts.{Parts}
use Rattle.plan_base.specs.Limits.{most_moment, most_seconds, most_value, most_slices}
use Rattle.plan_base.specs.Faults.{all_requests}
use Rattle.plan_base.specs.Ranges.{has_moments, has_ranges, has_horizon, has_all_moments}
use Rattle.plan_base.specs.Snapshot.{IsInRanges}
use Rattle.plan_base.proofs.RangeLemmas.{decides_in_ranges}
use Rattle.plan_json.specs.declared.member.Member.{Member}
use Rattle.plan_json.specs.declared.member.Member.TheVariants as key
use Rattle.plan_json.specs.declared.fault.JsonFault.{JsonFault}
use Rattle.plan_json.specs.Object.{value_of, member_of, if_there, object_in}
use Rattle.plan_json.specs.Operator.{operator_in}
use Rattle.plan_json.specs.Elements.{item, each_of}
use Rattle.plan_json.specs.List.{list_of_count_in}
use Rattle.plan_json.specs.Whole.{number_in}
use Rattle.plan_json.proofs.Ranges.{Gives, any, weaker, either, after, made, number_between, number_member, number_member_or, each_member}
use Rattle.plan_doc.specs.Claim.{placement_of, placement_in, price_in, quota_price_in, quota_prices_of, claim_of}
use Rattle.plan_doc.specs.Limits.{most_items}
use Rattle.plan_doc.specs.Snapshot.{span_of, span_in, telescope_number_in, target_number_in, telescope_of, telescope_in, sky_of, sky_in}
use Rattle.plan_doc.specs.Snapshot.{request_of, request_in, group_of, group_in, quotas_of, parts_of}
use Rattle.plan_doc.specs.Ranges.{IsPlacement, IsPrice, AreUpTo, IsClaim, HasMoments, IsTelescope, IsSky, IsRequest, IsGroup, AreParts}
use Rattle.plan_doc.specs.Laws.{ClaimsAreInRange, SnapshotsAreInRange}
use Rattle.plan_doc.proofs.Numbers.{price_between}

-- ---- lists

-- the elements of a list that was read, as each element was
each_there : {T : Type 0} (P : T → Type 0) (element_in : Member → Data → Result T JsonFault) → ((m : Member) (d : Data) → Gives (element_in m d) P)
    → (least most : ℕ) (ms : Members) (m : Member) → Gives (each_of element_in least most ms m) (AreUpTo most P)
each_there P element_in h least most ms m =
    weaker (each_member P element_in h least most ms m) (λ xs are. record { count = are.count.high; each = are.each })

-- ---- claims

placement_there : (m : Member) (ds : List Data) → Gives (placement_of m ds) IsPlacement
placement_there m ds =
    after _ (number_between 0 4294967295 m (item ds 0)) (λ request is_request.
    after _ (number_between 0 65535 m (item ds 1)) (λ telescope is_telescope.
    after _ (number_between 0 4294967295 m (item ds 2)) (λ slice is_slice.
    record { ok = record { request = is_request.high; telescope = is_telescope.high; slice = is_slice.high } })))

placement_found : (m : Member) (d : Data) → Gives (placement_in m d) IsPlacement
placement_found m d = after (placement_of m) (any (list_of_count_in m 3 d)) (λ ds _. placement_there m ds)

quota_price_found : (m : Member) (d : Data) → Gives (quota_price_in m d) (λ u. u ≤ 1000000000)
quota_price_found m d = weaker (number_between 0 1000000000 m d) (λ u is. is.high)

quota_prices_there : (format : Option ℕ) (ms : Members) → Gives (quota_prices_of format ms) (AreUpTo 1024 (λ u. u ≤ 1000000000))
quota_prices_there None ms = record { ok = record { count = omega arith; each = All-nil (λ u. u ≤ 1000000000) } }
quota_prices_there (Some format) ms = each_there (λ u. u ≤ 1000000000) quota_price_in quota_price_found 1 1024 ms key.QuotaPrices

claim_there : (ms : Members) → Gives (claim_of ms) IsClaim
claim_there ms =
    after _ (any (if_there (number_in 2 2) ms key.Format)) (λ format _.
    after _ (each_there IsPlacement placement_in placement_found 0 4096 ms key.Placements) (λ placements are_placements.
    after _ (each_there IsPrice price_in price_between 0 4096 ms key.Prices) (λ prices are_prices.
    after _ (quota_prices_there format ms) (λ quota_prices are_quota_prices.
    after _ (number_member 0 (10 ^ 12) ms key.Value) (λ value is_value.
    after _ (number_member 0 (10 ^ 17) ms key.Bound) (λ bound is_bound.
    record {
      ok = record {
        placements = are_placements;
        prices = are_prices;
        quota_prices = are_quota_prices;
        value = is_value.high;
        bound = is_bound.high;
      };
    }))))))

pub claims_are_in_range : ClaimsAreInRange
claims_are_in_range ms c read = subst (λ r. IfOk r IsClaim) read (claim_there ms).ok

-- ---- snapshots

span_there : (m : Member) (ds : List Data) → Gives (span_of m ds) HasMoments
span_there m ds =
    after _ (number_between 0 most_moment m (item ds 0)) (λ from is_from.
    after _ (number_between 0 most_moment m (item ds 1)) (λ to is_to.
    record { ok = record { first = is_from.high; last = is_to.high } }))

span_found : (m : Member) (d : Data) → Gives (span_in m d) HasMoments
span_found m d = after (span_of m) (any (list_of_count_in m 2 d)) (λ ds _. span_there m ds)

telescope_number_found : (m : Member) (d : Data) → Gives (telescope_number_in m d) (λ t. t.0 ≤ 65535)
telescope_number_found m d = made (λ (t : TelescopeNo). t.0 ≤ 65535) (λ n. record { 0 = n }) (number_between 0 65535 m d) (λ n is. is.high)

target_number_found : (m : Member) (d : Data) → Gives (target_number_in m d) (λ t. t.0 ≤ 65535)
target_number_found m d = made (λ (t : TargetNo). t.0 ≤ 65535) (λ n. record { 0 = n }) (number_between 0 65535 m d) (λ n is. is.high)

telescope_there : (ms : Members) → Gives (telescope_of ms) IsTelescope
telescope_there ms =
    after _ (number_member 0 65535 ms key.Site) (λ site is_site.
    after _ (each_there HasMoments span_in span_found 0 most_items ms key.Usable) (λ usable are.
    record { ok = record { site = is_site.high; usable = are } }))

telescope_found : (m : Member) (d : Data) → Gives (telescope_in m d) IsTelescope
telescope_found m d = after telescope_of (any (object_in m d)) (λ ms _. telescope_there ms)

sky_there : (ms : Members) → Gives (sky_of ms) IsSky
sky_there ms =
    after _ (number_member 0 65535 ms key.Target) (λ target is_target.
    after _ (number_member 0 65535 ms key.Site) (λ site is_site.
    after _ (each_there HasMoments span_in span_found 0 most_items ms key.Spans) (λ spans are.
    record { ok = record { target = is_target.high; site = is_site.high; spans = are } })))

sky_found : (m : Member) (d : Data) → Gives (sky_in m d) IsSky
sky_found m d = after sky_of (any (object_in m d)) (λ ms _. sky_there ms)

request_there : (ms : Members) → Gives (request_of ms) IsRequest
request_there ms =
    after _ (number_member 0 4294967295 ms key.Request) (λ request is_request.
    after _ (number_member 1 most_seconds ms key.Seconds) (λ seconds is_seconds.
    after _ (number_member 1 most_value ms key.Value) (λ value is_value.
    after _ (each_there (λ (t : TelescopeNo). t.0 ≤ 65535) telescope_number_in telescope_number_found 0 most_items ms key.Telescopes)
    (λ telescopes are_telescopes.
    after _ (each_there (λ (t : TargetNo). t.0 ≤ 65535) target_number_in target_number_found 0 most_items ms key.Targets) (λ targets are_targets.
    after _ (each_there HasMoments span_in span_found 0 most_items ms key.Windows) (λ windows are_windows.
    after _ (number_member_or 0 1000 0 ms key.Fade (record { low = omega arith; high = omega arith })) (λ fade is_fade.
    record {
      ok = record {
        request = is_request.high;
        seconds = is_seconds;
        value = is_value;
        windows = are_windows;
        telescopes = are_telescopes;
        targets = are_targets;
        fade = is_fade.high;
      };
    })))))))

request_found : (m : Member) (d : Data) → Gives (request_in m d) IsRequest
request_found m d = after request_of (any (object_in m d)) (λ ms _. request_there ms)

quota_there : (ms : Members) → Gives (if_there (number_in 0 65535) ms key.Quota) (λ o. IfSome o (λ q. q ≤ 65535))
quota_there ms =
    either (is_some (value_of ms key.Quota))
    (made (λ o. IfSome o (λ q. q ≤ 65535)) Some (number_member 0 65535 ms key.Quota) (λ q is. is.high)) (record { ok = tt })

group_there : (ms : Members) → Gives (group_of ms) IsGroup
group_there ms =
    after _ (number_member 0 4294967295 ms key.Group) (λ group is_group.
    after _ (any (member_of operator_in ms key.Operator)) (λ op _.
    after _ (each_there IsRequest request_in request_found 0 most_items ms key.Requests) (λ requests are.
    after _ (quota_there ms) (λ quota is_quota.
    record { ok = record { group = is_group.high; requests = are; quota = is_quota } }))))

group_found : (m : Member) (d : Data) → Gives (group_in m d) IsGroup
group_found m d = after group_of (any (object_in m d)) (λ ms _. group_there ms)

pub groups_are_in_range : (least most : ℕ) (ms : Members) (xs : List GroupPart) → each_of group_in least most ms key.Groups ≡ Ok xs → AreUpTo most IsGroup xs
groups_are_in_range least most ms xs read =
    subst (λ r. IfOk r (AreUpTo most IsGroup)) read (each_there IsGroup group_in group_found least most ms key.Groups).ok

quota_found : (m : Member) (d : Data) → Gives (number_in 0 (10 ^ 12) m d) (λ q. q ≤ 10 ^ 12)
quota_found m d = weaker (number_between 0 (10 ^ 12) m d) (λ q is. is.high)

quotas_there : (ms : Members) → Gives (quotas_of ms) (AreUpTo most_items (λ q. q ≤ 10 ^ 12))
quotas_there ms =
    either (is_some (value_of ms key.Quotas)) (each_there (λ q. q ≤ 10 ^ 12) (number_in 0 (10 ^ 12)) quota_found 0 most_items ms key.Quotas)
    (record { ok = record { count = omega arith; each = All-nil (λ q. q ≤ 10 ^ 12) } })

parts_there : (ms : Members) → Gives (parts_of ms) AreParts
parts_there ms =
    after _ (number_member 0 524288 ms key.Version) (λ version is_version.
    after _ (number_member 60 3600 ms key.Len) (λ len is_len.
    after _ (number_member 0 4223371680 ms key.First) (λ first is_first.
    after _ (number_member 1 most_slices ms key.Slices) (λ slices is_slices.
    after _ (each_there IsTelescope telescope_in telescope_found 0 most_items ms key.Telescopes) (λ telescopes are_telescopes.
    after _ (each_there IsSky sky_in sky_found 0 most_items ms key.Skies) (λ skies are_skies.
    after _ (each_there IsGroup group_in group_found 0 most_items ms key.Groups) (λ groups are_groups.
    after _ (quotas_there ms) (λ quotas are_quotas.
    record {
      ok = record {
        version = is_version.high;
        len = is_len;
        first = is_first.high;
        slices = is_slices;
        telescopes = are_telescopes;
        skies = are_skies;
        groups = are_groups;
        quotas = are_quotas;
      };
    }))))))))

-- ---- the ranges that a snapshot wants

-- a test that each element passes
passes : {T : Type 0} (P : T → Type 0) (p : T → Bool) → ((x : T) → P x → p x ≡ true) → (xs : List T) → All P xs → list_all p xs ≡ true
passes P p h [] all = refl
passes P p h (x ∷ xs) all = and_from _ _ (h x (All-head P x xs all)) (passes P p h xs (All-tail P x xs all))

-- and each of those that each element gives
passes_within : {S T : Type 0} (P : S → Type 0) (f : S → List T) (p : T → Bool) → ((x : S) → P x → list_all p (f x) ≡ true) → (xs : List S) → All P xs
    → list_all p (flat_map f xs) ≡ true
passes_within P f p h [] all = refl
passes_within P f p h (x ∷ xs) all =
    rw (list_all-append p (f x) (flat_map f xs)) (and_from _ _ (h x (All-head P x xs all)) (passes_within P f p h xs (All-tail P x xs all)))

moments_pass : (w : Span) → HasMoments w → has_moments w ≡ true
moments_pass w h = and_from _ _ (le-leb w.from.0 most_moment h.first) (le-leb w.to.0 most_moment h.last)

spans_pass : (ws : List Span) → AreUpTo most_items HasMoments ws → list_all has_moments ws ≡ true
spans_pass ws h = passes HasMoments has_moments moments_pass ws h.each

request_passes : (q : RequestPart) → IsRequest q → has_ranges q ≡ true
request_passes q h =
    and_from _ _ (and_from _ _ (le-leb 1 q.seconds h.seconds.low) (le-leb q.seconds most_seconds h.seconds.high))
    (and_from _ _ (le-leb 1 q.value h.value.low) (le-leb q.value most_value h.value.high))

horizon_passes : (s : Parts) → AreParts s → has_horizon s ≡ true
horizon_passes s h =
    and_from _ _ (and_from _ _ (and_from _ _ (le-leb s.version 524288 h.version)
    (and_from _ _ (le-leb 60 s.len h.len.low) (le-leb s.len 3600 h.len.high))) (le-leb s.first.0 4223371680 h.first))
    (and_from _ _ (le-leb 1 s.slices h.slices.low) (le-leb s.slices most_slices h.slices.high))

requests_pass : (xs : List GroupPart) → All IsGroup xs → list_all has_ranges (all_requests xs) ≡ true
requests_pass xs all = passes_within IsGroup (λ x. x.requests) has_ranges (λ x h. passes IsRequest has_ranges request_passes x.requests h.requests.each) xs all

windows_pass : (xs : List GroupPart) → All IsGroup xs → list_all (λ q. list_all has_moments q.windows) (all_requests xs) ≡ true
windows_pass xs all =
    passes_within IsGroup (λ x. x.requests) (λ q. list_all has_moments q.windows)
    (λ x h. passes IsRequest (λ q. list_all has_moments q.windows) (λ q is. spans_pass q.windows is.windows) x.requests h.requests.each) xs all

moments_all_pass : (s : Parts) → AreParts s → has_all_moments s ≡ true
moments_all_pass s h =
    and_from _ _
    (and_from _ _ (passes IsTelescope (λ t. list_all has_moments t.usable) (λ t is. spans_pass t.usable is.usable) s.telescopes h.telescopes.each)
    (passes IsSky (λ y. list_all has_moments y.spans) (λ y is. spans_pass y.spans is.spans) s.skies h.skies.each))
    (windows_pass s.groups h.groups.each)

pub parts_in_ranges : (s : Parts) → AreParts s → IsInRanges s
parts_in_ranges s h =
    (decides_in_ranges s).0 (and_from _ _ (and_from _ _ (horizon_passes s h) (requests_pass s.groups h.groups.each)) (moments_all_pass s h))

pub snapshots_are_in_range : SnapshotsAreInRange
snapshots_are_in_range ms s read =
    let are : AreParts s = subst (λ r. IfOk r AreParts) read (parts_there ms).ok in
    (are, parts_in_ranges s are)
