-- Starts that stay from one snapshot to the next.
use Rattle.std.proofs.Common.{◌≡◌, ℕ, ◌+◌, ◌-◌, ◌*◌, ◌/◌, ◌%◌, ◌<◌, ◌≤◌, List, [], length, slice_index_or, All, Contains, None, refl, sym, ◌∙◌, ap}
use Rattle.std.proofs.Common.{subst, arith}
use Rattle.std.specs.Prelude.{◌↔◌, HoldsAt}
use Rattle.std.proofs.Math.Nat.{mul-le-mul_right}
use Rattle.std.proofs.lemmas.List.Elements.{Contains-get_or}
use Rattle.plan_base.specs.declared.parts.Parts.{Parts}
use Rattle.plan_base.specs.declared.parts.RequestPart.{RequestPart}
use Rattle.plan_base.specs.declared.parts.TelescopePart.{TelescopePart}
use Rattle.plan_base.specs.declared.parts.Sky.{Sky}
use Rattle.plan_base.specs.declared.number.TelescopeNo.{TelescopeNo}
use Rattle.plan_base.specs.declared.number.TargetNo.{TargetNo}
use Rattle.plan_base.specs.declared.span.Span.{Span}
use Rattle.plan_base.specs.declared.claim.Placement.{Placement}
use Rattle.plan_base.specs.Requests.{Listed, listed, place_of, IsKnown, seconds_of, windows_of, telescopes_of, targets_of}
use Rattle.plan_base.specs.Snapshot.{IsOrderly}
use Rattle.plan_base.specs.Starts.{slices_for, site_of, IsPossibleStart}
use Rattle.plan_base.specs.BySpans.{OneHasAll, usable_of, IsVisibleThrough, IsPossibleBySpans}
use Rattle.plan_base.specs.Skies.{IsSkyOf}
use Rattle.plan_base.proofs.Known.{IsListedAs, known_or_is}
use Rattle.plan_base.proofs.Members.{listed_known, listed_as}
use Rattle.plan_base.proofs.Skies.{seen_by, seen_one}
use Rattle.plan_base.proofs.SpanStarts.{by_spans_from_possible, possible_from_by_spans}
use Rattle.snapshot_starts.specs.Mending.{IsInHorizon, AreShared, IsSameWithin, IsAskedAlike, IsSeenAlike, IsSteadyRequest, IsSteadyTelescope}
use Rattle.snapshot_starts.specs.Mending.{IsSteadySky, IsSteadyPair, IsWithinHorizon, sky_key}
use Rattle.snapshot_starts.proofs.Open.{usable_is, site_is}
use Rattle.snapshot_starts.proofs.Pairing.{IsPart, is_part}

-- ---- times of observations within the horizon

-- an observation of d seconds ends with its last slice
ends_within : (len d k : ℕ) → 0 < len → k * len + d ≤ (k + slices_for len d) * len
ends_within len d k some =
    let n : ℕ = d + len - 1 in
    let split : n ≡ n / len * len + n % len = div_mod n len in
    let rest : n % len < len = mod_below n len some in
    let more : (k + n / len) * len ≡ k * len + n / len * len = grind arith in
    omega (arith, split, rest, more)
  where
    div_mod : (n len : ℕ) → n ≡ n / len * len + n % len
    div_mod n len = grind arith

    mod_below : (n len : ℕ) → 0 < len → n % len < len
    mod_below n len some = grind arith

pub times_within : (s : Parts) (d k : ℕ) → IsOrderly s → 1 ≤ d → IsWithinHorizon s d k → IsInHorizon s (k * s.len) (k * s.len + d)
times_within s d k o some (begins, ends) = record {
  some = omega (arith, some);
  begins = mul-le-mul_right s.len begins;
  ends = (let whole = ends_within s.len d k (omega (arith, o.ranges.len_least)) in
      let last : (k + slices_for s.len d) * s.len ≤ (s.first.0 + s.slices) * s.len = mul-le-mul_right s.len ends in
      omega (arith, whole, last));
}

-- ---- a start of one snapshot is a start of another that asks for it alike

-- what two snapshots have alike of the request, the telescope and the times of a placement
record IsAlike (was s : Parts) (p : Placement) : Type 0 where
  len : was.len ≡ s.len
  seconds : seconds_of was p.request.0 ≡ seconds_of s p.request.0
  windows : windows_of was p.request.0 ≡ windows_of s p.request.0
  telescopes : telescopes_of was p.request.0 ≡ telescopes_of s p.request.0
  targets : targets_of was p.request.0 ≡ targets_of s p.request.0
  usable : OneHasAll (usable_of was p.telescope.0) (p.slice.0 * s.len) (p.slice.0 * s.len + seconds_of s p.request.0)
      → OneHasAll (usable_of s p.telescope.0) (p.slice.0 * s.len) (p.slice.0 * s.len + seconds_of s p.request.0)
  visible : All (λ target. IsVisibleThrough was target.0 (site_of was p.telescope.0) (p.slice.0 * s.len) (p.slice.0 * s.len + seconds_of s p.request.0)
      → IsVisibleThrough s target.0 (site_of s p.telescope.0) (p.slice.0 * s.len) (p.slice.0 * s.len + seconds_of s p.request.0)) (targets_of s p.request.0)

moved : (was s : Parts) (p : Placement) → IsOrderly was → IsKnown s p.request.0 → IsWithinHorizon s (seconds_of s p.request.0) p.slice.0 → IsAlike was s p
    → IsPossibleStart was p → IsPossibleStart s p
moved was s p o known (begins, ends) alike possible =
    let k : ℕ = p.slice.0 in
    let d : ℕ = seconds_of s p.request.0 in
    let spans : IsPossibleBySpans was p = by_spans_from_possible was p o possible in
    let at : (P : ℕ → ℕ → Type 0) → P (k * was.len) (k * was.len + seconds_of was p.request.0) → P (k * s.len) (k * s.len + d) =
    λ P h. subst (λ (n : ℕ). P (k * n) (k * n + d)) alike.len (subst (λ (e : ℕ). P (k * was.len) (k * was.len + e)) alike.seconds h) in
    let seen : All (λ target. IsVisibleThrough was target.0 (site_of was p.telescope.0) (k * was.len) (k * was.len + seconds_of was p.request.0))
    (targets_of s p.request.0) =
    subst (λ (ts : List TargetNo). All
    (λ target. IsVisibleThrough was target.0 (site_of was p.telescope.0) (k * was.len) (k * was.len + seconds_of was p.request.0)) ts)
    alike.targets spans.visible in
    possible_from_by_spans s p (record {
      known = known;
      able = subst (λ (ts : List TelescopeNo). Contains ts p.telescope) alike.telescopes spans.able;
      begins = begins;
      ends = ends;
      window = subst (λ (ws : List Span). OneHasAll ws (k * s.len) (k * s.len + d)) alike.windows (at (OneHasAll (windows_of was p.request.0)) spans.window);
      usable = alike.usable (at (OneHasAll (usable_of was p.telescope.0)) spans.usable);
      visible = λ i t l. alike.visible i t l
          (at (λ a b. IsVisibleThrough was (slice_index_or (targets_of s p.request.0) i t).0 (site_of was p.telescope.0) a b) (seen i t l));
    })

-- ---- all that the starts of a request on a telescope depend on

alike_there : (was s : Parts) (p : Placement) → IsSteadyPair was s p.request.0 p.telescope.0
    → IsInHorizon was (p.slice.0 * s.len) (p.slice.0 * s.len + seconds_of s p.request.0)
    → IsInHorizon s (p.slice.0 * s.len) (p.slice.0 * s.len + seconds_of s p.request.0) → IsAlike was s p
alike_there was s p steady before now =
    let a : ℕ = p.slice.0 * s.len in
    let b : ℕ = a + seconds_of s p.request.0 in
    record {
      len = steady.request.len;
      seconds = steady.request.seconds;
      windows = steady.request.windows;
      telescopes = steady.request.telescopes;
      targets = steady.request.targets;
      usable = (steady.telescope.usable a b before now).0;
      visible = λ i d l seen. (steady.skies i d l a b before now).0
          (subst (λ (site : ℕ). IsVisibleThrough was (slice_index_or (targets_of s p.request.0) i d).0 site a b) steady.telescope.site seen);
    }

alike_back : (was s : Parts) (p : Placement) → IsSteadyPair was s p.request.0 p.telescope.0
    → IsInHorizon was (p.slice.0 * was.len) (p.slice.0 * was.len + seconds_of was p.request.0)
    → IsInHorizon s (p.slice.0 * was.len) (p.slice.0 * was.len + seconds_of was p.request.0) → IsAlike s was p
alike_back was s p steady before now =
    let a : ℕ = p.slice.0 * was.len in
    let b : ℕ = a + seconds_of was p.request.0 in
    record {
      len = sym steady.request.len;
      seconds = sym steady.request.seconds;
      windows = sym steady.request.windows;
      telescopes = sym steady.request.telescopes;
      targets = sym steady.request.targets;
      usable = (steady.telescope.usable a b before now).1;
      visible = subst (λ (ts : List TargetNo). All (λ target. IsVisibleThrough s target.0 (site_of s p.telescope.0) a b
          → IsVisibleThrough was target.0 (site_of was p.telescope.0) a b) ts) (sym steady.request.targets)
          (λ i d l seen. subst (λ (site : ℕ). IsVisibleThrough was (slice_index_or (targets_of s p.request.0) i d).0 site a b)
          (sym steady.telescope.site) ((steady.skies i d l a b before now).1 seen));
    }

-- the same times, by the slices and seconds of the other snapshot
same_times : (was s : Parts) (t : Parts) (k d e : ℕ) → was.len ≡ s.len → d ≡ e → IsInHorizon t (k * was.len) (k * was.len + d)
    → IsInHorizon t (k * s.len) (k * s.len + e)
same_times was s t k d e len seconds h =
    subst (λ (n : ℕ). IsInHorizon t (k * n) (k * n + e)) len (subst (λ (x : ℕ). IsInHorizon t (k * was.len) (k * was.len + x)) seconds h)

pub same_start : (was s : Parts) (p : Placement) → IsOrderly was → IsOrderly s → IsKnown s p.request.0 → 1 ≤ seconds_of s p.request.0
    → IsSteadyPair was s p.request.0 p.telescope.0
    → IsWithinHorizon was (seconds_of was p.request.0) p.slice.0 → IsWithinHorizon s (seconds_of s p.request.0) p.slice.0
    → IsPossibleStart was p ↔ IsPossibleStart s p
same_start was s p was_orderly orderly known some steady before now =
    let q = steady.request in
    let k : ℕ = p.slice.0 in
    let first = times_within was (seconds_of was p.request.0) k was_orderly (omega (arith, some, q.seconds)) before in
    let second = times_within s (seconds_of s p.request.0) k orderly some now in (
      moved was s p was_orderly known now (alike_there was s p steady (same_times was s was k _ _ q.len q.seconds first) second),
      moved s was p orderly q.known before (alike_back was s p steady first (same_times s was s k _ _ (sym q.len) (sym q.seconds) second)),
    )

-- ---- requests that are asked for alike

-- what the earlier snapshot has as a request
pub asked_alike : (was : Parts) (place : ℕ) (p q : RequestPart) → IsKnown was q.request.0 → place ≡ place_of was q.request.0
    → HoldsAt (λ x. x.request ≡ p) (listed was) place
    → p.seconds ≡ q.seconds → p.windows ≡ q.windows → p.telescopes ≡ q.telescopes → p.targets ≡ q.targets → IsAskedAlike was q
asked_alike was place p q known at holds seconds windows telescopes targets =
    let part = is_part was q.request.0 place p known at holds in
    record {
      known = known;
      seconds = part.seconds ∙ seconds;
      windows = part.windows ∙ windows;
      telescopes = part.telescopes ∙ telescopes;
      targets = part.targets ∙ targets;
    }

-- what is listed at a place is what is known of its number
part_at : (s : Parts) (place : ℕ) (q : RequestPart) → IsOrderly s → place < length (listed s)
    → HoldsAt (λ x. x.request ≡ q) (listed s) place → IsPart s q.request.0 q
part_at s place q o within holds =
    let none : Listed = record { group = 0; quota = None; request = q } in
    let x : Listed = slice_index_or (listed s) place none in
    let here : Contains (listed s) x = Contains-get_or (listed s) place none within in
    let same : x.request ≡ q = holds none in
    let number : x.request.request.0 ≡ q.request.0 = ap (λ (p : RequestPart). p.request.0) same in
    let found : IsListedAs s q.request.0 x = subst (λ (r : ℕ). IsListedAs s r x) number (listed_as s x o here) in
    let known : IsKnown s q.request.0 = subst (IsKnown s) number (listed_known s x here) in
    record {
      seconds = known_or_is (λ y. y.request.seconds) 0 s q.request.0 x known found ∙ ap (λ (p : RequestPart). p.seconds) same;
      windows = known_or_is (λ y. y.request.windows) [] s q.request.0 x known found ∙ ap (λ (p : RequestPart). p.windows) same;
      telescopes = known_or_is (λ y. y.request.telescopes) [] s q.request.0 x known found ∙ ap (λ (p : RequestPart). p.telescopes) same;
      targets = known_or_is (λ y. y.request.targets) [] s q.request.0 x known found ∙ ap (λ (p : RequestPart). p.targets) same;
    }

pub steady_request : (was s : Parts) (place : ℕ) (q : RequestPart) → IsOrderly s → was.len ≡ s.len → place < length (listed s)
    → HoldsAt (λ x. x.request ≡ q) (listed s) place
    → IsAskedAlike was q → IsSteadyRequest was s q.request.0
steady_request was s place q o len within holds alike =
    let part = part_at s place q o within holds in
    record {
      len = len;
      known = alike.known;
      seconds = alike.seconds ∙ sym part.seconds;
      windows = alike.windows ∙ sym part.windows;
      telescopes = alike.telescopes ∙ sym part.telescopes;
      targets = alike.targets ∙ sym part.targets;
    }

-- ---- telescopes and skies that are the same

pub steady_telescope : (was s : Parts) (t : ℕ) (times : Span) (before now : TelescopePart) → AreShared was s times → t < length was.telescopes
    → HoldsAt (λ x. x ≡ before) was.telescopes t
    → t < length s.telescopes → HoldsAt (λ x. x ≡ now) s.telescopes t → before.site.0 ≡ now.site.0 → IsSameWithin times before.usable now.usable
    → IsSteadyTelescope was s t
steady_telescope was s t times before now shared l at m here site same =
    let mine = usable_is was t before l at in
    let theirs = usable_is s t now m here in
    record {
      site = site_is was t before l at ∙ site ∙ sym (site_is s t now m here);
      usable = λ a b first second.
          let within = shared a b first second in
          let each = same a b first.some within.0 within.1 in (
            λ has. subst (λ (xs : List Span). OneHasAll xs a b) (sym theirs) (each.0 (subst (λ (xs : List Span). OneHasAll xs a b) mine has)),
            λ has. subst (λ (xs : List Span). OneHasAll xs a b) (sym mine) (each.1 (subst (λ (xs : List Span). OneHasAll xs a b) theirs has)),
          );
    }

pub seen_alike : (was : Parts) (sky earlier : Sky) (times : Span) → IsOrderly was → Contains was.skies earlier
    → IsSkyOf sky.target.0 sky.site.0 earlier → IsSameWithin times earlier.spans sky.spans
    → IsSeenAlike was sky times
seen_alike was sky earlier times o there is_sky same = record {
  each = λ a b some from to.
      let each = same a b some from to in (
        λ seen. each.0 (seen_one was.skies sky.target.0 sky.site.0 earlier a b o.skies_rise there is_sky seen),
        λ has. seen_by was.skies sky.target.0 sky.site.0 earlier a b there is_sky (each.1 has),
      );
}

pub steady_sky : (was s : Parts) (sky : Sky) (times : Span) → IsOrderly s → AreShared was s times → Contains s.skies sky → IsSeenAlike was sky times
    → IsSteadySky was s (sky_key sky.target sky.site)
steady_sky was s sky times o shared here alike a b first second =
    let within = shared a b first second in
    let each = alike.each a b first.some within.0 within.1 in (
      λ seen. seen_by s.skies sky.target.0 sky.site.0 sky a b here (refl, refl) (each.0 seen),
      λ seen. each.1 (seen_one s.skies sky.target.0 sky.site.0 sky a b o.skies_rise here (refl, refl) seen),
    )
