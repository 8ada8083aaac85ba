-- When a request that a snapshot has may start.
use Rattle.std.proofs.Common.{◌≡◌, ℕ, ◌+◌, ◌*◌, ◌<◌, ◌≤◌, List, [], length, slice_index_or, All, Contains, None, sym, ◌∙◌, ap, subst, arith}
use Rattle.std.specs.Prelude.{◌↔◌, HoldsAt}
use Rattle.plan_base.specs.declared.parts.Parts.{Parts}
use Rattle.plan_base.specs.declared.parts.RequestPart.{RequestPart}
use Rattle.plan_base.specs.declared.number.TelescopeNo.{TelescopeNo}
use Rattle.plan_base.specs.declared.number.TargetNo.{TargetNo}
use Rattle.plan_base.specs.declared.span.Span.{Span}
use Rattle.plan_base.specs.declared.claim.Placement.{Placement}
use Rattle.plan_base.specs.Requests.{Listed, listed, place_of, IsKnown, seconds_of, windows_of, telescopes_of, targets_of}
use Rattle.plan_base.specs.Snapshot.{IsOrderly}
use Rattle.plan_base.specs.Starts.{slices_for, site_of, IsPossibleStart}
use Rattle.plan_base.specs.BySpans.{OneHasAll, usable_of, IsVisibleThrough, IsPossibleBySpans}
use Rattle.plan_base.proofs.Known.{known_as, known_or_is}
use Rattle.plan_base.proofs.SpanStarts.{by_spans_from_possible, possible_from_by_spans}
use Rattle.snapshot_starts.specs.Pairs.{CanStart}

-- what is known of request r is what stands in q
pub record IsPart (s : Parts) (r : ℕ) (q : RequestPart) : Type 0 where
  pub seconds : seconds_of s r ≡ q.seconds
  pub windows : windows_of s r ≡ q.windows
  pub telescopes : telescopes_of s r ≡ q.telescopes
  pub targets : targets_of s r ≡ q.targets

pub is_part : (s : Parts) (r place : ℕ) (q : RequestPart) → IsKnown s r → place ≡ place_of s r → HoldsAt (λ x. x.request ≡ q) (listed s) place → IsPart s r q
is_part s r place q known at holds =
    let found = known_as s r known in
    let x : Listed = found.0 in
    let here : slice_index_or (listed s) place x ≡ x = ap (λ (k : ℕ). slice_index_or (listed s) k x) at ∙ found.1.at_place in
    let same : x.request ≡ q = ap (λ (y : Listed). y.request) (sym here) ∙ holds x in
    record {
      seconds = known_or_is (λ y. y.request.seconds) 0 s r x known found.1 ∙ ap (λ (p : RequestPart). p.seconds) same;
      windows = known_or_is (λ y. y.request.windows) [] s r x known found.1 ∙ ap (λ (p : RequestPart). p.windows) same;
      telescopes = known_or_is (λ y. y.request.telescopes) [] s r x known found.1 ∙ ap (λ (p : RequestPart). p.telescopes) same;
      targets = known_or_is (λ y. y.request.targets) [] s r x known found.1 ∙ ap (λ (p : RequestPart). p.targets) same;
    }

-- by plain parts: a start of d seconds with these windows, telescopes and targets
record Fits (s : Parts) (d : ℕ) (windows : List Span) (telescopes : List TelescopeNo) (targets : List TargetNo) (t : TelescopeNo) (k : ℕ) : Type 0 where
  able : Contains telescopes t
  begins : s.first.0 ≤ k
  ends : k + slices_for s.len d ≤ s.first.0 + s.slices
  window : OneHasAll windows (k * s.len) (k * s.len + d)
  usable : OneHasAll (usable_of s t.0) (k * s.len) (k * s.len + d)
  visible : All (λ target. IsVisibleThrough s target.0 (site_of s t.0) (k * s.len) (k * s.len + d)) targets

fits_can : (s : Parts) (q : RequestPart) (t : TelescopeNo) (k : ℕ) → Fits s q.seconds q.windows q.telescopes q.targets t k → CanStart s q t k
fits_can s q t k f = record { able = f.able; timely = record { begins = f.begins; ends = f.ends; window = f.window }; usable = f.usable; visible = f.visible }

can_fits : (s : Parts) (q : RequestPart) (t : TelescopeNo) (k : ℕ) → CanStart s q t k → Fits s q.seconds q.windows q.telescopes q.targets t k
can_fits s q t k c = record { able = c.able; begins = c.timely.begins; ends = c.timely.ends; window = c.timely.window; usable = c.usable; visible = c.visible }

spans_fit : (s : Parts) (p : Placement) → IsPossibleBySpans s p
    → Fits s (seconds_of s p.request.0) (windows_of s p.request.0) (telescopes_of s p.request.0) (targets_of s p.request.0) p.telescope p.slice.0
spans_fit s p b = record { able = b.able; begins = b.begins; ends = b.ends; window = b.window; usable = b.usable; visible = b.visible }

fit_spans : (s : Parts) (p : Placement) → IsKnown s p.request.0
    → Fits s (seconds_of s p.request.0) (windows_of s p.request.0) (telescopes_of s p.request.0) (targets_of s p.request.0) p.telescope p.slice.0
    → IsPossibleBySpans s p
fit_spans s p known f = record { known = known; able = f.able; begins = f.begins; ends = f.ends; window = f.window; usable = f.usable; visible = f.visible }

same_fits : (s : Parts) (t : TelescopeNo) (k d e : ℕ) (ws vs : List Span) (ts us : List TelescopeNo) (gs hs : List TargetNo) → d ≡ e
    → ws ≡ vs → ts ≡ us → gs ≡ hs
    → Fits s d ws ts gs t k → Fits s e vs us hs t k
same_fits s t k d e ws vs ts us gs hs p q r u f =
    subst (λ (x : ℕ). Fits s x vs us hs t k) p
    (subst (λ (x : List Span). Fits s d x us hs t k) q
    (subst (λ (x : List TelescopeNo). Fits s d ws x hs t k) r (subst (λ (x : List TargetNo). Fits s d ws ts x t k) u f)))

-- a placement of a known request is a possible start exactly where the request may start there
pub possible_iff : (s : Parts) (p : Placement) (place : ℕ) (q : RequestPart) → IsOrderly s → IsKnown s p.request.0 → place ≡ place_of s p.request.0
    → HoldsAt (λ x. x.request ≡ q) (listed s) place
    → IsPossibleStart s p ↔ CanStart s q p.telescope p.slice.0
possible_iff s p place q o known at holds =
    let part = is_part s p.request.0 place q known at holds in (
      λ possible. fits_can s q p.telescope p.slice.0
          (same_fits s p.telescope p.slice.0 _ _ _ _ _ _ _ _ part.seconds part.windows part.telescopes part.targets
          (spans_fit s p (by_spans_from_possible s p o possible))),
      λ can. possible_from_by_spans s p
          (fit_spans s p known (same_fits s p.telescope p.slice.0 _ _ _ _ _ _ _ _ (sym part.seconds) (sym part.windows) (sym part.telescopes)
          (sym part.targets) (can_fits s q p.telescope p.slice.0 can))),
    )

-- what a snapshot says of the seconds of its requests
pub few_seconds : (s : Parts) (place : ℕ) (q : RequestPart) → IsOrderly s → place < length (listed s)
    → HoldsAt (λ x. x.request ≡ q) (listed s) place → q.seconds ≤ 86400
few_seconds s place q o within holds =
    let x : Listed = record { group = 0; quota = None; request = q } in
    let most : (slice_index_or (listed s) place x).request.seconds ≤ 86400 = (o.ranges.seconds place x within).1 in
    let same : (slice_index_or (listed s) place x).request.seconds ≡ q.seconds = ap (λ (p : RequestPart). p.seconds) (holds x) in
    omega arith
