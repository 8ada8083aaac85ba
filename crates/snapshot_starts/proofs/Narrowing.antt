-- The slices at which a request may start, narrowed down step by step.
use Rattle.std.proofs.Common.{◌≡◌, ℕ, ◌+◌, ◌*◌, ◌<◌, ◌≤◌, Bool, false, List, [], ◌∷◌, length, slice_index_or, sym, ◌∙◌, subst, below_more, arith}
use Rattle.std.specs.Prelude.{◌||◌, IsTrue, All, Contains, HoldsAt}
use Rattle.std.proofs.lemmas.List.{get_or_default}
use Rattle.plan_base.specs.declared.parts.Parts.{Parts}
use Rattle.plan_base.specs.declared.parts.RequestPart.{RequestPart}
use Rattle.plan_base.specs.declared.parts.TelescopePart.{TelescopePart}
use Rattle.plan_base.specs.declared.parts.Sky.{Sky}
use Rattle.plan_base.specs.declared.number.TargetNo.{TargetNo}
use Rattle.plan_base.specs.declared.span.Span.{Span}
use Rattle.plan_base.specs.Starts.{slices_for}
use Rattle.plan_base.specs.Snapshot.{IsOrderly, IsSortedApart}
use Rattle.plan_base.specs.BySpans.{OneHasAll, IsVisibleThrough}
use Rattle.interval_set.specs.Spans.{span_has, has, IsSetOf, IsMeet}
use Rattle.snapshot_starts.specs.Slices.{AreSlices, IsHorizonFor}
use Rattle.plan_base.specs.Skies.{IsSkyOf}
use Rattle.snapshot_starts.specs.Pairs.{IsTimely, IsOpen}
use Rattle.plan_base.proofs.Skies.{seen_by, seen_one}
use Rattle.snapshot_starts.proofs.Sets.{set_slices, meet_slices, same_slices}

pub or_false : (b : Bool) → (b || false) ≡ b
or_false b = grind arith

pub has_one : (w : Span) (k : ℕ) → has (w ∷ []) k ≡ span_has w k
has_one w k = or_false (span_has w k)

pub timely_set : (s : Parts) (q : RequestPart) (horizon : Span) (within inside meet : List Span) → IsHorizonFor s q.seconds horizon
    → IsSetOf (has (horizon ∷ [])) within
    → AreSlices (λ k. OneHasAll q.windows (k * s.len) (k * s.len + q.seconds)) inside → IsMeet within inside meet → AreSlices (IsTimely s q) meet
timely_set s q horizon within inside meet is_horizon is_within are_inside is_meet =
    let Within : ℕ → Type 0 = λ k. (s.first.0 ≤ k) × (k + slices_for s.len q.seconds ≤ s.first.0 + s.slices) in
    let Inside : ℕ → Type 0 = λ k. OneHasAll q.windows (k * s.len) (k * s.len + q.seconds) in
    let are_within : AreSlices Within within =
    set_slices Within (horizon ∷ []) within
    (λ k. (λ yes. (is_horizon.each k).0 (sym (has_one horizon k) ∙ yes), λ p. has_one horizon k ∙ (is_horizon.each k).1 p)) is_within in
    same_slices (λ k. Within k × Inside k) (IsTimely s q) meet (meet_slices Within Inside within inside meet are_within.each are_inside.each is_meet)
    (λ k (p, window). record { begins = p.0; ends = p.1; window = window }) (λ k t. ((t.begins, t.ends), t.window))

pub under_set : (s : Parts) (target site d : ℕ) (sky : Sky) (slices seen meet : List Span) → IsOrderly s → Contains s.skies sky → IsSkyOf target site sky
    → AreSlices (λ k. OneHasAll sky.spans (k * s.len) (k * s.len + d)) seen → IsMeet slices seen meet
    → AreSlices (λ k. IsTrue (has slices k) × IsVisibleThrough s target site (k * s.len) (k * s.len + d)) meet
under_set s target site d sky slices seen meet o in_skies is_sky are_seen is_meet =
    let In : ℕ → Type 0 = λ k. IsTrue (has slices k) in
    let Under : ℕ → Type 0 = λ k. OneHasAll sky.spans (k * s.len) (k * s.len + d) in
    same_slices (λ k. In k × Under k) (λ k. IsTrue (has slices k) × IsVisibleThrough s target site (k * s.len) (k * s.len + d)) meet
    (meet_slices In Under slices seen meet (λ k. (λ yes. yes, λ yes. yes)) are_seen.each is_meet)
    (λ k (is_in, under). (is_in, seen_by s.skies target site sky (k * s.len) (k * s.len + d) in_skies is_sky under))
    (λ k (is_in, is_seen). (is_in, seen_one s.skies target site sky (k * s.len) (k * s.len + d) o.skies_rise in_skies is_sky is_seen))

-- each of the first n targets is visible
abbrev pub AreSeen : (TargetNo → ℕ → Type 0) → List TargetNo → ℕ → ℕ → Type 0
AreSeen V targets n k = (i : ℕ) → i < n → HoldsAt (λ target. V target k) targets i

pub none_seen : (V : TargetNo → ℕ → Type 0) (targets : List TargetNo) (slices : List Span) → IsSortedApart slices
    → AreSlices (λ k. IsTrue (has slices k) × AreSeen V targets 0 k) slices
none_seen V targets slices sorted = record { each = λ k. (λ is_in. (is_in, λ i l. absurd (omega arith)), λ (is_in, all). is_in); sorted = sorted }

pub more_seen : (V : TargetNo → ℕ → Type 0) (targets : List TargetNo) (i : ℕ) (d : TargetNo) (slices left less : List Span) → i < length targets
    → AreSlices (λ k. IsTrue (has slices k) × AreSeen V targets i k) left → AreSlices (λ k. IsTrue (has left k) × V (slice_index_or targets i d) k) less
    → AreSlices (λ k. IsTrue (has slices k) × AreSeen V targets (i + 1) k) less
more_seen V targets i d slices left less l so_far next =
    same_slices (λ k. IsTrue (has left k) × V (slice_index_or targets i d) k) (λ k. IsTrue (has slices k) × AreSeen V targets (i + 1) k) less next
    (λ k (is_in, here). let before = (so_far.each k).0 is_in in (
      before.0,
      below_more (λ j. HoldsAt (λ target. V target k) targets j) i before.1
          (λ e. subst (λ (t : TargetNo). V t k) (get_or_default targets i d e l) here),
    ))
    (λ k (is_in, all). ((so_far.each k).1 (is_in, λ j below. all j (omega arith)), all i (omega arith) d))

pub all_seen : (V : TargetNo → ℕ → Type 0) (targets : List TargetNo) (n : ℕ) (slices left : List Span) → length targets ≤ n
    → AreSlices (λ k. IsTrue (has slices k) × AreSeen V targets n k) left → n ≤ length targets
    → AreSlices (λ k. IsTrue (has slices k) × All (λ target. V target k) targets) left
all_seen V targets n slices left past so_far within =
    same_slices (λ k. IsTrue (has slices k) × AreSeen V targets n k) (λ k. IsTrue (has slices k) × All (λ target. V target k) targets) left so_far
    (λ k (is_in, seen). (is_in, λ i d l. seen i (omega arith) d)) (λ k (is_in, all). (is_in, λ i l d. all i d (omega arith)))

pub open_set : (s : Parts) (q : RequestPart) (part : TelescopePart) (timely usable slices left : List Span) → AreSlices (IsTimely s q) timely
    → AreSlices (λ k. OneHasAll part.usable (k * s.len) (k * s.len + q.seconds)) usable → IsMeet timely usable slices
    → AreSlices (λ k. IsTrue (has slices k) × All (λ target. IsVisibleThrough s target.0 part.site.0 (k * s.len) (k * s.len + q.seconds)) q.targets) left
    → AreSlices (λ k. IsTimely s q k × IsOpen s part q.targets (k * s.len) (k * s.len + q.seconds)) left
open_set s q part timely usable slices left are_timely are_usable is_meet are_left =
    let both = meet_slices (IsTimely s q) (λ k. OneHasAll part.usable (k * s.len) (k * s.len + q.seconds)) timely usable slices are_timely.each
    are_usable.each is_meet in
    same_slices (λ k. IsTrue (has slices k) × All (λ target. IsVisibleThrough s target.0 part.site.0 (k * s.len) (k * s.len + q.seconds)) q.targets)
    (λ k. IsTimely s q k × IsOpen s part q.targets (k * s.len) (k * s.len + q.seconds)) left are_left
    (λ k (is_in, visible). let here = (both.each k).0 is_in in (here.0, record { usable = here.1; visible = visible }))
    (λ k (is_timely, is_open). ((both.each k).1 (is_timely, is_open.usable), is_open.visible))
