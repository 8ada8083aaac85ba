-- The slices of a pair, by those that are kept and those that are found.
use Rattle.std.proofs.Common.{◌≡◌, ℕ, ◌+◌, ◌<◌, ◌≤◌, ◌⊎◌, inl, inr, Bool, true, false, List, [], ◌∷◌, ◌++◌, length, slice_index_or, All, Contains}
use Rattle.std.proofs.Common.{refl, sym, ◌∙◌, ap, subst, arith}
use Rattle.std.specs.Prelude.{◌↔◌, HoldsAt, IsTrue, ◌||◌}
use Rattle.std.proofs.lemmas.Bool.{cases_lt, false≢true}
use Rattle.std.proofs.lemmas.List.Elements.{All-contains}
use Rattle.plan_base.specs.declared.parts.Parts.{Parts}
use Rattle.plan_base.specs.declared.parts.RequestPart.{RequestPart}
use Rattle.plan_base.specs.declared.parts.TelescopePart.{TelescopePart}
use Rattle.plan_base.specs.declared.number.TelescopeNo.{TelescopeNo}
use Rattle.plan_base.specs.declared.number.TargetNo.{TargetNo}
use Rattle.plan_base.specs.declared.span.Span.{Span}
use Rattle.plan_base.specs.declared.claim.Placement.{Placement}
use Rattle.plan_base.specs.Requests.{Listed, listed, place_of, IsKnown, seconds_of, targets_of}
use Rattle.plan_base.specs.Snapshot.{IsOrderly}
use Rattle.plan_base.specs.Starts.{slices_for, site_of, IsPossibleStart}
use Rattle.plan_base.specs.BySpans.{IsVisibleThrough}
use Rattle.plan_base.proofs.Known.{known_as, known_has}
use Rattle.interval_set.specs.Spans.{span_has, has, IsSetOf, IsSortedApart}
use Rattle.snapshot_starts.specs.declared.steady.Steady.{Steady}
use Rattle.snapshot_starts.specs.Slices.{AreSlices, IsHorizonFor}
use Rattle.snapshot_starts.specs.Pairs.{CanStart, pair_start, pair_of}
use Rattle.snapshot_starts.specs.Mending.{IsRequest, AgreeIn, AreSteady, IsSteadyRequest, IsSteadyTelescope, IsSteadySky, IsSteadyPair}
use Rattle.snapshot_starts.specs.Mending.{IsWithinHorizon, sky_key}
use Rattle.snapshot_starts.proofs.Open.{site_is}
use Rattle.snapshot_starts.proofs.Pairing.{is_part, possible_iff}
use Rattle.std.proofs.lemmas.Bool.Decides.{nat_tests}
use Rattle.snapshot_starts.proofs.Sets.{has_push, set_slices, same_slices, or_true_left, or_true_right, or_true_cases}
use Rattle.snapshot_starts.proofs.Narrowing.{or_false}
use Rattle.snapshot_starts.proofs.Mending.{same_start}

-- ---- what an earlier snapshot tells

some_seconds : (s : Parts) (r : ℕ) → IsOrderly s → IsKnown s r → 1 ≤ seconds_of s r
some_seconds s r o known = known_has (λ d. 1 ≤ d) (λ x. x.request.seconds) 0 s r (λ i d l. (o.ranges.seconds i d l).0) known

-- a request with the number that was looked for, where it was found
pub is_request : (s : Parts) (r place : ℕ) (q : RequestPart) → IsOrderly s → IsKnown s r → place ≡ place_of s r
    → HoldsAt (λ x. x.request ≡ q) (listed s) place → IsRequest s q
is_request s r place q o known at holds =
    let found = known_as s r known in
    let x : Listed = found.0 in
    let here : slice_index_or (listed s) place x ≡ x = ap (λ (k : ℕ). slice_index_or (listed s) k x) at ∙ found.1.at_place in
    let number : q.request.0 ≡ r = ap (λ (p : RequestPart). p.request.0) (sym (holds x)) ∙ ap (λ (y : Listed). y.request.request.0) here ∙ found.1.number in
    record {
      known = subst (IsKnown s) (sym number) known;
      listed = subst (λ (k : ℕ). HoldsAt (λ x. x.request ≡ q) (listed s) k) (at ∙ ap (place_of s) (sym number)) holds;
    }

-- what is listed as steady makes a pair steady
pub steady_pair : (was s : Parts) (x : Steady) (q : RequestPart) (t : TelescopeNo) (part : TelescopePart) → AreSteady was s x → IsRequest s q
    → t.0 < length s.telescopes → HoldsAt (λ y. y ≡ part) s.telescopes t.0
    → Contains x.requests.items q.request → Contains x.telescopes.items t → All (λ target. Contains x.skies.items (sky_key target part.site)) q.targets
    → IsSteadyPair was s q.request.0 t.0
steady_pair was s x q t part steady is l at in_requests in_telescopes in_skies =
    let same : targets_of s q.request.0 ≡ q.targets = (is_part s q.request.0 (place_of s q.request.0) q is.known refl is.listed).targets in
    let site : site_of s t.0 ≡ part.site.0 = site_is s t.0 part l at in
    record {
      request = All-contains (λ r. IsSteadyRequest was s r.0) x.requests.items q.request steady.requests in_requests;
      telescope = All-contains (λ u. IsSteadyTelescope was s u.0) x.telescopes.items t steady.telescopes in_telescopes;
      skies = subst (λ (ts : List TargetNo). All
          (λ target. AgreeIn was s (IsVisibleThrough was target.0 (site_of s t.0)) (IsVisibleThrough s target.0 (site_of s t.0))) ts) (sym same)
          (λ i d m.
          let target : TargetNo = slice_index_or q.targets i d in
          subst (λ (place : ℕ). AgreeIn was s (IsVisibleThrough was target.0 place) (IsVisibleThrough s target.0 place)) (sym site)
          (All-contains (IsSteadySky was s) x.skies.items (sky_key target part.site) steady.skies (in_skies i d m)));
    }

-- the start of a request on a telescope at slice k
abbrev start_of : RequestPart → TelescopeNo → ℕ → Placement
start_of q t k = pair_start (pair_of q.request t) k

-- the starts that a request had are those that it has, of all slices within both horizons
pub stay_slices : (was s : Parts) (q : RequestPart) (t : TelescopeNo) (horizon earlier : Span) (stay : List Span) → IsOrderly was → IsOrderly s
    → IsRequest s q → IsSteadyPair was s q.request.0 t.0
    → IsHorizonFor s q.seconds horizon → IsHorizonFor was q.seconds earlier
    → AreSlices (λ k. IsPossibleStart was (start_of q t k) × IsTrue (span_has horizon k)) stay
    → AreSlices (λ k. CanStart s q t k × IsTrue (span_has earlier k)) stay
stay_slices was s q t horizon earlier stay was_orderly o is steady is_horizon is_earlier are =
    let r : ℕ = q.request.0 in
    let seconds : seconds_of s r ≡ q.seconds = (is_part s r (place_of s r) q is.known refl is.listed).seconds in
    let before : seconds_of was r ≡ q.seconds = steady.request.seconds ∙ seconds in
    let same : (k : ℕ) → IsTrue (span_has earlier k) → IsTrue (span_has horizon k) → IsPossibleStart was (start_of q t k)
    ↔ IsPossibleStart s (start_of q t k) = λ k told now.
    same_start was s (start_of q t k) was_orderly o is.known (some_seconds s r o is.known) steady
    (subst (λ (d : ℕ). IsWithinHorizon was d k) (sym before) ((is_earlier.each k).0 told))
    (subst (λ (d : ℕ). IsWithinHorizon s d k) (sym seconds) ((is_horizon.each k).0 now)) in
    let can : (k : ℕ) → IsPossibleStart s (start_of q t k) ↔ CanStart s q t k =
    λ k. possible_iff s (start_of q t k) (place_of s r) q o is.known refl is.listed in
    same_slices (λ k. IsPossibleStart was (start_of q t k) × IsTrue (span_has horizon k)) (λ k. CanStart s q t k × IsTrue (span_has earlier k)) stay are
    (λ k (possible, now).
    let told : IsTrue (span_has earlier k) =
    (is_earlier.each k).1 (possible.begins, subst (λ (d : ℕ). k + slices_for was.len d ≤ was.first.0 + was.slices) before possible.ends) in
    ((can k).0 ((same k told now).0 possible), told))
    (λ k (start, told). let now : IsTrue (span_has horizon k) = (is_horizon.each k).1 (start.timely.begins, start.timely.ends) in
    ((same k told now).1 ((can k).1 start), now))

-- ---- kept and found together

-- slices from one on, of which those before another were tried
pub record AreTried (s : Parts) (q : RequestPart) (t : TelescopeNo) (from to : ℕ) (slices : List Span) : Type 0 where
  pub each : (k : ℕ) → IsTrue (has slices k) ↔ CanStart s q t k × (from ≤ k) × (k < to)

pub none_tried : (s : Parts) (q : RequestPart) (t : TelescopeNo) (from : ℕ) → AreTried s q t from from []
none_tried s q t from = record { each = λ k. (λ found. absurd (false≢true found), λ (can, above, below). absurd (omega (arith, above, below))) }

-- the span of one slice
abbrev pub one_slice : ℕ → Span
one_slice k = record { from = record { 0 = k }; to = record { 0 = k + 1 } }

in_one : (k j : ℕ) → IsTrue (span_has (one_slice k) j) → j ≡ k
in_one k j told = grind (arith, nat_tests)

one_has : (k : ℕ) → IsTrue (span_has (one_slice k) k)
one_has k = grind (arith, nat_tests)

pub more_tried : (s : Parts) (q : RequestPart) (t : TelescopeNo) (from k : ℕ) (slices : List Span) → from ≤ k → CanStart s q t k → AreTried s q t from k slices
    → AreTried s q t from (k + 1) (slices ++ one_slice k ∷ [])
more_tried s q t from k slices above can so_far = record {
  each = λ j. (
    λ found. elim (or_true_cases (has slices j) (span_has (one_slice k) j) (sym (has_push slices (one_slice k) j) ∙ found)) [
      | inl earlier ↦ let before = (so_far.each j).0 earlier in (before.0, before.1, omega (arith, before.2))
      | inr here ↦ let same : j ≡ k = in_one k j here in (subst (CanStart s q t) (sym same) can, omega (arith, same, above), omega (arith, same))
    ],
    λ (start, from_on, below). has_push slices (one_slice k) j ∙ elim (cases_lt j k) [
      | inl earlier ↦ or_true_left (has slices j) (span_has (one_slice k) j) ((so_far.each j).1 (start, from_on, earlier))
      | inr later ↦
          let same : k ≡ j = omega (arith, later, below) in
          or_true_right (has slices j) (span_has (one_slice k) j) (subst (λ (i : ℕ). IsTrue (span_has (one_slice k) i)) same (one_has k))
    ],
  );
}

pub not_tried : (s : Parts) (q : RequestPart) (t : TelescopeNo) (from k : ℕ) (slices : List Span) → ¬ (CanStart s q t k)
    → AreTried s q t from k slices → AreTried s q t from (k + 1) slices
not_tried s q t from k slices cannot so_far = record {
  each = λ j. (
    λ found. let before = (so_far.each j).0 found in (before.0, before.1, omega (arith, before.2)),
    λ (start, from_on, below). (so_far.each j).1 (
      start,
      from_on,
      elim (cases_lt j k) [
        | inl earlier ↦ earlier
        | inr later ↦ let same : j ≡ k = omega (arith, later, below) in absurd (cannot (subst (CanStart s q t) same start))
      ],
    ),
  );
}

pub all_tried : (s : Parts) (q : RequestPart) (t : TelescopeNo) (from last to : ℕ) (slices set : List Span) → to ≤ last → (from ≤ to → last ≤ to)
    → (to ≤ from → last ≡ from) → AreTried s q t from last slices → IsSetOf (has slices) set
    → AreSlices (λ k. CanStart s q t k × (from ≤ k) × (k < to)) set
all_tried s q t from last to slices set past end still tried is_set =
    set_slices (λ k. CanStart s q t k × (from ≤ k) × (k < to)) slices set
    (λ k. (
      λ found. let all = (tried.each k).0 found in (
        all.0,
        all.1,
        elim (cases_lt from to) [
          | inl some ↦ let most : last ≤ to = end (omega (arith, some)) in omega (arith, all.2, most)
          | inr none ↦ let same : last ≡ from = still none in absurd (omega (arith, all.1, all.2, same))
        ],
      ),
      λ (can, above, below). (tried.each k).1 (can, above, omega (arith, below, past)),
    )) is_set

either : (b : Bool) → (b ≡ true) ⊎ (b ≡ false)
either true = inl refl
either false = inr refl

-- what the earlier horizon hasn't, though the later one has it, lies after it
after_earlier : (horizon earlier : Span) (k : ℕ) → earlier.from.0 ≤ horizon.from.0 → IsTrue (span_has horizon k) → span_has earlier k ≡ false
    → (earlier.to.0 ≤ k) × (k < horizon.to.0)
after_earlier horizon earlier k order now told = (grind (arith, nat_tests), grind (arith, nat_tests))

-- those that stay and those that are new are all
pub stay_and_new : (s : Parts) (q : RequestPart) (t : TelescopeNo) (horizon earlier : Span) (stay new all : List Span)
    → IsHorizonFor s q.seconds horizon → earlier.from.0 ≤ horizon.from.0
    → AreSlices (λ k. CanStart s q t k × IsTrue (span_has earlier k)) stay → AreSlices (λ k. CanStart s q t k × (earlier.to.0 ≤ k) × (k < horizon.to.0)) new
    → ((k : ℕ) → has all k ≡ (has stay k || has new k)) → IsSortedApart all → AreSlices (CanStart s q t) all
stay_and_new s q t horizon earlier stay new all is_horizon order are_stay are_new each sorted = record {
  each = λ k. (
    λ found. elim (or_true_cases (has stay k) (has new k) (sym (each k) ∙ found)) [
      | inl here ↦ ((are_stay.each k).0 here).0
      | inr there ↦ ((are_new.each k).0 there).0
    ],
    λ can. each k ∙ elim (either (span_has earlier k)) [
      | inl told ↦ or_true_left (has stay k) (has new k) ((are_stay.each k).1 (can, told))
      | inr untold ↦
          let now : IsTrue (span_has horizon k) = (is_horizon.each k).1 (can.timely.begins, can.timely.ends) in
          let after = after_earlier horizon earlier k order now untold in
          or_true_right (has stay k) (has new k) ((are_new.each k).1 (can, after.0, after.1))
    ],
  );
  sorted = sorted;
}

pub none_new : (stay new : List Span) (k : ℕ) → new ≡ [] → has stay k ≡ (has stay k || has new k)
none_new stay new k e = sym (or_false (has stay k)) ∙ ap (λ (spans : List Span). has stay k || has spans k) (sym e)
