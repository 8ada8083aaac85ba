-- The horizon of a kept desk, and the spans that are cut to it.
use Rattle.std.proofs.Common.{◌≡◌, ℕ, ◌+◌, ◌*◌, ◌<◌, ◌≤◌, Bool, not, ◌&&◌, List, [], ◌∷◌, length, ◌∙◌, inl, inr, arith, nat_le}
use Rattle.std.specs.Prelude.{◌==◌, filter, All}
use Rattle.std.proofs.Math.Nat.{mul-le-mul, mul-le-mul_right, mul_comm, add-mul}
use Rattle.std.proofs.lemmas.Bool.{cases_lt}
use Rattle.std.proofs.lemmas.Bool.Decides.{nat_tests}
use Rattle.std.proofs.lemmas.List.{length-map}
use Rattle.std.proofs.lemmas.List.Sums.{length-filter, count_by-le-length}
use Rattle.plan_base.specs.declared.span.Span.{Span}
use Rattle.plan_base.specs.Limits.{most_moment}
use Rattle.plan_base.specs.Starts.{slices_for}
use Rattle.plan_json.specs.Moment.{last_moment}
use Rattle.interval_set.specs.Spans.{has, IsSetOf, IsMeet, IsDifference}
use Rattle.interval_set.proofs.Counts.{meet_is_shorter, difference_is_no_longer}
use Rattle.desk_runs.specs.declared.observation.Observation.{Observation}
use Rattle.desk_core.specs.Desk.{DeskSeen}
use Rattle.desk_core.specs.Kept.{IsDesk}
use Rattle.desk_core.specs.DeskSnapshot.{first_slice, horizon_from, horizon_to, horizon_span, in_horizon, observation_span, observed_on}
use Rattle.desk_core.proofs.Seconds.{set_below, ended_below}

-- ---- the horizon

-- the first slice begins at a moment or after it, by less than a slice
pub record IsNextSlice (len now : ℕ) : Type 0 where
  pub later : now ≤ slices_for len now * len
  pub soon : slices_for len now * len < now + len

pub next_slice : (len now : ℕ) → 0 < len → IsNextSlice len now
next_slice len now positive =
    let q = slices_for len now in
    let turned : len * q ≡ q * len = mul_comm len q in
    record { later = omega (arith, turned); soon = omega (arith, turned) }

-- the horizon begins now or later, and it ends before the last second that a span may name
pub record IsHorizon (d : DeskSeen) : Type 0 where
  pub later : d.progress.moment.0 ≤ horizon_from d
  pub first : first_slice d ≤ 4223371680
  pub order : horizon_from d < horizon_to d
  pub last : horizon_to d ≤ most_moment

pub horizon : (d : DeskSeen) → IsDesk d → IsHorizon d
horizon d h =
    let len = d.opening.slice in
    let low = h.opening.slice.low in
    let next = next_slice len d.progress.moment.0 (omega arith) in
    let more : horizon_to d ≡ horizon_from d + d.opening.horizon * len = add-mul (first_slice d) d.opening.horizon len in
    let least : 1 * len ≤ d.opening.horizon * len = mul-le-mul_right len h.opening.horizon.low in
    let most : d.opening.horizon * len ≤ 1440 * 3600 = mul-le-mul h.opening.horizon.high h.opening.slice.high in
    record {
      later = next.later;
      first = first_low (first_slice d) len d.progress.moment.0 h.opening.slice.low next.soon h.moment;
      order = omega arith;
      last = omega arith;
    }
  where
    first_low : (q len now : ℕ) → 60 ≤ len → q * len < now + len → now ≤ last_moment → q ≤ 4223371680
    first_low q len now low soon bound = elim (cases_lt 4223371680 q) [
      | inl above ↦ let product : 4223371681 * len ≤ q * len = mul-le-mul_right len above in absurd (omega arith)
      | inr le ↦ le
    ]

-- ---- cut spans

-- the seconds of the horizon that pass
pub seconds_in : (d : DeskSeen) (test : ℕ → Bool) → IsSetOf (λ x. test x && has (horizon_span d ∷ []) x) (in_horizon d test)
seconds_in d test =
    let set = set_below (λ x. nat_le (horizon_from d) x && test x) (horizon_to d) in
    record { seconds = λ x. set.seconds x ∙ grind (arith, nat_tests); sorted = set.sorted }

-- the moments of cut spans may be named
pub moments_in : (d : DeskSeen) (test : ℕ → Bool) → IsDesk d → All (λ w. (w.from.0 ≤ most_moment) × (w.to.0 ≤ most_moment)) (in_horizon d test)
moments_in d test h k e lt =
    let end = ended_below (λ x. nat_le (horizon_from d) x && test x) (horizon_to d) k e lt in
    let full = (seconds_in d test).sorted.nonempty k e lt in
    let last = (horizon d h).last in
    (omega arith, omega arith)

-- cutting leaves no more spans
pub cut_short : (d : DeskSeen) (spans : List Span) → length (in_horizon d (has spans)) ≤ length spans
cut_short d spans =
    let meet : IsMeet spans (horizon_span d ∷ []) (in_horizon d (has spans)) = seconds_in d (has spans) in
    omega (arith, meet_is_shorter spans (horizon_span d ∷ []) (in_horizon d (has spans)) meet)

-- what two lists take away leaves no more spans than all three have
pub taken_short : (d : DeskSeen) (night closed observed : List Span) (test : ℕ → Bool)
    → ((x : ℕ) → test x ≡ (has night x && (not (has closed x) && not (has observed x))))
    → length (in_horizon d test) ≤ length night + length closed + length observed
taken_short d night closed observed test is =
    let one = in_horizon d (has night) in
    let two = in_horizon d (λ x. has night x && not (has closed x)) in
    let cut = seconds_in d (has night) in
    let left = seconds_in d (λ x. has night x && not (has closed x)) in
    let all = seconds_in d test in
    let less : IsDifference one closed two = record { seconds = λ x. grind (arith, cut.seconds x, left.seconds x); sorted = left.sorted } in
    let least : IsDifference two observed (in_horizon d test) =
    record { seconds = λ x. grind (arith, left.seconds x, all.seconds x, is x); sorted = all.sorted } in
    omega (arith, cut_short d night, difference_is_no_longer one closed two less, difference_is_no_longer two observed (in_horizon d test) least)

-- ---- running observations

-- no more spans run on a telescope than on all
pub observed_short : (d : DeskSeen) (t : ℕ) → length (observed_on d t) ≤ length d.progress.running
observed_short d t =
    let running = d.progress.running in
    let test : Observation → Bool = λ o. o.telescope.0 == t in
    omega (arith, length-map (filter test running) (observation_span d.progress.len), length-filter test running, count_by-le-length test running)
