-- A lane in step makes its next round.
use Rattle.std.proofs.Common.{◌≡◌, ℕ, ◌+◌, ◌<◌, inl, inr, List, [], length, slice_index_or, slice_set, refl, sym, ap, subst, ◌∙◌, arith}
use Rattle.std.specs.Prelude.{AllPairs, Contains}
use Rattle.std.proofs.lemmas.List.{get_or-set_same, get_or-set_other, length-set, get_or_default}
use Rattle.std.proofs.Math.Seq.{map-set_same}
use Rattle.std.proofs.lemmas.List.Elements.{All-set}
use mathlib.Core.Logic.{dite}
use native.Mathlib.Decide.{ℕ_discrete, dec_le}
use Rattle.plan_base.specs.declared.parts.Parts.{Parts}
use Rattle.plan_base.specs.declared.claim.Settings.{Settings}
use Rattle.plan_base.specs.declared.claim.Placement.{Placement}
use Rattle.plan_base.specs.Snapshot.{IsOrderly}
use Rattle.plan_base.specs.Planned.{IsEarlierRound}
use Rattle.board.specs.declared.seat.SeatView.{SeatView}
use Rattle.board.specs.Steps.{after_lower, after_raise}
use Rattle.lanes.specs.declared.lane_prices.LanePrices.{LanePrices}
use Rattle.lanes.specs.declared.worker.LaneFound.{LaneFound}
use Rattle.lanes.specs.Rounds.{IsAnswer}
use Rattle.lanes.specs.Found.{FoundSeen, bettered, IsFound}
use Rattle.lanes.specs.Searched.{IsMade, IsBoundGiven, IsValueGiven, IsMetFor}
use Rattle.lanes.specs.InStep.{IsMadeIn, IsMadeSoFar, lanes_of, IsTakenLane, IsFoundInStep, IsInStep}
use Rattle.lanes.proofs.Finding.{bound_given_more, value_given_more, found_same, found_by_either, either, IsThis, answer_later}
use Rattle.lanes.proofs.Lists.{any_set, same_or_not}
use Rattle.lanes.proofs.InStep.{met_more, taken_on, found_on, done_on}

-- the lane after its round
pub record IsLaneAfter (x after : LanePrices) : Type 0 where
  pub lane : after.lane ≡ x.lane
  pub made : after.made ≡ x.made + 1

-- what a round gives
abbrev pub given : LanePrices → ℕ → ℕ → List Placement → FoundSeen
given x bound value plan = record { bound = bound; prices = x.prices.0; quota_prices = x.quota_prices.0; value = value; plan = plan }

-- what a lane has found with its next round
found_next : (s : Parts) (workers : ℕ) (x after : LanePrices) (f g : FoundSeen) → IsOrderly s → IsLaneAfter x after → g.prices ≡ x.prices.0
    → g.quota_prices ≡ x.quota_prices.0
    → IsAnswer s x g.bound g.value g.plan → IsFound s workers (IsMadeIn x) 0 [] f → IsFound s workers (IsMadeIn after) 0 [] (bettered f g)
found_next s workers x after f g orderly is prices quota_prices answer found =
    let before : workers ≡ 1 → (i k j l : ℕ) → IsMadeIn x i k → IsThis x j l → IsEarlierRound i k j l =
    λ alone i k j l a b. inr (sym a.0 ∙ b.0, (let c = a.1 in let d = b.1 in omega arith)) in
    let both = found_by_either s workers (IsMadeIn x) (IsThis x) before 0 [] f g orderly found
    (answer_later s workers 0 x g orderly prices quota_prices answer) in
    found_same s (either s workers (IsMadeIn x) (IsThis x) before) (IsMadeIn after)
    (λ j k h. elim h [
      | inl a ↦ ((is.lane ∙ a.0), (let e = is.made in let c = a.1 in omega arith))
      | inr b ↦ ((is.lane ∙ b.0), (let e = is.made in let c = b.1 in omega arith))
    ])
    workers 0 [] (bettered f g)
    (λ j k h. dite (ℕ_discrete k x.made) (λ same. inr (sym is.lane ∙ h.0, same))
    (λ other. inl (sym is.lane ∙ h.0, (let e = is.made in let c = h.1 in omega arith))))
    both

module _ (s : Parts) (settings : Settings) (opening : ℕ) (v : SeatView) (f : FoundSeen) (lanes : List LanePrices) (founds : List LaneFound)
    (h : IsInStep s settings opening v f lanes founds) (orderly : IsOrderly s) (l : ℕ) (within : l < length lanes) (d after : LanePrices)
    (is : IsLaneAfter (slice_index_or lanes l d) after)
    (left : (slice_index_or lanes l d).made < settings.rounds) where
  abbrev x : LanePrices
  x = slice_index_or lanes l d

  abbrev next : List LanePrices
  next = slice_set lanes l after

  more : (j k : ℕ) → IsMadeSoFar h.before lanes j k → IsMadeSoFar h.before next j k
  more j k (inl b) = inl b
  more j k (inr a) = inr (any_set (λ y. IsMadeIn y j k) lanes l after within (λ m. (
    is.lane ∙ sym (ap (λ (y : LanePrices). y.lane) (get_or_default lanes l after d within)) ∙ m.0,
    (let e = is.made in let c = m.1 in let g = ap (λ (y : LanePrices). y.made) (get_or_default lanes l after d within) in omega arith),
  )) a)

  -- the round is now made
  this : IsMadeSoFar h.before next x.lane x.made
  this = inr (
    l,
    after,
    (let n = length-set lanes l after in omega arith),
    get_or-set_same lanes l after after within,
    (is.lane, (let e = is.made in omega arith)),
  )

  names : lanes_of next ≡ lanes_of lanes
  names = map-set_same (λ y. y.lane) lanes l after d is.lane

  -- it is told to the board
  module _ (bound value low high : ℕ) (plan : List Placement) (answer : IsAnswer s x bound value plan) where
    abbrev told : SeatView
    told = after_raise (after_lower v bound low) value high

    seen : IsMetFor v → IsMetFor told
    seen met = omega (arith)

    bound_told : IsBoundGiven s (IsMadeSoFar h.before next) told.least_given
    bound_told = dite (dec_le v.least_given bound)
        (λ le. subst (IsBoundGiven s (IsMadeSoFar h.before next)) (let e : v.least_given ≡ told.least_given = omega arith in
        e) (bound_given_more s (IsMadeSoFar h.before lanes) (IsMadeSoFar h.before next) more v.least_given h.bound_given))
        (λ no. subst (IsBoundGiven s (IsMadeSoFar h.before next)) (let e : bound ≡ told.least_given = omega arith in e) (inr (
          x.prices.0,
          x.quota_prices.0,
          record {
            lane = x.lane;
            round = x.made;
            was_made = this;
            gives = answer.is_lane.is_round;
            is_bound = answer.bound;
          },
        )))

    value_told : IsValueGiven s (IsMadeSoFar h.before next) opening told.greatest_given
    value_told = dite (dec_le value v.greatest_given)
        (λ le. subst (IsValueGiven s (IsMadeSoFar h.before next) opening) (let e : v.greatest_given ≡ told.greatest_given = omega arith in
        e) (value_given_more s (IsMadeSoFar h.before lanes) (IsMadeSoFar h.before next) more opening v.greatest_given h.value_given))
        (λ no. subst (IsValueGiven s (IsMadeSoFar h.before next) opening) (let e : value ≡ told.greatest_given = omega arith in e) (inr (
          plan,
          record {
            lane = x.lane;
            round = x.made;
            prices = x.prices.0;
            quota_prices = x.quota_prices.0;
            was_made = this;
            gives = answer.is_lane.is_round;
            repaired = answer.repaired;
            worth = answer.worth;
          },
        )))

    -- lanes in step after the round
    pub round_made : (e y : LaneFound) → y.stopped ≡ (slice_index_or founds l e).stopped
        → y.found ≡ bettered (slice_index_or founds l e).found (given x bound value plan) → IsInStep s settings opening told f next (slice_set founds l y)
    round_made e y stopped found =
        let longs : length next ≡ length lanes = length-set lanes l after in
        let count : length founds ≡ length lanes = h.count in
        let t = h.taken l d within in
        record {
          before = h.before;
          within = h.within;
          claimed = h.claimed;
          found = h.found;
          bound_given = bound_told;
          value_given = value_told;
          count = length-set founds l y ∙ h.count ∙ sym longs;
          taken = All-set (IsTakenLane settings told h.before) lanes l after (record {
            known = (let n = t.known in let a = is.lane in omega arith);
            rounds = (let a = is.made in omega arith);
            claimed = subst (Contains v.claims) (sym is.lane) t.claimed;
            later = λ i k m. (let b = t.later i k m in let a = is.lane in omega arith);
          }) (taken_on settings v told (λ j c. c) h.before lanes h.taken);
          each = λ k c g lt. elim (same_or_not k l) [
            | inl same ↦
                let here : slice_index_or next k c ≡ after = ap (λ (i : ℕ). slice_index_or next i c) same ∙ get_or-set_same lanes l after c within in
                let there : slice_index_or (slice_set founds l y) k g ≡ y = ap (λ (i : ℕ). slice_index_or (slice_set founds l y) i g) same
                ∙ get_or-set_same founds l y g (omega arith) in
                let old = h.each l d e within in
                subst (λ (z : LanePrices). IsFoundInStep s settings opening told (IsMadeSoFar h.before next) z
                (slice_index_or (slice_set founds l y) k g)) (sym here)
                (subst (λ (z : LaneFound). IsFoundInStep s settings opening told (IsMadeSoFar h.before next) after z) (sym there) (record {
                  found = subst (λ (z : FoundSeen). IsFound s settings.workers (IsMadeIn after) 0 [] z) (sym found)
                      (found_next s settings.workers x after (slice_index_or founds l e).found
                      (given x bound value plan) orderly is refl refl answer old.found);
                  stopped = λ yes.
                      let u = old.stopped (sym stopped ∙ yes) in (
                        seen u.0,
                        λ alone. met_more s (IsMadeSoFar h.before lanes) (IsMadeSoFar h.before next) opening x.lane after.lane more
                            (let a = is.lane in omega arith) (u.1 alone),
                      );
                }))
            | inr other ↦
                subst (λ (z : LanePrices). IsFoundInStep s settings opening told (IsMadeSoFar h.before next) z
                (slice_index_or (slice_set founds l y) k g)) (sym (get_or-set_other lanes l k after c other))
                (subst (λ (z : LaneFound). IsFoundInStep s settings opening told (IsMadeSoFar h.before next) (slice_index_or lanes k c) z)
                (sym (get_or-set_other founds l k y g other))
                (found_on s settings opening v told seen (IsMadeSoFar h.before lanes) (IsMadeSoFar h.before next) _ _ more (h.each k c g (omega arith))))
          ];
          rising = subst (AllPairs (λ a b. a < b)) (sym names) h.rising;
          done = λ j c lt. elim (h.done j c lt) [
            | inl done ↦ inl (done_on s settings opening v told seen (IsMade h.before) j done)
            | inr here ↦ inr
                (subst (λ (xs : List ℕ). Contains xs j) (sym names) here)
          ];
        }
