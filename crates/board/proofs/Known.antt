-- What the rule tells a seat of the words.
use Rattle.std.proofs.Common.{◌≡◌, ℕ, suc, ◌+◌, ◌*◌, ◌≤◌, List, [], ◌∷◌, min, max, refl, sym, ap, ◌∙◌, arith, length, add_assoc, add_comm}
use Rattle.std.proofs.Math.Nat.{min_comm}
use mathlib.Core.Option.{some}
use lib.ListN.{get_elem?}
use Rattle.board.specs.declared.seat.SeatView.{SeatView}
use Rattle.board.specs.Views.{no_bound, all_seats, most_claims, times, total, least_of, greatest_of, all_times, all_claims, all_parts, EachOnce, IsOnlySeat}
use Rattle.board.specs.Steps.{IsBoundFor, IsValueFor, IsCounterFor}
use Rattle.board.specs.Rule.{IsIdle, IsWithin, EachView, Rule}
use Rattle.board.proofs.Together.{total_at, together_whole}
use Rattle.board.proofs.Changes.{least_at, greatest_at, min_assoc, max_assoc, max_comm}
use Rattle.board.proofs.Claims.{below_count}

module _ (a b c : ℕ) (vs : List SeatView) (i : ℕ) (v : SeatView) (rule : Rule a b c vs) (at : get_elem? vs i ≡ some v) where
  idle : (j : ℕ) (w : SeatView) → get_elem? vs j ≡ some w → w.seats ≡ 0 → IsIdle w
  idle j w there none = let within : IsWithin a b w = rule.within j w there in within.spent none

  -- of the only seat, the sum over all views is its own
  only_total : (f : SeatView → ℕ) → ((w : SeatView) → IsIdle w → f w ≡ 0) → IsOnlySeat v → total f vs ≡ f v
  only_total f none only =
      let whole : total f vs ≡ f v + 0 = together_whole ◌+◌ 0 add_comm add_assoc f refl vs i v (λ j w there z. none w (idle j w there z)) at
      (rule.parts ∙ sym only) in
      omega arith

  pub bound_known : IsBoundFor v a
  bound_known =
      let within : IsWithin a b v = rule.within i v at in
      let least : a ≡ least_of vs = rule.least in
      let mine : min v.least_given (least_of vs) ≡ least_of vs = least_at vs i v at in
      record {
        given = omega arith;
        seen = within.lowest_seen;
        alone = λ only.
            let whole : least_of vs ≡ min v.least_given no_bound =
            together_whole min no_bound min_comm min_assoc (λ u. u.least_given) refl vs i v (λ j w there z. let k : IsIdle w = idle j w there z in
            k.bound) at (rule.parts ∙ sym only) in
            let limit : v.least_given ≤ no_bound = within.limit in
            omega arith;
      }

  pub value_known : IsValueFor v b
  value_known =
      let within : IsWithin a b v = rule.within i v at in
      let greatest : b ≡ greatest_of vs = rule.greatest in
      let mine : max v.greatest_given (greatest_of vs) ≡ greatest_of vs = greatest_at vs i v at in
      record {
        given = omega arith;
        seen = within.greatest_seen;
        alone = λ only.
            let whole : greatest_of vs ≡ max v.greatest_given 0 =
            together_whole max 0 max_comm max_assoc (λ u. u.greatest_given) refl vs i v (λ j w there z. let k : IsIdle w = idle j w there z in
            k.value) at (rule.parts ∙ sym only) in
            omega arith;
      }

  only_counts : IsOnlySeat v → all_claims vs ≡ length v.claims
  only_counts only = only_total (λ u. length u.claims) (λ w k. ap (λ (l : List ℕ). length l) k.claims) only

  pub counter_known : IsCounterFor v c
  counter_known =
      let counted : c ≡ all_claims vs = rule.counted in
      let mine : length v.claims ≤ all_claims vs = total_at (λ u. length u.claims) vs i v at in
      record {
        rising = below_count c v.claims (λ number le.
            let all : all_times number vs ≡ 0 = (rule.claimed number).1 le in
            let here : times number v.claims ≤ all_times number vs = total_at (λ u. times number u.claims) vs i v at in
            omega arith);
        count = omega arith;
        alone = λ only. counted ∙ only_counts only;
      }

  -- the only seat claimed each number below the counter once
  pub only_claims : IsOnlySeat v → EachOnce c (λ number. times number v.claims)
  only_claims only = λ number.
      let all : all_times number vs ≡ times number v.claims =
      only_total (λ u. times number u.claims) (λ w k. ap (λ (l : List ℕ). times number l) k.claims) only in
      ((λ lt. sym all ∙ (rule.claimed number).0 lt), (λ le. sym all ∙ (rule.claimed number).1 le))

-- all claims are no more than the seats may make
claims_fit : (a b : ℕ) (vs : List SeatView) → EachView (IsWithin a b) vs → all_claims vs ≤ most_claims * all_parts vs
claims_fit a b [] each = omega arith
claims_fit a b (x ∷ vs) each =
    let within : IsWithin a b x = each 0 x refl in
    let here : length x.claims ≤ most_claims * x.seats = within.room in
    let rest : all_claims vs ≤ most_claims * all_parts vs = claims_fit a b vs (λ j v at. each (suc j) v at) in
    omega arith

-- the counter never wraps
pub counter_limit : (a b c : ℕ) (vs : List SeatView) → Rule a b c vs → c ≤ most_claims * all_seats
counter_limit a b c vs rule =
    let counted : c ≡ all_claims vs = rule.counted in
    let fit : all_claims vs ≤ most_claims * all_parts vs = claims_fit a b vs rule.within in
    let parts : all_parts vs ≡ all_seats = rule.parts in
    omega arith
