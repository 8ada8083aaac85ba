-- A worker that has yet to work.
use Rattle.std.proofs.Common.{◌≡◌, ℕ, ◌≤◌, inl, List, [], length, refl, sym, ap, subst, arith}
use Rattle.std.specs.Prelude.{Contains, pos}
use Rattle.std.proofs.lemmas.List.{length-replicate}
use Rattle.std.proofs.lemmas.Int.{ints}
use Rattle.std.proofs.lemmas.List.Elements.{All-replicate}
use Rattle.plan_base.specs.declared.parts.Parts.{Parts}
use Rattle.plan_base.specs.declared.claim.Settings.{Settings}
use Rattle.plan_base.specs.declared.claim.Placement.{Placement}
use Rattle.plan_base.specs.Limits.{most_quota_price}
use Rattle.plan_base.specs.Requests.{listed}
use Rattle.plan_base.specs.Feasible.{IsFeasible}
use Rattle.plan_base.specs.Verdict.{IsPriceInRange}
use Rattle.board.specs.declared.seat.SeatView.{SeatView}
use Rattle.lanes.specs.Found.{FoundSeen, nothing, ArePrices}
use Rattle.lanes.specs.Searched.{IsMade, IsSearched}
use Rattle.lanes.specs.InStep.{IsInStep}
use Rattle.lanes.specs.Solving.{IsUnused}
use Rattle.lanes.proofs.Finding.{none_found}

pub nothing_priced : (s : Parts) (opening : ℕ) → ArePrices s (nothing s opening).prices (nothing s opening).quota_prices
nothing_priced s opening = record {
  count = length-replicate (length (listed s)) (pos 0);
  quota_count = length-replicate (length s.quotas) 0;
  range = All-replicate IsPriceInRange (length (listed s)) (pos 0) ((omega (arith, ints)), (omega (arith, ints)));
  quota_range = All-replicate (λ u. u ≤ most_quota_price) (length s.quotas) 0 (omega arith);
}

none_made : (j k : ℕ) → ¬ (IsMade [] j k)
none_made j k m = absurd (omega (arith, m.2))

-- no lane is in step, and none was before
pub in_step_new : (s : Parts) (settings : Settings) (opening : ℕ) (v : SeatView) (f : FoundSeen) → f ≡ nothing s opening → IsUnused 0 v
    → IsInStep s settings opening v f [] []
in_step_new s settings opening v f is unused = record {
  before = [];
  within = λ j k m. absurd (none_made j k m);
  claimed = λ j k m. absurd (none_made j k m);
  found = none_found s settings.workers (IsMade []) f opening none_made (ap (λ (g : FoundSeen). g.bound) is) (ap (λ (g : FoundSeen). g.value) is)
      (ap (λ (g : FoundSeen). g.plan) is)
      (subst (λ (g : FoundSeen). ArePrices s g.prices g.quota_prices) (sym is) (nothing_priced s opening));
  bound_given = inl unused.bound;
  value_given = inl (let m = unused.value in omega arith);
  count = refl;
  taken = λ l c lt. absurd (omega arith);
  each = λ l c g lt. absurd (omega arith);
  rising = λ i j c lt less. absurd (omega arith);
  done = λ j c lt. absurd (let n = subst (λ (xs : List ℕ). Contains xs j) unused.claims c in omega (arith, n.1));
}

-- nothing was searched yet, and the plan to begin with is held
pub searched_new : (s : Parts) (settings : Settings) (opening : ℕ) (greedy : List Placement) (v : SeatView) (f : FoundSeen)
    → f ≡ record (nothing s opening) { plan = greedy } → IsUnused opening v
    → IsFeasible s greedy → IsSearched s settings opening greedy v f
searched_new s settings opening greedy v f is unused feasible = record {
  made = [];
  within = λ j k m. absurd (none_made j k m);
  claimed = λ j k m. absurd (none_made j k m);
  found = record {
    bound = inl (none_made, ap (λ (g : FoundSeen). g.bound) is);
    value = record {
      above_opening = (let e = ap (λ (g : FoundSeen). g.value) is in omega arith);
      above = λ j k c u q m. absurd (none_made j k m);
      reached = inl (ap (λ (g : FoundSeen). g.value) is, ap (λ (g : FoundSeen). g.plan) is);
    };
    prices = subst (λ (g : FoundSeen). ArePrices s g.prices g.quota_prices) (sym is) (nothing_priced s opening);
    feasible = subst (λ (g : FoundSeen). IsFeasible s g.plan) (sym is) feasible;
  };
  bound_given = inl unused.bound;
  value_given = inl (let m = unused.value in omega arith);
  lanes = λ j c lt. absurd (let n = subst (λ (xs : List ℕ). Contains xs j) unused.claims c in omega (arith, n.1));
}
