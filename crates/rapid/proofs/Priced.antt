-- The price of a new request.
use Rattle.std.proofs.Common.{◌≡◌, ℕ, ◌+◌, ◌^◌, ◌<◌, ◌≤◌, inl, inr, ℤ, pos, ◌<ℤ◌, List, [], ◌∷◌, ◌++◌, refl, subst, arith}
use Rattle.std.proofs.lemmas.Int.{ints}
use Rattle.plan_base.specs.declared.parts.Parts.{Parts}
use Rattle.plan_base.specs.declared.claim.Claim.{Claim}
use Rattle.plan_base.specs.Bound.{IsBound}
use Rattle.plan_base.specs.Verdict.{IsPriceInRange}
use Rattle.rapid.specs.declared.pricing.Pricing.{Pricing}
use Rattle.rapid.specs.Tables.{AreTables}
use Rattle.rapid.specs.Placing.{IsPricedSo}

pub bound_fits : (b : ℕ) → pos b <ℤ pos (10 ^ 17) → b < 10 ^ 17
bound_fits b l = omega (arith, ints)

pub value_in_range : (n : ℕ) → n ≤ 288000000 → IsPriceInRange (pos n)
value_in_range n l = (omega (arith, ints), omega (arith, ints))

pub zero_in_range : IsPriceInRange (pos 0)
zero_in_range = value_in_range 0 (omega arith)

-- at 0, where the bound is low enough
pub free_price : (s : Parts) (claim : Claim) (value : ℕ) (p : Pricing) → p.prices.0 ≡ claim.prices.0 ++ pos 0 ∷ []
    → IsBound s p.prices.0 claim.quota_prices.0 (pos p.bound) → AreTables s p.prices.0 p.tables → p.bound < claim.bound + value
    → IsPricedSo s claim value p
free_price s claim value p e bound tables less = record {
  price = pos 0;
  new_price = record {
    bound = pos p.bound;
    with_0 = subst (λ (cs : List ℤ). IsBound s cs claim.quota_prices.0 (pos p.bound)) e bound;
    choice = inl ((omega (arith, ints)), refl);
  };
  in_range = zero_in_range;
  prices = e;
  tables = tables;
  bound = bound;
}

-- at the value elsewhere
pub full_price : (s : Parts) (claim : Claim) (value : ℕ) (free p : Pricing) → value ≤ 288000000 → free.prices.0 ≡ claim.prices.0 ++ pos 0 ∷ []
    → IsBound s free.prices.0 claim.quota_prices.0 (pos free.bound) → claim.bound + value ≤ free.bound
    → p.prices.0 ≡ claim.prices.0 ++ pos value ∷ [] → IsBound s p.prices.0 claim.quota_prices.0 (pos p.bound) → AreTables s p.prices.0 p.tables
    → IsPricedSo s claim value p
full_price s claim value free p most free_e free_bound more e bound tables = record {
  price = pos value;
  new_price = record {
    bound = pos free.bound;
    with_0 = subst (λ (cs : List ℤ). IsBound s cs claim.quota_prices.0 (pos free.bound)) free_e free_bound;
    choice = inr ((omega (arith, ints)), refl);
  };
  in_range = value_in_range value most;
  prices = e;
  tables = tables;
  bound = bound;
}
