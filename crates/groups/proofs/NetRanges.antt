-- Net prices lie in their range where the prices and the quota prices are those that a claim may have.
use Rattle.std.proofs.Common.{ℕ, ◌≤◌, ℤ, List, All, arith}
use Rattle.std.proofs.lemmas.Int.{ints}
use Rattle.std.proofs.lemmas.List.Elements.{Contains-get_or, All-map}
use Rattle.plan_base.specs.declared.parts.Parts.{Parts}
use Rattle.plan_base.specs.Requests.{listed}
use Rattle.plan_base.specs.Snapshot.{IsOrderly}
use Rattle.plan_base.specs.Bound.{net_price}
use Rattle.plan_base.specs.Verdict.{IsPriceInRange}
use Rattle.plan_base.proofs.Limits.{net_price_between}
use Rattle.plan_base.proofs.Members.{listed_known}
use Rattle.plan_base.specs.NetPrices.{IsNetInRange, net_prices}

pub nets_in_range : (s : Parts) (prices : List ℤ) (quota_prices : List ℕ) → IsOrderly s → All IsPriceInRange prices
    → All (λ u. u ≤ 200000) quota_prices → All IsNetInRange (net_prices s prices quota_prices)
nets_in_range s prices quota_prices o a u =
    All-map IsNetInRange (λ x. net_price s prices quota_prices x.request.request.0) (listed s)
    (λ i d l. let both = net_price_between s prices quota_prices _ o (listed_known s _ (Contains-get_or (listed s) i d l)) a u in
    (both.0, omega (arith, ints, both.1)))
