-- What is said of a rebate.
use Rattle.std.proofs.Common.{◌≡◌, ℕ, inr, ℤ, pos, ◌≤ℤ◌, List, [], length, subst, arith}
use Rattle.std.proofs.lemmas.List.Elements.{All-nil}
use Rattle.plan_base.specs.declared.parts.Parts.{Parts}
use Rattle.plan_base.specs.Requests.{listed, IsOf}
use Rattle.plan_base.specs.Bound.{price, net_price, IsRebate}
use Rattle.plan_base.specs.NetPrices.{net_prices}
use Rattle.plan_base.proofs.NetLists.{nets_are}

-- a rebate at the list of net prices is one at the net prices
pub rebate_at_net : (s : Parts) (net : List ℤ) (g : ℕ) (b : ℤ) → IsRebate s (price s net) g b → (given : List ℤ) (quota_prices : List ℕ)
    → length given ≡ length (listed s)
    → net ≡ net_prices s given quota_prices → IsRebate s (net_price s given quota_prices) g b
rebate_at_net s net g b h given quota_prices count is = subst (λ (c : ℕ → ℤ). IsRebate s c g b) (nets_are s given quota_prices net count is) h

-- it isn't negative, since nothing may be chosen
pub rebate_least : (s : Parts) (c : ℕ → ℤ) (g : ℕ) (b : ℤ) → IsRebate s c g b → pos 0 ≤ℤ b
rebate_least s c g b h = h.bound [] (record {
  members = All-nil (IsOf s g);
  once = λ i j d l m. absurd (omega arith);
  one_of = λ kind. omega arith;
  whole = λ kind. inr (λ r of has. absurd (omega (arith, has.1)));
})
