-- What an insertion makes of a certified claim.
use Rattle.std.proofs.Common.{◌≡◌, ℕ, ◌+◌, ◌-◌, ◌<◌, ◌≤◌, ◌^◌, ℤ, pos, List, [], ◌∷◌, ◌++◌, length, All, sym, ◌∙◌, ap, subst, length-append, arith}
use Rattle.std.specs.Prelude.{HoldsAt}
use Rattle.std.proofs.lemmas.List.Elements.{All-push}
use Rattle.plan_base.specs.declared.parts.Parts.{Parts}
use Rattle.plan_base.specs.declared.parts.GroupPart.{GroupPart}
use Rattle.plan_base.specs.declared.parts.RequestPart.{RequestPart}
use Rattle.plan_base.specs.declared.parts.Op.TheVariants.{Single}
use Rattle.plan_base.specs.declared.claim.Placement.{Placement}
use Rattle.plan_base.specs.declared.claim.Claim.{Claim}
use Rattle.plan_base.specs.Requests.{listed}
use Rattle.plan_base.specs.Snapshot.{IsOrderly}
use Rattle.plan_base.specs.Starts.{value_of_plan}
use Rattle.plan_base.specs.Feasible.{IsFeasible}
use Rattle.plan_base.specs.Bound.{IsBound}
use Rattle.plan_base.specs.Verdict.{IsPriceInRange, IsQuotaPriceCount, IsCertified}
use Rattle.rapid.specs.declared.placing.Placing.{Placing}
use Rattle.rapid.specs.declared.pricing.Pricing.{Pricing}
use Rattle.rapid.specs.Insertion.{with_group, IsPlacing, IsNewPrice, IsInsertion}
use Rattle.rapid.specs.Standing.{opening}
use Rattle.rapid.specs.Placing.{IsReady, IsPlacedSo, IsPricedSo}
use Rattle.rapid.proofs.Appended.{feasible_kept, value_kept}
use Rattle.rapid.proofs.Newest.{only_request, count_newest, newest_known, newest_at, newest_single, newest_unplaced}

pub value_fits : (s : Parts) (plan : List Placement) (r n : ℕ) (placing : Placing)
    → ((xs : List Placement) → IsFeasible s xs → value_of_plan s xs < 10 ^ 12) → IsPlacedSo s plan r placing → value_of_plan s plan ≡ n
    → n + placing.gain < 10 ^ 12
value_fits s plan r n placing limit placed e = let below = limit placing.placements placed.feasible in let gain = placed.gain in omega arith

module _ (before s : Parts) (claim : Claim) (group : GroupPart) (single : group.op ≡ Single) (whole : s ≡ with_group before group)
    (ob : IsOrderly before) (os : IsOrderly s) (certified : IsCertified before claim) where
  pub orderly : IsOrderly (with_group before group)
  orderly = subst IsOrderly whole os

  abbrev the : (q : RequestPart) × (group.requests ≡ q ∷ [])
  the = only_request before group orderly single

  abbrev q : RequestPart
  q = the.0

  count : length (listed s) ≡ length (listed before) + 1
  count = ap (λ (x : Parts). length (listed x)) whole ∙ count_newest before group q the.1 orderly

  pub some_listed : 0 < length (listed s)
  some_listed = let c = count in omega arith

  -- the request at the last place is the group's
  pub the_last : (p : RequestPart) → HoldsAt (λ x. x.request ≡ p) (listed s) (length (listed s) - 1) → p ≡ q
  the_last p h = newest_at before group q the.1 orderly p (subst (λ (x : Parts). HoldsAt (λ y. y.request ≡ p) (listed x) (length (listed x) - 1)) whole h)

  -- so the group has this request alone
  pub only_last : (p : RequestPart) → HoldsAt (λ x. x.request ≡ p) (listed s) (length (listed s) - 1) → group.requests ≡ p ∷ []
  only_last p h = the.1 ∙ ap (λ (x : RequestPart). x ∷ []) (sym (the_last p h))

  feasible : IsFeasible s claim.placements
  feasible = subst (λ (x : Parts). IsFeasible x claim.placements) (sym whole) (feasible_kept before group claim.placements ob single certified.feasible)

  pub value_same : value_of_plan s claim.placements ≡ claim.value
  value_same = ap (λ (x : Parts). value_of_plan x claim.placements) whole
      ∙ value_kept before group claim.placements (λ i d l. (certified.feasible.possible i d l).known) ∙ sym certified.value

  pub ready : (p : RequestPart) → p ≡ q → IsReady s claim.placements p.request.0
  ready p e = subst (λ (x : RequestPart). IsReady s claim.placements x.request.0) (sym e)
      (subst (λ (x : Parts). IsReady x claim.placements q.request.0) (sym whole) (record {
        known = newest_known before group q the.1 orderly;
        single = newest_single before group q the.1 orderly single;
        feasible = feasible_kept before group claim.placements ob single certified.feasible;
        unplaced = newest_unplaced before group q the.1 orderly claim.placements certified.feasible;
      }))

  quota_count : (us : List ℕ) → us ≡ claim.quota_prices.0 → IsQuotaPriceCount s us
  quota_count us e = subst (IsQuotaPriceCount s) (sym e)
      (subst (λ (x : Parts). IsQuotaPriceCount x claim.quota_prices.0) (sym whole) certified.quota_price_count)

  module _ (p : RequestPart) (is : p ≡ q) (placing : Placing) (pricing : Pricing) (after : Claim)
      (placed : IsPlacedSo s claim.placements p.request.0 placing) (priced : IsPricedSo s claim p.value pricing)
      (placements : after.placements ≡ placing.placements) (prices : after.prices ≡ pricing.prices)
      (quota_prices : after.quota_prices.0 ≡ claim.quota_prices.0) (value : after.value ≡ claim.value + placing.gain)
      (bound : after.bound ≡ pricing.bound) where
    prices_are : after.prices.0 ≡ claim.prices.0 ++ priced.price ∷ []
    prices_are = ap (λ x. x.0) prices ∙ priced.prices

    certified_after : IsCertified s after
    certified_after = record {
      feasible = subst (IsFeasible s) (sym placements) placed.feasible;
      price_count = (let c = count in let before_count = certified.price_count in
          let n : length after.prices.0 ≡ length (claim.prices.0 ++ priced.price ∷ []) = ap length prices_are in
          let m = length-append claim.prices.0 (priced.price ∷ []) in omega arith);
      price_range = subst (All IsPriceInRange) (sym prices_are) (All-push IsPriceInRange claim.prices.0 priced.price certified.price_range priced.in_range);
      quota_price_count = quota_count after.quota_prices.0 quota_prices;
      quota_price_range = subst (All (λ u. u ≤ 200000)) (sym quota_prices) certified.quota_price_range;
      value = (let same = value_same in let gain = placed.gain in
          let there : value_of_plan s after.placements ≡ value_of_plan s placing.placements = ap (value_of_plan s) placements in omega arith);
      bound = subst (λ (n : ℕ). IsBound s after.prices.0 after.quota_prices.0 (pos n)) (sym bound)
          (subst (λ (us : List ℕ). IsBound s after.prices.0 us (pos pricing.bound)) (sym quota_prices)
          (subst (λ (cs : List ℤ). IsBound s cs claim.quota_prices.0 (pos pricing.bound)) (sym (ap (λ x. x.0) prices)) priced.bound));
    }

    pub insertion : IsInsertion (opening before claim) group placing.inserted (record { snapshot = s; claim = after; displaced = placing.displaced })
    insertion = record {
      request = q;
      only = the.1;
      snapshot = whole;
      placing = subst (λ (xs : List Placement). IsPlacing s claim.placements q.request.0 placing.inserted xs placing.displaced) (sym placements)
          (subst (λ (x : RequestPart). IsPlacing s claim.placements x.request.0 placing.inserted placing.placements placing.displaced) is
          placed.placing);
      price = priced.price;
      new_price = subst (λ (x : RequestPart). IsNewPrice s claim x.value priced.price) is priced.new_price;
      prices = prices_are;
      quota_prices = quota_prices;
      certified = certified_after;
    }
