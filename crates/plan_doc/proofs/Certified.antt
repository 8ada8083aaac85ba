-- A claim that is certified lies in the ranges, and so its document is read, and judged with Yes.
use Rattle.std.proofs.Common.{◌≡◌, ◌^◌, ℕ, suc, ◌+◌, ◌≤◌, ◌<◌, inl, inr, pos, ◌≤ℤ◌, ◌<ℤ◌, ℤ, List, [], ◌∷◌, length, map, All, Contains, None, refl}
use Rattle.std.proofs.Common.{subst, arith}
use Rattle.std.proofs.lemmas.Int.{ints}
use Rattle.std.proofs.lemmas.List.Elements.{All-nil, All-head, All-tail, All-map, All-append, All-weaker}
use Rattle.plan_base.specs.declared.claim.Placement.{Placement}
use Rattle.plan_base.specs.declared.parts.GroupPart.{GroupPart}
use Rattle.plan_base.specs.declared.parts.Parts.{Parts}
use Rattle.plan_base.specs.declared.fault.Counted.TheVariants.{Requests, Telescopes, Quotas}
use Rattle.plan_base.specs.Requests.{Listed, listed, listed_from}
use Rattle.plan_base.specs.Starts.{IsPossibleStart, size_of, value_of_plan}
use Rattle.plan_base.specs.Snapshot.{IsOrderly}
use Rattle.plan_base.specs.Verdict.{IsPriceInRange, IsQuotaPriceCount}
use Rattle.plan_base.proofs.Known.{known_as, telescope_known}
use Rattle.plan_base.proofs.Limits.{length_of_plan, value_limit, bound_limit}
use Rattle.plan_base.proofs.Orderly.{orderly}
use Rattle.plan_doc.specs.Ranges.{IsPlacement, IsPrice, IsRequest, IsGroup, AreParts}
use Rattle.plan_doc.specs.Laws.{CertifiedClaimsAreInRange, ExportsAreCertified}
use Rattle.plan_doc.proofs.BackSnapshot.{publications_are_read_back}

-- a request that is counted through the groups is in the ranges
all_listed : (g : ℕ) (xs : List GroupPart) → All IsGroup xs → All (λ (x : Listed). IsRequest x.request) (listed_from g xs)
all_listed g [] all = All-nil (λ (x : Listed). IsRequest x.request)
all_listed g (x ∷ xs) all =
    All-append (λ (y : Listed). IsRequest y.request) (map (λ q. record { group = g; quota = x.quota; request = q }) x.requests) (listed_from (suc g) xs)
    (All-map (λ (y : Listed). IsRequest y.request) (λ q. record { group = g; quota = x.quota; request = q }) x.requests
    (All-head IsGroup x xs all).requests.each)
    (all_listed (suc g) xs (All-tail IsGroup x xs all))

element : {X : Type 0} (P : X → Type 0) (xs : List X) (x : X) → All P xs → Contains xs x → P x
element P xs x all h = subst P h.2 (all h.0 x h.1)

placement_in_range : (s : Parts) → IsOrderly s → AreParts s → (p : Placement) → IsPossibleStart s p → IsPlacement p
placement_in_range s o are p possible =
    let known = known_as s p.request.0 possible.known in
    let asked : IsRequest known.0.request =
    element (λ (x : Listed). IsRequest x.request) (listed s) known.0 (all_listed 0 s.groups are.groups.each) known.1.in_list in
    let number : known.0.request.request.0 ≡ p.request.0 = known.1.number in
    let request : known.0.request.request.0 ≤ 4294967295 = asked.request in
    let one : p.telescope.0 < length s.telescopes = telescope_known s p o possible in
    let few : length s.telescopes ≤ 32 = o.within Telescopes 0 0 (omega arith) in
    let ends : p.slice.0 + size_of s p.request.0 ≤ s.first.0 + s.slices = possible.ends in
    let first : s.first.0 ≤ 4223371680 = are.first in
    let slices : s.slices ≤ 1440 = are.slices.high in
    record { request = omega arith; telescope = omega arith; slice = omega arith }

price_in_range : (p : ℤ) → IsPriceInRange p → IsPrice p
price_in_range p h =
    let low = h.0 in
    let high = h.1 in
    record { low = omega (arith, ints); high = omega (arith, ints) }

quota_prices_few : (s : Parts) (us : List ℕ) → IsOrderly s → IsQuotaPriceCount s us → length us ≤ 1024
quota_prices_few s us o h =
    let few : length s.quotas ≤ 1024 = o.within Quotas 0 0 (omega arith) in
    elim h [ inl none ↦ omega arith | inr all ↦ omega arith ]

pub certified_claims_are_in_range : CertifiedClaimsAreInRange
certified_claims_are_in_range s c is are certified =
    let o = orderly s is in
    let few : length (listed s) ≤ 1024 = o.within Requests 0 0 (omega arith) in
    let plan : length c.placements ≤ length (listed s) = length_of_plan s c.placements certified.feasible in
    let prices : length c.prices.0 ≡ length (listed s) = certified.price_count in
    let worth : value_of_plan s c.placements < 10 ^ 12 = value_limit s c.placements o certified.feasible in
    let same : c.value ≡ value_of_plan s c.placements = certified.value in
    let limit : (pos 0 ≤ℤ pos c.bound) × (pos c.bound <ℤ pos (10 ^ 17)) =
    bound_limit s c.prices.0 c.quota_prices.0 (pos c.bound) o certified.price_range certified.quota_price_range certified.bound in
    record {
      placements = record {
        count = omega arith;
        each = All-weaker (IsPossibleStart s) IsPlacement (placement_in_range s o are) c.placements certified.feasible.possible;
      };
      prices = record { count = omega arith; each = All-weaker IsPriceInRange IsPrice price_in_range c.prices.0 certified.price_range };
      quota_prices = record {
        count = quota_prices_few s c.quota_prices.0 o certified.quota_price_count;
        each = All-weaker (λ u. u ≤ 200000) (λ u. u ≤ 1000000000) (λ u h. omega arith) c.quota_prices.0 certified.quota_price_range;
      };
      value = omega arith;
      bound = omega (arith, ints);
    }

pub exports_are_certified : ExportsAreCertified
exports_are_certified ms s c is are certified has_snapshot has_claim =
    let in_range = certified_claims_are_in_range s c is are certified in (
      publications_are_read_back ms s c is are in_range has_snapshot has_claim,
      (None, certified, refl),
    )
