-- A claim that is written is read again.
use Rattle.std.proofs.Common.{◌≡◌, ◌^◌, ℕ, ◌≤◌, ℤ, List, [], ◌∷◌, length, Some, Ok, Result, refl, arith}
use Rattle.serde_json.specs.Data.{Data, Members}
use Rattle.plan_base.specs.declared.claim.Placement.{Placement}
use Rattle.plan_base.specs.declared.claim.Claim.{Claim}
use Rattle.plan_json.specs.declared.member.Member.{Member}
use Rattle.plan_json.specs.declared.member.Member.TheVariants as key
use Rattle.plan_json.specs.declared.fault.JsonFault.{JsonFault}
use Rattle.plan_json.specs.Object.{value_of}
use Rattle.plan_json.specs.Ranges.{IsBetween}
use Rattle.plan_json.specs.Values.{whole, integer, list_of, in_byte_order, those_there}
use Rattle.plan_json.proofs.Back.{number_back, each_member_back}
use Rattle.plan_json.specs.Elements.{each_of}
use Rattle.plan_doc.specs.Claim.{placement_in, price_in, quota_price_in, claim_of}
use Rattle.plan_doc.specs.Written.{placement_data, claim_members}
use Rattle.plan_doc.specs.Ranges.{IsPlacement, IsPrice, AreUpTo, IsClaim}
use Rattle.plan_doc.specs.Laws.{ClaimsAreReadBack}
use Rattle.plan_doc.proofs.Numbers.{price_back}

pub up_to : (most n : ℕ) → n ≤ most → IsBetween 0 most n
up_to most n h = record { low = omega arith; high = h }

-- a list of elements that are each read again
pub list_of_back : {T : Type 0} (P : T → Type 0) (f : T → Data) (element_in : Member → Data → Result T JsonFault)
    → ((m : Member) (x : T) → P x → element_in m (f x) ≡ Ok x) → (least most : ℕ) (ms : Members) (m : Member) (xs : List T)
    → value_of ms m ≡ Some (list_of f xs) → least ≤ length xs → AreUpTo most P xs → each_of element_in least most ms m ≡ Ok xs
list_of_back P f element_in h least most ms m xs found some are =
    each_member_back P f element_in h least most ms m xs found (record { low = some; high = are.count }) are.each

placement_back : (m : Member) (p : Placement) → IsPlacement p → placement_in m (placement_data p) ≡ Ok p
placement_back m p h =
    rw (
      number_back 0 4294967295 m p.request.0 (up_to 4294967295 p.request.0 h.request),
      number_back 0 65535 m p.telescope.0 (up_to 65535 p.telescope.0 h.telescope),
      number_back 0 4294967295 m p.slice.0 (up_to 4294967295 p.slice.0 h.slice),
    ) refl

quota_price_back : (m : Member) (u : ℕ) → u ≤ 1000000000 → quota_price_in m (whole u) ≡ Ok u
quota_price_back m u h = number_back 0 1000000000 m u (up_to 1000000000 u h)

-- the claim of these parts
abbrev made_of : List Placement → List ℤ → List ℕ → ℕ → ℕ → Claim
made_of ps zs us v b = record { placements = ps; prices = record { 0 = zs }; quota_prices = record { 0 = us }; value = v; bound = b }

claim_back : (ps : List Placement) (zs : List ℤ) (us : List ℕ) (v b : ℕ) → IsClaim (made_of ps zs us v b)
    → claim_of (those_there (in_byte_order (claim_members (made_of ps zs us v b)))) ≡ Ok (made_of ps zs us v b)
claim_back ps zs [] v b h =
    let ms = those_there (in_byte_order (claim_members (made_of ps zs [] v b))) in
    rw (
      list_of_back IsPlacement placement_data placement_in placement_back 0 4096 ms key.Placements ps refl (omega arith) h.placements,
      list_of_back IsPrice integer price_in price_back 0 4096 ms key.Prices zs refl (omega arith) h.prices,
      number_back 0 (10 ^ 12) key.Value v (up_to (10 ^ 12) v h.value),
      number_back 0 (10 ^ 17) key.Bound b (up_to (10 ^ 17) b h.bound),
    ) refl
claim_back ps zs (u ∷ us) v b h =
    let ms = those_there (in_byte_order (claim_members (made_of ps zs (u ∷ us) v b))) in
    rw (
      list_of_back IsPlacement placement_data placement_in placement_back 0 4096 ms key.Placements ps refl (omega arith) h.placements,
      list_of_back IsPrice integer price_in price_back 0 4096 ms key.Prices zs refl (omega arith) h.prices,
      list_of_back (λ w. w ≤ 1000000000) whole quota_price_in quota_price_back 1 1024 ms key.QuotaPrices (u ∷ us) refl (omega arith) h.quota_prices,
      number_back 0 (10 ^ 12) key.Value v (up_to (10 ^ 12) v h.value),
      number_back 0 (10 ^ 17) key.Bound b (up_to (10 ^ 17) b h.bound),
    ) refl

pub claims_are_read_back : ClaimsAreReadBack
claims_are_read_back c h = claim_back c.placements c.prices.0 c.quota_prices.0 c.value c.bound h
