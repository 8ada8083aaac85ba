-- A claim that a document allows can be written.
use Rattle.std.proofs.Common.{ℕ, ◌^◌, ◌<◌, ◌≤◌, ℤ, pos, negsuc, List, [], ◌∷◌, IfSome, refl, arith}
use Rattle.std.specs.List.{All}
use Rattle.std.proofs.lemmas.Int.{ints}
use Rattle.std.proofs.lemmas.List.Elements.{All-nil, All-cons, All-weaker}
use Rattle.plan_base.specs.declared.claim.Placement.{Placement}
use Rattle.plan_base.specs.declared.claim.Claim.{Claim}
use Rattle.plan_json.specs.Exact.{IsWritten}
use Rattle.plan_json.specs.Values.{integer, list_of}
use Rattle.plan_json.proofs.Writable.{none_writable, more_writable, whole_written, numbers_written, list_written, object_written}
use Rattle.plan_doc.specs.Written.{placement_data, format_given, numbers_given, claim_members, claim_data}
use Rattle.plan_doc.specs.Ranges.{IsPlacement, IsPrice, IsClaim}

placement_written : (p : Placement) → IsPlacement p → IsWritten 1 (placement_data p)
placement_written p h =
    let few : ℕ → Type 0 = λ k. k < 2 ^ 64 in
    numbers_written 0 (p.request.0 ∷ p.telescope.0 ∷ p.slice.0 ∷ [])
    (All-cons few p.request.0 (p.telescope.0 ∷ p.slice.0 ∷ []) (omega (arith, h.request))
    (All-cons few p.telescope.0 (p.slice.0 ∷ []) (omega (arith, h.telescope)) (All-cons few p.slice.0 [] (omega (arith, h.slice)) (All-nil few))))

price_written : (n : ℕ) (z : ℤ) → IsPrice z → IsWritten n (integer z)
price_written n (pos k) h = let high = h.high in record { exact = grind (arith, ints); in_order = tt; flat = omega arith }
price_written n (negsuc k) h = let low = h.low in record { exact = grind (arith, ints); in_order = tt; flat = omega arith }

format_written : (us : List ℕ) → IfSome (format_given us) (IsWritten 2)
format_written [] = tt
format_written (u ∷ us) = whole_written 2 2 (omega arith)

quota_prices_written : (us : List ℕ) → All (λ u. u ≤ 1000000000) us → IfSome (numbers_given us) (IsWritten 2)
quota_prices_written [] h = tt
quota_prices_written (u ∷ us) h =
    numbers_written 1 (u ∷ us) (All-weaker (λ k. k ≤ 1000000000) (λ k. k < 2 ^ 64) (λ k few. omega (arith, few)) (u ∷ us) h)

-- it nests three levels deep: the claim, its placements, and each of them
pub claim_written : (c : Claim) → IsClaim c → IsWritten 3 (claim_data c)
claim_written c h =
    let placements : IsWritten 2 (list_of placement_data c.placements) =
    list_written 1 placement_data c.placements
    (All-weaker IsPlacement (λ p. IsWritten 1 (placement_data p)) placement_written c.placements h.placements.each) in
    let prices : IsWritten 2 (list_of integer c.prices.0) =
    list_written 1 integer c.prices.0 (All-weaker IsPrice (λ z. IsWritten 1 (integer z)) (price_written 1) c.prices.0 h.prices.each) in
    object_written 2 (claim_members c)
    (more_writable 2 _ _ _ refl (format_written c.quota_prices.0)
    (more_writable 2 _ _ _ refl placements
    (more_writable 2 _ _ _ refl prices
    (more_writable 2 _ _ _ refl (quota_prices_written c.quota_prices.0 h.quota_prices.each)
    (more_writable 2 _ _ _ refl (whole_written 2 c.value (omega (arith, h.value)))
    (more_writable 2 _ _ _ refl (whole_written 2 c.bound (omega (arith, h.bound))) (none_writable 2)))))))
