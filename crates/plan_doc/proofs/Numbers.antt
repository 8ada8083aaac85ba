-- Numbers without a sign, and prices.
use Rattle.std.proofs.Common.{◌≡◌, ℕ, ◌&&◌, ℤ, pos, negsuc, neg_ℤ, unsigned_abs, int_le, true, ok_or, Result, Ok, Err, refl, arith}
use Rattle.std.proofs.lemmas.Bool.{and_parts}
use Rattle.std.proofs.lemmas.Int.{ints}
use Rattle.serde_json.specs.Data.{Num, unsigned, negative, float, Data, null, boolean, number, string, array, object, Members}
use Rattle.plan_json.specs.declared.member.Member.{Member}
use Rattle.plan_json.specs.declared.fault.JsonFault.TheVariants.{Missing, OutOfRange}
use Rattle.plan_json.specs.Reading.{result_map, result_and_then}
use Rattle.plan_json.specs.Object.{value_of, member_of}
use Rattle.plan_json.specs.Whole.{within, whole_number, whole_in, number_in}
use Rattle.plan_json.specs.Values.{integer}
use Rattle.plan_json.proofs.Ranges.{Gives, if_test}
use Rattle.plan_doc.specs.Limits.{highest_price}
use Rattle.plan_doc.specs.Claim.{price_in}
use Rattle.plan_doc.specs.Ranges.{IsPrice}

mapped : {A B C E : Type 0} (f : B → C) (g : A → Result B E) (r : Result A E) → result_and_then (λ x. result_map f (g x)) r ≡ result_map f (result_and_then g r)
mapped f g (Ok x) = refl
mapped f g (Err e) = refl

-- a member's number, by its reading with a sign
pub member_number : (least most : ℕ) (ms : Members) (m : Member)
    → member_of (number_in least most) ms m ≡ result_map unsigned_abs (member_of (λ k. whole_in k (pos least) (pos most)) ms m)
member_number least most ms m = mapped unsigned_abs (whole_in m (pos least) (pos most)) (ok_or (value_of ms m) (Missing m))

-- ---- prices

within_prices : (m : Member) (z : ℤ) → Gives (within m (neg_ℤ highest_price) highest_price z) IsPrice
within_prices m (pos n) =
    if_test IsPrice (int_le (neg_ℤ highest_price) (pos n) && int_le (pos n) highest_price) (pos n) (OutOfRange m)
    (λ h. let both = and_parts (int_le (neg_ℤ highest_price) (pos n)) (int_le (pos n) highest_price) h in
    record { low = grind (arith, ints); high = grind (arith, ints) })
within_prices m (negsuc n) =
    if_test IsPrice (int_le (neg_ℤ highest_price) (negsuc n) && int_le (negsuc n) highest_price) (negsuc n) (OutOfRange m)
    (λ h. let both = and_parts (int_le (neg_ℤ highest_price) (negsuc n)) (int_le (negsuc n) highest_price) h in
    record { low = grind (arith, ints); high = grind (arith, ints) })

num_price : (m : Member) (n : Num) → Gives (whole_number m (neg_ℤ highest_price) highest_price n) IsPrice
num_price m (unsigned n) = within_prices m (pos n)
num_price m (negative z) = within_prices m z
num_price m (float x) = record { ok = tt }

-- a price that was read
pub price_between : (m : Member) (d : Data) → Gives (price_in m d) IsPrice
price_between m null = record { ok = tt }
price_between m (boolean b) = record { ok = tt }
price_between m (number n) = num_price m n
price_between m (string s) = record { ok = tt }
price_between m (array ds) = record { ok = tt }
price_between m (object ms) = record { ok = tt }

low_price : (z : ℤ) → IsPrice z → int_le (neg_ℤ highest_price) z ≡ true
low_price z h = let low = h.low in grind (arith, ints)

high_price : (z : ℤ) → IsPrice z → int_le z highest_price ≡ true
high_price z h = let high = h.high in grind (arith, ints)

within_back : (m : Member) (z : ℤ) → IsPrice z → within m (neg_ℤ highest_price) highest_price z ≡ Ok z
within_back m z h = rw (low_price z h, high_price z h) refl

-- a price that is written is read again
pub price_back : (m : Member) (z : ℤ) → IsPrice z → price_in m (integer z) ≡ Ok z
price_back m (pos n) h = within_back m (pos n) h
price_back m (negsuc n) h = within_back m (negsuc n) h
