-- Numbers that fit 64 bits.
use Rattle.std.proofs.Common.{◌^◌, ℤ, pos, negsuc, neg_ℤ, w64, ◌≤ℤ◌, arith}
use Rattle.std.proofs.lemmas.Int.{ints}
use mir.Val.{SFits}

-- what lies well within 64 bits fits them
pub fits_64 : (z : ℤ) → neg_ℤ (pos (2 ^ 62)) ≤ℤ z → z ≤ℤ pos (2 ^ 62) → SFits w64 z
fits_64 (pos n) low high = record { sfits = omega (arith, ints) }
fits_64 (negsuc n) low high = record { sfits = omega (arith, ints) }
