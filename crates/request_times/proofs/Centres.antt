-- How large centres get.
use Rattle.std.proofs.Common.{◌*◌, ◌^◌, ℕ, ◌≤◌, ◌<◌, arith}
use Rattle.std.proofs.lemmas.Nat.{mul-le}

-- the product of 32 bits and a period fits
pub product_fits : (k p : ℕ) → k < 2 ^ 32 → p ≤ 15552000 → k * p < 2 ^ 56
product_fits k p h q =
    let bound : k * p ≤ 4294967296 * 15552000 = mul-le k p 4294967296 15552000 (omega arith) q in
    omega arith
