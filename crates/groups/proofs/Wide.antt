-- What a loop over prices of any size keeps.
use Rattle.std.proofs.Common.{◌≡◌, ℕ, ◌+◌, ◌*◌, ◌^◌, ◌<◌, ℤ, pos, negsuc, neg_ℤ, w64, ◌+ℤ◌, ◌≤ℤ◌, List, length, drop, slice_index_or, arith}
use Rattle.std.proofs.lemmas.Int.{ints}
use Rattle.std.proofs.lemmas.List.{at_drop_more}
use Rattle.plan_base.specs.Sums.{total}
use mir.Val.{SFits}

-- the sum of the first i numbers of 64 bits
pub record IsWide (numbers : List ℤ) (i : ℕ) (sum : ℤ) : Type 0 where
  pub rest : sum +ℤ total (λ c. c) (drop i numbers) ≡ total (λ c. c) numbers
  pub least : neg_ℤ (pos (i * 2 ^ 63)) ≤ℤ sum
  pub most : sum ≤ℤ pos (i * 2 ^ 63)

pub wide_more : (numbers : List ℤ) (i : ℕ) (sum : ℤ) → i < length numbers → neg_ℤ (pos (2 ^ 63)) ≤ℤ slice_index_or numbers i (pos 0)
    → slice_index_or numbers i (pos 0) ≤ℤ pos (2 ^ 63) → IsWide numbers i sum
    → IsWide numbers (i + 1) (sum +ℤ slice_index_or numbers i (pos 0))
wide_more numbers i sum l low high h =
    let step : total (λ c. c) (drop i numbers) ≡ slice_index_or numbers i (pos 0) +ℤ total (λ c. c) (drop (i + 1) numbers) =
    at_drop_more (total (λ c. c)) numbers i (pos 0) l in
    let whole : sum +ℤ total (λ c. c) (drop i numbers) ≡ total (λ c. c) numbers = h.rest in
    let least : neg_ℤ (pos (i * 2 ^ 63)) ≤ℤ sum = h.least in
    let most : sum ≤ℤ pos (i * 2 ^ 63) = h.most in
    record { rest = omega (arith, ints); least = omega (arith, ints); most = omega (arith, ints) }

pub between : (z : ℤ) → SFits w64 z → (neg_ℤ (pos (2 ^ 63)) ≤ℤ z) × (z ≤ℤ pos (2 ^ 63))
between (pos n) fit = let small = fit.sfits in (omega (arith, ints), omega (arith, ints))
between (negsuc n) fit = let small = fit.sfits in (omega (arith, ints), omega (arith, ints))
