-- How many slices an observation takes at most.
use Rattle.std.proofs.Common.{ℕ, ◌+◌, ◌-◌, ◌*◌, ◌/◌, ◌<◌, ◌≤◌, ◌↔◌, arith}
use Rattle.std.proofs.Math.Nat.{div-lt_iff_lt-mul}
use Rattle.plan_base.specs.Starts.{slices_for}

pub size_most : (length seconds : ℕ) → 60 ≤ length → seconds ≤ 86400 → slices_for length seconds ≤ 1440
size_most length seconds least most =
    let some : 0 < length = omega arith in
    let both : ((seconds + length - 1) / length < 1441) ↔ (seconds + length - 1 < 1441 * length) = div-lt_iff_lt-mul some in
    let below : (seconds + length - 1) / length < 1441 = both.1 (omega arith) in
    omega arith
