-- The prices after a round, from how often each request is used.
use Rattle.std.specs.Prelude.{◌≡◌, ℕ, ℤ, pos, ◌+ℤ◌, ◌-ℤ◌, unsigned_abs, Bool, cond, nat_lt, if◌then◌else◌, List, length, map, slice_index_or}
use Rattle.std.specs.Int.{int_max}
use Rattle.std.specs.List.{range_with_len}
use Rattle.plan_base.specs.declared.parts.Parts.{Parts}
use Rattle.plan_base.specs.declared.claim.Placement.{Placement}
use Rattle.plan_base.specs.Requests.{listed}
use Rattle.plan_base.specs.Round.{is_taken, uses_of}

-- the number of the request at a place
abbrev pub number_at : Parts → ℕ → ℕ
number_at s place = slice_index_or (map (λ x. x.request.request.0) (listed s)) place 0

-- the starts use each request so often
abbrev pub AreUses : Parts → List Placement → List ℕ → Type 0
AreUses s starts uses = uses ≡ map (λ x. uses_of starts x.request.request.0) (listed s)

-- a price after a round: the step is added where the request is used more than it is taken, and taken away where less
abbrev pub stepped_price : ℤ → ℤ → ℕ → Bool → ℤ
stepped_price step c uses taken = if nat_lt (cond taken 1 0) uses then c +ℤ step else (if nat_lt uses (cond taken 1 0) then c -ℤ step else c)

-- how far a step goes up: none where it is negative
abbrev pub step_size : ℤ → ℕ
step_size step = unsigned_abs (int_max step (pos 0))

-- all prices after a round in which each request is used so often
abbrev pub prices_after : Parts → ℤ → List ℤ → (ℕ → ℤ) → List ℕ → List ℤ
prices_after s step prices c uses =
    map (λ i. stepped_price step (slice_index_or prices i (pos 0)) (slice_index_or uses i 0) (is_taken s c (number_at s i)))
    (range_with_len 0 (length (listed s)))
