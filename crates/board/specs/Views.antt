-- What all seats of a board know together, a view each.
use Rattle.std.specs.Prelude.{◌≡◌, ℕ, ◌+◌, ◌<◌, ◌≤◌, ◌==◌, List, [], ◌∷◌, length, count_by, min, max}
use Rattle.board.specs.declared.seat.SeatView.{SeatView}

-- the bound where none was given: the greatest u64
abbrev pub no_bound : ℕ
no_bound = 18446744073709551615

-- the seats of a board, and those that may still be split off
abbrev pub all_seats : ℕ
all_seats = 65537

-- how many numbers a seat may claim
abbrev pub most_claims : ℕ
most_claims = 1048576

-- every seat of the board that was split off was joined into this one
abbrev pub IsOnlySeat : SeatView → Type 0
IsOnlySeat v = v.seats + v.tickets ≡ all_seats

-- how often a number was claimed
abbrev pub times : ℕ → List ℕ → ℕ
times number numbers = count_by (λ x. x == number) numbers

-- each number below the count stands once, and no other does
abbrev pub EachOnce : ℕ → (ℕ → ℕ) → Type 0
EachOnce count times_of = (number : ℕ) → (number < count → times_of number ≡ 1) × (count ≤ number → times_of number ≡ 0)

-- a number of each view, put together
abbrev pub together : (ℕ → ℕ → ℕ) → ℕ → (SeatView → ℕ) → List SeatView → ℕ
together op none f [] = none
together op none f (v ∷ vs) = op (f v) (together op none f vs)

-- the least bound that any seat gave
abbrev pub least_of : List SeatView → ℕ
least_of views = together min no_bound (λ v. v.least_given) views

-- the greatest value that any seat gave
abbrev pub greatest_of : List SeatView → ℕ
greatest_of views = together max 0 (λ v. v.greatest_given) views

-- a number of each view, added up
abbrev pub total : (SeatView → ℕ) → List SeatView → ℕ
total f views = together ◌+◌ 0 f views

-- how often all seats claimed a number
abbrev pub all_times : ℕ → List SeatView → ℕ
all_times number views = total (λ v. times number v.claims) views

-- how many numbers all seats claimed
abbrev pub all_claims : List SeatView → ℕ
all_claims views = total (λ v. length v.claims) views

-- how many seats and tickets there are
abbrev pub all_parts : List SeatView → ℕ
all_parts views = total (λ v. v.seats + v.tickets) views
