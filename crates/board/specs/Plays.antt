-- What each exchange on a word does to a seat, where it finds the word so.
use Rattle.std.specs.Prelude.{◌≡◌, ℕ}
use Rattle.atomic_table.specs.Table.{Me}
use Rattle.board.specs.declared.seat.SeatView.{SeatView}
use Rattle.board.specs.Steps.{after_claim, after_lower, after_raise, after_look_at_bound, after_look_at_value, IsBoundFor, IsValueFor, IsCounterFor}

-- the number that the counter had is claimed
abbrev pub Claims : Me ℕ SeatView → ℕ → Me ℕ SeatView → Type 0
Claims before word after = (after ≡ (after_claim before.0 word, before.1)) × IsCounterFor before.0 word

-- a bound is given
abbrev pub Lowers : ℕ → Me ℕ SeatView → ℕ → Me ℕ SeatView → Type 0
Lowers bound before word after = (after ≡ (after_lower before.0 bound word, before.1)) × IsBoundFor before.0 word

-- a value is given
abbrev pub Raises : ℕ → Me ℕ SeatView → ℕ → Me ℕ SeatView → Type 0
Raises value before word after = (after ≡ (after_raise before.0 value word, before.1)) × IsValueFor before.0 word

-- a look at the bound
abbrev pub SeesBound : Me ℕ SeatView → ℕ → Me ℕ SeatView → Type 0
SeesBound before word after = (after ≡ (after_look_at_bound before.0 word, before.1)) × IsBoundFor before.0 word

-- a look at the value
abbrev pub SeesValue : Me ℕ SeatView → ℕ → Me ℕ SeatView → Type 0
SeesValue before word after = (after ≡ (after_look_at_value before.0 word, before.1)) × IsValueFor before.0 word
