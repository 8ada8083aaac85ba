-- What a seat's view becomes by each kind of step, and what a word that it reads may be.
use Rattle.std.specs.Prelude.{◌≡◌, ℕ, ◌+◌, ◌-◌, ◌<◌, ◌≤◌, [], ◌∷◌, ◌++◌, length, All, min, max}
use Rattle.board.specs.declared.seat.SeatView.{SeatView}
use Rattle.board.specs.Views.{no_bound, IsOnlySeat}

-- the view of a board's first seat, where the board has this value at first
abbrev pub first_view : ℕ → SeatView
first_view opening = record {
  least_given = no_bound;
  greatest_given = opening;
  lowest_seen = no_bound;
  greatest_seen = opening;
  seats = 1;
  tickets = 65536;
  claims = [];
}

-- after a claim of this number
abbrev pub after_claim : SeatView → ℕ → SeatView
after_claim v number = record v { claims = v.claims ++ number ∷ [] }

-- after a bound was given where the board's was the word
abbrev pub after_lower : SeatView → ℕ → ℕ → SeatView
after_lower v bound word = record v { least_given = min v.least_given bound; lowest_seen = min (min v.lowest_seen bound) word }

-- after a value was given where the board's was the word
abbrev pub after_raise : SeatView → ℕ → ℕ → SeatView
after_raise v value word = record v { greatest_given = max v.greatest_given value; greatest_seen = max (max v.greatest_seen value) word }

-- after a look at the bound
abbrev pub after_look_at_bound : SeatView → ℕ → SeatView
after_look_at_bound v word = record v { lowest_seen = word }

-- after a look at the value
abbrev pub after_look_at_value : SeatView → ℕ → SeatView
after_look_at_value v word = record v { greatest_seen = word }

-- after a seat was split off, which takes a ticket
abbrev pub after_split : SeatView → SeatView
after_split v = record v { tickets = v.tickets - 1 }

-- the seat that was split off has seen the same, and has given and claimed nothing
abbrev pub split_off : SeatView → SeatView
split_off v = record {
  least_given = no_bound;
  greatest_given = 0;
  lowest_seen = v.lowest_seen;
  greatest_seen = v.greatest_seen;
  seats = 1;
  tickets = 0;
  claims = [];
}

-- after another seat was joined into this one
abbrev pub joined : SeatView → SeatView → SeatView
joined v w = record {
  least_given = min v.least_given w.least_given;
  greatest_given = max v.greatest_given w.greatest_given;
  lowest_seen = min v.lowest_seen w.lowest_seen;
  greatest_seen = max v.greatest_seen w.greatest_seen;
  seats = v.seats + w.seats;
  tickets = v.tickets + w.tickets;
  claims = v.claims ++ w.claims;
}

-- what is left of a seat that was joined into another
abbrev pub spent : SeatView
spent = record {
  least_given = no_bound;
  greatest_given = 0;
  lowest_seen = no_bound;
  greatest_seen = 0;
  seats = 0;
  tickets = 0;
  claims = [];
}

-- a word that may be the board's bound, as far as the seat knows
pub record IsBoundFor (v : SeatView) (word : ℕ) : Type 0 where
  pub given : word ≤ v.least_given
  pub seen : word ≤ v.lowest_seen
  pub alone : IsOnlySeat v → word ≡ v.least_given

-- a word that may be the board's value
pub record IsValueFor (v : SeatView) (word : ℕ) : Type 0 where
  pub given : v.greatest_given ≤ word
  pub seen : v.greatest_seen ≤ word
  pub alone : IsOnlySeat v → word ≡ v.greatest_given

-- a word that may be the counter: it is above each number that the seat claimed
pub record IsCounterFor (v : SeatView) (word : ℕ) : Type 0 where
  pub rising : All (λ number. number < word) v.claims
  pub count : length v.claims ≤ word
  pub alone : IsOnlySeat v → word ≡ length v.claims
