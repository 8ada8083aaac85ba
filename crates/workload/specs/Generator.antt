-- The numbers of the generator, and what is drawn of them.
use Rattle.std.specs.Prelude.{ℕ, ◌+◌, ◌*◌, ◌/◌, ◌%◌, ◌^◌, zero, suc}

-- the number after x
unfoldable pub next_number : ℕ → ℕ
next_number x = (x * 6364136223846793005 + 1442695040888963407) % 2 ^ 64

-- the number after n draws
abbrev pub number_after : ℕ → ℕ → ℕ
number_after x zero = x
number_after x (suc n) = number_after (next_number x) n

-- what a draw below m is that leaves the number y
unfoldable pub drawn_at : ℕ → ℕ → ℕ
drawn_at y m = (y / 2 ^ 33) % m

-- draw i below m, counted from 0, where the generator has the number x
abbrev pub draw : ℕ → ℕ → ℕ → ℕ
draw x i m = drawn_at (number_after x (i + 1)) m
