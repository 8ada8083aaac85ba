-- The most that a document is read for; whether a snapshot or a claim may have as much is judged with the whole.
use Rattle.std.specs.Prelude.{ℕ, ◌^◌, ℤ, pos}

-- the most elements of a list of a snapshot
abbrev pub most_items : ℕ
most_items = 65536

-- the greatest number of a telescope, a site, a target or a quota's place
abbrev pub highest_number : ℕ
highest_number = 65535

-- the most seconds of a quota
abbrev pub highest_quota : ℕ
highest_quota = 10 ^ 12

-- the most placements of a claim, and the most prices
abbrev pub most_listed : ℕ
most_listed = 4096

-- the most quota prices of a claim
abbrev pub most_quota_prices : ℕ
most_quota_prices = 1024

-- the greatest price, and the least without its sign
abbrev pub highest_price : ℤ
highest_price = pos (10 ^ 15)

-- the greatest price of a second of a quota
abbrev pub highest_quota_price : ℕ
highest_quota_price = 1000000000

-- the greatest value of a claim
abbrev pub highest_value : ℕ
highest_value = 10 ^ 12

-- the greatest bound of a claim
abbrev pub highest_bound : ℕ
highest_bound = 10 ^ 17
