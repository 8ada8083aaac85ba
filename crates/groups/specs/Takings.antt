-- Which requests of a group are taken at its requests' net prices.
use Rattle.std.specs.Prelude.{ℕ, Bool, ◌&&◌, ◌==◌, int_lt, ℤ, pos, List, slice_index_or}
use Rattle.plan_base.specs.declared.parts.Op.{Op}
use Rattle.plan_base.specs.declared.parts.Op.TheVariants.{Single, Many, OneOf, And}
use Rattle.plan_base.specs.NetPrices.{price_sum, is_first_greatest}
use Rattle.groups.specs.declared.taking.Taking.{Taking}
use Rattle.groups.specs.declared.taking.Taking.TheVariants.{Priced, First, Whole}

-- a group of this kind takes the i-th of its requests, which have these net prices
abbrev pub takes_at : Op → List ℤ → ℕ → Bool
takes_at Single prices i = int_lt (pos 0) (slice_index_or prices i (pos 0))
takes_at Many prices i = int_lt (pos 0) (slice_index_or prices i (pos 0))
takes_at OneOf prices i = int_lt (pos 0) (slice_index_or prices i (pos 0)) && is_first_greatest prices i
takes_at And prices i = int_lt (pos 0) (price_sum prices)

-- what is taken of the i-th request, which has this net price
abbrev pub takes_by : Taking → ℤ → ℕ → Bool
takes_by Priced c i = int_lt (pos 0) c
takes_by (First place) c i = int_lt (pos 0) c && (i == place)
takes_by (Whole taken) c i = taken
