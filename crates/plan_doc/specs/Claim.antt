-- Which documents are claims, and what is the first fault of the others.
use Rattle.std.specs.Prelude.{ℕ, ℤ, neg_ℤ, List, [], Option, Some, None, Result, Ok}
use Rattle.plan_base.specs.Limits.{most_number}
use Rattle.serde_json.specs.Data.{Data, Members}
use Rattle.plan_base.specs.declared.claim.Placement.{Placement}
use Rattle.plan_base.specs.declared.claim.Claim.{Claim}
use Rattle.plan_json.specs.declared.member.Member.{Member}
use Rattle.plan_json.specs.declared.member.Member.TheVariants as key
use Rattle.plan_json.specs.declared.fault.JsonFault.{JsonFault}
use Rattle.plan_json.specs.Object.{member_of, if_there}
use Rattle.plan_json.specs.List.{list_of_count_in}
use Rattle.plan_json.specs.Reading.{◌>>=◌}
use Rattle.plan_json.specs.Whole.{whole_in, number_in}
use Rattle.plan_json.specs.Elements.{item, each_of}
use Rattle.plan_doc.specs.Limits.{highest_number, most_listed, most_quota_prices, highest_price, highest_quota_price, highest_value, highest_bound}

-- request, telescope, slice
abbrev pub placement_of : Member → List Data → Result Placement JsonFault
placement_of m ds =
    number_in 0 most_number m (item ds 0) >>= λ request.
    number_in 0 highest_number m (item ds 1) >>= λ telescope.
    number_in 0 most_number m (item ds 2) >>= λ slice.
    Ok (record { request = record { 0 = request }; telescope = record { 0 = telescope }; slice = record { 0 = slice } })

-- `[request,telescope,slice]`
abbrev pub placement_in : Member → Data → Result Placement JsonFault
placement_in m d = list_of_count_in m 3 d >>= placement_of m

-- the price of a request: a whole number from -10^15 to 10^15
abbrev pub price_in : Member → Data → Result ℤ JsonFault
price_in m d = whole_in m (neg_ℤ highest_price) highest_price d

-- the price of a second of a quota: a whole number from 0 to 10^9
abbrev pub quota_price_in : Member → Data → Result ℕ JsonFault
quota_price_in m d = number_in 0 highest_quota_price m d

-- the quota prices of a claim of this format: none of one without, which is version 1
abbrev pub quota_prices_of : Option ℕ → Members → Result (List ℕ) JsonFault
quota_prices_of None ms = Ok []
quota_prices_of (Some format) ms = each_of quota_price_in 1 most_quota_prices ms key.QuotaPrices

-- `format`, which is 2 or isn't there, `placements`, `prices`, `quota_prices`, `value`, `bound`
abbrev pub claim_of : Members → Result Claim JsonFault
claim_of ms =
    if_there (number_in 2 2) ms key.Format >>= λ format.
    each_of placement_in 0 most_listed ms key.Placements >>= λ placements.
    each_of price_in 0 most_listed ms key.Prices >>= λ prices.
    quota_prices_of format ms >>= λ quota_prices.
    member_of (number_in 0 highest_value) ms key.Value >>= λ value.
    member_of (number_in 0 highest_bound) ms key.Bound >>= λ bound.
    Ok (record {
      placements = placements;
      prices = record { 0 = prices };
      quota_prices = record { 0 = quota_prices };
      value = value;
      bound = bound;
    })
