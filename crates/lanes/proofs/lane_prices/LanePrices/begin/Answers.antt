use Rattle.std.proofs.Common.{pos, replicate, refl, ◌∙◌, ap}
use Rattle.lanes.proofs.Lanes.{first_lane}
use Rattle.lanes.proofs.lane_prices.LanePrices.begin.Goals as goal

pub returns-clause-is_lane : goal.returns-clause-is_lane
returns-clause-is_lane c = λ s h.
    first_lane s _ c.requires refl (c.clear_prices.ensures ∙ ap (λ n. replicate n (pos 0)) h.count)
    (c.clear_prices-2.ensures ∙ ap (λ n. replicate n 0) h.quota_count)
