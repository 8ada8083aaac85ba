use Rattle.std.proofs.Common.{pos, length, replicate, refl, ◌∙◌, ap, arith}
use Rattle.plan_base.specs.declared.parts.Parts.{Parts}
use Rattle.lanes.proofs.Lanes.{first_lane}
use Rattle.lanes.proofs.lane_prices.LanePrices.new.Goals as goal

pub returns : goal.returns
returns c =
    first_lane c.args.snapshot.now _ (omega arith) refl (c.in_ok-zero_prices.ensures ∙ ap (λ n. replicate n (pos 0)) c.request_count.ensures.value)
    (c.in_ok-zero_quota_prices.ensures ∙ ap (λ n. replicate n 0) (c.len.ensures ∙ ap (λ (p : Parts). length p.quotas) c.parts.ensures.value))
