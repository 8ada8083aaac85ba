use Rattle.std.proofs.Common.{◌≡◌, pos, length, sym, ◌∙◌, arith}
use Rattle.std.proofs.lemmas.List.{length-map, ext_get_or}
use Rattle.plan_base.specs.Requests.{listed}
use Rattle.plan_base.specs.NetPrices.{net_prices}
use Rattle.groups.proofs.nets.net.Goals as goal

pub returns : goal.returns
returns c =
    let count : length (net_prices c.args.snapshot.now c.args.prices.now.0 c.args.quota_prices.now.0) ≡ length (listed c.args.snapshot.now) =
    length-map (listed c.args.snapshot.now) _ in
    let all = c.request_count-place-end.ensures.value in
    ext_get_or (pos 0) c.loop-place.into.0 (net_prices c.args.snapshot.now c.args.prices.now.0 c.args.quota_prices.now.0)
    (c.loop-place.invariant.0 ∙ sym count) (λ i l. c.loop-place.invariant.1 i (let len = c.loop-place.invariant.0 in omega arith))
