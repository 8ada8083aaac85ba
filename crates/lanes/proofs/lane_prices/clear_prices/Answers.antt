use Rattle.std.proofs.Common.{length, replicate, sym, ◌∙◌, arith}
use Rattle.std.proofs.lemmas.List.{length-replicate, get_or-replicate, ext_get_or}
use Rattle.lanes.proofs.lane_prices.clear_prices.Goals as goal

pub returns : goal.returns
returns g c =
    let size = length-replicate (length c.args.prices.now) c.args.price in
    ext_get_or c.args.price c.loop-place.prices (replicate (length c.args.prices.now) c.args.price) (c.loop-place.invariant.count ∙ sym size) (λ i l.
    c.loop-place.invariant.done i (omega (arith, c.loop-place.invariant.count))
    ∙ sym (get_or-replicate (length c.args.prices.now) i c.args.price c.args.price (omega (arith, c.loop-place.invariant.count))))
