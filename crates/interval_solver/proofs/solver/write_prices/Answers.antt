use Rattle.std.proofs.Common.{◌≡◌, ◌<◌, [], pos, length, ◌∙◌, ap, arith}
use Rattle.std.proofs.lemmas.List.{get_or-map, length-map, ext_get_or}
use Rattle.interval_solver.specs.Lanes.{number_in, lane}
use Rattle.interval_solver.proofs.solver.write_prices.Goals as goal

pub returns-clause-prices : goal.returns-clause-prices
returns-clause-prices c =
    let long : length (lane 0 c.loop-place.lanes) ≡ length c.loop-place.lanes = length-map c.loop-place.lanes (number_in 0) in
    let count : length c.loop-place.lanes ≡ length c.args.prices.now = c.loop-place.invariant.count in
    ext_get_or (pos 0) (lane 0 c.loop-place.lanes) c.args.prices.now (long ∙ count)
    (λ k l.
    let below : k < length c.loop-place.lanes = omega arith in
    get_or-map (number_in 0) c.loop-place.lanes k [] (pos 0) below
    ∙ ap (number_in 0) (c.loop-place.invariant.written k [] (omega (arith, c.loop-place-test.false))))
