use Rattle.std.proofs.Common.{◌≡◌, pos, length, ◌∙◌, arith}
use Rattle.std.proofs.lemmas.List.{length-map, ext_get_or}
use Rattle.interval_solver.specs.Lanes.{number_in, lane}
use Rattle.lanes.proofs.solving.copy_lane.Goals as goal

pub returns : goal.returns
returns g c =
    let size : length (lane c.args.place c.args.from.now) ≡ length c.args.from.now = length-map c.args.from.now (number_in c.args.place) in
    let count : length c.loop-row.into ≡ length c.args.from.now = c.loop-row.invariant.count ∙ c.requires.count in
    ext_get_or (pos 0) c.loop-row.into (lane c.args.place c.args.from.now) (omega arith) (λ i l. c.loop-row.invariant.done i (omega arith))
