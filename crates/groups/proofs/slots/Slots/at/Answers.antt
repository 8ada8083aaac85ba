use Rattle.std.proofs.Common.{◌+◌, ◌-◌, ◌*◌, ◌∙◌, ap}
use Rattle.groups.proofs.Footed.{seconds_here, to_here}
use Rattle.groups.proofs.slots.Slots.at.Goals as goal

pub returns-clause-to : goal.returns-clause-to
returns-clause-to c =
    to_here c.args.snapshot.now c.parts-parts.result.now c.args.start
    (c.from.result * c.parts-parts.result.now.slices + (c.args.start.slice.0 - c.parts-parts.result.now.first.0)) c.slices_for.result
    c.request_at.result.now.seconds c.parts-parts.ensures.value
    (ap (λ n. n * c.parts-parts.result.now.slices + (c.args.start.slice.0 - c.parts-parts.result.now.first.0)) c.from.ensures) (c.slices_for.ensures.value ∙ cc)
    (seconds_here c.args.snapshot.now c.args.start.request.0 c.args.place c.request_at.result.now c.requires.possible.known
    c.requires.place c.request_at.ensures)
