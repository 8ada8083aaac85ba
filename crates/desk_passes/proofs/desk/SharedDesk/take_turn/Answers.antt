use Rattle.std.proofs.Common.{◌∙◌, ap, arith}
use Rattle.desk_passes.specs.Plays.{Seated}
use Rattle.desk_passes.proofs.Steps.{tries}
use Rattle.desk_passes.proofs.desk.SharedDesk.take_turn.Goals as goal

pub compare_exchange-found-requires : goal.compare_exchange-found-requires
compare_exchange-found-requires g c =
    let seat = c.loop.seat in (
      c.loop.invariant.2 ∙ c.requires.desk,
      omega (arith, c.args.self.now.two_words),
      λ s h _ at _.
          tries c.args.self.now.table.shared.key s seat.id seat.me h at c.requires.mine.0
          (ap (λ (me : Seated). me.0.caller) c.loop.invariant.3 ∙ c.requires.mine.1),
    )
