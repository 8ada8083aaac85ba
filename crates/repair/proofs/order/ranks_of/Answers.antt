use Rattle.std.proofs.Common.{◌+◌, refl, sym, subst}
use Rattle.repair.specs.Orders.{AreRanksOf}
use Rattle.repair.proofs.Ranking.{ranks_more}
use Rattle.repair.proofs.order.ranks_of.Goals as goal

pub loop-place-preserved : goal.loop-place-preserved
loop-place-preserved c =
    subst (AreRanksOf c.args.worths.now (c.loop-place.place + 1)) (sym c.in_ok-push.ensures.items)
    (ranks_more c.args.worths.now c.loop-place.ranks.items c.loop-place.place _ c.loop-place.invariant (record { place = refl; worth_there = refl }))
