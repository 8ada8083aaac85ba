use Rattle.std.proofs.Common.{◌≡◌, ◌+◌, length, sym, subst, arith}
use Rattle.plan_base.specs.Requests.{listed}
use Rattle.repair.specs.Worths.{AreOffersOf}
use Rattle.repair.proofs.Valued.{offers_more}
use Rattle.repair.proofs.offers.offers_of.Goals as goal

pub loop-place-preserved : goal.loop-place-preserved
loop-place-preserved c =
    subst (AreOffersOf c.args.snapshot.now (c.loop-place.place + 1)) (sym c.in_ok-push.ensures.items)
    (offers_more c.args.snapshot.now c.loop-place.place c.loop-place.offers.items c.offer_at.result c.loop-place.invariant c.offer_at.ensures)

pub returns-clause-offers : goal.returns-clause-offers
returns-clause-offers c =
    let count = c.request_count-count.ensures.value in
    let end : c.loop-place.place ≡ length (listed c.args.snapshot.now) = omega arith in
    subst (λ n. AreOffersOf c.args.snapshot.now n c.loop-place.offers.items) end c.loop-place.invariant
