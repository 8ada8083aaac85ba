use Rattle.std.proofs.Common.{◌+◌, take, sym, ◌∙◌, ap, subst}
use Rattle.repair.specs.Repairs.{AreNoted}
use Rattle.std.proofs.lemmas.List.{get_or_default}
use Rattle.repair.proofs.Valued.{offer_known}
use Rattle.repair.proofs.Sorting.{not_false, not_true}
use Rattle.repair.proofs.Foremost.{noted_step, noted_kept}
use Rattle.repair.proofs.ranked.note_ranks.Goals as goal
use Rattle.repair.proofs.ranked.note_ranks.Goals.{then-not-offer, else-not-offer}

pub place_of-place-requires-clause-known : goal.place_of-place-requires-clause-known
place_of-place-requires-clause-known c = (c.requires.possible c.loop-start.start-index _ c.loop-start-test.true).known

pub rank_of-requires-clause-offer : goal.rank_of-requires-clause-offer
rank_of-requires-clause-offer c =
    offer_known c.args.snapshot.now c.args.offers.now.by_place.items _ c.place_of-place.result c.index-offer.result.now c.requires.offers.by_place
    (c.requires.possible c.loop-start.start-index _ c.loop-start-test.true).known c.place_of-place.ensures.value (sym c.index-offer.ensures)

pub loop-start-preserved : goal.loop-start-preserved
loop-start-preserved c =
    let offer = offer_known c.args.snapshot.now c.args.offers.now.by_place.items _ c.place_of-place.result c.index-offer.result.now
    c.requires.offers.by_place (c.requires.possible c.loop-start.start-index _ c.loop-start-test.true).known c.place_of-place.ensures.value
    (sym c.index-offer.ensures) in
    elim c.if-not-offer.branch [
      | then-not-offer w ↦ subst (AreNoted c.args.snapshot.now (take (c.loop-start.start-index + 1) c.args.starts.now)) (sym (ap (λ v. v.items) w.noted-is))
          (noted_step c.args.snapshot.now c.args.starts.now c.loop-start.start-index _ c.place_of-place.result c.loop-start.noted.items
          w.index.result.now w.earlier.result w.rank_of.result c.requires.possible c.loop-start-test.true
          (sym offer.of_and ∙ not_false _ w.if-not-offer.true)
          c.place_of-place.ensures.value c.place_of-place.ensures.within c.loop-start.invariant w.index.ensures w.rank_of.ensures w.earlier.ensures)
      | else-not-offer w ↦ subst (AreNoted c.args.snapshot.now (take (c.loop-start.start-index + 1) c.args.starts.now)) (sym (ap (λ v. v.items) w.noted-is))
          (noted_kept c.args.snapshot.now c.args.starts.now c.loop-start.start-index _ c.loop-start.noted.items c.loop-start-test.true
          (get_or_default c.args.starts.now c.loop-start.start-index _ _ c.loop-start-test.true)
          (sym offer.of_and ∙ not_true _ w.if-not-offer.false) c.loop-start.invariant)
    ]
