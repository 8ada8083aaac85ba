use Rattle.std.proofs.Common.{List, sym, subst}
use Rattle.plan_base.specs.declared.claim.Placement.{Placement}
use Rattle.plan_base.specs.Feasible.{requests_of, IsEachOnce}
use Rattle.rapid.specs.Held.{plan_of}
use Rattle.rapid.specs.Insertion.{AreRising}
use Rattle.rapid.proofs.Placed.{gone_once, placed}
use Rattle.rapid.proofs.placing.with_start.Goals as goal

pub rising_requests-requires : goal.rising_requests-requires
rising_requests-requires c =
    subst IsEachOnce (sym c.as_slice.ensures.value)
    (gone_once c.args.snapshot.now (plan_of c.args.held.now) c.args.found.start c.args.found.gone.items c.args.found.kept.items
    c.requires.stage.feasible c.requires.earliest.earliest.worth_it.displaces)

pub returns : goal.returns
returns c =
    placed c.args.snapshot.now (plan_of c.args.held.now) c.args.request.0 c.recall_valid.ensures.orderly c.listing_of.result
    c.in_ok-displaced.displaced c.listing_of.ensures.rising c.args.found c.push.new.self.items
    c.requires.earliest.earliest c.requires.earliest.gain
    c.in_ok-push.ensures.items c.listing_of.ensures.same
    (subst (λ (xs : List Placement). AreRising (requests_of xs) c.in_ok-displaced.displaced) c.as_slice.ensures.value c.in_ok-displaced.ensures)
