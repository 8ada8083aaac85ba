use Rattle.std.proofs.Common.{true, false, List, All, Contains, sym, ◌∙◌, subst, arith}
use Rattle.plan_base.specs.declared.parts.Parts.{Parts}
use Rattle.plan_base.specs.declared.claim.Placement.{Placement}
use Rattle.plan_base.specs.Feasible.{requests_of, AreOfOneOneOf}
use Rattle.repair.specs.Steps.{AddsSome, Places}
use Rattle.repair.proofs.Trying.{adds_placed}
use Rattle.repair.proofs.Visiting.{at_entry, until_more, until_placed, until_all}
use Rattle.repair.proofs.visit.try_until_one.Goals as goal

pub place-requires-clause-unplaced : goal.place-requires-clause-unplaced
place-requires-clause-unplaced c = subst (λ (plan : List Placement). ¬ (Contains (requests_of plan) c.entry-item.result.request.0))
    (sym c.loop-entry.invariant.none)
    (at_entry (λ r. ¬ (Contains (requests_of c.args.draft.now.placed) r)) c.args.entries.now c.loop-entry.entry-index c.entry-item.result
    c.requires.unplaced c.loop-entry-test.true c.entry-item.is)

pub place-requires-clause-alone : goal.place-requires-clause-alone
place-requires-clause-alone c =
    subst (λ (plan : List Placement). All (λ r. ¬ (AreOfOneOneOf c.loop-entry.draft.snapshot r c.entry-item.result.request.0)) (requests_of plan))
    (sym c.loop-entry.invariant.none)
    (subst (λ (p : Parts). All (λ r. ¬ (AreOfOneOneOf p r c.entry-item.result.request.0)) (requests_of c.args.draft.now.placed))
    (sym c.loop-entry.invariant.same)
    (at_entry (λ r. All (λ a. ¬ (AreOfOneOneOf c.args.draft.now.snapshot a r)) (requests_of c.args.draft.now.placed)) c.args.entries.now
    c.loop-entry.entry-index c.entry-item.result c.requires.alone c.loop-entry-test.true c.entry-item.is))

pub returns-then-place-clause-tries : goal.returns-then-place-clause-tries
returns-then-place-clause-tries c =
    let s = c.args.draft.now.snapshot in
    let placed : Places s c.args.draft.now.placed c.entry-item.result.request.0 true c.place.new.draft.placed
    = subst (λ (plan : List Placement). Places s plan c.entry-item.result.request.0 true c.place.new.draft.placed) c.loop-entry.invariant.none
    (subst (λ (p : Parts). Places p c.loop-entry.draft.placed c.entry-item.result.request.0 true c.place.new.draft.placed) c.loop-entry.invariant.same
    (rw c.if-place.true at c.place.ensures.placed))
    in
    until_placed s c.args.draft.now.placed c.place.new.draft.placed c.args.entries.now c.loop-entry.entry-index c.entry-item.result
    c.loop-entry-test.true c.entry-item.is placed c.loop-entry.invariant.tries

pub returns-then-place-clause-added : goal.returns-then-place-clause-added
returns-then-place-clause-added c = subst (λ (plan : List Placement). AddsSome true plan c.place.new.draft.placed) c.loop-entry.invariant.none
    (adds_placed c.loop-entry.draft.snapshot c.loop-entry.draft.placed c.entry-item.result.request.0 true c.place.new.draft.placed
    (rw c.if-place.true at c.place.ensures.placed))

pub loop-entry-preserved : goal.loop-entry-preserved
loop-entry-preserved c =
    let s = c.args.draft.now.snapshot in
    let placed : Places s c.args.draft.now.placed c.entry-item.result.request.0 false c.place.new.draft.placed
    = subst (λ (plan : List Placement). Places s plan c.entry-item.result.request.0 false c.place.new.draft.placed) c.loop-entry.invariant.none
    (subst (λ (p : Parts). Places p c.loop-entry.draft.placed c.entry-item.result.request.0 false c.place.new.draft.placed)
    c.loop-entry.invariant.same (rw c.if-place.false at c.place.ensures.placed))
    in
    record {
      same = c.place.ensures.same ∙ c.loop-entry.invariant.same;
      none = placed.1;
      tries = until_more s c.args.draft.now.placed c.args.entries.now c.loop-entry.entry-index c.entry-item.result c.loop-entry-test.true
          c.entry-item.is placed.0 c.loop-entry.invariant.tries;
    }

pub returns-clause-tries : goal.returns-clause-tries
returns-clause-tries c = rw c.loop-entry.invariant.none
    (until_all c.args.draft.now.snapshot c.args.draft.now.placed c.args.entries.now c.loop-entry.entry-index
    (omega arith) c.loop-entry.invariant.tries)
