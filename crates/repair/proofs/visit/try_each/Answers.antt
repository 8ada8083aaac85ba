use Rattle.std.proofs.Common.{ℕ, All, sym, ◌∙◌, subst, arith}
use Rattle.plan_base.specs.declared.parts.Parts.{Parts}
use Rattle.plan_base.specs.Feasible.{requests_of, AreOfOneOneOf}
use Rattle.plan_base.specs.Fill.{TriesOne}
use Rattle.repair.proofs.Trying.{adds_then_more, adds_then_none}
use Rattle.repair.proofs.Visiting.{at_entry, tries_more, tries_all}
use Rattle.repair.proofs.visit.try_each.Goals as goal
use Rattle.repair.proofs.visit.try_each.Goals.{then-try_one, else-try_one}

pub try_one-requires-clause-alone : goal.try_one-requires-clause-alone
try_one-requires-clause-alone c =
    subst (λ (p : Parts). All (λ r. ¬ (AreOfOneOneOf p r c.entry-item.result.request.0)) (requests_of c.loop-entry.draft.placed))
    (sym c.loop-entry.invariant.same)
    (λ k d l. at_entry (λ r. (a : ℕ) → ¬ (AreOfOneOneOf c.args.draft.now.snapshot a r)) c.args.entries.now c.loop-entry.entry-index
    c.entry-item.result c.requires.alone c.loop-entry-test.true c.entry-item.is _)

pub loop-entry-preserved : goal.loop-entry-preserved
loop-entry-preserved c =
    let s = c.args.draft.now.snapshot in
    let one : TriesOne s c.loop-entry.draft.placed c.entry-item.result.request.0 c.try_one.new.draft.placed =
    subst (λ (p : Parts). TriesOne p c.loop-entry.draft.placed c.entry-item.result.request.0 c.try_one.new.draft.placed)
    c.loop-entry.invariant.same c.try_one.ensures.tries in
    record {
      same = c.try_one.ensures.same ∙ c.loop-entry.invariant.same;
      tries = tries_more s c.args.draft.now.placed c.loop-entry.draft.placed c.try_one.new.draft.placed c.args.entries.now c.loop-entry.entry-index
          c.entry-item.result c.loop-entry-test.true c.entry-item.is one c.loop-entry.invariant.tries;
      added = elim c.if-try_one.branch [
        | then-try_one w ↦ rw w.added-is
            (adds_then_more c.loop-entry.added c.args.draft.now.placed c.loop-entry.draft.placed c.try_one.new.draft.placed
            c.loop-entry.invariant.added (rw w.if-try_one.true at c.try_one.ensures.added))
        | else-try_one w ↦ rw w.added-is
            (adds_then_none c.loop-entry.added c.args.draft.now.placed c.loop-entry.draft.placed c.try_one.new.draft.placed
            c.loop-entry.invariant.added (rw w.if-try_one.false at c.try_one.ensures.added))
      ];
    }

pub returns-clause-tries : goal.returns-clause-tries
returns-clause-tries c = tries_all c.args.draft.now.snapshot c.args.draft.now.placed c.loop-entry.draft.placed c.args.entries.now
    c.loop-entry.entry-index (omega arith) c.loop-entry.invariant.tries
