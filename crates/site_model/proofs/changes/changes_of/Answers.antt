use Rattle.std.proofs.Common.{rules, arith}
use Rattle.std.proofs.lemmas.Grind.{common_steps}
use Rattle.site_model.proofs.Closings.{full_next, changes_next}
use Rattle.site_model.proofs.changes.changes_of.Goals as goal

pub returns-in_err-spans-clause-full : goal.returns-in_err-spans-clause-full
returns-in_err-spans-clause-full c =
    let full = full_next c.args.change c.args.telescopes.now c.args.spans.now c.args.closures.now c.loop-telescope.telescope-index record { 0 = 0 }
    c.index-closures-telescope.result c.in_err-spans.field-0.0
    c.requires c.loop-telescope-test.true c.index-closures-telescope.is in
    let passes = c.in_err-spans.ensures.passes in
    let is = c.in_err-spans.ensures.full in
    search (rules, full, passes, is)

pub loop-telescope-preserved : goal.loop-telescope-preserved
loop-telescope-preserved c = rw c.in_ok-push.ensures.items
    (changes_next c.args.change c.args.telescopes.now c.args.spans.now c.args.closures.now c.loop-telescope.changes.items
    c.loop-telescope.telescope-index record { 0 = 0 } c.index-closures-telescope.result c.in_ok-spans.spans
    c.requires c.loop-telescope-test.true c.index-closures-telescope.is c.in_ok-spans.ensures.changed c.in_ok-spans.ensures.few c.loop-telescope.invariant)

pub returns-clause-changes : goal.returns-clause-changes
returns-clause-changes c = grind (arith, common_steps)
