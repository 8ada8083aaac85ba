use Rattle.std.proofs.Common.{refl, sym, ◌∙◌, arith}
use Rattle.rapid.proofs.Sought.{at_none, at_some, none_next, none_at, one_at}
use Rattle.rapid.proofs.seeking.first_at.Goals as goal

pub loop-telescope-preserved : goal.loop-telescope-preserved
loop-telescope-preserved c =
    none_next c.args.snapshot.now c.args.held.now c.args.request c.args.slice c.recall_valid.ensures.orderly c.requires.stage.known
    c.as_slice-telescopes.result.now (c.request_of.ensures.is.telescopes ∙ sym c.as_slice-telescopes.ensures)
    c.loop-telescope.telescope-index (record { 0 = 0 }) c.loop-telescope-test.true c.loop-telescope.invariant
    (at_none _ _ c.in_ok-found.field-0 c.in_ok-found.ensures c.in_default.is)

pub returns-in-Some : goal.returns-in-Some
returns-in-Some c =
    one_at c.args.snapshot.now c.args.held.now c.args.request c.args.slice c.recall_valid.ensures.orderly c.requires.stage.known
    c.as_slice-telescopes.result.now (c.request_of.ensures.is.telescopes ∙ sym c.as_slice-telescopes.ensures)
    c.loop-telescope.telescope-index _ (record { 0 = 0 }) c.in-Some.found c.loop-telescope-test.true refl c.loop-telescope.invariant
    (at_some _ _ c.in_ok-found.field-0 c.in-Some.found c.in_ok-found.ensures c.in-Some.is)

pub returns : goal.returns
returns c =
    none_at c.args.snapshot.now c.args.held.now c.args.request c.args.slice c.recall_valid.ensures.orderly c.requires.stage.known
    c.as_slice-telescopes.result.now (c.request_of.ensures.is.telescopes ∙ sym c.as_slice-telescopes.ensures)
    c.loop-telescope.telescope-index (omega arith) c.loop-telescope.invariant
