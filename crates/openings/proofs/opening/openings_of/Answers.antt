use Rattle.std.proofs.Common.{◌≡◌, ℕ, ◌+◌, Bool, List, length, sym, ap, subst, arith}
use Rattle.plan_base.specs.declared.parts.Parts.{Parts}
use Rattle.openings.specs.Openings.{AreRowsTo}
use Rattle.openings.proofs.Flags.{rows_none, rows_more}
use Rattle.openings.proofs.opening.openings_of.Goals as goal

pub loop-telescope-init : goal.loop-telescope-init
loop-telescope-init c =
    subst (AreRowsTo c.args.snapshot.now c.args.request.0 0) (sym c.in_ok-rows.ensures.items) (rows_none c.args.snapshot.now c.args.request.0)

pub loop-telescope-preserved : goal.loop-telescope-preserved
loop-telescope-preserved c =
    subst (λ (rows : List (List Bool)). AreRowsTo c.args.snapshot.now c.args.request.0 (c.loop-telescope.telescope + 1) rows) (sym c.in_ok-push.ensures.items)
    (rows_more c.args.snapshot.now c.args.request.0 c.loop-telescope.telescope c.loop-telescope.rows.items c.in_ok-row_of.field-0
    c.loop-telescope.invariant c.in_ok-row_of.ensures)

pub returns-clause-openings : goal.returns-clause-openings
returns-clause-openings c =
    let count : length c.parts-2.result.now.telescopes ≡ length c.args.snapshot.now.telescopes =
    ap (λ (s : Parts). length s.telescopes) c.parts-2.ensures.value in
    let all : c.loop-telescope.telescope ≡ length c.args.snapshot.now.telescopes =
    omega (arith, c.loop-telescope-test.false, c.loop-telescope.auto.telescope-end, c.len-telescope-end.ensures) in
    record {
      known = c.requires.request;
      offer = c.offer_at-offer.ensures;
      rows = subst (λ (n : ℕ). AreRowsTo c.args.snapshot.now c.args.request.0 n c.loop-telescope.rows.items) all c.loop-telescope.invariant;
    }
