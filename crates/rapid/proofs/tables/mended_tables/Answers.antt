use Rattle.std.proofs.Common.{◌≡◌, ℕ, ◌+◌, length, sym, ◌∙◌, ap, subst, arith}
use Rattle.plan_base.specs.declared.parts.Parts.{Parts}
use Rattle.rapid.specs.Tables.{AreTablesTo, AreTables}
use Rattle.rapid.proofs.Mended.{count_more, range_more, request_known}
use Rattle.rapid.proofs.Tabled.{tables_none, tables_more}
use Rattle.rapid.proofs.tables.mended_tables.Goals as goal

pub openings_of-requires-clause-request : goal.openings_of-requires-clause-request
openings_of-requires-clause-request c = request_known c.args.extension.now c.requires.priceable c.recall_valid.ensures.orderly c.recall_valid-2.ensures.orderly

pub openings_of-requires-clause-count : goal.openings_of-requires-clause-count
openings_of-requires-clause-count c =
    count_more c.args.extension.now c.requires.priceable c.recall_valid.ensures.orderly c.recall_valid-2.ensures.orderly c.requires.prices.0
    c.args.prices.now.0 c.requires.prices.1

pub openings_of-requires-clause-range : goal.openings_of-requires-clause-range
openings_of-requires-clause-range c =
    range_more c.args.extension.now c.requires.priceable c.recall_valid.ensures.orderly c.recall_valid-2.ensures.orderly c.requires.prices.0
    c.args.prices.now.0 c.requires.prices.1

pub loop-telescope-init : goal.loop-telescope-init
loop-telescope-init c = subst (AreTablesTo c.args.extension.now.snapshot.now c.args.prices.now.0 0) (sym c.new-tables.ensures.items)
    (tables_none c.args.extension.now.snapshot.now c.args.prices.now.0)

pub loop-telescope-preserved : goal.loop-telescope-preserved
loop-telescope-preserved c =
    subst (AreTablesTo c.args.extension.now.snapshot.now c.args.prices.now.0 (c.loop-telescope.telescope + 1)) (sym c.in_ok-push.ensures.items)
    (tables_more c.args.extension.now.snapshot.now c.args.prices.now.0 c.loop-telescope.telescope c.loop-telescope.tables.items
    c.in_ok-mended_table.field-0 c.loop-telescope.invariant c.in_ok-mended_table.ensures)

pub returns : goal.returns
returns c =
    let count : c.len-telescope-end.result ≡ length c.args.extension.now.snapshot.now.telescopes = c.len-telescope-end.ensures
    ∙ ap (λ (s : Parts). length s.telescopes) c.parts.ensures.value in
    let all : c.loop-telescope.telescope ≡ length c.args.extension.now.snapshot.now.telescopes = omega arith in
    subst (AreTables c.args.extension.now.snapshot.now c.args.prices.now.0) (sym c.from_vec.ensures)
    (subst (λ (n : ℕ). AreTablesTo c.args.extension.now.snapshot.now c.args.prices.now.0 n c.loop-telescope.tables.items) all c.loop-telescope.invariant)
