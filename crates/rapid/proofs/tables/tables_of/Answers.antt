use Rattle.std.proofs.Common.{◌≡◌, ℕ, ◌+◌, length, sym, ◌∙◌, ap, subst, arith}
use Rattle.plan_base.specs.declared.parts.Parts.{Parts}
use Rattle.rapid.specs.Tables.{AreTablesTo, AreTables}
use Rattle.rapid.proofs.Tabled.{tables_none, tables_more}
use Rattle.rapid.proofs.tables.tables_of.Goals as goal

pub loop-telescope-init : goal.loop-telescope-init
loop-telescope-init c = subst (AreTablesTo c.args.snapshot.now c.args.prices.now.0 0) (sym c.new-tables.ensures.items)
    (tables_none c.args.snapshot.now c.args.prices.now.0)

pub loop-telescope-preserved : goal.loop-telescope-preserved
loop-telescope-preserved c =
    subst (AreTablesTo c.args.snapshot.now c.args.prices.now.0 (c.loop-telescope.telescope + 1)) (sym c.in_ok-push.ensures.items)
    (tables_more c.args.snapshot.now c.args.prices.now.0 c.loop-telescope.telescope c.loop-telescope.tables.items c.in_ok-table.table
    c.loop-telescope.invariant c.in_ok-table.ensures)

pub returns : goal.returns
returns c =
    let count : c.len-telescope-end.result ≡ length c.args.snapshot.now.telescopes = c.len-telescope-end.ensures
    ∙ ap (λ (s : Parts). length s.telescopes) c.parts.ensures.value in
    let all : c.loop-telescope.telescope ≡ length c.args.snapshot.now.telescopes = omega arith in
    subst (AreTables c.args.snapshot.now c.args.prices.now.0) (sym c.from_vec.ensures)
    (subst (λ (n : ℕ). AreTablesTo c.args.snapshot.now c.args.prices.now.0 n c.loop-telescope.tables.items) all c.loop-telescope.invariant)
