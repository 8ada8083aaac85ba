use Rattle.std.proofs.Common.{rules, arith, ◌≡◌, ◌≤◌, ℤ, pos, w64, List, length, sym, ◌∙◌, ap, subst}
use Rattle.std.proofs.lemmas.Int.{to_z-of_z}
use Rattle.plan_base.specs.Bound.{IsBest}
use Rattle.bound_checker.specs.declared.table.Start.{Start}
use Rattle.plan_base.specs.Tables.{entry}
use Rattle.bound_checker.specs.Tables.{DoRowsFit, IsRecursion}
use Rattle.bound_checker.proofs.Tabled.{rows_fit, first_best}
use Rattle.bound_checker.proofs.best.best_of.Goals as goal
use mir.Val.{SFits}

pub fill_table-requires-clause-rows : goal.fill_table-requires-clause-rows
fill_table-requires-clause-rows c =
    let same : length c.as_slice.result.now ≡ length c.in_ok-rows.rows.items = ap (λ (xs : List (List Start)). length xs) c.as_slice.ensures.value in
    let count : length c.in_ok-rows.rows.items ≡ c.args.snapshot.now.slices = c.in_ok-rows.ensures.count in
    let most : c.args.snapshot.now.slices ≤ 1440 = c.recall_valid.ensures.orderly.ranges.slices_most in
    omega arith

pub fill_table-requires-clause-fit : goal.fill_table-requires-clause-fit
fill_table-requires-clause-fit c =
    subst (λ (xs : List (List Start)). DoRowsFit xs) (sym c.as_slice.ensures.value)
    (rows_fit c.args.snapshot.now c.args.prices.now.0 c.args.telescope.0 c.in_ok-rows.rows.items c.recall_valid.ensures.orderly
    c.requires.range c.in_ok-rows.ensures)

pub returns : goal.returns
returns c =
    let fit : SFits w64 c.fill_table.result = search rules in
    subst (λ (b : ℤ). IsBest c.args.snapshot.now c.args.prices.now.0 c.args.telescope.0 c.args.snapshot.now.first.0 b)
    (sym (to_z-of_z w64 c.fill_table.result fit ∙ c.fill_table.ensures.first))
    (first_best c.args.snapshot.now c.args.prices.now.0 c.args.telescope.0 c.in_ok-rows.rows.items c.recall_valid.ensures.orderly c.requires.range
    c.in_ok-rows.ensures c.fill_table.new.table
    (subst (λ (xs : List (List Start)). IsRecursion xs c.fill_table.new.table) c.as_slice.ensures.value c.fill_table.ensures.recursion))
