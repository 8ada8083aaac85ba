use Rattle.std.proofs.Common.{◌≡◌, ℕ, ◌+◌, ◌≤◌, ℤ, pos, List, length, sym, ◌∙◌, ap, subst, arith}
use Rattle.std.specs.Vec.{with_items}
use Rattle.std.proofs.lemmas.List.{length-replicate, with_items_is}
use Rattle.bound_checker.specs.declared.table.Start.{Start}
use Rattle.bound_checker.specs.Tables.{DoRowsFit, IsRecursion}
use Rattle.bound_checker.proofs.Tabled.{rows_fit}
use Rattle.rapid.specs.Tables.{IsTableOf}
use Rattle.rapid.proofs.Tabled.{table_made}
use Rattle.rapid.proofs.tables.table_of.Goals as goal

pub fill_table-requires-clause-rows : goal.fill_table-requires-clause-rows
fill_table-requires-clause-rows c =
    let same : length c.as_slice.result.now ≡ length c.in_ok-rows.rows.items = ap (λ (xs : List (List Start)). length xs) c.as_slice.ensures.value in
    let count : length c.in_ok-rows.rows.items ≡ c.args.snapshot.now.slices = c.in_ok-rows.ensures.count in
    let most : c.args.snapshot.now.slices ≤ 1440 = c.recall_valid.ensures.orderly.ranges.slices_most in
    omega arith

pub fill_table-requires-clause-fit : goal.fill_table-requires-clause-fit
fill_table-requires-clause-fit c =
    subst (λ (xs : List (List Start)). DoRowsFit xs) (sym c.as_slice.ensures.value)
    (rows_fit c.args.snapshot.now c.args.prices.now.0 c.args.telescope.0 c.in_ok-rows.rows.items c.recall_valid.ensures.orderly
    c.requires.range c.in_ok-rows.ensures)

pub returns : goal.returns
returns c =
    let kept : length c.fill_table.new.table ≡ length c.as_mut_slice.result.now = c.fill_table.auto.table in
    let made : length c.in_ok-table.table.items ≡ c.len.result + 1 = ap (λ (xs : List ℤ). length xs) c.in_ok-table.ensures
    ∙ length-replicate (c.len.result + 1) (pos 0) in
    let rows : c.len.result ≡ length c.in_ok-rows.rows.items = c.len.ensures ∙ sym c.as_slice.ensures.len
    ∙ ap (λ (xs : List (List Start)). length xs) c.as_slice.ensures.value in
    let table : (with_items c.in_ok-table.table c.fill_table.new.table).items ≡ c.fill_table.new.table =
    with_items_is c.in_ok-table.table c.fill_table.new.table (kept ∙ c.as_mut_slice.ensures.len) in
    subst (IsTableOf c.args.snapshot.now c.args.prices.now.0 c.args.telescope.0) (sym c.from_vec.ensures)
    (table_made c.args.snapshot.now c.args.prices.now.0 c.args.telescope.0 c.recall_valid.ensures.orderly c.in_ok-rows.rows.items _ c.in_ok-rows.ensures
    (ap (λ (xs : List ℤ). length xs) table ∙ kept ∙ ap (λ (xs : List ℤ). length xs) c.as_mut_slice.ensures.value ∙ made ∙ ap (λ (n : ℕ). n + 1) rows)
    (subst (IsRecursion c.in_ok-rows.rows.items) (sym table)
    (subst (λ (xs : List (List Start)). IsRecursion xs c.fill_table.new.table) c.as_slice.ensures.value c.fill_table.ensures.recursion)))
