use Rattle.std.proofs.Common.{◌≡◌, ℕ, ◌+◌, ◌≤◌, ℤ, pos, List, length, sym, ◌∙◌, ap, subst, arith}
use Rattle.std.specs.Vec.{with_items}
use Rattle.std.proofs.lemmas.List.{length-replicate, with_items_is}
use Rattle.bound_checker.specs.declared.table.Start.{Start}
use Rattle.bound_checker.specs.Tables.{DoRowsFit, IsRecursion}
use Rattle.bound_checker.proofs.Tabled.{rows_fit}
use Rattle.explain.specs.Steps.{IsFilled}
use Rattle.explain.proofs.Charted.{is_chart}
use Rattle.explain.proofs.chart.chart_of.Goals as goal

pub fill_until-requires-clause-rows : goal.fill_until-requires-clause-rows
fill_until-requires-clause-rows c =
    let same : length c.as_slice.result.now ≡ length c.in_ok-rows.rows.items = ap (λ (xs : List (List Start)). length xs) c.as_slice.ensures.value in
    let count : length c.in_ok-rows.rows.items ≡ c.args.snapshot.now.slices = c.in_ok-rows.ensures.count in
    let most : c.args.snapshot.now.slices ≤ 1440 = c.recall_valid.ensures.orderly.ranges.slices_most in
    omega arith

pub fill_until-requires-clause-fit : goal.fill_until-requires-clause-fit
fill_until-requires-clause-fit c =
    subst (λ (xs : List (List Start)). DoRowsFit xs) (sym c.as_slice.ensures.value)
    (rows_fit c.args.snapshot.now c.args.prices.now.0 c.args.telescope.0 c.in_ok-rows.rows.items c.recall_valid.ensures.orderly
    c.requires.range c.in_ok-rows.ensures)

pub fill_table-requires-clause-rows : goal.fill_table-requires-clause-rows
fill_table-requires-clause-rows c =
    let same : length c.as_slice-2.result.now ≡ length c.in_ok-rows.rows.items = ap (λ (xs : List (List Start)). length xs) c.as_slice-2.ensures.value in
    let count : length c.in_ok-rows.rows.items ≡ c.args.snapshot.now.slices = c.in_ok-rows.ensures.count in
    let most : c.args.snapshot.now.slices ≤ 1440 = c.recall_valid.ensures.orderly.ranges.slices_most in
    omega arith

pub fill_table-requires-clause-fit : goal.fill_table-requires-clause-fit
fill_table-requires-clause-fit c =
    subst (λ (xs : List (List Start)). DoRowsFit xs) (sym c.as_slice-2.ensures.value)
    (rows_fit c.args.snapshot.now c.args.prices.now.0 c.args.telescope.0 c.in_ok-rows.rows.items c.recall_valid.ensures.orderly
    c.requires.range c.in_ok-rows.ensures)

pub returns : goal.returns
returns c =
    let kept : length c.fill_table.new.table ≡ length c.as_mut_slice-2.result.now = c.fill_table.auto.table in
    let made : length c.in_ok-after.after.items ≡ c.len-2.result + 1 = ap (λ (xs : List ℤ). length xs) c.in_ok-after.ensures
    ∙ length-replicate (c.len-2.result + 1) (pos 0) in
    let rows : c.len-2.result ≡ length c.in_ok-rows.rows.items = c.len-2.ensures ∙ sym c.as_slice-2.ensures.len
    ∙ ap (λ (xs : List (List Start)). length xs) c.as_slice-2.ensures.value in
    let until : (with_items c.in_ok-until.until c.fill_until.new.table).items ≡ c.fill_until.new.table =
    with_items_is c.in_ok-until.until c.fill_until.new.table (c.fill_until.auto.table ∙ c.as_mut_slice.ensures.len) in
    let after : (with_items c.in_ok-after.after c.fill_table.new.table).items ≡ c.fill_table.new.table =
    with_items_is c.in_ok-after.after c.fill_table.new.table (kept ∙ c.as_mut_slice-2.ensures.len) in
    is_chart c.args.snapshot.now c.args.prices.now.0 c.args.telescope.0 c.in_ok-rows.rows.items c.recall_valid.ensures.orderly c.in_ok-rows.ensures _
    (ap (λ (xs : List ℤ). length xs) after ∙ kept ∙ ap (λ (xs : List ℤ). length xs) c.as_mut_slice-2.ensures.value ∙ made ∙ ap (λ (n : ℕ). n + 1) rows)
    (subst (IsFilled c.in_ok-rows.rows.items) (sym until)
    (subst (λ (xs : List (List Start)). IsFilled xs c.fill_until.new.table) c.as_slice.ensures.value c.fill_until.ensures))
    (subst (IsRecursion c.in_ok-rows.rows.items) (sym after)
    (subst (λ (xs : List (List Start)). IsRecursion xs c.fill_table.new.table) c.as_slice-2.ensures.value c.fill_table.ensures.recursion))
