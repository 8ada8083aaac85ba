use Rattle.std.proofs.Common.{rules, arith, ◌≡◌, ◌+◌, ◌-◌, ◌<◌, pos, List, length, slice_index_or, All, subst, w64}
use Rattle.std.proofs.lemmas.Int.{to_z-of_z}
use Rattle.std.proofs.lemmas.List.{get_or_default}
use Rattle.bound_checker.specs.declared.table.Start.{Start}
use Rattle.plan_base.specs.Tables.{entry, row}
use Rattle.bound_checker.specs.Tables.{IsEntry, gain, IsFitting}
use Rattle.bound_checker.proofs.Filling.{IsMostOf, IsFilledFrom, filled_start, filled_entry, filled_more, row_fits, row_read}
use Rattle.bound_checker.proofs.table.fill_table.Goals as goal
use mir.Val.{SFits}

pub loop-slice-init : goal.loop-slice-init
loop-slice-init c = filled_start c.args.rows.now c.clear.new.table (length c.args.table.now) c.requires.entries c.clear.ensures

pub row_best-requires-clause-weights : goal.row_best-requires-clause-weights
row_best-requires-clause-weights c =
    λ k d l. (row_fits c.args.rows.now (c.loop-slice.slice - 1) c.as_slice.result.now c.requires.fit
    (row_read c.args.rows.now (c.loop-slice.slice - 1) c.as_slice.result.now c.index-rows-slice.result
    (omega arith) c.index-rows-slice.is c.as_slice.ensures) k d l).weight

pub row_best-requires-clause-afters : goal.row_best-requires-clause-afters
row_best-requires-clause-afters c = λ k d l. let within =
    (row_fits c.args.rows.now (c.loop-slice.slice - 1) c.as_slice.result.now c.requires.fit
    (row_read c.args.rows.now (c.loop-slice.slice - 1) c.as_slice.result.now c.index-rows-slice.result
    (omega arith) c.index-rows-slice.is c.as_slice.ensures) k d l).within in let count = c.loop-slice.invariant.count in omega arith

pub row_best-requires-clause-entries : goal.row_best-requires-clause-entries
row_best-requires-clause-entries c =
    λ k d l. subst IsEntry (get_or_default c.loop-slice.table k (pos 0) d l)
    (filled_entry c.args.rows.now c.loop-slice.table c.loop-slice.slice c.requires.rows c.loop-slice.invariant k l)

pub loop-slice-preserved : goal.loop-slice-preserved
loop-slice-preserved c =
    let up : c.loop-slice.slice - 1 + 1 ≡ c.loop-slice.slice = omega arith in
    let same : c.as_slice.result.now ≡ row c.args.rows.now (c.loop-slice.slice - 1) =
    row_read c.args.rows.now (c.loop-slice.slice - 1) c.as_slice.result.now c.index-rows-slice.result
    (omega arith) c.index-rows-slice.is c.as_slice.ensures in
    let fit : SFits w64 c.row_best.result = search rules in
    let next : SFits w64 (slice_index_or c.loop-slice.table (c.loop-slice.slice - 1 + 1) (pos 0)) = search rules in
    let r = simp to_z-of_z at c.row_best.ensures in
    let most : IsMostOf c.as_slice.result.now (gain c.loop-slice.table) (length c.as_slice.result.now)
    (entry c.loop-slice.table (c.loop-slice.slice - 1 + 1)) c.row_best.result =
    record { above = r.least; each = λ k d l. r.each k d l; reached = r.reached } in
    let before : IsFilledFrom c.args.rows.now c.loop-slice.table (c.loop-slice.slice - 1 + 1) = rw up c.loop-slice.invariant in
    simp to_z-of_z
    (filled_more c.args.rows.now c.loop-slice.table (c.loop-slice.slice - 1) c.row_best.result (omega arith) c.requires.fit before
    (subst (λ (xs : List Start). IsMostOf xs (gain c.loop-slice.table) (length xs)
    (entry c.loop-slice.table (c.loop-slice.slice - 1 + 1)) c.row_best.result) same most))
