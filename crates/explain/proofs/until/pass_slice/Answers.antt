use Rattle.std.proofs.Common.{rules, ◌≡◌, pos, w64, length, slice_index_or, arith}
use Rattle.std.proofs.lemmas.Int.{ints, to_z-of_z}
use Rattle.std.proofs.lemmas.List.{get_or_default}
use Rattle.plan_base.specs.Tables.{row}
use Rattle.bound_checker.specs.declared.table.Start.{Start}
use Rattle.bound_checker.specs.Tables.{IsFitting}
use Rattle.bound_checker.proofs.Filling.{row_fits, row_read}
use Rattle.explain.specs.Steps.{IsStepBefore, IsRaised}
use Rattle.explain.proofs.Raising.{IsPassed, forward_entries, passed_on, passed_more, passed_all}
use Rattle.explain.proofs.until.pass_slice.Goals as goal
use mir.Val.{SFits}

pub raise-requires-clause-weight : goal.raise-requires-clause-weight
raise-requires-clause-weight c = (omega (arith, ints), omega (arith, ints))

pub raise-requires-clause-entries : goal.raise-requires-clause-entries
raise-requires-clause-entries c = forward_entries c.args.rows.now (IsStepBefore c.args.rows.now c.args.slice) c.args.table.now c.requires.rows c.requires.table

pub loop-start-init : goal.loop-start-init
loop-start-init c = passed_on c.args.rows.now c.args.slice c.as_slice-row.result.now c.args.table.now c.raise.new.table c.requires.table c.raise.ensures

pub raise-requires-in-loop-start-clause-to : goal.raise-requires-in-loop-start-clause-to
raise-requires-in-loop-start-clause-to c =
    let same : c.as_slice-row.result.now ≡ row c.args.rows.now c.args.slice =
    row_read c.args.rows.now c.args.slice c.as_slice-row.result.now c.index-rows-slice.result c.requires.slice c.index-rows-slice.is
    c.as_slice-row.ensures in
    let x : Start = slice_index_or c.as_slice-row.result.now c.loop-start.start-index (record { weight = pos 0; after = 0 }) in
    let fits : IsFitting (length c.args.rows.now) c.args.slice x =
    row_fits c.args.rows.now c.args.slice c.as_slice-row.result.now c.requires.fit same c.loop-start.start-index
    (record { weight = pos 0; after = 0 }) c.loop-start-test.true in
    omega (arith, fits.within, c.loop-start.invariant.count)

pub raise-requires-in-loop-start-clause-weight : goal.raise-requires-in-loop-start-clause-weight
raise-requires-in-loop-start-clause-weight c =
    let same : c.as_slice-row.result.now ≡ row c.args.rows.now c.args.slice =
    row_read c.args.rows.now c.args.slice c.as_slice-row.result.now c.index-rows-slice.result c.requires.slice c.index-rows-slice.is
    c.as_slice-row.ensures in
    let x : Start = slice_index_or c.as_slice-row.result.now c.loop-start.start-index (record { weight = pos 0; after = 0 }) in
    let fit : SFits w64 (slice_index_or c.as_slice-row.result.now c.loop-start.start-index (record { weight = pos 0; after = 0 })).weight = search rules in
    simp to_z-of_z (row_fits c.args.rows.now c.args.slice c.as_slice-row.result.now c.requires.fit same c.loop-start.start-index
    (record { weight = pos 0; after = 0 }) c.loop-start-test.true).weight

pub raise-requires-in-loop-start-clause-entries : goal.raise-requires-in-loop-start-clause-entries
raise-requires-in-loop-start-clause-entries c =
    forward_entries c.args.rows.now (IsPassed c.args.rows.now c.args.slice c.as_slice-row.result.now c.loop-start.start-index) c.loop-start.table
    c.requires.rows c.loop-start.invariant

pub loop-start-preserved : goal.loop-start-preserved
loop-start-preserved c =
    let same : c.as_slice-row.result.now ≡ row c.args.rows.now c.args.slice =
    row_read c.args.rows.now c.args.slice c.as_slice-row.result.now c.index-rows-slice.result c.requires.slice c.index-rows-slice.is
    c.as_slice-row.ensures in
    let x : Start = slice_index_or c.as_slice-row.result.now c.loop-start.start-index (record { weight = pos 0; after = 0 }) in
    let fit : SFits w64 (slice_index_or c.as_slice-row.result.now c.loop-start.start-index (record { weight = pos 0; after = 0 })).weight = search rules in
    let fits : IsFitting (length c.args.rows.now) c.args.slice x =
    row_fits c.args.rows.now c.args.slice c.as_slice-row.result.now c.requires.fit same c.loop-start.start-index
    (record { weight = pos 0; after = 0 }) c.loop-start-test.true in
    let raised : IsRaised c.loop-start.table c.args.slice x.after x.weight c.raise-in-loop-start.new.table = simp to_z-of_z at c.raise-in-loop-start.ensures in
    passed_more c.args.rows.now c.args.slice c.loop-start.start-index c.as_slice-row.result.now x c.loop-start.table
    c.raise-in-loop-start.new.table c.loop-start-test.true
    (get_or_default c.as_slice-row.result.now c.loop-start.start-index x (record { weight = pos 0; after = 0 }) c.loop-start-test.true) fits
    c.loop-start.invariant raised

pub returns : goal.returns
returns c =
    let same : c.as_slice-row.result.now ≡ row c.args.rows.now c.args.slice =
    row_read c.args.rows.now c.args.slice c.as_slice-row.result.now c.index-rows-slice.result c.requires.slice c.index-rows-slice.is
    c.as_slice-row.ensures in
    passed_all c.args.rows.now c.args.slice c.loop-start.start-index c.as_slice-row.result.now c.loop-start.table same
    c.loop-start-test.false c.loop-start.invariant
