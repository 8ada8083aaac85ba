use Rattle.std.proofs.Common.{rules, pos, w64, ◌+ℤ◌, slice_index_or, arith}
use Rattle.std.proofs.lemmas.Int.{ints, to_z-of_z}
use Rattle.bound_checker.specs.Tables.{IsEntry}
use Rattle.explain.proofs.Fits.{fits_64}
use Rattle.explain.proofs.Raising.{raised_by}
use Rattle.explain.proofs.until.raise.Goals as goal
use mir.Val.{SFits}

pub returns : goal.returns
returns c =
    let e : IsEntry (slice_index_or c.args.table.now c.args.from (pos 0)) = c.requires.entries c.args.from (pos 0) c.requires.from in
    let one : SFits w64 (slice_index_or c.args.table.now c.args.from (pos 0)) = search rules in
    let two : SFits w64 (slice_index_or c.args.table.now c.args.to (pos 0)) = search rules in
    let three : SFits w64 c.args.weight = search rules in
    let four : SFits w64 c.larger.result = search rules in
    let both : SFits w64 (slice_index_or c.args.table.now c.args.from (pos 0) +ℤ c.args.weight) =
    fits_64 _ (omega (arith, ints, e.0, c.requires.weight.0)) (omega (arith, ints, e.1, c.requires.weight.1)) in
    let most = simp to_z-of_z at c.larger.ensures in
    simp to_z-of_z (raised_by c.args.table.now c.args.from c.args.to c.args.weight c.larger.result c.requires.to most.first most.second most.one)
