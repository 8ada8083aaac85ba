use Rattle.std.proofs.Common.{rules, ◌≡◌, ◌<◌, ℤ, pos, w64, List, length, slice_index_or, sym, subst, arith}
use Rattle.std.proofs.lemmas.Int.{to_z-of_z}
use Rattle.plan_base.specs.Tables.{row}
use Rattle.plan_base.specs.Bound.{IsBest}
use Rattle.rapid.proofs.Tabled.{first_best, table_read}
use Rattle.rapid.proofs.tables.first_entry.Goals as goal
use mir.Val.{SFits}

pub returns : goal.returns
returns c =
    let fit : SFits w64 (slice_index_or c.as_slice.result.now 0 (pos 0)) = search rules in
    let count : length c.args.tables.now ≡ length c.args.snapshot.now.telescopes = c.requires.tables.count in
    let within : c.args.telescope < length c.args.tables.now = (let below = c.requires.telescope in omega arith) in
    let same : c.as_slice.result.now ≡ row c.args.tables.now c.args.telescope =
    table_read c.args.tables.now c.args.telescope c.args.telescope c.index-tables-telescope.result c.as_slice.result.now within
    (λ i. c.args.telescope) c.index-tables-telescope.is c.as_slice.ensures in
    let best : IsBest c.args.snapshot.now c.args.prices.now.0 c.args.telescope c.args.snapshot.now.first.0
    (slice_index_or (row c.args.tables.now c.args.telescope) 0 (pos 0)) =
    first_best c.args.snapshot.now c.args.prices.now.0 c.args.telescope c.recall_valid.ensures.orderly (row c.args.tables.now c.args.telescope)
    (c.requires.tables.each c.args.telescope c.requires.telescope)
    in
    simp to_z-of_z (subst (λ (xs : List ℤ). IsBest c.args.snapshot.now c.args.prices.now.0 c.args.telescope c.args.snapshot.now.first.0
    (slice_index_or xs 0 (pos 0))) (sym same) best)
