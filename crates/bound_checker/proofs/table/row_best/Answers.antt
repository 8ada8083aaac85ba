use Rattle.std.proofs.Common.{rules, arith, ◌≡◌, ◌⊎◌, inl, inr, ◌≤ℤ◌, w64}
use Rattle.std.proofs.lemmas.Int.{ints, to_z-of_z}
use Rattle.std.proofs.lemmas.List.{get_or_default}
use Rattle.bound_checker.specs.Tables.{gain}
use Rattle.bound_checker.proofs.Filling.{most_more}
use Rattle.bound_checker.proofs.table.row_best.Goals as goal
use mir.Val.{SFits}

pub loop-start-preserved : goal.loop-start-preserved
loop-start-preserved c =
    let two = c.larger.ensures in
    let fit : SFits w64 c.larger.result = search rules in
    let least : SFits w64 c.args.least = search rules in
    let gained : SFits w64 c.gain_of.result = search rules in
    let kept : SFits w64 c.loop-start.greatest.value = search rules in
    let up : c.loop-start.greatest.value ≤ℤ c.larger.result = omega (arith, ints) in
    let over : c.gain_of.result ≤ℤ c.larger.result = omega (arith, ints) in
    let one : (c.larger.result ≡ c.loop-start.greatest.value) ⊎ (c.larger.result ≡ c.gain_of.result) =
    elim two.one [ inl e ↦ inl (omega (arith, ints)) | inr e ↦ inr (omega (arith, ints)) ] in
    let old = simp to_z-of_z at c.loop-start.invariant in
    simp to_z-of_z
    (most_more c.args.row.now (gain c.args.table.now) c.loop-start.start-index c.args.least c.loop-start.greatest.value c.larger.result
    c.gain_of.result _ c.loop-start-test.true (get_or_default c.args.row.now c.loop-start.start-index _ _ c.loop-start-test.true)
    c.gain_of.ensures up over one old)
