use Rattle.std.proofs.Common.{◌-◌, List, length, ◌∙◌, sym, subst, arith}
use Rattle.std.proofs.lemmas.List.{drop_all}
use Rattle.plan_base.specs.declared.claim.Placement.{Placement}
use Rattle.repair.specs.Firsts.{AreFirsts}
use Rattle.repair.proofs.Noting.{firsts_none, noted_more}
use Rattle.repair.proofs.firsts.note_firsts.Goals as goal

pub loop-index-init : goal.loop-index-init
loop-index-init c = subst (λ (xs : List Placement). AreFirsts c.args.snapshot.now xs c.forget_all.new.notes.items)
    (sym (drop_all (length c.args.starts.now) c.args.starts.now (omega arith)))
    (firsts_none c.args.snapshot.now c.forget_all.new.notes.items (c.forget_all.ensures.count ∙ c.requires.count) c.forget_all.ensures.none)

pub loop-index-preserved : goal.loop-index-preserved
loop-index-preserved c =
    noted_more c.args.snapshot.now c.args.starts.now c.loop-index.firsts.items c.loop-index.index _ c.place_of-place.result (omega arith)
    (omega arith) (c.requires.known (c.loop-index.index - 1) _ (omega arith)) c.place_of-place.ensures.value c.loop-index.invariant
