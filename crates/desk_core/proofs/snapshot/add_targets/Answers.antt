use Rattle.std.proofs.Common.{ap, ◌∙◌}
use Rattle.std.specs.Ordering.{nat_cmp}
use Rattle.std.specs.BTreeSet.{insert_key}
use Rattle.std.proofs.lemmas.List.{get_or_default}
use Rattle.plan_base.specs.declared.number.TargetNo.{TargetNo}
use Rattle.plan_base.proofs.Here.{element_at}
use Rattle.desk_core.proofs.SnapshotParts.{targets_more}
use Rattle.desk_core.proofs.snapshot.add_targets.Goals as goal

pub loop-target-preserved : goal.loop-target-preserved
loop-target-preserved c =
    let i = c.loop-target.target-index in
    let here = element_at c.args.targets.now i c.loop-target-test.true in
    targets_more c.args.numbers.now.keys c.loop-target.numbers.keys c.insert.new.self.keys c.args.targets.now i here.0 c.loop-target-test.true
    here.1 c.loop-target.invariant
    (c.in_ok-insert.ensures.keys ∙ ap (insert_key nat_cmp c.loop-target.numbers.keys)
    (ap (λ (t : TargetNo). t.0) (get_or_default c.args.targets.now i record { 0 = 0 } here.0 c.loop-target-test.true ∙ here.1)))
