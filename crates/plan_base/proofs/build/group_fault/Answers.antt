use Rattle.std.proofs.Common.{ap, ◌∙◌}
use Rattle.std.specs.Option.{option_map}
use Rattle.plan_base.specs.declared.fault.SnapshotFault.TheVariants.{GroupOrder}
use Rattle.plan_base.proofs.FaultLemmas.{fall_absent, fall_found, group_fault_is}
use Rattle.plan_base.proofs.build.group_fault.Goals as goal

pub returns-in-None : goal.returns-in-None
returns-in-None c =
    ap (option_map (λ x. GroupOrder x.group)) (fall_absent (λ x. x.group.0) c.args.parts.now.groups (rw c.as_slice-groups.ensures at c.in-None.ensures.place))
    ∙ group_fault_is c.args.parts.now

pub returns-in-Some : goal.returns-in-Some
returns-in-Some c =
    rw c.as_slice-groups.ensures
    (ap (option_map (λ x. GroupOrder x.group))
    (fall_found (λ x. x.group.0) c.args.parts.now.groups c.in-Some.index _ (rw c.as_slice-groups.ensures at c.in-Some.ensures.within)
    (rw c.as_slice-groups.ensures at c.in-Some.ensures.place))
    ∙ group_fault_is c.args.parts.now)
