use Rattle.std.proofs.Common.{◌≡◌, true, false, sym, ◌∙◌, subst, slice_index_or, below_more, arith}
use Rattle.plan_base.specs.declared.parts.GroupPart.{GroupPart}
use Rattle.groups.specs.Building.{IsPartly}
use Rattle.groups.proofs.plan.first_partly.Goals as goal

pub loop-place-preserved : goal.loop-place-preserved
loop-place-preserved c =
    below_more _ _ c.loop-place.invariant
    (λ holds.
    let yes : c.is_partly.result ≡ true =
    c.is_partly.ensures.1 (subst (λ (x : GroupPart). IsPartly x (slice_index_or c.args.members.now c.loop-place.place 0))
    (sym c.index-groups-place.is) (holds c.index-groups-place.result)) in
    let bad : true ≡ false = sym yes ∙ c.if-is_partly.false in
    cc)

pub returns : goal.returns
returns c = λ g l holds. c.loop-place.invariant g (omega arith) holds
