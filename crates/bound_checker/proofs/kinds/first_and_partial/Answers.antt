use Rattle.std.proofs.Common.{◌≡◌, ℕ, slice_index_or, sym, ◌∙◌, refl, below_more, arith}
use Rattle.bound_checker.specs.Claims.{IsPartial, HoldsOfGroup}
use Rattle.bound_checker.proofs.GroupCounts.{not_there, none_beyond}
use Rattle.bound_checker.proofs.kinds.first_and_partial.Goals as goal

pub loop-place-preserved : goal.loop-place-preserved
loop-place-preserved c =
    below_more (λ g. ¬ (HoldsOfGroup IsPartial c.args.groups.now c.args.counts.now g)) _ c.loop-place.invariant
    (not_there IsPartial c.args.groups.now c.args.counts.now c.loop-place.place _ c.index-groups-place.result c.index-groups-place.is refl
    (λ holds. let bad = sym c.if-is_partial.false ∙ c.is_partial.ensures.1 holds in cc))

pub returns : goal.returns
returns c = none_beyond IsPartial c.args.groups.now c.args.counts.now c.loop-place.place (omega arith) c.loop-place.invariant
