use Rattle.std.proofs.Common.{◌&&◌, Bool, int_lt, pos, slice_index_or, sym, ◌∙◌, ap}
use Rattle.plan_base.specs.declared.parts.Op.{Op}
use Rattle.groups.specs.Takings.{takes_at}
use Rattle.groups.proofs.Greatest.{first_is}
use Rattle.groups.proofs.taking.Taking.at.Goals as goal

pub returns-in-OneOf : goal.returns-in-OneOf
returns-in-OneOf c = λ i l.
    ap (λ (b : Bool). int_lt (pos 0) (slice_index_or c.args.prices.now i (pos 0)) && b)
    (sym (first_is c.args.prices.now c.first_greatest.result i c.first_greatest.ensures l))
    ∙ ap (λ (k : Op). takes_at k c.args.prices.now i) (sym c.in-OneOf.is)
