use Rattle.std.proofs.Common.{◌≡◌, Bool, sym, subst}
use Rattle.std.specs.Bool.{Decides}
use Rattle.plan_base.proofs.Equality.{is_parts, parts_decide}
use Rattle.desk_book.proofs.same.are_same_parts.Goals as goal

pub returns : goal.returns
returns c =
    let tested : c.eq.result ≡ is_parts c.args.a.now c.args.b.now = c.eq.ensures in
    let decided : Decides c.eq.result (c.args.a.now ≡ c.args.b.now) =
    subst (λ (r : Bool). Decides r (c.args.a.now ≡ c.args.b.now)) (sym tested) (parts_decide c.args.a.now c.args.b.now) in
    decided
