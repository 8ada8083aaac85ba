use Rattle.std.proofs.Common.{ℕ, List, sym, subst, arith}
use Rattle.plan_json.specs.Adds.{Adds}
use Rattle.plan_json.proofs.Digits.{decimal_with_four}
use Rattle.plan_json.proofs.Fronts.{Adds-after}
use Rattle.plan_json.proofs.write.bytes.put_number.Goals as goal

pub returns-then-n-lt100000000 : goal.returns-then-n-lt100000000
returns-then-n-lt100000000 c =
    let fits = c.ranges.n.fits in
    subst (λ (text : List ℕ). Adds c.put_four.result c.args.out.now.items c.put_four.new.out.items text)
    (sym (decimal_with_four c.args.n (omega arith) (omega arith)))
    (Adds-after _ _ _ _ _ _ c.in_ok-put_short.ensures.ok c.put_four.ensures)
