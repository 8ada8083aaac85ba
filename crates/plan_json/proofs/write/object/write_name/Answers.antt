use Rattle.plan_json.proofs.Literals.{adds_same, later_name, first_name}
use Rattle.plan_json.proofs.write.object.write_name.Goals as goal

pub returns-then-is_later : goal.returns-then-is_later
returns-then-is_later c =
    adds_same _ _ _ _ _ (later_name c.args.is_later _ c.args.name.now c.requires c.if-is_later.true c.as_bytes.ensures.value) c.put.ensures

pub returns : goal.returns
returns c =
    adds_same _ _ _ _ _ (first_name c.args.is_later _ c.args.name.now c.requires c.if-is_later.false c.as_bytes-2.ensures.value) c.put-2.ensures
