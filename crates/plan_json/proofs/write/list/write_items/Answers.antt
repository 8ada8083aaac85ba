use Rattle.plan_json.proofs.Items.{none_wrote, more_wrote, part_wrote, all_wrote}
use Rattle.plan_json.proofs.write.list.write_items.Goals as goal

pub loop-item-init : goal.loop-item-init
loop-item-init g c = none_wrote _ _ _ _

pub loop-item-preserved : goal.loop-item-preserved
loop-item-preserved g c =
    more_wrote _ _ _ _ _ _ _ _ _ c.loop-item-test.true c.item-item.is c.loop-item.invariant c.in_ok-write_item.ensures.adds.ok c.in_ok-write_item.ensures.holds

pub returns-in_err-write_item : goal.returns-in_err-write_item
returns-in_err-write_item g c = part_wrote _ _ _ _ _ _ _ _ _ c.from_residual.ensures.0 c.loop-item.invariant c.in_err-write_item.ensures.adds.err

pub returns : goal.returns
returns g c = all_wrote _ _ _ _ _ _ _ _ _ c.loop-item-test.false c.loop-item.invariant c.put_byte.ensures
