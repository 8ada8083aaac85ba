use Rattle.plan_json.proofs.Items.{Wrote}
use Rattle.plan_json.proofs.write.list.write_items.Given as goal

abbrev pub invariant-loop-item : goal.invariant-loop-item
invariant-loop-item g l = Wrote g.F.Form.levels (g.F.Form.value_of l.form) l.items l.initial.out.items l.out.items l.item-index l.is_later
