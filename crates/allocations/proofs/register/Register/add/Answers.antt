use Rattle.std.proofs.Common.{◌≡◌, ◌<◌, ◌++◌, ◌∷◌, [], length, vec_len, vec_capacity, sym, ◌∙◌, arith}
use Rattle.std.specs.List.{insert}
use Rattle.std.proofs.lemmas.Grind.{common_steps}
use Rattle.allocations.specs.Key.{key_cmp}
use Rattle.allocations.specs.Register.{keys_of}
use Rattle.allocations.proofs.Keys.{key_cmp_total}
use Rattle.allocations.proofs.Order.{insert_key-gap}
use Rattle.allocations.proofs.Registers.{map-insert, registered, on_ok}
use Rattle.allocations.proofs.register.Register.add.Goals as goal

pub invariant_of-self-2 : goal.invariant_of-self-2
invariant_of-self-2 c =
    let roomy : vec_len c.reserve.new.self < vec_capacity c.reserve.new.self = omega (arith, c.in_ok-reserve.ensures.ok) in
    let ok = c.push.ensures.succeeds roomy in
    let pushed : c.push.new.self.items ≡ c.self.inside.keys.items ++ c.args.key.now ∷ [] = grind (arith, common_steps, ok) in
    let inserted : c.insert.new.self.items ≡ insert c.self.inside.order.items c.args.index record {
      key = c.args.key.now;
      place = length c.self.inside.keys.items;
    } = grind (arith, common_steps, c.in_ok-insert.ensures.items) in
    rw (pushed, inserted) (registered c.self.inside.keys.items c.self.inside.order.items c.args.key.now c.args.index c.self.invariant
    (rw (← c.self.view_is) at c.requires))

pub returns-clause-listed : goal.returns-clause-listed
returns-clause-listed c =
    let inserted : c.insert.new.self.items ≡ insert c.self.inside.order.items c.args.index record {
      key = c.args.key.now;
      place = length c.self.inside.keys.items;
    } = grind (arith, common_steps, c.in_ok-insert.ensures.items) in
    let gap = rw (← c.self.view_is) at c.requires in
    on_ok c.map_err.result (rw (inserted, ← c.self.view_is) (map-insert (λ l. l.key) c.self.inside.order.items c.args.index _
    ∙ sym (insert_key-gap key_cmp key_cmp_total (keys_of c.self.inside.order.items) c.args.key.now c.args.index gap)))
