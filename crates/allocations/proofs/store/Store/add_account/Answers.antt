use Rattle.std.proofs.Common.{◌≡◌, ◌<◌, ◌++◌, ◌∷◌, [], vec_len, vec_capacity, arith}
use Rattle.std.proofs.lemmas.Grind.{common_steps}
use Rattle.allocations.specs.Amounts.{no_sums}
use Rattle.allocations.proofs.Tied.{tied_add, grouped_add}
use Rattle.allocations.proofs.store.Store.add_account.Goals as goal

pub invariant_of-self-2 : goal.invariant_of-self-2
invariant_of-self-2 c =
    let roomy : vec_len c.reserve.new.self < vec_capacity c.reserve.new.self = omega (arith, c.in_ok-reserve.ensures.ok) in
    let ok = c.push.ensures.succeeds roomy in
    let pushed : c.push.new.self.items ≡ c.self.inside.sums.items ++ no_sums ∷ [] = grind (arith, common_steps, ok) in
    let keys : c.add.new.self.keys ≡ c.self.inside.register.keys ++ c.args.key.now ∷ [] = c.in_ok-add.ensures.keys in
    let inside = c.self.inside in
    record {
      tied = rw (pushed, keys) (tied_add inside.register.keys inside.sums.items inside.postings.items inside.groups.items c.args.key.now
          c.self.invariant.tied (rw (← c.self.view_is) at c.requires.absent));
      grouped = rw keys (grouped_add inside.register.keys c.args.key.now inside.groups.items c.self.invariant.tied.of_accounts c.self.invariant.grouped);
      room = c.self.invariant.room;
    }
