use Rattle.std.proofs.Common.{◌≡◌}
use Rattle.std.specs.List.{insert}
use Rattle.allocations.specs.Store.{empty_group}
use Rattle.allocations.proofs.Groups.{tied_open, grouped_open}
use Rattle.allocations.proofs.store.Store.open.Goals as goal

pub invariant_of-self : goal.invariant_of-self
invariant_of-self c =
    let inside = c.self.inside in
    let opened : c.insert_reserved.new.groups.items ≡ insert inside.groups.items c.args.index (empty_group c.args.group) =
    rw c.new.ensures at c.insert_reserved.ensures.items in
    record {
      tied = rw opened (tied_open inside.register.keys inside.sums.items inside.postings.items inside.groups.items c.args.index
          c.args.group c.self.invariant.tied);
      grouped = rw opened (grouped_open inside.register.keys inside.groups.items c.args.index c.args.group c.self.invariant.grouped
          (rw (← c.self.view_is) at c.requires.gap));
      room = c.self.invariant.room;
    }
