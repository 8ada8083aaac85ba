use Rattle.std.proofs.Common.{rules}
use Rattle.std.specs.Ordering.{nat_cmp}
use Rattle.std.proofs.lemmas.Cmp.{nat_cmp_total}
use Rattle.std.proofs.lemmas.Fn.{always_returns_same}
use Rattle.allocations.proofs.Keys.{nat_same}
use Rattle.allocations.proofs.Order.{found_at}
use Rattle.allocations.proofs.store.Store.group_index.Goals as goal

pub returns-clause-found : goal.returns-clause-found
returns-clause-found c =
    let position = c.binary_search_by.ensures.position (λ g. nat_cmp g.group.0 c.args.group.0) (always_returns_same _ _ _ (λ a r f called. search rules)) in
    rw (← c.self.view_is)
    (found_at nat_cmp nat_cmp_total (λ g. g.group.0) nat_same c.self.inside.groups.items c.args.group.0 c.binary_search_by.result
    (rw c.deref.ensures.value at c.binary_search_by.ensures.bound) (rw c.deref.ensures.value at position) c.self.invariant.grouped.rising)
