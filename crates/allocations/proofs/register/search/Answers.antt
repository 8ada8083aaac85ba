use Rattle.std.proofs.Common.{rules}
use Rattle.std.proofs.lemmas.Fn.{always_returns_same}
use Rattle.allocations.specs.Key.{key_cmp}
use Rattle.allocations.proofs.Keys.{key_cmp_total, key_same}
use Rattle.allocations.proofs.Order.{found_at}
use Rattle.allocations.proofs.register.search.Goals as goal

pub returns-clause-found : goal.returns-clause-found
returns-clause-found c =
    let position = c.binary_search_by.ensures.position (λ l. key_cmp l.key c.args.key.now) (always_returns_same _ _ _ (λ a r f called. search rules)) in
    found_at key_cmp key_cmp_total (λ l. l.key) key_same c.args.order.now c.args.key.now c.binary_search_by.result
    c.binary_search_by.ensures.bound position c.requires
