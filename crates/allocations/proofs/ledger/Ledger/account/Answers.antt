use Rattle.std.proofs.Common.{◌≡◌, subst, List, true}
use Rattle.std.specs.Prelude.{Contains, ◌↔◌}
use Rattle.allocations.specs.declared.key.Key.{Key}
use Rattle.allocations.specs.Key.{key_cmp}
use Rattle.allocations.specs.Rising.{Rises}
use Rattle.allocations.specs.Books.{has_grant}
use Rattle.allocations.specs.Store.{store_books}
use Rattle.allocations.proofs.Granted.{listed_granted}
use Rattle.allocations.proofs.ledger.Ledger.account.Goals as goal

pub returns-clause-rising : goal.returns-clause-rising
returns-clause-rising c = rw (← c.self.view_is) (subst (λ (l : List Key). Rises key_cmp l) c.self.invariant.listed c.account.ensures.rising)

pub returns-clause-complete : goal.returns-clause-complete
returns-clause-complete c =
    let s = c.self.inside.store in
    rw (← c.self.view_is) (subst (λ (l : List Key). (k : Key) → Contains l k ↔ (has_grant (store_books s).entries k ≡ true)) c.self.invariant.listed
    (listed_granted s c.account.ensures.sound c.self.invariant.granted c.account.ensures.listed c.account.ensures.all))
