use Rattle.std.proofs.Common.{rules}
use Rattle.std.specs.Ordering.{nat_cmp}
use Rattle.std.specs.Cmp.Lexicographic.{slice_cmp}
use Rattle.std.proofs.lemmas.Fn.{always_returns_same}
use Rattle.allocations.proofs.Registers.{known, known_answer}
use Rattle.allocations.proofs.register.Register.knows.Goals as goal

pub returns : goal.returns
returns c =
    let position = c.binary_search_by.ensures.position (λ l. slice_cmp nat_cmp l.key.proposal c.args.proposal.now)
    (always_returns_same _ _ _ (λ a r f called. search rules)) in
    let found = known c.self.inside.keys.items c.self.inside.order.items c.args.proposal.now c.binary_search_by.result c.self.invariant
    (rw c.deref.ensures.value at c.binary_search_by.ensures.bound) (rw c.deref.ensures.value at position) in
    rw (← c.self.view_is) (known_answer c.binary_search_by.result c.is_ok.result c.is_ok.ensures.value found)
