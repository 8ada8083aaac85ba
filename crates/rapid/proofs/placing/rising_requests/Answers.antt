use Rattle.std.proofs.Common.{sym, subst, rules}
use Rattle.std.proofs.lemmas.List.Sorted.{answers_always, IsNonDecreasingBy-from_sort}
use Rattle.plan_base.specs.declared.number.RequestNo.{RequestNo}
use Rattle.plan_base.specs.Feasible.{requests_of}
use Rattle.rapid.specs.Insertion.{AreRising}
use Rattle.rapid.proofs.Placed.{rising_of}
use Rattle.rapid.proofs.placing.rising_requests.Goals as goal

pub returns : goal.returns
returns c =
    subst (AreRising (requests_of c.args.plan.now)) (sym c.from_vec.ensures)
    (rising_of c.args.plan.now c.in_ok-requests.requests.items c.sort_unstable_by_key.new.self.items c.requires c.in_ok-requests.ensures
    c.sort_unstable_by_key.ensures.permutation
    (IsNonDecreasingBy-from_sort (λ (r : RequestNo). r.0) c.sort_unstable_by_key.new.self.items
    (c.sort_unstable_by_key.ensures.sorted (λ r. r.0) (answers_always _ _ _ (λ f a r next called. search rules)))))
