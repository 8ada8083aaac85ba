use Rattle.std.proofs.Common.{sym, subst, rules}
use Rattle.std.specs.List.Sorted.{IsSortedBy}
use Rattle.std.proofs.lemmas.List.Sorted.{answers_always}
use Rattle.plan_base.specs.Repaired.{is_listed_before}
use Rattle.plan_base.proofs.listing.listing_of.Goals as goal

pub returns-clause-rising : goal.returns-clause-rising
returns-clause-rising c =
    subst (IsSortedBy is_listed_before) (sym c.from_vec.ensures)
    (c.sort_unstable_by_key.ensures.sorted (λ p. (p.telescope.0, p.slice.0)) (answers_always _ _ _ (λ f a r next called. search rules)))
