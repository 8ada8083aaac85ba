use Rattle.std.proofs.Common.{rules}
use Rattle.std.proofs.lemmas.Fn.{always_returns_same}
use Rattle.plan_base.proofs.rows.search_rows.Goals as goal

pub returns-clause-position : goal.returns-clause-position
returns-clause-position c = c.binary_search_by_key.ensures.position (λ row. row.request.0) (always_returns_same _ _ _ (λ a r f q. search rules))
