use Rattle.desk_accounts.proofs.Refunded.{completed_once}
use Rattle.desk_accounts.proofs.laws.requests_are_charged_once.Goals as goal

pub returns : goal.returns
returns c = completed_once
