use Rattle.desk_accounts.proofs.Refunded.{refunds_are, groups_numbered, refunds_once}
use Rattle.desk_accounts.proofs.laws.refunds_are_told.Goals as goal

pub returns : goal.returns
returns c = record { told = refunds_are; numbered = groups_numbered; once = refunds_once }
