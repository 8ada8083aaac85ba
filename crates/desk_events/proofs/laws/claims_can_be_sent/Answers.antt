use Rattle.desk_events.proofs.Sent.{claims_can_be_sent}
use Rattle.desk_events.proofs.laws.claims_can_be_sent.Goals as goal

pub returns : goal.returns
returns c = claims_can_be_sent
