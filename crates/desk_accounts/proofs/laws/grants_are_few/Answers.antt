use Rattle.desk_accounts.proofs.Few.{grants_few, grants_below}
use Rattle.desk_accounts.proofs.laws.grants_are_few.Goals as goal

pub returns : goal.returns
returns c = record { few = grants_few; below = grants_below }
