use Rattle.desk_runs.proofs.GoingOn.{moment_goes_on, report_goes_on, withdrawal_goes_on}
use Rattle.desk_runs.proofs.laws.groups_only_go_on.Goals as goal

pub returns : goal.returns
returns c = record { moment = moment_goes_on; report = report_goes_on; withdrawal = withdrawal_goes_on }
