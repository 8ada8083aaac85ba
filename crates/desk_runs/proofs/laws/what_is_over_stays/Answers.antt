use Rattle.desk_runs.proofs.Over.{moment_leaves_over, report_leaves_over, withdrawal_leaves_over}
use Rattle.desk_runs.proofs.laws.what_is_over_stays.Goals as goal

pub returns : goal.returns
returns c = record { moment = moment_leaves_over; report = report_leaves_over; withdrawal = withdrawal_leaves_over }
