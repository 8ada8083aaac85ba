use Rattle.desk_runs.proofs.Adding.{added_sound, published_sound}
use Rattle.desk_runs.proofs.Reporting.{reported_sound}
use Rattle.desk_runs.proofs.Withdrawn.{withdrawable_sound}
use Rattle.desk_runs.proofs.laws.changes_keep_sound.Goals as goal

pub returns : goal.returns
returns c = record {
  report = reported_sound;
  withdrawal = withdrawable_sound;
  new_group = λ s op asks h late. added_sound op asks s h late;
  publication = published_sound;
}
