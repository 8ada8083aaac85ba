use Rattle.site_model.proofs.LatestLine.{latest_decides, usable_by_latest, scope_is_list}
use Rattle.site_model.proofs.laws.latest_line_decides.Goals as goal

pub returns : goal.returns
returns c = record { closed = latest_decides; usable = usable_by_latest; scope = scope_is_list }
