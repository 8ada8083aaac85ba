use Rattle.site_model.proofs.Skies.{skies_are_counted}
use Rattle.site_model.proofs.laws.skies_are_counted.Goals as goal

pub returns : goal.returns
returns c = skies_are_counted
