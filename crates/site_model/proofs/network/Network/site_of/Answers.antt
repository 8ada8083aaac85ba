use Rattle.site_model.proofs.Carried.{site_number-seen, site_within}
use Rattle.site_model.proofs.network.Network.site_of.Goals as goal

pub returns-clause-site : goal.returns-clause-site
returns-clause-site c = rw (← c.self.view_is) (site_number-seen c.self.inside c.args.telescope.0 c.index.result.now c.self.invariant.registry c.index.ensures)

pub returns-clause-few_sites : goal.returns-clause-few_sites
returns-clause-few_sites c = site_within c.self.inside c.args.telescope.0 c.index.result.now c.self.invariant.registry c.index.ensures
