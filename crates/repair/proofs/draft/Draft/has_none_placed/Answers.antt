use Rattle.std.proofs.Common.{◌↔◌, IsTrue, subst}
use Rattle.plan_base.specs.Saturated.{HasNonePlaced}
use Rattle.groups.specs.Building.{Building}
use Rattle.repair.proofs.draft.Draft.has_none_placed.Goals as goal

pub returns : goal.returns
returns c = subst (λ (b : Building). IsTrue c.has_none_placed.result ↔ HasNonePlaced b.snapshot b.placed c.args.group) c.self.view_is c.has_none_placed.ensures
