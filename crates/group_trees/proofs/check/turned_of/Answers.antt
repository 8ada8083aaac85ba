use Rattle.std.proofs.Common.{sym, subst}
use Rattle.plan_base.specs.declared.parts.Parts.{Parts}
use Rattle.group_trees.specs.Forests.{AreSingles}
use Rattle.group_trees.specs.Turned.{turned, IsTurned}
use Rattle.group_trees.specs.Built.{snapshot_of}
use Rattle.group_trees.proofs.Turning.{turned_is}
use Rattle.group_trees.proofs.check.turned_of.Goals as goal

pub returns : goal.returns
returns c =
    let claim = c.args.claim.now in
    let verdict = c.in_ok-check.field-0 in
    let here = turned_is c.args.snapshot.now claim verdict (subst AreSingles c.requires c.recall_sound.ensures.singles) c.in_ok-check.ensures.verdict in
    subst (IsTurned (snapshot_of c.args.forest.now) claim) (sym c.turn.ensures) (subst (λ (p : Parts). IsTurned p claim (turned verdict)) (sym c.requires) here)
