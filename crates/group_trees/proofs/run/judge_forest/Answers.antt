use Rattle.std.proofs.Common.{subst}
use Rattle.plan_base.specs.declared.parts.Parts.{Parts}
use Rattle.plan_json.specs.Shown.{members_of}
use Rattle.group_trees.specs.Forests.{IsForest}
use Rattle.group_trees.specs.Built.{trees_of}
use Rattle.group_trees.proofs.run.judge_forest.Goals as goal

pub returns-clause-verdict : goal.returns-clause-verdict
returns-clause-verdict c = λ bytes document. record {
  snapshot = c.args.snapshot.now;
  trees = trees_of c.args.forest.now;
  claim = c.in_ok-claim.claim;
  asked = record {
    members = members_of c.args.doc.now;
    opening = record { document = document; opened = c.requires.opening };
    forest = subst (λ (p : Parts). IsForest p (trees_of c.args.forest.now)) c.requires.snapshot c.recall_sound.ensures;
    claimed = c.in_ok-claim.ensures.value;
  };
  is_verdict = c.in_ok-check_forest.ensures.verdict;
  bounding = c.in_ok-check_forest.ensures.bound;
}
