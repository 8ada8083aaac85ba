use Rattle.std.proofs.Common.{ℕ, [], replicate, false, refl, ap, ◌∙◌}
use Rattle.group_trees.specs.Trees.{all_seen}
use Rattle.group_trees.specs.Choices.{all_leaves}
use Rattle.group_trees.proofs.Tallies.{tally_none}
use Rattle.group_trees.proofs.leaves.wrong_leaf.Goals as goal

pub returns : goal.returns
returns c = c.least_wrong.ensures (all_leaves (all_seen c.args.trees.now.items))
    (c.tally_all.ensures.tally [] (tally_none c.args.snapshot.now _
    (c.in_ok-flags.ensures ∙ ap (λ (n : ℕ). replicate n false) c.request_count.ensures.value) refl))
