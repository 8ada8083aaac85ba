use Rattle.std.proofs.Common.{◌∙◌, map, subst, arith}
use Rattle.plan_base.specs.declared.parts.Parts.{Parts}
use Rattle.plan_base.specs.Feasible.{IsFeasible}
use Rattle.repair.specs.Repairs.{start_of}
use Rattle.repair.proofs.Adding.{possible_at, outside_at, rank_more, count_ranks, adds_all}
use Rattle.repair.proofs.ranked.add_each.Goals as goal

pub add_one-requires-clause-possible : goal.add_one-requires-clause-possible
add_one-requires-clause-possible c =
    possible_at c.args.draft.now.snapshot c.loop-rank.draft.snapshot c.args.ranked.now c.loop-rank.rank-index _ c.loop-rank.invariant.same
    c.requires.possible c.loop-rank-test.true

pub add_one-requires-clause-outside : goal.add_one-requires-clause-outside
add_one-requires-clause-outside c =
    outside_at c.args.draft.now.snapshot c.loop-rank.draft.snapshot c.args.ranked.now c.loop-rank.rank-index _ c.loop-rank.invariant.same
    c.requires.outside c.loop-rank-test.true

pub loop-rank-preserved : goal.loop-rank-preserved
loop-rank-preserved c = record {
  same = c.add_one.ensures.same ∙ c.loop-rank.invariant.same;
  feasible = subst (λ (p : Parts). IsFeasible p c.add_one.new.draft.placed) c.loop-rank.invariant.same c.add_one.ensures.feasible;
  adds = rank_more c.args.draft.now.snapshot c.loop-rank.draft.snapshot c.args.draft.now.placed c.loop-rank.draft.placed c.add_one.new.draft.placed
      c.args.ranked.now c.loop-rank.rank-index _ c.loop-rank.invariant.same c.loop-rank-test.true c.add_one.ensures.adds
      c.loop-rank.invariant.adds;
}

pub returns-clause-adds : goal.returns-clause-adds
returns-clause-adds c = adds_all c.args.draft.now.snapshot c.args.draft.now.placed c.loop-rank.draft.placed
    (map start_of c.args.ranked.now) c.loop-rank.rank-index (let count = count_ranks c.args.ranked.now in omega arith) c.loop-rank.invariant.adds
