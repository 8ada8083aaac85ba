use Rattle.std.proofs.Common.{◌≡◌, ℕ, length, subst, arith}
use Rattle.explain.specs.Crossings.{IsPassedTo}
use Rattle.explain.proofs.Gathering.{passed_more}
use Rattle.explain.proofs.passage.pass.Goals as goal

pub loop-telescope-preserved : goal.loop-telescope-preserved
loop-telescope-preserved c =
    passed_more c.args.snapshot.now c.args.prices.now.0 c.args.openings.now.request.0 c.recall_valid.ensures.orderly c.loop-telescope.telescope
    c.loop-telescope.passage.starts c.cross-crossing.result.starts c.loop-telescope.passage.detour c.cross-crossing.result.detour
    c.larger_of.result c.loop-telescope.invariant c.cross-crossing.ensures c.larger_of.ensures

pub returns : goal.returns
returns c =
    let count : length c.args.charts.now ≡ length c.args.snapshot.now.telescopes = c.requires.charts.count in
    let all : c.loop-telescope.telescope ≡ length c.args.snapshot.now.telescopes = omega arith in
    subst (λ (n : ℕ). IsPassedTo c.args.snapshot.now c.args.prices.now.0 c.args.openings.now.request.0 n c.loop-telescope.passage.starts
    c.loop-telescope.passage.detour) all c.loop-telescope.invariant
