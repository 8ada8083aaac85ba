use Rattle.std.proofs.Common.{rules, ◌≡◌, List, take, subst, refl, arith}
use Rattle.std.proofs.lemmas.List.{take_all}
use Rattle.interval_solver.specs.declared.start.Start.{Start}
use Rattle.interval_solver.specs.Blocks.{IsWholeAt}
use Rattle.interval_solver.specs.Filling.{IsMostInLanes}
use Rattle.interval_solver.specs.Lanes.{lane}
use Rattle.interval_solver.proofs.Most.{whole_raised_more}
use Rattle.interval_solver.proofs.table.block_best.Goals as goal

-- what a list is read with, which is met nowhere, as each place lies in it
abbrev first_start : Start
first_start = record { worth = 0; place = 0; after = 0 }

pub loop-start-preserved : goal.loop-start-preserved
loop-start-preserved g c = record {
  first_fit = c.raised-first.ensures.fit;
  second_fit = c.raised-second.ensures.fit;
  third_fit = c.raised-third.ensures.fit;
  fourth_fit = c.raised-fourth.ensures.fit;
  first = λ l h. whole_raised_more (lane l c.args.prices.now) (lane l c.args.table.now) c.loop-start.start-index _ _ _ _ _ _ c.args.wholes.now 0
      c.loop-start-test.true (omega arith) (c.weight_of-weight.ensures.each l h) (c.raised-first.ensures.each l h) (c.loop-start.invariant.first l h);
  second = λ l h. whole_raised_more (lane l c.args.prices.now) (lane l c.args.table.now) c.loop-start.start-index _ _ _ _ _ _ c.args.wholes.now 1
      c.loop-start-test.true refl (c.weight_of-weight.ensures.each l h) (c.raised-second.ensures.each l h) (c.loop-start.invariant.second l h);
  third = λ l h. whole_raised_more (lane l c.args.prices.now) (lane l c.args.table.now) c.loop-start.start-index _ _ _ _ _ _ c.args.wholes.now 2
      c.loop-start-test.true refl (c.weight_of-weight.ensures.each l h) (c.raised-third.ensures.each l h) (c.loop-start.invariant.third l h);
  fourth = λ l h. whole_raised_more (lane l c.args.prices.now) (lane l c.args.table.now) c.loop-start.start-index _ _ _ _ _ _ c.args.wholes.now 3
      c.loop-start-test.true refl (c.weight_of-weight.ensures.each l h) (c.raised-fourth.ensures.each l h) (c.loop-start.invariant.fourth l h);
}

pub weight_of-weight-requires : goal.weight_of-weight-requires
weight_of-weight-requires g c =
    let l = c.loop-start-test.true in
    (search rules, (c.requires.worths c.loop-start.start-index _ l, (c.requires.places c.loop-start.start-index _ l, c.requires.prices)))

pub raised-first-requires : goal.raised-first-requires
raised-first-requires g c =
    let after = c.requires.afters c.loop-start.start-index first_start c.loop-start-test.true in
    (search rules, (c.loop-start.invariant.first_fit, (c.weight_of-weight.ensures.weights, (omega (arith, after), c.requires.entries))))

pub raised-second-requires : goal.raised-second-requires
raised-second-requires g c =
    let after = c.requires.afters c.loop-start.start-index first_start c.loop-start-test.true in
    (search rules, (c.loop-start.invariant.second_fit, (c.weight_of-weight.ensures.weights, (omega (arith, after), c.requires.entries))))

pub raised-third-requires : goal.raised-third-requires
raised-third-requires g c =
    let after = c.requires.afters c.loop-start.start-index first_start c.loop-start-test.true in
    (search rules, (c.loop-start.invariant.third_fit, (c.weight_of-weight.ensures.weights, (omega (arith, after), c.requires.entries))))

pub raised-fourth-requires : goal.raised-fourth-requires
raised-fourth-requires g c =
    let after = c.requires.afters c.loop-start.start-index first_start c.loop-start-test.true in
    (search rules, (c.loop-start.invariant.fourth_fit, (c.weight_of-weight.ensures.weights, (omega (arith, after), c.requires.entries))))

pub returns-clause-first : goal.returns-clause-first
returns-clause-first g c =
    let whole : take c.loop-start.start-index c.args.wholes.now ≡ c.args.wholes.now =
    take_all c.loop-start.start-index c.args.wholes.now (omega (arith, c.loop-start-test.false)) in
    subst (λ (starts : List Start). IsMostInLanes g.row.L (IsWholeAt starts 0) c.args.prices.now c.args.table.now c.args.least c.loop-start.first) whole
    c.loop-start.invariant.first

pub returns-clause-second : goal.returns-clause-second
returns-clause-second g c =
    let whole : take c.loop-start.start-index c.args.wholes.now ≡ c.args.wholes.now =
    take_all c.loop-start.start-index c.args.wholes.now (omega (arith, c.loop-start-test.false)) in
    subst (λ (starts : List Start). IsMostInLanes g.row.L (IsWholeAt starts 1) c.args.prices.now c.args.table.now c.args.least c.loop-start.second) whole
    c.loop-start.invariant.second

pub returns-clause-third : goal.returns-clause-third
returns-clause-third g c =
    let whole : take c.loop-start.start-index c.args.wholes.now ≡ c.args.wholes.now =
    take_all c.loop-start.start-index c.args.wholes.now (omega (arith, c.loop-start-test.false)) in
    subst (λ (starts : List Start). IsMostInLanes g.row.L (IsWholeAt starts 2) c.args.prices.now c.args.table.now c.args.least c.loop-start.third) whole
    c.loop-start.invariant.third

pub returns-clause-fourth : goal.returns-clause-fourth
returns-clause-fourth g c =
    let whole : take c.loop-start.start-index c.args.wholes.now ≡ c.args.wholes.now =
    take_all c.loop-start.start-index c.args.wholes.now (omega (arith, c.loop-start-test.false)) in
    subst (λ (starts : List Start). IsMostInLanes g.row.L (IsWholeAt starts 3) c.args.prices.now c.args.table.now c.args.least c.loop-start.fourth) whole
    c.loop-start.invariant.fourth
