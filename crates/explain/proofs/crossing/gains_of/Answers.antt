use Rattle.std.proofs.Common.{◌≡◌, ℕ, ◌+◌, ◌≤◌, Bool, Option, Some, None, ℤ, List, length, ap, subst, arith}
use Rattle.std.proofs.lemmas.Grind.{common_steps, elements}
use Rattle.plan_base.specs.Tables.{row}
use Rattle.explain.specs.Crossings.{count_of, AreGainsTo}
use Rattle.openings.proofs.Flags.{row_read, start_before}
use Rattle.explain.proofs.Gathering.{gains_more, gains_all}
use Rattle.explain.proofs.crossing.gains_of.Goals as goal

pub loop-index-preserved : goal.loop-index-preserved
loop-index-preserved c =
    let next : c.args.snapshot.now.first.0 + c.loop-index.index + 1 ≡ c.args.snapshot.now.first.0 + (c.loop-index.index + 1) = omega arith in
    let few : c.loop-index.gains.starts ≤ c.loop-index.index = c.loop-index.invariant.few in
    let count : c.with_gain-gains.result.starts ≡ c.loop-index.gains.starts + count_of c.gain_at-gain.result = c.with_gain-gains.ensures.starts in
    let one : count_of c.gain_at-gain.result ≤ 1 = at_most_one c.gain_at-gain.result in
    record {
      gains = subst (λ (k : ℕ). AreGainsTo c.args.snapshot.now c.args.prices.now.0 c.args.telescope.0 c.args.openings.now.request.0 k
          c.with_gain-gains.result.starts c.with_gain-gains.result.greatest) next
          (gains_more c.args.snapshot.now c.args.prices.now.0 c.args.telescope.0 c.args.openings.now.request.0 c.recall_valid.ensures.orderly
          (c.args.snapshot.now.first.0 + c.loop-index.index) c.loop-index.gains.starts c.with_gain-gains.result.starts c.loop-index.gains.greatest
          c.gain_at-gain.result c.with_gain-gains.result.greatest c.loop-index.invariant.gains c.gain_at-gain.ensures count
          c.with_gain-gains.ensures.greatest);
      few = omega arith;
    }
  where
    at_most_one : (o : Option ℤ) → count_of o ≤ 1
    at_most_one None = omega arith
    at_most_one (Some x) = omega arith

pub returns-clause-gains : goal.returns-clause-gains
returns-clause-gains c =
    let rows : length c.args.openings.now.rows.items ≡ length c.args.snapshot.now.telescopes = c.requires.openings.rows.count in
    let read : c.index.result.now ≡ row c.args.openings.now.rows.items c.args.telescope.0 =
    row_read c.args.openings.now.rows.items c.args.telescope.0 c.from.result c.index.result.now c.index.result.now
    (omega (arith, c.requires.telescope)) c.from.ensures c.index.ensures (λ i. c.index.result.now) in
    let count : length c.index.result.now ≡ length (row c.args.openings.now.rows.items c.args.telescope.0) = ap (λ (xs : List Bool). length xs) read in
    let end : c.len-index-end.result ≡ length c.index.result.now = c.len-index-end.ensures in
    gains_all c.args.snapshot.now c.args.prices.now.0 c.args.telescope.0 c.args.openings.now.request.0 c.recall_valid.ensures.orderly
    (c.args.snapshot.now.first.0 + c.loop-index.index) c.loop-index.gains.starts c.loop-index.gains.greatest
    (start_before c.args.snapshot.now c.args.telescope.0 c.args.openings.now.request.0 c.loop-index.index
    (row c.args.openings.now.rows.items c.args.telescope.0) (c.requires.openings.rows.each c.args.telescope.0 c.requires.telescope)
    (omega (arith, c.loop-index-test.false))) c.loop-index.invariant.gains

pub gain_at-gain-requires-clause-index : goal.gain_at-gain-requires-clause-index
gain_at-gain-requires-clause-index c = grind (arith, common_steps)

pub with_gain-gains-requires : goal.with_gain-gains-requires
with_gain-gains-requires c = grind (arith, elements)

pub returns-clause-few : goal.returns-clause-few
returns-clause-few c = grind (arith, elements)
