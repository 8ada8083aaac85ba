use Rattle.std.proofs.Common.{rules, ◌≡◌, inl, inr, ℕ, ◌+◌, ◌<◌, ◌⊎◌, w64, of_z, to_z, slice_index_or, sym, ◌∙◌, ap, arith}
use Rattle.std.proofs.lemmas.Int.{to_z-of_z}
use Rattle.std.proofs.lemmas.List.{get_or_default}
use Rattle.interval_solver.specs.Tables.{gain}
use Rattle.interval_solver.specs.Lanes.{lane}
use Rattle.interval_solver.proofs.walk.tight_start.Goals as goal
use mir.Val.{SFits}

below_or_at : (k i : ℕ) → k < i + 1 → (k < i) ⊎ (k ≡ i)
below_or_at k i h = grind arith

pub loop-start-preserved : goal.loop-start-preserved
loop-start-preserved g c = λ k d l e. elim (below_or_at k c.loop-start.start-index l) [
  | inl below ↦ c.loop-start.invariant k d below e
  | inr same ↦
      let fit : SFits w64 c.args.surplus = search rules in
      let read : gain (lane c.args.lane_place c.args.prices.now) (lane c.args.lane_place c.args.table.now)
      (slice_index_or c.args.row.now k d) ≡ c.gain_of.result
      = ap (λ (j : ℕ). gain (lane c.args.lane_place c.args.prices.now) (lane c.args.lane_place c.args.table.now) (slice_index_or c.args.row.now j d)) same
      ∙ ap (gain (lane c.args.lane_place c.args.prices.now) (lane c.args.lane_place c.args.table.now))
      (get_or_default c.args.row.now c.loop-start.start-index d _ c.loop-start-test.true) ∙ sym c.gain_of.ensures
      in
      c.if-gain_of-surplus.false (ap (of_z w64) (sym read ∙ e ∙ to_z-of_z w64 c.args.surplus fit))
]

pub returns-then-gain_of-surplus : goal.returns-then-gain_of-surplus
returns-then-gain_of-surplus g c =
    let fit : SFits w64 c.args.surplus = search rules in
    let gained : SFits w64 c.gain_of.result = search rules in
    record {
      place = c.loop-start.start-index;
      within = c.loop-start-test.true;
      at = get_or_default c.args.row.now c.loop-start.start-index _ _ c.loop-start-test.true;
      gives = sym c.gain_of.ensures ∙ sym (to_z-of_z w64 c.gain_of.result gained) ∙ ap (to_z w64) c.if-gain_of-surplus.true ∙ to_z-of_z w64 c.args.surplus fit;
      first = λ k l e. c.loop-start.invariant k _ l (e ∙ sym (to_z-of_z w64 c.args.surplus fit));
    }
