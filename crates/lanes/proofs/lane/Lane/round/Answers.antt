use Rattle.std.proofs.Common.{rules, ◌≡◌, ◌+◌, ◌≤◌, List, length, slice_index_or, sym, ◌∙◌, ap, subst, arith}
use Rattle.plan_base.specs.declared.parts.Parts.{Parts}
use Rattle.plan_base.specs.declared.claim.Placement.{Placement}
use Rattle.plan_base.specs.Starts.{value_of_plan}
use Rattle.plan_base.specs.Feasible.{IsFeasible}
use Rattle.plan_base.proofs.Here.{element_at}
use Rattle.lanes.specs.declared.lane_prices.LanePrices.{LanePrices}
use Rattle.lanes.specs.Rounds.{LaneSeen, IsAnswer, IsRoundAnswer}
use Rattle.lanes.proofs.Lanes.{seen_at, seen_now, same_seen, one_still, answer_seen}
use Rattle.lanes.proofs.lane.Lane.round.Goals as goal

pub answer-answer-requires : goal.answer-answer-requires
answer-answer-requires c = (search rules, (search rules, λ a u. c.solve.ensures.solved 0 (omega arith) a u))

pub advance-requires : goal.advance-requires
advance-requires c = (
  search rules,
  (
    search rules,
    (
      λ a u. c.answer-answer.ensures.solved 0 (c.solve.ensures.solved 0 (omega arith)) a u,
      λ d.
          let seen : (slice_index_or c.self.inside.steps.lanes 0 d).made ≡ c.args.self.now.made
          = ap (λ (x : LaneSeen). x.made) (sym (seen_at c.self.inside.steps d c.self.invariant) ∙ c.self.view_is)
          in
          let lanes : c.answer-answer.new.self.lanes ≡ c.self.inside.steps.lanes = c.answer-answer.ensures.lanes ∙ c.solve.ensures.lanes in
          omega (arith, c.requires, seen, ap (λ (ls : List LanePrices). (slice_index_or ls 0 d).made) lanes),
    ),
  ),
)

pub invariant_of-self : goal.invariant_of-self
invariant_of-self c =
    let lanes : c.answer-answer.new.self.lanes ≡ c.self.inside.steps.lanes = c.answer-answer.ensures.lanes ∙ c.solve.ensures.lanes in
    let one : length c.answer-answer.new.self.lanes ≡ 1 = ap length lanes ∙ c.self.invariant in
    let d : LanePrices = (element_at c.answer-answer.new.self.lanes 0 (omega (arith, one))).0 in
    one_still _ _ _ c.answer-answer.new.self.lanes c.advance.new.self.lanes one (c.advance.ensures.next d)

pub returns-clause-answer : goal.returns-clause-answer
returns-clause-answer c =
    let x = c.self.inside.steps in
    let one : length x.lanes ≡ 1 = c.self.invariant in
    let d : LanePrices = (element_at x.lanes 0 (omega (arith, one))).0 in
    let b = c.answer-answer.result.bound in
    let v = c.answer-answer.result.value in
    let plan = c.answer-answer.new.self.plan in
    let at : IsAnswer c.solve.new.self.snapshot (slice_index_or c.solve.new.self.lanes 0 d) b v plan = c.answer-answer.ensures.answer d in
    let of : IsAnswer x.snapshot (slice_index_or c.solve.new.self.lanes 0 d) b v plan
    = subst (λ (p : Parts). IsAnswer p (slice_index_or c.solve.new.self.lanes 0 d) b v plan) c.solve.ensures.same_snapshot at
    in
    let here : IsAnswer x.snapshot (slice_index_or x.lanes 0 d) b v plan
    = subst (λ (ls : List LanePrices). IsAnswer x.snapshot (slice_index_or ls 0 d) b v plan) c.solve.ensures.lanes of
    in
    subst (λ (y : LaneSeen). IsRoundAnswer y.snapshot y.lane y.made b v) c.self.view_is (answer_seen x d b v plan one here)

pub returns-clause-bound : goal.returns-clause-bound
returns-clause-bound c =
    let x = c.self.inside.steps in
    let d : LanePrices = (element_at x.lanes 0 (omega (arith, c.self.invariant))).0 in
    let same : c.solve.new.self.snapshot ≡ c.args.self.now.snapshot = c.solve.ensures.same_snapshot ∙ ap (λ (y : LaneSeen). y.snapshot) c.self.view_is in
    subst (λ (s : Parts). (plan : List Placement) → IsFeasible s plan → value_of_plan s plan ≤ c.answer-answer.result.bound) same
    (c.answer-answer.ensures.answer d).above

pub returns-clause-made : goal.returns-clause-made
returns-clause-made c =
    let x = c.self.inside.steps in
    let y = c.answer-answer.new.self in
    let lanes : y.lanes ≡ x.lanes = c.answer-answer.ensures.lanes ∙ c.solve.ensures.lanes in
    let snapshot : y.snapshot ≡ x.snapshot = c.answer-answer.ensures.same_snapshot ∙ c.solve.ensures.same_snapshot in
    let one : length y.lanes ≡ 1 = ap length lanes ∙ c.self.invariant in
    let d : LanePrices = (element_at y.lanes 0 (omega (arith, one))).0 in
    seen_now y c.advance.new.self _ _ one c.advance.ensures.same_snapshot (c.advance.ensures.next d)
    ∙ ap (λ (z : LaneSeen). let it : LaneSeen = record { snapshot = z.snapshot; lane = z.lane; made = z.made + 1 } in
    it) (sym (seen_at y d one) ∙ same_seen x y snapshot lanes ∙ c.self.view_is)
