use Rattle.std.proofs.Common.{◌≡◌, ◌<◌, pos, ◌≤ℤ◌, [], length, slice_index_or, All, sym, ◌∙◌, ap, subst, arith}
use Rattle.std.proofs.lemmas.Grind.{common_steps}
use Rattle.std.proofs.lemmas.Int.{ints}
use Rattle.std.proofs.lemmas.List.{get_or_default}
use Rattle.plan_base.specs.declared.parts.Parts.{Parts}
use Rattle.plan_base.specs.Sums.{AreParts}
use Rattle.plan_base.specs.Starts.{IsPossibleStart}
use Rattle.plan_base.specs.Feasible.{IsDisjoint, IsFeasible}
use Rattle.plan_base.specs.Starts.{value_of_plan}
use Rattle.plan_base.specs.Bound.{IsBest}
use Rattle.plan_base.specs.Canonical.{IsCanonicalStarts}
use Rattle.plan_base.specs.Repaired.{IsRepairedFrom}
use Rattle.interval_solver.specs.Uses.{Started}
use Rattle.interval_solver.specs.Lanes.{lane}
use Rattle.lanes.specs.declared.lane_prices.LanePrices.{LanePrices}
use Rattle.lanes.specs.Rounds.{IsLane, Stepping, IsSolved, IsSolvedAt, IsAnswer}
use Rattle.lanes.proofs.Parts.{written_back}
use Rattle.plan_base.proofs.Chosen.{starts_possible, starts_disjoint}
use Rattle.lanes.proofs.Lanes.{solved_now}
use Rattle.lanes.proofs.steps.Steps.answer.Goals as goal

pub bound-bound-requires-clause-bests : goal.bound-bound-requires-clause-bests
bound-bound-requires-clause-bests g c =
    let s = c.self.inside.snapshot.now in
    let a = c.index-lane.result.now in
    let bests = c.self.inside.bests.items in
    let none : Started = record { snapshot = s; starts = []; room = 0 } in
    let at : IsSolved s (slice_index_or c.self.inside.lanes.items c.args.place a).prices.0
    (slice_index_or c.self.inside.uses.items c.args.place none).starts (lane c.args.place bests)
    = subst (λ (x : Stepping). IsSolvedAt x c.args.place) (sym c.self.view_is) c.requires.solved a none
    in
    let best : AreParts (length s.telescopes) (λ t. IsBest s a.prices.0 t s.first.0) (lane c.args.place bests)
    = subst (λ (b : LanePrices). AreParts (length s.telescopes) (λ t. IsBest s b.prices.0 t s.first.0) (lane c.args.place bests))
    (sym c.index-lane.ensures) at.best
    in
    let copied : c.copy_lane.new.into ≡ lane c.args.place bests = c.copy_lane.ensures ∙ ap (lane c.args.place) c.as_slice.ensures.value in
    let count : length c.copy_lane.new.into ≡ length c.self.inside.bound_parts.bests.items = ap length copied ∙ best.count
    ∙ sym c.self.invariant.0.bound_parts.bests in
    subst (AreParts (length s.telescopes) (λ t. IsBest s a.prices.0 t s.first.0))
    (sym (written_back c.self.inside.bound_parts.bests.len c.copy_lane.new.into c.self.inside.bound_parts.bests.items
    c.self.inside.bound_parts.bests.ok.0 count ∙ copied)) best

pub run-value-requires-clause-possible : goal.run-value-requires-clause-possible
run-value-requires-clause-possible g c =
    let at = solved_now c.args.self.now _ c.args.place c.index-lane.result.now c.index.result.now c.self.view_is c.index-lane.ensures
    c.index.ensures c.requires.solved in
    subst (λ (p : Parts). All (IsPossibleStart p) c.starts.result.now) (sym c.self.invariant.0.repairing)
    (subst (All (IsPossibleStart c.self.inside.snapshot.now)) (sym c.starts.ensures)
    (starts_possible c.self.inside.snapshot.now c.index-lane.result.now.prices.0 c.index.result.now.starts at.canonical))

pub run-value-requires-clause-disjoint : goal.run-value-requires-clause-disjoint
run-value-requires-clause-disjoint g c =
    let at = solved_now c.args.self.now _ c.args.place c.index-lane.result.now c.index.result.now c.self.view_is c.index-lane.ensures
    c.index.ensures c.requires.solved in
    subst (λ (p : Parts). IsDisjoint p c.starts.result.now) (sym c.self.invariant.0.repairing)
    (subst (IsDisjoint c.self.inside.snapshot.now) (sym c.starts.ensures)
    (starts_disjoint c.self.inside.snapshot.now c.index-lane.result.now.prices.0 c.index.result.now.starts at.canonical))

pub returns-clause-solved : goal.returns-clause-solved
returns-clause-solved g c = λ k h. subst (λ (x : Stepping). IsSolvedAt x k) (sym c.self.view_is) h

pub returns-clause-answer : goal.returns-clause-answer
returns-clause-answer g c = λ d.
    let s = c.self.inside.snapshot.now in
    let a = c.index-lane.result.now in
    let plan = c.run-value.new.self.plan in
    let of : c.self.inside.repairer.snapshot ≡ s = c.self.invariant.0.repairing in
    let within : c.args.place < length c.self.inside.lanes.items = omega (arith, c.requires.place, c.self.invariant.0.lanes_count) in
    let at = solved_now c.args.self.now _ c.args.place a c.index.result.now c.self.view_is c.index-lane.ensures c.index.ensures c.requires.solved in
    let canonical : IsCanonicalStarts s a.prices.0 c.starts.result.now = subst (IsCanonicalStarts s a.prices.0) (sym c.starts.ensures) at.canonical in
    let repaired : IsRepairedFrom s c.starts.result.now plan =
    subst (λ (p : Parts). IsRepairedFrom p c.starts.result.now plan) of c.run-value.ensures.repaired in
    let here : IsAnswer s a c.bound-bound.result c.run-value.result plan = record {
      is_lane = subst (IsLane s) (sym c.index-lane.ensures) (c.self.invariant.0.lanes c.args.place a within);
      bound = c.bound-bound.ensures.bound;
      repaired = (c.starts.result.now, canonical, repaired);
      worth = ap (λ (p : Parts). value_of_plan p plan) (sym of) ∙ sym c.run-value.ensures.value;
      feasible = subst (λ (p : Parts). IsFeasible p plan) of c.run-value.ensures.feasible;
      above = λ other feasible.
          let most : pos (value_of_plan s other) ≤ℤ pos c.bound-bound.result =
          c.weak_duality.ensures other (pos c.bound-bound.result) feasible c.bound-bound.ensures.bound in
          omega (arith, ints, most);
    } in
    let same_lane : a ≡ slice_index_or c.args.self.now.lanes c.args.place d
    = c.index-lane.ensures ∙ get_or_default c.self.inside.lanes.items c.args.place a d within
    ∙ ap (λ (x : Stepping). slice_index_or x.lanes c.args.place d) c.self.view_is
    in
    subst (λ (p : Parts). IsAnswer p (slice_index_or c.args.self.now.lanes c.args.place d) c.bound-bound.result c.run-value.result plan)
    (ap (λ (x : Stepping). x.snapshot) c.self.view_is)
    (subst (λ (b : LanePrices). IsAnswer s b c.bound-bound.result c.run-value.result plan) same_lane here)

pub bound-bound-requires-clause-room : goal.bound-bound-requires-clause-room
bound-bound-requires-clause-room g c = grind (arith, common_steps)
