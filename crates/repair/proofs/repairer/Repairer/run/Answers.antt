use Rattle.std.proofs.Common.{◌≡◌, List, Option, All, map, sym, ◌∙◌, ap, subst}
use Rattle.plan_base.specs.declared.parts.Parts.{Parts}
use Rattle.plan_base.specs.declared.claim.Placement.{Placement}
use Rattle.plan_base.specs.Starts.{IsPossibleStart}
use Rattle.plan_base.specs.Feasible.{IsDisjoint, IsFeasible}
use Rattle.plan_base.specs.Saturated.{IsSaturated}
use Rattle.plan_base.specs.Fill.{IsFilled}
use Rattle.plan_base.specs.Repaired.{IsRepairedFrom}
use Rattle.groups.specs.Building.{Building}
use Rattle.repair.specs.declared.ranked.Ranked.{Ranked}
use Rattle.repair.specs.Firsts.{AreFirsts}
use Rattle.repair.specs.Repairs.{AreOrdered, start_of}
use Rattle.repair.specs.Repairing.{Repairing}
use Rattle.repair.proofs.Noting.{own_from}
use Rattle.repair.proofs.Foremost.{ordered_possible, ordered_outside}
use Rattle.repair.proofs.Repaired.{AreDrafts, repaired_from}
use Rattle.repair.proofs.repairer.Repairer.run.Goals as goal

pub note_firsts-requires-clause-known : goal.note_firsts-requires-clause-known
note_firsts-requires-clause-known c =
    let same : c.args.self.now.snapshot ≡ c.self.inside.snapshot.now = ap (λ (r : Repairing). r.snapshot) (sym c.self.view_is) in
    λ k d l. (subst (λ (p : Parts). All (IsPossibleStart p) c.args.chosen.now) same c.requires.possible k d l).known

pub add_wholes-requires-clause-own : goal.add_wholes-requires-clause-own
add_wholes-requires-clause-own c =
    let s = c.self.inside.snapshot.now in
    let same : c.args.self.now.snapshot ≡ s = ap (λ (r : Repairing). r.snapshot) (sym c.self.view_is) in
    own_from s c.clear.new.self.snapshot c.args.chosen.now c.note_firsts.new.firsts.items _ (ap (λ (b : Building). b.snapshot) c.clear.ensures
    ∙ c.self.invariant.same) c.as_slice.ensures.value
    (subst (λ (p : Parts). All (IsPossibleStart p) c.args.chosen.now) same c.requires.possible) c.note_firsts.ensures

pub add_each-requires-clause-possible : goal.add_each-requires-clause-possible
add_each-requires-clause-possible c =
    let s = c.self.inside.snapshot.now in
    let same : c.args.self.now.snapshot ≡ s = ap (λ (r : Repairing). r.snapshot) (sym c.self.view_is) in
    ordered_possible s c.add_wholes.new.draft.snapshot c.args.chosen.now c.rank_starts.new.ranked.items _
    (c.add_wholes.ensures.same ∙ ap (λ (b : Building). b.snapshot) c.clear.ensures ∙ c.self.invariant.same) c.as_slice-2.ensures.value
    (subst (λ (p : Parts). All (IsPossibleStart p) c.args.chosen.now) same c.requires.possible) c.rank_starts.ensures.ordered

pub add_each-requires-clause-outside : goal.add_each-requires-clause-outside
add_each-requires-clause-outside c =
    let s = c.self.inside.snapshot.now in
    let same : c.args.self.now.snapshot ≡ s = ap (λ (r : Repairing). r.snapshot) (sym c.self.view_is) in
    ordered_outside s c.add_wholes.new.draft.snapshot c.args.chosen.now c.rank_starts.new.ranked.items _
    (c.add_wholes.ensures.same ∙ ap (λ (b : Building). b.snapshot) c.clear.ensures ∙ c.self.invariant.same) c.as_slice-2.ensures.value
    (subst (λ (p : Parts). All (IsPossibleStart p) c.args.chosen.now) same c.requires.possible) c.rank_starts.ensures.ordered

pub returns-clause-repaired : goal.returns-clause-repaired
returns-clause-repaired c =
    let s = c.self.inside.snapshot.now in
    let same : c.args.self.now.snapshot ≡ s = ap (λ (r : Repairing). r.snapshot) (sym c.self.view_is) in
    let drafts : AreDrafts s c.args.chosen.now (map start_of c.as_slice-2.result.now) c.as_slice.result.now c.clear.new.self c.add_wholes.new.draft
    c.add_each.new.draft c.fill.new.draft = record {
      snapshot = ap (λ (b : Building). b.snapshot) c.clear.ensures ∙ c.self.invariant.same;
      empty = ap (λ (b : Building). b.placed) c.clear.ensures;
      same = c.add_wholes.ensures.same;
      also = c.add_each.ensures.same;
      adds_wholes = c.add_wholes.ensures.adds;
      are_firsts = subst (λ (xs : List (Option Placement)). AreFirsts s c.args.chosen.now xs) (sym c.as_slice.ensures.value) c.note_firsts.ensures;
      are_ordered = subst (λ (xs : List Ranked). AreOrdered s c.args.chosen.now (map start_of xs))
          (sym c.as_slice-2.ensures.value) c.rank_starts.ensures.ordered;
      feasible = c.add_wholes.ensures.feasible;
      adds_each = c.add_each.ensures.adds;
      fills = c.fill.ensures.filled;
    } in
    subst (λ (p : Parts). IsRepairedFrom p c.args.chosen.now c.fill.new.draft.placed) (sym same) (repaired_from s _ _ _ _ _ _ _ c.recall_valid.ensures.orderly
    (subst (λ (p : Parts). All (IsPossibleStart p) c.args.chosen.now) same c.requires.possible)
    (subst (λ (p : Parts). IsDisjoint p c.args.chosen.now) same c.requires.disjoint) drafts)

pub returns-clause-feasible : goal.returns-clause-feasible
returns-clause-feasible c =
    let s = c.self.inside.snapshot.now in
    let same : c.args.self.now.snapshot ≡ s = ap (λ (r : Repairing). r.snapshot) (sym c.self.view_is) in
    let wholes : c.add_wholes.new.draft.snapshot ≡ s = c.add_wholes.ensures.same ∙ ap (λ (b : Building). b.snapshot) c.clear.ensures ∙ c.self.invariant.same in
    subst (λ (p : Parts). IsFeasible p c.fill.new.draft.placed) (sym same)
    (c.filled_is_saturated.ensures.feasible c.add_each.new.draft.placed c.fill.new.draft.placed
    (subst (λ (p : Parts). IsFeasible p c.add_each.new.draft.placed) wholes c.add_each.ensures.feasible)
    (subst (λ (p : Parts). IsFilled p c.add_each.new.draft.placed c.fill.new.draft.placed) (c.add_each.ensures.same ∙ wholes) c.fill.ensures.filled))

pub returns-clause-saturated : goal.returns-clause-saturated
returns-clause-saturated c =
    let s = c.self.inside.snapshot.now in
    let same : c.args.self.now.snapshot ≡ s = ap (λ (r : Repairing). r.snapshot) (sym c.self.view_is) in
    let wholes : c.add_wholes.new.draft.snapshot ≡ s = c.add_wholes.ensures.same ∙ ap (λ (b : Building). b.snapshot) c.clear.ensures ∙ c.self.invariant.same in
    subst (λ (p : Parts). IsSaturated p c.fill.new.draft.placed) (sym same)
    (c.filled_is_saturated.ensures.saturated c.add_each.new.draft.placed c.fill.new.draft.placed
    (subst (λ (p : Parts). IsFilled p c.add_each.new.draft.placed c.fill.new.draft.placed)
    (c.add_each.ensures.same ∙ wholes) c.fill.ensures.filled))
