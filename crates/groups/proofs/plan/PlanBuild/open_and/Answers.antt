use Rattle.std.proofs.Common.{◌≡◌, ℕ, List, Option, Some, None, ◌∙◌, ap, subst, slice_index_or}
use Rattle.plan_base.specs.declared.parts.Parts.{Parts}
use Rattle.plan_base.specs.declared.parts.GroupPart.{GroupPart}
use Rattle.plan_base.specs.Feasible.{IsFeasible}
use Rattle.groups.specs.Building.{Building, IsFirstPartly, IsOpenAnd}
use Rattle.groups.proofs.Opens.{feasible_when_none, open_when_some}
use Rattle.groups.proofs.Runs.{number_read}
use Rattle.groups.proofs.plan.PlanBuild.open_and.Goals as goal

pub returns-in-Some-clause-some : goal.returns-in-Some-clause-some
returns-in-Some-clause-some c =
    let groups : c.as_slice-groups.result.now ≡ c.self.inside.snapshot.now.groups = c.as_slice-groups.ensures
    ∙ ap (λ (s : Parts). s.groups) c.parts.ensures.value in
    let found : IsFirstPartly c.as_slice-groups.result.now c.as_slice-members.result.now (Some c.in-Some.place) =
    subst (λ (r : Option ℕ). IsFirstPartly c.as_slice-groups.result.now c.as_slice-members.result.now r) c.in-Some.is c.first_partly.ensures in
    let partly : IsFirstPartly c.self.inside.snapshot.now.groups c.self.inside.tables.members.items (Some c.in-Some.place)
    = subst (λ (xs : List ℕ). IsFirstPartly c.self.inside.snapshot.now.groups xs (Some c.in-Some.place)) c.as_slice-members.ensures.value
    (subst (λ (gs : List GroupPart). IsFirstPartly gs c.as_slice-members.result.now (Some c.in-Some.place)) groups found)
    in
    subst (λ (b : Building). IsOpenAnd b.snapshot b.placed
    (slice_index_or c.as_slice-groups.result.now c.in-Some.place c.index-groups-place.result).group.0) c.self.view_is
    (open_when_some c.self.inside.snapshot.now c.self.inside.placements.items c.self.inside.tables c.in-Some.place _ c.parts.ensures.orderly
    c.self.invariant.kept.so_far c.self.invariant.kept.tables partly
    (number_read c.self.inside.snapshot.now c.as_slice-groups.result.now c.in-Some.place c.index-groups-place.result groups partly.0))

pub returns-in-None-clause-none : goal.returns-in-None-clause-none
returns-in-None-clause-none c =
    let groups : c.as_slice-groups.result.now ≡ c.self.inside.snapshot.now.groups = c.as_slice-groups.ensures
    ∙ ap (λ (s : Parts). s.groups) c.parts.ensures.value in
    let found : IsFirstPartly c.as_slice-groups.result.now c.as_slice-members.result.now None =
    subst (λ (r : Option ℕ). IsFirstPartly c.as_slice-groups.result.now c.as_slice-members.result.now r) c.in-None.is c.first_partly.ensures in
    let none : IsFirstPartly c.self.inside.snapshot.now.groups c.self.inside.tables.members.items None
    = subst (λ (xs : List ℕ). IsFirstPartly c.self.inside.snapshot.now.groups xs None) c.as_slice-members.ensures.value
    (subst (λ (gs : List GroupPart). IsFirstPartly gs c.as_slice-members.result.now None) groups found)
    in
    subst (λ (b : Building). IsFeasible b.snapshot b.placed) c.self.view_is
    (feasible_when_none c.self.inside.snapshot.now c.self.inside.placements.items c.self.inside.tables c.parts.ensures.orderly
    c.self.invariant.kept.so_far c.self.invariant.kept.tables none)
