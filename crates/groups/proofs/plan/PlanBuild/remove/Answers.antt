use Rattle.std.proofs.Common.{◌≡◌, ◌==◌, true, false, List, None, Some, find, refl, ◌∙◌, sym, ap, rules}
use Rattle.std.proofs.lemmas.Fn.{filter_same}
use Rattle.std.proofs.lemmas.List.Elements.{All-contains}
use Rattle.plan_base.specs.declared.claim.Placement.{Placement}
use Rattle.plan_base.specs.Starts.{IsPossibleStart}
use Rattle.groups.specs.Building.{Building, without}
use Rattle.groups.proofs.Keeping.{found_placement, found_request, not_found, kept_removed, taken_in_plan}
use Rattle.groups.proofs.Shares.{not_placed}
use Rattle.groups.proofs.Told.{in_tables}
use Rattle.groups.proofs.plan.PlanBuild.remove.Goals as goal
use Rattle.groups.proofs.plan.PlanBuild.remove.Goals.{In_default, In-Some}

none_found : (c : In_default) → find (λ p. p.request.0 == c.args.request.0) c.args.self.now.placed ≡ None
none_found c =
    let placed : c.self.inside.placements.items ≡ c.args.self.now.placed = ap (λ (b : Building). b.placed) c.self.view_is in
    ap (find (λ (p : Placement). p.request.0 == c.args.request.0)) (sym placed)
    ∙ ap (find (λ (p : Placement). p.request.0 == c.args.request.0)) (sym c.as_slice.ensures.value) ∙ sym c.placement_of.ensures ∙ c.in_default.is

one_found : (c : In-Some) → find (λ p. p.request.0 == c.args.request.0) c.self.inside.placements.items ≡ Some c.in-Some.placement
one_found c = ap (find (λ (p : Placement). p.request.0 == c.args.request.0)) (sym c.as_slice.ensures.value) ∙ sym c.placement_of.ensures ∙ c.in-Some.is

possible : (c : In-Some) → IsPossibleStart c.self.inside.snapshot.now c.in-Some.placement
possible c =
    let found = found_placement c.args.request.0 c.self.inside.placements.items c.in-Some.placement (one_found c) in
    All-contains (IsPossibleStart c.self.inside.snapshot.now) c.self.inside.placements.items c.in-Some.placement c.self.invariant.kept.so_far.possible found.0

pub returns-in_default-clause-found : goal.returns-in_default-clause-found
returns-in_default-clause-found c =
    (λ yes. let bad : false ≡ true = yes in cc, λ has. absurd (not_found c.args.request.0 c.args.self.now.placed (none_found c) has))

pub returns-in_default-clause-after : goal.returns-in_default-clause-after
returns-in_default-clause-after c =
    let same : without c.args.request.0 c.args.self.now.placed ≡ c.args.self.now.placed =
    not_placed c.args.request.0 c.args.self.now.placed (not_found c.args.request.0 c.args.self.now.placed (none_found c)) in
    ap (λ (ps : List Placement). let b : Building = record { snapshot = c.args.self.now.snapshot; placed = ps } in b) (sym same)

pub footprint_of-footprint-requires-clause-possible : goal.footprint_of-footprint-requires-clause-possible
footprint_of-footprint-requires-clause-possible c = possible (goal.at.footprint_of-footprint-requires-clause-possible c).In-Some

pub release-requires-clause-within : goal.release-requires-clause-within
release-requires-clause-within c =
    in_tables c.self.inside.snapshot.now c.self.inside.placements.items c.in-Some.placement c.footprint_of-footprint.result c.self.inside.tables
    c.recall_valid.ensures.orderly (possible (goal.at.release-requires-clause-within c).In-Some) c.self.invariant.kept.tables
    c.footprint_of-footprint.ensures

pub release-requires-clause-taken_up : goal.release-requires-clause-taken_up
release-requires-clause-taken_up c =
    let found = found_placement c.args.request.0 c.self.inside.placements.items c.in-Some.placement
    (one_found (goal.at.release-requires-clause-taken_up c).In-Some) in
    taken_in_plan c.self.inside.snapshot.now c.self.inside.placements.items c.in-Some.placement _ c.footprint_of-footprint.result c.self.inside.tables
    c.self.invariant.kept found.0 c.footprint_of-footprint.ensures

pub invariant_of-self : goal.invariant_of-self
invariant_of-self c =
    let found = found_placement c.args.request.0 c.self.inside.placements.items c.in-Some.placement (one_found (goal.at.invariant_of-self c).In-Some) in
    let less : c.retain.new.self.items ≡ without c.args.request.0 c.self.inside.placements.items =
    filter_same _ _ _ (λ x b f' k. search rules) _ _ c.retain.ensures.filtered in
    record {
      kept = kept_removed c.self.inside.snapshot.now c.self.inside.placements.items _ c.in-Some.placement c.args.request.0 _ _
          c.footprint_of-footprint.result c.release.new.self c.self.inside.tables c.self.invariant.kept found.0 found.1
          c.footprint_of-footprint.ensures c.release.ensures less c.retain.ensures.capacity;
      known_places = c.self.invariant.known_places;
    }

pub returns-clause-found : goal.returns-clause-found
returns-clause-found c =
    let placed : c.self.inside.placements.items ≡ c.args.self.now.placed = ap (λ (b : Building). b.placed) c.self.view_is in
    let has = found_request c.args.request.0 c.args.self.now.placed c.in-Some.placement
    (ap (find (λ (p : Placement). p.request.0 == c.args.request.0)) (sym placed) ∙ one_found (goal.at.returns-clause-found c).In-Some) in
    (λ yes. has, λ there. refl)

pub returns-clause-after : goal.returns-clause-after
returns-clause-after c =
    let less : c.retain.new.self.items ≡ without c.args.request.0 c.self.inside.placements.items =
    filter_same _ _ _ (λ x b f' k. search rules) _ _ c.retain.ensures.filtered in
    let whole : Building = record { snapshot = c.self.inside.snapshot.now; placed = c.retain.new.self.items } in
    ap (λ (ps : List Placement). let b : Building = record { snapshot = c.self.inside.snapshot.now; placed = ps } in b) less
    ∙ ap (λ (b : Building). let d : Building = record { snapshot = b.snapshot; placed = without c.args.request.0 b.placed } in d) c.self.view_is
