use Rattle.std.proofs.Common.{◌≡◌, ℕ, ◌↔◌, IsTrue, List, [], ◌∷◌, ◌++◌, ◌∙◌, sym, ap, subst}
use Rattle.plan_base.specs.declared.parts.Parts.{Parts}
use Rattle.plan_base.specs.Starts.{IsPossibleStart}
use Rattle.plan_base.specs.FeasibleSoFar.{IsFeasibleSoFar}
use Rattle.groups.specs.Building.{Building}
use Rattle.groups.specs.Tables.{HasRoom}
use Rattle.groups.proofs.Keeping.{can_add_right}
use Rattle.groups.proofs.Rooms.{seconds_small}
use Rattle.groups.proofs.Told.{in_tables}
use Rattle.groups.proofs.plan.PlanBuild.can_add.Goals as goal

pub has_room-requires-clause-within : goal.has_room-requires-clause-within
has_room-requires-clause-within c =
    let at : c.self.inside.snapshot.now ≡ c.args.self.now.snapshot = ap (λ (b : Building). b.snapshot) c.self.view_is in
    let possible : IsPossibleStart c.self.inside.snapshot.now c.args.placement =
    subst (λ (s : Parts). IsPossibleStart s c.args.placement) (sym at) c.requires in
    in_tables c.self.inside.snapshot.now c.self.inside.placements.items c.args.placement c.footprint_of-footprint.result c.self.inside.tables
    c.parts.ensures.orderly possible c.self.invariant.kept.tables c.footprint_of-footprint.ensures

pub has_room-requires-clause-small : goal.has_room-requires-clause-small
has_room-requires-clause-small c =
    let at : c.self.inside.snapshot.now ≡ c.args.self.now.snapshot = ap (λ (b : Building). b.snapshot) c.self.view_is in
    let possible : IsPossibleStart c.self.inside.snapshot.now c.args.placement =
    subst (λ (s : Parts). IsPossibleStart s c.args.placement) (sym at) c.requires in
    seconds_small c.self.inside.snapshot.now c.self.inside.placements.items c.args.placement c.footprint_of-footprint.result c.self.inside.tables
    c.parts.ensures.orderly c.self.invariant.kept.so_far possible c.self.invariant.kept.tables c.footprint_of-footprint.ensures

pub returns : goal.returns
returns c =
    let at : c.self.inside.snapshot.now ≡ c.args.self.now.snapshot = ap (λ (b : Building). b.snapshot) c.self.view_is in
    let possible : IsPossibleStart c.self.inside.snapshot.now c.args.placement =
    subst (λ (s : Parts). IsPossibleStart s c.args.placement) (sym at) c.requires in
    let room : IsTrue c.has_room.result ↔ HasRoom c.self.inside.snapshot.now.quotas c.footprint_of-footprint.result c.self.inside.tables
    = subst (λ (qs : List ℕ). IsTrue c.has_room.result ↔ HasRoom qs c.footprint_of-footprint.result c.self.inside.tables)
    (c.as_slice-quotas.ensures ∙ ap (λ (s : Parts). s.quotas) c.parts.ensures.value) c.has_room.ensures
    in
    subst (λ (b : Building). IsTrue c.has_room.result ↔ IsFeasibleSoFar b.snapshot (b.placed ++ c.args.placement ∷ [])) c.self.view_is
    (can_add_right c.self.inside.snapshot.now c.self.inside.placements.items c.args.placement _ c.footprint_of-footprint.result c.self.inside.tables
    c.has_room.result c.parts.ensures.orderly c.self.invariant.kept possible c.footprint_of-footprint.ensures room)
