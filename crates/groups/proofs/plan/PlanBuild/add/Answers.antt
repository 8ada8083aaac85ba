use Rattle.std.proofs.Common.{◌≡◌, [], ◌∷◌, ◌++◌, sym, ap, subst, arith}
use Rattle.plan_base.specs.declared.parts.Parts.{Parts}
use Rattle.plan_base.specs.Starts.{IsPossibleStart}
use Rattle.plan_base.specs.FeasibleSoFar.{IsFeasibleSoFar}
use Rattle.groups.specs.Building.{Building}
use Rattle.groups.proofs.Keeping.{kept_added, room_left}
use Rattle.groups.proofs.Rooms.{left_out}
use Rattle.groups.proofs.Told.{in_tables}
use Rattle.groups.proofs.plan.PlanBuild.add.Goals as goal

pub take-requires-clause-within : goal.take-requires-clause-within
take-requires-clause-within c =
    let at : c.self.inside.snapshot.now ≡ c.args.self.now.snapshot = ap (λ (b : Building). b.snapshot) c.self.view_is in
    let possible : IsPossibleStart c.self.inside.snapshot.now c.args.placement =
    subst (λ (s : Parts). IsPossibleStart s c.args.placement) (sym at) c.requires.possible in
    in_tables c.self.inside.snapshot.now c.self.inside.placements.items c.args.placement c.footprint_of-footprint.result c.self.inside.tables
    c.recall_valid.ensures.orderly possible c.self.invariant.kept.tables c.footprint_of-footprint.ensures

pub take-requires-clause-left_out : goal.take-requires-clause-left_out
take-requires-clause-left_out c =
    let at : c.self.inside.snapshot.now ≡ c.args.self.now.snapshot = ap (λ (b : Building). b.snapshot) c.self.view_is in
    let possible : IsPossibleStart c.self.inside.snapshot.now c.args.placement =
    subst (λ (s : Parts). IsPossibleStart s c.args.placement) (sym at) c.requires.possible in
    let after : IsFeasibleSoFar c.self.inside.snapshot.now (c.self.inside.placements.items ++ c.args.placement ∷ []) =
    subst (λ (b : Building). IsFeasibleSoFar b.snapshot (b.placed ++ c.args.placement ∷ [])) (sym c.self.view_is) c.requires.fits in
    left_out c.self.inside.snapshot.now c.self.inside.placements.items c.args.placement c.footprint_of-footprint.result c.self.inside.tables
    c.recall_valid.ensures.orderly c.self.invariant.kept.so_far possible c.self.invariant.kept.tables c.footprint_of-footprint.ensures after

pub push_reserved-requires : goal.push_reserved-requires
push_reserved-requires c =
    let after : IsFeasibleSoFar c.self.inside.snapshot.now (c.self.inside.placements.items ++ c.args.placement ∷ []) =
    subst (λ (b : Building). IsFeasibleSoFar b.snapshot (b.placed ++ c.args.placement ∷ [])) (sym c.self.view_is) c.requires.fits in
    let room = room_left c.self.inside.snapshot.now c.self.inside.placements.items c.args.placement _ c.self.inside.tables c.self.invariant.kept after in
    let count = c.self.inside.placements.ok.0 in
    omega arith

pub invariant_of-self : goal.invariant_of-self
invariant_of-self c =
    let after : IsFeasibleSoFar c.self.inside.snapshot.now (c.self.inside.placements.items ++ c.args.placement ∷ []) =
    subst (λ (b : Building). IsFeasibleSoFar b.snapshot (b.placed ++ c.args.placement ∷ [])) (sym c.self.view_is) c.requires.fits in
    record {
      kept = kept_added c.self.inside.snapshot.now c.self.inside.placements.items _ c.args.placement _ _ c.footprint_of-footprint.result
          c.self.inside.tables c.take.new.self c.self.invariant.kept c.footprint_of-footprint.ensures c.take.ensures after
          c.push_reserved.ensures.items c.push_reserved.ensures.capacity;
      known_places = c.self.invariant.known_places;
    }
