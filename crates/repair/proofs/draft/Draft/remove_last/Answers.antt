use Rattle.std.proofs.Common.{◌≡◌, ◌-◌, ◌*◌, ◌<◌, ◌∙◌, sym, ap, subst, arith, length, take, List}
use Rattle.std.specs.Prelude.{HoldsAt}
use Rattle.plan_base.specs.declared.parts.Parts.{Parts}
use Rattle.plan_base.specs.declared.claim.Placement.{Placement}
use Rattle.plan_base.specs.Snapshot.{IsOrderly}
use Rattle.plan_base.specs.Starts.{IsPossibleStart}
use Rattle.plan_base.specs.FeasibleSoFar.{IsFeasibleSoFar}
use Rattle.groups.specs.Building.{Building}
use Rattle.groups.specs.Places.{ArePlaces}
use Rattle.repair.proofs.Drafting.{slots_within, draft_removed, removed_is}
use Rattle.repair.proofs.draft.Draft.remove_last.Goals as goal

pub of-slots-requires-clause-places : goal.of-slots-requires-clause-places
of-slots-requires-clause-places c = subst (λ (s : Parts). ArePlaces s c.places.result.now) c.self.invariant.snapshot c.places.ensures

pub of-slots-requires-clause-possible : goal.of-slots-requires-clause-possible
of-slots-requires-clause-possible c =
    let same : c.args.self.now.snapshot ≡ c.self.inside.snapshot.now = ap (λ (b : Building). b.snapshot) (sym c.self.view_is) ∙ c.self.invariant.snapshot in
    let last : HoldsAt (λ p. p ≡ c.last_of-start.result) c.args.self.now.placed (length c.args.self.now.placed - 1)
    = subst (λ (plan : List Placement). HoldsAt (λ p. p ≡ c.last_of-start.result) plan (length plan - 1))
    (c.placed.ensures.value ∙ ap (λ (b : Building). b.placed) c.self.view_is) c.last_of-start.ensures
    in
    subst (λ (p : Parts). IsPossibleStart p c.last_of-start.result) same
    (subst (IsPossibleStart c.args.self.now.snapshot) (last c.last_of-start.result)
    (c.recall.ensures.so_far.possible (length c.args.self.now.placed - 1) c.last_of-start.result (let some = c.requires in omega arith)))

pub write_marks-requires-clause-within : goal.write_marks-requires-clause-within
write_marks-requires-clause-within c =
    let s = c.self.inside.snapshot.now in
    let same : c.args.self.now.snapshot ≡ s = ap (λ (b : Building). b.snapshot) (sym c.self.view_is) ∙ c.self.invariant.snapshot in
    let last : HoldsAt (λ p. p ≡ c.last_of-start.result) c.args.self.now.placed (length c.args.self.now.placed - 1)
    = subst (λ (plan : List Placement). HoldsAt (λ p. p ≡ c.last_of-start.result) plan (length plan - 1))
    (c.placed.ensures.value ∙ ap (λ (b : Building). b.placed) c.self.view_is) c.last_of-start.ensures
    in
    let possible : IsPossibleStart c.args.self.now.snapshot c.last_of-start.result =
    subst (IsPossibleStart c.args.self.now.snapshot) (last c.last_of-start.result)
    (c.recall.ensures.so_far.possible (length c.args.self.now.placed - 1) c.last_of-start.result (let some = c.requires in omega arith)) in
    let within = slots_within s c.last_of-start.result (subst IsOrderly same c.recall.ensures.orderly)
    (subst (λ (p : Parts). IsPossibleStart p c.last_of-start.result) same possible) in
    let to = c.of-slots.ensures.to in
    let count : length c.self.inside.marks.items ≡ length s.telescopes * s.slices = c.self.invariant.marks.count in
    omega arith

pub invariant_of-self : goal.invariant_of-self
invariant_of-self c =
    let s = c.self.inside.snapshot.now in
    let so_far : IsFeasibleSoFar s c.self.inside.build.placed =
    subst (λ (p : Parts). IsFeasibleSoFar p c.self.inside.build.placed) c.self.invariant.snapshot
    (subst (λ (b : Building). IsFeasibleSoFar b.snapshot b.placed) (sym c.self.view_is) c.recall.ensures.so_far) in
    let some : 0 < length c.self.inside.build.placed = subst (λ (b : Building). 0 < length b.placed) (sym c.self.view_is) c.requires in
    let last : HoldsAt (λ p. p ≡ c.last_of-start.result) c.self.inside.build.placed (length c.self.inside.build.placed - 1)
    = subst (λ (plan : List Placement). HoldsAt (λ p. p ≡ c.last_of-start.result) plan (length plan - 1)) c.placed.ensures.value c.last_of-start.ensures
    in
    draft_removed s c.self.inside.build c.remove.new.self c.self.inside.marks.items c.write_marks.new.marks.items c.last_of-start.result
    c.of-slots.result.from c.of-slots.result.to so_far some last c.self.invariant c.remove.ensures.after
    c.of-slots.ensures.from c.of-slots.ensures.to c.write_marks.ensures.count c.write_marks.ensures.each

pub returns : goal.returns
returns c =
    let s = c.self.inside.snapshot.now in
    let so_far : IsFeasibleSoFar s c.self.inside.build.placed =
    subst (λ (p : Parts). IsFeasibleSoFar p c.self.inside.build.placed) c.self.invariant.snapshot
    (subst (λ (b : Building). IsFeasibleSoFar b.snapshot b.placed) (sym c.self.view_is) c.recall.ensures.so_far) in
    let some : 0 < length c.self.inside.build.placed = subst (λ (b : Building). 0 < length b.placed) (sym c.self.view_is) c.requires in
    let last : HoldsAt (λ p. p ≡ c.last_of-start.result) c.self.inside.build.placed (length c.self.inside.build.placed - 1)
    = subst (λ (plan : List Placement). HoldsAt (λ p. p ≡ c.last_of-start.result) plan (length plan - 1)) c.placed.ensures.value c.last_of-start.ensures
    in
    removed_is s c.self.inside.build c.remove.new.self c.last_of-start.result so_far some last c.remove.ensures.after
    ∙ ap (λ (b : Building). let d : Building = record { snapshot = b.snapshot; placed = take (length b.placed - 1) b.placed } in d) c.self.view_is
