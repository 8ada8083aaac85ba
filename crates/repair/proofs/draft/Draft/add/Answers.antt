use Rattle.std.proofs.Common.{◌≡◌, ◌*◌, ◌∙◌, sym, ap, subst, arith, length}
use Rattle.plan_base.specs.declared.parts.Parts.{Parts}
use Rattle.plan_base.specs.Snapshot.{IsOrderly}
use Rattle.plan_base.specs.Starts.{IsPossibleStart}
use Rattle.groups.specs.Building.{Building}
use Rattle.groups.specs.Places.{ArePlaces}
use Rattle.repair.proofs.Drafting.{slots_within, slots_few, draft_added}
use Rattle.repair.proofs.draft.Draft.add.Goals as goal

pub of-slots-requires-clause-places : goal.of-slots-requires-clause-places
of-slots-requires-clause-places c = subst (λ (s : Parts). ArePlaces s c.places.result.now) c.self.invariant.snapshot c.places.ensures

pub overflow_cast-slots : goal.overflow_cast-slots
overflow_cast-slots c =
    let s = c.self.inside.snapshot.now in
    let same : c.args.self.now.snapshot ≡ s = ap (λ (b : Building). b.snapshot) (sym c.self.view_is) ∙ c.self.invariant.snapshot in
    let orderly : IsOrderly s = subst IsOrderly same c.recall.ensures.orderly in
    let within = slots_within s c.args.start orderly (subst (λ (p : Parts). IsPossibleStart p c.args.start) same c.requires.possible) in
    let few = slots_few s orderly in
    let to = c.of-slots.ensures.to in
    record { fits = omega arith }

pub write_marks-requires-clause-within : goal.write_marks-requires-clause-within
write_marks-requires-clause-within c =
    let s = c.self.inside.snapshot.now in
    let same : c.args.self.now.snapshot ≡ s = ap (λ (b : Building). b.snapshot) (sym c.self.view_is) ∙ c.self.invariant.snapshot in
    let within = slots_within s c.args.start (subst IsOrderly same c.recall.ensures.orderly)
    (subst (λ (p : Parts). IsPossibleStart p c.args.start) same c.requires.possible) in
    let to = c.of-slots.ensures.to in
    let count : length c.self.inside.marks.items ≡ length s.telescopes * s.slices = c.self.invariant.marks.count in
    omega arith

pub invariant_of-self : goal.invariant_of-self
invariant_of-self c =
    let s = c.self.inside.snapshot.now in
    let same : c.args.self.now.snapshot ≡ s = ap (λ (b : Building). b.snapshot) (sym c.self.view_is) ∙ c.self.invariant.snapshot in
    draft_added s c.self.inside.build c.add.new.self c.self.inside.marks.items c.write_marks.new.marks.items c.args.start c.of-slots.result.from
    c.of-slots.result.to (subst IsOrderly same c.recall.ensures.orderly)
    (subst (λ (p : Parts). IsPossibleStart p c.args.start) same c.requires.possible) c.self.invariant c.add.ensures c.of-slots.ensures.from
    c.of-slots.ensures.to c.write_marks.ensures.count c.write_marks.ensures.each
