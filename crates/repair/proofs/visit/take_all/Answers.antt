use Rattle.std.proofs.Common.{◌≡◌, ℕ, true, false, List, All, length, refl, sym, ◌∙◌, ap, subst, arith}
use Rattle.plan_base.specs.declared.parts.Parts.{Parts}
use Rattle.plan_base.specs.declared.claim.Placement.{Placement}
use Rattle.plan_base.specs.Feasible.{requests_of, AreOfOneOneOf}
use Rattle.plan_base.specs.Fill.{TakesAllOrNone}
use Rattle.groups.specs.Building.{Building}
use Rattle.std.proofs.lemmas.List.{take_all}
use Rattle.repair.specs.Entries.{numbers_of}
use Rattle.repair.specs.Steps.{Places}
use Rattle.repair.proofs.Visiting.{left_over, at_entry, once_left, next_unplaced, taken_none, taken_more, taken_all, taken_not}
use Rattle.repair.proofs.visit.take_all.Goals as goal

pub loop-entry-init : goal.loop-entry-init
loop-entry-init c = record {
  same = refl;
  count = ap (λ (xs : List Placement). length xs) c.placed-count.ensures.value;
  taken = taken_none c.args.draft.now.snapshot c.args.draft.now.placed c.args.entries.now
      (take_all (length c.args.draft.now.placed) c.args.draft.now.placed (omega arith)) c.requires.unplaced;
}

pub place-requires-clause-unplaced : goal.place-requires-clause-unplaced
place-requires-clause-unplaced c =
    next_unplaced c.args.draft.now.snapshot c.args.draft.now.placed c.loop-entry.draft.placed c.args.entries.now c.loop-entry.entry-index
    c.entry-item.result c.loop-entry-test.true c.entry-item.is c.loop-entry.invariant.taken

pub place-requires-clause-alone : goal.place-requires-clause-alone
place-requires-clause-alone c =
    subst (λ (p : Parts). All (λ r. ¬ (AreOfOneOneOf p r c.entry-item.result.request.0)) (requests_of c.loop-entry.draft.placed))
    (sym c.loop-entry.invariant.same)
    (λ k d l. at_entry (λ r. (a : ℕ) → ¬ (AreOfOneOneOf c.args.draft.now.snapshot a r)) c.args.entries.now c.loop-entry.entry-index
    c.entry-item.result c.requires.alone c.loop-entry-test.true c.entry-item.is _)

pub loop-entry-preserved : goal.loop-entry-preserved
loop-entry-preserved c =
    let s = c.args.draft.now.snapshot in
    let placed : Places s c.loop-entry.draft.placed c.entry-item.result.request.0 true c.place.new.draft.placed
    = subst (λ (p : Parts). Places p c.loop-entry.draft.placed c.entry-item.result.request.0 true c.place.new.draft.placed)
    c.loop-entry.invariant.same (rw c.if-not-place.false at c.place.ensures.placed)
    in
    record {
      same = c.place.ensures.same ∙ c.loop-entry.invariant.same;
      count = c.loop-entry.invariant.count;
      taken = taken_more s c.args.draft.now.placed c.loop-entry.draft.placed c.place.new.draft.placed c.args.entries.now c.loop-entry.entry-index
          c.entry-item.result c.loop-entry-test.true c.entry-item.is
          (once_left c.args.entries.now c.loop-entry.entry-index c.requires.once) placed c.loop-entry.invariant.taken;
    }

pub truncate-requires : goal.truncate-requires
truncate-requires c =
    let none : Places c.loop-entry.draft.snapshot c.loop-entry.draft.placed c.entry-item.result.request.0 false c.place.new.draft.placed =
    rw c.if-not-place.true at c.place.ensures.placed in
    let same : length c.place.new.draft.placed ≡ length c.loop-entry.draft.placed = ap (λ (xs : List Placement). length xs) none.1 in
    let count = c.loop-entry.invariant.taken.count in
    let also = c.loop-entry.invariant.count in
    omega arith

pub returns-then-not-place-clause-same : goal.returns-then-not-place-clause-same
returns-then-not-place-clause-same c = ap (λ (b : Building). b.snapshot) c.truncate.ensures ∙ c.place.ensures.same ∙ c.loop-entry.invariant.same

pub returns-then-not-place-clause-takes : goal.returns-then-not-place-clause-takes
returns-then-not-place-clause-takes c =
    let s = c.args.draft.now.snapshot in
    let none : Places s c.loop-entry.draft.placed c.entry-item.result.request.0 false c.place.new.draft.placed
    = subst (λ (p : Parts). Places p c.loop-entry.draft.placed c.entry-item.result.request.0 false c.place.new.draft.placed)
    c.loop-entry.invariant.same (rw c.if-not-place.true at c.place.ensures.placed)
    in
    let left : c.truncate.new.self.placed ≡ c.args.draft.now.placed =
    left_over _ _ _ _ _ (ap (λ (b : Building). b.placed) c.truncate.ensures) none.1 c.loop-entry.invariant.count
    c.loop-entry.invariant.taken.front in
    subst (TakesAllOrNone s c.args.draft.now.placed (numbers_of c.args.entries.now)) (sym left)
    (taken_not s c.args.draft.now.placed c.loop-entry.draft.placed c.args.entries.now c.loop-entry.entry-index c.entry-item.result
    c.loop-entry-test.true c.entry-item.is none.0 c.loop-entry.invariant.taken)

pub returns-then-not-place-clause-added : goal.returns-then-not-place-clause-added
returns-then-not-place-clause-added c =
    let none : Places c.loop-entry.draft.snapshot c.loop-entry.draft.placed c.entry-item.result.request.0 false c.place.new.draft.placed =
    rw c.if-not-place.true at c.place.ensures.placed in
    left_over _ _ _ _ _ (ap (λ (b : Building). b.placed) c.truncate.ensures) none.1 c.loop-entry.invariant.count c.loop-entry.invariant.taken.front

pub returns-clause-takes : goal.returns-clause-takes
returns-clause-takes c = taken_all c.args.draft.now.snapshot c.args.draft.now.placed c.loop-entry.draft.placed c.args.entries.now
    c.loop-entry.entry-index (omega arith) c.loop-entry.invariant.taken

pub returns-clause-added : goal.returns-clause-added
returns-clause-added c = let count = c.loop-entry.invariant.taken.count in let some = c.requires.some in omega arith
