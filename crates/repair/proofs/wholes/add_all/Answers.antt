use Rattle.std.proofs.Common.{◌≡◌, true, false, inr, List, length, refl, sym, ◌∙◌, ap, subst, arith}
use Rattle.std.proofs.lemmas.List.{take_all}
use Rattle.plan_base.specs.declared.parts.Parts.{Parts}
use Rattle.plan_base.specs.declared.claim.Placement.{Placement}
use Rattle.plan_base.specs.Starts.{IsPossibleStart}
use Rattle.plan_base.specs.FeasibleSoFar.{IsFeasibleSoFar}
use Rattle.groups.specs.Building.{Building}
use Rattle.repair.specs.Entries.{IsEntry, numbers_of}
use Rattle.repair.specs.Repairs.{AddsFirst, AddsAllOrNone}
use Rattle.repair.proofs.Adding.{added_none, added_more, added_all, added_not, grown_none, grown_more, grown_all}
use Rattle.repair.proofs.Noting.{first_read, own_read}
use Rattle.repair.proofs.Visiting.{left_over}
use Rattle.repair.proofs.wholes.add_all.Goals as goal

pub loop-entry-init : goal.loop-entry-init
loop-entry-init c = record {
  same = refl;
  count = ap (λ (xs : List Placement). length xs) c.placed-count.ensures.value;
  grown = grown_none c.args.draft.now.placed c.args.entries.now (take_all (length c.args.draft.now.placed) c.args.draft.now.placed (omega arith));
  added = λ starts are. added_none c.args.draft.now.snapshot starts c.args.draft.now.placed c.args.entries.now;
}

pub first_of-first-requires : goal.first_of-first-requires
first_of-first-requires c =
    let entry : IsEntry c.args.draft.now.snapshot c.entry-item.result =
    subst (IsEntry c.args.draft.now.snapshot) (sym c.entry-item.is)
    (c.requires.entries c.loop-entry.entry-index c.entry-item.result c.loop-entry-test.true) in
    let place = entry.place in
    let known = entry.known in
    let count = c.requires.own.count in
    omega arith

pub add_first-requires : goal.add_first-requires
add_first-requires c = λ p some.
    let entry : IsEntry c.args.draft.now.snapshot c.entry-item.result =
    subst (IsEntry c.args.draft.now.snapshot) (sym c.entry-item.is)
    (c.requires.entries c.loop-entry.entry-index c.entry-item.result c.loop-entry-test.true) in
    subst (λ (q : Parts). IsPossibleStart q p) (sym c.loop-entry.invariant.same)
    (own_read c.args.draft.now.snapshot c.args.firsts.now c.entry-item.result.request.0 c.entry-item.result.place c.first_of-first.result p
    c.requires.own entry.known entry.place c.first_of-first.ensures some).possible

pub loop-entry-preserved : goal.loop-entry-preserved
loop-entry-preserved c =
    let s = c.args.draft.now.snapshot in
    let entry : IsEntry s c.entry-item.result =
    subst (IsEntry s) (sym c.entry-item.is) (c.requires.entries c.loop-entry.entry-index c.entry-item.result c.loop-entry-test.true) in
    let adds : AddsFirst s c.loop-entry.draft.placed c.first_of-first.result true c.add_first.new.draft.placed
    = subst (λ (p : Parts). AddsFirst p c.loop-entry.draft.placed c.first_of-first.result true c.add_first.new.draft.placed)
    c.loop-entry.invariant.same (rw c.if-not-add_first.false at c.add_first.ensures.adds)
    in
    record {
      same = c.add_first.ensures.same ∙ c.loop-entry.invariant.same;
      count = c.loop-entry.invariant.count;
      grown = grown_more c.args.draft.now.placed c.loop-entry.draft.placed c.add_first.new.draft.placed c.args.entries.now c.loop-entry.entry-index
          c.entry-item.result adds.0 c.loop-entry-test.true c.entry-item.is
          (own_read s c.args.firsts.now c.entry-item.result.request.0 c.entry-item.result.place c.first_of-first.result adds.0 c.requires.own
          entry.known entry.place c.first_of-first.ensures adds.1).request adds.3 c.loop-entry.invariant.grown;
      added = λ starts are. added_more s starts c.args.draft.now.placed c.loop-entry.draft.placed c.add_first.new.draft.placed c.args.entries.now
          c.loop-entry.entry-index c.entry-item.result c.first_of-first.result c.loop-entry-test.true c.entry-item.is
          (first_read s starts c.args.firsts.now c.entry-item.result.request.0 c.entry-item.result.place c.first_of-first.result are entry.known
          entry.place c.first_of-first.ensures) adds (c.loop-entry.invariant.added starts are);
    }

pub truncate-requires : goal.truncate-requires
truncate-requires c =
    let none : AddsFirst c.loop-entry.draft.snapshot c.loop-entry.draft.placed c.first_of-first.result false c.add_first.new.draft.placed =
    rw c.if-not-add_first.true at c.add_first.ensures.adds in
    let same : length c.add_first.new.draft.placed ≡ length c.loop-entry.draft.placed = ap (λ (xs : List Placement). length xs) none.1 in
    let fits = c.loop-entry.invariant.grown.fits in
    let also = c.loop-entry.invariant.count in
    omega arith

pub returns-then-not-add_first-clause-same : goal.returns-then-not-add_first-clause-same
returns-then-not-add_first-clause-same c = ap (λ (b : Building). b.snapshot) c.truncate.ensures ∙ c.add_first.ensures.same ∙ c.loop-entry.invariant.same

pub returns-then-not-add_first-clause-placed : goal.returns-then-not-add_first-clause-placed
returns-then-not-add_first-clause-placed c =
    let none : AddsFirst c.loop-entry.draft.snapshot c.loop-entry.draft.placed c.first_of-first.result false c.add_first.new.draft.placed =
    rw c.if-not-add_first.true at c.add_first.ensures.adds in
    inr (left_over _ _ _ _ _ (ap (λ (b : Building). b.placed) c.truncate.ensures) none.1 c.loop-entry.invariant.count c.loop-entry.invariant.grown.front)

pub returns-then-not-add_first-clause-adds : goal.returns-then-not-add_first-clause-adds
returns-then-not-add_first-clause-adds c = λ starts are.
    let s = c.args.draft.now.snapshot in
    let entry : IsEntry s c.entry-item.result =
    subst (IsEntry s) (sym c.entry-item.is) (c.requires.entries c.loop-entry.entry-index c.entry-item.result c.loop-entry-test.true) in
    let none : AddsFirst s c.loop-entry.draft.placed c.first_of-first.result false c.add_first.new.draft.placed
    = subst (λ (p : Parts). AddsFirst p c.loop-entry.draft.placed c.first_of-first.result false c.add_first.new.draft.placed)
    c.loop-entry.invariant.same (rw c.if-not-add_first.true at c.add_first.ensures.adds)
    in
    let left : c.truncate.new.self.placed ≡ c.args.draft.now.placed =
    left_over _ _ _ _ _ (ap (λ (b : Building). b.placed) c.truncate.ensures) none.1 c.loop-entry.invariant.count
    c.loop-entry.invariant.grown.front in
    subst (AddsAllOrNone s starts c.args.draft.now.placed (numbers_of c.args.entries.now)) (sym left)
    (added_not s starts c.args.draft.now.placed c.loop-entry.draft.placed c.add_first.new.draft.placed c.args.entries.now c.loop-entry.entry-index
    c.entry-item.result c.first_of-first.result c.loop-entry-test.true c.entry-item.is
    (first_read s starts c.args.firsts.now c.entry-item.result.request.0 c.entry-item.result.place c.first_of-first.result are entry.known entry.place
    c.first_of-first.ensures) none (c.loop-entry.invariant.added starts are))

pub returns-clause-placed : goal.returns-clause-placed
returns-clause-placed c = grown_all c.args.draft.now.snapshot c.args.draft.now.placed c.loop-entry.draft.placed c.args.entries.now
    c.loop-entry.entry-index (omega arith)
    (subst (λ (p : Parts). IsFeasibleSoFar p c.loop-entry.draft.placed) c.loop-entry.invariant.same c.recall.ensures.so_far) c.loop-entry.invariant.grown

pub returns-clause-adds : goal.returns-clause-adds
returns-clause-adds c = λ starts are. added_all c.args.draft.now.snapshot starts c.args.draft.now.placed c.loop-entry.draft.placed c.args.entries.now
    c.loop-entry.entry-index (omega arith) (c.loop-entry.invariant.added starts are)
