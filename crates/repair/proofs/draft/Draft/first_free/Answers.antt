use Rattle.std.proofs.Common.{◌≡◌, ◌*◌, ◌∙◌, sym, ap, subst, arith, ℕ, List, length}
use Rattle.plan_base.specs.declared.parts.Parts.{Parts}
use Rattle.groups.specs.Building.{Building}
use Rattle.repair.specs.Marks.{AreMarks}
use Rattle.repair.proofs.Marked.{marks_skip}
use Rattle.repair.proofs.Drafting.{run_within, none_before, first_before}
use Rattle.repair.proofs.draft.Draft.first_free.Goals as goal

pub overflow_add-run : goal.overflow_add-run
overflow_add-run c = let w = run_within c.args.self.now.snapshot c.args.run c.recall.ensures.orderly c.requires.run in omega arith

pub overflow_sub-from : goal.overflow_sub-from
overflow_sub-from c =
    let w = run_within c.args.self.now.snapshot c.args.run c.recall.ensures.orderly c.requires.run in
    let at : c.parts.result.now.first.0 ≡ c.args.self.now.snapshot.first.0 =
    ap (λ (s : Parts). s.first.0) (c.parts.ensures.value ∙ sym c.self.invariant.snapshot ∙ ap (λ (b : Building). b.snapshot) c.self.view_is) in
    omega arith

pub overflow_sub-end : goal.overflow_sub-end
overflow_sub-end c =
    let w = run_within c.args.self.now.snapshot c.args.run c.recall.ensures.orderly c.requires.run in
    let at : c.parts.result.now.first.0 ≡ c.args.self.now.snapshot.first.0 =
    ap (λ (s : Parts). s.first.0) (c.parts.ensures.value ∙ sym c.self.invariant.snapshot ∙ ap (λ (b : Building). b.snapshot) c.self.view_is) in
    omega arith

pub first_clear-requires-clause-size : goal.first_clear-requires-clause-size
first_clear-requires-clause-size c = let w = run_within c.args.self.now.snapshot c.args.run c.recall.ensures.orderly c.requires.run in
    let is = c.requires.size in omega arith

pub first_clear-requires-clause-within : goal.first_clear-requires-clause-within
first_clear-requires-clause-within c =
    let v = c.args.self.now in
    let w = run_within v.snapshot c.args.run c.recall.ensures.orderly c.requires.run in
    let same : c.self.inside.snapshot.now ≡ v.snapshot = sym c.self.invariant.snapshot ∙ ap (λ (b : Building). b.snapshot) c.self.view_is in
    let first : c.parts.result.now.first.0 ≡ v.snapshot.first.0 = ap (λ (s : Parts). s.first.0) (c.parts.ensures.value ∙ same) in
    let row : c.from.result * c.parts-2.result.now.slices ≡ c.args.run.telescope.0 * v.snapshot.slices =
    ap (λ n. n * c.parts-2.result.now.slices) c.from.ensures
    ∙ ap (λ (s : Parts). c.args.run.telescope.0 * s.slices) (c.parts-2.ensures.value ∙ same) in
    let count : length c.self.inside.marks.items ≡ length v.snapshot.telescopes * v.snapshot.slices = c.self.invariant.marks.count
    ∙ ap (λ (s : Parts). length s.telescopes * s.slices) same in
    let items : length c.as_slice.result.now ≡ length c.self.inside.marks.items = ap (λ (xs : List ℕ). length xs) c.as_slice.ensures.value in
    let size = c.requires.size in
    omega arith

pub first_clear-requires-clause-skips : goal.first_clear-requires-clause-skips
first_clear-requires-clause-skips c =
    rw c.as_slice.ensures.value (marks_skip c.self.inside.snapshot.now c.self.inside.build.placed c.self.inside.marks.items c.self.invariant.marks)

pub returns-in-Some : goal.returns-in-Some
returns-in-Some c =
    let v = c.args.self.now in
    let same : c.self.inside.snapshot.now ≡ v.snapshot = sym c.self.invariant.snapshot ∙ ap (λ (b : Building). b.snapshot) c.self.view_is in
    let marks : AreMarks v.snapshot v.placed c.as_slice.result.now =
    rw c.as_slice.ensures.value (subst (λ (s : Parts). AreMarks s v.placed c.self.inside.marks.items) same
    (subst (λ (b : Building). AreMarks c.self.inside.snapshot.now b.placed c.self.inside.marks.items) c.self.view_is c.self.invariant.marks)) in
    first_before v.snapshot v.placed c.as_slice.result.now c.args.run c.args.size c.args.before c.min-to.result
    (c.from.result * c.parts-2.result.now.slices) c.parts.result.now.first.0 c.in-Some.slot c.recall.ensures.so_far marks
    (run_within v.snapshot c.args.run c.recall.ensures.orderly c.requires.run) c.requires.run c.requires.size
    (ap (λ n. n * c.parts-2.result.now.slices) c.from.ensures
    ∙ ap (λ (s : Parts). c.args.run.telescope.0 * s.slices) (c.parts-2.ensures.value ∙ same))
    (ap (λ (s : Parts). s.first.0) (c.parts.ensures.value ∙ same)) c.min-to.ensures c.in-Some.ensures

pub returns-in-None : goal.returns-in-None
returns-in-None c =
    let v = c.args.self.now in
    let same : c.self.inside.snapshot.now ≡ v.snapshot = sym c.self.invariant.snapshot ∙ ap (λ (b : Building). b.snapshot) c.self.view_is in
    let marks : AreMarks v.snapshot v.placed c.as_slice.result.now =
    rw c.as_slice.ensures.value (subst (λ (s : Parts). AreMarks s v.placed c.self.inside.marks.items) same
    (subst (λ (b : Building). AreMarks c.self.inside.snapshot.now b.placed c.self.inside.marks.items) c.self.view_is c.self.invariant.marks)) in
    none_before v.snapshot v.placed c.as_slice.result.now c.args.run c.args.size c.args.before c.min-to.result
    (c.from.result * c.parts-2.result.now.slices) c.parts.result.now.first.0 c.recall.ensures.so_far marks
    (run_within v.snapshot c.args.run c.recall.ensures.orderly c.requires.run) c.requires.run c.requires.size
    (ap (λ n. n * c.parts-2.result.now.slices) c.from.ensures
    ∙ ap (λ (s : Parts). c.args.run.telescope.0 * s.slices) (c.parts-2.ensures.value ∙ same))
    (ap (λ (s : Parts). s.first.0) (c.parts.ensures.value ∙ same)) c.min-to.ensures c.in-None.ensures
