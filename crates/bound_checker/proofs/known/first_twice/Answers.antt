use Rattle.std.proofs.Common.{◌+◌, ◌<◌, List, length, ◌≡◌, false, slice_index_or, arith, subst, ap, sym, ◌∙◌, Bool, ℕ, slice_set, true}
use Rattle.std.proofs.lemmas.List.{get_or_default}
use Rattle.bound_checker.proofs.Marks.{AreMarks, mark_of, marks_none, marks_more, first_marked, once_marked}
use Rattle.bound_checker.proofs.known.first_twice.Goals as goal

-- the flag that was read is the one at the place
flag_there : (marks : List Bool) (k i : ℕ) (b v : Bool) → i < length marks → i ≡ k → b ≡ slice_index_or marks i b → b ≡ v → slice_index_or marks k false ≡ v
flag_there marks k i b v l e read h = ap (λ (j : ℕ). slice_index_or marks j false) (sym e) ∙ get_or_default marks i false b l ∙ sym read ∙ h

pub returns-then-index : goal.returns-then-index
returns-then-index c = first_marked c.args.snapshot.now c.args.plan.now c.loop-index.index c.loop-index.placed.items c.requires
    (omega arith) c.loop-index.invariant
    (flag_there c.loop-index.placed.items (mark_of c.args.snapshot.now c.args.plan.now c.loop-index.index) c.known_place-place.result
    c.index.result.now true (omega arith) c.known_place-place.ensures.value c.index.ensures c.if-index.true)

pub loop-index-preserved : goal.loop-index-preserved
loop-index-preserved c =
    subst (λ (k : ℕ). AreMarks c.args.snapshot.now c.args.plan.now (c.loop-index.index + 1) (slice_set c.loop-index.placed.items k true))
    (sym c.known_place-place.ensures.value)
    (marks_more c.args.snapshot.now c.args.plan.now c.loop-index.index c.loop-index.placed.items c.requires (omega arith) c.loop-index.invariant
    (flag_there c.loop-index.placed.items (mark_of c.args.snapshot.now c.args.plan.now c.loop-index.index) c.known_place-place.result
    c.index.result.now false (omega arith) c.known_place-place.ensures.value c.index.ensures c.if-index.false))

pub returns : goal.returns
returns c = once_marked c.args.snapshot.now c.args.plan.now c.loop-index.index c.loop-index.placed.items (omega arith) c.loop-index.invariant
