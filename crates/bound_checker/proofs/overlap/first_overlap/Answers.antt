use Rattle.std.proofs.Common.{◌≡◌, ◌≤◌, ◌<◌, ℕ, Bool, List, false, true, slice_index_or, sym, ◌∙◌, ap, subst, arith}
use Rattle.std.proofs.lemmas.Grind.{common_steps}
use Rattle.bound_checker.proofs.SlotFlags.{flags_more, first_sharing, disjoint_from_flags}
use Rattle.bound_checker.proofs.overlap.first_overlap.Goals as goal

pub returns-then-not-are_clear : goal.returns-then-not-are_clear
returns-then-not-are_clear c =
    let found = c.are_clear.ensures.taken c.if-not-are_clear.true in
    first_sharing c.args.snapshot.now c.args.plan.now c.loop-index.index c.loop-index.occupied.items c.slots_of-slots.result c.requires
    c.loop-index-test.true c.loop-index.invariant c.slots_of-slots.ensures found.0 found.1 found.2
    (ap (λ (xs : List Bool). slice_index_or xs found.0 false) (sym c.as_slice.ensures.value) ∙ found.3)

pub loop-index-preserved : goal.loop-index-preserved
loop-index-preserved c =
    flags_more c.args.snapshot.now c.args.plan.now c.loop-index.index c.loop-index.occupied.items c.slots_of-slots.result c.requires
    c.loop-index-test.true c.loop-index.invariant c.slots_of-slots.ensures c.occupy.new.flags.items
    (λ k a b. ap (λ (xs : List Bool). slice_index_or xs k false) (sym c.as_slice.ensures.value)
    ∙ c.are_clear.ensures.clear c.if-not-are_clear.false k a b) c.occupy.ensures.count c.occupy.ensures.set

pub returns : goal.returns
returns c = disjoint_from_flags c.args.snapshot.now c.args.plan.now c.loop-index.index c.loop-index.occupied.items c.requires
    (omega arith) c.loop-index.invariant

pub loop-index-init : goal.loop-index-init
loop-index-init c = grind (arith, common_steps)
