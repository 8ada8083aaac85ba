use Rattle.std.proofs.Common.{◌≡◌, ◌<◌, ℕ, false, Some, length, slice_index_or, inl, inr, refl, sym, ap, ◌∙◌, arith}
use Rattle.std.proofs.lemmas.List.{get_or_default}
use Rattle.plan_base.specs.declared.number.RequestNo.{RequestNo}
use Rattle.plan_base.specs.Requests.{listed, place_of, IsKnown}
use Rattle.group_trees.proofs.Tallies.{IsBad, tally_set, tally_wrong}
use Rattle.group_trees.proofs.leaves.tally_leaf.Goals as goal
use Rattle.group_trees.proofs.leaves.tally_leaf.Goals.{in_default-via-in-Some+else-not-index, in_default-via-in_default}

pub returns-in-Some-clause-tally : goal.returns-in-Some-clause-tally
returns-in-Some-clause-tally c = λ rs h.
    let s = c.args.snapshot.now in
    let flags = c.args.tally.now.flags.items in
    let known : IsKnown s c.args.request.0 = c.in-Some.ensures.0 in
    let at : c.in-Some.place ≡ place_of s c.args.request.0 = c.in-Some.ensures.1 in
    let count : length flags ≡ length (listed s) = c.requires in
    let within : c.in-Some.place < length flags = omega arith in
    tally_set s rs c.args.request.0 c.in-Some.place c.args.tally.now _ known at (get_or_default flags c.in-Some.place false c.index.result.now within
    ∙ sym c.index.ensures ∙ c.if-not-index.true) refl refl h

pub returns-in_default-clause-tally : goal.returns-in_default-clause-tally
returns-in_default-clause-tally c = λ rs h.
    let s = c.args.snapshot.now in
    let flags = c.args.tally.now.flags.items in
    let bad : IsBad s rs c.args.request.0 flags = elim c.in_default.branch [
      | in_default-via-in-Some+else-not-index w ↦
          let known : IsKnown s c.args.request.0 = w.in-Some.ensures.0 in
          let at : w.in-Some.place ≡ place_of s c.args.request.0 = w.in-Some.ensures.1 in
          let count : length flags ≡ length (listed s) = c.requires in
          let within : w.in-Some.place < length flags = omega arith in
          inr (ap (λ (k : ℕ). slice_index_or flags k false) (sym at) ∙ get_or_default flags w.in-Some.place false w.index.result.now within
          ∙ sym w.index.ensures ∙ w.if-not-index.false)
      | in_default-via-in_default w ↦ inl w.in_default.ensures
    ] in
    tally_wrong s rs c.args.request.0 c.args.tally.now _ c.args.request refl bad refl (ap (λ (x : RequestNo). Some x) c.lesser.ensures) h
