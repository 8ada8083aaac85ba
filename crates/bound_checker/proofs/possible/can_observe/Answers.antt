use Rattle.std.proofs.Common.{◌≡◌, List, ℕ, sym, ◌∙◌, ap, subst, slice_index_or, false, true, arith}
use Rattle.std.proofs.lemmas.Grind.{common_steps}
use Rattle.plan_base.specs.declared.parts.TelescopePart.{TelescopePart}
use Rattle.plan_base.specs.Snapshot.{IsSortedApart}
use Rattle.bound_checker.proofs.PossibleStarts.{LooksAt, observe_when, window_when, usable_when, visible_when}
use Rattle.bound_checker.proofs.possible.can_observe.Goals as goal

pub has_all_sorted-requires : goal.has_all_sorted-requires
has_all_sorted-requires c =
    let part : TelescopePart = c.index-as_slice-from.result in
    let at : part ≡ slice_index_or c.args.parts.now.telescopes c.args.telescope.0 part
    = c.index-as_slice-from.is ∙ ap (λ (ys : List TelescopePart). slice_index_or ys c.from.result part) c.as_slice.ensures
    ∙ ap (λ (k : ℕ). slice_index_or c.args.parts.now.telescopes k part) c.from.ensures in
    subst IsSortedApart (sym c.as_slice-3.ensures)
    (subst (λ (y : TelescopePart). IsSortedApart y.usable) (sym at) (c.requires.orderly.usable c.args.telescope.0 part c.requires.telescope))

pub returns : goal.returns
returns c =
    let s = c.args.parts.now in
    let q = c.args.request.now in
    let t : ℕ = c.args.telescope.0 in
    let part : TelescopePart = c.index-as_slice-from.result in
    let at : part ≡ slice_index_or s.telescopes t part
    = c.index-as_slice-from.is ∙ ap (λ (ys : List TelescopePart). slice_index_or ys c.from.result part) c.as_slice.ensures
    ∙ ap (λ (k : ℕ). slice_index_or s.telescopes k part) c.from.ensures
    in
    let looks : LooksAt s q t part c.as_slice-2.result.now c.as_slice-3.result.now c.as_slice-4.result.now = record {
      windows_are = c.as_slice-2.ensures;
      usable_are = c.as_slice-3.ensures;
      part_is = at;
      within = c.requires.telescope;
      targets_are = c.as_slice-4.ensures;
    } in (
      λ yes.
          observe_when s q t part c.as_slice-2.result.now c.as_slice-3.result.now c.as_slice-4.result.now c.args.observed.from.0 c.args.observed.to.0
          looks (c.has_all.ensures.0 c.if-not-has_all.false)
          (c.has_all_sorted.ensures.0 c.if-not-has_all_sorted.false) (c.are_visible.ensures.0 yes),
      λ h. c.are_visible.ensures.1 (visible_when s q t part c.as_slice-2.result.now c.as_slice-3.result.now c.as_slice-4.result.now
          c.args.observed.from.0 c.args.observed.to.0 looks h),
    )

pub returns-then-not-has_all_sorted : goal.returns-then-not-has_all_sorted
returns-then-not-has_all_sorted c = grind (arith, common_steps)
