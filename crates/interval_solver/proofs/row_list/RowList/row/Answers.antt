use Rattle.std.proofs.Common.{rules, ◌≡◌, ◌+◌, ◌<◌, ℕ, List, length, slice_range, ap, subst, sym, ◌∙◌, arith}
use Rattle.std.specs.Prelude.{slice_index}
use Rattle.interval_solver.specs.declared.start.Start.{Start}
use Rattle.plan_base.specs.Tables.{row}
use Rattle.interval_solver.specs.RowLists.{rows_of, AreBounds}
use Rattle.interval_solver.proofs.Bounds.{length-rows_of, row-rows_of, rising}
use Rattle.interval_solver.proofs.row_list.RowList.row.Goals as goal

-- a place of a row has a bound after it
bound_after : (starts : List Start) (bounds read : List ℕ) (rows : List (List Start)) (k : ℕ) → AreBounds starts bounds → rows_of starts bounds ≡ rows
    → read ≡ bounds → k < length rows → k + 1 < length read
bound_after starts bounds read rows k h e r l =
    let long = length-rows_of starts bounds h in
    let same : length (rows_of starts bounds) ≡ length rows = ap (λ (x : List (List Start)). length x) e in
    let as_read : length read ≡ length bounds = ap (λ (x : List ℕ). length x) r in
    omega (arith, long, same, as_read)

pub bounds-bounds-place : goal.bounds-bounds-place
bounds-bounds-place c = omega (
  arith,
  bound_after c.self.inside.starts.items c.self.inside.bounds.items c.as_slice-bounds.result.now c.args.self.now c.args.place c.self.invariant
      c.self.view_is c.as_slice-bounds.ensures.value c.requires,
)

pub offset_bounds-bounds-place : goal.offset_bounds-bounds-place
offset_bounds-bounds-place c = let l =
    bound_after c.self.inside.starts.items c.self.inside.bounds.items c.as_slice-bounds.result.now c.args.self.now c.args.place c.self.invariant
    c.self.view_is c.as_slice-bounds.ensures.value c.requires in search rules

pub overflow_add-place : goal.overflow_add-place
overflow_add-place c = let l = bound_after c.self.inside.starts.items c.self.inside.bounds.items c.as_slice-bounds.result.now c.args.self.now
    c.args.place c.self.invariant c.self.view_is c.as_slice-bounds.ensures.value c.requires in search rules

pub bounds-bounds-place-2 : goal.bounds-bounds-place-2
bounds-bounds-place-2 c = bound_after c.self.inside.starts.items c.self.inside.bounds.items c.as_slice-bounds.result.now c.args.self.now c.args.place
    c.self.invariant c.self.view_is c.as_slice-bounds.ensures.value c.requires

pub offset_bounds-bounds-place-2 : goal.offset_bounds-bounds-place-2
offset_bounds-bounds-place-2 c = let l =
    bound_after c.self.inside.starts.items c.self.inside.bounds.items c.as_slice-bounds.result.now c.args.self.now c.args.place c.self.invariant
    c.self.view_is c.as_slice-bounds.ensures.value c.requires in search rules

pub part-requires-clause-order : goal.part-requires-clause-order
part-requires-clause-order c =
    let l = bound_after c.self.inside.starts.items c.self.inside.bounds.items c.as_slice-bounds.result.now c.args.self.now c.args.place
    c.self.invariant c.self.view_is c.as_slice-bounds.ensures.value c.requires in
    (rising c.self.inside.starts.items c.as_slice-bounds.result.now c.args.place
    (subst (AreBounds c.self.inside.starts.items) (sym c.as_slice-bounds.ensures.value) c.self.invariant) l).0

pub part-requires-clause-within : goal.part-requires-clause-within
part-requires-clause-within c =
    let l = bound_after c.self.inside.starts.items c.self.inside.bounds.items c.as_slice-bounds.result.now c.args.self.now c.args.place
    c.self.invariant c.self.view_is c.as_slice-bounds.ensures.value c.requires in
    rw c.as_slice.ensures.value ((rising c.self.inside.starts.items c.as_slice-bounds.result.now c.args.place
    (subst (AreBounds c.self.inside.starts.items) (sym c.as_slice-bounds.ensures.value) c.self.invariant) l).1)

pub returns : goal.returns
returns c =
    let l = bound_after c.self.inside.starts.items c.self.inside.bounds.items c.as_slice-bounds.result.now c.args.self.now c.args.place
    c.self.invariant c.self.view_is c.as_slice-bounds.ensures.value c.requires in
    c.part.ensures
    ∙ ap (λ (xs : List Start). slice_range xs (slice_index c.as_slice-bounds.result.now c.args.place)
    (slice_index c.as_slice-bounds.result.now (c.args.place + 1))) c.as_slice.ensures.value
    ∙ sym (row-rows_of c.self.inside.starts.items c.as_slice-bounds.result.now c.args.place l)
    ∙ ap (λ (bs : List ℕ). row (rows_of c.self.inside.starts.items bs) c.args.place) c.as_slice-bounds.ensures.value
    ∙ ap (λ (rows : List (List Start)). row rows c.args.place) c.self.view_is
