use Rattle.std.proofs.Common.{◌≡◌, ℕ, ◌+◌, List, [], ◌∷◌, ◌++◌, length, sym, ◌∙◌, ap, subst}
use Rattle.std.proofs.lemmas.List.{length-append}
use Rattle.interval_solver.specs.declared.start.Start.{Start}
use Rattle.interval_solver.specs.RowLists.{rows_of, AreBounds}
use Rattle.interval_solver.proofs.Bounds.{rows_of-push, AreBounds-push}
use Rattle.interval_solver.proofs.row_list.RowList.push.Goals as goal

pub invariant_of-self-2 : goal.invariant_of-self-2
invariant_of-self-2 c =
    let starts : c.extend_from_slice.new.self.items ≡ c.self.inside.starts.items ++ c.args.row.now = c.in_ok-extend_from_slice.ensures.items in
    let bounds : c.push_reserved.new.self.items ≡ c.self.inside.bounds.items ++ length c.as_slice-end.result.now ∷ [] = c.push_reserved.ensures.items
    ∙ ap (λ (bs : List ℕ). bs ++ length c.as_slice-end.result.now ∷ []) c.in_ok-reserve.ensures.items in
    let end : length c.as_slice-end.result.now ≡ length c.self.inside.starts.items + length c.args.row.now =
    ap length (c.as_slice-end.ensures.value ∙ starts) ∙ length-append c.self.inside.starts.items c.args.row.now in
    subst (λ (xs : List Start). AreBounds xs c.push_reserved.new.self.items) (sym starts)
    (subst (AreBounds (c.self.inside.starts.items ++ c.args.row.now)) (sym bounds)
    (AreBounds-push c.self.inside.starts.items c.args.row.now c.self.inside.bounds.items (length c.as_slice-end.result.now) c.self.invariant end))

pub returns : goal.returns
returns c =
    let starts : c.extend_from_slice.new.self.items ≡ c.self.inside.starts.items ++ c.args.row.now = c.in_ok-extend_from_slice.ensures.items in
    let bounds : c.push_reserved.new.self.items ≡ c.self.inside.bounds.items ++ length c.as_slice-end.result.now ∷ [] = c.push_reserved.ensures.items
    ∙ ap (λ (bs : List ℕ). bs ++ length c.as_slice-end.result.now ∷ []) c.in_ok-reserve.ensures.items in
    let end : length c.as_slice-end.result.now ≡ length c.self.inside.starts.items + length c.args.row.now =
    ap length (c.as_slice-end.ensures.value ∙ starts) ∙ length-append c.self.inside.starts.items c.args.row.now in
    ap (λ (xs : List Start). rows_of xs c.push_reserved.new.self.items) starts
    ∙ ap (rows_of (c.self.inside.starts.items ++ c.args.row.now)) bounds
    ∙ rows_of-push c.self.inside.starts.items c.args.row.now c.self.inside.bounds.items (length c.as_slice-end.result.now) c.self.invariant end
    ∙ ap (λ (rows : List (List Start)). rows ++ c.args.row.now ∷ []) c.self.view_is
