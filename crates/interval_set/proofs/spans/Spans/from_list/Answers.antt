use Rattle.std.proofs.Common.{sym, ◌∙◌, rules}
use Rattle.std.specs.Prelude.{List}
use Rattle.std.proofs.lemmas.List.Sorted.{IsNonDecreasingBy-from_sort_by_key, list_any-IsPermutation}
use Rattle.std.proofs.lemmas.Result.{IfOk-weaker}
use Rattle.plan_base.specs.declared.span.Span.{Span}
use Rattle.interval_set.specs.Spans.{span_has, has, IsSetOf, IsUnion}
use Rattle.interval_set.proofs.spans.Spans.from_list.Goals as goal

pub with_later-requires-clause-order : goal.with_later-requires-clause-order
with_later-requires-clause-order c =
    rw c.as_slice.ensures.value (IsNonDecreasingBy-from_sort_by_key (λ (s : Span). s.from.0) _ c.sort_unstable_by_key.ensures.sorted
    (λ a r f called. search rules))

pub returns : goal.returns
returns c =
    let sorted : List Span = c.as_slice.result.now in
    let same = rw (← c.as_slice.ensures.value, c.in_ok-sorted.ensures.items) at c.sort_unstable_by_key.ensures.permutation in
    IfOk-weaker _ (IsUnion c.empty.result sorted) (IsSetOf (has c.args.list.now))
    (λ set union. record {
      seconds = λ x. union.seconds x
          ∙ rw c.empty.ensures (sym (list_any-IsPermutation (λ s. span_has s x) c.args.list.now sorted same));
      sorted = union.sorted;
    })
    c.with_later.ensures
