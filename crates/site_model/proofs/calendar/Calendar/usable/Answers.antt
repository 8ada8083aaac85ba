use Rattle.std.proofs.Common.{◌≤◌, List, length, sym, subst, arith}
use Rattle.std.proofs.lemmas.Result.{IfOk-weaker}
use Rattle.plan_base.specs.declared.span.Span.{Span}
use Rattle.interval_set.proofs.Counts.{difference_is_no_longer}
use Rattle.plan_base.specs.Limits.{most_spans}
use Rattle.site_model.specs.Limits.{most_closures}
use Rattle.site_model.proofs.calendar.Calendar.usable.Goals as goal

pub returns-clause-few : goal.returns-clause-few
returns-clause-few c =
    let night : List Span = c.index-night.result.now in
    let closed : List Span = c.index.result.now in
    let few_spans : length night ≤ most_spans = subst (λ (s : List Span). length s ≤ most_spans) (sym c.index-night.ensures)
    (c.self.invariant.limits.nights c.args.site.0 night (omega (arith, c.self.invariant.nights, c.requires.site))) in
    let few_closures : length closed ≤ most_closures = subst (λ (s : List Span). length s ≤ most_closures) (sym c.index.ensures)
    (c.self.invariant.limits.closures c.args.telescope.0 closed (omega (arith, c.self.invariant.closures, c.requires.telescope))) in
    IfOk-weaker c.minus.result _ _ (λ usable is. omega (arith, difference_is_no_longer night closed usable is, few_spans, few_closures)) c.minus.ensures
