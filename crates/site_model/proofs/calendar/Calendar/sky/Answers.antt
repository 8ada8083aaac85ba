use Rattle.std.proofs.Common.{◌≤◌, List, [], Option, length, sym, subst}
use Rattle.std.specs.Option.{unwrap_or}
use Rattle.plan_base.specs.declared.span.Span.{Span}
use Rattle.plan_base.specs.Limits.{most_spans}
use Rattle.site_model.proofs.Skies.{sky_few}
use Rattle.site_model.proofs.calendar.Calendar.sky.Goals as goal

pub returns-in-Some-clause-few : goal.returns-in-Some-clause-few
returns-in-Some-clause-few c =
    subst (λ (o : Option (List Span)). length (unwrap_or o []) ≤ most_spans) (sym c.in-Some.ensures.value)
    (sky_few c.self.inside.skies.entries c.args.key most_spans c.self.invariant.limits.skies)
