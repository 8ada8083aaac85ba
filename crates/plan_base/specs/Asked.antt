-- What is known of the numbers of a request.
use Rattle.std.specs.Prelude.{◌≤◌, All}
use Rattle.plan_base.specs.declared.parts.RequestPart.{RequestPart}
use Rattle.plan_base.specs.Limits.{most_seconds, most_value, most_fade}
use Rattle.plan_base.specs.Snapshot.{IsMoment}

-- the numbers of the request are in their ranges
pub record IsAsked (q : RequestPart) : Type 0 where
  pub seconds_least : 1 ≤ q.seconds
  pub seconds_most : q.seconds ≤ most_seconds
  pub value : q.value ≤ most_value
  pub fade : q.fade ≤ most_fade
  pub moments : All (λ w. IsMoment w.from.0 × IsMoment w.to.0) q.windows
