use Rattle.std.proofs.Common.{sym, ap, ◌∙◌, arith}
use Rattle.jiff_core.specs.Date.{epoch_day}
use Rattle.plan_json.proofs.Calendar.{epoch_day-later, day_in_word}
use Rattle.plan_json.proofs.moment.days_from_epoch.Goals as goal

pub overflow_cast-result : goal.overflow_cast-result
overflow_cast-result c =
    let later = epoch_day-later c.args.date c.requires in
    rw (day_in_word c.args.date _ (c.to_unix_epoch_day.ensures.value ∙ ap epoch_day c.to_plain.ensures) c.requires) (tt, omega (arith, later.1))

pub returns-clause-value : goal.returns-clause-value
returns-clause-value c =
    rw (day_in_word c.args.date _ (c.to_unix_epoch_day.ensures.value ∙ ap epoch_day c.to_plain.ensures) c.requires)
    (sym (epoch_day-later c.args.date c.requires).0)

pub returns-clause-small : goal.returns-clause-small
returns-clause-small c =
    rw (day_in_word c.args.date _ (c.to_unix_epoch_day.ensures.value ∙ ap epoch_day c.to_plain.ensures) c.requires) (epoch_day-later c.args.date c.requires).1
