-- How a calendar keeps its sets.
use Rattle.std.specs.Prelude.{◌≡◌, [], length}
use Rattle.site_model.specs.declared.calendar.Calendar.TheInside.{Inside}
use Rattle.plan_base.specs.Limits.{most_telescopes}
use Rattle.site_model.specs.Limits.{most_sites}
use Rattle.site_model.specs.Calendar.{CalendarSeen, pieces_of, IsWithinLimits}

-- what is seen of the fields
abbrev pub seen_calendar : Inside → CalendarSeen
seen_calendar a = record { nights = a.nights.items; closures = a.closures.items; skies = a.skies.entries }

-- there is a set for each number, the pieces are counted, and no limit is passed
pub record IsCalendar (a : Inside) : Type 0 where
  pub nights : length a.nights.items ≡ most_sites
  pub closures : length a.closures.items ≡ most_telescopes
  pub pieces : a.pieces ≡ pieces_of a.skies.entries
  pub limits : IsWithinLimits (seen_calendar a)
  pub nothing : a.nothing ≡ []
