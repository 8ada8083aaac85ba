-- Which groups have a document: their texts, numbers and counts are in the ranges in which they are read.
use Rattle.std.specs.Prelude.{◌≡◌, ◌<◌, ◌≤◌, List, length, All, IfSome, true}
use Rattle.plan_base.specs.Limits.{most_ms, most_period, most_exposures, most_configurations, most_windows}
use Rattle.plan_base.specs.Limits.{most_percent, most_fade, least_ipp, most_ipp, most_priority}
use Rattle.plan_base.specs.declared.span.Span.{Span}
use Rattle.plan_json.specs.Moment.{last_moment}
use Rattle.plan_json.specs.Ranges.{IsBetween, IsText}
use Rattle.request_model.specs.declared.group.GroupDoc.{GroupDoc}
use Rattle.request_model.specs.declared.request.Exposure.{Exposure}
use Rattle.request_model.specs.declared.request.ConfigDoc.{ConfigDoc}
use Rattle.request_model.specs.declared.request.Location.{Location}
use Rattle.request_model.specs.declared.request.Cadence.{Cadence}
use Rattle.request_model.specs.declared.request.When.{When}
use Rattle.request_model.specs.declared.request.When.TheVariants as when
use Rattle.request_model.specs.declared.request.RequestDoc.{RequestDoc}
use Rattle.request_model.specs.Group.{is_shape}

-- 1 to 10,000 exposures of 1 to 86,400,000 milliseconds each
pub record IsExposure (e : Exposure) : Type 0 where
  pub time : IsBetween 1 most_ms e.ms
  pub number : IsBetween 1 most_exposures e.count

-- the target's name has 1 to 128 bytes, and there are 1 to 16 lengths of exposures, each in its ranges
pub record IsConfiguration (c : ConfigDoc) : Type 0 where
  pub name : IsText c.target
  pub count : IsBetween 1 most_configurations (length c.exposures)
  pub each : All IsExposure c.exposures

-- 1 to 16, each in its ranges
pub record AreConfigurations (cs : List ConfigDoc) : Type 0 where
  pub count : IsBetween 1 most_configurations (length cs)
  pub each : All IsConfiguration cs

-- the class has 1 to 128 bytes, and so have the site, the enclosure and the telescope where they are named
pub record IsLocation (l : Location) : Type 0 where
  pub of_class : IsText l.class
  pub at_site : IfSome l.site IsText
  pub in_enclosure : IfSome l.enclosure IsText
  pub on_telescope : IfSome l.telescope IsText

-- start and end are at most the last second of the year 9999, period and jitter at most 15,552,000 seconds, in any relation to one another
pub record IsCadence (c : Cadence) : Type 0 where
  pub first : c.start.0 ≤ last_moment
  pub last : c.end.0 ≤ last_moment
  pub apart : c.period ≤ most_period
  pub round : c.jitter ≤ most_period

-- the window has a second
pub record IsWindow (w : Span) : Type 0 where
  pub order : w.from.0 < w.to.0
  pub last : w.to.0 ≤ last_moment

-- 1 to 32 windows, each with a second, in any order
pub record AreWindows (ws : List Span) : Type 0 where
  pub count : IsBetween 1 most_windows (length ws)
  pub each : All IsWindow ws

-- a cadence in its ranges, or windows in theirs
abbrev pub IsWhen : When → Type 0
IsWhen (when.Cadence c) = IsCadence c
IsWhen (when.Windows ws) = AreWindows ws

-- location, times and configurations are in their ranges, the threshold is at most 100 percent, and the fade at most 1,000 thousandths
pub record IsRequest (r : RequestDoc) : Type 0 where
  pub place : IsLocation r.location
  pub times : IsWhen r.when
  pub type : IsText r.instrument
  pub taken : AreConfigurations r.configurations
  pub least : r.threshold ≤ most_percent
  pub lost : r.fade ≤ most_fade

-- texts, ipp and priority are in their ranges, and the operator may have so many requests, each of which is in its ranges
pub record IsGroup (g : GroupDoc) : Type 0 where
  pub title : IsText g.name
  pub payer : IsText g.proposal
  pub share : IsBetween least_ipp most_ipp g.ipp
  pub rank : IsBetween 1 most_priority g.priority
  pub shape : is_shape g.op (length g.requests) ≡ true
  pub each : All IsRequest g.requests
