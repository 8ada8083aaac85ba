-- The ranges of what is read: each command's texts, numbers, spans and counts.
use Rattle.std.specs.Prelude.{◌≡◌, ℕ, ◌≤◌, List, [], length, All, Option, IfSome, ⊤}
use Rattle.plan_base.specs.Limits.{most_version, least_len, most_len, most_slices, most_quota, most_seconds, most_ms}
use Rattle.plan_base.specs.Limits.{most_lanes, most_rounds, most_workers, most_carried, most_spans, most_grant, most_percent}
use Rattle.plan_base.specs.declared.claim.Claim.{Claim}
use Rattle.plan_base.specs.declared.number.Sec.{Sec}
use Rattle.plan_base.specs.declared.span.Span.{Span}
use Rattle.plan_json.specs.Moment.{last_moment}
use Rattle.plan_json.specs.Ranges.{IsBetween, IsText}
use Rattle.request_model.specs.Ranges.{IsWindow, IsGroup}
use Rattle.allocations.specs.declared.key.Account.{Account}
use Rattle.allocations.specs.declared.key.Account.TheVariants as account
use Rattle.allocations.specs.declared.key.Key.{Key}
use Rattle.site_model.specs.declared.code.Scope.{Scope}
use Rattle.site_model.specs.declared.code.Scope.TheVariants as scope
use Rattle.desk_events.specs.declared.command.Command.{Command}
use Rattle.desk_events.specs.declared.command.Command.TheVariants as command
use Rattle.plan_doc.specs.Ranges.{IsClaim}

-- the moment is before the year 10000, the semester has a second, and slice, horizon, lanes, rounds, workers and quota are in their ranges
pub record IsOpening (now : Sec) (slice horizon : ℕ) (semester : Span) (lanes rounds workers : ℕ) (quota : Option ℕ) : Type 0 where
  pub moment : now.0 ≤ last_moment
  pub length_of_slice : IsBetween least_len most_len slice
  pub slices : IsBetween 1 most_slices horizon
  pub season : IsWindow semester
  pub sequences : IsBetween 1 most_lanes lanes
  pub turns : IsBetween 1 most_rounds rounds
  pub threads : IsBetween 1 most_workers workers
  pub share : IfSome quota (IsBetween 1 most_quota)

-- the name has 1 to 128 bytes, and each of the four overheads is at most 86,400,000 milliseconds, which is a day
pub record IsInstrument (name : List ℕ) (front config readout change : ℕ) : Type 0 where
  pub type : IsText name
  pub first : front ≤ most_ms
  pub each_configuration : config ≤ most_ms
  pub each_exposure : readout ≤ most_ms
  pub each_length : change ≤ most_ms

-- the texts have 1 to 128 bytes each, and the telescope carries 1 to 16 instrument types, which may repeat
pub record IsTelescope (site enclosure telescope class : List ℕ) (instruments : List (List ℕ)) : Type 0 where
  pub at_site : IsText site
  pub in_enclosure : IsText enclosure
  pub code : IsText telescope
  pub of_class : IsText class
  pub count : IsBetween 1 most_carried (length instruments)
  pub types : All IsText instruments

-- at most 512, each with a second
pub record AreSpans (spans : List Span) : Type 0 where
  pub count : length spans ≤ most_spans
  pub each : All IsWindow spans

-- the site's name has 1 to 128 bytes, and there are at most 512 spans, each with a second, in any order
pub record IsNight (site : List ℕ) (spans : List Span) : Type 0 where
  pub at_site : IsText site
  pub times : AreSpans spans

-- the names of target and site have 1 to 128 bytes, and there are at most 512 spans, each with a second, in any order
pub record IsSky (target site : List ℕ) (spans : List Span) : Type 0 where
  pub what : IsText target
  pub at_site : IsText site
  pub times : AreSpans spans

-- the names of site, enclosure and telescope have 1 to 128 bytes each
pub record IsCode (site enclosure telescope : List ℕ) : Type 0 where
  pub at_site : IsText site
  pub in_enclosure : IsText enclosure
  pub name : IsText telescope

-- the code of one telescope, or the name of a site, in its range
abbrev pub IsScope : Scope → Type 0
IsScope (scope.Telescope code) = IsCode code.site code.enclosure code.telescope
IsScope (scope.Site site) = IsText site

-- what `close` and `reopen` say: a telescope or a site, and at most 512 spans, each with a second
pub record IsClosure (place : Scope) (spans : List Span) : Type 0 where
  pub scope : IsScope place
  pub times : AreSpans spans

-- the account `ipp` is on no instrument type, the others each on one
abbrev pub IsInstrumentOf : Account → List ℕ → Type 0
IsInstrumentOf account.Standard instrument = IsText instrument
IsInstrumentOf account.TimeCritical instrument = IsText instrument
IsInstrumentOf account.RapidResponse instrument = IsText instrument
IsInstrumentOf account.Ipp instrument = instrument ≡ []

-- the proposal's name has 1 to 128 bytes, and so has the instrument type, except that it is empty for `ipp`
pub record IsKey (key : Key) : Type 0 where
  pub payer : IsText key.proposal
  pub type : IsInstrumentOf key.account key.instrument

-- the account's key is in its range, and it gets 1 to 10^9 seconds
pub record IsGrant (key : Key) (seconds : ℕ) : Type 0 where
  pub to : IsKey key
  pub amount : IsBetween 1 most_grant seconds

-- at most 100 percent were taken, in at most 86,400 seconds
pub record IsReport (percent used : ℕ) : Type 0 where
  pub part : percent ≤ most_percent
  pub time : used ≤ most_seconds

-- a version that a desk may have, and a claim that a document allows
pub record IsPublication (version : ℕ) (claim : Claim) : Type 0 where
  pub newest : version ≤ most_version
  pub what : IsClaim claim

-- what a command says is in the ranges of its members; nothing is asked of the numbers of groups and requests
abbrev pub IsCommand : Command → Type 0
IsCommand (command.Open now slice horizon semester lanes rounds workers quota) = IsOpening now slice horizon semester lanes rounds workers quota
IsCommand (command.Instrument name front config readout change) = IsInstrument name front config readout change
IsCommand (command.Telescope site enclosure telescope class instruments) = IsTelescope site enclosure telescope class instruments
IsCommand (command.Night site spans) = IsNight site spans
IsCommand (command.Visibility target site spans) = IsSky target site spans
IsCommand (command.Close place spans) = IsClosure place spans
IsCommand (command.Reopen place spans) = IsClosure place spans
IsCommand (command.Grant key seconds) = IsGrant key seconds
IsCommand (command.Submit group) = IsGroup group
IsCommand (command.Amend old group) = IsGroup group
IsCommand (command.Withdraw group) = ⊤
IsCommand (command.Clock at) = at.0 ≤ last_moment
IsCommand (command.Report request percent used) = IsReport percent used
IsCommand command.Plan = ⊤
IsCommand (command.Publish version claim) = IsPublication version claim
IsCommand command.Export = ⊤
IsCommand command.Balances = ⊤
IsCommand (command.Show group) = ⊤
