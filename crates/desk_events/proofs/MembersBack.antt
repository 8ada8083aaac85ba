-- A member from its name.
use Rattle.std.proofs.Common.{◌≡◌, ℕ, List, cond, bytes_eq, codes, refl}
use Rattle.plan_json.specs.declared.member.Member.{Member}
use Rattle.plan_json.specs.declared.member.Member.TheVariants as key
use Rattle.plan_json.specs.Member.{name_of}

abbrev pub member_in : List ℕ → Member
member_in s =
    cond (bytes_eq s (codes "acceptability_threshold")) key.AcceptabilityThreshold (
    cond (bytes_eq s (codes "account")) key.Account (
    cond (bytes_eq s (codes "at")) key.At (
    cond (bytes_eq s (codes "bound")) key.Bound (
    cond (bytes_eq s (codes "cadence")) key.Cadence (
    cond (bytes_eq s (codes "caller")) key.Caller (
    cond (bytes_eq s (codes "change_ms")) key.ChangeMs (
    cond (bytes_eq s (codes "children")) key.Children (
    cond (bytes_eq s (codes "claim")) key.Claim (
    cond (bytes_eq s (codes "class")) key.Class (
    cond (bytes_eq s (codes "config_ms")) key.ConfigMs (
    cond (bytes_eq s (codes "configurations")) key.Configurations (
    cond (bytes_eq s (codes "displaced")) key.Displaced (
    cond (bytes_eq s (codes "do")) key.Do (
    cond (bytes_eq s (codes "enclosure")) key.Enclosure (
    cond (bytes_eq s (codes "end")) key.End (
    cond (bytes_eq s (codes "exposure_count")) key.ExposureCount (
    cond (bytes_eq s (codes "exposure_time_ms")) key.ExposureTimeMs (
    cond (bytes_eq s (codes "fade")) key.Fade (
    cond (bytes_eq s (codes "first")) key.First (
    cond (bytes_eq s (codes "format")) key.Format (
    cond (bytes_eq s (codes "front_ms")) key.FrontMs (
    cond (bytes_eq s (codes "group")) key.Group (
    cond (bytes_eq s (codes "group_number")) key.GroupNumber (
    cond (bytes_eq s (codes "groups")) key.Groups (
    cond (bytes_eq s (codes "horizon")) key.Horizon (
    cond (bytes_eq s (codes "instrument_configs")) key.InstrumentConfigs (
    cond (bytes_eq s (codes "instrument_type")) key.InstrumentType (
    cond (bytes_eq s (codes "instruments")) key.Instruments (
    cond (bytes_eq s (codes "ipp_thousandths")) key.IppThousandths (
    cond (bytes_eq s (codes "ipp_value")) key.IppValue (
    cond (bytes_eq s (codes "jitter")) key.Jitter (
    cond (bytes_eq s (codes "lanes")) key.Lanes (
    cond (bytes_eq s (codes "leaf")) key.Leaf (
    cond (bytes_eq s (codes "len")) key.Len (
    cond (bytes_eq s (codes "location")) key.Location (
    cond (bytes_eq s (codes "name")) key.Name (
    cond (bytes_eq s (codes "now")) key.Now (
    cond (bytes_eq s (codes "observation_type")) key.ObservationType (
    cond (bytes_eq s (codes "operator")) key.Operator (
    cond (bytes_eq s (codes "percent")) key.Percent (
    cond (bytes_eq s (codes "period")) key.Period (
    cond (bytes_eq s (codes "placed")) key.Placed (
    cond (bytes_eq s (codes "placements")) key.Placements (
    cond (bytes_eq s (codes "prices")) key.Prices (
    cond (bytes_eq s (codes "priority")) key.Priority (
    cond (bytes_eq s (codes "proposal")) key.Proposal (
    cond (bytes_eq s (codes "quota")) key.Quota (
    cond (bytes_eq s (codes "quota_prices")) key.QuotaPrices (
    cond (bytes_eq s (codes "quotas")) key.Quotas (
    cond (bytes_eq s (codes "readout_ms")) key.ReadoutMs (
    cond (bytes_eq s (codes "request")) key.Request (
    cond (bytes_eq s (codes "requests")) key.Requests (
    cond (bytes_eq s (codes "rounds")) key.Rounds (
    cond (bytes_eq s (codes "seconds")) key.Seconds (
    cond (bytes_eq s (codes "semester")) key.Semester (
    cond (bytes_eq s (codes "site")) key.Site (
    cond (bytes_eq s (codes "skies")) key.Skies (
    cond (bytes_eq s (codes "slice")) key.Slice (
    cond (bytes_eq s (codes "slices")) key.Slices (
    cond (bytes_eq s (codes "snapshot")) key.Snapshot (
    cond (bytes_eq s (codes "spans")) key.Spans (
    cond (bytes_eq s (codes "start")) key.Start (
    cond (bytes_eq s (codes "target")) key.Target (
    cond (bytes_eq s (codes "targets")) key.Targets (
    cond (bytes_eq s (codes "telescope")) key.Telescope (
    cond (bytes_eq s (codes "telescope_class")) key.TelescopeClass (
    cond (bytes_eq s (codes "telescopes")) key.Telescopes (
    cond (bytes_eq s (codes "trees")) key.Trees (
    cond (bytes_eq s (codes "type")) key.TypeName (
    cond (bytes_eq s (codes "usable")) key.Usable (
    cond (bytes_eq s (codes "used")) key.Used (
    cond (bytes_eq s (codes "value")) key.Value (
    cond (bytes_eq s (codes "version")) key.Version (
    cond (bytes_eq s (codes "windows")) key.Windows (
    key.Workers)))))))))))))))))))))))))))))))))))))))))))))))))))))))))))))))))))))))))))

pub member_back : (m : Member) → member_in (name_of m) ≡ m
member_back key.AcceptabilityThreshold = refl
member_back key.Account = refl
member_back key.At = refl
member_back key.Bound = refl
member_back key.Cadence = refl
member_back key.Caller = refl
member_back key.ChangeMs = refl
member_back key.Children = refl
member_back key.Claim = refl
member_back key.Class = refl
member_back key.ConfigMs = refl
member_back key.Configurations = refl
member_back key.Displaced = refl
member_back key.Do = refl
member_back key.Enclosure = refl
member_back key.End = refl
member_back key.ExposureCount = refl
member_back key.ExposureTimeMs = refl
member_back key.Fade = refl
member_back key.First = refl
member_back key.Format = refl
member_back key.FrontMs = refl
member_back key.Group = refl
member_back key.GroupNumber = refl
member_back key.Groups = refl
member_back key.Horizon = refl
member_back key.InstrumentConfigs = refl
member_back key.InstrumentType = refl
member_back key.Instruments = refl
member_back key.IppThousandths = refl
member_back key.IppValue = refl
member_back key.Jitter = refl
member_back key.Lanes = refl
member_back key.Leaf = refl
member_back key.Len = refl
member_back key.Location = refl
member_back key.Name = refl
member_back key.Now = refl
member_back key.ObservationType = refl
member_back key.Operator = refl
member_back key.Percent = refl
member_back key.Period = refl
member_back key.Placed = refl
member_back key.Placements = refl
member_back key.Prices = refl
member_back key.Priority = refl
member_back key.Proposal = refl
member_back key.Quota = refl
member_back key.QuotaPrices = refl
member_back key.Quotas = refl
member_back key.ReadoutMs = refl
member_back key.Request = refl
member_back key.Requests = refl
member_back key.Rounds = refl
member_back key.Seconds = refl
member_back key.Semester = refl
member_back key.Site = refl
member_back key.Skies = refl
member_back key.Slice = refl
member_back key.Slices = refl
member_back key.Snapshot = refl
member_back key.Spans = refl
member_back key.Start = refl
member_back key.Target = refl
member_back key.Targets = refl
member_back key.Telescope = refl
member_back key.TelescopeClass = refl
member_back key.Telescopes = refl
member_back key.Trees = refl
member_back key.TypeName = refl
member_back key.Usable = refl
member_back key.Used = refl
member_back key.Value = refl
member_back key.Version = refl
member_back key.Windows = refl
member_back key.Workers = refl
