-- The faults of the parts, as the desk's refusals. Want of memory stays what it is.
use Rattle.std.specs.Prelude.{ℕ, Result, Ok, Err}
use Rattle.plan_json.specs.declared.fault.JsonFault.{JsonFault}
use Rattle.plan_json.specs.declared.fault.JsonFault.TheVariants as json
use Rattle.request_model.specs.declared.fault.GroupFault.{GroupFault}
use Rattle.request_model.specs.declared.fault.GroupFault.TheVariants as group
use Rattle.request_model.specs.declared.time_fault.TimeFault.{TimeFault}
use Rattle.request_model.specs.declared.time_fault.TimeFault.TheVariants as time
use Rattle.allocations.specs.declared.fault.LedgerFault.{LedgerFault}
use Rattle.allocations.specs.declared.fault.LedgerFault.TheVariants as ledger
use Rattle.allocations.specs.declared.fault.FullOf.{FullOf as LedgerFull}
use Rattle.allocations.specs.declared.fault.FullOf.TheVariants as of_ledger
use Rattle.site_model.specs.declared.fault.SiteFault.{SiteFault}
use Rattle.site_model.specs.declared.fault.SiteFault.TheVariants as site
use Rattle.site_model.specs.declared.fault.FullOf.{FullOf as SiteFull}
use Rattle.site_model.specs.declared.fault.FullOf.TheVariants as of_site
use Rattle.desk_events.specs.declared.fault.CommandFault.{CommandFault}
use Rattle.desk_events.specs.declared.fault.CommandFault.TheVariants.{Refused, NoMemory}
use Rattle.desk_events.specs.declared.refusal.FullOf.{FullOf}
use Rattle.desk_events.specs.declared.refusal.FullOf.TheVariants as full
use Rattle.desk_events.specs.declared.refusal.Refusal.TheVariants as refusal

-- a fault of reading, as the refusal of the same name
abbrev pub of_member : JsonFault → CommandFault
of_member json.NotJson = Refused refusal.NotJson
of_member json.NotObject = Refused refusal.NotObject
of_member (json.Missing m) = Refused (refusal.Missing m)
of_member (json.WrongKind m) = Refused (refusal.WrongKind m)
of_member (json.NotWhole m) = Refused (refusal.NotWhole m)
of_member (json.OutOfRange m) = Refused (refusal.OutOfRange m)
of_member (json.BadMoment m) = Refused (refusal.BadMoment m)
of_member json.NoMemory = NoMemory

-- the fault of a group's document: that of reading it, or the refusal of the same name
abbrev pub of_group : GroupFault → CommandFault
of_group (group.Json fault) = of_member fault
of_group (group.BadShape op count) = Refused (refusal.BadShape count op)
of_group (group.BadWindow index window) = Refused (refusal.BadWindow index window)
of_group (group.MixedInstruments index) = Refused (refusal.MixedInstruments index)
of_group group.NoMemory = NoMemory

-- of the request at that place
abbrev pub of_times : ℕ → TimeFault → CommandFault
of_times index (time.TooLong seconds) = Refused (refusal.TooLong index seconds)
of_times index time.BadCadence = Refused (refusal.BadCadence index)
of_times index (time.TooManyWindows count) = Refused (refusal.TooManyWindows count index)
of_times index time.NoMemory = NoMemory

-- what a network is full of, as what a desk is full of
abbrev pub full_of_site : SiteFull → FullOf
full_of_site of_site.Instruments = full.Instruments
full_of_site of_site.Telescopes = full.Telescopes
full_of_site of_site.Sites = full.Sites
full_of_site of_site.Targets = full.Targets
full_of_site of_site.Visibility = full.Visibility
full_of_site of_site.Closures = full.Closures

-- a fault of the network, as the refusal of the same name
abbrev pub of_network : SiteFault → CommandFault
of_network site.NoSuchTelescope = Refused refusal.NoSuchTelescope
of_network site.NoSuchSite = Refused refusal.NoSuchSite
of_network site.Repeated = Refused refusal.Repeated
of_network (site.Full limit what) = Refused (refusal.Full limit (full_of_site what))
of_network (site.NoSuchInstrument index) = Refused (refusal.NoSuchInstrument index)
of_network site.NoMemory = NoMemory

-- what a ledger is full of, as what a desk is full of
abbrev pub full_of_ledger : LedgerFull → FullOf
full_of_ledger of_ledger.Accounts = full.Accounts

-- a fault of the ledger, as the refusal of the same name
abbrev pub of_accounts : LedgerFault → CommandFault
of_accounts (ledger.Full limit what) = Refused (refusal.Full limit (full_of_ledger what))
of_accounts ledger.NoSuchProposal = Refused refusal.NoSuchProposal
of_accounts (ledger.NoSuchAllocation account) = Refused (refusal.NoSuchAllocation account)
of_accounts (ledger.NotEnoughTime needed available) = Refused (refusal.NotEnoughTime available needed)
of_accounts ledger.NoMemory = NoMemory

-- what was read, its fault being the line's
abbrev pub in_line : {T : Type 0} → Result T JsonFault → Result T CommandFault
in_line (Ok x) = Ok x
in_line (Err e) = Err (of_member e)

-- the same of a group's document
abbrev pub group_in_line : {T : Type 0} → Result T GroupFault → Result T CommandFault
group_in_line (Ok x) = Ok x
group_in_line (Err e) = Err (of_group e)
