-- The refusals of the desk's parts, as lines have them; want of memory is none.
use Rattle.std.specs.Prelude.{ℕ, ◌≡◌, ◌≢◌, Option, Some, None, Result, Ok, IfOk, IfErr}
use Rattle.std.specs.Result.{result_err}
use Rattle.site_model.specs.declared.fault.SiteFault.{SiteFault}
use Rattle.allocations.specs.declared.fault.LedgerFault.{LedgerFault}
use Rattle.request_model.specs.declared.time_fault.TimeFault.{TimeFault}
use Rattle.desk_events.specs.declared.fault.CommandFault.{CommandFault}
use Rattle.desk_events.specs.declared.fault.CommandFault.TheVariants.{Refused, NoMemory}
use Rattle.desk_events.specs.declared.refusal.Refusal.{Refusal}
use Rattle.desk_events.specs.Fault.{of_network, of_accounts, of_times}

-- the refusal that a fault is
abbrev pub refusal_in : CommandFault → Option Refusal
refusal_in (Refused refusal) = Some refusal
refusal_in NoMemory = None

-- why the network refuses
abbrev pub refusal_of_site : SiteFault → Option Refusal
refusal_of_site fault = refusal_in (of_network fault)

-- why the ledger refuses
abbrev pub refusal_of_ledger : LedgerFault → Option Refusal
refusal_of_ledger fault = refusal_in (of_accounts fault)

-- why the request at a place is refused for its times
abbrev pub refusal_of_times : ℕ → TimeFault → Option Refusal
refusal_of_times index fault = refusal_in (of_times index fault)

-- a call answers what is said: its value, or the refusal, or it finds no memory
pub record Says {A B : Type 0} (value : A → B) (said : Result B Refusal) (result : Result A CommandFault) : Type 0 where
  pub ok : IfOk result (λ a. said ≡ Ok (value a))
  pub refused : IfErr result (λ fault. fault ≢ NoMemory → result_err said ≡ refusal_in fault)
