-- Accounts on instrument types, and the refusals of a grant.
use Rattle.std.proofs.Common.{◌≡◌, ◌∙◌, refl, Bool, true, false, not, ◌&&◌, Option, Some, None, is_some}
use Rattle.std.specs.Prelude.{if◌then◌else◌}
use Rattle.std.specs.Map.{keys_of}
use Rattle.std.specs.Option.{option_or}
use Rattle.std.proofs.lemmas.Map.Made.{is_some-lookup}
use Rattle.allocations.specs.declared.key.Key.{Key}
use Rattle.site_model.specs.Names.{is_name, is_named}
use Rattle.site_model.specs.Registry.{times_of}
use Rattle.desk_events.specs.declared.refusal.Refusal.{Refusal}
use Rattle.desk_core.specs.Desk.{DeskSeen}
use Rattle.desk_core.specs.Registering.{is_on_instrument, instrument_lacks}

by_account : (on named : Bool) → on ≡ true → named ≡ not (on && not named)
by_account on true e = rw e refl
by_account on false e = rw e refl

-- an account on an instrument type lacks it exactly where it isn't registered
pub on_type : (d : DeskSeen) (key : Key) → is_on_instrument key.account ≡ true
    → is_some (times_of d.network.registry key.instrument) ≡ not (instrument_lacks d key)
on_type d key on =
    is_some-lookup (is_name key.instrument) d.network.registry.instruments
    ∙ by_account (is_on_instrument key.account) (is_named (keys_of d.network.registry.instruments) key.instrument) on

-- a grant on an instrument type that isn't there is refused for it
pub lacking : (b : Bool) (r : Refusal) (o : Option Refusal) → false ≡ not b → option_or (if b then Some r else None) o ≡ Some r
lacking true r o e = refl
lacking false r o e = cc
