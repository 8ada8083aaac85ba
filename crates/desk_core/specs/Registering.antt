-- The lines that say what there is: instruments, telescopes, nights, skies, closures and grants.
use Rattle.std.specs.Prelude.{min, true, false, ℕ, nat_lt, Bool, not, ◌&&◌, ◌||◌, List, [], ◌∷◌, length, Option, Some, None, if◌then◌else◌, option_and_then}
use Rattle.std.specs.List.{list_any}
use Rattle.std.specs.Option.{option_or}
use Rattle.std.proofs.Math.Nat.{min-le_right}
use Rattle.plan_base.specs.Limits.{most_ms, most_accounts}
use Rattle.plan_base.specs.declared.span.Span.{Span}
use Rattle.interval_set.specs.Spans.{has}
use Rattle.site_model.specs.declared.changes.Change.{Change}
use Rattle.site_model.specs.declared.changes.Change.TheVariants.{Close, Reopen}
use Rattle.site_model.specs.declared.code.Code.{Code}
use Rattle.site_model.specs.declared.code.InstrumentTimes.{InstrumentTimes}
use Rattle.site_model.specs.declared.code.Scope.{Scope}
use Rattle.site_model.specs.declared.code.Scope.TheVariants.{Telescope, Site}
use Rattle.site_model.specs.Limits.{most_closures}
use Rattle.site_model.specs.Names.{is_code, is_name}
use Rattle.site_model.specs.Registry.{codes_of, instrument_refusal, telescope_refusal, scope_refusal, instrument_names}
use Rattle.site_model.specs.Names.{is_named}
use Rattle.site_model.specs.Network.{NetworkSeen, adds_instrument, adds_telescope, sets_night, sets_visibility, site_refusal, visibility_refusal}
use Rattle.allocations.specs.declared.key.Key.{Key}
use Rattle.allocations.specs.declared.key.Account.{Account}
use Rattle.allocations.specs.declared.key.Account.TheVariants as account
use Rattle.allocations.specs.Books.{has_grant, accounts_of, balance_of}
use Rattle.allocations.specs.Changes.{with_entry, grant_entry}
use Rattle.desk_events.specs.declared.refusal.FullOf.TheVariants.{Closures, Accounts}
use Rattle.desk_events.specs.declared.refusal.Refusal.{Refusal}
use Rattle.desk_events.specs.declared.refusal.Refusal.TheVariants.{Full, NoSuchInstrument}
use Rattle.desk_events.specs.declared.reply.Reply.{Reply}
use Rattle.desk_events.specs.declared.reply.Reply.TheVariants as reply
use Rattle.desk_core.specs.Desk.{DeskSeen, Decision}
use Rattle.desk_core.specs.Refusals.{refusal_of_site}
use Rattle.desk_core.specs.Seconds.{spans_below, spans_of, end_of_time}

-- the desk with another network
abbrev pub with_network : NetworkSeen → DeskSeen → DeskSeen
with_network network d = record d { network = network }

-- a number of milliseconds, at most a day, as those of commands are
abbrev pub within_a_day : ℕ → ℕ
within_a_day n = min n most_ms

-- what an instrument type takes beside exposures
abbrev pub times : ℕ → ℕ → ℕ → ℕ → InstrumentTimes
times front config readout change = record {
  front_ms = within_a_day front;
  config_ms = within_a_day config;
  readout_ms = within_a_day readout;
  change_ms = within_a_day change;
  front = min-le_right front most_ms;
  config = min-le_right config most_ms;
  readout = min-le_right readout most_ms;
  change = min-le_right change most_ms;
}

-- `instrument`: repeated, or full; else it is registered
abbrev pub on_instrument : DeskSeen → List ℕ → InstrumentTimes → Decision
on_instrument d name times = record {
  refusal = option_and_then refusal_of_site (instrument_refusal d.network.registry name);
  reply = reply.Instrument;
  desk = with_network (adds_instrument d.network name times) d;
}

-- `telescope`: an instrument isn't there, the code is there, or full; else it gets the next number, and a new site too
abbrev pub on_telescope : DeskSeen → Code → List ℕ → List (List ℕ) → Decision
on_telescope d code class instruments = record {
  refusal = option_and_then refusal_of_site (telescope_refusal d.network.registry code instruments);
  reply = reply.Telescope (record { 0 = length d.network.registry.telescopes });
  desk = with_network (adds_telescope d.network record { code = code; class = class; instruments = instruments }) d;
}

-- `night`: no such site; else its night is this set
abbrev pub on_night : DeskSeen → List ℕ → List Span → Decision
on_night d site spans = record {
  refusal = option_and_then refusal_of_site (site_refusal d.network.registry site);
  reply = reply.Night;
  desk = with_network (sets_night d.network site (spans_of spans)) d;
}

-- `visibility`: no such site, full of targets, or full of pieces; else a new target is numbered, and its sky there is this set
abbrev pub on_visibility : DeskSeen → List ℕ → List ℕ → List Span → Decision
on_visibility d target site spans = record {
  refusal = option_and_then refusal_of_site (visibility_refusal d.network target site (spans_of spans));
  reply = reply.Visibility;
  desk = with_network (sets_visibility d.network target site (spans_of spans)) d;
}

-- ---- closures

-- whether a line is about the telescope of this code
abbrev pub in_scope : Scope → Code → Bool
in_scope (Telescope code) other = is_code code other
in_scope (Site name) other = is_name name other.site

-- whether second x is closed after a line that is about it
abbrev pub closed_after : Change → List Span → List Span → ℕ → Bool
closed_after Close old spans x = has old x || has spans x
closed_after Reopen old spans x = has old x && not (has spans x)

-- the code at a place, and the closures there after a line: those of telescopes in its scope are changed
abbrev pub closures_after : Change → Scope → List Span → List Code → List (List Span) → List (List Span)
closures_after change scope spans (c ∷ codes) (old ∷ closures) =
    (if in_scope scope c then spans_below (closed_after change old spans) end_of_time else old) ∷ closures_after change scope spans codes closures
closures_after change scope spans [] closures = closures
closures_after change scope spans (c ∷ codes) [] = []

-- full where the closures of a telescope would have too many pieces
abbrev pub closures_refusal : List (List Span) → Option Refusal
closures_refusal closures = if list_any (λ pieces. nat_lt most_closures (length pieces)) closures then Some (Full most_closures Closures) else None

-- `close` and `reopen`: no such telescope or site, or full; else the set is added to the closures of the telescopes in the
-- scope that are registered so far, or taken from them
abbrev pub on_closure : DeskSeen → Change → Scope → List Span → Reply → Decision
on_closure d change scope spans done =
    let closures = closures_after change scope spans (codes_of d.network.registry) d.network.calendar.closures in
    record {
      refusal = option_or (option_and_then refusal_of_site (scope_refusal d.network.registry scope)) (closures_refusal closures);
      reply = done;
      desk = with_network (record d.network { calendar = record d.network.calendar { closures = closures } }) d;
    }

-- ---- grants

-- whether an account is on an instrument type
abbrev pub is_on_instrument : Account → Bool
is_on_instrument account.Ipp = false
is_on_instrument account.Standard = true
is_on_instrument account.TimeCritical = true
is_on_instrument account.RapidResponse = true

-- whether an account is on an instrument type that isn't registered
abbrev pub instrument_lacks : DeskSeen → Key → Bool
instrument_lacks d key = is_on_instrument key.account && not (is_named (instrument_names d.network.registry) key.instrument)

-- full where the account is new and there are 1,024
abbrev pub accounts_refusal : DeskSeen → Key → Option Refusal
accounts_refusal d key = if not (has_grant d.books.entries key) && not (nat_lt (length (accounts_of d.books.entries)) most_accounts)
    then Some (Full most_accounts Accounts) else None

-- `grant`: the instrument type isn't there, or full; else it is an entry
abbrev pub on_grant : DeskSeen → Key → ℕ → Decision
on_grant d key seconds =
    let books = with_entry (grant_entry key seconds) d.books in
    record {
      refusal = option_or (if instrument_lacks d key then Some (NoSuchInstrument 0) else None) (accounts_refusal d key);
      reply = reply.Granted (balance_of books.entries key);
      desk = record d { books = books };
    }
