-- What a document asks for: its requests, tested one after another.
use Rattle.std.specs.Prelude.{ℕ, max, nat_le, Bool, not, ◌&&◌, List, [], ◌∷◌, ◌++◌, map, fold, Result, Ok, Err, if◌then◌else◌}
use Rattle.std.specs.List.{list_any, list_all, enumerate_from}
use Rattle.std.specs.Option.{ok_or, unwrap_or}
use Rattle.plan_base.specs.declared.number.Sec.{Sec}
use Rattle.plan_base.specs.declared.parts.Op.{Op}
use Rattle.plan_base.specs.declared.span.Span.{Span}
use Rattle.plan_base.specs.Operators.{is_single}
use Rattle.request_model.specs.declared.group.GroupDoc.{GroupDoc}
use Rattle.request_model.specs.declared.request.Location.{Location}
use Rattle.request_model.specs.declared.request.RequestDoc.{RequestDoc}
use Rattle.request_model.specs.declared.request.When.{When}
use Rattle.request_model.specs.declared.request.When.TheVariants.{Windows, Cadence}
use Rattle.request_model.specs.declared.time_fault.TimeFault.{TimeFault}
use Rattle.request_times.specs.declared.instrument.Instrument.{Instrument}
use Rattle.request_times.specs.Duration.{duration}
use Rattle.request_times.specs.Cadence.{expansion}
use Rattle.site_model.specs.declared.code.InstrumentTimes.{InstrumentTimes}
use Rattle.site_model.specs.Registry.{RegistrySeen, TelescopeSeen, times_of, fits}
use Rattle.desk_events.specs.declared.refusal.Refusal.{Refusal}
use Rattle.desk_events.specs.declared.refusal.Refusal.TheVariants.{NoSuchInstrument, BadCadence, OutsideSemester, WindowPast, NoTelescope}
use Rattle.desk_core.specs.declared.asking.Made.{Made}
use Rattle.desk_core.specs.Desk.{DeskSeen}
use Rattle.desk_core.specs.Refusals.{refusal_of_times}

-- what follows from an answer, if it isn't refused
abbrev pub follows : {A B : Type 0} → Result A Refusal → (A → Result B Refusal) → Result B Refusal
follows (Ok x) f = f x
follows (Err refusal) f = Err refusal

-- what an answer is turned into, if it isn't refused
abbrev pub turned_into : {A B : Type 0} → Result A Refusal → (A → B) → Result B Refusal
turned_into r f = follows r (λ x. Ok (f x))

-- a request that is to be made: its part of the document, its seconds and its windows
pub record MadeSeen : Type 0 where
  pub asked : RequestDoc
  pub seconds : ℕ
  pub windows : List Span

-- a request that is to be made, as contracts see it
abbrev pub seen_made : Made → MadeSeen
seen_made m = record { asked = m.asked.now; seconds = m.seconds; windows = m.windows }

-- ---- how long a request takes

-- the overheads of an instrument type, as a duration takes them
abbrev pub overheads : InstrumentTimes → Instrument
overheads t = record { front_ms = t.front_ms; config_ms = t.config_ms; readout_ms = t.readout_ms; change_ms = t.change_ms }

-- what is refused by its times is refused with the request's place; times are never refused for want of memory
abbrev pub at_index : {X : Type 0} → ℕ → Result X TimeFault → Result X Refusal
at_index index (Ok x) = Ok x
at_index index (Err fault) = Err (unwrap_or (refusal_of_times index fault) (BadCadence index))

-- the seconds of the request at a place: no such instrument, or too long
abbrev pub seconds_for : RegistrySeen → ℕ → RequestDoc → Result ℕ Refusal
seconds_for r index q =
    follows (ok_or (times_of r q.instrument) (NoSuchInstrument index)) (λ times. at_index index (duration (overheads times) q.configurations))

-- ---- when it may be observed

-- the windows of the requests that are made from the one at a place: its own, or one window each of its cadence, which
-- stands in a SINGLE alone
abbrev pub windows_for : Op → ℕ → ℕ → When → Result (List (List Span)) Refusal
windows_for op index seconds (Windows windows) = Ok (windows ∷ [])
windows_for op index seconds (Cadence cadence) =
    if is_single op then turned_into (at_index index (expansion cadence seconds)) (map (λ w. w ∷ [])) else Err (BadCadence index)

-- whether a window is inside the semester
abbrev pub is_inside : Span → Span → Bool
is_inside semester w = nat_le semester.from.0 w.from.0 && nat_le w.to.0 semester.to.0

-- whether a window of one of the requests isn't
abbrev pub is_outside : Span → List (List Span) → Bool
is_outside semester lists = list_any (λ windows. list_any (λ w. not (is_inside semester w)) windows) lists

-- whether all windows end at or before now
abbrev pub is_past : Sec → List Span → Bool
is_past now windows = list_all (λ w. nat_le w.to.0 now.0) windows

-- whether a telescope fits a request for this location and instrument type
abbrev pub is_fit : Location → List ℕ → TelescopeSeen → Bool
is_fit place instrument t = fits t place.class place.site place.enclosure place.telescope instrument

-- whether a telescope that is registered so far fits the request
abbrev pub is_fitted : RegistrySeen → RequestDoc → Bool
is_fitted r q = list_any (is_fit q.location q.instrument) r.telescopes

-- ---- the requests of a document

-- the requests with these windows
abbrev pub made_with : RequestDoc → ℕ → List (List Span) → List MadeSeen
made_with q seconds lists = map (λ windows. record { asked = q; seconds = seconds; windows = windows }) lists

-- those of the request at a place, or the first refusal: outside the semester, all windows past, no telescope
abbrev pub tested : DeskSeen → ℕ → RequestDoc → ℕ → List (List Span) → Result (List MadeSeen) Refusal
tested d index q seconds lists =
    if is_outside d.opening.semester lists then Err (OutsideSemester index)
    else (if list_any (is_past d.progress.moment) lists then Err (WindowPast index)
    else (if is_fitted d.network.registry q then Ok (made_with q seconds lists) else Err (NoTelescope index)))

-- the requests that are made from the one at this place, or the first refusal: no such instrument, too long, a bad cadence
-- or too many windows, and those of its windows and telescopes
abbrev pub made_from : DeskSeen → Op → ℕ × RequestDoc → Result (List MadeSeen) Refusal
made_from d op p =
    follows (seconds_for d.network.registry p.0 p.1) (λ seconds. follows (windows_for op p.0 seconds p.1.when) (tested d p.0 p.1 seconds))

-- all that are made, or the first refusal
abbrev pub gathered : List (Result (List MadeSeen) Refusal) → Result (List MadeSeen) Refusal
gathered [] = Ok []
gathered (r ∷ rs) = follows r (λ made. turned_into (gathered rs) (λ rest. made ++ rest))

-- the requests that a document makes, one after another
abbrev pub made_of : DeskSeen → GroupDoc → Result (List MadeSeen) Refusal
made_of d document = gathered (map (made_from d document.op) (enumerate_from 0 document.requests))

-- the greatest end of windows
abbrev pub last_of : List Span → ℕ
last_of windows = fold (λ last w. max last w.to.0) 0 windows
