-- Of a workload the last line alone asks for a plan.
use Rattle.std.proofs.Common.{◌≡◌, ℕ, Bool, true, false, List, codes, refl, sym, ◌∙◌, ap, inl, inr, Option, Some, Result, Ok, Err, ok_or, option_and_then}
use Rattle.serde_json.specs.Data.{Data, string, Members}
use Rattle.serde_json.specs.Find.{as_object}
use Rattle.plan_json.specs.declared.fault.JsonFault.{JsonFault}
use Rattle.plan_json.specs.declared.fault.JsonFault.TheVariants.{NotObject, Missing}
use Rattle.plan_json.specs.declared.member.Member.TheVariants as member
use Rattle.plan_json.specs.Elements.{each_of}
use Rattle.plan_json.specs.Moment.{moment_in}
use Rattle.plan_json.specs.Object.{data_of, unless_null, member_of, if_there}
use Rattle.plan_json.specs.Reading.{result_and_then, ◌>>=◌}
use Rattle.plan_json.specs.Span.{span_in, spans_of}
use Rattle.plan_json.specs.Text.{text_in}
use Rattle.plan_json.specs.Whole.{number_in}
use Rattle.request_model.specs.declared.fault.GroupFault.{GroupFault}
use Rattle.desk_events.specs.declared.command.Command.{Command}
use Rattle.desk_events.specs.declared.command.Command.TheVariants as command
use Rattle.desk_events.specs.declared.fault.CommandFault.{CommandFault}
use Rattle.desk_events.specs.declared.fault.CommandFault.TheVariants.{Refused}
use Rattle.desk_events.specs.declared.refusal.Refusal.TheVariants as refusal
use Rattle.desk_events.specs.Account.{key_of}
use Rattle.desk_events.specs.Commands.{open_of, instrument_of, telescope_of, night_of, visibility_of, grant_of, submit_of, document_in}
use Rattle.desk_events.specs.Fault.{in_line, group_in_line}
use Rattle.desk_events.specs.Line.{verb_named, command_of, command_in, command_of_bytes}
use Rattle.workload.proofs.Asked.{Asks, AsksNoPlan}

-- what is read isn't a plan
abbrev pub NoPlan : {E : Type 0} → Result Command E → Type 0
NoPlan r = ¬ (r ≡ Ok command.Plan)

then_none : {A E : Type 0} (r : Result A E) (f : A → Result Command E) → ((x : A) → NoPlan (f x)) → NoPlan (result_and_then f r)
then_none (Ok x) f none = none x
then_none (Err e) f none = λ h. cc

member_none : (r : Result Command JsonFault) → NoPlan r → NoPlan (in_line r)
member_none (Ok c) none = λ h. none (let same : c ≡ command.Plan = cc in ap (λ (x : Command). Ok x) same)
member_none (Err e) none = λ h. cc

group_none : (r : Result Command GroupFault) → NoPlan r → NoPlan (group_in_line r)
group_none (Ok c) none = λ h. none (let same : c ≡ command.Plan = cc in ap (λ (x : Command). Ok x) same)
group_none (Err e) none = λ h. cc

abbrev is_plan : Command → Bool
is_plan command.Plan = true
is_plan _ = false

other_none : {E : Type 0} (c : Command) → is_plan c ≡ false → NoPlan {E = E} (Ok c)
other_none c other = λ h. let same : c ≡ command.Plan = cc in let clash : false ≡ true = sym other ∙ ap is_plan same in absurd (cc)

open_none : (ms : Members) → NoPlan (open_of ms)
open_none ms =
    then_none (member_of moment_in ms member.Now) _ (λ now.
    then_none (member_of (number_in 60 3600) ms member.Slice) _ (λ slice.
    then_none (member_of (number_in 1 1440) ms member.Horizon) _ (λ horizon.
    then_none (member_of span_in ms member.Semester) _ (λ semester.
    then_none (member_of (number_in 1 8) ms member.Lanes) _ (λ lanes.
    then_none (member_of (number_in 1 256) ms member.Rounds) _ (λ rounds.
    then_none (member_of (number_in 1 8) ms member.Workers) _ (λ workers.
    then_none (if_there (number_in 1 100000000) ms member.Quota) _ (λ quota.
    other_none (command.Open now slice horizon semester lanes rounds workers quota) refl))))))))

instrument_none : (ms : Members) → NoPlan (instrument_of ms)
instrument_none ms =
    then_none (member_of text_in ms member.TypeName) _ (λ name.
    then_none (member_of (number_in 0 86400000) ms member.FrontMs) _ (λ front.
    then_none (member_of (number_in 0 86400000) ms member.ConfigMs) _ (λ config.
    then_none (member_of (number_in 0 86400000) ms member.ReadoutMs) _ (λ readout.
    then_none (member_of (number_in 0 86400000) ms member.ChangeMs) _ (λ change.
    other_none (command.Instrument name front config readout change) refl)))))

telescope_none : (ms : Members) → NoPlan (telescope_of ms)
telescope_none ms =
    then_none (member_of text_in ms member.Site) _ (λ site.
    then_none (member_of text_in ms member.Enclosure) _ (λ enclosure.
    then_none (member_of text_in ms member.Telescope) _ (λ telescope.
    then_none (member_of text_in ms member.Class) _ (λ class.
    then_none (each_of text_in 1 16 ms member.Instruments) _ (λ instruments.
    other_none (command.Telescope site enclosure telescope class instruments) refl)))))

night_none : (ms : Members) → NoPlan (night_of ms)
night_none ms =
    then_none (member_of text_in ms member.Site) _ (λ site.
    then_none (spans_of ms member.Spans) _ (λ spans.
    other_none (command.Night site spans) refl))

visibility_none : (ms : Members) → NoPlan (visibility_of ms)
visibility_none ms =
    then_none (member_of text_in ms member.Target) _ (λ target.
    then_none (member_of text_in ms member.Site) _ (λ site.
    then_none (spans_of ms member.Spans) _ (λ spans.
    other_none (command.Visibility target site spans) refl)))

grant_none : (ms : Members) → NoPlan (grant_of ms)
grant_none ms =
    then_none (key_of ms) _ (λ key.
    then_none (member_of (number_in 1 1000000000) ms member.Seconds) _ (λ seconds.
    other_none (command.Grant key seconds) refl))

submit_none : (ms : Members) → NoPlan (submit_of ms)
submit_none ms =
    then_none (document_in ms) _ (λ group.
    other_none (command.Submit group) refl)

-- ---- lines

-- what these members say, by their `do`
abbrev said_by : Members → Option Data → Result Command CommandFault
said_by ms o =
    (in_line (result_and_then (text_in member.Do) (ok_or (option_and_then unless_null o) (Missing member.Do))) >>= λ word. ok_or (verb_named word)
    (Refused refusal.UnknownCommand))
    >>= λ verb. command_of verb ms

-- what bytes say that are read as an object with this `do`
said : (bytes : List ℕ) (d : Data) (word : List ℕ) (asks : Asks word d) → data_of bytes ≡ Ok d → command_of_bytes bytes ≡ said_by asks.0 (Some (string word))
said bytes d word asks read =
    let in_object : Result Data JsonFault → Result Command CommandFault =
    λ r. result_and_then command_in (in_line (result_and_then (λ e. ok_or (as_object e) NotObject) r)) in
    ap in_object (read ∙ ap (λ (e : Data). Ok e) asks.1) ∙ ap (said_by asks.0) asks.2

none_by : (bytes : List ℕ) (d : Data) (word : List ℕ) (asks : Asks word d) → data_of bytes ≡ Ok d → NoPlan (said_by asks.0 (Some (string word)))
    → NoPlan (command_of_bytes bytes)
none_by bytes d word asks read none = λ h. none (sym (said bytes d word asks read) ∙ h)

pub line_none : (bytes : List ℕ) (d : Data) → data_of bytes ≡ Ok d → AsksNoPlan d → NoPlan (command_of_bytes bytes)
line_none bytes d read (inl a) = none_by bytes d (codes "open") a read (member_none (open_of a.0) (open_none a.0))
line_none bytes d read (inr (inl a)) = none_by bytes d (codes "instrument") a read (member_none (instrument_of a.0) (instrument_none a.0))
line_none bytes d read (inr (inr (inl a))) = none_by bytes d (codes "telescope") a read (member_none (telescope_of a.0) (telescope_none a.0))
line_none bytes d read (inr (inr (inr (inl a)))) = none_by bytes d (codes "night") a read (member_none (night_of a.0) (night_none a.0))
line_none bytes d read (inr (inr (inr (inr (inl a))))) = none_by bytes d (codes "visibility") a read (member_none (visibility_of a.0) (visibility_none a.0))
line_none bytes d read (inr (inr (inr (inr (inr (inl a)))))) = none_by bytes d (codes "grant") a read (member_none (grant_of a.0) (grant_none a.0))
line_none bytes d read (inr (inr (inr (inr (inr (inr a)))))) = none_by bytes d (codes "submit") a read (group_none (submit_of a.0) (submit_none a.0))
