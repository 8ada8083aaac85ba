-- A command that was read lies in its ranges.
use Rattle.std.proofs.Common.{◌≡◌, ℕ, List, [], ◌∷◌, length, Some, IfSome, nat_lt, is_some, Result, Ok, Err, IfOk, refl, subst, ltb-true}
use Rattle.std.specs.Prelude.{ok_or}
use Rattle.serde_json.specs.Data.{Data, Members}
use Rattle.plan_base.specs.declared.number.Sec.{Sec}
use Rattle.plan_base.specs.declared.span.Span.{Span}
use Rattle.plan_io.specs.declared.lines.ScriptLine.{ScriptLine}
use Rattle.plan_io.specs.declared.lines.ScriptLine.TheVariants as line
use Rattle.plan_json.specs.declared.member.Member.{Member}
use Rattle.plan_json.specs.declared.member.Member.TheVariants as key
use Rattle.plan_json.specs.declared.fault.JsonFault.{JsonFault}
use Rattle.plan_json.specs.declared.fault.JsonFault.TheVariants.{Missing, OutOfRange}
use Rattle.plan_json.specs.List.{elements_in}
use Rattle.plan_json.specs.Moment.{moment_in}
use Rattle.plan_json.specs.Object.{value_of, member_of, if_there, object_in, document_of}
use Rattle.plan_json.specs.Ranges.{IsBetween, IsText}
use Rattle.plan_json.specs.Reading.{result_and_then}
use Rattle.plan_json.specs.Span.{span_between, span_of_pair, span_of_elements, span_in, spans_of}
use Rattle.plan_json.specs.Text.{text_in}
use Rattle.plan_json.specs.Whole.{number_in}
use Rattle.plan_json.proofs.Ranges.{Gives, any, weaker, either, if_test, after, made, moment_early, number_member, text_member, moment_member}
use Rattle.plan_json.proofs.Ranges.{text_short, each_member}
use Rattle.request_model.specs.declared.fault.GroupFault.{GroupFault}
use Rattle.request_model.specs.declared.group.GroupDoc.{GroupDoc}
use Rattle.request_model.specs.Fault.{in_group}
use Rattle.request_model.specs.Group.{group_of}
use Rattle.request_model.specs.Ranges.{IsWindow, IsGroup}
use Rattle.request_model.proofs.InRange.{groups_are_in_range}
use Rattle.allocations.specs.declared.key.Account.{Account}
use Rattle.allocations.specs.declared.key.Account.TheVariants as account
use Rattle.desk_events.specs.declared.command.Command.{Command}
use Rattle.desk_events.specs.declared.read.verb.Verb.{Verb}
use Rattle.desk_events.specs.declared.read.verb.Verb.TheVariants as verb
use Rattle.desk_events.specs.Fault.{in_line, group_in_line}
use Rattle.desk_events.specs.Account.{account_of, account_instrument_of, key_of}
use Rattle.desk_events.specs.Commands.{open_of, instrument_of, telescope_of, night_of, visibility_of, telescope_scope_of, scope_of}
use Rattle.desk_events.specs.Commands.{close_of, reopen_of}
use Rattle.desk_events.specs.Commands.{grant_of, document_in, submit_of, group_number_of, amend_of, withdraw_of, clock_of, report_of, publish_of, show_of}
use Rattle.desk_events.specs.Line.{verb_of, command_of, command_in, command_of_bytes, command_of_line}
use Rattle.plan_base.specs.declared.claim.Claim.{Claim}
use Rattle.plan_doc.specs.Claim.{claim_of}
use Rattle.plan_doc.specs.Ranges.{IsClaim}
use Rattle.plan_doc.proofs.InRange.{claims_are_in_range}
use Rattle.desk_events.specs.Ranges.{IsInstrument, AreSpans, IsScope, IsInstrumentOf, IsKey}
use Rattle.desk_events.specs.Ranges.{IsCommand}

-- what was read, its fault being another's
read : {T : Type 0} {P : T → Type 0} {r : Result T JsonFault} → Gives r P → Gives (in_line r) P
read {r = Ok x} h = record { ok = h.ok }
read {r = Err e} h = record { ok = tt }

read_of_group : {T : Type 0} {P : T → Type 0} {r : Result T GroupFault} → Gives r P → Gives (group_in_line r) P
read_of_group {r = Ok x} h = record { ok = h.ok }
read_of_group {r = Err e} h = record { ok = tt }

-- ---- spans

pair_there : (m : Member) → (a b : Data) → Gives (span_of_pair m a b) IsWindow
pair_there m a b =
    after (λ f. result_and_then (span_between m f) (moment_in m b)) (moment_early m a) (λ f _.
    after (span_between m f) (moment_early m b) (λ t last.
    if_test IsWindow (nat_lt f.0 t.0) (record { from = f; to = t }) (OutOfRange m) (λ k. record { order = ltb-true f.0 t.0 k; last = last })))

elements_there : (m : Member) → (ds : List Data) → Gives (span_of_elements m ds) IsWindow
elements_there m [] = record { ok = tt }
elements_there m (a ∷ []) = record { ok = tt }
elements_there m (a ∷ b ∷ []) = pair_there m a b
elements_there m (a ∷ b ∷ c ∷ ds) = record { ok = tt }

span_there : (m : Member) → (d : Data) → Gives (span_in m d) IsWindow
span_there m d = after (span_of_elements m) (any (elements_in m d)) (λ ds _. elements_there m ds)

semester_there : (ms : Members) → Gives (member_of span_in ms key.Semester) IsWindow
semester_there ms = after (span_in key.Semester) (any (ok_or (value_of ms key.Semester) (Missing key.Semester))) (λ d _. span_there key.Semester d)

spans_found : (ms : Members) → Gives (spans_of ms key.Spans) AreSpans
spans_found ms = weaker (each_member IsWindow span_in span_there 0 512 ms key.Spans) (λ ws are. record { count = are.count.high; each = are.each })

-- ---- the desk

quota_there : (ms : Members) → Gives (if_there (number_in 1 100000000) ms key.Quota) (λ o. IfSome o (IsBetween 1 100000000))
quota_there ms =
    either (is_some (value_of ms key.Quota)) (made (λ o. IfSome o (IsBetween 1 100000000)) Some (number_member 1 100000000 ms key.Quota) (λ n p. p))
    (record { ok = tt })

open_there : (ms : Members) → Gives (open_of ms) IsCommand
open_there ms =
    after _ (moment_member ms key.Now) (λ now is_now.
    after _ (number_member 60 3600 ms key.Slice) (λ slice is_slice.
    after _ (number_member 1 1440 ms key.Horizon) (λ horizon is_horizon.
    after _ (semester_there ms) (λ semester is_semester.
    after _ (number_member 1 8 ms key.Lanes) (λ lanes are_lanes.
    after _ (number_member 1 256 ms key.Rounds) (λ rounds are_rounds.
    after _ (number_member 1 8 ms key.Workers) (λ workers are_workers.
    after _ (quota_there ms) (λ quota is_quota.
    record {
      ok = record {
        moment = is_now;
        length_of_slice = is_slice;
        slices = is_horizon;
        season = is_semester;
        sequences = are_lanes;
        turns = are_rounds;
        threads = are_workers;
        share = is_quota;
      };
    }))))))))

clock_there : (ms : Members) → Gives (clock_of ms) IsCommand
clock_there ms = after _ (moment_member ms key.At) (λ at is_at. record { ok = is_at })

report_there : (ms : Members) → Gives (report_of ms) IsCommand
report_there ms =
    after _ (any (member_of (number_in 0 4294967295) ms key.Request)) (λ request _.
    after _ (number_member 0 100 ms key.Percent) (λ percent is_percent.
    after _ (number_member 0 86400 ms key.Used) (λ used is_used.
    record { ok = record { part = is_percent.high; time = is_used.high } })))

-- ---- the network

instrument_there : (ms : Members) → Gives (instrument_of ms) IsCommand
instrument_there ms =
    after _ (text_member ms key.TypeName) (λ name is_name.
    after _ (number_member 0 86400000 ms key.FrontMs) (λ front is_front.
    after _ (number_member 0 86400000 ms key.ConfigMs) (λ config is_config.
    after _ (number_member 0 86400000 ms key.ReadoutMs) (λ readout is_readout.
    after _ (number_member 0 86400000 ms key.ChangeMs) (λ change is_change.
    record {
      ok = record { type = is_name; first = is_front.high; each_configuration = is_config.high; each_exposure = is_readout.high; each_length = is_change.high };
    })))))

telescope_there : (ms : Members) → Gives (telescope_of ms) IsCommand
telescope_there ms =
    after _ (text_member ms key.Site) (λ site is_site.
    after _ (text_member ms key.Enclosure) (λ enclosure is_enclosure.
    after _ (text_member ms key.Telescope) (λ telescope is_telescope.
    after _ (text_member ms key.Class) (λ class is_class.
    after _ (each_member IsText text_in text_short 1 16 ms key.Instruments) (λ instruments are.
    record {
      ok = record {
        at_site = is_site;
        in_enclosure = is_enclosure;
        code = is_telescope;
        of_class = is_class;
        count = are.count;
        types = are.each;
      };
    })))))

night_there : (ms : Members) → Gives (night_of ms) IsCommand
night_there ms =
    after _ (text_member ms key.Site) (λ site is_site.
    after _ (spans_found ms) (λ spans are.
    record { ok = record { at_site = is_site; times = are } }))

visibility_there : (ms : Members) → Gives (visibility_of ms) IsCommand
visibility_there ms =
    after _ (text_member ms key.Target) (λ target is_target.
    after _ (text_member ms key.Site) (λ site is_site.
    after _ (spans_found ms) (λ spans are.
    record { ok = record { what = is_target; at_site = is_site; times = are } })))

telescope_scope_there : (ms : Members) → Gives (telescope_scope_of ms) IsScope
telescope_scope_there ms =
    after _ (text_member ms key.Telescope) (λ telescope is_telescope.
    after _ (text_member ms key.Site) (λ site is_site.
    after _ (text_member ms key.Enclosure) (λ enclosure is_enclosure.
    record { ok = record { at_site = is_site; in_enclosure = is_enclosure; name = is_telescope } })))

scope_there : (ms : Members) → Gives (scope_of ms) IsScope
scope_there ms =
    either (is_some (value_of ms key.Telescope)) (telescope_scope_there ms)
    (after _ (text_member ms key.Site) (λ site is_site. record { ok = is_site }))

close_there : (ms : Members) → Gives (close_of ms) IsCommand
close_there ms =
    after _ (scope_there ms) (λ scope is_scope.
    after _ (spans_found ms) (λ spans are.
    record { ok = record { scope = is_scope; times = are } }))

reopen_there : (ms : Members) → Gives (reopen_of ms) IsCommand
reopen_there ms =
    after _ (scope_there ms) (λ scope is_scope.
    after _ (spans_found ms) (λ spans are.
    record { ok = record { scope = is_scope; times = are } }))

-- ---- accounts and groups

type_there : (x : Account) (ms : Members) → Gives (account_instrument_of x ms) (IsInstrumentOf x)
type_there account.Standard ms = text_member ms key.InstrumentType
type_there account.TimeCritical ms = text_member ms key.InstrumentType
type_there account.RapidResponse ms = text_member ms key.InstrumentType
type_there account.Ipp ms = record { ok = refl }

key_there : (ms : Members) → Gives (key_of ms) IsKey
key_there ms =
    after _ (text_member ms key.Proposal) (λ proposal is_proposal.
    after _ (any (account_of ms)) (λ x _.
    after _ (type_there x ms) (λ instrument is_instrument.
    record { ok = record { payer = is_proposal; type = is_instrument } })))

grant_there : (ms : Members) → Gives (grant_of ms) IsCommand
grant_there ms =
    after _ (key_there ms) (λ k is_key.
    after _ (number_member 1 1000000000 ms key.Seconds) (λ seconds are_seconds.
    record { ok = record { to = is_key; amount = are_seconds } }))

group_there : (ms : Members) (r : Result GroupDoc GroupFault) → group_of ms ≡ r → Gives r IsGroup
group_there ms (Ok g) h = record { ok = groups_are_in_range ms g h }
group_there ms (Err e) h = record { ok = tt }

document_there : (ms : Members) → Gives (document_in ms) IsGroup
document_there ms =
    after group_of (any (in_group (member_of object_in ms key.Group))) (λ inner _. group_there inner (group_of inner) refl)

submit_there : (ms : Members) → Gives (submit_of ms) IsCommand
submit_there ms = after _ (document_there ms) (λ group is_group. record { ok = is_group })

amend_there : (ms : Members) → Gives (amend_of ms) IsCommand
amend_there ms =
    after _ (any (in_group (group_number_of ms))) (λ old _.
    after _ (document_there ms) (λ group is_group. record { ok = is_group }))

withdraw_there : (ms : Members) → Gives (withdraw_of ms) IsCommand
withdraw_there ms = after _ (any (group_number_of ms)) (λ group _. record { ok = tt })

show_there : (ms : Members) → Gives (show_of ms) IsCommand
show_there ms = after _ (any (group_number_of ms)) (λ group _. record { ok = tt })

claim_there : (ms : Members) (r : Result Claim JsonFault) → claim_of ms ≡ r → Gives r IsClaim
claim_there ms (Ok c) h = record { ok = claims_are_in_range ms c h }
claim_there ms (Err e) h = record { ok = tt }

publish_there : (ms : Members) → Gives (publish_of ms) IsCommand
publish_there ms =
    after _ (number_member 0 524288 ms key.Version) (λ version is_version.
    after _ (any (member_of object_in ms key.Claim)) (λ inner _.
    after _ (claim_there inner (claim_of inner) refl) (λ claim is_claim.
    record { ok = record { newest = is_version.high; what = is_claim } })))

-- ---- lines

command_there : (v : Verb) (ms : Members) → Gives (command_of v ms) IsCommand
command_there verb.Open ms = read (open_there ms)
command_there verb.Instrument ms = read (instrument_there ms)
command_there verb.Telescope ms = read (telescope_there ms)
command_there verb.Night ms = read (night_there ms)
command_there verb.Visibility ms = read (visibility_there ms)
command_there verb.Close ms = read (close_there ms)
command_there verb.Reopen ms = read (reopen_there ms)
command_there verb.Grant ms = read (grant_there ms)
command_there verb.Submit ms = read_of_group (submit_there ms)
command_there verb.Amend ms = read_of_group (amend_there ms)
command_there verb.Withdraw ms = read (withdraw_there ms)
command_there verb.Clock ms = read (clock_there ms)
command_there verb.Report ms = read (report_there ms)
command_there verb.Plan ms = record { ok = tt }
command_there verb.Publish ms = read (publish_there ms)
command_there verb.Export ms = record { ok = tt }
command_there verb.Balances ms = record { ok = tt }
command_there verb.Show ms = read (show_there ms)

bytes_there : (bytes : List ℕ) → Gives (command_of_bytes bytes) IsCommand
bytes_there bytes =
    after command_in (any (in_line (document_of bytes))) (λ ms _.
    after (λ v. command_of v ms) (any (verb_of ms)) (λ v _. command_there v ms))

line_there : (l : ScriptLine) → Gives (command_of_line l) IsCommand
line_there line.TooLong = record { ok = tt }
line_there (line.Bytes bytes) = bytes_there bytes

-- the command that a line is lies in its ranges
pub in_range : (l : ScriptLine) (c : Command) → command_of_line l ≡ Ok c → IsCommand c
in_range l c h = subst (λ r. IfOk r IsCommand) h (line_there l).ok
