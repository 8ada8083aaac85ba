-- A group that was read lies in the ranges.
use Rattle.std.proofs.Common.{◌≡◌, ℕ, List, [], ◌∷◌, map, length, All, true, nat_lt, is_some, Result, Ok, Err, IfOk, sym, ap, ◌∙◌, subst, arith, ltb-true}
use Rattle.std.proofs.lemmas.List.Elements.{All-head, All-map}
use Rattle.serde_json.specs.Data.{Data, Members}
use Rattle.plan_base.specs.declared.parts.Op.{Op}
use Rattle.plan_json.specs.declared.member.Member.{Member}
use Rattle.plan_json.specs.declared.member.Member.TheVariants as key
use Rattle.plan_json.specs.declared.fault.JsonFault.{JsonFault}
use Rattle.plan_json.specs.Reading.{read_from}
use Rattle.plan_json.specs.Object.{value_of, member_of, object_in}
use Rattle.plan_json.specs.Operator.{operator_in}
use Rattle.plan_json.specs.List.{list_in}
use Rattle.plan_json.specs.Ranges.{IsBetween, IsText}
use Rattle.plan_json.proofs.Back.{as_long}
use Rattle.plan_json.proofs.Ranges.{Gives, any, weaker, either, if_test, after, made, number_member, number_member_or, text_member, text_member_if}
use Rattle.plan_json.proofs.Ranges.{moment_member, list_member, each_member, each_from}
use Rattle.request_model.specs.declared.fault.GroupFault.TheVariants.{BadShape, BadWindow, MixedInstruments}
use Rattle.request_model.specs.declared.request.When.TheVariants as when
use Rattle.request_model.specs.declared.request.RequestDoc.{RequestDoc}
use Rattle.request_model.specs.declared.read.configuration.Typed.{Typed}
use Rattle.request_model.specs.declared.read.configuration.OfOneType.{OfOneType}
use Rattle.request_model.specs.Fault.{in_group}
use Rattle.request_model.specs.Configuration.{exposure_of, exposure_in, typed_of, typed_in, are_of_type, of_one_type, configurations_of}
use Rattle.request_model.specs.Location.{location_of}
use Rattle.request_model.specs.When.{cadence_of, window_in, windows_of, when_of}
use Rattle.request_model.specs.Request.{request_of, request_in}
use Rattle.request_model.specs.Group.{kind_of, ipp_of, is_shape, requests_of, group_of}
use Rattle.request_model.specs.Ranges.{IsExposure, IsConfiguration, AreConfigurations, IsLocation, IsCadence, IsWindow, AreWindows, IsWhen, IsRequest, IsGroup}
use Rattle.request_model.specs.Laws.{GroupsAreInRange}

-- what was read, its fault being the group's
grouped : {T : Type 0} {P : T → Type 0} {r : Result T JsonFault} → Gives r P → Gives (in_group r) P
grouped {r = Ok x} h = record { ok = h.ok }
grouped {r = Err e} h = record { ok = tt }

-- ---- configurations

exposure_there : (ms : Members) → Gives (exposure_of ms) IsExposure
exposure_there ms =
    after _ (number_member 1 86400000 ms key.ExposureTimeMs) (λ time is_time.
    after _ (number_member 1 10000 ms key.ExposureCount) (λ number is_number.
    record { ok = record { time = is_time; number = is_number } }))

exposure_found : (m : Member) (d : Data) → Gives (exposure_in m d) IsExposure
exposure_found m d = after exposure_of (any (object_in m d)) (λ ms _. exposure_there ms)

record IsTyped (t : Typed) : Type 0 where
  type : IsText t.instrument
  configuration : IsConfiguration t.configuration

typed_there : (ms : Members) → Gives (typed_of ms) IsTyped
typed_there ms =
    after _ (text_member ms key.InstrumentType) (λ type is_type.
    after _ (any (member_of object_in ms key.Target)) (λ sky _.
    after _ (text_member sky key.Name) (λ name is_name.
    after _ (each_member IsExposure exposure_in exposure_found 1 16 ms key.InstrumentConfigs) (λ es are.
    record { ok = record { type = is_type; configuration = record { name = is_name; count = are.count; each = are.each } } }))))

typed_found : (m : Member) (d : Data) → Gives (typed_in m d) IsTyped
typed_found m d = after typed_of (any (object_in m d)) (λ ms _. typed_there ms)

record IsTaken (all : OfOneType) : Type 0 where
  type : IsText all.instrument
  each : AreConfigurations all.configurations

one_type_there : (index : ℕ) (ts : List Typed) → IsBetween 1 16 (length ts) → All IsTyped ts → Gives (of_one_type index ts) IsTaken
one_type_there index [] few are = record { ok = tt }
one_type_there index (t ∷ ts) few are =
    if_test IsTaken (are_of_type t.instrument (t ∷ ts)) (record { instrument = t.instrument; configurations = map (λ u. u.configuration) (t ∷ ts) })
    (MixedInstruments index)
    (λ _. record {
      type = (All-head IsTyped t ts are).type;
      each = record {
        count = subst (IsBetween 1 16) (sym (as_long (λ (u : Typed). u.configuration) (t ∷ ts))) few;
        each = All-map IsConfiguration (λ (u : Typed). u.configuration) (t ∷ ts) (λ k d lt. (are k d lt).configuration);
      };
    })

configurations_there : (index : ℕ) (ms : Members) → Gives (configurations_of index ms) IsTaken
configurations_there index ms =
    after (of_one_type index) (grouped (each_member IsTyped typed_in typed_found 1 16 ms key.Configurations)) (λ ts are.
    one_type_there index ts are.count are.each)

-- ---- where and when

location_there : (ms : Members) → Gives (location_of ms) IsLocation
location_there ms =
    after _ (text_member ms key.TelescopeClass) (λ class is_class.
    after _ (text_member_if ms key.Site) (λ site is_site.
    after _ (text_member_if ms key.Enclosure) (λ enclosure is_enclosure.
    after _ (text_member_if ms key.Telescope) (λ telescope is_telescope.
    record { ok = record { of_class = is_class; at_site = is_site; in_enclosure = is_enclosure; on_telescope = is_telescope } }))))

cadence_there : (ms : Members) → Gives (cadence_of ms) IsCadence
cadence_there ms =
    after _ (moment_member ms key.Start) (λ first is_first.
    after _ (moment_member ms key.End) (λ last is_last.
    after _ (number_member 0 15552000 ms key.Period) (λ apart is_apart.
    after _ (number_member 0 15552000 ms key.Jitter) (λ round is_round.
    record { ok = record { first = is_first; last = is_last; apart = is_apart.high; round = is_round.high } }))))

window_there : (index window : ℕ) (d : Data) → Gives (window_in index window d) IsWindow
window_there index window d =
    after _ (any (in_group (object_in key.Windows d))) (λ ms _.
    after _ (grouped (moment_member ms key.Start)) (λ first is_first.
    after _ (grouped (moment_member ms key.End)) (λ last is_last.
    if_test IsWindow (nat_lt first.0 last.0) (record { from = first; to = last }) (BadWindow index window)
    (λ h. record { order = ltb-true first.0 last.0 h; last = is_last }))))

windows_there : (index : ℕ) (ms : Members) → Gives (windows_of index ms) AreWindows
windows_there index ms =
    after (read_from (window_in index) 0) (grouped (list_member 1 32 ms key.Windows)) (λ ds few.
    weaker (each_from IsWindow (window_in index) (window_there index) 0 ds)
    (λ ws are. record { count = subst (IsBetween 1 32) (sym are.count) few; each = are.all }))

when_there : (index : ℕ) (ms : Members) → Gives (when_of index ms) IsWhen
when_there index ms =
    either (is_some (value_of ms key.Cadence))
    (made IsWhen when.Cadence (grouped (after cadence_of (any (member_of object_in ms key.Cadence)) (λ inner _. cadence_there inner))) (λ c is. is))
    (made IsWhen when.Windows (windows_there index ms) (λ ws are. are))

-- ---- requests and groups

request_there : (index : ℕ) (ms : Members) → Gives (request_of index ms) IsRequest
request_there index ms =
    after _ (grouped (after location_of (any (member_of object_in ms key.Location)) (λ inner _. location_there inner))) (λ place is_place.
    after _ (when_there index ms) (λ times are_times.
    after _ (configurations_there index ms) (λ all are.
    after _ (grouped (number_member_or 0 100 90 ms key.AcceptabilityThreshold (record { low = omega arith; high = omega arith }))) (λ least is_least.
    after _ (grouped (number_member_or 0 1000 0 ms key.Fade (record { low = omega arith; high = omega arith }))) (λ lost is_lost.
    record { ok = record { place = is_place; times = are_times; type = are.type; taken = are.each; least = is_least.high; lost = is_lost.high } })))))

request_found : (index : ℕ) (d : Data) → Gives (request_in index d) IsRequest
request_found index d = after (request_of index) (any (in_group (object_in key.Requests d))) (λ ms _. request_there index ms)

record AreRequests (op : Op) (rs : List RequestDoc) : Type 0 where
  shape : is_shape op (length rs) ≡ true
  each : All IsRequest rs

requests_there : (op : Op) (ms : Members) → Gives (requests_of op ms) (AreRequests op)
requests_there op ms =
    after _ (any (in_group (member_of (λ m. list_in m 0 1024) ms key.Requests))) (λ ds _.
    after (read_from request_in 0) (if_test (λ es. is_shape op (length es) ≡ true) (is_shape op (length ds)) ds (BadShape op (length ds)) (λ h. h)) (λ es shape.
    weaker (each_from IsRequest request_in request_found 0 es) (λ rs are. record { shape = ap (is_shape op) are.count ∙ shape; each = are.all })))

ipp_there : (ms : Members) → Gives (ipp_of ms) (IsBetween 500 2000)
ipp_there ms =
    either (is_some (value_of ms key.IppThousandths)) (number_member 500 2000 ms key.IppThousandths)
    (either (is_some (value_of ms key.IppValue)) (record { ok = tt }) (record { ok = record { low = omega arith; high = omega arith } }))

group_there : (ms : Members) → Gives (group_of ms) IsGroup
group_there ms =
    after _ (grouped (text_member ms key.Name)) (λ name is_name.
    after _ (grouped (text_member ms key.Proposal)) (λ proposal is_proposal.
    after _ (any (in_group (member_of operator_in ms key.Operator))) (λ op _.
    after _ (any (in_group (kind_of ms))) (λ kind _.
    after _ (grouped (ipp_there ms)) (λ ipp is_ipp.
    after _ (grouped (number_member_or 1 100 10 ms key.Priority (record { low = omega arith; high = omega arith }))) (λ priority is_priority.
    after _ (requests_there op ms) (λ requests are.
    record { ok = record { title = is_name; payer = is_proposal; share = is_ipp; rank = is_priority; shape = are.shape; each = are.each } })))))))

pub groups_are_in_range : GroupsAreInRange
groups_are_in_range ms g read = subst (λ r. IfOk r IsGroup) read (group_there ms).ok
