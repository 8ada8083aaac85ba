-- A request that is written is read again.
use Rattle.std.proofs.Common.{◌≡◌, ℕ, suc, ◌≤◌, List, [], ◌∷◌, map, length, All, Bool, true, false, cond, nat_lt, bytes_eq, Option, Some, None}
use Rattle.std.proofs.Common.{option_map, IfSome, Ok, refl, ap, arith}
use Rattle.std.proofs.lemmas.Bool.{lt-ltb, ltb-false}
use Rattle.std.proofs.lemmas.Slice.Eq.{bytes_eq-Decides}
use Rattle.serde_json.specs.Data.{string, array, object, Items, Members}
use Rattle.serde_json.specs.View.{items_of}
use Rattle.plan_base.specs.declared.span.Span.{Span}
use Rattle.plan_json.specs.declared.member.Member.{Member}
use Rattle.plan_json.specs.declared.member.Member.TheVariants as key
use Rattle.plan_json.specs.Reading.{read_each, ◌>>=◌}
use Rattle.plan_json.specs.Object.{value_of, object_in, if_there, or_default}
use Rattle.plan_json.specs.Text.{text_in}
use Rattle.plan_json.specs.Whole.{number_in}
use Rattle.plan_json.specs.Values.{whole, given, given_if, in_byte_order, those_there}
use Rattle.plan_json.specs.Ranges.{IsText}
use Rattle.plan_json.proofs.Back.{number_back, text_back, moment_back, each_back, each_back_from, list_back}
use Rattle.request_model.specs.declared.request.Exposure.{Exposure}
use Rattle.request_model.specs.declared.request.ConfigDoc.{ConfigDoc}
use Rattle.request_model.specs.declared.request.Location.{Location}
use Rattle.request_model.specs.declared.request.Cadence.{Cadence}
use Rattle.request_model.specs.declared.request.When.{When}
use Rattle.request_model.specs.declared.request.When.TheVariants as when
use Rattle.request_model.specs.declared.request.RequestDoc.{RequestDoc}
use Rattle.request_model.specs.declared.read.configuration.Typed.{Typed}
use Rattle.request_model.specs.Configuration.{exposure_in, typed_in, are_of_type, of_one_type}
use Rattle.request_model.specs.Location.{location_of}
use Rattle.request_model.specs.When.{cadence_of, window_in, when_of}
use Rattle.request_model.specs.Request.{request_in}
use Rattle.request_model.specs.Written.{cadence_given, windows_given, exposure_data, configuration_data, location_data, cadence_data, window_data}
use Rattle.request_model.specs.Written.{request_at, request_data}
use Rattle.request_model.specs.Ranges.{IsExposure, IsConfiguration, IsLocation, IsCadence, IsWindow, IsWhen, IsRequest}

exposure_back : (m : Member) (e : Exposure) → IsExposure e → exposure_in m (exposure_data e) ≡ Ok e
exposure_back m e h = rw (number_back 1 86400000 key.ExposureTimeMs e.ms h.time, number_back 1 10000 key.ExposureCount e.count h.number) refl

-- a configuration with its instrument type
abbrev typed : List ℕ → ConfigDoc → Typed
typed type c = record { instrument = type; configuration = c }

configuration_back : (type : List ℕ) → IsText type → (c : ConfigDoc) → IsConfiguration c
    → typed_in key.Configurations (configuration_data type c) ≡ Ok (typed type c)
configuration_back type is_type c h =
    rw (
      text_back key.InstrumentType type is_type,
      text_back key.Name c.target h.name,
      list_back exposure_data key.InstrumentConfigs 1 16 c.exposures h.count,
      each_back IsExposure exposure_data (exposure_in key.InstrumentConfigs) (exposure_back key.InstrumentConfigs) c.exposures h.each,
    ) refl

typed_back : (type : List ℕ) → IsText type → (cs : List ConfigDoc) → All IsConfiguration cs
    → read_each (typed_in key.Configurations) (map (configuration_data type) cs) ≡ Ok (map (typed type) cs)
typed_back type is_type [] all = refl
typed_back type is_type (c ∷ cs) all =
    let first : IsConfiguration c = all 0 c (omega arith) in
    let rest : All IsConfiguration cs = λ k d lt. all (suc k) d (omega (arith, lt)) in
    rw (configuration_back type is_type c first, typed_back type is_type cs rest) refl

same_text : (s : List ℕ) → bytes_eq s s ≡ true
same_text s = (bytes_eq-Decides s s).1 refl

all_of_type : (type : List ℕ) (cs : List ConfigDoc) → are_of_type type (map (typed type) cs) ≡ true
all_of_type type [] = refl
all_of_type type (c ∷ cs) = rw (same_text type, all_of_type type cs) refl

without_types : (type : List ℕ) (cs : List ConfigDoc) → map (λ t. t.configuration) (map (typed type) cs) ≡ cs
without_types type [] = refl
without_types type (c ∷ cs) = ap (λ rest. c ∷ rest) (without_types type cs)

one_type_back : (index : ℕ) (type : List ℕ) (cs : List ConfigDoc) → 1 ≤ length cs
    → of_one_type index (map (typed type) cs) ≡ Ok (record { instrument = type; configurations = cs })
one_type_back index type [] h = absurd (omega arith)
one_type_back index type (c ∷ cs) h = rw (all_of_type type (c ∷ cs), without_types type cs) refl

-- what the location's members are
abbrev place_members : List ℕ → Option (List ℕ) → Option (List ℕ) → Option (List ℕ) → Members
place_members class site enclosure telescope =
    those_there (in_byte_order
    (given key.TelescopeClass (string class) ∷ given_if key.Site (option_map string site) ∷ given_if key.Enclosure (option_map string enclosure)
    ∷ given_if key.Telescope (option_map string telescope) ∷ []))

place_found : (class : List ℕ) (site enclosure telescope : Option (List ℕ)) → let ms = place_members class site enclosure telescope in
    (value_of ms key.TelescopeClass ≡ Some (string class)) × (value_of ms key.Site ≡ option_map string site)
    × (value_of ms key.Enclosure ≡ option_map string enclosure) × (value_of ms key.Telescope ≡ option_map string telescope)
place_found class None None None = (refl, refl, refl, refl)
place_found class None None (Some t) = (refl, refl, refl, refl)
place_found class None (Some e) None = (refl, refl, refl, refl)
place_found class None (Some e) (Some t) = (refl, refl, refl, refl)
place_found class (Some s) None None = (refl, refl, refl, refl)
place_found class (Some s) None (Some t) = (refl, refl, refl, refl)
place_found class (Some s) (Some e) None = (refl, refl, refl, refl)
place_found class (Some s) (Some e) (Some t) = (refl, refl, refl, refl)

text_if_back : (ms : Members) (m : Member) (o : Option (List ℕ)) → value_of ms m ≡ option_map string o → IfSome o IsText → if_there text_in ms m ≡ Ok o
text_if_back ms m None found h = rw found refl
text_if_back ms m (Some s) found h = rw (found, text_back m s h) refl

location_back : (l : Location) → IsLocation l → (object_in key.Location (location_data l) >>= location_of) ≡ Ok l
location_back l h =
    let ms = place_members l.class l.site l.enclosure l.telescope in
    let found = place_found l.class l.site l.enclosure l.telescope in
    rw (
      found.0,
      text_back key.TelescopeClass l.class h.of_class,
      text_if_back ms key.Site l.site found.1 h.at_site,
      text_if_back ms key.Enclosure l.enclosure found.2 h.in_enclosure,
      text_if_back ms key.Telescope l.telescope found.3 h.on_telescope,
    ) refl

cadence_back : (c : Cadence) → IsCadence c → (object_in key.Cadence (cadence_data c) >>= cadence_of) ≡ Ok c
cadence_back c h =
    rw (
      moment_back key.Start c.start h.first,
      moment_back key.End c.end h.last,
      number_back 0 15552000 key.Period c.period (record { low = omega arith; high = h.apart }),
      number_back 0 15552000 key.Jitter c.jitter (record { low = omega arith; high = h.round }),
    ) refl

window_back : (index place : ℕ) (w : Span) → IsWindow w → window_in index place (window_data w) ≡ Ok w
window_back index place w h =
    rw (
      moment_back key.Start w.from (omega (arith, h.order, h.last)),
      moment_back key.End w.to h.last,
      lt-ltb w.from.0 w.to.0 h.order,
    ) refl

when_back : (index : ℕ) (ms : Members) (w : When) → value_of ms key.Cadence ≡ cadence_given w → value_of ms key.Windows ≡ windows_given w → IsWhen w
    → when_of index ms ≡ Ok w
when_back index ms (when.Cadence c) has_cadence has_windows h = rw (has_cadence, cadence_back c h) refl
when_back index ms (when.Windows ws) has_cadence has_windows h =
    rw (
      has_cadence,
      has_windows,
      list_back window_data key.Windows 1 32 ws h.count,
      each_back_from IsWindow window_data (window_in index) (window_back index) 0 ws h.each,
    ) refl

fade_back : (ms : Members) (fade : ℕ) (b : Bool) → nat_lt 0 fade ≡ b → value_of ms key.Fade ≡ cond b (Some (whole fade)) None → fade ≤ 1000
    → or_default 0 (number_in 0 1000) ms key.Fade ≡ Ok fade
fade_back ms fade true above found h = rw (found, number_back 0 1000 key.Fade fade (record { low = omega arith; high = h })) refl
fade_back ms fade false above found h =
    let none : 0 ≡ fade = omega (arith, ltb-false 0 fade above) in
    rw found (ap Ok none)

-- a request's members, of which one stands where a cadence or windows may, and another where a fade is
abbrev members : Members → Items → ℕ → ℕ → When → Bool → Members
members place all least lost times b =
    those_there (in_byte_order
    (given key.Location (object place) ∷ given_if key.Cadence (cadence_given times) ∷ given_if key.Windows (windows_given times)
    ∷ given key.Configurations (array all) ∷ given key.AcceptabilityThreshold (whole least)
    ∷ given_if key.Fade (option_map whole (cond b (Some lost) None)) ∷ []))

-- what is found of them
record AreFound (place : Members) (all : Items) (least lost : ℕ) (times : When) (b : Bool) (ms : Members) : Type 0 where
  location : value_of ms key.Location ≡ Some (object place)
  cadence : value_of ms key.Cadence ≡ cadence_given times
  windows : value_of ms key.Windows ≡ windows_given times
  configurations : value_of ms key.Configurations ≡ Some (array all)
  threshold : value_of ms key.AcceptabilityThreshold ≡ Some (whole least)
  fade : value_of ms key.Fade ≡ cond b (Some (whole lost)) None

are_found : (place : Members) (all : Items) (least lost : ℕ) (times : When) (b : Bool)
    → AreFound place all least lost times b (members place all least lost times b)
are_found place all least lost (when.Cadence c) true =
    record { location = refl; cadence = refl; windows = refl; configurations = refl; threshold = refl; fade = refl }
are_found place all least lost (when.Cadence c) false =
    record { location = refl; cadence = refl; windows = refl; configurations = refl; threshold = refl; fade = refl }
are_found place all least lost (when.Windows ws) true =
    record { location = refl; cadence = refl; windows = refl; configurations = refl; threshold = refl; fade = refl }
are_found place all least lost (when.Windows ws) false =
    record { location = refl; cadence = refl; windows = refl; configurations = refl; threshold = refl; fade = refl }

pub request_back : (index : ℕ) (r : RequestDoc) → IsRequest r → request_in index (request_data r) ≡ Ok r
unfolding request_at
request_back index r h =
    let place = place_members r.location.class r.location.site r.location.enclosure r.location.telescope in
    let all = items_of (map (configuration_data r.instrument) r.configurations) in
    let above = nat_lt 0 r.fade in
    let ms = members place all r.threshold r.fade r.when above in
    let found = are_found place all r.threshold r.fade r.when above in
    rw (
      found.location,
      location_back r.location h.place,
      when_back index ms r.when found.cadence found.windows h.times,
      found.configurations,
      list_back (configuration_data r.instrument) key.Configurations 1 16 r.configurations h.taken.count,
      typed_back r.instrument h.type r.configurations h.taken.each,
      one_type_back index r.instrument r.configurations h.taken.count.low,
      found.threshold,
      number_back 0 100 key.AcceptabilityThreshold r.threshold (record { low = omega arith; high = h.least }),
      fade_back ms r.fade above refl found.fade h.lost,
    ) refl
