-- The lines that say what there is keep the desk.
use Rattle.std.proofs.Common.{◌≡◌, ◌∙◌, ℕ, ◌<◌, ◌≤◌, refl, sym, Bool, true, false, nat_lt, nat_le, min, List, [], ◌∷◌, ◌++◌, length, length-append}
use Rattle.std.proofs.Common.{All, Option, Some, None, arith}
use Rattle.std.specs.Prelude.{if◌then◌else◌}
use Rattle.std.specs.List.{AllZip}
use Rattle.std.specs.Option.{option_map, option_map_or, option_or, option_and_then}
use Rattle.std.proofs.lemmas.Bool.{and_parts, ltb-true}
use Rattle.std.proofs.lemmas.Bool.Decides.{nat_tests}
use Rattle.std.proofs.lemmas.List.Elements.{All-nil, All-cons, All-head, All-tail, All-weaker}
use Rattle.plan_base.specs.declared.span.Span.{Span}
use Rattle.site_model.specs.declared.calendar.SkyKey.{SkyKey}
use Rattle.site_model.specs.declared.changes.Change.{Change}
use Rattle.site_model.specs.declared.code.Code.{Code}
use Rattle.site_model.specs.declared.code.InstrumentTimes.{InstrumentTimes}
use Rattle.site_model.specs.declared.code.Scope.{Scope}
use Rattle.site_model.specs.declared.fault.FullOf.TheVariants.{Telescopes}
use Rattle.site_model.specs.declared.fault.SiteFault.TheVariants.{Repeated, NoSuchInstrument}
use Rattle.site_model.specs.Calendar.{with_night, with_sky}
use Rattle.plan_base.specs.Limits.{most_telescopes}
use Rattle.site_model.specs.Limits.{full}
use Rattle.site_model.specs.Names.{is_named, number_of, numbered, first_unnamed}
use Rattle.site_model.specs.Network.{NetworkSeen, sky_key}
use Rattle.site_model.specs.Registry.{RegistrySeen, codes_of, is_coded, most_index, instrument_names, full_sites, telescope_refusal, with_target}
use Rattle.desk_runs.specs.declared.group.Group.{Group}
use Rattle.desk_events.specs.declared.reply.Reply.{Reply}
use Rattle.desk_core.specs.declared.desk.Submitted.{Submitted}
use Rattle.desk_core.specs.declared.desk.Wanted.{Wanted}
use Rattle.desk_core.specs.Desk.{DeskSeen}
use Rattle.desk_core.specs.Kept.{IsWanted, IsAlong, AreClosures, IsDesk}
use Rattle.desk_core.specs.Refusals.{refusal_of_site}
use Rattle.desk_core.specs.Registering.{with_network, on_instrument, on_telescope, on_night, on_visibility, on_closure, closures_after, closed_after, in_scope}
use Rattle.desk_core.specs.Seconds.{spans_below, spans_of, end_of_time}
use Rattle.desk_core.proofs.Closures.{IsEarly, length_after, few_unrefused}
use Rattle.desk_core.proofs.Seconds.{set_below}

-- ---- another network

-- a request is wanted as before where more targets are numbered
wanted_more : (n m : ℕ) (q : Wanted) → n ≤ m → IsWanted n q → IsWanted m q
wanted_more n m q le h = record {
  place = h.place;
  type = h.type;
  least = h.least;
  lost = h.lost;
  worth = h.worth;
  times = h.times;
  few = h.few;
  known = All-weaker (λ t. t.0 < n) (λ t. t.0 < m) (λ t lt. omega arith) q.targets h.known;
}

along_more : (n m : ℕ) (ws : List Submitted) (gs : List Group) → n ≤ m → AllZip (IsAlong n) ws gs → AllZip (IsAlong m) ws gs
along_more n m [] [] le h = tt
along_more n m [] (g ∷ gs) le h = absurd h
along_more n m (w ∷ ws) [] le h = absurd h
along_more n m (w ∷ ws) (g ∷ gs) le h =
    let one : IsAlong m w g = record {
      document = h.0.document;
      count = h.0.count;
      shape = h.0.shape;
      wanted = All-weaker (IsWanted n) (IsWanted m) (λ q is. wanted_more n m q le is) w.requests h.0.wanted;
      asked = h.0.asked;
    } in
    (one, along_more n m ws gs le h.1)

-- a desk is one with another network, which has no fewer targets, and closures in order
pub network_keeps : (d : DeskSeen) (n : NetworkSeen) → IsDesk d → length d.network.registry.targets ≤ length n.registry.targets
    → AreClosures (length n.registry.telescopes) n.calendar.closures
    → IsDesk (with_network n d)
network_keeps d n h more closures = record {
  opening = h.opening;
  len = h.len;
  moment = h.moment;
  sound = h.sound;
  along = along_more (length d.network.registry.targets) (length n.registry.targets) d.groups d.progress.groups more h.along;
  pending = h.pending;
  once = h.once;
  held = h.held;
  granted = h.granted;
  charged = h.charged;
  closures = closures;
  published = h.published;
}

-- ---- instruments, nights and skies

pub instrument_keeps : (d : DeskSeen) (name : List ℕ) (times : InstrumentTimes) → IsDesk d → IsDesk (on_instrument d name times).desk
instrument_keeps d name times h = network_keeps d (on_instrument d name times).desk.network h (omega arith) h.closures

pub night_keeps : (d : DeskSeen) (site : List ℕ) (spans : List Span) → IsDesk d → IsDesk (on_night d site spans).desk
night_keeps d site spans h = by (number_of d.network.registry.sites site)
  where
    by : (o : Option ℕ) → IsDesk (with_network
        (option_map_or (λ s. record d.network { calendar = with_night d.network.calendar s (spans_of spans) }) o d.network) d)
    by None = network_keeps d d.network h (omega arith) h.closures
    by (Some s) = network_keeps d (record d.network { calendar = with_night d.network.calendar s (spans_of spans) }) h (omega arith) h.closures

-- no target is lost where one gets a number
numbered_more : (names : List (List ℕ)) (name : List ℕ) → length names ≤ length (numbered names name)
numbered_more names name = by (is_named names name)
  where
    by : (b : Bool) → length names ≤ length (if b then names else names ++ name ∷ [])
    by true = omega arith
    by false = let more = length-append names (name ∷ []) in omega (arith, more)

pub visibility_keeps : (d : DeskSeen) (target site : List ℕ) (spans : List Span) → IsDesk d → IsDesk (on_visibility d target site spans).desk
visibility_keeps d target site spans h = by (sky_key (with_target d.network.registry target) target site)
  where
    by : (o : Option SkyKey)
        → IsDesk (with_network (option_map_or
        (λ key. record { registry = with_target d.network.registry target; calendar = with_sky d.network.calendar key (spans_of spans) }) o
        d.network) d)
    by None = network_keeps d d.network h (omega arith) h.closures
    by (Some key) =
        network_keeps d record { registry = with_target d.network.registry target; calendar = with_sky d.network.calendar key (spans_of spans) } h
        (numbered_more d.network.registry.targets target) h.closures

-- ---- telescopes

-- a telescope that isn't refused has a number below the most
has_room : (r : RegistrySeen) (code : Code) (given : List (List ℕ)) → option_and_then refusal_of_site (telescope_refusal r code given) ≡ None
    → length r.telescopes < most_telescopes
has_room r code given e = by (first_unnamed (instrument_names r) given) (is_coded r code) (nat_le most_telescopes (length r.telescopes)) refl e
  where
    by : (o : Option ℕ) (coded many : Bool) → nat_le most_telescopes (length r.telescopes) ≡ many
        → option_and_then refusal_of_site (option_or (option_map (λ i. NoSuchInstrument (min i most_index)) o)
        (if coded then Some Repeated else option_or (if many then Some (full Telescopes) else None) (full_sites r code.site))) ≡ None
        → length r.telescopes < most_telescopes
    by (Some i) coded many is none = absurd (cc)
    by None true many is none = absurd (cc)
    by None false true is none = absurd (cc)
    by None false false is none = grind (arith, nat_tests, is)

pub telescope_keeps : (d : DeskSeen) (code : Code) (class : List ℕ) (instruments : List (List ℕ)) → IsDesk d
    → (on_telescope d code class instruments).refusal ≡ None
    → IsDesk (on_telescope d code class instruments).desk
telescope_keeps d code class instruments h e =
    let r = d.network.registry in
    let room : length r.telescopes < most_telescopes = has_room r code instruments e in
    let more = length-append r.telescopes (record { code = code; class = class; instruments = instruments } ∷ []) in
    network_keeps d (on_telescope d code class instruments).desk.network h (omega arith) record {
      telescopes = omega (arith, room, more);
      places = h.closures.places;
      few = h.closures.few;
      early = h.closures.early;
    }

-- ---- closures

-- each second of what a line leaves is before the end of time
early_below : (test : ℕ → Bool) → IsEarly (spans_below test end_of_time)
early_below test x h = ltb-true x end_of_time (and_parts (nat_lt x end_of_time) (test x) (sym ((set_below test end_of_time).seconds x) ∙ h)).0

all_early : (change : Change) (scope : Scope) (spans : List Span) (codes : List Code) (old : List (List Span)) → All IsEarly old
    → All IsEarly (closures_after change scope spans codes old)
all_early change scope spans [] old h = h
all_early change scope spans (c ∷ codes) [] h = All-nil IsEarly
all_early change scope spans (c ∷ codes) (x ∷ old) h =
    All-cons IsEarly (if in_scope scope c then spans_below (closed_after change x spans) end_of_time else x)
    (closures_after change scope spans codes old) (by (in_scope scope c))
    (all_early change scope spans codes old (All-tail IsEarly x old h))
  where
    by : (b : Bool) → IsEarly (if b then spans_below (closed_after change x spans) end_of_time else x)
    by true = early_below (closed_after change x spans)
    by false = All-head IsEarly x old h

pub closure_keeps : (d : DeskSeen) (change : Change) (scope : Scope) (spans : List Span) (done : Reply) → IsDesk d
    → (on_closure d change scope spans done).refusal ≡ None
    → IsDesk (on_closure d change scope spans done).desk
closure_keeps d change scope spans done h e =
    let old = d.network.calendar.closures in
    let codes = codes_of d.network.registry in
    network_keeps d (on_closure d change scope spans done).desk.network h (omega arith) record {
      telescopes = h.closures.telescopes;
      places = length_after change scope spans codes old ∙ h.closures.places;
      few = few_unrefused d change scope spans done e;
      early = all_early change scope spans codes old h.closures.early;
    }
