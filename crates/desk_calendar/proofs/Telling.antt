-- What the lines do that tell telescopes, closures, nights and skies.
use Rattle.std.proofs.Common.{◌≡◌, ◌∙◌, ap, sym, subst, refl, ℕ, ◌+◌, ◌<◌, ◌≤◌, Bool, true, false, nat_le, min, List, [], ◌∷◌, ◌++◌, length}
use Rattle.std.proofs.Common.{length-append, map, arith, Option, Some, None, Ok}
use Rattle.std.specs.Prelude.{IsTrue, if◌then◌else◌, slice_set}
use Rattle.std.specs.Option.{IfSome, option_to_list, option_map, option_map_or, option_or, option_and_then}
use Rattle.std.proofs.lemmas.Bool.Decides.{nat_tests}
use Rattle.std.proofs.lemmas.List.{append-nil, map-append}
use Rattle.std.proofs.Math.ListN.{length-map}
use Rattle.indexmap.specs.IndexMap.{insert_entry}
use Rattle.plan_base.specs.declared.number.TelescopeNo.{TelescopeNo}
use Rattle.plan_base.specs.declared.span.Span.{Span}
use Rattle.site_model.specs.declared.calendar.SkyKey.{SkyKey}
use Rattle.site_model.specs.declared.changes.Change.{Change}
use Rattle.site_model.specs.declared.code.Code.{Code}
use Rattle.site_model.specs.declared.code.Scope.{Scope}
use Rattle.site_model.specs.declared.fault.FullOf.TheVariants.{Telescopes, Sites}
use Rattle.site_model.specs.declared.fault.SiteFault.{SiteFault}
use Rattle.site_model.specs.declared.fault.SiteFault.TheVariants.{Repeated, NoSuchInstrument, NoSuchSite}
use Rattle.site_model.specs.Calendar.{with_night, is_sky, sky_refusal, with_sky}
use Rattle.plan_base.specs.Limits.{most_telescopes}
use Rattle.site_model.specs.Limits.{most_sites, full}
use Rattle.site_model.specs.Names.{is_named, number_of, numbered, first_unnamed}
use Rattle.site_model.specs.Network.{NetworkSeen, sky_key, site_refusal, visibility_refusal}
use Rattle.site_model.specs.Registry.{RegistrySeen, TelescopeSeen, codes_of, is_coded, most_index, instrument_names, full_sites, telescope_refusal, with_target}
use Rattle.site_model.specs.Registry.{target_refusal}
use Rattle.desk_events.specs.declared.command.Command.{Command}
use Rattle.desk_events.specs.declared.command.Command.TheVariants as command
use Rattle.desk_events.specs.declared.reply.Reply.{Reply}
use Rattle.desk_events.specs.declared.reply.Reply.TheVariants as reply
use Rattle.desk_events.specs.Ranges.{AreSpans}
use Rattle.desk_core.specs.Desk.{DeskSeen, Decision}
use Rattle.desk_core.specs.Refusals.{refusal_of_site}
use Rattle.desk_core.specs.Registering.{on_telescope, on_night, on_visibility, on_closure}
use Rattle.desk_core.specs.Seconds.{spans_of}
use Rattle.desk_core.proofs.Early.{early}
use Rattle.desk_calendar.specs.Nights.{SiteNight, night_in}
use Rattle.desk_calendar.specs.Skies.{TargetSky, sky_in}
use Rattle.desk_calendar.specs.Told.{Closing, code_in, closing_in}
use Rattle.desk_calendar.proofs.Closures.{IsEarly}
use Rattle.desk_calendar.proofs.Goes.{closures_by, sites_by, Goes}
use Rattle.desk_calendar.proofs.Nights.{nights_by, number_there}
use Rattle.desk_calendar.proofs.Skies.{skies_by, key_at, key_of}
use Rattle.desk_calendar.proofs.Sites.{now_there}

-- a telescope that isn't refused has a number below the most
has_room : (r : RegistrySeen) (code : Code) (given : List (List ℕ)) → option_and_then refusal_of_site (telescope_refusal r code given) ≡ None
    → length r.telescopes < most_telescopes
has_room r code given e = by (first_unnamed (instrument_names r) given) (is_coded r code) (nat_le most_telescopes (length r.telescopes)) refl e
  where
    by : (o : Option ℕ) (coded many : Bool) → nat_le most_telescopes (length r.telescopes) ≡ many
        → option_and_then refusal_of_site (option_or (option_map (λ i. NoSuchInstrument (min i most_index)) o)
        (if coded then Some Repeated else option_or (if many then Some (full Telescopes) else None) (full_sites r code.site))) ≡ None
        → length r.telescopes < most_telescopes
    by (Some i) coded many is none = absurd (cc)
    by None true many is none = absurd (cc)
    by None false true is none = absurd (cc)
    by None false false is none = grind (arith, nat_tests, is)

-- nor has its site one that is above the most
has_place : (r : RegistrySeen) (code : Code) (given : List (List ℕ)) → option_and_then refusal_of_site (telescope_refusal r code given) ≡ None
    → length r.sites ≤ most_sites
    → length (numbered r.sites code.site) ≤ most_sites
has_place r code given e few = by (first_unnamed (instrument_names r) given) (is_coded r code) (nat_le most_telescopes (length r.telescopes))
    (is_named r.sites code.site) (nat_le most_sites (length r.sites)) refl e
  where
    by : (o : Option ℕ) (coded many named crowded : Bool) → nat_le most_sites (length r.sites) ≡ crowded
        → option_and_then refusal_of_site (option_or (option_map (λ i. NoSuchInstrument (min i most_index)) o)
        (if coded then Some Repeated else option_or (if many then Some (full Telescopes) else None)
        (if named then None else (if crowded then Some (full Sites) else None)))) ≡ None
        → length (if named then r.sites else r.sites ++ code.site ∷ []) ≤ most_sites
    by (Some i) coded many named crowded is none = absurd (cc)
    by None true many named crowded is none = absurd (cc)
    by None false true named crowded is none = absurd (cc)
    by None false false true crowded is none = few
    by None false false false true is none = absurd (cc)
    by None false false false false is none = let long = length-append r.sites (code.site ∷ []) in
        let low : length r.sites < most_sites = grind (arith, nat_tests, is) in omega (arith, low, long)

-- `telescope`
pub telescope_goes : (d : DeskSeen) (site enclosure telescope class : List ℕ) (instruments : List (List ℕ))
    → (let decision : Decision = on_telescope d record { site = site; enclosure = enclosure; telescope = telescope } class instruments in
    decision.refusal ≡ None → Goes (Ok (command.Telescope site enclosure telescope class instruments)) decision.reply d.network decision.desk.network)
telescope_goes d site enclosure telescope class instruments none =
    let code : Code = record { site = site; enclosure = enclosure; telescope = telescope } in
    let one : TelescopeSeen = record { code = code; class = class; instruments = instruments } in
    let r : RegistrySeen = d.network.registry in
    let room : length r.telescopes < most_telescopes = has_room r code instruments none in
    let more : codes_of d.network.registry ++ code ∷ [] ≡ map (λ t. t.code) (r.telescopes ++ one ∷ []) =
    sym (map-append (λ (t : TelescopeSeen). t.code) r.telescopes (one ∷ [])) in
    let count : length (map (λ (t : TelescopeSeen). t.code) (r.telescopes ++ one ∷ [])) ≡ length (r.telescopes ++ one ∷ []) =
    length-map (r.telescopes ++ one ∷ []) (λ (t : TelescopeSeen). t.code) in
    let next : length (r.telescopes ++ one ∷ []) ≡ length r.telescopes + 1 = length-append r.telescopes (one ∷ []) in
    let own : length (codes_of r) ≡ length r.telescopes = length-map r.telescopes (λ (t : TelescopeSeen). t.code) in
    record {
      codes = sym more;
      room = λ few. omega (arith, room, count, next);
      closures = refl;
      spans = tt;
      number = λ other k is a. sym (same (record { 0 = length r.telescopes }) k a) ∙ sym own;
      sites = refl;
      place = has_place r code instruments none;
      nights = refl;
      night = tt;
      targets = ([], refl);
      skies = refl;
      sky = tt;
    }
  where
    same : (j k : TelescopeNo) → reply.Telescope j ≡ reply.Telescope k → j.0 ≡ k.0
    same j k a = cc

-- `close` and `reopen`
pub closure_goes : (d : DeskSeen) (c : Command) (change : Change) (scope : Scope) (spans : List Span) (done : Reply) → AreSpans spans
    → code_in (Ok c) done ≡ None → night_in (Ok c) done ≡ None → sky_in (Ok c) done ≡ None
    → closing_in (Ok c) done ≡ Some record { change = change; scope = scope; spans = spans }
    → Goes (Ok c) done d.network (on_closure d change scope spans done).desk.network
closure_goes d c change scope spans done are no_code no_night no_sky says =
    let n : NetworkSeen = d.network in
    record {
      codes = sym (append-nil (codes_of n.registry)) ∙ ap (λ (o : Option Code). codes_of n.registry ++ option_to_list o) (sym no_code);
      room = λ few. few;
      closures = ap (λ (o : Option Closing). closures_by o (codes_of n.registry) n.calendar.closures) (sym says);
      spans = subst (λ (o : Option Closing). IfSome o (λ l. IsEarly l.spans)) (sym says) (λ x h. early spans are.each x h);
      number = λ code k is a. let none : None ≡ Some code = sym no_code ∙ is in absurd (cc);
      sites = ap (λ (o : Option Code). sites_by o n.registry.sites) (sym no_code);
      place = λ few. few;
      nights = ap (λ (o : Option SiteNight). nights_by o n.registry.sites n.calendar.nights) (sym no_night);
      night = subst (λ (o : Option SiteNight). IfSome o (λ night. IsEarly night.spans × IsTrue (is_named n.registry.sites night.site))) (sym no_night) tt;
      targets = ([], refl);
      skies = ap (λ (o : Option TargetSky). skies_by o n.registry.targets n.registry.sites n.calendar.skies) (sym no_sky);
      sky = subst (λ (o : Option TargetSky). IfSome o
          (λ sky. IsEarly sky.spans × IsTrue (is_named n.registry.targets sky.target) × IsTrue (is_named n.registry.sites sky.site)))
          (sym no_sky) tt;
    }

-- a site that isn't refused is there
is_there : (r : RegistrySeen) (site : List ℕ) → option_and_then refusal_of_site (site_refusal r site) ≡ None → is_named r.sites site ≡ true
is_there r site none = by (is_named r.sites site) none
  where
    by : (b : Bool) → option_and_then refusal_of_site (if b then None else Some NoSuchSite) ≡ None → b ≡ true
    by true e = refl
    by false e = absurd (cc)

-- `night`
pub night_goes : (d : DeskSeen) (site : List ℕ) (spans : List Span) → AreSpans spans
    → ((on_night d site spans).refusal ≡ None → Goes (Ok (command.Night site spans)) reply.Night d.network (on_night d site spans).desk.network)
night_goes d site spans are none = record {
  codes = ap codes_of (registry o) ∙ sym (append-nil (codes_of n.registry));
  room = λ few. subst (λ (r : RegistrySeen). length (codes_of r) ≤ most_telescopes) (sym (registry o)) few;
  closures = closures o;
  spans = tt;
  number = λ code k is a. let none : None ≡ Some code = is in absurd (cc);
  sites = ap (λ (r : RegistrySeen). r.sites) (registry o);
  place = λ few. subst (λ (r : RegistrySeen). length r.sites ≤ most_sites) (sym (registry o)) few;
  nights = nights o;
  night = (λ x h. early spans are.each x h, is_there n.registry site none);
  targets = ([], ap (λ (r : RegistrySeen). r.targets) (registry o));
  skies = skies o;
  sky = tt;
}
  where
    n : NetworkSeen
    n = d.network

    o : Option ℕ
    o = number_of n.registry.sites site

    after : Option ℕ → NetworkSeen
    after at = option_map_or (λ s. record n { calendar = with_night n.calendar s (spans_of spans) }) at n

    registry : (at : Option ℕ) → (after at).registry ≡ n.registry
    registry None = refl
    registry (Some s) = refl

    closures : (at : Option ℕ) → (after at).calendar.closures ≡ n.calendar.closures
    closures None = refl
    closures (Some s) = refl

    skies : (at : Option ℕ) → (after at).calendar.skies ≡ n.calendar.skies
    skies None = refl
    skies (Some s) = refl

    nights : (at : Option ℕ) → (after at).calendar.nights ≡ option_map_or (λ s. slice_set n.calendar.nights s (spans_of spans)) at n.calendar.nights
    nights None = refl
    nights (Some s) = refl

-- a site of a sky that isn't refused is there
site_is_there : (n : NetworkSeen) (target site : List ℕ) (spans : List Span) → option_and_then refusal_of_site (visibility_refusal n target site spans) ≡ None
    → is_named n.registry.sites site ≡ true
site_is_there n target site spans none = by (is_named n.registry.sites site) none
  where
    rest : Option SiteFault
    rest = option_or (target_refusal n.registry target)
        (option_and_then (λ key. sky_refusal n.calendar key spans) (sky_key (with_target n.registry target) target site))

    by : (b : Bool) → option_and_then refusal_of_site (option_or (if b then None else Some NoSuchSite) rest) ≡ None → b ≡ true
    by true e = refl
    by false e = absurd (cc)

-- `visibility`
pub sky_goes : (d : DeskSeen) (target site : List ℕ) (spans : List Span) → AreSpans spans
    → ((on_visibility d target site spans).refusal ≡ None
    → Goes (Ok (command.Visibility target site spans)) reply.Visibility d.network (on_visibility d target site spans).desk.network)
sky_goes d target site spans are none =
    let t = number_there (numbered n.registry.targets target) target target_named in
    let s = number_there n.registry.sites site site_named in
    subst (λ (o : Option SkyKey). Goes (Ok (command.Visibility target site spans)) reply.Visibility n (after o)) (sym (known t.0 s.0 t.1 s.1))
    (at_key t.0 s.0 t.1 s.1)
  where
    n : NetworkSeen
    n = d.network

    after : Option SkyKey → NetworkSeen
    after o = option_map_or (λ key. record { registry = with_target n.registry target; calendar = with_sky n.calendar key (spans_of spans) }) o n

    target_named : is_named (numbered n.registry.targets target) target ≡ true
    target_named = now_there n.registry.targets target

    site_named : is_named n.registry.sites site ≡ true
    site_named = site_is_there n target site (spans_of spans) none

    known : (t s : ℕ) → number_of (numbered n.registry.targets target) target ≡ Some t → number_of n.registry.sites site ≡ Some s
        → sky_key (with_target n.registry target) target site ≡ Some (key_at t s)
    known t s at there = ap (λ (a : Option ℕ). key_of a (number_of n.registry.sites site)) at ∙ ap (key_of (Some t)) there

    at_key : (t s : ℕ) → number_of (numbered n.registry.targets target) target ≡ Some t → number_of n.registry.sites site ≡ Some s
        → Goes (Ok (command.Visibility target site spans)) reply.Visibility n (after (Some (key_at t s)))
    at_key t s at there = record {
      codes = sym (append-nil (codes_of n.registry));
      room = λ few. few;
      closures = refl;
      spans = tt;
      number = λ code k is a. let none : None ≡ Some code = is in absurd (cc);
      sites = refl;
      place = λ few. few;
      nights = refl;
      night = tt;
      targets = (target ∷ [], refl);
      skies = ap (λ (o : Option SkyKey). option_map_or (λ key. insert_entry is_sky n.calendar.skies key (spans_of spans)) o n.calendar.skies)
          (sym (known t s at there));
      sky = (λ x h. early spans are.each x h, target_named, site_named);
    }
