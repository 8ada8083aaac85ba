-- What an entry does to the telescopes, the sites, the targets, the closures, the nights and the skies of a network, and what leaves
-- them.
use Rattle.std.proofs.Common.{◌≡◌, ◌∙◌, ap, sym, subst, refl, ℕ, ◌≤◌, List, [], ◌++◌, length, map, fold, Option, Some, None, Result, Ok, Err}
use Rattle.std.specs.Prelude.{IsTrue}
use Rattle.std.specs.Option.{IfSome, option_to_list, option_map_or}
use Rattle.std.proofs.lemmas.List.{append-nil}
use Rattle.plan_base.specs.declared.claim.Claim.{Claim}
use Rattle.plan_base.specs.declared.number.TelescopeNo.{TelescopeNo}
use Rattle.plan_base.specs.declared.span.Span.{Span}
use Rattle.site_model.specs.declared.code.Code.{Code}
use Rattle.plan_base.specs.Limits.{most_telescopes}
use Rattle.site_model.specs.Limits.{most_sites}
use Rattle.site_model.specs.Names.{is_named, numbered}
use Rattle.site_model.specs.Network.{NetworkSeen, no_network}
use Rattle.site_model.specs.Registry.{TelescopeSeen, codes_of}
use Rattle.desk_events.specs.declared.command.Command.{Command}
use Rattle.desk_events.specs.declared.command.Command.TheVariants as command
use Rattle.desk_events.specs.declared.fault.CommandFault.{CommandFault}
use Rattle.desk_events.specs.declared.refusal.Refusal.{Refusal}
use Rattle.desk_events.specs.declared.reply.Reply.{Reply}
use Rattle.desk_events.specs.declared.reply.Reply.TheVariants as reply
use Rattle.desk_core.specs.Desk.{DeskSeen, StateSeen}
use Rattle.desk_calendar.specs.Nights.{SiteNight, night_in}
use Rattle.desk_calendar.specs.Skies.{TargetSky, sky_in}
use Rattle.desk_calendar.specs.Told.{Closing, code_in, closing_in}
use Rattle.desk_calendar.proofs.Closures.{IsEarly, after_closing}
use Rattle.desk_calendar.proofs.Nights.{nights_by}
use Rattle.desk_calendar.proofs.Skies.{skies_by}

-- ---- what an entry does

-- the network of a state, that of a new desk before it is opened
abbrev pub network_in : Option DeskSeen → NetworkSeen
network_in o = option_map_or (λ d. d.network) o no_network

abbrev pub network_of : StateSeen → NetworkSeen
network_of s = network_in s.desk

-- the closures after a line, if there is one
abbrev pub closures_by : Option Closing → List Code → List (List Span) → List (List Span)
closures_by None codes old = old
closures_by (Some c) codes old = after_closing c codes old

-- the sites once that of a telescope has a number, if there is one
abbrev pub sites_by : Option Code → List (List ℕ) → List (List ℕ)
sites_by None sites = sites
sites_by (Some code) sites = numbered sites code.site

-- an entry with this line and this reply leads from one network to another: it adds the telescope that it tells, which has the
-- number of the reply, its site where that is new, and perhaps targets, and the closures, the nights and the skies are changed as it
-- tells
pub record Goes (line : Result Command CommandFault) (answer : Reply) (n m : NetworkSeen) : Type 0 where
  pub codes : codes_of m.registry ≡ codes_of n.registry ++ option_to_list (code_in line answer)
  pub room : length (codes_of n.registry) ≤ most_telescopes → length (codes_of m.registry) ≤ most_telescopes
  pub closures : m.calendar.closures ≡ closures_by (closing_in line answer) (codes_of n.registry) n.calendar.closures
  pub spans : IfSome (closing_in line answer) (λ c. IsEarly c.spans)
  pub number : (code : Code) (k : TelescopeNo) → code_in line answer ≡ Some code → answer ≡ reply.Telescope k → k.0 ≡ length (codes_of n.registry)
  pub sites : m.registry.sites ≡ sites_by (code_in line answer) n.registry.sites
  pub place : length n.registry.sites ≤ most_sites → length m.registry.sites ≤ most_sites
  pub nights : m.calendar.nights ≡ nights_by (night_in line answer) n.registry.sites n.calendar.nights
  pub night : IfSome (night_in line answer) (λ night. IsEarly night.spans × IsTrue (is_named n.registry.sites night.site))
  pub targets : (names : List (List ℕ)) × (m.registry.targets ≡ fold numbered n.registry.targets names)
  pub skies : m.calendar.skies ≡ skies_by (sky_in line answer) m.registry.targets n.registry.sites n.calendar.skies
  pub sky : IfSome (sky_in line answer)
      (λ sky. IsEarly sky.spans × IsTrue (is_named m.registry.targets sky.target) × IsTrue (is_named n.registry.sites sky.site))

-- ---- what leaves all of these

pub record Stays (n m : NetworkSeen) : Type 0 where
  pub telescopes : m.registry.telescopes ≡ n.registry.telescopes
  pub sites : m.registry.sites ≡ n.registry.sites
  pub closures : m.calendar.closures ≡ n.calendar.closures
  pub nights : m.calendar.nights ≡ n.calendar.nights
  pub targets : (names : List (List ℕ)) × (m.registry.targets ≡ fold numbered n.registry.targets names)
  pub skies : m.calendar.skies ≡ n.calendar.skies

pub stays : (n : NetworkSeen) → Stays n n
stays n = record { telescopes = refl; sites = refl; closures = refl; nights = refl; targets = ([], refl); skies = refl }

-- an entry tells no telescope, no closing, no night and no sky
abbrev pub IsQuiet : Result Command CommandFault → Reply → Type 0
IsQuiet line answer = (code_in line answer ≡ None) × (closing_in line answer ≡ None) × (night_in line answer ≡ None) × (sky_in line answer ≡ None)

pub quiet_goes : (line : Result Command CommandFault) (answer : Reply) (n m : NetworkSeen) → IsQuiet line answer → Stays n m → Goes line answer n m
quiet_goes line answer n m (no_code, no_closing, no_night, no_sky) s =
    let same : codes_of m.registry ≡ codes_of n.registry = ap (λ (l : List TelescopeSeen). map (λ t. t.code) l) s.telescopes in
    record {
      codes = same ∙ sym (append-nil (codes_of n.registry)) ∙ ap (λ (o : Option Code). codes_of n.registry ++ option_to_list o) (sym no_code);
      room = λ few. subst (λ (l : List Code). length l ≤ most_telescopes) (sym same) few;
      closures = s.closures ∙ ap (λ (o : Option Closing). closures_by o (codes_of n.registry) n.calendar.closures) (sym no_closing);
      spans = subst (λ (o : Option Closing). IfSome o (λ c. IsEarly c.spans)) (sym no_closing) tt;
      number = λ code k is a. let none : None ≡ Some code = sym no_code ∙ is in absurd (cc);
      sites = s.sites ∙ ap (λ (o : Option Code). sites_by o n.registry.sites) (sym no_code);
      place = λ few. subst (λ (l : List (List ℕ)). length l ≤ most_sites) (sym s.sites) few;
      nights = s.nights ∙ ap (λ (o : Option SiteNight). nights_by o n.registry.sites n.calendar.nights) (sym no_night);
      night = subst (λ (o : Option SiteNight). IfSome o (λ night. IsEarly night.spans × IsTrue (is_named n.registry.sites night.site))) (sym no_night) tt;
      targets = s.targets;
      skies = s.skies ∙ ap (λ (o : Option TargetSky). skies_by o m.registry.targets n.registry.sites n.calendar.skies) (sym no_sky);
      sky = subst (λ (o : Option TargetSky). IfSome o
          (λ sky. IsEarly sky.spans × IsTrue (is_named m.registry.targets sky.target) × IsTrue (is_named n.registry.sites sky.site)))
          (sym no_sky) tt;
    }

-- a refused line tells nothing
pub quiet_refused : (line : Result Command CommandFault) (r : Refusal) → IsQuiet line (reply.Refused r)
quiet_refused (Err fault) r = (refl, refl, refl, refl)
quiet_refused (Ok (command.Telescope site enclosure telescope class instruments)) r = (refl, refl, refl, refl)
quiet_refused (Ok (command.Night site spans)) r = (refl, refl, refl, refl)
quiet_refused (Ok (command.Visibility target site spans)) r = (refl, refl, refl, refl)
quiet_refused (Ok (command.Close scope spans)) r = (refl, refl, refl, refl)
quiet_refused (Ok (command.Reopen scope spans)) r = (refl, refl, refl, refl)
quiet_refused (Ok c) r = (refl, refl, refl, refl)

-- nor does a line with the reply that a claim is published
pub quiet_published : (line : Result Command CommandFault) (claim : Claim) → IsQuiet line (reply.Published claim)
quiet_published (Err fault) claim = (refl, refl, refl, refl)
quiet_published (Ok (command.Telescope site enclosure telescope class instruments)) claim = (refl, refl, refl, refl)
quiet_published (Ok (command.Night site spans)) claim = (refl, refl, refl, refl)
quiet_published (Ok (command.Visibility target site spans)) claim = (refl, refl, refl, refl)
quiet_published (Ok (command.Close scope spans)) claim = (refl, refl, refl, refl)
quiet_published (Ok (command.Reopen scope spans)) claim = (refl, refl, refl, refl)
quiet_published (Ok c) claim = (refl, refl, refl, refl)
