-- What is seen of the telescopes, from what is kept of them.
use Rattle.std.proofs.Common.{◌≡◌, ℕ, ◌<◌, ◌≤◌, List, [], ◌∷◌, ◌++◌, Some, All, refl, sym, ap, subst, ◌∙◌, length, map, position, slice_get, zero, suc, arith}
use Rattle.std.specs.List.{list_any}
use Rattle.std.specs.Option.{is_some, option_map, option_and_then}
use Rattle.std.proofs.lemmas.Option.{none-some}
use Rattle.std.specs.Map.{keys_of, values_of, lookup}
use Rattle.std.proofs.lemmas.Map.Made.{is_some-lookup}
use Rattle.std.proofs.lemmas.List.{map-append, length-append, get_or_append_left}
use Rattle.std.proofs.lemmas.List.Elements.{All-head, All-tail, All-weaker, All-push}
use Rattle.site_model.specs.declared.code.Code.{Code}
use Rattle.site_model.specs.declared.code.InstrumentTimes.{InstrumentTimes}
use Rattle.site_model.specs.declared.telescope.Telescope.{Telescope}
use Rattle.site_model.specs.declared.network.Network.TheInside.{Inside}
use Rattle.site_model.specs.Names.{is_code, number_of, numbered}
use Rattle.site_model.specs.Kept.{name_at, ArePlaces}
use Rattle.plan_base.specs.Limits.{most_telescopes}
use Rattle.site_model.specs.Limits.{most_instruments, most_sites, most_targets}
use Rattle.site_model.specs.Registry.{code_number, is_coded, with_telescope, site_number}
use Rattle.site_model.specs.Calendar.{CalendarSeen}
use Rattle.site_model.specs.NetworkInside.{seen_telescope, seen_registry, IsTied, IsRegistry}
use Rattle.site_model.proofs.Numbered.{number_kept, number_within}

-- the codes are the keys
pub codes-seen : (ins : List (List ℕ)) (es : List (Code × Telescope)) → map (λ t. t.code) (map (seen_telescope ins) es) ≡ keys_of es
codes-seen ins [] = refl
codes-seen ins (e ∷ es) = ap (λ l. e.0 ∷ l) (codes-seen ins es)

pub code_number-seen : (a : Inside) (code : Code) → code_number (seen_registry a) code ≡ position (is_code code) (keys_of a.telescopes.entries)
code_number-seen a code = ap (position (is_code code)) (codes-seen (keys_of a.instruments.entries) a.telescopes.entries)

-- whether a telescope has a code
pub is_coded-seen : (a : Inside) (code : Code) → is_coded (seen_registry a) code ≡ is_some (lookup (is_code code) a.telescopes.entries)
is_coded-seen a code = ap (list_any (is_code code)) (codes-seen (keys_of a.instruments.entries) a.telescopes.entries)
    ∙ sym (is_some-lookup (is_code code) a.telescopes.entries)

-- functions that agree on the elements
map_same : {X Y : Type 0} (f g : X → Y) (xs : List X) → All (λ x. f x ≡ g x) xs → map f xs ≡ map g xs
map_same f g [] h = refl
map_same f g (x ∷ xs) h = λ j. All-head (λ x. f x ≡ g x) x xs h j ∷ map_same f g xs (All-tail (λ x. f x ≡ g x) x xs h) j

-- more instruments change no place's name
names_kept : (ins more : List (List ℕ)) (places : List ℕ) → ArePlaces ins places → map (name_at (ins ++ more)) places ≡ map (name_at ins) places
names_kept ins more places within =
    map_same (name_at (ins ++ more)) (name_at ins) places
    (All-weaker (λ i. i < length ins) (λ i. name_at (ins ++ more) i ≡ name_at ins i) (λ i l. get_or_append_left ins more [] i l) places within)

pub telescopes_kept : (ins more sites : List (List ℕ)) (es : List (Code × Telescope)) → All (IsTied ins sites) es
    → map (seen_telescope (ins ++ more)) es ≡ map (seen_telescope ins) es
telescopes_kept ins more sites es tied =
    map_same (seen_telescope (ins ++ more)) (seen_telescope ins) es
    (All-weaker (IsTied ins sites) (λ e. seen_telescope (ins ++ more) e ≡ seen_telescope ins e)
    (λ e t. ap (λ names. record { code = e.0; class = e.1.class; instruments = names }) (names_kept ins more e.1.instruments t.carried)) es tied)

-- another calendar leaves the registry in order
pub registry_stays : (a : Inside) (k : CalendarSeen) → IsRegistry a → IsRegistry record a { calendar = k }
registry_stays a k inv = record {
  few_instruments = inv.few_instruments;
  few_sites = inv.few_sites;
  few_telescopes = inv.few_telescopes;
  few_targets = inv.few_targets;
  tied = inv.tied;
}

-- one more instrument
pub seen-instrument : (a b : Inside) (name : List ℕ) (times : InstrumentTimes) → IsRegistry a
    → b.instruments.entries ≡ a.instruments.entries ++ (name, times) ∷ [] → b.sites.keys ≡ a.sites.keys
    → b.telescopes.entries ≡ a.telescopes.entries → b.targets.keys ≡ a.targets.keys
    → seen_registry b ≡ record (seen_registry a) { instruments = a.instruments.entries ++ (name, times) ∷ [] }
seen-instrument a b name times inv ins sites telescopes targets =
    let keys : keys_of b.instruments.entries ≡ keys_of a.instruments.entries ++ name ∷ [] = ap keys_of ins
    ∙ map-append (λ e. e.0) a.instruments.entries ((name, times) ∷ []) in
    let seen : map (seen_telescope (keys_of b.instruments.entries)) b.telescopes.entries
    ≡ map (seen_telescope (keys_of a.instruments.entries)) a.telescopes.entries
    = (λ j. map (seen_telescope (keys j)) (telescopes j))
    ∙ telescopes_kept (keys_of a.instruments.entries) (name ∷ []) a.sites.keys a.telescopes.entries inv.tied in
    λ j. record { instruments = ins j; sites = sites j; telescopes = seen j; targets = targets j }

-- a telescope's site has its number
pub site_at : (ins sites : List (List ℕ)) (es : List (Code × Telescope)) (t : ℕ) (kept : Telescope) → All (IsTied ins sites) es
    → slice_get (values_of es) t ≡ Some kept
    → option_and_then (λ c. number_of sites c.site) (slice_get (map (λ s. s.code) (map (seen_telescope ins) es)) t) ≡ Some kept.site.0
site_at ins sites [] t kept tied at = grind arith
site_at ins sites (e ∷ es) zero kept tied at = (All-head (IsTied ins sites) e es tied).site ∙ ap (λ o. option_map (λ k. k.site.0) o) at
site_at ins sites (e ∷ es) (suc t) kept tied at = site_at ins sites es t kept (All-tail (IsTied ins sites) e es tied) at

pub site_number-seen : (a : Inside) (t : ℕ) (kept : Telescope) → IsRegistry a → slice_get (values_of a.telescopes.entries) t ≡ Some kept
    → site_number (seen_registry a) t ≡ Some kept.site.0
site_number-seen a t kept inv at = site_at (keys_of a.instruments.entries) a.sites.keys a.telescopes.entries t kept inv.tied at

-- and that number is below the most
pub site_within : (a : Inside) (t : ℕ) (kept : Telescope) → IsRegistry a → slice_get (values_of a.telescopes.entries) t ≡ Some kept → kept.site.0 < most_sites
site_within a t kept inv at = within a.telescopes.entries t inv.tied at
  where
    within : (es : List (Code × Telescope)) (t : ℕ) → All (IsTied (keys_of a.instruments.entries) a.sites.keys) es
        → slice_get (values_of es) t ≡ Some kept → kept.site.0 < most_sites
    within [] t tied at = absurd (none-some kept at)
    within (e ∷ es) zero tied at =
        let number : number_of a.sites.keys e.0.site ≡ Some kept.site.0 =
        (All-head (IsTied (keys_of a.instruments.entries) a.sites.keys) e es tied).site ∙ ap (option_map (λ k. k.site.0)) at in
        omega (arith, number_within a.sites.keys e.0.site kept.site.0 number, inv.few_sites)
    within (e ∷ es) (suc t) tied at = within es t (All-tail (IsTied (keys_of a.instruments.entries) a.sites.keys) e es tied) at

-- one more telescope
pub seen-telescope : (a b : Inside) (code : Code) (kept : Telescope) (given : List (List ℕ)) → b.instruments.entries ≡ a.instruments.entries
    → b.sites.keys ≡ numbered a.sites.keys code.site
    → b.telescopes.entries ≡ a.telescopes.entries ++ (code, kept) ∷ [] → b.targets.keys ≡ a.targets.keys
    → map (name_at (keys_of a.instruments.entries)) kept.instruments ≡ given
    → seen_registry b ≡ with_telescope (seen_registry a) record { code = code; class = kept.class; instruments = given }
seen-telescope a b code kept given ins sites telescopes targets carried =
    let names = keys_of a.instruments.entries in
    let new : seen_telescope names (code, kept) ≡ record { code = code; class = kept.class; instruments = given } =
    ap (λ l. record { code = code; class = kept.class; instruments = l }) carried in
    let seen : map (seen_telescope (keys_of b.instruments.entries)) b.telescopes.entries ≡ map (seen_telescope names) a.telescopes.entries
    ++ record { code = code; class = kept.class; instruments = given } ∷ []
    = (λ j. map (seen_telescope (keys_of (ins j))) (telescopes j)) ∙ map-append (seen_telescope names) a.telescopes.entries ((code, kept) ∷ [])
    ∙ ap (λ t. map (seen_telescope names) a.telescopes.entries ++ t ∷ []) new in
    λ j. record { instruments = ins j; sites = sites j; telescopes = seen j; targets = targets j }

-- it leaves the registry in order
pub one_telescope_more : (a b : Inside) (code : Code) (kept : Telescope) → IsRegistry a → b.instruments.entries ≡ a.instruments.entries
    → b.sites.keys ≡ numbered a.sites.keys code.site → length b.sites.keys ≤ most_sites
    → b.telescopes.entries ≡ a.telescopes.entries ++ (code, kept) ∷ [] → length a.telescopes.entries < most_telescopes
    → b.targets.keys ≡ a.targets.keys → ArePlaces (keys_of a.instruments.entries) kept.instruments
    → number_of b.sites.keys code.site ≡ Some kept.site.0 → IsRegistry b
one_telescope_more a b code kept inv ins sites few_sites telescopes room targets carried site =
    let names = keys_of a.instruments.entries in
    let new : IsTied names b.sites.keys (code, kept) = record { carried = carried; site = site } in
    let old : All (IsTied names b.sites.keys) a.telescopes.entries
    = All-weaker (IsTied names a.sites.keys) (IsTied names b.sites.keys)
    (λ e t. record {
      carried = t.carried;
      site = subst (λ l. number_of l e.0.site ≡ Some e.1.site.0) (sym sites) (number_kept a.sites.keys code.site e.0.site e.1.site.0 t.site);
    })
    a.telescopes.entries inv.tied in
    let count : length b.telescopes.entries ≤ most_telescopes =
    subst (λ l. length l ≤ most_telescopes) (sym telescopes) (omega (arith, room, length-append a.telescopes.entries ((code, kept) ∷ []))) in
    let tied : All (IsTied names b.sites.keys) b.telescopes.entries =
    subst (All (IsTied names b.sites.keys)) (sym telescopes) (All-push (IsTied names b.sites.keys) a.telescopes.entries (code, kept) old new) in
    record {
      few_instruments = subst (λ l. length l ≤ most_instruments) (sym ins) inv.few_instruments;
      few_sites = few_sites;
      few_telescopes = count;
      few_targets = subst (λ l. length l ≤ most_targets) (sym targets) inv.few_targets;
      tied = subst (λ l. All (IsTied (keys_of l) b.sites.keys) b.telescopes.entries) (sym ins) tied;
    }
