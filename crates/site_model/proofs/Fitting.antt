-- Which telescopes fit, from what is kept of them.
use Rattle.std.proofs.Common.{◌≡◌, ℕ, ◌<◌, ◌&&◌, ◌||◌, false, List, [], ◌∷◌, Option, Some, None, All, refl, sym, ap, subst, ◌∙◌, length, get_or, map}
use Rattle.std.proofs.Common.{slice_get, nat_eq, true≢false}
use Rattle.std.specs.List.{list_any, IsDistinct}
use Rattle.std.specs.Map.{keys_of}
use Rattle.std.specs.Option.{option_map, option_map_or}
use Rattle.std.proofs.lemmas.Bool.{false_from_ne_true}
use Rattle.std.proofs.lemmas.Option.{slice_get-map, slice_get_within, get_or_from_slice_get}
use Rattle.std.proofs.lemmas.List.Elements.{All-head, All-tail}
use Rattle.std.proofs.lemmas.List.Folds.{list_any_at}
use Rattle.site_model.specs.declared.code.Code.{Code}
use Rattle.site_model.specs.declared.telescope.Telescope.{Telescope}
use Rattle.site_model.specs.declared.network.Network.TheInside.{Inside}
use Rattle.site_model.specs.Names.{is_name, number_of}
use Rattle.site_model.specs.Kept.{name_at, ArePlaces, has_names, carries}
use Rattle.site_model.specs.Registry.{fits, fits_at}
use Rattle.site_model.specs.NetworkInside.{seen_telescope, seen_registry, IsTied, IsRegistry}
use Rattle.site_model.proofs.Numbered.{list_any-none, only_number}

-- an instrument is carried where its place is
carried : (names : List (List ℕ)) (instrument : List ℕ) (n : ℕ) (places : List ℕ) → IsDistinct is_name names
    → number_of names instrument ≡ Some n → ArePlaces names places
    → list_any (is_name instrument) (map (name_at names) places) ≡ list_any (nat_eq n) places
carried names instrument n [] distinct at places = refl
carried names instrument n (i ∷ is) distinct at places =
    λ j. only_number names instrument n i distinct at (All-head (λ k. k < length names) i is places) j
    || carried names instrument n is distinct at (All-tail (λ k. k < length names) i is places) j

-- and not where it has none
not_carried : (names : List (List ℕ)) (instrument : List ℕ) (places : List ℕ) → number_of names instrument ≡ None → ArePlaces names places
    → list_any (is_name instrument) (map (name_at names) places) ≡ false
not_carried names instrument [] at places = refl
not_carried names instrument (i ∷ is) at places =
    let other : is_name instrument (get_or names i []) ≡ false
    = false_from_ne_true _ (λ h. true≢false (sym (list_any_at (is_name instrument) names i [] (All-head (λ k. k < length names) i is places) h)
    ∙ list_any-none (is_name instrument) names at)) in
    λ j. other j || not_carried names instrument is at (All-tail (λ k. k < length names) i is places) j

-- the instrument of a name is carried where its place is
pub carries-seen : (names : List (List ℕ)) (instrument : List ℕ) (kept : Telescope) → IsDistinct is_name names → ArePlaces names kept.instruments
    → list_any (is_name instrument) (map (name_at names) kept.instruments) ≡ carries names kept instrument
carries-seen names instrument kept distinct at = by (number_of names instrument) refl
  where
    by : (o : Option ℕ) → number_of names instrument ≡ o
        → list_any (is_name instrument) (map (name_at names) kept.instruments) ≡ option_map_or (λ n. list_any (nat_eq n) kept.instruments) o false
    by None number = not_carried names instrument kept.instruments number at
    by (Some n) number = carried names instrument n kept.instruments distinct number at

tied_at : (P : Code × Telescope → Type 0) (es : List (Code × Telescope)) (t : ℕ) (entry : Code × Telescope) → All P es → slice_get es t ≡ Some entry → P entry
tied_at P es t entry all at = subst P (get_or_from_slice_get es t entry entry at) (all t entry (slice_get_within es t entry at))

-- the telescope at a place
fits_there : (a : Inside) (t : ℕ) (entry : Code × Telescope) (class : List ℕ) (site enclosure code : Option (List ℕ)) (instrument : List ℕ)
    → slice_get a.telescopes.entries t ≡ Some entry
    → fits_at (seen_registry a) t class site enclosure code instrument
    ≡ fits (seen_telescope (keys_of a.instruments.entries) entry) class site enclosure code instrument
fits_there a t entry class site enclosure code instrument at =
    ap (λ o. option_map_or (λ s. fits s class site enclosure code instrument) o false)
    (slice_get-map (seen_telescope (keys_of a.instruments.entries)) a.telescopes.entries t
    ∙ ap (option_map (seen_telescope (keys_of a.instruments.entries))) at)

pub fits_nowhere : (a : Inside) (t : ℕ) (class : List ℕ) (site enclosure code : Option (List ℕ)) (instrument : List ℕ) → slice_get a.telescopes.entries t ≡ None
    → fits_at (seen_registry a) t class site enclosure code instrument ≡ false
fits_nowhere a t class site enclosure code instrument at =
    ap (λ o. option_map_or (λ s. fits s class site enclosure code instrument) o false)
    (slice_get-map (seen_telescope (keys_of a.instruments.entries)) a.telescopes.entries t
    ∙ ap (option_map (seen_telescope (keys_of a.instruments.entries))) at)

-- by its names, and by the names of its instruments
pub fits-seen : (a : Inside) (t : ℕ) (names : Code) (kept : Telescope) (class : List ℕ) (site enclosure code : Option (List ℕ)) (instrument : List ℕ)
    → slice_get a.telescopes.entries t ≡ Some (names, kept)
    → fits_at (seen_registry a) t class site enclosure code instrument
    ≡ (has_names names kept class site enclosure code && list_any (is_name instrument) (map (name_at (keys_of a.instruments.entries)) kept.instruments))
fits-seen a t names kept class site enclosure code instrument at = fits_there a t (names, kept) class site enclosure code instrument at

-- the places of its instruments
pub carried_at : (a : Inside) (t : ℕ) (names : Code) (kept : Telescope) → IsRegistry a → slice_get a.telescopes.entries t ≡ Some (names, kept)
    → ArePlaces (keys_of a.instruments.entries) kept.instruments
carried_at a t names kept inv at =
    let tied : IsTied (keys_of a.instruments.entries) a.sites.keys (names, kept) =
    tied_at (IsTied (keys_of a.instruments.entries) a.sites.keys) a.telescopes.entries t (names, kept) inv.tied at in
    tied.carried
