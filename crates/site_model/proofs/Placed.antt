-- The places of names, one after another.
use Rattle.std.proofs.Common.{◌≡◌, ℕ, ◌+◌, ◌<◌, ◌≤◌, true, false, not, List, [], ◌∷◌, ◌++◌, Some, None, refl, sym, ap, subst, ◌∙◌, length, get_or, map}
use Rattle.std.proofs.Common.{take, min, inl, inr, arith}
use Rattle.std.specs.List.{slice_index_or}
use Rattle.std.specs.Option.{option_map}
use Rattle.std.proofs.lemmas.Bool.{cases_lt, not_from_true, not_from_false}
use Rattle.std.proofs.lemmas.List.{map-append, take_more}
use Rattle.std.proofs.lemmas.List.Elements.{All-nil, All-push}
use Rattle.std.proofs.lemmas.List.Quantifiers.{position-Some}
use Rattle.site_model.specs.declared.fault.SiteFault.TheVariants.{NoSuchInstrument}
use Rattle.site_model.specs.Names.{is_name, is_named, number_of}
use Rattle.site_model.specs.Kept.{name_at, ArePlaces}
use Rattle.site_model.specs.Registry.{unknown_of, most_index}
use Rattle.site_model.proofs.Numbered.{list_any-none, list_any-some, name_same, position_none, position_some}

-- the first n names have these places
pub record PlacedSoFar (names given : List (List ℕ)) (n : ℕ) (places : List ℕ) : Type 0 where
  pub found : map (name_at names) places ≡ take n given
  pub within : ArePlaces names places
  pub known : (k : ℕ) → k < n → not (is_named names (slice_index_or given k [])) ≡ false

pub none_placed : (names given : List (List ℕ)) → PlacedSoFar names given 0 []
none_placed names given = record { found = refl; within = All-nil _; known = λ k l. absurd (omega (arith, l)) }

pub one_placed : (names given : List (List ℕ)) (n place : ℕ) (places : List ℕ) (name : List ℕ) → PlacedSoFar names given n places → n < length given
    → name ≡ slice_index_or given n [] → number_of names name ≡ Some place
    → PlacedSoFar names given (n + 1) (places ++ place ∷ [])
one_placed names given n place places name far l is at =
    let first = position-Some (is_name name) names place [] at in
    let here : name_at names place ≡ get_or given n [] = sym (name_same name (get_or names place []) first.1) ∙ is in
    record {
      found = map-append (name_at names) places (place ∷ []) ∙ (λ j. far.found j ++ here j ∷ []) ∙ sym (take_more given n [] l);
      within = All-push (λ i. i < length names) places place far.within first.0;
      known = λ k lt. elim (cases_lt k n) [
        | inl below ↦ far.known k below
        | inr above ↦
            let same : k ≡ n = omega (arith, lt, above) in
            subst (λ i. not (is_named names (slice_index_or given i [])) ≡ false) (sym same)
            (subst (λ x. not (is_named names x) ≡ false) is (not_from_true _ (list_any-some (is_name name) names place at)))
      ];
    }

-- the first name without a place
pub first_unknown : (names given : List (List ℕ)) (n : ℕ) (places : List ℕ) (name : List ℕ) → PlacedSoFar names given n places → n < length given
    → name ≡ slice_index_or given n [] → number_of names name ≡ None
    → unknown_of names given ≡ Some (NoSuchInstrument (min n most_index))
first_unknown names given n places name far l is at =
    ap (option_map (λ i. NoSuchInstrument (min i most_index)))
    (position_some (λ x. not (is_named names x)) given n [] l far.known
    (subst (λ x. not (is_named names x) ≡ true) is (not_from_false _ (list_any-none (is_name name) names at))))

-- all names have places
pub all_known : (names given : List (List ℕ)) (n : ℕ) (places : List ℕ) → PlacedSoFar names given n places → length given ≤ n → unknown_of names given ≡ None
all_known names given n places far end =
    ap (option_map (λ i. NoSuchInstrument (min i most_index)))
    (position_none (λ x. not (is_named names x)) given [] (λ k l. far.known k (omega (arith, l, end))))
