-- The last item that passes a test, of what entries tell, with one entry more.
use Rattle.std.proofs.Common.{◌≡◌, ◌∙◌, ap, refl, Bool, true, false, List, [], ◌∷◌, ◌++◌, Option, Some, None, filter, filter_map}
use Rattle.std.specs.Prelude.{if◌then◌else◌}
use Rattle.std.specs.List.{last_or, cons_option}
use Rattle.std.proofs.lemmas.List.{append-nil}
use Rattle.std.proofs.lemmas.List.Elements.{filter-append, filter_map-append}

-- what is last once this is told
abbrev pub newest : {A : Type 0} → (A → Bool) → Option A → Option A → Option A
newest p None old = old
newest p (Some x) old = if p x then Some x else old

last_push : {A : Type 0} (o : Option A) (xs : List A) (x : A) → last_or o (xs ++ x ∷ []) ≡ Some x
last_push o [] x = refl
last_push o (y ∷ xs) x = last_push (Some y) xs x

last_kept : {A : Type 0} (o : Option A) (xs : List A) → last_or o (xs ++ []) ≡ last_or o xs
last_kept o [] = refl
last_kept o (y ∷ xs) = last_kept (Some y) xs

tested : {A : Type 0} (xs : List A) (x : A) (b : Bool) → last_or None (xs ++ (if b then x ∷ [] else [])) ≡ (if b then Some x else last_or None xs)
tested xs x true = last_push None xs x
tested xs x false = last_kept None xs

told : {A : Type 0} (p : A → Bool) (xs : List A) (o : Option A) → last_or None (filter p (xs ++ cons_option o [])) ≡ newest p o (last_or None (filter p xs))
told p xs None = ap (λ l. last_or None (filter p l)) (append-nil xs)
told p xs (Some x) = ap (last_or None) (filter-append p xs (x ∷ [])) ∙ tested (filter p xs) x (p x)

pub last-more : {E A : Type 0} (f : E → Option A) (p : A → Bool) (before : List E) (e : E)
    → last_or None (filter p (filter_map f (before ++ e ∷ []))) ≡ newest p (f e) (last_or None (filter p (filter_map f before)))
last-more f p before e = ap (λ l. last_or None (filter p l)) (filter_map-append f before (e ∷ [])) ∙ told p (filter_map f before) (f e)
