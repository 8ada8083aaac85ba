-- Elements of lists of which something is so.
use Rattle.std.proofs.Common.{◌≡◌, ◌≢◌, ℕ, ◌+◌, ◌-◌, ◌<◌, ◌⊎◌, inl, inr, List, ◌++◌, length, map, slice_index_or, slice_set, sym, ap, subst, ◌∙◌, arith}
use Rattle.std.specs.Prelude.{Any}
use Rattle.std.proofs.lemmas.List.{get_or_append_left, get_or-append-add, get_or-set_same, get_or-set_other, get_or-map, get_or_default, length-append}
use Rattle.std.proofs.lemmas.List.{length-map, length-set}
use mathlib.Core.Logic.{dite}
use native.Mathlib.Decide.{ℕ_discrete, dec_lt}

pub same_or_not : (k i : ℕ) → (k ≡ i) ⊎ (k ≢ i)
same_or_not k i = dite (ℕ_discrete k i) inl inr

module _ {X : Type 0} (P : X → Type 0) where
  pub any_left : (xs ys : List X) → Any P xs → Any P (xs ++ ys)
  any_left xs ys (k, x, l, e, p) = (k, x, (let n = length-append xs ys in omega arith), get_or_append_left xs ys x k l ∙ e, p)

  pub any_right : (xs ys : List X) → Any P ys → Any P (xs ++ ys)
  any_right xs ys (k, x, l, e, p) = (length xs + k, x, (let n = length-append xs ys in omega arith), get_or-append-add xs ys k x ∙ e, p)

  pub any_cases : (xs ys : List X) → Any P (xs ++ ys) → Any P xs ⊎ Any P ys
  any_cases xs ys (k, x, l, e, p) = dite (dec_lt k (length xs))
      (λ less. inl (k, x, less, sym (get_or_append_left xs ys x k less) ∙ e, p))
      (λ no.
      let i : ℕ = k - length xs in
      let whole : length xs + i ≡ k = omega arith in
      let n = length-append xs ys in
      inr (i, x, (omega arith), sym (get_or-append-add xs ys i x) ∙ ap (λ (j : ℕ). slice_index_or (xs ++ ys) j x) whole ∙ e, p))

  -- what is so of an element is so of some element after another took the place of one, if it is so of that where it was of this
  pub any_set : (xs : List X) (i : ℕ) (y : X) → i < length xs → (P (slice_index_or xs i y) → P y) → Any P xs → Any P (slice_set xs i y)
  any_set xs i y l goes (k, x, m, e, p) = elim (same_or_not k i) [
    | inl same ↦ (
      i,
      y,
      (let n = length-set xs i y in omega arith),
      get_or-set_same xs i y y l,
      goes (subst P (sym e ∙ ap (λ (j : ℕ). slice_index_or xs j x) same ∙ get_or_default xs i x y l) p),
    )
    | inr other ↦ (k, x, (let n = length-set xs i y in omega arith), get_or-set_other xs i k y x other ∙ e, p)
  ]

module _ {X Y : Type 0} (P : Y → Type 0) (g : X → Y) where
  pub any_map : (xs : List X) → Any (λ x. P (g x)) xs → Any P (map g xs)
  any_map xs (k, x, l, e, p) = (k, g x, (let n = length-map xs g in omega arith), get_or-map g xs k x (g x) l ∙ ap g e, p)

  pub any_from_map : (xs : List X) (d : X) → Any P (map g xs) → Any (λ x. P (g x)) xs
  any_from_map xs d (k, y, l, e, p) =
      let n : length (map g xs) ≡ length xs = length-map xs g in
      let within : k < length xs = omega arith in
      let x : X = slice_index_or xs k d in
      (k, x, within, get_or_default xs k x d within, subst P (sym e ∙ get_or-map g xs k d y within) p)
