-- The least and the greatest of some numbers are among them.
use Rattle.std.proofs.Common.{◌≡◌, ℕ, ◌+◌, ◌<◌, min, max, List, [], ◌∷◌, ◌++◌, length, map, take, slice_index_or, sym, ap, subst, ◌∙◌, arith}
use Rattle.std.specs.Prelude.{Contains}
use Rattle.std.proofs.lemmas.List.{take_more, map-append}
use Rattle.std.proofs.lemmas.List.Elements.{Contains-append_left, Contains-append_right}
use mathlib.Core.Logic.{dite}
use native.Mathlib.Decide.{dec_le}
use Rattle.plan_base.proofs.Orders.{contains_first}

module _ {X : Type 0} (g : X → ℕ) (xs : List X) (a n : ℕ) (x : X) (lt : n < length xs) where
  abbrev so_far : List ℕ
  so_far = a ∷ map g (take n xs)

  more : a ∷ map g (take (n + 1) xs) ≡ so_far ++ g (slice_index_or xs n x) ∷ []
  more = ap (λ (ys : List X). a ∷ map g ys) (take_more xs n x lt) ∙ ap (λ (ns : List ℕ). a ∷ ns) (map-append g (take n xs) (slice_index_or xs n x ∷ []))

  old : (b : ℕ) → Contains so_far b → Contains (a ∷ map g (take (n + 1) xs)) b
  old b c = subst (λ (ns : List ℕ). Contains ns b) (sym more) (Contains-append_left so_far (g (slice_index_or xs n x) ∷ []) b c)

  new : Contains (a ∷ map g (take (n + 1) xs)) (g (slice_index_or xs n x))
  new = subst (λ (ns : List ℕ). Contains ns (g (slice_index_or xs n x))) (sym more)
      (Contains-append_right so_far (g (slice_index_or xs n x) ∷ []) (g (slice_index_or xs n x)) (contains_first (g (slice_index_or xs n x)) []))

  pub among_min : (b : ℕ) → Contains so_far b → Contains (a ∷ map g (take (n + 1) xs)) (min b (g (slice_index_or xs n x)))
  among_min b c = dite (dec_le b (g (slice_index_or xs n x)))
      (λ le. subst (Contains (a ∷ map g (take (n + 1) xs))) (let e : b ≡ min b (g (slice_index_or xs n x)) = omega arith in e) (old b c))
      (λ no. subst (Contains (a ∷ map g (take (n + 1) xs))) (let e : g (slice_index_or xs n x) ≡ min b (g (slice_index_or xs n x)) = omega arith in e) new)

  pub among_max : (b : ℕ) → Contains so_far b → Contains (a ∷ map g (take (n + 1) xs)) (max b (g (slice_index_or xs n x)))
  among_max b c = dite (dec_le (g (slice_index_or xs n x)) b)
      (λ le. subst (Contains (a ∷ map g (take (n + 1) xs))) (let e : b ≡ max b (g (slice_index_or xs n x)) = omega arith in e) (old b c))
      (λ no. subst (Contains (a ∷ map g (take (n + 1) xs))) (let e : g (slice_index_or xs n x) ≡ max b (g (slice_index_or xs n x)) = omega arith in e) new)

  pub min_among : (b d m : ℕ) → x ≡ slice_index_or xs n x → d ≡ g x → m ≡ min b d → Contains so_far b → Contains (a ∷ map g (take (n + 1) xs)) m
  min_among b d m is number least c =
      subst (Contains (a ∷ map g (take (n + 1) xs))) (ap (λ (i : ℕ). min b i) (sym (number ∙ ap g is)) ∙ sym least) (among_min b c)

  pub max_among : (b d m : ℕ) → x ≡ slice_index_or xs n x → d ≡ g x → m ≡ max b d → Contains so_far b → Contains (a ∷ map g (take (n + 1) xs)) m
  max_among b d m is number greatest c =
      subst (Contains (a ∷ map g (take (n + 1) xs))) (ap (λ (i : ℕ). max b i) (sym (number ∙ ap g is)) ∙ sym greatest) (among_max b c)
