-- The greatest of what starts give, as more of them are met.
use Rattle.std.proofs.Common.{◌≡◌, ℕ, ◌+◌, ◌<◌, ◌≤◌, ◌⊎◌, inl, inr, ℤ, ◌+ℤ◌, ◌≤ℤ◌, List, [], ◌∷◌, ◌++◌, length, slice_index_or, take, Contains, refl}
use Rattle.std.proofs.Common.{sym, ◌∙◌, ap, subst, arith}
use Rattle.std.proofs.lemmas.Int.{ints}
use Rattle.std.proofs.lemmas.List.{get_or_default, take_more, take_all}
use Rattle.std.proofs.lemmas.List.Elements.{Contains-append_left, Contains-push, Contains-push_cases}
use Rattle.interval_solver.specs.declared.start.Start.{Start}
use Rattle.plan_base.specs.Tables.{entry}
use Rattle.interval_solver.specs.Tables.{start_weight, gain}
use Rattle.interval_solver.specs.Lanes.{IsLarger}
use Rattle.interval_solver.specs.Blocks.{later, IsWholeAt}
use Rattle.interval_solver.specs.Filling.{IsMostAmong}

-- one start more
pub most_more : (P Q : Start → Type 0) (g : Start → ℤ) (least most next gained : ℤ) (x : Start)
    → gained ≡ g x → most ≤ℤ next → gained ≤ℤ next → (next ≡ most) ⊎ (next ≡ gained)
    → ((y : Start) → P y → Q y) → ((y : Start) → Q y → P y ⊎ (y ≡ x)) → Q x
    → IsMostAmong P g least most → IsMostAmong Q g least next
most_more P Q g least most next gained x is up over one more cases here old = record {
  above = let h : least ≤ℤ most = old.above in omega (arith, ints);
  each = λ y q. elim (cases y q) [
    | inl p ↦ let before : g y ≤ℤ most = old.each y p in omega (arith, ints)
    | inr same ↦ let gives : g y ≡ gained = ap g same ∙ sym is in omega (arith, ints)
  ];
  reached = elim one [
    | inl e ↦ elim old.reached [ inl f ↦ inl (e ∙ f) | inr s ↦ inr (s.0, more s.0 s.1, e ∙ s.2) ]
    | inr e ↦ inr (x, here, e ∙ is)
  ];
}

-- of no start
pub most_none : (P : Start → Type 0) (g : Start → ℤ) (least : ℤ) → ((y : Start) → P y → ⊥) → IsMostAmong P g least least
most_none P g least none = record { above = omega (arith, ints); each = λ y p. absurd (none y p); reached = inl refl }

-- of the same starts, by what gives the same
pub most_same : (P Q : Start → Type 0) (f g : Start → ℤ) (least most : ℤ) → ((y : Start) → P y → Q y) → ((y : Start) → Q y → P y)
    → ((y : Start) → P y → f y ≡ g y)
    → IsMostAmong P f least most → IsMostAmong Q g least most
most_same P Q f g least most to from same old = record {
  above = old.above;
  each = λ y q. let before : f y ≤ℤ most = old.each y (from y q) in let gives : f y ≡ g y = same y (from y q) in omega (arith, ints);
  reached = elim old.reached [ inl e ↦ inl e | inr s ↦ inr (s.0, to s.0 s.1, s.2 ∙ same s.0 s.1) ];
}

-- ---- the first i elements of a list

pub first_none : (xs : List Start) (y : Start) → Contains (take 0 xs) y → ⊥
first_none xs y c = let l : c.0 < 0 = c.1 in omega arith

pub first_more : (xs : List Start) (i : ℕ) (y : Start) → i < length xs → Contains (take i xs) y → Contains (take (i + 1) xs) y
first_more xs i y l c = rw (take_more xs i y l) (Contains-append_left (take i xs) (slice_index_or xs i y ∷ []) y c)

pub first_cases : (xs : List Start) (i : ℕ) (x y : Start) → i < length xs → x ≡ slice_index_or xs i x → Contains (take (i + 1) xs) y
    → Contains (take i xs) y ⊎ (y ≡ x)
first_cases xs i x y l at c =
    let more : Contains (take i xs ++ x ∷ []) y =
    subst (λ (zs : List Start). Contains zs y) (take_more xs i x l ∙ ap (λ (z : Start). take i xs ++ z ∷ []) (sym at)) c in
    elim (Contains-push_cases (take i xs) x y more) [ inl before ↦ inl before | inr same ↦ inr (sym same) ]

pub first_here : (xs : List Start) (i : ℕ) (x : Start) → i < length xs → x ≡ slice_index_or xs i x → Contains (take (i + 1) xs) x
first_here xs i x l at = rw (take_more xs i x l, ← at) (Contains-push (take i xs) x)

pub first_all : (xs : List Start) (i : ℕ) → length xs ≤ i → take i xs ≡ xs
first_all xs i l = take_all i xs l

-- one element more
pub most_of_more : (xs : List Start) (i : ℕ) (d : Start) (g : Start → ℤ) (least most next gained : ℤ) → i < length xs
    → gained ≡ g (slice_index_or xs i d) → most ≤ℤ next → gained ≤ℤ next → (next ≡ most) ⊎ (next ≡ gained)
    → IsMostAmong (Contains (take i xs)) g least most → IsMostAmong (Contains (take (i + 1) xs)) g least next
most_of_more xs i d g least most next gained l is up over one old =
    let x : Start = slice_index_or xs i d in
    let at : x ≡ slice_index_or xs i x = get_or_default xs i d x l in
    most_more (Contains (take i xs)) (Contains (take (i + 1) xs)) g least most next gained x is up over one (λ y c. first_more xs i y l c)
    (λ y c. first_cases xs i x y l at c) (first_here xs i x l at) old

-- ---- what whole starts stand for

whole_none : (ws : List Start) (j : ℕ) (y : Start) → IsWholeAt (take 0 ws) j y → ⊥
whole_none ws j y h = first_none ws h.0 h.1

-- one whole start more
pub whole_more : (ws : List Start) (i j : ℕ) (d : Start) (g : Start → ℤ) (least most next gained : ℤ) → i < length ws
    → gained ≡ g (later j (slice_index_or ws i d)) → most ≤ℤ next → gained ≤ℤ next → (next ≡ most) ⊎ (next ≡ gained)
    → IsMostAmong (IsWholeAt (take i ws) j) g least most → IsMostAmong (IsWholeAt (take (i + 1) ws) j) g least next
whole_more ws i j d g least most next gained l is up over one old =
    let w : Start = slice_index_or ws i d in
    let at : w ≡ slice_index_or ws i w = get_or_default ws i d w l in
    most_more (IsWholeAt (take i ws) j) (IsWholeAt (take (i + 1) ws) j) g least most next gained (later j w) is up over one
    (λ y h. (h.0, first_more ws i h.0 l h.1, h.2))
    (λ y h. elim (first_cases ws i w h.0 l at h.1) [ inl before ↦ inl (h.0, before, h.2) | inr same ↦ inr (h.2 ∙ ap (later j) same) ])
    (w, first_here ws i w l at, refl) old

pub whole_begin : (ws : List Start) (j : ℕ) (g : Start → ℤ) (least : ℤ) → IsMostAmong (IsWholeAt (take 0 ws) j) g least least
whole_begin ws j g least = most_none (IsWholeAt (take 0 ws) j) g least (whole_none ws j)

-- ---- raised by what follows in a table

swapped : {A B : Type 0} → A ⊎ B → B ⊎ A
swapped (inl a) = inr a
swapped (inr b) = inl b

module _ (prices table : List ℤ) (i : ℕ) (d : Start) (n : ℕ) (least most next weight : ℤ) where
  gives : (j : ℕ) (x : Start) → n ≡ x.after + j → weight ≡ start_weight prices x → weight +ℤ entry table n ≡ gain prices table (later j x)
  gives j x at is = ap (λ (w : ℤ). w +ℤ entry table n) is ∙ ap (λ (k : ℕ). start_weight prices x +ℤ entry table k) at

  pub raised_more : (xs : List Start) → i < length xs → n ≡ (slice_index_or xs i d).after → weight ≡ start_weight prices (slice_index_or xs i d)
      → IsLarger (weight +ℤ entry table n) most next
      → IsMostAmong (Contains (take i xs)) (gain prices table) least most → IsMostAmong (Contains (take (i + 1) xs)) (gain prices table) least next
  raised_more xs l at is larger old =
      most_of_more xs i d (gain prices table) least most next (weight +ℤ entry table n) l
      (ap (λ (w : ℤ). w +ℤ entry table n) is ∙ ap (λ (k : ℕ). start_weight prices (slice_index_or xs i d) +ℤ entry table k) at) larger.second
      larger.first (swapped larger.one) old

  pub whole_raised_more : (ws : List Start) (j : ℕ) → i < length ws → n ≡ (slice_index_or ws i d).after + j
      → weight ≡ start_weight prices (slice_index_or ws i d) → IsLarger (weight +ℤ entry table n) most next
      → IsMostAmong (IsWholeAt (take i ws) j) (gain prices table) least most → IsMostAmong (IsWholeAt (take (i + 1) ws) j) (gain prices table) least next
  whole_raised_more ws j l at is larger old = whole_more ws i j d (gain prices table) least most next (weight +ℤ entry table n) l
      (gives j (slice_index_or ws i d) at is) larger.second larger.first (swapped larger.one) old
