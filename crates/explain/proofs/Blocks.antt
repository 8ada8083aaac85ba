-- Placements that share a slice with a start of a request, and lists that keep them.
use Rattle.std.proofs.Common.{◌≡◌, ◌↔◌, ℕ, ◌+◌, ◌-◌, ◌<◌, ◌≤◌, ◌⊎◌, inl, inr, Bool, false, min, List, [], ◌∷◌, ◌++◌, length, take, slice_index_or}
use Rattle.std.proofs.Common.{refl, sym, ◌∙◌, ap, subst, arith}
use Rattle.std.proofs.lemmas.Bool.{false≢true}
use Rattle.std.proofs.lemmas.List.{take_more, take_all, get_or_past}
use Rattle.plan_base.specs.declared.parts.Parts.{Parts}
use Rattle.plan_base.specs.declared.claim.Placement.{Placement}
use Rattle.plan_base.specs.Snapshot.{IsOrderly}
use Rattle.plan_base.specs.Starts.{IsPossibleStart, size_of}
use Rattle.plan_base.proofs.Sizes.{start_size_above}
use Rattle.explain.specs.Left.{Blocks, AreKept}
use Rattle.openings.specs.Openings.{IsSet, HasFlagWithin, CanStartAt, IsOpenRow}
use Rattle.openings.proofs.Numbers.{below_or_at}

module _ (s : Parts) (r size : ℕ) (flags : List Bool) (p : Placement) (orderly : IsOrderly s) (size_is : size ≡ size_of s r)
    (open_row : IsOpenRow s p.telescope.0 r flags) (possible : IsPossibleStart s p) where
  later_or_not : (a b : ℕ) → (a ≤ b) ⊎ (b < a)
  later_or_not a b = grind arith

  -- the slices at which a start of the request shares a slice with the placement
  pub blocks_iff : (slice taken : ℕ) → p.slice.0 ≡ s.first.0 + slice → taken ≡ size_of s p.request.0
      → HasFlagWithin flags (slice + 1 - size) (slice + taken) ↔ Blocks s r p
  blocks_iff slice taken at is = (to, from)
    where
      to : HasFlagWithin flags (slice + 1 - size) (slice + taken) → Blocks s r p
      to (i, low, high, is_set) =
          let can : CanStartAt s p.telescope.0 r (s.first.0 + i) = (open_row.each i).0 is_set in
          let q : Placement = can.0 in
          let there : q.slice.0 ≡ s.first.0 + i = can.2 in
          let same : size ≡ size_of s q.request.0 = size_is ∙ ap (size_of s) (sym can.1.start.same_request) in
          let some : 0 < size_of s q.request.0 = start_size_above s orderly q can.1.start.possible in
          let also : 0 < size_of s p.request.0 = start_size_above s orderly p possible in
          let on : p.telescope ≡ q.telescope = λ j. record { 0 = sym can.1.same_telescope j } in
          elim (later_or_not p.slice.0 q.slice.0) [
            | inl later ↦ (q, can.1.start, (on, q.slice.0, (later, omega arith), (omega arith, omega arith)))
            | inr before ↦ (q, can.1.start, (on, p.slice.0, (omega arith, omega arith), (omega arith, omega arith)))
          ]

      from : Blocks s r p → HasFlagWithin flags (slice + 1 - size) (slice + taken)
      from (q, start, (on, k, (a, b), (c, d))) =
          let same : size ≡ size_of s q.request.0 = size_is ∙ ap (size_of s) (sym start.same_request) in
          let begins : s.first.0 ≤ q.slice.0 = start.possible.begins in
          let there : q.slice.0 ≡ s.first.0 + (q.slice.0 - s.first.0) = omega arith in (
            q.slice.0 - s.first.0,
            omega arith,
            omega arith,
            (open_row.each (q.slice.0 - s.first.0)).1 (q, record { start = start; same_telescope = ap (λ t. t.0) (sym on) }, there),
          )

  -- where there is no flag, nothing is blocked
  pub blocks_none : length flags ≡ 0 → ¬ (Blocks s r p)
  blocks_none none (q, start, (on, k, a, b)) =
      let begins : s.first.0 ≤ q.slice.0 = start.possible.begins in
      let there : q.slice.0 ≡ s.first.0 + (q.slice.0 - s.first.0) = omega arith in
      let is_set : IsSet flags (q.slice.0 - s.first.0) =
      (open_row.each (q.slice.0 - s.first.0)).1 (q, record { start = start; same_telescope = ap (λ t. t.0) (sym on) }, there) in
      false≢true (sym (get_or_past flags (q.slice.0 - s.first.0) false (omega arith)) ∙ is_set)

-- no flag before a place, and none at it
pub none_more : (flags : List Bool) (a k : ℕ) → ¬ (HasFlagWithin flags a k) → ¬ (IsSet flags k) → ¬ (HasFlagWithin flags a (k + 1))
none_more flags a k none here (i, low, high, is_set) =
    elim (below_or_at i k high) [ inl below ↦ none (i, low, below, is_set) | inr at ↦ here (subst (IsSet flags) at is_set) ]

pub none_first : (flags : List Bool) (a : ℕ) → ¬ (HasFlagWithin flags a a)
none_first flags a (i, low, high, is_set) = not_both i a low high
  where
    not_both : (x y : ℕ) → y ≤ x → x < y → ⊥
    not_both x y h l = omega arith

-- none up to a place, which is past the last of those that are asked for or of all
pub none_past : (flags : List Bool) (a b k : ℕ) → min b (length flags) ≤ k → ¬ (HasFlagWithin flags a k) → ¬ (HasFlagWithin flags a b)
none_past flags a b k far none (i, low, high, is_set) = elim (later_or_not k i) [
  | inr below ↦ none (i, low, below, is_set)
  | inl from ↦ elim (one_past b (length flags) k far) [
    | inl over ↦ absurd (omega arith)
    | inr past ↦ false≢true (sym (get_or_past flags i false (omega arith)) ∙ is_set)
  ]
]
  where
    later_or_not : (a b : ℕ) → (a ≤ b) ⊎ (b < a)
    later_or_not a b = grind arith

    one_past : (n m l : ℕ) → min n m ≤ l → (n ≤ l) ⊎ (m ≤ l)
    one_past n m l h = grind arith

-- one more at the end that is kept, or not
pub kept_more : {X : Type 0} (P : X → Type 0) (xs ys : List X) (x : X) → AreKept P xs ys → P x → AreKept P (xs ++ x ∷ []) (ys ++ x ∷ [])
kept_more P [] ys x e is = inl (is, [], ap (λ zs. zs ++ x ∷ []) e, refl)
kept_more P (y ∷ xs) ys x (inl (is_y, zs, e, rest)) is = inl (is_y, zs ++ x ∷ [], ap (λ l. l ++ x ∷ []) e, kept_more P xs zs x rest is)
kept_more P (y ∷ xs) ys x (inr (not_y, rest)) is = inr (not_y, kept_more P xs ys x rest is)

pub kept_without : {X : Type 0} (P : X → Type 0) (xs ys : List X) (x : X) → AreKept P xs ys → ¬ (P x) → AreKept P (xs ++ x ∷ []) ys
kept_without P [] ys x e none = inr (none, e)
kept_without P (y ∷ xs) ys x (inl (is_y, zs, e, rest)) none = inl (is_y, zs, e, kept_without P xs zs x rest none)
kept_without P (y ∷ xs) ys x (inr (not_y, rest)) none = inr (not_y, kept_without P xs ys x rest none)

pub kept_next : {X : Type 0} (P : X → Type 0) (xs ys : List X) (i : ℕ) (d : X) → i < length xs → AreKept P (take i xs) ys → P (slice_index_or xs i d)
    → AreKept P (take (i + 1) xs) (ys ++ slice_index_or xs i d ∷ [])
kept_next P xs ys i d l kept is = subst (λ zs. AreKept P zs (ys ++ slice_index_or xs i d ∷ [])) (sym (take_more xs i d l))
    (kept_more P (take i xs) ys (slice_index_or xs i d) kept is)

pub kept_past : {X : Type 0} (P : X → Type 0) (xs ys : List X) (i : ℕ) (d : X) → i < length xs → AreKept P (take i xs) ys
    → ¬ (P (slice_index_or xs i d)) → AreKept P (take (i + 1) xs) ys
kept_past P xs ys i d l kept none = subst (λ zs. AreKept P zs ys) (sym (take_more xs i d l)) (kept_without P (take i xs) ys (slice_index_or xs i d) kept none)

pub kept_all : {X : Type 0} (P : X → Type 0) (xs ys : List X) (i : ℕ) → length xs ≤ i → AreKept P (take i xs) ys → AreKept P xs ys
kept_all P xs ys i l kept = subst (λ zs. AreKept P zs ys) (take_all i xs l) kept
