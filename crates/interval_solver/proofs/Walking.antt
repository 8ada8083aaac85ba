-- What a telescope starts, read off a table over its starts.
use Rattle.std.proofs.Common.{◌≡◌, ◌≢◌, ℕ, ◌+◌, ◌-◌, ◌<◌, ◌≤◌, ◌⊎◌, inl, inr, ℤ, List, [], ◌∷◌, ◌++◌, length, slice_index_or, Contains, refl, sym, ◌∙◌}
use Rattle.std.proofs.Common.{ap, subst, arith}
use Rattle.std.proofs.lemmas.List.{get_or_default, append_assoc, append-nil}
use Rattle.plan_base.specs.declared.parts.Parts.{Parts}
use Rattle.plan_base.specs.declared.claim.Placement.{Placement}
use Rattle.plan_base.specs.declared.parts.RequestPart.{RequestPart}
use Rattle.plan_base.specs.declared.number.TelescopeNo.{TelescopeNo}
use Rattle.plan_base.specs.declared.number.RequestNo.{RequestNo}
use Rattle.plan_base.specs.declared.number.SliceNo.{SliceNo}
use Rattle.plan_base.specs.Requests.{listed, place_of, IsKnown}
use Rattle.plan_base.specs.Snapshot.{IsOrderly}
use Rattle.plan_base.specs.Starts.{IsPossibleStart}
use Rattle.plan_base.specs.Canonical.{IsIdle, IsTight, IsIdleUpTo, StartsLowest, IsCanonicalFrom, IsCanonicalUse}
use Rattle.plan_base.proofs.OneFill.{same_placement}
use Rattle.plan_base.proofs.Here.{IsHere}
use Rattle.plan_base.specs.Tables.{slice_after, horizon_end}
use Rattle.plan_base.proofs.Tables.{idle_from_table, table_from_idle, tight_from_table, table_from_tight}
use Rattle.interval_solver.specs.declared.start.Start.{Start}
use Rattle.plan_base.specs.Tables.{entry, row}
use Rattle.interval_solver.specs.Tables.{gain, IsFlat, IsRecursion, IsFirstTight}
use Rattle.interval_solver.specs.Listings.{IsToldBy, IsStartAt, IsListing}
use Rattle.interval_solver.proofs.Listed.{same_number, number_up}
use Rattle.interval_solver.proofs.Tabled.{rows_fit, from_slice, gain_is, is_table}

-- ---- lists that start later

idle_joined : (s : Parts) (prices : List ℤ) (t k j n : ℕ) → IsIdleUpTo s prices t k j → IsIdleUpTo s prices t j n → IsIdleUpTo s prices t k n
idle_joined s prices t k j n first then i from below = elim (below_or_from i j) [ inl early ↦ first i from early | inr late ↦ then i late below ]
  where
    below_or_from : (a b : ℕ) → (a < b) ⊎ (b ≤ a)
    below_or_from a b = grind arith

-- idle slices may stand before a canonical list
idle_then : (s : Parts) (prices : List ℤ) (t k j : ℕ) (ps : List Placement) → k ≤ j → IsIdleUpTo s prices t k j → IsCanonicalFrom s prices t j ps
    → IsCanonicalFrom s prices t k ps
idle_then s prices t k j [] l idle h = idle_joined s prices t k j (s.first.0 + s.slices) idle h
idle_then s prices t k j (p ∷ ps) l idle (from, then, starts, rest) = (omega arith, idle_joined s prices t k j p.slice.0 idle then, starts, rest)

-- whatever is canonical from row i on makes a canonical use with these starts before it
pub record IsWalked (s : Parts) (prices : List ℤ) (t i : ℕ) (starts : List Placement) : Type 0 where
  pub whole : (ps : List Placement) → IsCanonicalFrom s prices t (s.first.0 + i) ps → IsCanonicalUse s prices t (starts ++ ps)

-- the start of a request in row i of telescope t
abbrev pub placed_at : Parts → TelescopeNo → ℕ → RequestNo → Placement
placed_at s t i r = record { request = r; telescope = t; slice = record { 0 = s.first.0 + i } }

below_same_above : (a b : ℕ) → ((a < b) ⊎ (b < a)) ⊎ (a ≡ b)
below_same_above a b = grind arith

-- a request whose place isn't after another's has no higher number
number_most : (s : Parts) (a b : ℕ) → IsOrderly s → IsKnown s a → IsKnown s b → place_of s a ≤ place_of s b → a ≤ b
number_most s a b orderly known also most = elim (below_same_above (place_of s a) (place_of s b)) [
  | inl (inl less) ↦ let below : a < b = number_up s a b orderly known also less in omega arith
  | inl (inr more) ↦ absurd (omega arith)
  | inr same ↦ let one : a ≡ b = same_number s a b known also same in omega arith
]

module _ (s : Parts) (t : TelescopeNo) (rows : List (List Start)) (orderly : IsOrderly s) (listing : IsListing s t.0 (IsPossibleStart s) rows)
    (prices table : List ℤ) (recursion : IsRecursion rows prices table) where
  idle_row : (k : ℕ) → s.first.0 ≤ k → k < horizon_end s → entry table (k - s.first.0) ≡ entry table (k - s.first.0 + 1) → IsIdle s prices t.0 k
  idle_row k from below e =
      idle_from_table s prices t.0 orderly (from_slice s t.0 rows orderly listing prices table recursion)
      (is_table s t.0 rows orderly listing prices table recursion) k from below
      (e ∙ ap (entry table) (omega arith))

  flat_row : (i : ℕ) → i < length rows → IsIdle s prices t.0 (s.first.0 + i) → entry table i ≡ entry table (i + 1)
  flat_row i l idle =
      let count : length rows ≡ s.slices = listing.count in
      ap (entry table) (omega arith)
      ∙ table_from_idle s prices t.0 orderly (from_slice s t.0 rows orderly listing prices table recursion)
      (is_table s t.0 rows orderly listing prices table recursion) (s.first.0 + i) (omega arith) (omega arith) idle
      ∙ ap (entry table) (omega arith)

  -- where rows stay the same, slices are idle
  pub idle_rows : (i j : ℕ) → j ≤ length rows → IsFlat table i j → IsIdleUpTo s prices t.0 (s.first.0 + i) (s.first.0 + j)
  idle_rows i j l flat k from below =
      let count : length rows ≡ s.slices = listing.count in
      idle_row k (omega arith) (omega arith) (flat (k - s.first.0) (omega arith) (omega arith))

  busy_row : (i : ℕ) → i < length rows → entry table i ≢ entry table (i + 1) → ¬ (IsIdle s prices t.0 (s.first.0 + i))
  busy_row i l differ idle = differ (flat_row i l idle)

  -- what a row tells of is the start that is placed at it, where q is the request at its place
  at_row : (i : ℕ) (x : Start) (q : RequestPart) (p : Placement) → IsHere s x.place q → IsStartAt s t.0 (IsPossibleStart s) i x p
      → p ≡ placed_at s t i q.request
  at_row i x q p here h =
      same_placement p (placed_at s t i q.request)
      (same_number s p.request.0 q.request.0 h.start.possible.known here.known (sym h.told.place ∙ sym here.at)) h.start.same_telescope h.at

  start_at_row : (i : ℕ) (x : Start) (q : RequestPart) → IsHere s x.place q → Contains (row rows i) x
      → IsStartAt s t.0 (IsPossibleStart s) i x (placed_at s t i q.request)
  start_at_row i x q here has = let p = listing.possible i x has in subst (IsStartAt s t.0 (IsPossibleStart s) i x) (at_row i x q p.0 here p.1) p.1

  tight_row : (i : ℕ) (x : Start) (q : RequestPart) → IsHere s x.place q → Contains (row rows i) x → gain prices table x ≡ entry table i
      → IsTight s prices t.0 (placed_at s t i q.request)
  tight_row i x q here has e =
      let h = start_at_row i x q here has in
      tight_from_table s prices t.0 orderly (from_slice s t.0 rows orderly listing prices table recursion)
      (is_table s t.0 rows orderly listing prices table recursion) (placed_at s t i q.request)
      (record { possible = h.start.possible; same_telescope = refl })
      (ap (entry table) (omega arith) ∙ sym e ∙ gain_is s t.0 rows orderly listing prices table recursion (placed_at s t i q.request) x h.told)

  gain_from_tight : (i : ℕ) (p : Placement) (y : Start) → IsPossibleStart s p → p.telescope ≡ t → p.slice.0 ≡ s.first.0 + i → IsToldBy s p y
      → IsTight s prices t.0 p → gain prices table y ≡ entry table i
  gain_from_tight i p y possible on at told tight =
      gain_is s t.0 rows orderly listing prices table recursion p y told
      ∙ sym (table_from_tight s prices t.0 orderly (from_slice s t.0 rows orderly listing prices table recursion)
      (is_table s t.0 rows orderly listing prices table recursion) p
      (record { possible = possible; same_telescope = ap (λ (u : TelescopeNo). u.0) on }) tight)
      ∙ ap (entry table) (omega arith)

  -- no start of a row that gives as much is of a lower place than the first
  lowest_in_row : (i : ℕ) (x y : Start) → IsFirstTight prices table (entry table i) (row rows i) x → Contains (row rows i) y
      → gain prices table y ≡ entry table i → x.place ≤ y.place
  lowest_in_row i x y first (j, m, at) gives = elim (below_same_above j first.place) [
    | inl (inl before) ↦ absurd (first.first j before (ap (gain prices table) (get_or_default (row rows i) j x y m ∙ at) ∙ gives))
    | inl (inr after) ↦
        let less : (slice_index_or (row rows i) first.place x).place < (slice_index_or (row rows i) j x).place = listing.rising i first.place j x after m in
        let left : (slice_index_or (row rows i) first.place x).place ≡ x.place = ap (λ (z : Start). z.place) first.at in
        let right : (slice_index_or (row rows i) j x).place ≡ y.place = ap (λ (z : Start). z.place) (get_or_default (row rows i) j x y m ∙ at) in
        omega arith
    | inr same ↦
        let one : x ≡ y = sym first.at ∙ ap (λ (k : ℕ). slice_index_or (row rows i) k x) (sym same) ∙ get_or_default (row rows i) j x y m ∙ at in
        omega (arith, ap (λ (z : Start). z.place) one)
  ]

  first_in_row : (i : ℕ) (x : Start) → IsFirstTight prices table (entry table i) (row rows i) x → Contains (row rows i) x
  first_in_row i x first = (first.place, first.within, first.at)

  -- where the table changes, the first start that gives its number starts
  starts_lowest : (i : ℕ) (x : Start) (q : RequestPart) → IsHere s x.place q → i < length rows → entry table i ≢ entry table (i + 1)
      → IsFirstTight prices table (entry table i) (row rows i) x → StartsLowest s prices t.0 (placed_at s t i q.request)
  starts_lowest i x q here l differ first =
      let h = start_at_row i x q here (first_in_row i x first) in
      record {
        possible = h.start.possible;
        same_telescope = refl;
        busy = busy_row i l differ;
        tight = tight_row i x q here (first_in_row i x first) first.gives;
        lowest = λ p possible on at tight.
            let slice : p.slice.0 ≡ s.first.0 + i = ap (λ (k : SliceNo). k.0) at in
            let y = listing.complete p (record { possible = possible; same_telescope = ap (λ (u : TelescopeNo). u.0) on }) possible in
            let has : Contains (row rows i) y.0 = subst (λ (k : ℕ). Contains (row rows k) y.0) (omega arith) y.1 in
            let below : x.place ≤ y.0.place = lowest_in_row i x y.0 first has (gain_from_tight i p y.0 possible on slice y.2 tight) in
            let left : place_of s q.request.0 ≡ x.place = here.at in
            let right : y.0.place ≡ place_of s p.request.0 = y.2.place in
            number_most s q.request.0 p.request.0 orderly here.known possible.known (omega arith);
      }

  -- where the table changes, a start gives its number
  pub tight_reached : (i : ℕ) → i < length rows → entry table i ≢ entry table (i + 1) → (x : Start) × Contains (row rows i) x
      × (gain prices table x ≡ entry table i)
  tight_reached i l differ = elim ((recursion.each i l).reached) [ inl e ↦ absurd (differ e) | inr (x, has, e) ↦ (x, has, sym e) ]

  -- what is known of the start that was read where the table changes
  pub record IsRead (i : ℕ) (x : Start) : Type 0 where
    pub first : IsFirstTight prices table (entry table i) (row rows i) x
    pub after : i < x.after
    pub within : x.after ≤ length rows
    pub place : x.place < length (listed s)

  -- it is so of the first start of what was read as the row that gives what was read as its number
  pub is_read : (i : ℕ) (b : ℤ) (xs : List Start) (x : Start) → xs ≡ row rows i → b ≡ entry table i → IsFirstTight prices table b xs x
      → IsRead i x
  is_read i b xs x same number tight =
      let first : IsFirstTight prices table (entry table i) (row rows i) x =
      subst (λ (n : ℤ). IsFirstTight prices table n (row rows i) x) number (subst (λ (ys : List Start). IsFirstTight prices table b ys x) same tight) in
      let fits = rows_fit s t.0 rows orderly listing (length (listed s)) refl i x (first_in_row i x first) in
      record { first = first; after = fits.after; within = fits.within; place = fits.place }

  -- the walk begins
  pub walk_begins : (i : ℕ) → i ≤ length rows → IsFlat table 0 i → IsWalked s prices t.0 i []
  walk_begins i l flat = record {
    whole = λ ps h. idle_then s prices t.0 s.first.0 (s.first.0 + i) ps (omega arith)
        (subst (λ (k : ℕ). IsIdleUpTo s prices t.0 k (s.first.0 + i)) (omega arith) (idle_rows 0 i l flat)) h;
  }

  -- it goes on with the first start that gives the table's number
  pub walk_goes_on : (i j : ℕ) (x : Start) (q : RequestPart) (starts : List Placement) → IsHere s x.place q → i < length rows
      → entry table i ≢ entry table (i + 1) → IsFirstTight prices table (entry table i) (row rows i) x
      → x.after ≤ j → j ≤ length rows → IsFlat table x.after j → IsWalked s prices t.0 i starts
      → IsWalked s prices t.0 j (starts ++ placed_at s t i q.request ∷ [])
  walk_goes_on i j x q starts here l differ first from within flat walked = record {
    whole = λ ps h.
        let p : Placement = placed_at s t i q.request in
        let told = (start_at_row i x q here (first_in_row i x first)).told in
        let ends : s.first.0 + x.after ≡ slice_after s p = told.after in
        let rest : IsCanonicalFrom s prices t.0 (slice_after s p) ps =
        subst (λ (k : ℕ). IsCanonicalFrom s prices t.0 k ps) ends
        (idle_then s prices t.0 (s.first.0 + x.after) (s.first.0 + j) ps (omega arith) (idle_rows x.after j within flat) h) in
        let one : IsCanonicalFrom s prices t.0 (s.first.0 + i) (p ∷ ps) =
        (omega arith, (λ k a b. absurd (omega arith)), starts_lowest i x q here l differ first, rest) in
        subst (IsCanonicalUse s prices t.0) (sym (append_assoc starts (p ∷ []) ps)) (walked.whole (p ∷ ps) one);
  }

  -- it ends after all slices
  pub walk_ends : (i : ℕ) (starts : List Placement) → length rows ≤ i → IsWalked s prices t.0 i starts → IsCanonicalUse s prices t.0 starts
  walk_ends i starts l walked =
      let count : length rows ≡ s.slices = listing.count in
      subst (IsCanonicalUse s prices t.0) (append-nil starts) (walked.whole [] (λ k a b. absurd (omega arith)))
