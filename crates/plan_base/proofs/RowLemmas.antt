-- The rows lead to the requests as they are listed.
use Rattle.std.proofs.Common.{◌≡◌, ℕ, suc, zero, ◌<◌, ◌≤◌, ◌==◌, false, List, [], ◌∷◌, ◌++◌, length, map, drop, get_or, refl, sym, ap, ◌∙◌, subst}
use Rattle.std.proofs.Common.{arith, Some, inl, inr}
use Rattle.std.specs.List.{slice_get, AllZip}
use Rattle.std.specs.List.Sorted.{IsBinarySearchResult, IsSearchInRange, IsNonDecreasingBy}
use Rattle.std.specs.Option.{SomeIff}
use Rattle.std.specs.Result.{result_ok}
use Rattle.std.specs.declared.result.Result.{Result}
use Rattle.std.specs.declared.result.Result.TheVariants.{Ok, Err}
use Rattle.std.specs.declared.cmp.Ordering.TheVariants.{Less, Equal, Greater}
use Rattle.std.specs.Ordering.{nat_cmp, ordering_index}
use Rattle.std.proofs.lemmas.Bool.Decides.{nat_tests}
use Rattle.std.proofs.lemmas.List.Sums.{position_or_len_is}
use Rattle.std.proofs.lemmas.Bool.{eq-eqb, ne_eqb, cases_eq, cases_lt}
use Rattle.std.proofs.lemmas.List.{get_or_default}
use Rattle.std.proofs.lemmas.Slice.Zip.{AllZip-long}
use Rattle.std.proofs.lemmas.Option.{slice_get_within, get_or_from_slice_get}
use Rattle.plan_base.specs.declared.parts.Parts.{Parts}
use Rattle.plan_base.specs.declared.parts.GroupPart.{GroupPart}
use Rattle.plan_base.specs.declared.parts.RequestPart.{RequestPart}
use Rattle.plan_base.specs.declared.rows.Row.{Row}
use Rattle.plan_base.specs.Requests.{Listed, listed_from, listed, place_of, IsKnown}
use Rattle.plan_base.specs.Snapshot.{IsOrderly}
use Rattle.plan_base.proofs.Known.{known_as}
use Rattle.plan_base.specs.Rows.{rows_within, rows_from}

-- the row is that of the request x, which is listed of these groups
pub record IsRowOf (groups : List GroupPart) (row : Row) (x : Listed) : Type 0 where
  pub part : GroupPart
  pub number : row.request ≡ x.request.request
  pub same_group : row.group ≡ x.group
  pub at_group : slice_get groups row.group ≡ Some part
  pub at_place : slice_get part.requests row.place ≡ Some x.request

-- ---- lists

first_of_rest : {X : Type 0} (xs : List X) (i : ℕ) (y : X) (ys : List X) → drop i xs ≡ y ∷ ys → (slice_get xs i ≡ Some y) × (drop (suc i) xs ≡ ys)
first_of_rest [] zero y ys e = absurd (cc)
first_of_rest [] (suc i) y ys e = absurd (cc)
first_of_rest (x ∷ xs) zero y ys e = (cc, cc)
first_of_rest (x ∷ xs) (suc i) y ys e = first_of_rest xs i y ys e

AllZip-append : {X Y : Type 0} (R : X → Y → Type 0) (xs : List X) (ys : List Y) (us : List X) (vs : List Y) → AllZip R xs ys → AllZip R us vs
    → AllZip R (xs ++ us) (ys ++ vs)
AllZip-append R [] [] us vs a b = b
AllZip-append R [] (y ∷ ys) us vs a b = absurd a
AllZip-append R (x ∷ xs) [] us vs a b = absurd a
AllZip-append R (x ∷ xs) (y ∷ ys) us vs a b = (a.0, AllZip-append R xs ys us vs a.1 b)

partner : {X Y : Type 0} (R : X → Y → Type 0) (xs : List X) (ys : List Y) → AllZip R xs ys → (k : ℕ) (d : X) → k < length xs
    → (y : Y) × (slice_get ys k ≡ Some y) × R (get_or xs k d) y
partner R [] ys a k d h = absurd (omega arith)
partner R (x ∷ xs) [] a k d h = absurd a
partner R (x ∷ xs) (y ∷ ys) a zero d h = (y, refl, a.0)
partner R (x ∷ xs) (y ∷ ys) a (suc k) d h = partner R xs ys a.1 k d (omega arith)

-- ---- rows

rows_within_match : (groups : List GroupPart) (g : ℕ) (part : GroupPart) → slice_get groups g ≡ Some part → (i : ℕ) (qs : List RequestPart)
    → drop i part.requests ≡ qs → AllZip (IsRowOf groups) (rows_within g i qs) (map (λ q. record { group = g; quota = part.quota; request = q }) qs)
rows_within_match groups g part e i [] rest = tt
rows_within_match groups g part e i (q ∷ qs) rest =
    let at = first_of_rest part.requests i q qs rest in (
      record { part = part; number = refl; same_group = refl; at_group = e; at_place = at.0 },
      rows_within_match groups g part e (suc i) qs at.1,
    )

rows_match : (groups : List GroupPart) (g : ℕ) (xs : List GroupPart) → drop g groups ≡ xs → AllZip (IsRowOf groups) (rows_from g xs) (listed_from g xs)
rows_match groups g [] rest = tt
rows_match groups g (x ∷ xs) rest =
    let at = first_of_rest groups g x xs rest in
    AllZip-append (IsRowOf groups) (rows_within g 0 x.requests) (map (λ q. record { group = g; quota = x.quota; request = q }) x.requests)
    (rows_from (suc g) xs) (listed_from (suc g) xs)
    (rows_within_match groups g x at.0 0 x.requests refl) (rows_match groups (suc g) xs at.1)

-- there is a row for each request
pub length-rows : (s : Parts) (rows : List Row) → rows ≡ rows_from 0 s.groups → length rows ≡ length (listed s)
length-rows s rows e = ap length e ∙ sym (AllZip-long (IsRowOf s.groups) (rows_from 0 s.groups) (listed s) (rows_match s.groups 0 s.groups refl))

-- the row at a place is that of the request which is listed there
pub row_at : (s : Parts) (rows : List Row) → rows ≡ rows_from 0 s.groups → (k : ℕ) (row : Row) → k < length (listed s) → row ≡ get_or rows k row
    → (x : Listed) × (slice_get (listed s) k ≡ Some x) × IsRowOf s.groups row x
row_at s rows e k row h is =
    let matched : AllZip (IsRowOf s.groups) rows (listed s) = rw e (rows_match s.groups 0 s.groups refl) in
    let found = partner (IsRowOf s.groups) rows (listed s) matched k row (omega (arith, length-rows s rows e)) in
    (found.0, found.1, subst (λ (r : Row). IsRowOf s.groups r found.0) (sym is) found.2)

-- ---- the request with a number

unequal : (a b : ℕ) → a < b → (a == b) ≡ false
unequal a b h = ne_eqb a b (λ e. absurd (omega arith))

-- the place of the request that is listed at place i
pub place_of_listed : (s : Parts) → IsOrderly s → (i : ℕ) (x : Listed) → slice_get (listed s) i ≡ Some x → place_of s x.request.request.0 ≡ i
place_of_listed s o i x e =
    let within : i < length (listed s) = slice_get_within (listed s) i x e in
    let here : get_or (listed s) i x ≡ x = get_or_from_slice_get (listed s) i x x e in
    let number : (get_or (listed s) i x).request.request.0 ≡ x.request.request.0 = ap (λ y. y.request.request.0) here in
    position_or_len_is (λ y. y.request.request.0 == x.request.request.0) (listed s) i x (omega arith)
    (λ k l. let rise : (get_or (listed s) k x).request.request.0 < (get_or (listed s) i x).request.request.0 = o.requests_rise k i x l within in
    unequal _ _ (omega arith))
    (λ _. eq-eqb _ _ number)

-- the row at a place has the number of the request that is listed there
row_number : (s : Parts) (rows : List Row) → rows ≡ rows_from 0 s.groups → (k : ℕ) (d : Row) (x : Listed) → k < length (listed s)
    → (get_or rows k d).request.0 ≡ (get_or (listed s) k x).request.request.0
row_number s rows e k d x h =
    let row = get_or rows k d in
    let within : k < length rows = omega (arith, length-rows s rows e) in
    let found = row_at s rows e k row h (get_or_default rows k d row within) in
    ap (λ n. n.0) found.2.number ∙ sym (ap (λ y. y.request.request.0) (get_or_from_slice_get (listed s) k found.0 x found.1))

below_index : (a b r : ℕ) → a ≤ b → ordering_index (nat_cmp a r) ≤ ordering_index (nat_cmp b r)
below_index a b r h = grind (arith, nat_tests)

-- against a number, the rows don't fall
rows_rise : (s : Parts) (rows : List Row) → rows ≡ rows_from 0 s.groups → IsOrderly s → (r : ℕ)
    → IsNonDecreasingBy (λ y. ordering_index (nat_cmp y.request.0 r)) rows
rows_rise s rows e o r i j d h l =
    let within : j < length (listed s) = omega (arith, length-rows s rows e) in
    let found = row_at s rows e j (get_or rows j d) within (get_or_default rows j d (get_or rows j d) l) in
    let x = found.0 in
    let at_i : (get_or rows i d).request.0 ≡ (get_or (listed s) i x).request.request.0 = row_number s rows e i d x (omega arith) in
    let at_j : (get_or rows j d).request.0 ≡ (get_or (listed s) j x).request.request.0 = row_number s rows e j d x within in
    let rise : (get_or (listed s) i x).request.request.0 ≤ (get_or (listed s) j x).request.request.0
    = elim (cases_eq i j) [
      | inl same ↦ let e : (get_or (listed s) i x).request.request.0 ≡ (get_or (listed s) j x).request.request.0 =
          ap (λ k. (get_or (listed s) k x).request.request.0) same in omega arith
      | inr other ↦ let rise : (get_or (listed s) i x).request.request.0 < (get_or (listed s) j x).request.request.0 =
          o.requests_rise i j x (omega arith) within in omega arith
    ]
    in below_index _ _ r (omega arith)

equal_numbers : (a b : ℕ) → nat_cmp a b ≡ Equal → a ≡ b
equal_numbers a b e = grind (arith, nat_tests)

less_number : (a b : ℕ) → nat_cmp a b ≡ Less → a < b
less_number a b e = grind (arith, nat_tests)

greater_number : (a b : ℕ) → nat_cmp a b ≡ Greater → b < a
greater_number a b e = grind (arith, nat_tests)

-- what a search by halves of the rows says of the request with number r
pub search_rows : (s : Parts) (rows : List Row) → rows ≡ rows_from 0 s.groups → IsOrderly s → (r : ℕ) (found : Result ℕ ℕ)
    → IsSearchInRange found (length rows) → IsBinarySearchResult (λ y. nat_cmp y.request.0 r) rows found
    → SomeIff (result_ok found) (IsKnown s r) (place_of s r)
search_rows s rows e o r (Ok i) within equal =
    let row : Row = record { request = record { 0 = r }; group = 0; place = 0 } in
    let listed_within : i < length (listed s) = omega (arith, length-rows s rows e) in
    let here = row_at s rows e i (get_or rows i row) listed_within (get_or_default rows i row (get_or rows i row) within) in
    let number : (get_or rows i row).request.0 ≡ r = equal_numbers _ r (equal row) in
    let same : here.0.request.request.0 ≡ r = sym (ap (λ n. n.0) here.2.number) ∙ number in
    let place : place_of s r ≡ i = subst (λ n. place_of s n ≡ i) same (place_of_listed s o i here.0 here.1) in
    (omega arith, sym place)
search_rows s rows e o r (Err i) within apart =
    λ known.
    let found = known_as s r known in
    let row : Row = record { request = record { 0 = r }; group = 0; place = 0 } in
    let halves = apart (rows_rise s rows e o r) in
    let in_rows : place_of s r < length rows = omega (arith, length-rows s rows e) in
    let number : (get_or rows (place_of s r) row).request.0 ≡ r
    = row_number s rows e (place_of s r) row found.0 known ∙ ap (λ y. y.request.request.0) found.1.at_place ∙ found.1.number
    in
    elim (cases_lt (place_of s r) i) [
      | inl before ↦ let less = less_number _ r (halves.0 (place_of s r) row (omega arith) before) in absurd (omega arith)
      | inr after ↦ let greater = greater_number _ r (halves.1 (place_of s r) row after in_rows) in absurd (omega arith)
    ]
