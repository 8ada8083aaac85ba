-- The pairs of a snapshot, and the slices that are found for them.
use Rattle.std.proofs.Common.{◌≡◌, ℕ, ◌+◌, ◌*◌, ◌<◌, ◌≤◌, inl, inr, List, [], ◌∷◌, ◌++◌, length, map, take, slice_index_or, All, AllPairs, Contains}
use Rattle.std.proofs.Common.{None, Ok, Err, Result, refl, sym, ◌∙◌, ap, subst, arith}
use Rattle.std.specs.Prelude.{flat_map, sum_by, HoldsAt, IfOk, MatchResult}
use Rattle.std.specs.List.{AllZip}
use Rattle.std.specs.declared.vec.Vec.{Vec}
use Rattle.std.specs.declared.alloc.Global.{Global}
use Rattle.std.specs.declared.alloc.AllocError.{AllocError}
use Rattle.std.proofs.lemmas.List.{take_more, append_assoc, map_more, flat_map_more, length-map}
use Rattle.std.proofs.lemmas.List.Elements.{All-nil, All-cons, All-contains, Contains-get_or}
use Rattle.std.proofs.lemmas.List.Concat.{length-flat_map}
use Rattle.std.proofs.lemmas.List.Sums.{sum_by-le}
use Rattle.plan_base.specs.declared.parts.Parts.{Parts}
use Rattle.plan_base.specs.declared.parts.RequestPart.{RequestPart}
use Rattle.plan_base.specs.declared.fault.Counted.TheVariants.{Requests, Fits}
use Rattle.plan_base.specs.declared.number.RequestNo.{RequestNo}
use Rattle.plan_base.specs.declared.number.TelescopeNo.{TelescopeNo}
use Rattle.plan_base.specs.declared.span.Span.{Span}
use Rattle.plan_base.specs.Requests.{Listed, listed, place_of, IsKnown, telescopes_of}
use Rattle.plan_base.specs.Snapshot.{IsOrderly}
use Rattle.plan_base.specs.Starts.{IsPossibleStart}
use Rattle.plan_base.proofs.Lists.{contains_map, AllPairs-map}
use Rattle.plan_base.proofs.Members.{contains_from_map}
use Rattle.plan_base.proofs.Known.{known_as, known_or_is}
use Rattle.snapshot_starts.specs.declared.pair.Pair.{Pair}
use Rattle.snapshot_starts.specs.declared.pair.PairSlices.{PairSlices}
use Rattle.snapshot_starts.specs.Slices.{AreSlices}
use Rattle.snapshot_starts.specs.Pairs.{CanStart, pair_start, pair_of, pairs_of_request, pairs_of, IsPairBefore, ArePairSlices}
use Rattle.snapshot_starts.specs.Found.{IsFoundFor, AreFound}
use Rattle.snapshot_starts.proofs.Pairing.{possible_iff}
use Rattle.snapshot_starts.proofs.Sets.{no_slices}
use Rattle.snapshot_starts.proofs.InRuns.{in_flat_map, pairs_flat_map}

abbrev of_listed : Listed → List Pair
of_listed x = pairs_of_request x.request

-- what one more item of a list gives
pub flat_map_one_more : {X Y : Type 0} (f : X → List Y) (xs : List X) (i : ℕ) (d : X) → i < length xs
    → flat_map f (take (i + 1) xs) ≡ flat_map f (take i xs) ++ f (slice_index_or xs i d)
flat_map_one_more f xs i d l = ap (flat_map f) (take_more xs i d l) ∙ sym (flat_map_more f [] (take i xs) (slice_index_or xs i d))

-- the pair of one more telescope
pub pushed_pair : (r : RequestNo) (ts us : List TelescopeNo) (pairs now new : List Pair) (i : ℕ) (d : TelescopeNo) → us ≡ ts → i < length us
    → now ≡ pairs ++ map (pair_of r) (take i ts) → new ≡ now ++ pair_of r (slice_index_or us i d) ∷ []
    → new ≡ pairs ++ map (pair_of r) (take (i + 1) ts)
pushed_pair r ts us pairs now new i d same l so_far e =
    let one : map (pair_of r) (take (i + 1) ts) ≡ map (pair_of r) (take i ts) ++ pair_of r (slice_index_or ts i d) ∷ [] =
    map_more (pair_of r) ts i d (subst (λ (xs : List TelescopeNo). i < length xs) same l) in
    e ∙ ap (λ (xs : List TelescopeNo). now ++ pair_of r (slice_index_or xs i d) ∷ []) same
    ∙ ap (λ (ps : List Pair). ps ++ pair_of r (slice_index_or ts i d) ∷ []) so_far
    ∙ append_assoc pairs (map (pair_of r) (take i ts)) (pair_of r (slice_index_or ts i d) ∷ []) ∙ ap (λ (ps : List Pair). pairs ++ ps) (sym one)

pub more_pairs : (s : Parts) (place : ℕ) (q : RequestPart) (pairs new : List Pair) → place < length (listed s) → HoldsAt (λ x. x.request ≡ q) (listed s) place
    → pairs ≡ flat_map (λ x. pairs_of_request x.request) (take place (listed s)) → new ≡ pairs ++ pairs_of_request q
    → new ≡ flat_map (λ x. pairs_of_request x.request) (take (place + 1) (listed s))
more_pairs s place q pairs new l at so_far e =
    let x : Listed = record { group = 0; quota = None; request = q } in
    let y : Listed = slice_index_or (listed s) place x in
    let one : of_listed y ≡ pairs_of_request q = ap pairs_of_request (at x) in
    e ∙ ap (λ (ps : List Pair). ps ++ pairs_of_request q) so_far
    ∙ sym (flat_map_one_more of_listed (listed s) place x l ∙ ap (λ (ps : List Pair). flat_map of_listed (take place (listed s)) ++ ps) one)

-- ---- the slices of one pair

pub known_pair_slices : (s : Parts) (pair : Pair) (place : ℕ) (q : RequestPart) (slices : List Span) → IsOrderly s → IsKnown s pair.request.0
    → place ≡ place_of s pair.request.0
    → HoldsAt (λ x. x.request ≡ q) (listed s) place → AreSlices (CanStart s q pair.telescope) slices → ArePairSlices s (record { pair = pair; slices = slices })
known_pair_slices s pair place q slices o known at holds are = record {
  starts = λ k. let both = possible_iff s (pair_start pair k) place q o known at holds in
      (λ is_in. both.1 ((are.each k).0 is_in), λ possible. (are.each k).1 (both.0 possible));
  sorted = are.sorted;
}

pub unknown_pair_slices : (s : Parts) (pair : Pair) → ¬ (IsKnown s pair.request.0) → ArePairSlices s (record { pair = pair; slices = [] })
unknown_pair_slices s pair unknown =
    let none = no_slices (λ k. IsPossibleStart s (pair_start pair k)) (λ k possible. unknown possible.known) in
    record { starts = none.each; sorted = none.sorted }

-- ---- the pairs in order

before_by_telescope : (r : RequestNo) (ts : List TelescopeNo) → AllPairs (λ t u. t.0 < u.0) ts → AllPairs IsPairBefore (map (pair_of r) ts)
before_by_telescope r ts rise = AllPairs-map IsPairBefore (pair_of r) ts (λ i j d l m. inr (refl, rise i j d l m))

pub pairs_in_order : (s : Parts) → IsOrderly s → AllPairs IsPairBefore (pairs_of s)
pairs_in_order s o =
    pairs_flat_map (λ x y. x.request.request.0 < y.request.request.0) IsPairBefore of_listed (listed s) o.requests_rise
    (λ x c. before_by_telescope x.request.request x.request.telescopes
    (All-contains (λ y. AllPairs (λ t u. t.0 < u.0) y.request.telescopes) (listed s) x o.telescopes_rise c))
    (λ x y a b less in_x in_y.
    let first = contains_from_map (pair_of x.request.request) x.request.telescopes a in_x in
    let second = contains_from_map (pair_of y.request.request) y.request.telescopes b in_y in
    let left : a.request.0 ≡ x.request.request.0 = ap (λ (p : Pair). p.request.0) (sym first.2) in
    let right : b.request.0 ≡ y.request.request.0 = ap (λ (p : Pair). p.request.0) (sym second.2) in
    inl (omega arith))

same_request : (a b : RequestNo) → a.0 ≡ b.0 → a ≡ b
same_request a b e = ap (λ (n : ℕ). let r : RequestNo = record { 0 = n } in r) e

-- a request that is known, on one of its telescopes, is one of the pairs
pub pair_is_listed : (s : Parts) (r : RequestNo) (t : TelescopeNo) → IsKnown s r.0 → Contains (telescopes_of s r.0) t → Contains (pairs_of s) (pair_of r t)
pair_is_listed s r t known able =
    let found = known_as s r.0 known in
    let x : Listed = found.0 in
    let telescopes : telescopes_of s r.0 ≡ x.request.telescopes = known_or_is (λ y. y.request.telescopes) [] s r.0 x known found.1 in
    let able_there : Contains x.request.telescopes t = subst (λ (ts : List TelescopeNo). Contains ts t) telescopes able in
    let there : Contains (of_listed x) (pair_of x.request.request t) = contains_map (pair_of x.request.request) x.request.telescopes t able_there in
    let same : x.request.request ≡ r = same_request x.request.request r found.1.number in
    in_flat_map of_listed (listed s) x (pair_of r t) found.1.in_list (subst (λ (q : RequestNo). Contains (of_listed x) (pair_of q t)) same there)

few_telescopes : (s : Parts) → IsOrderly s → All (λ x. length x.request.telescopes ≤ 32) (listed s)
few_telescopes s o i d l =
    let counts : List ℕ = map (λ x. length x.request.telescopes) (listed s) in
    All-contains (λ n. n ≤ 32) counts (length (slice_index_or (listed s) i d).request.telescopes) (o.within Fits)
    (contains_map (λ x. length x.request.telescopes) (listed s) (slice_index_or (listed s) i d) (Contains-get_or (listed s) i d l))

pub few_pairs : (s : Parts) → IsOrderly s → length (pairs_of s) ≤ 32768
few_pairs s o =
    let most : length (listed s) ≤ 1024 = o.within Requests 0 0 (omega arith) in
    let each : All (λ x. length (of_listed x) ≤ 32) (listed s) = λ i d l.
    let same : length (of_listed (slice_index_or (listed s) i d)) ≡ length (slice_index_or (listed s) i d).request.telescopes =
    length-map (slice_index_or (listed s) i d).request.telescopes (pair_of (slice_index_or (listed s) i d).request.request) in
    let few : length (slice_index_or (listed s) i d).request.telescopes ≤ 32 = few_telescopes s o i d l in
    omega arith in
    let count : length (pairs_of s) ≡ sum_by (λ x. length (of_listed x)) (listed s) = length-flat_map of_listed (listed s) in
    let sum : sum_by (λ x. length (of_listed x)) (listed s) ≤ length (listed s) * 32 = sum_by-le (λ x. length (of_listed x)) 32 (listed s) each in
    omega arith

-- ---- what was found for all pairs

pub found_pairs : (s : Parts) (pairs : List Pair) (found : List PairSlices) → AllZip (IsFoundFor s) pairs found → (map (λ x. x.pair) found ≡ pairs)
    × All (ArePairSlices s) found
found_pairs s [] [] z = (refl, All-nil (ArePairSlices s))
found_pairs s [] (x ∷ found) z = absurd z
found_pairs s (pair ∷ pairs) [] z = absurd z
found_pairs s (pair ∷ pairs) (x ∷ found) (here, rest) =
    let later = found_pairs s pairs found rest in
    (λ i. here.same i ∷ later.0 i, All-cons (ArePairSlices s) x found here.found later.1)

pub are_found : (s : Parts) (pairs : List Pair) (found : List PairSlices) → pairs ≡ pairs_of s → AllZip (IsFoundFor s) pairs found → AreFound s found
are_found s pairs found e z = let both = found_pairs s pairs found z in record { pairs = both.0 ∙ e; each = both.1 }

through_ok : (s : Parts) (pairs : List Pair) (found : List PairSlices)
    → AllZip (λ pair r. IfOk r (IsFoundFor s pair)) pairs (map (λ x. let r : Result PairSlices AllocError = Ok x in r) found)
    → AllZip (IsFoundFor s) pairs found
through_ok s [] [] z = tt
through_ok s [] (x ∷ found) z = absurd z
through_ok s (pair ∷ pairs) [] z = absurd z
through_ok s (pair ∷ pairs) (x ∷ found) (here, rest) = (here, through_ok s pairs found rest)

-- what was collected of answers that are all there
pub collected : (s : Parts) (pairs : List Pair) (answers : List (Result PairSlices AllocError)) (all : Result (Vec PairSlices Global) AllocError)
    → AllZip (λ pair r. IfOk r (IsFoundFor s pair)) pairs answers
    → MatchResult all (λ v. (found : List PairSlices) × (answers ≡ map Ok found) × (v.items ≡ found)) (λ e. Contains answers (Err e))
    → IfOk all (λ v. AllZip (IsFoundFor s) pairs v.items)
collected s pairs answers (Ok v) z (found, e, same) =
    subst (AllZip (IsFoundFor s) pairs) (sym same) (through_ok s pairs found (subst (AllZip (λ pair r. IfOk r (IsFoundFor s pair)) pairs) e z))
collected s pairs answers (Err e) z h = tt
