-- Parts that are in order have no fault.
use Rattle.std.proofs.Common.{◌≡◌, ℕ, ◌<◌, inl, inr, Bool, true, false, not, List, [], ◌∷◌, ◌++◌, length, slice_index_or, map, drop, refl, ap, arith, nat_lt}
use Rattle.std.proofs.Common.{nat_le, Option, Some, None}
use Rattle.std.specs.List.{find, flat_map, zip, list_all, position, position_or_len, All, AllPairs}
use Rattle.std.specs.Option.{option_map, ForSome}
use Rattle.std.proofs.lemmas.List.Elements.{All-cons, All-nil, All-head, All-tail, All-weaker, All-append}
use Rattle.std.proofs.lemmas.List.Folds.{list_any_none}
use Rattle.std.proofs.lemmas.Bool.Decides.{nat_tests}
use Rattle.plan_base.specs.declared.parts.Parts.{Parts}
use Rattle.plan_base.specs.declared.parts.Sky.{Sky}
use Rattle.plan_base.specs.declared.fault.SnapshotFault.TheVariants.{OverLimit}
use Rattle.plan_base.specs.declared.span.Span.{Span}
use Rattle.plan_base.specs.declared.number.TelescopeNo.{TelescopeNo}
use Rattle.plan_base.specs.Requests.{listed}
use Rattle.plan_base.specs.Skies.{IsSkyBelow}
use Rattle.plan_base.specs.Snapshot.{IsSnapshot, IsOrderly, IsSortedApart, all_spans, is_apart, sky_below, skies_rise, fits_after, with_last, names_quota}
use Rattle.plan_base.specs.Snapshot.{span_fault, apart_fault, group_fault, request_fault, shape_fault, telescope_fault, fade_fault, quota_fault}
use Rattle.plan_base.specs.Snapshot.{quota_range_fault, limit_of, counts_of, all_counted, first_some, limit_fault}
use Rattle.plan_base.proofs.Orders.{pairs_head, pairs_tail}
use Rattle.plan_base.proofs.Lists.{all_flat}

-- ---- nothing is found

-- nothing is found where no element passes
find_nothing : {X : Type 0} (p : X → Bool) (xs : List X) → All (λ x. p x ≡ false) xs → find p xs ≡ None
find_nothing p [] h = refl
find_nothing p (x ∷ xs) h =
    let here : p x ≡ false = All-head (λ y. p y ≡ false) x xs h in
    let rest : find p xs ≡ None = find_nothing p xs (All-tail (λ y. p y ≡ false) x xs h) in
    rw here rest

-- what is made of nothing is nothing
map_nothing : {X Y : Type 0} (f : X → Y) (p : X → Bool) (xs : List X) → All (λ x. p x ≡ false) xs → option_map f (find p xs) ≡ None
map_nothing f p xs h = rw (find_nothing p xs h) refl

all_nothing : {X Y : Type 0} (f : X → Option Y) (xs : List X) → ((x : X) → f x ≡ None) → first_some (map f xs) ≡ None
all_nothing f [] h = refl
all_nothing f (x ∷ xs) h = rw (h x) (all_nothing f xs h)

-- what holds of each pair of elements holds of each element with the next
adjacent : {X : Type 0} (R : X → X → Type 0) (xs : List X) → AllPairs R xs → All (λ p. R p.0 p.1) (zip xs (drop 1 xs))
adjacent R [] h = All-nil (λ p. R p.0 p.1)
adjacent R (x ∷ []) h = All-nil (λ p. R p.0 p.1)
adjacent R (x ∷ y ∷ ys) h =
    All-cons (λ p. R p.0 p.1) (x, y) (zip (y ∷ ys) ys) (All-head (R x) y ys (pairs_head R x (y ∷ ys) h)) (adjacent R (y ∷ ys) (pairs_tail R x (y ∷ ys) h))

-- a test of each that passes everywhere
all_pass : {X : Type 0} (p : X → Bool) (xs : List X) → All (λ x. p x ≡ true) xs → list_all p xs ≡ true
all_pass p [] h = refl
all_pass p (x ∷ xs) h =
    let here : p x ≡ true = All-head (λ y. p y ≡ true) x xs h in
    let rest : list_all p xs ≡ true = all_pass p xs (All-tail (λ y. p y ≡ true) x xs h) in
    rw here rest

-- ---- spans

each_full : {X : Type 0} (spans : X → List Span) (xs : List X) → All (λ x. IsSortedApart (spans x)) xs → All (λ x. All (λ w. w.from.0 < w.to.0) (spans x)) xs
each_full spans xs h = All-weaker (λ x. IsSortedApart (spans x)) (λ x. All (λ w. w.from.0 < w.to.0) (spans x)) (λ x s. s.nonempty) xs h

all_full : (s : Parts) → IsOrderly s → All (λ w. w.from.0 < w.to.0) (all_spans s)
all_full s h =
    let usable = flat_map (λ t. t.usable) s.telescopes in
    let skies = flat_map (λ y. y.spans) s.skies in
    All-append (λ w. w.from.0 < w.to.0) (usable ++ skies) (flat_map (λ x. x.request.windows) (listed s))
    (All-append (λ w. w.from.0 < w.to.0) usable skies
    (all_flat (λ w. w.from.0 < w.to.0) (λ t. t.usable) s.telescopes (each_full (λ t. t.usable) s.telescopes h.usable))
    (all_flat (λ w. w.from.0 < w.to.0) (λ y. y.spans) s.skies (each_full (λ y. y.spans) s.skies h.skies)))
    (all_flat (λ w. w.from.0 < w.to.0) (λ x. x.request.windows) (listed s) h.windows)

no_empty : (w : Span) → w.from.0 < w.to.0 → nat_le w.to.0 w.from.0 ≡ false
no_empty w lt = grind (arith, nat_tests)

no_span_fault : (s : Parts) → IsOrderly s → span_fault s ≡ None
no_span_fault s h =
    rw (list_any_none (λ w. nat_le w.to.0 w.from.0) (all_spans s)
    (All-weaker (λ w. w.from.0 < w.to.0) (λ w. nat_le w.to.0 w.from.0 ≡ false) no_empty (all_spans s) (all_full s h))) refl

apart_is : (spans : List Span) → IsSortedApart spans → is_apart spans ≡ true
apart_is spans h =
    all_pass (λ p. nat_lt p.0.to.0 p.1.from.0) (zip spans (drop 1 spans))
    (All-weaker (λ p. p.0.to.0 < p.1.from.0) (λ p. nat_lt p.0.to.0 p.1.from.0 ≡ true) (λ p lt. grind (arith, nat_tests)) (zip spans (drop 1 spans))
    (adjacent (λ v w. v.to.0 < w.from.0) spans h.apart))

each_apart : {X : Type 0} (spans : X → List Span) (xs : List X) → All (λ x. IsSortedApart (spans x)) xs → list_all (λ x. is_apart (spans x)) xs ≡ true
each_apart spans xs h =
    all_pass (λ x. is_apart (spans x)) xs (All-weaker (λ x. IsSortedApart (spans x)) (λ x. is_apart (spans x) ≡ true) (λ x s. apart_is (spans x) s) xs h)

below_is : (y z : Sky) → IsSkyBelow y z → sky_below y z ≡ true
below_is y z h = elim h [
  | inl lt ↦ grind (arith, nat_tests)
  | inr both ↦ grind (arith, nat_tests, both.0, both.1)
]

rise_is : (skies : List Sky) → AllPairs IsSkyBelow skies → skies_rise skies ≡ true
rise_is skies h =
    all_pass (λ p. sky_below p.0 p.1) (zip skies (drop 1 skies))
    (All-weaker (λ p. IsSkyBelow p.0 p.1) (λ p. sky_below p.0 p.1 ≡ true) (λ p b. below_is p.0 p.1 b) (zip skies (drop 1 skies)) (adjacent IsSkyBelow skies h))

no_apart_fault : (s : Parts) → IsOrderly s → apart_fault s ≡ None
no_apart_fault s h =
    rw (each_apart (λ t. t.usable) s.telescopes h.usable, each_apart (λ y. y.spans) s.skies h.skies, rise_is s.skies h.skies_rise) refl

-- ---- groups and requests

no_fall : {X : Type 0} (number : X → ℕ) (xs : List X) → AllPairs (λ x y. number x < number y) xs
    → All (λ p. nat_le (number p.1) (number p.0) ≡ false) (zip xs (drop 1 xs))
no_fall number xs h =
    All-weaker (λ p. number p.0 < number p.1) (λ p. nat_le (number p.1) (number p.0) ≡ false) (λ p lt. grind (arith, nat_tests)) (zip xs (drop 1 xs))
    (adjacent (λ x y. number x < number y) xs h)

no_group_fault : (s : Parts) → IsOrderly s → group_fault s ≡ None
no_group_fault s h = map_nothing _ _ (zip s.groups (drop 1 s.groups)) (no_fall (λ x. x.group.0) s.groups h.groups_rise)

no_request_fault : (s : Parts) → IsOrderly s → request_fault s ≡ None
no_request_fault s h = map_nothing _ _ (zip (listed s) (drop 1 (listed s))) (no_fall (λ x. x.request.request.0) (listed s) h.requests_rise)

no_shape_fault : (s : Parts) → IsOrderly s → shape_fault s ≡ None
no_shape_fault s h = map_nothing _ _ s.groups (λ k d lt. let both = h.shapes k d lt in grind (arith, nat_tests, both.0, both.1))

fits_one : (n : ℕ) (last : Option TelescopeNo) (t : TelescopeNo) → ((p : TelescopeNo) → last ≡ Some p → p.0 < t.0) → t.0 < n
    → not (fits_after n (last, t)) ≡ false
fits_one n None t after lt = grind (arith, nat_tests)
fits_one n (Some p) t after lt = let rises : p.0 < t.0 = after p refl in grind (arith, nat_tests)

fits_all : (n : ℕ) (last : Option TelescopeNo) (ts : List TelescopeNo) → ((p : TelescopeNo) → last ≡ Some p → All (λ t. p.0 < t.0) ts)
    → All (λ t. t.0 < n) ts → AllPairs (λ t u. t.0 < u.0) ts → All (λ p. not (fits_after n p) ≡ false) (zip (last ∷ map (λ t. Some t) ts) ts)
fits_all n last [] after within rise = All-nil (λ p. not (fits_after n p) ≡ false)
fits_all n last (t ∷ ts) after within rise =
    let next : (p : TelescopeNo) → Some t ≡ Some p → All (λ u. p.0 < u.0) ts
    = λ p e.
    let same : t ≡ p = cc in
    All-weaker (λ u. t.0 < u.0) (λ u. p.0 < u.0) (λ u lt. omega (arith, ap (λ (v : TelescopeNo). v.0) same)) ts (pairs_head (λ t u. t.0 < u.0) t ts rise)
    in
    All-cons (λ p. not (fits_after n p) ≡ false) (last, t) (zip (Some t ∷ map (λ u. Some u) ts) ts)
    (fits_one n last t (λ p e. All-head (λ u. p.0 < u.0) t ts (after p e)) (All-head (λ u. u.0 < n) t ts within))
    (fits_all n (Some t) ts next (All-tail (λ u. u.0 < n) t ts within) (pairs_tail (λ t u. t.0 < u.0) t ts rise))

no_telescope_fault : (s : Parts) → IsOrderly s → telescope_fault s ≡ None
no_telescope_fault s h =
    map_nothing _ _ (flat_map (λ x. with_last x.request.telescopes) (listed s))
    (all_flat (λ p. not (fits_after (length s.telescopes) p) ≡ false) (λ x. with_last x.request.telescopes) (listed s)
    (λ k d lt. fits_all (length s.telescopes) None (slice_index_or (listed s) k d).request.telescopes (λ p e. absurd (cc)) (h.telescopes k d lt)
    (h.telescopes_rise k d lt)))

no_fade_fault : (s : Parts) → IsOrderly s → fade_fault s ≡ None
no_fade_fault s h = map_nothing _ _ (listed s) (λ k d lt. let fade = h.fades k d lt in grind (arith, nat_tests))

quota_is : (n : ℕ) (quota : Option ℕ) → ForSome quota (λ q. q < n) → not (names_quota n quota) ≡ false
quota_is n None h = refl
quota_is n (Some q) h = let lt : q < n = h q refl in grind (arith, nat_tests)

no_quota_fault : (s : Parts) → IsOrderly s → quota_fault s ≡ None
no_quota_fault s h = map_nothing _ _ s.groups (λ k d lt. quota_is (length s.quotas) (slice_index_or s.groups k d).quota (h.quotas k d lt))

-- no place is found where no element passes
past_all : {X : Type 0} (p : X → Bool) (xs : List X) → All (λ x. p x ≡ false) xs → position_or_len p xs ≡ length xs
past_all p [] h = refl
past_all p (x ∷ xs) h =
    let here : p x ≡ false = All-head (λ y. p y ≡ false) x xs h in
    let rest : position_or_len p xs ≡ length xs = past_all p xs (All-tail (λ y. p y ≡ false) x xs h) in
    rw here (omega (arith, rest))

no_place : (n : ℕ) → nat_lt n n ≡ false
no_place n = grind (arith, nat_tests)

no_position : {X Y : Type 0} (f : ℕ → Y) (p : X → Bool) (xs : List X) → All (λ x. p x ≡ false) xs → option_map f (position p xs) ≡ None
no_position f p xs h = rw (past_all p xs h, no_place (length xs)) refl

no_quota_range_fault : (s : Parts) → IsOrderly s → quota_range_fault s ≡ None
no_quota_range_fault s h = no_position _ (λ q. nat_lt 100000000 q) s.quotas (λ k d lt. let most = h.quota_ranges k d lt in grind (arith, nat_tests))

-- ---- limits

no_limit_fault : (s : Parts) → IsOrderly s → limit_fault s ≡ None
no_limit_fault s h =
    all_nothing (λ what. option_map (λ n. OverLimit what n) (find (λ n. nat_lt (limit_of what) n) (counts_of s what))) all_counted
    (λ what. map_nothing (λ n. OverLimit what n) (λ n. nat_lt (limit_of what) n) (counts_of s what) (λ k d lt. let most = h.within what k d lt in
    grind (arith, nat_tests)))

-- ---- all together

-- parts that are in order are a snapshot
pub faultless : (s : Parts) → IsOrderly s → IsSnapshot s
faultless s h = record {
  ranges = h.ranges;
  faultless = rw (no_limit_fault s h, no_span_fault s h, no_apart_fault s h, no_group_fault s h, no_request_fault s h)
      (rw (no_shape_fault s h, no_telescope_fault s h, no_fade_fault s h, no_quota_fault s h, no_quota_range_fault s h) refl);
}
