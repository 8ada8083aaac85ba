-- What the absence of faults says of a snapshot's parts.
use Rattle.std.proofs.Common.{◌≡◌, ℕ, ◌<◌, ◌≤◌, inl, inr, Bool, true, false, cond, not, ◌&&◌, List, [], ◌∷◌, ◌++◌, length, slice_index_or, map, drop}
use Rattle.std.proofs.Common.{refl, sym, ap, ◌∙◌, arith, lit<, nat_lt, nat_le, Option, Some, None}
use Rattle.std.specs.List.{find, flat_map, zip, list_any, list_all, position, position_or_len, All, AllPairs}
use Rattle.std.specs.Option.{option_map, option_or, ForSome}
use Rattle.std.proofs.lemmas.List.Elements.{All-cons, All-nil, All-head, All-tail, All-weaker}
use Rattle.std.proofs.lemmas.List.Kept.{AllPairs-cons}
use Rattle.std.proofs.lemmas.List.Sums.{AllPass-from_list_all, fails_before_first}
use Rattle.std.proofs.lemmas.Bool.{or_parts, and_parts, or_cases, ltb-true, ltb-false, leb-true, leb-false, eqb-true, not-false}
use Rattle.std.proofs.lemmas.Bool.Decides.{nat_tests}
use Rattle.plan_base.specs.declared.parts.Parts.{Parts}
use Rattle.plan_base.specs.declared.fault.Counted.{Counted}
use Rattle.plan_base.specs.declared.fault.Counted.TheVariants.{Telescopes, Usable, Skies, Spans, Groups, Requests, Windows, Targets, Fits, Quotas}
use Rattle.plan_base.specs.declared.fault.SnapshotFault.{SnapshotFault}
use Rattle.plan_base.specs.declared.fault.SnapshotFault.TheVariants.{OverLimit, EmptySpan, NotApart}
use Rattle.plan_base.specs.declared.parts.Sky.{Sky}
use Rattle.plan_base.specs.declared.parts.GroupPart.{GroupPart}
use Rattle.plan_base.specs.declared.span.Span.{Span}
use Rattle.plan_base.specs.declared.number.TelescopeNo.{TelescopeNo}
use Rattle.plan_base.specs.Requests.{listed}
use Rattle.plan_base.proofs.Orders.{pairs_head}
use Rattle.plan_base.specs.Skies.{IsSkyBelow}
use Rattle.plan_base.specs.Snapshot.{IsSnapshot, IsOrderly, IsSortedApart, all_spans, is_apart, sky_below, skies_rise, most_requests, has_shape}
use Rattle.plan_base.specs.Snapshot.{fits_after, with_last, names_quota, span_fault, apart_fault, group_fault, request_fault, shape_fault}
use Rattle.plan_base.specs.Snapshot.{telescope_fault, fade_fault, quota_fault, quota_range_fault, limit_of, counts_of, all_counted, first_some}
use Rattle.plan_base.specs.Snapshot.{limit_fault}

-- ---- absent values

option_or_none : {X : Type 0} (a b : Option X) → option_or a b ≡ None → (a ≡ None) × (b ≡ None)
option_or_none None b e = (refl, e)
option_or_none (Some x) b e = cc

option_map_none : {X Y : Type 0} (f : X → Y) (o : Option X) → option_map f o ≡ None → o ≡ None
option_map_none f None e = refl
option_map_none f (Some x) e = cc

first_some_none : {X Y : Type 0} (f : X → Option Y) (xs : List X) → first_some (map f xs) ≡ None → All (λ x. f x ≡ None) xs
first_some_none f [] e = All-nil (λ x. f x ≡ None)
first_some_none f (x ∷ xs) e =
    let each = option_or_none (f x) (first_some (map f xs)) e in
    All-cons (λ y. f y ≡ None) x xs each.0 (first_some_none f xs each.1)

all_absent : {X : Type 0} (os : List (Option X)) → first_some os ≡ None → All (λ o. o ≡ None) os
all_absent [] e = All-nil (λ o. o ≡ None)
all_absent (o ∷ os) e =
    let each = option_or_none o (first_some os) e in
    All-cons (λ p. p ≡ None) o os each.0 (all_absent os each.1)

find_none : {X : Type 0} (p : X → Bool) (xs : List X) → find p xs ≡ None → All (λ x. p x ≡ false) xs
find_none p [] e = All-nil (λ x. p x ≡ false)
find_none p (x ∷ xs) e =
    let step : (b : Bool) → b ≡ p x → cond b (Some x) (find p xs) ≡ None → All (λ y. p y ≡ false) (x ∷ xs)
    = λ b. elim b as (λ v. v ≡ p x → cond v (Some x) (find p xs) ≡ None → All (λ y. p y ≡ false) (x ∷ xs))
    [ true ↦ λ _ h. cc | false ↦ λ q h. All-cons (λ y. p y ≡ false) x xs (sym q) (find_none p xs h) ]
    in step (p x) refl e

-- ---- the limits

-- each kind of count is one of the list of all
each_counted : (f : Counted → Option SnapshotFault) → first_some (map f all_counted) ≡ None → (what : Counted) → f what ≡ None
each_counted f e what =
    let all = first_some_none f all_counted e in
    elim what as (λ w. f w ≡ None) [
      | Telescopes ↦ all 0 what (lit< tt)
      | Usable ↦ all 1 what (lit< tt)
      | Skies ↦ all 2 what (lit< tt)
      | Spans ↦ all 3 what (lit< tt)
      | Groups ↦ all 4 what (lit< tt)
      | Requests ↦ all 5 what (lit< tt)
      | Windows ↦ all 6 what (lit< tt)
      | Targets ↦ all 7 what (lit< tt)
      | Fits ↦ all 8 what (lit< tt)
      | Quotas ↦ all 9 what (lit< tt)
    ]

-- no count of any kind is above its limit
pub within_limits : (s : Parts) → limit_fault s ≡ None → (what : Counted) → All (λ n. n ≤ limit_of what) (counts_of s what)
within_limits s e what k d h =
    let absent = each_counted (λ w. option_map (λ n. OverLimit w n) (find (λ n. nat_lt (limit_of w) n) (counts_of s w))) e what in
    let below = find_none (λ n. nat_lt (limit_of what) n) (counts_of s what) (option_map_none (λ n. OverLimit what n) _ absent) k d h in
    grind (arith, nat_tests)

-- ---- tests of whole lists

any_false : {X : Type 0} (p : X → Bool) (xs : List X) → list_any p xs ≡ false → All (λ x. p x ≡ false) xs
any_false p [] e = All-nil (λ x. p x ≡ false)
any_false p (x ∷ xs) e =
    let both = or_parts (p x) (list_any p xs) e in
    All-cons (λ y. p y ≡ false) x xs both.0 (any_false p xs both.1)

all_left : {X : Type 0} (P : X → Type 0) (xs ys : List X) → All P (xs ++ ys) → All P xs
all_left P [] ys a = All-nil P
all_left P (x ∷ xs) ys a = All-cons P x xs (All-head P x (xs ++ ys) a) (all_left P xs ys (All-tail P x (xs ++ ys) a))

all_right : {X : Type 0} (P : X → Type 0) (xs ys : List X) → All P (xs ++ ys) → All P ys
all_right P [] ys a = a
all_right P (x ∷ xs) ys a = all_right P xs ys (All-tail P x (xs ++ ys) a)

all_parts : {X Y : Type 0} (P : Y → Type 0) (f : X → List Y) (xs : List X) → All P (flat_map f xs) → All (λ x. All P (f x)) xs
all_parts P f [] a = All-nil (λ x. All P (f x))
all_parts P f (x ∷ xs) a =
    All-cons (λ y. All P (f y)) x xs (all_left P (f x) (flat_map f xs) a) (all_parts P f xs (all_right P (f x) (flat_map f xs) a))

-- a relation that passes on, and holds of each element and the next, holds of each pair
pairs_of_adjacent : {X : Type 0} (R : X → X → Type 0) → ((x y z : X) → R x y → R y z → R x z) → (xs : List X)
    → All (λ p. R p.0 p.1) (zip xs (drop 1 xs)) → AllPairs R xs
pairs_of_adjacent R t [] a = λ i j d l m. absurd (omega arith)
pairs_of_adjacent R t (x ∷ []) a = λ i j d l m. absurd (omega arith)
pairs_of_adjacent R t (x ∷ y ∷ ys) a =
    let first : R x y = All-head (λ p. R p.0 p.1) (x, y) (zip (y ∷ ys) ys) a in
    let rest : AllPairs R (y ∷ ys) = pairs_of_adjacent R t (y ∷ ys) (All-tail (λ p. R p.0 p.1) (x, y) (zip (y ∷ ys) ys) a) in
    AllPairs-cons R x (y ∷ ys) (All-cons (R x) y ys first (All-weaker (R y) (R x) (λ z. t x y z first) ys (pairs_head R y ys rest))) rest

-- a list in which no number fails to rise over the one before it rises
rises : {X : Type 0} (number : X → ℕ) (xs : List X) → find (λ p. nat_le (number p.1) (number p.0)) (zip xs (drop 1 xs)) ≡ None
    → AllPairs (λ x y. number x < number y) xs
rises number xs e =
    pairs_of_adjacent (λ x y. number x < number y) (λ x y z l m. omega arith) xs
    (λ k d h. leb-false _ _ (find_none (λ p. nat_le (number p.1) (number p.0)) (zip xs (drop 1 xs)) e k d h))

-- ---- spans

has_second : (w : Span) → nat_le w.to.0 w.from.0 ≡ false → w.from.0 < w.to.0
has_second w e = leb-false w.to.0 w.from.0 e

no_empty_span : (s : Parts) → span_fault s ≡ None → All (λ w. w.from.0 < w.to.0) (all_spans s)
no_empty_span s e =
    let absent : (b : Bool) → cond b (Some EmptySpan) None ≡ None → b ≡ false
    = λ b. elim b as (λ v. cond v (Some EmptySpan) None ≡ None → v ≡ false) [ true ↦ λ h. cc | false ↦ λ _. refl ]
    in All-weaker (λ w. nat_le w.to.0 w.from.0 ≡ false) (λ w. w.from.0 < w.to.0) has_second (all_spans s) (any_false _ (all_spans s) (absent _ e))

sorted_apart : (spans : List Span) → All (λ w. w.from.0 < w.to.0) spans → is_apart spans ≡ true → IsSortedApart spans
sorted_apart spans full e =
    let next : All (λ p. p.0.to.0 < p.1.from.0) (zip spans (drop 1 spans))
    = λ k d h. ltb-true _ _ (AllPass-from_list_all (λ p. nat_lt p.0.to.0 p.1.from.0) (zip spans (drop 1 spans)) e k d h)
    in record { nonempty = full; apart = apart_pairs spans full next }
  where
    apart_pairs : (spans : List Span) → All (λ w. w.from.0 < w.to.0) spans → All (λ p. p.0.to.0 < p.1.from.0) (zip spans (drop 1 spans))
        → AllPairs (λ v w. v.to.0 < w.from.0) spans
    apart_pairs [] full a = λ i j d l m. absurd (omega arith)
    apart_pairs (x ∷ []) full a = λ i j d l m. absurd (omega arith)
    apart_pairs (x ∷ y ∷ ys) full a =
        let first : x.to.0 < y.from.0 = All-head (λ p. p.0.to.0 < p.1.from.0) (x, y) (zip (y ∷ ys) ys) a in
        let tail : All (λ w. w.from.0 < w.to.0) (y ∷ ys) = All-tail (λ w. w.from.0 < w.to.0) x (y ∷ ys) full in
        let rest : AllPairs (λ v w. v.to.0 < w.from.0) (y ∷ ys) =
        apart_pairs (y ∷ ys) tail (All-tail (λ p. p.0.to.0 < p.1.from.0) (x, y) (zip (y ∷ ys) ys) a) in
        let here : y.from.0 < y.to.0 = All-head (λ w. w.from.0 < w.to.0) y ys tail in
        AllPairs-cons (λ v w. v.to.0 < w.from.0) x (y ∷ ys)
        (All-cons (λ w. x.to.0 < w.from.0) y ys first
        (All-weaker (λ w. y.to.0 < w.from.0) (λ w. x.to.0 < w.from.0) (λ w l. omega arith) ys (pairs_head (λ v w. v.to.0 < w.from.0) y ys rest)))
        rest

-- what is not apart is a fault
all_apart : (s : Parts) → apart_fault s ≡ None → (list_all (λ t. is_apart t.usable) s.telescopes ≡ true)
    × (list_all (λ y. is_apart y.spans) s.skies ≡ true) × (skies_rise s.skies ≡ true)
all_apart s e =
    let holds : (b : Bool) → cond b None (Some NotApart) ≡ None → b ≡ true
    = λ b. elim b as (λ v. cond v None (Some NotApart) ≡ None → v ≡ true) [ true ↦ λ _. refl | false ↦ λ h. cc ]
    in
    let both = and_parts (list_all (λ t. is_apart t.usable) s.telescopes && list_all (λ y. is_apart y.spans) s.skies) (skies_rise s.skies) (holds _ e) in
    let spans = and_parts (list_all (λ t. is_apart t.usable) s.telescopes) (list_all (λ y. is_apart y.spans) s.skies) both.0 in
    (spans.0, spans.1, both.1)

each_sorted : {X : Type 0} (spans : X → List Span) (xs : List X) → All (λ x. All (λ w. w.from.0 < w.to.0) (spans x)) xs
    → list_all (λ x. is_apart (spans x)) xs ≡ true → All (λ x. IsSortedApart (spans x)) xs
each_sorted spans xs full e k d h = sorted_apart (spans _) (full k d h) (AllPass-from_list_all (λ x. is_apart (spans x)) xs e k d h)

stands_below : (y z : Sky) → sky_below y z ≡ true → IsSkyBelow y z
stands_below y z e = elim (or_cases _ _ e) [
  | inl l ↦ inl (ltb-true _ _ l)
  | inr r ↦ let both = and_parts _ _ r in inr (eqb-true _ _ both.0, ltb-true _ _ both.1)
]

below_through : (x y z : Sky) → IsSkyBelow x y → IsSkyBelow y z → IsSkyBelow x z
below_through x y z a b = elim a [
  | inl l ↦ elim b [ inl m ↦ inl (omega arith) | inr m ↦ inl (omega (arith, m.0)) ]
  | inr l ↦ elim b [ inl m ↦ inl (omega (arith, l.0)) | inr m ↦ inr (l.0 ∙ m.0, omega (arith, l.1, m.1)) ]
]

skies_stand : (skies : List Sky) → skies_rise skies ≡ true → AllPairs IsSkyBelow skies
skies_stand skies e =
    pairs_of_adjacent IsSkyBelow below_through skies
    (All-weaker (λ p. sky_below p.0 p.1 ≡ true) (λ p. IsSkyBelow p.0 p.1) (λ p. stands_below p.0 p.1) (zip skies (drop 1 skies))
    (AllPass-from_list_all (λ p. sky_below p.0 p.1) (zip skies (drop 1 skies)) e))

-- ---- groups and requests

shape_holds : (x : GroupPart) → not (has_shape x) ≡ false → (1 ≤ length x.requests) × (length x.requests ≤ most_requests x.op)
shape_holds x e =
    let both = and_parts (nat_le 1 (length x.requests)) (nat_le (length x.requests) (most_requests x.op)) (not-false (has_shape x) e) in
    (leb-true _ _ both.0, leb-true _ _ both.1)

quota_named : (n : ℕ) (quota : Option ℕ) → not (names_quota n quota) ≡ false → ForSome quota (λ q. q < n)
quota_named n quota e q is =
    let named : names_quota n (Some q) ≡ true = ap (names_quota n) (sym is) ∙ not-false (names_quota n quota) e in
    ltb-true q n named

fit_one : (n : ℕ) (last : Option TelescopeNo) (t : TelescopeNo) → fits_after n (last, t) ≡ true → t.0 < n
fit_one n None t e = ltb-true t.0 n e
fit_one n (Some p) t e = ltb-true t.0 n (and_parts (nat_lt t.0 n) (nat_lt p.0 t.0) e).0

fit_all : (n : ℕ) (last : Option TelescopeNo) (ts : List TelescopeNo) → All (λ p. not (fits_after n p) ≡ false) (zip (last ∷ map (λ t. Some t) ts) ts)
    → All (λ t. t.0 < n) ts
fit_all n last [] a = All-nil (λ t. t.0 < n)
fit_all n last (t ∷ ts) a =
    let rest = zip (Some t ∷ map (λ u. Some u) ts) ts in
    All-cons (λ u. u.0 < n) t ts
    (fit_one n last t (not-false _ (All-head (λ p. not (fits_after n p) ≡ false) (last, t) rest a)))
    (fit_all n (Some t) ts (All-tail (λ p. not (fits_after n p) ≡ false) (last, t) rest a))

fit_next : (n : ℕ) (t : TelescopeNo) (ts : List TelescopeNo) → All (λ p. not (fits_after n p) ≡ false) (zip (Some t ∷ map (λ u. Some u) ts) ts)
    → All (λ p. p.0.0 < p.1.0) (zip (t ∷ ts) ts)
fit_next n t [] a = All-nil (λ p. p.0.0 < p.1.0)
fit_next n t (u ∷ us) a =
    let rest = zip (Some u ∷ map (λ v. Some v) us) us in
    let fits : fits_after n (Some t, u) ≡ true = not-false _ (All-head (λ p. not (fits_after n p) ≡ false) (Some t, u) rest a) in
    All-cons (λ p. p.0.0 < p.1.0) (t, u) (zip (u ∷ us) us)
    (ltb-true t.0 u.0 (and_parts (nat_lt u.0 n) (nat_lt t.0 u.0) fits).1)
    (fit_next n u us (All-tail (λ p. not (fits_after n p) ≡ false) (Some t, u) rest a))

fit_rise : (n : ℕ) (ts : List TelescopeNo) → All (λ p. not (fits_after n p) ≡ false) (with_last ts) → AllPairs (λ t u. t.0 < u.0) ts
fit_rise n [] a = λ i j d l m. absurd (omega arith)
fit_rise n (t ∷ ts) a =
    pairs_of_adjacent (λ x y. x.0 < y.0) (λ x y z l m. omega arith) (t ∷ ts)
    (fit_next n t ts (All-tail (λ p. not (fits_after n p) ≡ false) (None, t) (zip (Some t ∷ map (λ u. Some u) ts) ts) a))

position_none : {X : Type 0} (p : X → Bool) (xs : List X) → position p xs ≡ None → All (λ x. p x ≡ false) xs
position_none p xs e =
    let absent : (b : Bool) → cond b (Some (position_or_len p xs)) None ≡ None → b ≡ false
    = λ b. elim b as (λ v. cond v (Some (position_or_len p xs)) None ≡ None → v ≡ false) [ true ↦ λ h. cc | false ↦ λ _. refl ]
    in
    let past : length xs ≤ position_or_len p xs = ltb-false _ _ (absent _ e) in
    λ k d h. fails_before_first p xs k d (omega arith)

-- ---- all together

faults : Parts → List (Option SnapshotFault)
faults s = limit_fault s ∷ span_fault s ∷ apart_fault s ∷ group_fault s ∷ request_fault s ∷ shape_fault s ∷ telescope_fault s ∷ fade_fault s
    ∷ quota_fault s ∷ quota_range_fault s ∷ []

-- a snapshot's parts are in order
pub orderly : (s : Parts) → IsSnapshot s → IsOrderly s
unfolding faults
orderly s h =
    let none = all_absent (faults s) h.faultless in
    let second = no_empty_span s (none 1 None (lit< tt)) in
    let usable = all_left (λ w. w.from.0 < w.to.0) (flat_map (λ t. t.usable) s.telescopes ++ flat_map (λ y. y.spans) s.skies)
    (flat_map (λ x. x.request.windows) (listed s)) second in
    let apart = all_apart s (none 2 None (lit< tt)) in
    let fit = all_parts (λ p. not (fits_after (length s.telescopes) p) ≡ false) (λ x. with_last x.request.telescopes) (listed s)
    (find_none _ _ (option_map_none _ _ (none 6 None (lit< tt)))) in
    record {
      ranges = h.ranges;
      within = within_limits s (none 0 None (lit< tt));
      usable = each_sorted (λ t. t.usable) s.telescopes
          (all_parts (λ w. w.from.0 < w.to.0) (λ t. t.usable) s.telescopes
          (all_left (λ w. w.from.0 < w.to.0) (flat_map (λ t. t.usable) s.telescopes) (flat_map (λ y. y.spans) s.skies) usable)) apart.0;
      skies = each_sorted (λ y. y.spans) s.skies
          (all_parts (λ w. w.from.0 < w.to.0) (λ y. y.spans) s.skies
          (all_right (λ w. w.from.0 < w.to.0) (flat_map (λ t. t.usable) s.telescopes) (flat_map (λ y. y.spans) s.skies) usable)) apart.1;
      skies_rise = skies_stand s.skies apart.2;
      windows = all_parts (λ w. w.from.0 < w.to.0) (λ x. x.request.windows) (listed s)
          (all_right (λ w. w.from.0 < w.to.0) (flat_map (λ t. t.usable) s.telescopes ++ flat_map (λ y. y.spans) s.skies)
          (flat_map (λ x. x.request.windows) (listed s)) second);
      groups_rise = rises (λ x. x.group.0) s.groups (option_map_none _ _ (none 3 None (lit< tt)));
      requests_rise = rises (λ x. x.request.request.0) (listed s) (option_map_none _ _ (none 4 None (lit< tt)));
      shapes = λ k d l. shape_holds (slice_index_or s.groups k d)
          (find_none (λ x. not (has_shape x)) s.groups (option_map_none _ _ (none 5 None (lit< tt))) k d l);
      telescopes = λ k d l. fit_all (length s.telescopes) None _ (fit k d l);
      telescopes_rise = λ k d l. fit_rise (length s.telescopes) _ (fit k d l);
      fades = λ k d l. ltb-false _ _ (find_none (λ x. nat_lt 1000 x.request.fade) (listed s) (option_map_none _ _ (none 7 None (lit< tt))) k d l);
      quotas = λ k d l. quota_named (length s.quotas) _
          (find_none (λ x. not (names_quota (length s.quotas) x.quota)) s.groups (option_map_none _ _ (none 8 None (lit< tt))) k d l);
      quota_ranges = λ k d l. ltb-false _ _ (position_none (λ q. nat_lt 100000000 q) s.quotas (option_map_none _ _ (none 9 None (lit< tt))) k d l);
    }
