-- The faults of a snapshot, told through the lists that the tests go over.
use Rattle.std.proofs.Common.{◌≡◌, ℕ, suc, ◌+◌, ◌<◌, ◌≤◌, Bool, true, false, cond, not, ◌||◌, List, [], ◌∷◌, ◌++◌, length, map, drop, refl, sym, ap}
use Rattle.std.proofs.Common.{◌∙◌, arith, ltb, nat_lt, nat_le, Option, Some, None, sum_by, zero, get_or}
use Rattle.std.specs.List.{find, flat_map, zip, list_any, position, position_or_len, slice_get}
use Rattle.std.specs.Option.{option_map, option_or, option_and_then}
use Rattle.std.proofs.lemmas.Simd.{map-map}
use Rattle.std.proofs.lemmas.List.{length-map, map-append, map-id, drop-map}
use Rattle.std.proofs.lemmas.List.Folds.{find-append, find_at, list_any-append, flat_map-map}
use Rattle.std.proofs.lemmas.List.Concat.{length-flat_map}
use Rattle.std.proofs.lemmas.Option.{slice_get_past, slice_get-get_or}
use Rattle.plan_base.specs.declared.parts.Parts.{Parts}
use Rattle.plan_base.specs.declared.parts.GroupPart.{GroupPart}
use Rattle.plan_base.specs.declared.parts.RequestPart.{RequestPart}
use Rattle.plan_base.specs.declared.span.Span.{Span}
use Rattle.plan_base.specs.declared.number.RequestNo.{RequestNo}
use Rattle.plan_base.specs.declared.number.TelescopeNo.{TelescopeNo}
use Rattle.plan_base.specs.declared.fault.Counted.{Counted}
use Rattle.plan_base.specs.declared.fault.Counted.TheVariants.{Usable, Windows, Targets, Fits}
use Rattle.plan_base.specs.declared.fault.SnapshotFault.{SnapshotFault}
use Rattle.plan_base.specs.declared.fault.SnapshotFault.TheVariants.{OverLimit, GroupOrder, RequestOrder, NoSuchTelescope, FadeRange}
use Rattle.plan_base.specs.Requests.{listed_from, listed}
use Rattle.plan_base.specs.Snapshot.{limit_of, all_spans, with_last, fits_after, first_some, limit_fault, group_fault, request_fault, telescope_fault}
use Rattle.plan_base.specs.Snapshot.{fade_fault, fault_of}
use Rattle.plan_base.specs.Faults.{all_requests, first_over, first_fall, first_unfit, unfit_in, site_limit_fault, request_limit_fault, fault_within_limits}
use Rattle.plan_base.specs.Rows.{rows_within, rows_from}

-- ---- lists and options

pub find-map : {X Y : Type 0} (p : Y → Bool) (f : X → Y) (xs : List X) → find p (map f xs) ≡ option_map f (find (λ x. p (f x)) xs)
find-map p f [] = refl
find-map p f (x ∷ xs) =
    elim (p (f x)) as (λ b. cond b (Some (f x)) (find p (map f xs)) ≡ option_map f (cond b (Some x) (find (λ y. p (f y)) xs)))
    [ true ↦ refl | false ↦ find-map p f xs ]

pub option_map-map : {X Y Z : Type 0} (g : Y → Z) (f : X → Y) (o : Option X) → option_map g (option_map f o) ≡ option_map (λ x. g (f x)) o
option_map-map g f None = refl
option_map-map g f (Some x) = refl

pub option_map-or : {X Y : Type 0} (f : X → Y) (a b : Option X) → option_map f (option_or a b) ≡ option_or (option_map f a) (option_map f b)
option_map-or f None b = refl
option_map-or f (Some x) b = refl

pub or_assoc : {X : Type 0} (a b c : Option X) → option_or (option_or a b) c ≡ option_or a (option_or b c)
or_assoc None b c = refl
or_assoc (Some x) b c = refl

pub option_map-first_some : {X Y : Type 0} (f : X → Y) (os : List (Option X)) → option_map f (first_some os) ≡ first_some (map (option_map f) os)
option_map-first_some f [] = refl
option_map-first_some f (o ∷ os) = option_map-or f o (first_some os) ∙ ap (option_or (option_map f o)) (option_map-first_some f os)

pub first_some-append : {X : Type 0} (os ps : List (Option X)) → first_some (os ++ ps) ≡ option_or (first_some os) (first_some ps)
first_some-append [] ps = refl
first_some-append (o ∷ os) ps = ap (option_or o) (first_some-append os ps) ∙ sym (or_assoc o (first_some os) (first_some ps))

pub first_some-flat_map : {X Y Z : Type 0} (f : Y → Option Z) (h : X → List Y) (xs : List X)
    → first_some (map f (flat_map h xs)) ≡ first_some (map (λ x. first_some (map f (h x))) xs)
first_some-flat_map f h [] = refl
first_some-flat_map f h (x ∷ xs) =
    ap first_some (map-append f (h x) (flat_map h xs))
    ∙ first_some-append (map f (h x)) (map f (flat_map h xs))
    ∙ ap (option_or (first_some (map f (h x)))) (first_some-flat_map f h xs)

pub find-flat_map : {X Y : Type 0} (p : Y → Bool) (f : X → List Y) (xs : List X) → find p (flat_map f xs) ≡ first_some (map (λ x. find p (f x)) xs)
find-flat_map p f [] = refl
find-flat_map p f (x ∷ xs) = find-append p (f x) (flat_map f xs) ∙ ap (option_or (find p (f x))) (find-flat_map p f xs)

pub list_any-flat_map : {X Y : Type 0} (p : Y → Bool) (f : X → List Y) (xs : List X) → list_any p (flat_map f xs) ≡ list_any (λ x. list_any p (f x)) xs
list_any-flat_map p f [] = refl
list_any-flat_map p f (x ∷ xs) = list_any-append p (f x) (flat_map f xs) ∙ ap (λ b. list_any p (f x) || b) (list_any-flat_map p f xs)

-- the first element that passes stands at the first place
pub find_position : {X : Type 0} (p : X → Bool) (xs : List X) → find p xs ≡ option_and_then (λ i. slice_get xs i) (position p xs)
find_position p xs =
    let past : (b : Bool) → b ≡ ltb (position_or_len p xs) (length xs)
    → slice_get xs (position_or_len p xs) ≡ option_and_then (λ i. slice_get xs i) (cond b (Some (position_or_len p xs)) None)
    = λ b. elim b as (λ v. v ≡ ltb (position_or_len p xs) (length xs)
    → slice_get xs (position_or_len p xs) ≡ option_and_then (λ i. slice_get xs i) (cond v (Some (position_or_len p xs)) None))
    [ true ↦ λ _. refl | false ↦ λ e. slice_get_past xs _ (grind arith) ]
    in find_at p xs ∙ past _ refl

pub second-zip : {X Y : Type 0} (xs : List X) (ys : List Y) (i : ℕ) → length ys ≤ length xs → option_map (λ p. p.1) (slice_get (zip xs ys) i) ≡ slice_get ys i
second-zip [] [] i h = refl
second-zip [] (y ∷ ys) i h = absurd (omega arith)
second-zip (x ∷ xs) [] i h = refl
second-zip (x ∷ xs) (y ∷ ys) zero h = refl
second-zip (x ∷ xs) (y ∷ ys) (suc i) h = second-zip xs ys i (omega arith)

pub later-zip : {X : Type 0} (xs : List X) (i : ℕ) → option_map (λ p. p.1) (slice_get (zip xs (drop 1 xs)) i) ≡ slice_get xs (suc i)
later-zip [] i = refl
later-zip (x ∷ xs) i = second-zip (x ∷ xs) xs i (omega arith)

pub zip-map : {X Y : Type 0} (f : X → Y) (xs ys : List X) → zip (map f xs) (map f ys) ≡ map (λ p. (f p.0, f p.1)) (zip xs ys)
zip-map f [] ys = refl
zip-map f (x ∷ xs) [] = refl
zip-map f (x ∷ xs) (y ∷ ys) = ap (λ ps. (f x, f y) ∷ ps) (zip-map f xs ys)

-- ---- the requests, through their groups

pub requests-listed : (g : ℕ) (xs : List GroupPart) → map (λ x. x.request) (listed_from g xs) ≡ all_requests xs
requests-listed g [] = refl
requests-listed g (x ∷ xs) =
    map-append (λ x. x.request) (map (λ q. record { group = g; quota = x.quota; request = q }) x.requests) (listed_from (suc g) xs)
    ∙ ap (λ qs. qs ++ map (λ x. x.request) (listed_from (suc g) xs))
    (map-map (λ x. x.request) (λ q. record { group = g; quota = x.quota; request = q }) x.requests ∙ map-id x.requests)
    ∙ ap (λ qs. x.requests ++ qs) (requests-listed (suc g) xs)

pub map-listed : {Y : Type 0} (f : RequestPart → Y) (s : Parts) → map (λ x. f x.request) (listed s) ≡ map f (all_requests s.groups)
map-listed f s = sym (map-map f (λ x. x.request) (listed s)) ∙ ap (map f) (requests-listed 0 s.groups)

pub length-listed : (s : Parts) → length (listed s) ≡ sum_by (λ x. length x.requests) s.groups
length-listed s =
    sym (length-map (listed s) (λ x. x.request)) ∙ ap length (requests-listed 0 s.groups) ∙ length-flat_map (λ x. x.requests) s.groups

pub find-listed : {Y : Type 0} (f : RequestPart → Y) (p : RequestPart → Bool) (s : Parts)
    → option_map (λ x. f x.request) (find (λ x. p x.request) (listed s)) ≡ option_map f (find p (all_requests s.groups))
find-listed f p s =
    sym (option_map-map f (λ x. x.request) (find (λ x. p x.request) (listed s)))
    ∙ ap (option_map f) (sym (find-map p (λ x. x.request) (listed s)) ∙ ap (find p) (requests-listed 0 s.groups))

-- ---- the limits

pub over-map : {X : Type 0} (what : Counted) (f : X → ℕ) (xs : List X)
    → option_map (λ n. OverLimit what n) (find (λ n. nat_lt (limit_of what) n) (map f xs)) ≡ first_over what f xs
over-map what f xs =
    ap (option_map (λ n. OverLimit what n)) (find-map (λ n. nat_lt (limit_of what) n) f xs)
    ∙ option_map-map (λ n. OverLimit what n) f (find (λ x. nat_lt (limit_of what) (f x)) xs)

pub over-listed : (what : Counted) (f : RequestPart → ℕ) (s : Parts)
    → option_map (λ n. OverLimit what n) (find (λ n. nat_lt (limit_of what) n) (map (λ x. f x.request) (listed s)))
    ≡ first_over what f (all_requests s.groups)
over-listed what f s =
    ap (λ ns. option_map (λ n. OverLimit what n) (find (λ n. nat_lt (limit_of what) n) ns)) (map-listed f s)
    ∙ over-map what f (all_requests s.groups)

pub limits_joined : (s : Parts) → limit_fault s ≡ option_or (site_limit_fault s) (request_limit_fault s)
limits_joined s =
    simp (
      over-map Usable (λ t. length t.usable) s.telescopes,
      over-listed Windows (λ q. length q.windows) s,
      over-listed Targets (λ q. length q.targets) s,
      over-listed Fits (λ q. length q.telescopes) s,
    ) (simp or_assoc)

-- ---- the spans

pub list_any-all_spans : (p : Span → Bool) (s : Parts)
    → list_any p (all_spans s) ≡ (list_any (λ t. list_any p t.usable) s.telescopes || list_any (λ y. list_any p y.spans) s.skies
    || list_any (λ q. list_any p q.windows) (all_requests s.groups))
list_any-all_spans p s =
    let windows : flat_map (λ x. x.request.windows) (listed s) ≡ flat_map (λ q. q.windows) (all_requests s.groups)
    = sym (flat_map-map (λ q. q.windows) (λ x. x.request) (listed s)) ∙ ap (flat_map (λ q. q.windows)) (requests-listed 0 s.groups)
    in simp (list_any-append, windows, list_any-flat_map)

-- ---- the orders

pub fall_position : {X : Type 0} (number : X → ℕ) (xs : List X)
    → first_fall number xs ≡ option_and_then (λ i. slice_get xs (suc i)) (position (λ p. nat_le (number p.1) (number p.0)) (zip xs (drop 1 xs)))
fall_position number xs =
    let each : (o : Option ℕ) → option_map (λ p. p.1) (option_and_then (λ i. slice_get (zip xs (drop 1 xs)) i) o)
    ≡ option_and_then (λ i. slice_get xs (suc i)) o
    = λ o. elim o as (λ v. option_map (λ p. p.1) (option_and_then (λ i. slice_get (zip xs (drop 1 xs)) i) v)
    ≡ option_and_then (λ i. slice_get xs (suc i)) v) [ None ↦ refl | Some i ↦ later-zip xs i ]
    in ap (option_map (λ p. p.1)) (find_position (λ p. nat_le (number p.1) (number p.0)) (zip xs (drop 1 xs))) ∙ each _

pub fall_absent : {X : Type 0} (number : X → ℕ) (xs : List X) → None ≡ position (λ p. nat_le (number p.1) (number p.0)) (zip xs (drop 1 xs))
    → None ≡ first_fall number xs
fall_absent number xs e = ap (option_and_then (λ i. slice_get xs (suc i))) e ∙ sym (fall_position number xs)

pub fall_found : {X : Type 0} (number : X → ℕ) (xs : List X) (i : ℕ) (d : X) → i + 1 < length xs
    → Some i ≡ position (λ p. nat_le (number p.1) (number p.0)) (zip xs (drop 1 xs)) → Some (get_or xs (i + 1) d) ≡ first_fall number xs
fall_found number xs i d h e =
    let next : i + 1 ≡ suc i = omega arith in
    sym (slice_get-get_or xs (i + 1) d h)
    ∙ ap (slice_get xs) next
    ∙ ap (option_and_then (λ j. slice_get xs (suc j))) e
    ∙ sym (fall_position number xs)

pub fall-map : {X Y : Type 0} (number : Y → ℕ) (f : X → Y) (xs : List X) → first_fall number (map f xs) ≡ option_map f (first_fall (λ x. number (f x)) xs)
fall-map number f xs =
    let pairs : zip (map f xs) (drop 1 (map f xs)) ≡ map (λ p. (f p.0, f p.1)) (zip xs (drop 1 xs))
    = ap (zip (map f xs)) (drop-map f 1 xs) ∙ zip-map f xs (drop 1 xs)
    in ap (λ ps. option_map (λ p. p.1) (find (λ p. nat_le (number p.1) (number p.0)) ps)) pairs
    ∙ ap (option_map (λ p. p.1)) (find-map (λ p. nat_le (number p.1) (number p.0)) (λ p. (f p.0, f p.1)) (zip xs (drop 1 xs)))
    ∙ option_map-map (λ p. p.1) (λ p. (f p.0, f p.1)) (find (λ p. nat_le (number (f p.1)) (number (f p.0))) (zip xs (drop 1 xs)))
    ∙ sym (option_map-map f (λ p. p.1) (find (λ p. nat_le (number (f p.1)) (number (f p.0))) (zip xs (drop 1 xs))))

pub group_fault_is : (s : Parts) → option_map (λ x. GroupOrder x.group) (first_fall (λ x. x.group.0) s.groups) ≡ group_fault s
group_fault_is s = option_map-map (λ x. GroupOrder x.group) (λ p. p.1) (find (λ p. nat_le p.1.group.0 p.0.group.0) (zip s.groups (drop 1 s.groups)))

pub numbers-within : (g i : ℕ) (qs : List RequestPart) → map (λ r. r.request) (rows_within g i qs) ≡ map (λ q. q.request) qs
numbers-within g i [] = refl
numbers-within g i (q ∷ qs) = ap (λ ns. q.request ∷ ns) (numbers-within g (suc i) qs)

pub numbers-rows : (g : ℕ) (xs : List GroupPart) → map (λ r. r.request) (rows_from g xs) ≡ map (λ q. q.request) (all_requests xs)
numbers-rows g [] = refl
numbers-rows g (x ∷ xs) =
    map-append (λ r. r.request) (rows_within g 0 x.requests) (rows_from (suc g) xs)
    ∙ ap (λ ns. ns ++ map (λ r. r.request) (rows_from (suc g) xs)) (numbers-within g 0 x.requests)
    ∙ ap (λ ns. map (λ q. q.request) x.requests ++ ns) (numbers-rows (suc g) xs)
    ∙ sym (map-append (λ q. q.request) x.requests (all_requests xs))

pub request_fault_is : (s : Parts) → option_map (λ r. RequestOrder r.request) (first_fall (λ r. r.request.0) (rows_from 0 s.groups)) ≡ request_fault s
request_fault_is s =
    let rows = rows_from 0 s.groups in
    let fault : Option RequestNo → Option SnapshotFault = option_map (λ n. RequestOrder n) in
    sym (option_map-map (λ n. RequestOrder n) (λ r. r.request) (first_fall (λ r. r.request.0) rows))
    ∙ ap fault (sym (fall-map (λ n. n.0) (λ r. r.request) rows))
    ∙ ap (λ ns. fault (first_fall (λ n. n.0) ns)) (numbers-rows 0 s.groups ∙ sym (map-listed (λ q. q.request) s))
    ∙ ap fault (fall-map (λ n. n.0) (λ x. x.request.request) (listed s))
    ∙ option_map-map (λ n. RequestOrder n) (λ x. x.request.request) (first_fall (λ x. x.request.request.0) (listed s))
    ∙ option_map-map (λ x. RequestOrder x.request.request) (λ p. p.1)
    (find (λ p. nat_le p.1.request.request.0 p.0.request.request.0) (zip (listed s) (drop 1 (listed s))))

-- ---- the telescopes and the fades

pub telescope_fault_is : (s : Parts) → option_map (λ t. NoSuchTelescope t) (first_some (map (unfit_in (length s.telescopes)) s.groups)) ≡ telescope_fault s
telescope_fault_is s =
    let test : Option TelescopeNo × TelescopeNo → Bool = λ p. not (fits_after (length s.telescopes) p) in
    ap (option_map (λ t. NoSuchTelescope t))
    (sym (first_some-flat_map (λ q. first_unfit (length s.telescopes) q.telescopes) (λ x. x.requests) s.groups)
    ∙ ap first_some (sym (map-listed (λ q. first_unfit (length s.telescopes) q.telescopes) s)
    ∙ sym (map-map (option_map (λ p. p.1)) (λ x. find test (with_last x.request.telescopes)) (listed s)))
    ∙ sym (option_map-first_some (λ p. p.1) (map (λ x. find test (with_last x.request.telescopes)) (listed s)))
    ∙ ap (option_map (λ p. p.1)) (sym (find-flat_map test (λ x. with_last x.request.telescopes) (listed s))))
    ∙ option_map-map (λ t. NoSuchTelescope t) (λ p. p.1) (find test (flat_map (λ x. with_last x.request.telescopes) (listed s)))

pub fade_fault_is : (s : Parts)
    → option_map (λ r. FadeRange r) (option_map (λ q. q.request) (find (λ q. nat_lt 1000 q.fade) (all_requests s.groups))) ≡ fade_fault s
fade_fault_is s = option_map-map (λ r. FadeRange r) (λ q. q.request) (find (λ q. nat_lt 1000 q.fade) (all_requests s.groups))
    ∙ sym (find-listed (λ q. FadeRange q.request) (λ q. nat_lt 1000 q.fade) s)

-- ---- all faults

pub fault_joined : (s : Parts) → fault_of s ≡ option_or (limit_fault s) (fault_within_limits s)
fault_joined s = refl

-- ---- a loop over the telescopes of a request

-- the first of these telescopes that isn't one of n or doesn't rise over the one before it
abbrev pub unfit_from : ℕ → Option TelescopeNo → List TelescopeNo → Option TelescopeNo
unfit_from n last ts = option_map (λ p. p.1) (find (λ p. not (fits_after n p)) (zip (last ∷ map (λ t. Some t) ts) ts))
