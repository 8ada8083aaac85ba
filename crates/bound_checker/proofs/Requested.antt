-- What the snapshot has of a request that it knows.
use Rattle.std.proofs.Common.{◌≡◌, ℕ, suc, ◌+◌, ◌<◌, ◌≤◌, List, [], ◌∷◌, ◌++◌, length, map, slice_index_or, Some, None, All, Contains, inl, inr, refl}
use Rattle.std.proofs.Common.{sym, ◌∙◌, ap, subst, arith}
use Rattle.std.specs.Prelude.{HoldsAt}
use Rattle.std.specs.List.{flat_map}
use Rattle.std.proofs.lemmas.List.{length-append, get_or_append_left, get_or-append-add}
use Rattle.std.proofs.lemmas.List.Elements.{All-contains, All-nil, All-append, All-map}
use Rattle.plan_base.specs.declared.parts.Parts.{Parts}
use Rattle.plan_base.specs.declared.parts.RequestPart.{RequestPart}
use Rattle.plan_base.specs.declared.parts.GroupPart.{GroupPart}
use Rattle.plan_base.specs.declared.span.Span.{Span}
use Rattle.plan_base.specs.Requests.{Listed, listed_from, listed, place_of, IsKnown, group_of, quota_of}
use Rattle.plan_base.specs.Snapshot.{IsOrderly, IsMoment, all_spans}
use Rattle.plan_base.proofs.Known.{known_as, known_or_is, IsListedAs, quota_known}
use Rattle.plan_base.proofs.Orders.{contains_cases}
use Rattle.bound_checker.specs.Claims.{IsRequestOf, IsRequestInRanges}

-- the request that stands at the place of r is listed as r
listed_request : (s : Parts) (r : ℕ) (q : RequestPart) → IsKnown s r → HoldsAt (λ x. x.request ≡ q) (listed s) (place_of s r)
    → (x : Listed) × IsListedAs s r x × (x.request ≡ q)
listed_request s r q known at = let x = known_as s r known in (x.0, x.1, ap (λ (y : Listed). y.request) (sym x.1.at_place) ∙ at x.0)

pub request_is : (s : Parts) (r : ℕ) (q : RequestPart) → IsKnown s r → HoldsAt (λ x. x.request ≡ q) (listed s) (place_of s r) → IsRequestOf s r q
request_is s r q known at =
    let x = listed_request s r q known at in
    record {
      seconds = known_or_is (λ y. y.request.seconds) 0 s r x.0 known x.1 ∙ ap (λ (p : RequestPart). p.seconds) x.2;
      value = known_or_is (λ y. y.request.value) 0 s r x.0 known x.1 ∙ ap (λ (p : RequestPart). p.value) x.2;
      fade = known_or_is (λ y. y.request.fade) 0 s r x.0 known x.1 ∙ ap (λ (p : RequestPart). p.fade) x.2;
      windows = known_or_is (λ y. y.request.windows) [] s r x.0 known x.1 ∙ ap (λ (p : RequestPart). p.windows) x.2;
      telescopes = known_or_is (λ y. y.request.telescopes) [] s r x.0 known x.1 ∙ ap (λ (p : RequestPart). p.telescopes) x.2;
      targets = known_or_is (λ y. y.request.targets) [] s r x.0 known x.1 ∙ ap (λ (p : RequestPart). p.targets) x.2;
    }

all_left : {X : Type 0} (P : X → Type 0) (xs ys : List X) → All P (xs ++ ys) → All P xs
all_left P xs ys all i d l = let count : length (xs ++ ys) ≡ length xs + length ys = length-append xs ys in
    subst P (get_or_append_left xs ys d i l) (all i d (omega arith))

all_right : {X : Type 0} (P : X → Type 0) (xs ys : List X) → All P (xs ++ ys) → All P ys
all_right P xs ys all i d l = let count : length (xs ++ ys) ≡ length xs + length ys = length-append xs ys in
    subst P (get_or-append-add xs ys i d) (all (length xs + i) d (omega arith))

-- what holds of all that f gives holds of what it gives of one element
all_of_one : {X Y : Type 0} (P : Y → Type 0) (f : X → List Y) (xs : List X) (x : X) → Contains xs x → All P (flat_map f xs) → All P (f x)
all_of_one P f [] x c all = absurd (omega (arith, c.1))
all_of_one P f (y ∷ xs) x c all = elim (contains_cases y x xs c) [
  | inl same ↦ subst (λ z. All P (f z)) same (all_left P (f y) (flat_map f xs) all)
  | inr rest ↦ all_of_one P f xs x rest (all_right P (f y) (flat_map f xs) all)
]

pub request_in_ranges : (s : Parts) (r : ℕ) (q : RequestPart) → IsOrderly s → IsKnown s r → HoldsAt (λ x. x.request ≡ q) (listed s) (place_of s r)
    → IsRequestInRanges (length s.telescopes) q
request_in_ranges s r q o known at =
    let x = listed_request s r q known at in
    let seconds = All-contains (λ y. (1 ≤ y.request.seconds) × (y.request.seconds ≤ 86400)) (listed s) x.0 o.ranges.seconds x.1.in_list in
    let value = All-contains (λ y. (1 ≤ y.request.value) × (y.request.value ≤ 288000000)) (listed s) x.0 o.ranges.values x.1.in_list in
    let fade = All-contains (λ y. y.request.fade ≤ 1000) (listed s) x.0 o.fades x.1.in_list in
    let both : Span → Type 0 = λ w. IsMoment w.from.0 × IsMoment w.to.0 in
    let moments : All both x.0.request.windows = all_of_one both (λ y. y.request.windows) (listed s) x.0 x.1.in_list
    (all_right both (flat_map (λ t. t.usable) s.telescopes ++ flat_map (λ y. y.spans) s.skies) (flat_map (λ y. y.request.windows) (listed s)) o.ranges.moments)
    in
    subst (λ (p : RequestPart). IsRequestInRanges (length s.telescopes) p) x.2 record {
      some_seconds = seconds.0;
      most_seconds = seconds.1;
      most_value = value.1;
      most_fade = fade;
      moments = λ i d l. (moments i d l).0;
      telescopes = All-contains (λ y. All (λ t. t.0 < length s.telescopes) y.request.telescopes) (listed s) x.0 o.telescopes x.1.in_list;
    }

-- the group of the request that stands at the place of r
pub group_here : (s : Parts) (r place g : ℕ) → IsKnown s r → place ≡ place_of s r → HoldsAt (λ x. x.group ≡ g) (listed s) place → g ≡ group_of s r
group_here s r place g known e h =
    let x = known_as s r known in
    sym (known_or_is (λ x. x.group) 0 s r x.0 known x.1 ∙ ap (λ (y : Listed). y.group) (sym x.1.at_place)
    ∙ ap (λ (k : ℕ). (slice_index_or (listed s) k x.0).group) (sym e) ∙ h x.0)

-- a listed request counts towards the quota of its group
quotas_listed : (n : ℕ) (xs : List GroupPart) → All (λ x. (i : ℕ) × (n + i ≡ x.group) × HoldsAt (λ y. y.quota ≡ x.quota) xs i) (listed_from n xs)
quotas_listed n [] = All-nil (λ x. (i : ℕ) × (n + i ≡ x.group) × HoldsAt (λ y. y.quota ≡ x.quota) [] i)
quotas_listed n (y ∷ ys) =
    All-append (λ x. (i : ℕ) × (n + i ≡ x.group) × HoldsAt (λ z. z.quota ≡ x.quota) (y ∷ ys) i)
    (map (λ q. record { group = n; quota = y.quota; request = q }) y.requests) (listed_from (suc n) ys)
    (All-map (λ x. (i : ℕ) × (n + i ≡ x.group) × HoldsAt (λ z. z.quota ≡ x.quota) (y ∷ ys) i)
    (λ q. record { group = n; quota = y.quota; request = q }) y.requests (λ i d l. (0, omega arith, λ e. refl)))
    (λ i d l. let rest = quotas_listed (suc n) ys i d l in let place = rest.1 in (suc rest.0, omega arith, rest.2))

-- the quota that the group of r names
pub quota_here : (s : Parts) (r g : ℕ) (d : GroupPart) → IsKnown s r → g ≡ group_of s r → (slice_index_or s.groups g d).quota ≡ quota_of s r
quota_here s r g d known e =
    let x = known_as s r known in
    let group : group_of s r ≡ x.0.group = known_or_is (λ y. y.group) 0 s r x.0 known x.1 in
    let quota : quota_of s r ≡ x.0.quota = known_or_is (λ y. y.quota) None s r x.0 known x.1 in
    let at = All-contains (λ y. (i : ℕ) × (0 + i ≡ y.group) × HoldsAt (λ z. z.quota ≡ y.quota) s.groups i) (listed s) x.0
    (quotas_listed 0 s.groups) x.1.in_list in
    let place : 0 + at.0 ≡ x.0.group = at.1 in
    let same : g ≡ at.0 = omega arith in
    ap (λ (k : ℕ). (slice_index_or s.groups k d).quota) same ∙ at.2 d ∙ sym quota

-- it is one of the snapshot's
pub quota_within : (s : Parts) (r q : ℕ) → IsOrderly s → IsKnown s r → quota_of s r ≡ Some q → q < length s.quotas
quota_within s r q o known e = quota_known s r o known q e
