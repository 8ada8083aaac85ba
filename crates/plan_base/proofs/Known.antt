-- What is known of a request that a snapshot has, and of its possible starts.
use Rattle.std.proofs.Common.{◌+◌, ◌-◌, suc, ◌≡◌, ℕ, ◌≤◌, ◌<◌, inl, inr, max, ◌==◌, List, [], ◌∷◌, length, map, slice_index_or, All, Contains, None}
use Rattle.std.proofs.Common.{◌∙◌, ap, subst, arith}
use Rattle.std.specs.Option.{ForSome}
use Rattle.std.proofs.lemmas.List.{length-map, get_or-map}
use Rattle.std.proofs.lemmas.List.Elements.{All-nil, All-head, All-tail, All-append, All-map, All-contains}
use Rattle.std.proofs.lemmas.List.Sums.{passes_at_first}
use Rattle.std.proofs.lemmas.Option.{slice_get_cases}
use Rattle.std.proofs.lemmas.Bool.{eqb-true}
use Rattle.plan_base.specs.declared.parts.Parts.{Parts}
use Rattle.plan_base.specs.declared.parts.GroupPart.{GroupPart}
use Rattle.plan_base.specs.declared.claim.Placement.{Placement}
use Rattle.plan_base.specs.Requests.{Listed, listed_from, listed, place_of, known_or, IsKnown, group_of, quota_of, request_value, telescopes_of}
use Rattle.plan_base.specs.Snapshot.{IsOrderly}
use Rattle.plan_base.specs.Starts.{IsPossibleStart, worth_at}
use Rattle.plan_base.specs.Feasible.{requests_of, IsFeasible}

-- what holds of each listed request holds of what is known of r
pub known_has : {X : Type 0} (P : X → Type 0) (f : Listed → X) (d : X) (s : Parts) (r : ℕ) → All (λ x. P (f x)) (listed s) → IsKnown s r → P (known_or f d s r)
known_has P f d s r a k =
    let len : length (map f (listed s)) ≡ length (listed s) = length-map (listed s) f in
    All-map P f (listed s) a (place_of s r) d (omega arith)

-- r as it is listed
pub record IsListedAs (s : Parts) (r : ℕ) (x : Listed) : Type 0 where
  pub in_list : Contains (listed s) x
  pub at_place : slice_index_or (listed s) (place_of s r) x ≡ x
  pub number : x.request.request.0 ≡ r

pub known_as : (s : Parts) (r : ℕ) → IsKnown s r → (x : Listed) × IsListedAs s r x
known_as s r k = elim ((slice_get_cases (listed s) (place_of s r)).1) [
  | inl h ↦
      let test : (slice_index_or (listed s) (place_of s r) h.0).request.request.0 ≡ r =
      eqb-true _ r (passes_at_first (λ x. x.request.request.0 == r) (listed s) h.0 k) in (
        h.0,
        record {
          in_list = (place_of s r, k, h.3);
          at_place = h.3;
          number = subst (λ (x : Listed). x.request.request.0 ≡ r) h.3 test;
        },
      )
  | inr h ↦ absurd (omega (arith, h.0))
]

-- what is known of r is what f gives of it as it is listed
pub known_or_is : {X : Type 0} (f : Listed → X) (d : X) (s : Parts) (r : ℕ) (x : Listed) → IsKnown s r → IsListedAs s r x → known_or f d s r ≡ f x
known_or_is f d s r x k h = get_or-map f (listed s) (place_of s r) x d k ∙ ap f h.at_place

pub requests_known : (s : Parts) (plan : List Placement) → IsFeasible s plan → All (λ r. IsKnown s r) (requests_of plan)
requests_known s plan f = All-map (λ r. IsKnown s r) (λ p. p.request.0) plan (λ i d l. (f.possible i d l).known)

listed_groups : (g n : ℕ) (xs : List GroupPart) → g + length xs ≡ n → All (λ x. x.group < n) (listed_from g xs)
listed_groups g n [] e = All-nil (λ x. x.group < n)
listed_groups g n (x ∷ xs) e =
    All-append (λ y. y.group < n) (map (λ q. record { group = g; quota = x.quota; request = q }) x.requests) (listed_from (suc g) xs)
    (All-map (λ y. y.group < n) (λ q. record { group = g; quota = x.quota; request = q }) x.requests (λ i d l. omega arith))
    (listed_groups (suc g) n xs (omega arith))

-- the group of a known request is one of the snapshot's
pub group_known : (s : Parts) (r : ℕ) → IsKnown s r → group_of s r < length s.groups
group_known s r k = known_has (λ g. g < length s.groups) (λ x. x.group) 0 s r (listed_groups 0 (length s.groups) s.groups (omega arith)) k

listed_quotas : (P : ℕ → Type 0) (g : ℕ) (xs : List GroupPart) → All (λ x. ForSome x.quota P) xs → All (λ x. ForSome x.quota P) (listed_from g xs)
listed_quotas P g [] a = All-nil (λ x. ForSome x.quota P)
listed_quotas P g (x ∷ xs) a =
    All-append (λ y. ForSome y.quota P) (map (λ q. record { group = g; quota = x.quota; request = q }) x.requests) (listed_from (suc g) xs)
    (All-map (λ y. ForSome y.quota P) (λ q. record { group = g; quota = x.quota; request = q }) x.requests (λ i d l. All-head (λ y. ForSome y.quota P) x xs a))
    (listed_quotas P (suc g) xs (All-tail (λ y. ForSome y.quota P) x xs a))

-- the quota that a known request counts towards is one of the snapshot's
pub quota_known : (s : Parts) (r : ℕ) → IsOrderly s → IsKnown s r → ForSome (quota_of s r) (λ q. q < length s.quotas)
quota_known s r o k = known_has (λ x. ForSome x (λ q. q < length s.quotas)) (λ x. x.quota) None s r
    (listed_quotas (λ q. q < length s.quotas) 0 s.groups o.quotas) k

-- the telescope of a possible start is one of the snapshot's
pub telescope_known : (s : Parts) (p : Placement) → IsOrderly s → IsPossibleStart s p → p.telescope.0 < length s.telescopes
telescope_known s p o h =
    All-contains (λ t. t.0 < length s.telescopes) (telescopes_of s p.request.0) p.telescope
    (known_has (λ ts. All (λ t. t.0 < length s.telescopes) ts) (λ x. x.request.telescopes) [] s p.request.0 o.telescopes h.known) h.able

between : (v n : ℕ) → 1 ≤ v → (1 ≤ max 1 (v - n)) × (max 1 (v - n) ≤ v)
between v n h = (omega arith, omega arith)

-- a possible start is worth 1 at least and its request's value at most
pub worth_between : (s : Parts) (p : Placement) → IsOrderly s → IsPossibleStart s p → (1 ≤ worth_at s p) × (worth_at s p ≤ request_value s p.request.0)
worth_between s p o h =
    between (request_value s p.request.0) _ (known_has (λ n. 1 ≤ n) (λ x. x.request.value) 0 s p.request.0 (λ i d l. (o.ranges.values i d l).0) h.known)

-- the value of a known request is at most 288,000,000
pub value_at_most : (s : Parts) (r : ℕ) → IsOrderly s → IsKnown s r → request_value s r ≤ 288000000
value_at_most s r o k = known_has (λ n. n ≤ 288000000) (λ x. x.request.value) 0 s r (λ i d l. (o.ranges.values i d l).1) k
