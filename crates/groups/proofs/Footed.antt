-- What is read of a request that a snapshot has is what the request has.
use Rattle.std.proofs.Common.{◌≡◌, ℕ, suc, ◌+◌, ◌<◌, ◌≤◌, ℤ, pos, ◌-ℤ◌, List, [], ◌∷◌, length, map, slice_index_or, Option, None, All, refl, sym, ◌∙◌}
use Rattle.std.proofs.Common.{ap, arith}
use Rattle.std.proofs.lemmas.List.{get_or-map}
use Rattle.std.proofs.lemmas.List.Elements.{Contains-get_or, All-nil, All-append, All-map, All-contains}
use Rattle.std.specs.Prelude.{HoldsAt}
use Rattle.plan_base.specs.declared.parts.Parts.{Parts}
use Rattle.plan_base.specs.declared.parts.GroupPart.{GroupPart}
use Rattle.plan_base.specs.declared.parts.RequestPart.{RequestPart}
use Rattle.plan_base.specs.declared.claim.Placement.{Placement}
use Rattle.plan_base.specs.Requests.{Listed, listed_from, listed, place_of, IsKnown, group_of, quota_of, seconds_of}
use Rattle.plan_base.specs.Snapshot.{IsOrderly}
use Rattle.plan_base.specs.Starts.{slices_for, size_of}
use Rattle.plan_base.specs.Bound.{price, quota_cost, net_price}
use Rattle.plan_base.proofs.Members.{listed_known}
use Rattle.plan_base.proofs.Known.{IsListedAs, known_as, known_or_is}
use Rattle.groups.specs.Footprints.{first_slot, end_slot}
use Rattle.plan_base.specs.NetPrices.{net_prices}
use Rattle.groups.proofs.Runs.{number_of, place_at}

pub group_here : (s : Parts) (r place g : ℕ) → IsKnown s r → place ≡ place_of s r → HoldsAt (λ x. x.group ≡ g) (listed s) place → g ≡ group_of s r
group_here s r place g known e h =
    let x : (x : Listed) × IsListedAs s r x = known_as s r known in
    sym (known_or_is (λ x. x.group) 0 s r x.0 known x.1 ∙ ap (λ (y : Listed). y.group) (sym x.1.at_place)
    ∙ ap (λ (k : ℕ). (slice_index_or (listed s) k x.0).group) (sym e) ∙ h x.0)

pub seconds_here : (s : Parts) (r place : ℕ) (q : RequestPart) → IsKnown s r → place ≡ place_of s r → HoldsAt (λ x. x.request ≡ q) (listed s) place
    → q.seconds ≡ seconds_of s r
seconds_here s r place q known e h =
    let x : (x : Listed) × IsListedAs s r x = known_as s r known in
    sym (known_or_is (λ x. x.request.seconds) 0 s r x.0 known x.1 ∙ ap (λ (y : Listed). y.request.seconds) (sym x.1.at_place)
    ∙ ap (λ (k : ℕ). (slice_index_or (listed s) k x.0).request.seconds) (sym e) ∙ ap (λ (y : RequestPart). y.seconds) (h x.0))

-- a listed request counts towards the quota of its group
quotas_listed : (n : ℕ) (xs : List GroupPart) → All (λ x. (i : ℕ) × (n + i ≡ x.group) × HoldsAt (λ y. y.quota ≡ x.quota) xs i) (listed_from n xs)
quotas_listed n [] = All-nil (λ x. (i : ℕ) × (n + i ≡ x.group) × HoldsAt (λ y. y.quota ≡ x.quota) [] i)
quotas_listed n (y ∷ ys) =
    All-append (λ x. (i : ℕ) × (n + i ≡ x.group) × HoldsAt (λ z. z.quota ≡ x.quota) (y ∷ ys) i)
    (map (λ q. record { group = n; quota = y.quota; request = q }) y.requests) (listed_from (suc n) ys)
    (All-map (λ x. (i : ℕ) × (n + i ≡ x.group) × HoldsAt (λ z. z.quota ≡ x.quota) (y ∷ ys) i)
    (λ q. record { group = n; quota = y.quota; request = q }) y.requests (λ i d l. (0, omega arith, λ e. refl)))
    (λ i d l. let rest = quotas_listed (suc n) ys i d l in let place = rest.1 in (suc rest.0, omega arith, rest.2))

pub quota_here : (s : Parts) (r g : ℕ) (d : GroupPart) → IsKnown s r → g ≡ group_of s r → (slice_index_or s.groups g d).quota ≡ quota_of s r
quota_here s r g d known e =
    let x : (x : Listed) × IsListedAs s r x = known_as s r known in
    let group : group_of s r ≡ x.0.group = known_or_is (λ y. y.group) 0 s r x.0 known x.1 in
    let quota : quota_of s r ≡ x.0.quota = known_or_is (λ y. y.quota) None s r x.0 known x.1 in
    let at = All-contains (λ y. (i : ℕ) × (0 + i ≡ y.group) × HoldsAt (λ z. z.quota ≡ y.quota) s.groups i) (listed s) x.0
    (quotas_listed 0 s.groups) x.1.in_list in
    let place : 0 + at.0 ≡ x.0.group = at.1 in
    let same : g ≡ at.0 = omega arith in
    ap (λ (k : ℕ). (slice_index_or s.groups k d).quota) same ∙ at.2 d ∙ sym quota

-- where a placement ends
pub to_here : (s t : Parts) (p : Placement) (from size seconds : ℕ) → t ≡ s → from ≡ first_slot t p → size ≡ slices_for t.len seconds
    → seconds ≡ seconds_of s p.request.0 → from + size ≡ end_slot s p
to_here s t p from size seconds same begins long is =
    let first : from ≡ first_slot s p = begins ∙ ap (λ (x : Parts). first_slot x p) same in
    let takes : size ≡ size_of s p.request.0 = long ∙ ap (λ (x : Parts). slices_for x.len seconds) same ∙ ap (λ (n : ℕ). slices_for s.len n) is in
    ap (λ (n : ℕ). n + size) first ∙ ap (λ (n : ℕ). first_slot s p + n) takes

-- a listed request takes a day at most
pub seconds_listed : (s : Parts) (place : ℕ) (q : RequestPart) → IsOrderly s → place < length (listed s)
    → HoldsAt (λ x. x.request ≡ q) (listed s) place → q.seconds ≤ 86400
seconds_listed s place q o l h =
    let d : Listed = record { group = 0; quota = None; request = q } in
    let most : (slice_index_or (listed s) place d).request.seconds ≤ 86400 = (o.ranges.seconds place d l).1 in
    let is : (slice_index_or (listed s) place d).request.seconds ≡ q.seconds = ap (λ (y : RequestPart). y.seconds) (h d) in
    omega arith

-- the net price of the request at a place
pub net_here : (s : Parts) (prices : List ℤ) (quota_prices : List ℕ) (place g : ℕ) (q : RequestPart) (gs : List GroupPart) (x : GroupPart)
    → IsOrderly s → place < length (listed s)
    → HoldsAt (λ y. y.request ≡ q) (listed s) place → HoldsAt (λ y. y.group ≡ g) (listed s) place → gs ≡ s.groups → x ≡ slice_index_or gs g x
    → (slice_index_or prices place (pos 0) -ℤ pos (quota_cost quota_prices q.seconds x.quota)) ≡ slice_index_or (net_prices s prices quota_prices) place (pos 0)
net_here s prices quota_prices place g q gs x o l is_request is_group e is =
    let d : Listed = record { group = 0; quota = None; request = q } in
    let r : ℕ = number_of (slice_index_or (listed s) place d) in
    let at : place_of s r ≡ place = place_at s place d o l in
    let known : IsKnown s r = listed_known s _ (Contains-get_or (listed s) place d l) in
    let seconds : q.seconds ≡ seconds_of s r = seconds_here s r place q known (sym at) is_request in
    let group : g ≡ group_of s r = group_here s r place g known (sym at) is_group in
    let quota : x.quota ≡ quota_of s r = ap (λ (y : GroupPart). y.quota) is ∙ ap (λ (ys : List GroupPart). (slice_index_or ys g x).quota) e
    ∙ quota_here s r g x known group in
    ap (λ (k : ℕ). slice_index_or prices k (pos 0) -ℤ pos (quota_cost quota_prices q.seconds x.quota)) (sym at)
    ∙ ap (λ (n : ℕ). price s prices r -ℤ pos (quota_cost quota_prices n x.quota)) seconds
    ∙ ap (λ (k : Option ℕ). price s prices r -ℤ pos (quota_cost quota_prices (seconds_of s r) k)) quota
    ∙ sym (get_or-map (λ y. net_price s prices quota_prices y.request.request.0) (listed s) place d (pos 0) l)
