-- The requests of a group follow each other among all, and their net prices.
use Rattle.std.proofs.Common.{◌≡◌, ℕ, zero, suc, ◌+◌, ◌-◌, ◌*◌, ◌<◌, ◌≤◌, ℤ, pos, neg_ℤ, ◌-ℤ◌, ◌≤ℤ◌, List, [], ◌∷◌, ◌++◌, Option, Some, None, length}
use Rattle.std.proofs.Common.{map, take, drop, slice_index_or, All, refl, sym, ◌∙◌, ap, subst, arith, length-append}
use Rattle.std.proofs.lemmas.Int.{ints}
use Rattle.std.proofs.lemmas.Nat.{mul-le}
use Rattle.std.proofs.lemmas.List.{length-map, length-take, length-drop, get_or-map, get_or-take, get_or-drop, get_or_append_left, get_or-append-add}
use Rattle.std.proofs.lemmas.List.{get_or_default, ext_get_or}
use Rattle.std.proofs.lemmas.List.Elements.{All-take, All-drop}
use Rattle.plan_base.specs.declared.parts.Parts.{Parts}
use Rattle.plan_base.specs.declared.parts.GroupPart.{GroupPart}
use Rattle.plan_base.specs.declared.parts.RequestPart.{RequestPart}
use Rattle.plan_base.specs.declared.parts.Op.{Op}
use Rattle.plan_base.specs.declared.parts.Op.TheVariants.{Single, Many, OneOf, And}
use Rattle.plan_base.specs.Requests.{Listed, listed_from, listed, place_of, IsKnown, seconds_of, quota_of, IsKind, members_of, members}
use Rattle.plan_base.specs.Snapshot.{IsOrderly, most_requests}
use Rattle.plan_base.specs.Bound.{quota_cost, net_price}
use Rattle.plan_base.specs.Verdict.{IsPriceInRange}
use Rattle.plan_base.proofs.Known.{IsListedAs, known_or_is}
use Rattle.plan_base.proofs.Members.{listed_known, listed_as}
use Rattle.bound_checker.specs.declared.nets.Nets.{Nets}
use Rattle.plan_base.specs.NetPrices.{IsNetInRange}
use Rattle.bound_checker.specs.Nets.{nets_at, net_list, IsNets, price_of}
use Rattle.plan_base.proofs.Here.{element_at, place_at}

-- the request q as it is listed
abbrev listed_as_one : ℕ → Option ℕ → RequestPart → Listed
listed_as_one g quota q = record { group = g; quota = quota; request = q }

-- the requests of the group y at place g begin at a among those that are listed, and follow each other
pub record IsRun (n : ℕ) (xs : List GroupPart) (g : ℕ) (y : GroupPart) (a : ℕ) : Type 0 where
  pub within : a + length y.requests ≤ length (listed_from n xs)
  pub each : (i : ℕ) (d : Listed) → i < length y.requests
      → slice_index_or (listed_from n xs) (a + i) d ≡ listed_as_one (n + g) y.quota (slice_index_or y.requests i d.request)

pub run_of : (n : ℕ) (xs : List GroupPart) (g : ℕ) (y : GroupPart) → g < length xs → slice_index_or xs g y ≡ y → (a : ℕ) × IsRun n xs g y a
run_of n [] g y l e = absurd (omega arith)
run_of n (x ∷ xs) zero y l e =
    let here : List Listed = map (λ q. listed_as_one n x.quota q) x.requests in
    let count : length here ≡ length x.requests = length-map x.requests (λ q. listed_as_one n x.quota q) in
    let whole : length (here ++ listed_from (suc n) xs) ≡ length here + length (listed_from (suc n) xs) = length-append here (listed_from (suc n) xs) in
    subst (λ (z : GroupPart). (a : ℕ) × IsRun n (x ∷ xs) 0 z a) e (
      0,
      record {
        within = omega arith;
        each = λ i d k.
            let at : 0 + i ≡ i = omega arith in
            let group : n ≡ n + 0 = omega arith in
            ap (λ (j : ℕ). slice_index_or (here ++ listed_from (suc n) xs) j d) at
            ∙ get_or_append_left here (listed_from (suc n) xs) d i (omega arith)
            ∙ get_or-map (λ q. listed_as_one n x.quota q) x.requests i d.request d k
            ∙ ap (λ (m : ℕ). listed_as_one m x.quota (slice_index_or x.requests i d.request)) group;
      },
    )
run_of n (x ∷ xs) (suc g) y l e =
    let here : List Listed = map (λ q. listed_as_one n x.quota q) x.requests in
    let rest : (a : ℕ) × IsRun (suc n) xs g y a = run_of (suc n) xs g y (omega arith) e in
    let whole : length (here ++ listed_from (suc n) xs) ≡ length here + length (listed_from (suc n) xs) = length-append here (listed_from (suc n) xs) in (
      length here + rest.0,
      record {
        within = let less = rest.1.within in omega arith;
        each = λ i d k.
            let at : length here + rest.0 + i ≡ length here + (rest.0 + i) = omega arith in
            let group : suc n + g ≡ n + suc g = omega arith in
            ap (λ (j : ℕ). slice_index_or (here ++ listed_from (suc n) xs) j d) at
            ∙ get_or-append-add here (listed_from (suc n) xs) (rest.0 + i) d ∙ rest.1.each i d k
            ∙ ap (λ (m : ℕ). listed_as_one m y.quota (slice_index_or y.requests i d.request)) group;
      },
    )

quota_cost_is : (quota_prices : List ℕ) (n : ℕ) (o : Option ℕ) → price_of quota_prices o * n ≡ quota_cost quota_prices n o
quota_cost_is quota_prices n None = omega arith
quota_cost_is quota_prices n (Some q) = refl

-- a request of the run stands at its place, and is known by its number
pub number_here : (s : Parts) (g a i : ℕ) (y : GroupPart) (q : RequestPart) → IsOrderly s → IsRun 0 s.groups g y a → i < length y.requests
    → slice_index_or y.requests i q ≡ q
    → IsKnown s q.request.0 × (place_of s q.request.0 ≡ a + i) × (seconds_of s q.request.0 ≡ q.seconds) × (quota_of s q.request.0 ≡ y.quota)
number_here s g a i y q o run l is =
    let x : Listed = listed_as_one (0 + g) y.quota q in
    let at : slice_index_or (listed s) (a + i) x ≡ x = run.each i x l ∙ ap (λ (p : RequestPart). listed_as_one (0 + g) y.quota p) is in
    let within : a + i < length (listed s) = let most = run.within in omega arith in
    let known : IsKnown s q.request.0 = listed_known s x (a + i, within, at) in
    let listing : IsListedAs s q.request.0 x = listed_as s x o (a + i, within, at) in (
      known,
      place_at s (a + i) x o within at,
      known_or_is (λ z. z.request.seconds) 0 s q.request.0 x known listing,
      known_or_is (λ z. z.quota) None s q.request.0 x known listing,
    )

pub net_here : (s : Parts) (prices : List ℤ) (quota_prices : List ℕ) (g a i : ℕ) (y : GroupPart) (q : RequestPart) → IsOrderly s
    → IsRun 0 s.groups g y a → i < length y.requests → slice_index_or y.requests i q ≡ q
    → (slice_index_or prices (a + i) (pos 0) -ℤ pos (price_of quota_prices y.quota * q.seconds)) ≡ net_price s prices quota_prices q.request.0
net_here s prices quota_prices g a i y q o run l is =
    let here = number_here s g a i y q o run l is in
    ap (λ (k : ℕ). slice_index_or prices k (pos 0) -ℤ pos (price_of quota_prices y.quota * q.seconds)) (sym here.1)
    ∙ ap (λ (m : ℕ). slice_index_or prices (place_of s q.request.0) (pos 0) -ℤ pos m)
    (quota_cost_is quota_prices q.seconds y.quota ∙ ap (λ (n : ℕ). quota_cost quota_prices n y.quota) (sym here.2)
    ∙ ap (λ (k : Option ℕ). quota_cost quota_prices (seconds_of s q.request.0) k) (sym here.3))

pub nets_length : (u : ℕ) (qs : List RequestPart) (cs : List ℤ) → length cs ≡ length qs → length (nets_at u qs cs) ≡ length qs
nets_length u [] cs e = refl
nets_length u (q ∷ qs) [] e = absurd (omega arith)
nets_length u (q ∷ qs) (c ∷ cs) e = let rest : length (nets_at u qs cs) ≡ length qs = nets_length u qs cs (omega arith) in omega arith

pub nets_get : (u : ℕ) (qs : List RequestPart) (cs : List ℤ) (i : ℕ) (q : RequestPart) → length cs ≡ length qs → i < length qs
    → slice_index_or (nets_at u qs cs) i (pos 0) ≡ (slice_index_or cs i (pos 0) -ℤ pos (u * (slice_index_or qs i q).seconds))
nets_get u [] cs i q e l = absurd (omega arith)
nets_get u (p ∷ qs) [] i q e l = absurd (omega arith)
nets_get u (p ∷ qs) (c ∷ cs) zero q e l = refl
nets_get u (p ∷ qs) (c ∷ cs) (suc i) q e l = nets_get u qs cs i q (omega arith) (omega arith)

-- a net price of a group
pub net_range : (x : Nets) (i : ℕ) (q : RequestPart) → IsNets x → i < length x.requests.now
    → IsNetInRange (slice_index_or x.prices.now i (pos 0) -ℤ pos (x.quota_price * (slice_index_or x.requests.now i q).seconds))
net_range x i q nets l =
    let count : length x.prices.now ≡ length x.requests.now = nets.count in
    let price : IsPriceInRange (slice_index_or x.prices.now i (pos 0)) = nets.range i (pos 0) (omega arith) in
    let cost : x.quota_price * (slice_index_or x.requests.now i q).seconds ≤ 200000 * 86400 = mul-le _ _ 200000 86400 nets.quota (nets.seconds i q l) in
    let low = price.0 in
    let high = price.1 in
    (omega (arith, ints), omega (arith, ints))

-- the prices from the group's first place on are those of its requests
pub nets_are : (s : Parts) (prices : List ℤ) (quota_prices : List ℕ) (g a : ℕ) (y : GroupPart) → IsOrderly s → g < length s.groups
    → slice_index_or s.groups g y ≡ y → IsRun 0 s.groups g y a → length prices ≡ length (listed s)
    → nets_at (price_of quota_prices y.quota) y.requests (take (length y.requests) (drop a prices)) ≡ map (net_price s prices quota_prices) (members s g)
nets_are s prices quota_prices g a y o l e run count =
    let n : ℕ = length y.requests in
    let own : members s g ≡ map (λ q. q.request.0) y.requests = get_or-map members_of s.groups g y [] l ∙ ap members_of e in
    let within : a + n ≤ length (listed s) = run.within in
    let dropped : length (drop a prices) ≡ length prices - a = length-drop a prices in
    let taken : length (take n (drop a prices)) ≡ n = length-take n (drop a prices) ∙ omega arith in
    let made : length (nets_at (price_of quota_prices y.quota) y.requests (take n (drop a prices))) ≡ n =
    nets_length (price_of quota_prices y.quota) y.requests (take n (drop a prices)) taken in
    let wanted : length (map (net_price s prices quota_prices) (members s g)) ≡ n = length-map (members s g) (net_price s prices quota_prices)
    ∙ ap (λ (rs : List ℕ). length rs) own ∙ length-map y.requests (λ q. q.request.0) in
    ext_get_or (pos 0) _ _ (made ∙ sym wanted)
    (λ i k.
    let below : i < n = omega arith in
    let q = element_at y.requests i below in
    let number : slice_index_or (members s g) i 0 ≡ q.0.request.0 = ap (λ (rs : List ℕ). slice_index_or rs i 0) own
    ∙ get_or-map (λ p. p.request.0) y.requests i q.0 0 below ∙ ap (λ (p : RequestPart). p.request.0) q.1 in
    nets_get (price_of quota_prices y.quota) y.requests (take n (drop a prices)) i q.0 taken below
    ∙ ap (λ (c : ℤ). c -ℤ pos (price_of quota_prices y.quota * (slice_index_or y.requests i q.0).seconds))
    (get_or-take n (drop a prices) i (pos 0) below ∙ get_or-drop a prices i (pos 0))
    ∙ ap (λ (p : RequestPart). slice_index_or prices (a + i) (pos 0) -ℤ pos (price_of quota_prices y.quota * p.seconds)) q.1
    ∙ net_here s prices quota_prices g a i y q.0 o run below q.1
    ∙ ap (net_price s prices quota_prices) (sym number)
    ∙ sym (get_or-map (net_price s prices quota_prices) (members s g) i 0 (pos 0)
    (let size : length (members s g) ≡ n = ap (λ (rs : List ℕ). length rs) own ∙ length-map y.requests (λ p. p.request.0) in omega arith)))

most_of_shape : (op : Op) → most_requests op ≤ 256
most_of_shape Single = omega arith
most_of_shape Many = omega arith
most_of_shape OneOf = omega arith
most_of_shape And = omega arith

-- a group has a request, and at most 256
pub group_size : (s : Parts) (g : ℕ) (y : GroupPart) → IsOrderly s → g < length s.groups → slice_index_or s.groups g y ≡ y → (1 ≤ length y.requests)
    × (length y.requests ≤ 256)
group_size s g y o l e =
    let shape : (1 ≤ length y.requests) × (length y.requests ≤ most_requests y.op) =
    subst (λ (z : GroupPart). (1 ≤ length z.requests) × (length z.requests ≤ most_requests z.op)) e (o.shapes g y l) in
    let most : most_requests y.op ≤ 256 = most_of_shape y.op in
    (shape.0, let least = shape.1 in omega arith)

-- the requests of a group take a day at most
pub group_seconds : (s : Parts) (g a : ℕ) (y : GroupPart) → IsOrderly s → IsRun 0 s.groups g y a → All (λ q. q.seconds ≤ 86400) y.requests
group_seconds s g a y o run i d l =
    let x : Listed = listed_as_one (0 + g) y.quota (slice_index_or y.requests i d) in
    let at : slice_index_or (listed s) (a + i) x ≡ x = run.each i x l
    ∙ ap (λ (p : RequestPart). listed_as_one (0 + g) y.quota p) (get_or_default y.requests i (slice_index_or y.requests i d) d l) in
    let within : a + i < length (listed s) = let most = run.within in omega arith in
    subst (λ (z : Listed). z.request.seconds ≤ 86400) at ((o.ranges.seconds (a + i) x within).1)

pub all_taken : {X : Type 0} (P : X → Type 0) (n a : ℕ) (xs : List X) → All P xs → All P (take n (drop a xs))
all_taken P n a xs all = All-take P n (drop a xs) (All-drop P a xs all)

-- the group's first request is known, and its run begins at its place
pub first_run : (s : Parts) (g : ℕ) (y : GroupPart) (qs : List RequestPart) (q : RequestPart) → IsOrderly s → g < length s.groups
    → slice_index_or s.groups g y ≡ y → qs ≡ y.requests
    → IsKnown s (slice_index_or qs 0 q).request.0 × IsRun 0 s.groups g y (place_of s (slice_index_or qs 0 q).request.0)
first_run s g y qs q o l e same =
    let run = run_of 0 s.groups g y l e in
    let some : 1 ≤ length y.requests = (group_size s g y o l e).0 in
    let first = element_at y.requests 0 some in
    let here = number_here s g run.0 0 y first.0 o run.1 some first.1 in
    let is : first.0 ≡ slice_index_or qs 0 q = sym first.1 ∙ get_or_default y.requests 0 first.0 q some
    ∙ ap (λ (ps : List RequestPart). slice_index_or ps 0 q) (sym same) in
    let at : run.0 ≡ place_of s (slice_index_or qs 0 q).request.0 = plus_zero run.0 ∙ sym here.1 ∙ ap (λ (p : RequestPart). place_of s p.request.0) is in
    (subst (λ (p : RequestPart). IsKnown s p.request.0) is here.0, subst (IsRun 0 s.groups g y) at run.1)
  where
    plus_zero : (a : ℕ) → a ≡ a + 0
    plus_zero a = omega arith

pub group_read : (s : Parts) (gs : List GroupPart) (g : ℕ) (y : GroupPart) → gs ≡ s.groups → y ≡ slice_index_or gs g y → slice_index_or s.groups g y ≡ y
group_read s gs g y e is = sym (is ∙ ap (λ (xs : List GroupPart). slice_index_or xs g y) e)

pub nets_read : (u v : ℕ) (qs ps : List RequestPart) (cs ds : List ℤ) → u ≡ v → qs ≡ ps → cs ≡ ds → nets_at u qs cs ≡ nets_at v ps ds
nets_read u v qs ps cs ds e f g = ap (λ (n : ℕ). nets_at n qs cs) e ∙ ap (λ (xs : List RequestPart). nets_at v xs cs) f
    ∙ ap (λ (zs : List ℤ). nets_at v ps zs) g

pub taken_length : (prices cs : List ℤ) (a n : ℕ) → a + n ≤ length prices → cs ≡ take n (drop a prices) → length cs ≡ n
taken_length prices cs a n within is =
    let dropped : length (drop a prices) ≡ length prices - a = length-drop a prices in
    ap (λ (xs : List ℤ). length xs) is ∙ length-take n (drop a prices) ∙ omega arith

pub kind_read : (s : Parts) (gs : List GroupPart) (g : ℕ) (x : GroupPart) (k : Op) → gs ≡ s.groups → g < length s.groups
    → (slice_index_or gs g x).op ≡ k → IsKind s k g
kind_read s gs g x k e l op d = ap (λ (y : GroupPart). y.op) (get_or_default s.groups g d x l)
    ∙ ap (λ (ys : List GroupPart). (slice_index_or ys g x).op) (sym e) ∙ op
