-- The prices of a group's requests stand side by side among all.
use Rattle.std.proofs.Common.{◌≡◌, ℕ, zero, suc, ◌+◌, ◌-◌, ◌<◌, ◌≤◌, ◌⊎◌, inl, inr, ℤ, pos, List, [], ◌∷◌, ◌++◌, None, length, map, take, drop}
use Rattle.std.proofs.Common.{slice_index_or, sym, ◌∙◌, ap, subst, arith, length-append}
use Rattle.std.proofs.lemmas.List.{length-map, length-take, length-drop, get_or-map, get_or-take, get_or-drop, get_or_append_left, get_or-append-add}
use Rattle.std.proofs.lemmas.List.{get_or_default, same_lists}
use Rattle.std.specs.Prelude.{HoldsAt}
use Rattle.std.proofs.lemmas.List.Elements.{Contains-get_or}
use Rattle.plan_base.specs.declared.parts.Parts.{Parts}
use Rattle.plan_base.specs.declared.parts.GroupPart.{GroupPart}
use Rattle.plan_base.specs.declared.parts.RequestPart.{RequestPart}
use Rattle.plan_base.specs.declared.parts.Op.{Op}
use Rattle.plan_base.specs.declared.parts.Op.TheVariants.{Single, Many, OneOf, And}
use Rattle.plan_base.specs.Requests.{Listed, listed_from, listed, place_of, IsKnown, IsOf, IsKind, members_of, members}
use Rattle.plan_base.specs.Snapshot.{IsOrderly, most_requests}
use Rattle.plan_base.specs.Bound.{price}
use Rattle.plan_base.proofs.Known.{IsListedAs}
use Rattle.plan_base.proofs.Members.{listed_known, listed_as, is_of_member}
use Rattle.plan_base.specs.NetPrices.{group_prices, IsGroupRun}

abbrev pub number_of : Listed → ℕ
number_of x = x.request.request.0

below_same_above : (a b : ℕ) → ((a < b) ⊎ (b < a)) ⊎ (a ≡ b)
below_same_above a b = grind arith

-- each request's place is where it stands among all
pub place_at : (s : Parts) (i : ℕ) (d : Listed) → IsOrderly s → i < length (listed s) → place_of s (number_of (slice_index_or (listed s) i d)) ≡ i
place_at s i d o l =
    let x : Listed = slice_index_or (listed s) i d in
    let known : IsKnown s (number_of x) = listed_known s x (Contains-get_or (listed s) i d l) in
    let at : IsListedAs s (number_of x) x = listed_as s x o (Contains-get_or (listed s) i d l) in
    let there : number_of (slice_index_or (listed s) (place_of s (number_of x)) x) ≡ number_of x = ap number_of at.at_place in
    let here : number_of (slice_index_or (listed s) i x) ≡ number_of x = ap number_of (get_or_default (listed s) i x d l) in
    elim (below_same_above (place_of s (number_of x)) i) [
      | inl (inl below) ↦ let less : number_of (slice_index_or (listed s) (place_of s (number_of x)) x) < number_of (slice_index_or (listed s) i x) =
          o.requests_rise _ i x below l in absurd (omega arith)
      | inl (inr above) ↦ let less : number_of (slice_index_or (listed s) i x) < number_of (slice_index_or (listed s) (place_of s (number_of x)) x) =
          o.requests_rise i _ x above known in absurd (omega arith)
      | inr same ↦ same
    ]

-- the requests of the group at place g begin at a among those that are listed, and follow each other
pub record IsRun (n : ℕ) (xs : List GroupPart) (g a : ℕ) : Type 0 where
  pub within : a + length (slice_index_or (map members_of xs) g []) ≤ length (listed_from n xs)
  pub each : (i : ℕ) (d : Listed) → i < length (slice_index_or (map members_of xs) g [])
      → number_of (slice_index_or (listed_from n xs) (a + i) d) ≡ slice_index_or (slice_index_or (map members_of xs) g []) i 0

pub run_of : (n : ℕ) (xs : List GroupPart) (g : ℕ) → g < length xs → (a : ℕ) × IsRun n xs g a
run_of n [] g l = absurd (omega arith)
run_of n (x ∷ xs) zero l =
    let here : List Listed = map (λ q. record { group = n; quota = x.quota; request = q }) x.requests in
    let count : length here ≡ length x.requests = length-map x.requests (λ q. record { group = n; quota = x.quota; request = q }) in
    let same : length (members_of x) ≡ length x.requests = length-map x.requests (λ q. q.request.0) in
    let whole : length (here ++ listed_from (suc n) xs) ≡ length here + length (listed_from (suc n) xs) = length-append here (listed_from (suc n) xs) in (
      0,
      record {
        within = omega arith;
        each = λ i d k.
            let at : 0 + i ≡ i = omega arith in
            let left : slice_index_or (here ++ listed_from (suc n) xs) i d ≡ slice_index_or here i d =
            get_or_append_left here (listed_from (suc n) xs) d i (omega arith) in
            let first : slice_index_or here i d ≡ _ =
            get_or-map (λ q. record { group = n; quota = x.quota; request = q }) x.requests i d.request d (omega arith) in
            let second : slice_index_or (members_of x) i 0 ≡ (slice_index_or x.requests i d.request).request.0 =
            get_or-map (λ q. q.request.0) x.requests i d.request 0 (omega arith) in
            ap (λ (j : ℕ). number_of (slice_index_or (here ++ listed_from (suc n) xs) j d)) at ∙ ap number_of left ∙ ap number_of first ∙ sym second;
      },
    )
run_of n (x ∷ xs) (suc g) l =
    let here : List Listed = map (λ q. record { group = n; quota = x.quota; request = q }) x.requests in
    let rest : (a : ℕ) × IsRun (suc n) xs g a = run_of (suc n) xs g (omega arith) in
    let whole : length (here ++ listed_from (suc n) xs) ≡ length here + length (listed_from (suc n) xs) = length-append here (listed_from (suc n) xs) in (
      length here + rest.0,
      record {
        within = let less = rest.1.within in omega arith;
        each = λ i d k.
            let at : length here + rest.0 + i ≡ length here + (rest.0 + i) = omega arith in
            ap (λ (j : ℕ). number_of (slice_index_or (here ++ listed_from (suc n) xs) j d)) at
            ∙ ap number_of (get_or-append-add here (listed_from (suc n) xs) (rest.0 + i) d) ∙ rest.1.each i d k;
      },
    )

-- a listed request of a snapshot that has one
first_of : (xs : List Listed) → 0 < length xs → Listed
first_of [] l = absurd (omega arith)
first_of (x ∷ xs) l = x

pub group_run : (s : Parts) (g : ℕ) → IsOrderly s → g < length s.groups → 0 < length (members s g)
    → IsGroupRun s g (place_of s (slice_index_or (members s g) 0 0))
group_run s g o l some =
    let run : (a : ℕ) × IsRun 0 s.groups g a = run_of 0 s.groups g l in
    let within : run.0 + length (members s g) ≤ length (listed s) = run.1.within in
    let d : Listed = first_of (listed s) (omega arith) in
    let each : (i : ℕ) → i < length (members s g) → place_of s (slice_index_or (members s g) i 0) ≡ run.0 + i
    = λ i k. ap (place_of s) (sym (run.1.each i d k)) ∙ place_at s (run.0 + i) d o (omega arith)
    in
    let first : place_of s (slice_index_or (members s g) 0 0) ≡ run.0 + 0 = each 0 some in
    record { within = omega arith; each = λ i k. let here : place_of s (slice_index_or (members s g) i 0) ≡ run.0 + i = each i k in omega arith }

-- the prices of a group's requests are a part of all prices
pub run_prices : (s : Parts) (prices : List ℤ) (g a n : ℕ) → IsGroupRun s g a → length prices ≡ length (listed s) → length (members s g) ≡ n
    → take n (drop a prices) ≡ group_prices s prices g
run_prices s prices g a n run count size =
    let dropped : length (drop a prices) ≡ length prices - a = length-drop a prices in
    let taken : length (take n (drop a prices)) ≡ n = length-take n (drop a prices) ∙ omega arith in
    let mapped : length (group_prices s prices g) ≡ length (members s g) = length-map (members s g) (price s prices) in
    same_lists (take n (drop a prices)) (group_prices s prices g) (omega arith)
    (λ i d k.
    let here : place_of s (slice_index_or (members s g) i 0) ≡ a + i = run.each i (omega arith) in
    get_or-take n (drop a prices) i d (omega arith) ∙ get_or-drop a prices i d ∙ get_or_default prices (a + i) d (pos 0) (omega arith)
    ∙ ap (λ (j : ℕ). slice_index_or prices j (pos 0)) (sym here)
    ∙ sym (get_or-map (price s prices) (members s g) i 0 d (omega arith)))

-- the first request of a group is known, and the run begins at its place
pub first_request : (s : Parts) (gs : List GroupPart) (g : ℕ) (x : GroupPart) (qs : List RequestPart) (q : RequestPart) → IsOrderly s → gs ≡ s.groups
    → g < length s.groups → qs ≡ (slice_index_or gs g x).requests
    → IsKnown s (slice_index_or qs 0 q).request.0 × IsGroupRun s g (place_of s (slice_index_or qs 0 q).request.0) × (length (members s g) ≡ length qs)
first_request s gs g x qs q o e l f =
    let own : qs ≡ (slice_index_or s.groups g x).requests = f ∙ ap (λ (ys : List GroupPart). (slice_index_or ys g x).requests) e in
    let some : 1 ≤ length qs = subst (λ (ys : List RequestPart). 1 ≤ length ys) (sym own) (o.shapes g x l).0 in
    let ms : members s g ≡ map (λ y. y.request.0) qs = get_or-map members_of s.groups g x [] l
    ∙ ap (λ (ys : List RequestPart). map (λ y. y.request.0) ys) (sym own) in
    let count : length (members s g) ≡ length qs = ap (λ (ns : List ℕ). length ns) ms ∙ length-map qs (λ y. y.request.0) in
    let first : slice_index_or (members s g) 0 0 ≡ (slice_index_or qs 0 q).request.0 = ap (λ (ns : List ℕ). slice_index_or ns 0 0) ms
    ∙ get_or-map (λ y. y.request.0) qs 0 q 0 (omega arith) in
    let of : IsOf s g (slice_index_or (members s g) 0 0) = is_of_member s g _ o (Contains-get_or (members s g) 0 0 (omega arith)) in (
      subst (λ (r : ℕ). IsKnown s r) first of.0,
      subst (λ (r : ℕ). IsGroupRun s g (place_of s r)) first (group_run s g o l (omega arith)),
      count,
    )

-- the kind of a group that was read
pub kind_here : (s : Parts) (gs : List GroupPart) (g : ℕ) (x : GroupPart) (k : Op) → gs ≡ s.groups → g < length s.groups → x ≡ slice_index_or gs g x
    → x.op ≡ k → IsKind s k g
kind_here s gs g x k e l is op d = ap (λ (y : GroupPart). y.op) (get_or_default s.groups g d x l)
    ∙ ap (λ (ys : List GroupPart). (slice_index_or ys g x).op) (sym e) ∙ ap (λ (y : GroupPart). y.op) (sym is) ∙ op

most_of_shape : (op : Op) → most_requests op ≤ 256
most_of_shape Single = omega arith
most_of_shape Many = omega arith
most_of_shape OneOf = omega arith
most_of_shape And = omega arith

-- a group has a request
pub some_members : (s : Parts) (g : ℕ) → IsOrderly s → g < length s.groups → 0 < length (members s g)
some_members s g o l =
    let x : GroupPart = record { group = record { 0 = 0 }; op = Single; requests = []; quota = None } in
    let count : length (members s g) ≡ length (slice_index_or s.groups g x).requests =
    ap (λ (rs : List ℕ). length rs) (get_or-map members_of s.groups g x [] l)
    ∙ length-map (slice_index_or s.groups g x).requests (λ q. q.request.0) in
    let some : 1 ≤ length (slice_index_or s.groups g x).requests = (o.shapes g x l).0 in
    omega arith

-- a group has at most 256 requests
pub few_members : (s : Parts) (g : ℕ) → IsOrderly s → g < length s.groups → length (members s g) ≤ 256
few_members s g o l =
    let x : GroupPart = record { group = record { 0 = 0 }; op = Single; requests = []; quota = None } in
    let count : length (members s g) ≡ length (slice_index_or s.groups g x).requests =
    ap (λ (rs : List ℕ). length rs) (get_or-map members_of s.groups g x [] l)
    ∙ length-map (slice_index_or s.groups g x).requests (λ q. q.request.0) in
    let shape = (o.shapes g x l).1 in
    let most = most_of_shape (slice_index_or s.groups g x).op in
    omega arith

pub kind_read : (s : Parts) (gs : List GroupPart) (g : ℕ) (x : GroupPart) (k : Op) → gs ≡ s.groups → g < length s.groups
    → (slice_index_or gs g x).op ≡ k → IsKind s k g
kind_read s gs g x k e l op d = ap (λ (y : GroupPart). y.op) (get_or_default s.groups g d x l)
    ∙ ap (λ (ys : List GroupPart). (slice_index_or ys g x).op) (sym e) ∙ op

-- how many requests a group has that was read
pub count_read : (s : Parts) (gs : List GroupPart) (g : ℕ) (x : GroupPart) → gs ≡ s.groups → g < length s.groups
    → length (slice_index_or gs g x).requests ≡ length (members s g)
count_read s gs g x e l =
    ap (λ (ys : List GroupPart). length (slice_index_or ys g x).requests) e
    ∙ sym (length-map (slice_index_or s.groups g x).requests (λ q. q.request.0))
    ∙ ap (λ (rs : List ℕ). length rs) (sym (get_or-map members_of s.groups g x [] l))

-- the number of a group that was read
pub number_read : (s : Parts) (gs : List GroupPart) (g : ℕ) (x : GroupPart) → gs ≡ s.groups → g < length s.groups
    → HoldsAt (λ y. y.group.0 ≡ (slice_index_or gs g x).group.0) s.groups g
number_read s gs g x e l d = ap (λ (y : GroupPart). y.group.0) (get_or_default s.groups g d x l)
    ∙ ap (λ (ys : List GroupPart). (slice_index_or ys g x).group.0) (sym e)
