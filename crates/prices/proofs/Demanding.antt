-- What is demanded of quotas, request by request.
use Rattle.std.proofs.Common.{◌≡◌, ℕ, ◌+◌, ◌*◌, ◌<◌, ◌≤◌, Bool, true, false, cond, ◌&&◌, ◌==◌, ℤ, List, [], ◌∷◌, length, map, filter, drop}
use Rattle.std.proofs.Common.{slice_index_or, Option, Some, None, refl, sym, ◌∙◌, ap, subst, arith}
use Rattle.std.specs.Prelude.{HoldsAt, sum_by}
use Rattle.std.proofs.lemmas.List.{at_drop_more, at_drop_all, get_or-map}
use Rattle.std.proofs.lemmas.List.Elements.{Contains-get_or}
use Rattle.std.proofs.lemmas.List.Sums.{sum_by-cons}
use Rattle.plan_base.specs.declared.parts.Parts.{Parts}
use Rattle.plan_base.specs.declared.parts.GroupPart.{GroupPart}
use Rattle.plan_base.specs.declared.parts.RequestPart.{RequestPart}
use Rattle.plan_base.specs.Requests.{Listed, listed, place_of, IsKnown, group_of}
use Rattle.plan_base.specs.Snapshot.{IsOrderly}
use Rattle.plan_base.specs.Feasible.{is_quota}
use Rattle.plan_base.specs.Round.{is_taken, demand_of}
use Rattle.plan_base.proofs.Members.{listed_known}
use Rattle.groups.specs.Tables.{towards}
use Rattle.groups.proofs.Runs.{number_of, place_at}
use Rattle.groups.proofs.Footed.{group_here, quota_here}
use Rattle.prices.specs.Rounds.{number_at}
use Rattle.prices.specs.Takings.{AreTaken}

-- what the request at a place asks of a quota
abbrev pub asked_at : Parts → ℕ → ℕ → ℕ
asked_at s place q = slice_index_or (map (λ x. towards x.quota x.request.seconds q) (listed s)) place 0

-- what is read of the request at a place
pub asked_here : (s : Parts) (place g : ℕ) (r : RequestPart) (gs : List GroupPart) (x : GroupPart) (q : ℕ) → IsOrderly s → place < length (listed s)
    → HoldsAt (λ y. y.request ≡ r) (listed s) place → HoldsAt (λ y. y.group ≡ g) (listed s) place → gs ≡ s.groups → x ≡ slice_index_or gs g x
    → towards x.quota r.seconds q ≡ asked_at s place q
asked_here s place g r gs x q o l is_request is_group e is =
    let d : Listed = record { group = 0; quota = None; request = r } in
    let y : Listed = slice_index_or (listed s) place d in
    let n : ℕ = number_of y in
    let at : place_of s n ≡ place = place_at s place d o l in
    let known : IsKnown s n = listed_known s _ (Contains-get_or (listed s) place d l) in
    let group : g ≡ group_of s n = group_here s n place g known (sym at) is_group in
    let quota : x.quota ≡ y.quota
    = ap (λ (z : GroupPart). z.quota) is ∙ ap (λ (ys : List GroupPart). (slice_index_or ys g x).quota) e ∙ quota_here s n g x known group
    ∙ ap (λ (k : ℕ). slice_index_or (map (λ z. z.quota) (listed s)) k None) at
    ∙ get_or-map (λ z. z.quota) (listed s) place d None l
    in
    ap (λ (o : Option ℕ). towards o r.seconds q) quota ∙ ap (λ (z : RequestPart). towards y.quota z.seconds q) (sym (is_request d))
    ∙ sym (get_or-map (λ z. towards z.quota z.request.seconds q) (listed s) place d 0 l)

-- a group's quota is one of the snapshot's
pub quota_within : (s : Parts) (gs : List GroupPart) (g : ℕ) (x : GroupPart) (q : ℕ) → IsOrderly s → gs ≡ s.groups → g < length s.groups
    → x ≡ slice_index_or gs g x → x.quota ≡ Some q → q < length s.quotas
quota_within s gs g x q o e l is named =
    let same : (slice_index_or s.groups g x).quota ≡ Some q = ap (λ (ys : List GroupPart). (slice_index_or ys g x).quota) (sym e)
    ∙ ap (λ (z : GroupPart). z.quota) (sym is) ∙ named in
    o.quotas g x l q same

-- a request that is listed and taken counts towards its quota
abbrev counts : Parts → (ℕ → ℤ) → ℕ → Listed → Bool
counts s c q x = is_quota q x.quota && is_taken s c x.request.request.0

-- what the requests from a place on ask of quota q
abbrev left : Parts → (ℕ → ℤ) → ℕ → ℕ → ℕ
left s c q place = sum_by (λ x. x.request.seconds) (filter (counts s c q) (drop place (listed s)))

filter_more : {X : Type 0} (p : X → Bool) (f : X → ℕ) (x : X) (xs : List X) → sum_by f (filter p (x ∷ xs)) ≡ cond (p x) (f x) 0 + sum_by f (filter p xs)
filter_more {X} p f x xs = by_test (p x)
  where
    by_test : (b : Bool) → sum_by f (cond b (x ∷ filter p xs) (filter p xs)) ≡ cond b (f x) 0 + sum_by f (filter p xs)
    by_test true = sum_by-cons f x (filter p xs)
    by_test false = omega arith

test_of : (a b : Bool) (n : ℕ) → cond (a && b) n 0 ≡ cond b (cond a n 0) 0
test_of true true n = refl
test_of true false n = refl
test_of false true n = refl
test_of false false n = refl

left_more : (s : Parts) (c : ℕ → ℤ) (q place : ℕ) (flags : List Bool) (d : Listed) → place < length (listed s) → AreTaken s c flags
    → left s c q place ≡ cond (slice_index_or flags place false) (asked_at s place q) 0 + left s c q (place + 1)
left_more s c q place flags d l taken =
    let x : Listed = slice_index_or (listed s) place d in
    let number : number_at s place ≡ number_of x = get_or-map (λ z. z.request.request.0) (listed s) place d 0 l in
    let flag : slice_index_or flags place false ≡ is_taken s c (number_of x) = taken place l ∙ ap (is_taken s c) number in
    let asked : asked_at s place q ≡ towards x.quota x.request.seconds q = get_or-map (λ z. towards z.quota z.request.seconds q) (listed s) place d 0 l in
    at_drop_more (λ xs. sum_by (λ x. x.request.seconds) (filter (counts s c q) xs)) (listed s) place d l
    ∙ filter_more (counts s c q) (λ x. x.request.seconds) x (drop (place + 1) (listed s))
    ∙ ap (λ (n : ℕ). n + left s c q (place + 1))
    (test_of (is_quota q x.quota) (is_taken s c (number_of x)) x.request.seconds
    ∙ ap (λ (b : Bool). cond b (towards x.quota x.request.seconds q) 0) (sym flag)
    ∙ ap (λ (n : ℕ). cond (slice_index_or flags place false) n 0) (sym asked))

-- the demands of the requests before a place
pub record IsDemandedUpTo (s : Parts) (flags : List Bool) (old demands : List ℕ) (place : ℕ) : Type 0 where
  pub count : length demands ≡ length old
  pub rest : (c : ℕ → ℤ) (q : ℕ) → AreTaken s c flags → slice_index_or demands q 0 + left s c q place ≡ demand_of s c q
  pub small : (q : ℕ) → slice_index_or demands q 0 ≤ place * 86400

-- some request, for where there is none
pub nothing : Listed
nothing = record {
  group = 0;
  quota = None;
  request = record { request = record { 0 = 0 }; seconds = 0; value = 0; windows = []; telescopes = []; targets = []; fade = 0 };
}

within_quota : (o : Option ℕ) (n q : ℕ) → n ≤ 86400 → towards o n q ≤ 86400
within_quota None n q l = omega arith
within_quota (Some p) n q l = by_test (p == q)
  where
    by_test : (b : Bool) → cond b n 0 ≤ 86400
    by_test true = l
    by_test false = omega arith

pub asked_most : (s : Parts) (place q : ℕ) → IsOrderly s → place < length (listed s) → asked_at s place q ≤ 86400
asked_most s place q o l =
    let x : Listed = slice_index_or (listed s) place nothing in
    let most : x.request.seconds ≤ 86400 = (o.ranges.seconds place nothing l).1 in
    subst (λ (n : ℕ). n ≤ 86400) (sym (get_or-map (λ z. towards z.quota z.request.seconds q) (listed s) place nothing 0 l))
    (within_quota x.quota x.request.seconds q most)

pub demanded_none : (s : Parts) (flags : List Bool) (demands : List ℕ) → ((q : ℕ) → slice_index_or demands q 0 ≡ 0) → IsDemandedUpTo s flags demands demands 0
demanded_none s flags demands none = record {
  count = refl;
  rest = λ c q taken. let zero = none q in
      let whole : left s c q 0 ≡ demand_of s c q = refl in omega arith;
  small = λ q. let zero = none q in omega arith;
}

pub demanded_more : (s : Parts) (flags : List Bool) (old demands more : List ℕ) (place : ℕ) → place < length (listed s)
    → slice_index_or flags place false ≡ true → length more ≡ length demands
    → ((q : ℕ) → slice_index_or more q 0 ≡ slice_index_or demands q 0 + asked_at s place q)
    → ((q : ℕ) → slice_index_or more q 0 ≤ slice_index_or demands q 0 + 86400) → IsDemandedUpTo s flags old demands place
    → IsDemandedUpTo s flags old more (place + 1)
demanded_more s flags old demands more place l on count added few h = record {
  count = count ∙ h.count;
  rest = λ c q taken.
      let step : left s c q place ≡ cond (slice_index_or flags place false) (asked_at s place q) 0 + left s c q (place + 1) =
      left_more s c q place flags nothing l taken in
      let flag : cond (slice_index_or flags place false) (asked_at s place q) 0 ≡ asked_at s place q = ap (λ (b : Bool). cond b (asked_at s place q) 0) on in
      let so_far : slice_index_or demands q 0 + left s c q place ≡ demand_of s c q = h.rest c q taken in
      let here : slice_index_or more q 0 ≡ slice_index_or demands q 0 + asked_at s place q = added q in
      omega arith;
  small = λ q.
      let here : slice_index_or more q 0 ≤ slice_index_or demands q 0 + 86400 = few q in
      let before : slice_index_or demands q 0 ≤ place * 86400 = h.small q in
      omega arith;
}

pub demanded_as_before : (s : Parts) (flags : List Bool) (old demands : List ℕ) (place : ℕ) → place < length (listed s)
    → slice_index_or flags place false ≡ false → IsDemandedUpTo s flags old demands place
    → IsDemandedUpTo s flags old demands (place + 1)
demanded_as_before s flags old demands place l off h = record {
  count = h.count;
  rest = λ c q taken.
      let step : left s c q place ≡ cond (slice_index_or flags place false) (asked_at s place q) 0 + left s c q (place + 1) =
      left_more s c q place flags nothing l taken in
      let flag : cond (slice_index_or flags place false) (asked_at s place q) 0 ≡ 0 = ap (λ (b : Bool). cond b (asked_at s place q) 0) off in
      let so_far : slice_index_or demands q 0 + left s c q place ≡ demand_of s c q = h.rest c q taken in
      omega arith;
  small = λ q. let before : slice_index_or demands q 0 ≤ place * 86400 = h.small q in omega arith;
}

pub demanded_all : (s : Parts) (flags : List Bool) (old demands : List ℕ) (place : ℕ) → length (listed s) ≤ place
    → IsDemandedUpTo s flags old demands place → (c : ℕ → ℤ) (q : ℕ) → AreTaken s c flags
    → slice_index_or demands q 0 ≡ demand_of s c q
demanded_all s flags old demands place l h c q taken =
    let none : left s c q place ≡ 0 = at_drop_all (λ xs. sum_by (λ x. x.request.seconds) (filter (counts s c q) xs)) (listed s) place l in
    let whole : slice_index_or demands q 0 + left s c q place ≡ demand_of s c q = h.rest c q taken in
    omega arith
