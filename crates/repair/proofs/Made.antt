-- What is made of a snapshot's groups: the order of a pass, and the order in which a group's requests are tried.
use Rattle.std.proofs.Common.{◌≡◌, ◌≢◌, ℕ, zero, suc, ◌+◌, ◌<◌, ◌≤◌, ◌⊎◌, inl, inr, List, [], ◌∷◌, ◌++◌, length, map, take, slice_index_or, All}
use Rattle.std.proofs.Common.{AllPairs, Contains, refl, sym, ◌∙◌, ap, subst, arith}
use Rattle.std.proofs.lemmas.List.{length-map, get_or-map, get_or_default, get_or_append_left, get_or_push, length_push, map_push, take_more}
use Rattle.std.proofs.lemmas.List.Elements.{All-nil, All-cons, All-head, All-tail, All-map, All-contains, Contains-get_or, Contains-append_left}
use Rattle.std.proofs.lemmas.List.Elements.{Contains-append_right}
use Rattle.plan_base.specs.declared.parts.Parts.{Parts}
use Rattle.plan_base.specs.declared.parts.GroupPart.{GroupPart}
use Rattle.plan_base.specs.declared.parts.RequestPart.{RequestPart}
use Rattle.plan_base.specs.declared.parts.Op.{Op}
use Rattle.plan_base.specs.declared.parts.Op.TheVariants.{Single, Many, OneOf, And}
use Rattle.plan_base.specs.Requests.{Listed, listed_from, listed, IsKnown, request_value, IsOf, IsKind, members_of, members}
use Rattle.plan_base.specs.Snapshot.{IsOrderly, most_requests}
use Rattle.plan_base.specs.Fill.{worth_of_group, IsFillOrder, IsMemberOrder}
use Rattle.plan_base.proofs.Known.{known_or_is}
use Rattle.plan_base.proofs.Lists.{contains_map, AllPairs-map}
use Rattle.plan_base.proofs.Members.{listed_known, listed_as, is_of_member, member_is_of, members_rise}
use Rattle.plan_base.proofs.Orders.{one_order}
use Rattle.repair.specs.declared.entry.Entry.{Entry}
use Rattle.repair.specs.declared.trials.Trial.{Trial}
use Rattle.repair.specs.Entries.{IsEntry, numbers_of, number_at}
use Rattle.repair.specs.Orders.{worth, IsFallingOrder}
use Rattle.repair.specs.Trials.{trial_worth, IsTrial, AreTrialsOf}

-- ---- the order of a pass

pub fill_from_falling : (s : Parts) (worths order : List ℕ) → worths ≡ map worth_of_group s.groups → IsFallingOrder worths order → IsFillOrder s order
fill_from_falling s worths order same falls =
    let count : length worths ≡ length s.groups = ap (λ (xs : List ℕ). length xs) same ∙ length-map s.groups worth_of_group in
    let by : IsFallingOrder (map worth_of_group s.groups) order = subst (λ (ws : List ℕ). IsFallingOrder ws order) same falls in
    record {
      places = λ k d l. let below : slice_index_or order k d < length worths = falls.places k d l in omega arith;
      complete = λ g below. falls.complete g (omega arith);
      falling = by.falling;
    }

-- ---- ranges of groups

all_left : {X : Type 0} (P : X → Type 0) (xs ys : List X) → All P (xs ++ ys) → All P xs
all_left P [] ys a = All-nil P
all_left P (x ∷ xs) ys a = All-cons P x xs (All-head P x (xs ++ ys) a) (all_left P xs ys (All-tail P x (xs ++ ys) a))

all_right : {X : Type 0} (P : X → Type 0) (xs ys : List X) → All P (xs ++ ys) → All P ys
all_right P [] ys a = a
all_right P (x ∷ xs) ys a = all_right P xs ys (All-tail P x (xs ++ ys) a)

-- what holds of each listed request holds of each request of each group
in_groups : (P : RequestPart → Type 0) (g : ℕ) (xs : List GroupPart) → All (λ x. P x.request) (listed_from g xs) → All (λ x. All P x.requests) xs
in_groups P g [] a = All-nil (λ x. All P x.requests)
in_groups P g (x ∷ xs) a =
    let here : List Listed = map (λ q. record { group = g; quota = x.quota; request = q }) x.requests in
    All-cons (λ y. All P y.requests) x xs
    (λ k d l.
    let whole : Listed = record { group = g; quota = x.quota; request = d } in
    let count : length here ≡ length x.requests = length-map x.requests (λ q. record { group = g; quota = x.quota; request = q }) in
    let at : slice_index_or here k whole ≡ record { group = g; quota = x.quota; request = slice_index_or x.requests k d } =
    get_or-map (λ q. record { group = g; quota = x.quota; request = q }) x.requests k d whole l in
    subst (λ (y : Listed). P y.request) at (all_left (λ y. P y.request) here (listed_from (suc g) xs) a k whole (omega arith)))
    (in_groups P (suc g) xs (all_right (λ y. P y.request) here (listed_from (suc g) xs) a))

pub values_in_groups : (s : Parts) → IsOrderly s → All (λ x. All (λ q. q.value ≤ 288000000) x.requests) s.groups
values_in_groups s o = in_groups (λ q. q.value ≤ 288000000) 0 s.groups (λ k d l. (o.ranges.values k d l).1)

most_256 : (k : Op) → most_requests k ≤ 256
most_256 Single = omega arith
most_256 Many = omega arith
most_256 OneOf = omega arith
most_256 And = omega arith

pub few_in_groups : (s : Parts) → IsOrderly s → All (λ x. length x.requests ≤ 256) s.groups
few_in_groups s o k d l = let most = most_256 (slice_index_or s.groups k d).op in let shape = (o.shapes k d l).1 in omega arith

-- ---- a group's requests

-- the group at place g
pub members_here : (s : Parts) (g : ℕ) (x : GroupPart) → g < length s.groups → slice_index_or s.groups g x ≡ x → members s g ≡ members_of x
members_here s g x l is = get_or-map members_of s.groups g x [] l ∙ ap members_of is

listed_has : (n : ℕ) (xs : List GroupPart) (i : ℕ) (x : GroupPart) (q : RequestPart) → i < length xs → slice_index_or xs i x ≡ x → Contains x.requests q
    → Contains (listed_from n xs) (record { group = n + i; quota = x.quota; request = q })
listed_has n [] i x q l is has = absurd (omega arith)
listed_has n (y ∷ ys) zero x q l is has =
    let here : Listed = record { group = n; quota = x.quota; request = q } in
    let at : Contains (map (λ p. record { group = n; quota = y.quota; request = p }) y.requests) here =
    subst (λ (z : GroupPart). Contains (map (λ p. record { group = n; quota = z.quota; request = p }) z.requests) here) (sym is)
    (contains_map (λ p. record { group = n; quota = x.quota; request = p }) x.requests q has) in
    let same : n ≡ n + 0 = omega arith in
    subst (λ (k : ℕ). Contains (listed_from n (y ∷ ys)) (record { group = k; quota = x.quota; request = q })) same
    (Contains-append_left _ (listed_from (suc n) ys) here at)
listed_has n (y ∷ ys) (suc i) x q l is has =
    let rest = listed_has (suc n) ys i x q (omega arith) is has in
    let same : suc n + i ≡ n + suc i = omega arith in
    subst (λ (k : ℕ). Contains (listed_from n (y ∷ ys)) (record { group = k; quota = x.quota; request = q })) same
    (Contains-append_right (map (λ p. record { group = n; quota = y.quota; request = p }) y.requests) (listed_from (suc n) ys) _ rest)

-- the value of a group's request, by its number
value_here : (s : Parts) (g : ℕ) (x : GroupPart) (q : RequestPart) → IsOrderly s → g < length s.groups → slice_index_or s.groups g x ≡ x
    → Contains x.requests q → request_value s q.request.0 ≡ q.value
value_here s g x q o l is has =
    let y : Listed = record { group = 0 + g; quota = x.quota; request = q } in
    let there : Contains (listed s) y = listed_has 0 s.groups g x q l is has in
    known_or_is (λ z. z.request.value) 0 s q.request.0 y (listed_known s y there) (listed_as s y o there)

-- all requests of a group are known
pub group_known_all : (s : Parts) (g : ℕ) (x : GroupPart) → IsOrderly s → g < length s.groups → slice_index_or s.groups g x ≡ x
    → All (λ q. IsKnown s q.request.0) x.requests
group_known_all s g x o l is k d below =
    let q : RequestPart = slice_index_or x.requests k d in
    let has : Contains (members_of x) q.request.0 = contains_map (λ p. p.request.0) x.requests q (Contains-get_or x.requests k d below) in
    (is_of_member s g q.request.0 o (subst (λ (ms : List ℕ). Contains ms q.request.0) (sym (members_here s g x l is)) has)).0

-- the requests of a group that has them in an order by these worths
module _ (s : Parts) (g : ℕ) (x : GroupPart) (order numbers : List ℕ) (o : IsOrderly s) (l : g < length s.groups) (is : slice_index_or s.groups g x ≡ x)
    (falls : IsFallingOrder (map (trial_worth x.op) x.requests) order) (numbered : numbers ≡ map (number_at x.requests) order) where
  same_members : members s g ≡ members_of x
  same_members = members_here s g x l is

  count : length (map (trial_worth x.op) x.requests) ≡ length x.requests
  count = length-map x.requests (trial_worth x.op)

  count_members : length (members_of x) ≡ length x.requests
  count_members = length-map x.requests (λ q. q.request.0)

  rising : AllPairs (λ a b. a < b) (members_of x)
  rising = subst (AllPairs (λ a b. a < b)) same_members (members_rise s g o)

  of_group : All (IsOf s g) numbers
  of_group = subst (All (IsOf s g)) (sym numbered) (All-map (IsOf s g) (number_at x.requests) order (λ k d below.
      let i : ℕ = slice_index_or order k d in
      let within : i < length (map (trial_worth x.op) x.requests) = falls.places k d below in
      is_of_member s g (number_at x.requests i) o
      (subst (λ (ms : List ℕ). Contains ms (number_at x.requests i)) (sym same_members)
      (Contains-get_or (members_of x) i 0 (let c = count in let m = count_members in omega arith)))))

  all_of_group : (r : ℕ) → IsOf s g r → Contains numbers r
  all_of_group r of =
      let has : Contains (members_of x) r = subst (λ (ms : List ℕ). Contains ms r) same_members (member_is_of s g r of) in
      let below : has.0 < length (members_of x) = has.1 in
      let at : number_at x.requests has.0 ≡ r = get_or_default (members_of x) has.0 0 r has.1 ∙ has.2 in
      let there : Contains (map (number_at x.requests) order) (number_at x.requests has.0) =
      contains_map (number_at x.requests) order has.0 (falls.complete has.0 (let c = count in let m = count_members in omega arith)) in
      subst (λ (ns : List ℕ). Contains ns r) (sym numbered) (subst (Contains (map (number_at x.requests) order)) at there)

  -- a lower place has a lower number
  lower : (a b : ℕ) → a < b → b < length x.requests → number_at x.requests a < number_at x.requests b
  lower a b less below = rising a b 0 less (let m = count_members in omega arith)

  -- all in strict order by number where no worth differs
  rises_by_number : ((i : ℕ) → worth (map (trial_worth x.op) x.requests) i ≡ 0) → AllPairs (λ a b. a < b) numbers
  rises_by_number none = subst (AllPairs (λ a b. a < b)) (sym numbered) (AllPairs-map (λ a b. a < b) (number_at x.requests) order (λ i j d less below.
      let a : ℕ = slice_index_or order i d in
      let b : ℕ = slice_index_or order j d in
      let first : worth (map (trial_worth x.op) x.requests) a ≡ 0 = none a in
      let second : worth (map (trial_worth x.op) x.requests) b ≡ 0 = none b in
      let within : b < length (map (trial_worth x.op) x.requests) = falls.places j d below in
      elim (falls.falling i j d less below) [
        | inl more ↦ absurd (omega arith)
        | inr tie ↦ lower a b tie.1 (let c = count in omega arith)
      ]))

  pub by_number : ((i : ℕ) → worth (map (trial_worth x.op) x.requests) i ≡ 0) → numbers ≡ members s g
  by_number none =
      one_order (λ a b. a < b) (λ a h. omega arith) (λ a b h k. omega arith) numbers (members s g) (rises_by_number none) (members_rise s g o)
      (λ r has. member_is_of s g r (All-contains (IsOf s g) numbers r of_group has)) (λ r has. all_of_group r (is_of_member s g r o has))

  value_at : (i : ℕ) → i < length x.requests → request_value s (number_at x.requests i) ≡ worth (map (λ q. q.value) x.requests) i
  value_at i below = by (element x.requests i below)
    where
      element : (xs : List RequestPart) (j : ℕ) → j < length xs → (q : RequestPart) × (slice_index_or xs j q ≡ q)
      element [] j h = absurd (omega arith)
      element (q ∷ qs) zero h = (q, refl)
      element (q ∷ qs) (suc j) h = element qs j (omega arith)

      by : (q : RequestPart) × (slice_index_or x.requests i q ≡ q) → request_value s (number_at x.requests i) ≡ worth (map (λ q. q.value) x.requests) i
      by (q, at) =
          let number : number_at x.requests i ≡ q.request.0 = get_or-map (λ p. p.request.0) x.requests i q 0 below ∙ ap (λ (p : RequestPart). p.request.0) at in
          let value : worth (map (λ p. p.value) x.requests) i ≡ q.value = get_or-map (λ p. p.value) x.requests i q 0 below
          ∙ ap (λ (p : RequestPart). p.value) at in
          ap (request_value s) number ∙ value_here s g x q o l is (i, below, at) ∙ sym value

  pub by_value : ((i : ℕ) → worth (map (trial_worth x.op) x.requests) i ≡ worth (map (λ q. q.value) x.requests) i) → IsMemberOrder s g numbers
  by_value values = record {
    members = of_group;
    complete = all_of_group;
    falling = subst (AllPairs (λ a b. (request_value s b < request_value s a) ⊎ ((request_value s a ≡ request_value s b) × (a < b)))) (sym numbered)
        (AllPairs-map (λ a b. (request_value s b < request_value s a) ⊎ ((request_value s a ≡ request_value s b) × (a < b)))
        (number_at x.requests) order (λ i j d less below.
        let c = count in
        let a : ℕ = slice_index_or order i d in
        let b : ℕ = slice_index_or order j d in
        let in_a : a < length (map (trial_worth x.op) x.requests) = falls.places i d (omega arith) in
        let in_b : b < length (map (trial_worth x.op) x.requests) = falls.places j d below in
        let first : request_value s (number_at x.requests a) ≡ worth (map (trial_worth x.op) x.requests) a = value_at a (omega arith) ∙ sym (values a) in
        let second : request_value s (number_at x.requests b) ≡ worth (map (trial_worth x.op) x.requests) b = value_at b (omega arith) ∙ sym (values b) in
        elim (falls.falling i j d less below) [
          | inl more ↦ inl (omega arith)
          | inr tie ↦ let even = tie.0 in inr (omega arith, lower a b tie.1 (omega arith))
        ]));
  }

-- the worths by kind
none_of_kind : (k : Op) (qs : List RequestPart) (i : ℕ) → k ≢ OneOf → worth (map (trial_worth k) qs) i ≡ 0
none_of_kind Single [] i other = refl
none_of_kind Single (q ∷ qs) zero other = refl
none_of_kind Single (q ∷ qs) (suc i) other = none_of_kind Single qs i other
none_of_kind Many [] i other = refl
none_of_kind Many (q ∷ qs) zero other = refl
none_of_kind Many (q ∷ qs) (suc i) other = none_of_kind Many qs i other
none_of_kind And [] i other = refl
none_of_kind And (q ∷ qs) zero other = refl
none_of_kind And (q ∷ qs) (suc i) other = none_of_kind And qs i other
none_of_kind OneOf qs i other = absurd (other refl)

values_of_kind : (k : Op) (qs : List RequestPart) (i : ℕ) → k ≡ OneOf → worth (map (trial_worth k) qs) i ≡ worth (map (λ q. q.value) qs) i
values_of_kind k qs i e = ap (λ (j : Op). worth (map (trial_worth j) qs) i) e

-- the group at place g as it is tried
pub trial_made : (s : Parts) (g : ℕ) (x : GroupPart) (order : List ℕ) (trial : Trial) → IsOrderly s → g < length s.groups
    → slice_index_or s.groups g x ≡ x → IsKind s x.op g → trial.op ≡ x.op
    → IsFallingOrder (map (trial_worth x.op) x.requests) order → All (IsEntry s) trial.entries.items
    → numbers_of trial.entries.items ≡ map (number_at x.requests) order → IsTrial s g trial
trial_made s g x order trial o l is kind op falls entries numbered = record {
  kind = subst (λ (k : Op). IsKind s k g) (sym op) kind;
  entries = entries;
  by_value = λ e. by_value s g x order (numbers_of trial.entries.items) o l is falls numbered (λ i. values_of_kind x.op x.requests i (sym op ∙ e));
  by_number = λ other. by_number s g x order (numbers_of trial.entries.items) o l is falls numbered (λ i. none_of_kind x.op x.requests i (λ e. other (op ∙ e)));
}

-- one request more
pub numbers_more : (requests : List RequestPart) (order : List ℕ) (entries more : List Entry) (x : Entry) (q : RequestPart) (i : ℕ) → i < length order
    → slice_index_or order i 0 < length requests → q ≡ slice_index_or requests (slice_index_or order i 0) q
    → x.request ≡ q.request → more ≡ entries ++ x ∷ [] → numbers_of entries ≡ map (number_at requests) (take i order)
    → numbers_of more ≡ map (number_at requests) (take (i + 1) order)
numbers_more requests order entries more x q i l within is same pushed numbers =
    let number : x.request.0 ≡ number_at requests (slice_index_or order i 0) = ap (λ r. r.0) same ∙ ap (λ (p : RequestPart). p.request.0) is
    ∙ sym (get_or-map (λ p. p.request.0) requests (slice_index_or order i 0) q 0 within) in
    ap numbers_of pushed ∙ map_push (λ e. e.request.0) entries x ∙ ap (λ (ns : List ℕ). ns ++ x.request.0 ∷ []) numbers
    ∙ ap (λ (n : ℕ). map (number_at requests) (take i order) ++ n ∷ []) number
    ∙ sym (ap (map (number_at requests)) (take_more order i 0 l) ∙ map_push (number_at requests) (take i order) (slice_index_or order i 0))

-- ---- all groups

last_or_before : (j i : ℕ) → j < i + 1 → (j ≡ i) ⊎ (j < i)
last_or_before j i h = grind arith

pub trials_none : (s : Parts) → AreTrialsOf s 0 []
trials_none s = record { count = refl; each = λ g below. absurd (omega arith) }

pub trials_more : (s : Parts) (n : ℕ) (trials : List Trial) (trial : Trial) → AreTrialsOf s n trials → IsTrial s n trial
    → AreTrialsOf s (n + 1) (trials ++ trial ∷ [])
trials_more s n trials trial are is =
    let count : length trials ≡ n = are.count in
    record {
      count = length_push trials trial ∙ ap (λ (m : ℕ). m + 1) count;
      each = λ g below d. elim (last_or_before g n below) [
        | inl last ↦ subst (IsTrial s g) (sym (get_or_push trials trial d g (omega arith))) (subst (λ (m : ℕ). IsTrial s m trial) (sym last) is)
        | inr before ↦ subst (IsTrial s g) (sym (get_or_append_left trials (trial ∷ []) d g (omega arith))) (are.each g before d)
      ];
    }
