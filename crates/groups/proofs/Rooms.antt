-- Where there is room in the tables, a placement can be added, and where it can be added there is room.
use Rattle.std.proofs.Common.{◌≡◌, ◌≢◌, ℕ, ◌+◌, ◌-◌, ◌*◌, ◌^◌, ◌<◌, ◌≤◌, ◌⊎◌, inl, inr, Bool, true, false, cond, ◌==◌, List, [], ◌∷◌, ◌++◌, length}
use Rattle.std.proofs.Common.{map, slice_index_or, sum_by, Option, None, Some, All, Contains, refl, sym, ◌∙◌, ap, subst, arith}
use Rattle.std.proofs.lemmas.Nat.{mul-le}
use Rattle.std.proofs.lemmas.Bool.Decides.{eqb_tells}
use Rattle.std.proofs.lemmas.List.{length-map, get_or_default}
use Rattle.std.proofs.lemmas.List.Elements.{All-map}
use Rattle.std.proofs.lemmas.List.Sums.{sum_by-le}
use Rattle.plan_base.specs.declared.parts.Parts.{Parts}
use Rattle.plan_base.specs.declared.parts.Op.{Op}
use Rattle.plan_base.specs.declared.parts.Op.TheVariants.{OneOf}
use Rattle.plan_base.specs.declared.fault.Counted.TheVariants.{Requests}
use Rattle.plan_base.specs.declared.number.TelescopeNo.{TelescopeNo}
use Rattle.plan_base.specs.declared.claim.Placement.{Placement}
use Rattle.plan_base.specs.Requests.{Listed, listed, place_of, IsKnown, group_of, quota_of, seconds_of, IsKind}
use Rattle.plan_base.specs.Snapshot.{IsOrderly}
use Rattle.plan_base.specs.Starts.{IsPossibleStart, ShareSlice, size_of}
use Rattle.plan_base.specs.Feasible.{requests_of, AreOfOneOneOf, is_quota, quota_seconds, quota_at}
use Rattle.plan_base.specs.FeasibleSoFar.{IsFeasibleSoFar}
use Rattle.plan_base.proofs.Known.{IsListedAs, known_as, known_has, quota_known}
use Rattle.plan_base.proofs.Rebates.{one_kind}
use Rattle.plan_base.proofs.Lists.{contains_map, length_among}
use Rattle.plan_base.proofs.Adding.{FitsPlan, fits_from_push, seconds_towards}
use Rattle.groups.specs.declared.footprint.Footprint.{Footprint}
use Rattle.groups.specs.declared.tables.Tables.{Tables}
use Rattle.groups.specs.Footprints.{first_slot, end_slot, IsFootprint}
use Rattle.groups.specs.Tables.{within, same, AreTables, HasRoom, IsLeftOut}
use Rattle.plan_base.proofs.GroupRebates.{all_from_map}
use Rattle.groups.proofs.Shares.{sum_zero, zero_sum}
use Rattle.groups.proofs.Told.{within_inside, within_above, same_self, same_above, flag_zero, flag_false, towards_named, seconds_told}

-- requests at the same place are the same
pub same_place : (s : Parts) (a b : ℕ) → IsKnown s a → IsKnown s b → place_of s a ≡ place_of s b → a ≡ b
same_place s a b known also e =
    let x : (x : Listed) × IsListedAs s a x = known_as s a known in
    let y : (y : Listed) × IsListedAs s b y = known_as s b also in
    let same : x.0 ≡ y.0 = sym x.1.at_place ∙ ap (λ (k : ℕ). slice_index_or (listed s) k x.0) e
    ∙ get_or_default (listed s) (place_of s b) x.0 y.0 also ∙ y.1.at_place in
    sym x.1.number ∙ ap (λ (z : Listed). z.request.request.0) same ∙ y.1.number

-- two possible starts that take the same slot share a slice
same_telescope : (a b : TelescopeNo) → a.0 ≡ b.0 → a ≡ b
same_telescope a b e = ap (λ (n : ℕ). let x : TelescopeNo = record { 0 = n } in x) e

same_row : (t u w j k : ℕ) → j < w → k < w → t * w + j ≡ u * w + k → t ≡ u
same_row t u w j k l m e = elim (below_same_above t u) [
  | inl (inl below) ↦ let more : (t + 1) * w ≤ u * w = mul-le (t + 1) w u w (omega arith) (omega arith) in absurd (omega arith)
  | inl (inr above) ↦ let more : (u + 1) * w ≤ t * w = mul-le (u + 1) w t w (omega arith) (omega arith) in absurd (omega arith)
  | inr same ↦ same
]
  where
    below_same_above : (a b : ℕ) → ((a < b) ⊎ (b < a)) ⊎ (a ≡ b)
    below_same_above a b = grind arith

-- a slot of a start is one of its telescope's
in_row : (s : Parts) (p : Placement) (i : ℕ) → IsPossibleStart s p → first_slot s p ≤ i → i < end_slot s p → (j : ℕ) × (j < s.slices)
    × (i ≡ p.telescope.0 * s.slices + j) × (p.slice.0 ≤ s.first.0 + j) × (s.first.0 + j < p.slice.0 + size_of s p.request.0)
in_row s p i h l m =
    let begins : s.first.0 ≤ p.slice.0 = h.begins in
    let ends : p.slice.0 + size_of s p.request.0 ≤ s.first.0 + s.slices = h.ends in
    (i - p.telescope.0 * s.slices, omega arith, omega arith, omega arith, omega arith)

pub slot_shared : (s : Parts) (a b : Placement) (i : ℕ) → IsPossibleStart s a → IsPossibleStart s b → first_slot s a ≤ i → i < end_slot s a
    → first_slot s b ≤ i → i < end_slot s b → ShareSlice s a b
slot_shared s a b i h k l m n o =
    let x = in_row s a i h l m in
    let y = in_row s b i k n o in
    let at : a.telescope.0 * s.slices + x.0 ≡ b.telescope.0 * s.slices + y.0 = sym x.2 ∙ y.2 in
    let row : a.telescope.0 ≡ b.telescope.0 = same_row a.telescope.0 b.telescope.0 s.slices x.0 y.0 x.1 y.1 at in
    let rows : a.telescope.0 * s.slices ≡ b.telescope.0 * s.slices = ap (λ (t : ℕ). t * s.slices) row in
    let column : x.0 ≡ y.0 = omega arith in
    let first = x.3 in
    let second = x.4 in
    let third = y.3 in
    let fourth = y.4 in
    (same_telescope a.telescope b.telescope row, s.first.0 + x.0, (omega arith, omega arith), (omega arith, omega arith))

-- and two that share a slice take the same slot
pub shared_slot : (s : Parts) (a b : Placement) → IsPossibleStart s a → IsPossibleStart s b → ShareSlice s a b → (i : ℕ) × (first_slot s a ≤ i)
    × (i < end_slot s a) × (first_slot s b ≤ i) × (i < end_slot s b)
shared_slot s a b h k (e, x, (l, m), (n, o)) =
    let begins : s.first.0 ≤ a.slice.0 = h.begins in
    let also : s.first.0 ≤ b.slice.0 = k.begins in
    let rows : a.telescope.0 * s.slices ≡ b.telescope.0 * s.slices = ap (λ (t : TelescopeNo). t.0 * s.slices) e in
    (a.telescope.0 * s.slices + (x - s.first.0), omega arith, omega arith, omega arith, omega arith)

pub fits_from_room : (s : Parts) (plan : List Placement) (p : Placement) (f : Footprint) (t : Tables) → IsOrderly s → IsFeasibleSoFar s plan
    → IsPossibleStart s p → AreTables s plan t → IsFootprint s p f
    → HasRoom s.quotas f t → FitsPlan s plan p
fits_from_room s plan p f t o so_far possible are is room = record {
  unplaced =
      let none : sum_by (λ q. same (place_of s q.request.0) f.place) plan ≡ 0 = sym (are.placed f.place) ∙ flag_false _ room.placed in
      All-map (λ r. r ≢ p.request.0) (λ q. q.request.0) plan
      (λ i d l e.
      let zero : same (place_of s (slice_index_or plan i d).request.0) f.place ≡ 0 = sum_zero (λ q. same (place_of s q.request.0) f.place) plan none i d l in
      let one : same (place_of s (slice_index_or plan i d).request.0) f.place ≡ 1 = same_self _ _ (ap (place_of s) e ∙ sym is.place) in
      omega arith);
  apart = λ i d l shared.
      let both = shared_slot s (slice_index_or plan i d) p (so_far.possible i d l) possible shared in
      let clear : slice_index_or t.occupied.items both.0 false ≡ false =
      room.slots both.0 (subst (λ (n : ℕ). n ≤ both.0) (sym is.from) both.3) (subst (λ (n : ℕ). both.0 < n) (sym is.to) both.4) in
      let none : sum_by (λ q. within (first_slot s q) (end_slot s q) both.0) plan ≡ 0 = sym (are.occupied both.0) ∙ flag_false _ clear in
      let zero : within (first_slot s (slice_index_or plan i d)) (end_slot s (slice_index_or plan i d)) both.0 ≡ 0 =
      sum_zero (λ q. within (first_slot s q) (end_slot s q) both.0) plan none i d l in
      let one : within (first_slot s (slice_index_or plan i d)) (end_slot s (slice_index_or plan i d)) both.0 ≡ 1 = within_inside _ _ both.0 both.1 both.2 in
      omega arith;
  oneof_free = All-map (λ r. ¬ (AreOfOneOneOf s r p.request.0)) (λ q. q.request.0) plan
      (λ i d l (g, kind, of, mine).
      let group : f.group ≡ g = is.group ∙ mine.1 in
      let op : f.op ≡ OneOf = one_kind s g f.op OneOf (subst (λ (h : ℕ). IsKind s f.op h) group is.kind) kind in
      let none : sum_by (λ q. same (group_of s q.request.0) f.group) plan ≡ 0 = sym (are.members f.group) ∙ room.one_of op in
      let zero : same (group_of s (slice_index_or plan i d).request.0) f.group ≡ 0 = sum_zero (λ q. same (group_of s q.request.0) f.group) plan none i d l in
      let one : same (group_of s (slice_index_or plan i d).request.0) f.group ≡ 1 = same_self _ _ (of.1 ∙ sym group) in
      omega arith);
  quota_free = λ q l. by_name q l (quota_of s p.request.0) refl;
}
  where
    by_test : (q : ℕ) (named : ℕ) (e : quota_of s p.request.0 ≡ Some named) → quota_seconds s q (requests_of plan) ≤ quota_at s q
        → quota_seconds s q (requests_of plan) + cond (named == q) (seconds_of s p.request.0) 0 ≤ quota_at s q
    by_test q named e within = elim (eqb_tells named q) [
      | inl same ↦
          let fits : slice_index_or t.seconds.items q 0 + f.seconds ≤ slice_index_or s.quotas q 0 =
          room.quota q (is.quota ∙ e ∙ ap (λ (n : ℕ). let x : Option ℕ = Some n in x) same.1) in
          let told : slice_index_or t.seconds.items q 0 ≡ quota_seconds s q (requests_of plan) = seconds_told s q plan t are in
          let seconds : f.seconds ≡ seconds_of s p.request.0 = is.seconds in
          let share : cond (named == q) (seconds_of s p.request.0) 0 ≡ seconds_of s p.request.0 =
          ap (λ (b : Bool). cond b (seconds_of s p.request.0) 0) same.0 in
          omega arith
      | inr other ↦ let share : cond (named == q) (seconds_of s p.request.0) 0 ≡ 0 = ap (λ (b : Bool). cond b (seconds_of s p.request.0) 0) other.0 in
          omega arith
    ]

    by_name : (q : ℕ) → q < length s.quotas → (quota : Option ℕ) → quota_of s p.request.0 ≡ quota
        → quota_seconds s q (requests_of plan) + seconds_towards s q p.request.0 ≤ quota_at s q
    by_name q l None e =
        let within : quota_seconds s q (requests_of plan) ≤ quota_at s q = so_far.within_quotas q l in
        let share : seconds_towards s q p.request.0 ≡ 0 = ap (λ (x : Option ℕ). cond (is_quota q x) (seconds_of s p.request.0) 0) e in
        omega arith
    by_name q l (Some named) e =
        let within : quota_seconds s q (requests_of plan) ≤ quota_at s q = so_far.within_quotas q l in
        let share : seconds_towards s q p.request.0 ≡ cond (named == q) (seconds_of s p.request.0) 0 =
        ap (λ (x : Option ℕ). cond (is_quota q x) (seconds_of s p.request.0) 0) e in
        let fits = by_test q named e within in
        omega arith

none_or_above : (n : ℕ) → (n ≡ 0) ⊎ (0 < n)
none_or_above n = grind arith

pub room_from_fits : (s : Parts) (plan : List Placement) (p : Placement) (f : Footprint) (t : Tables) → IsOrderly s → IsFeasibleSoFar s plan
    → IsPossibleStart s p → AreTables s plan t → IsFootprint s p f
    → FitsPlan s plan p → HasRoom s.quotas f t
room_from_fits s plan p f t o so_far possible are is fits = record {
  placed =
      let none : sum_by (λ q. same (place_of s q.request.0) f.place) plan ≡ 0 = zero_sum (λ q. same (place_of s q.request.0) f.place) plan
      (λ i d l. elim (none_or_above (same (place_of s (slice_index_or plan i d).request.0) f.place)) [
        | inl zero ↦ zero
        | inr above ↦
            let place : place_of s (slice_index_or plan i d).request.0 ≡ place_of s p.request.0 = same_above _ _ above ∙ is.place in
            let differs : (slice_index_or plan i d).request.0 ≢ p.request.0 = all_from_map (λ r. r ≢ p.request.0) (λ q. q.request.0) plan fits.unplaced i d l in
            absurd (differs (same_place s _ _ (so_far.possible i d l).known possible.known place))
      ])
      in
      flag_zero _ (are.placed f.place ∙ none);
  one_of = λ op. are.members f.group ∙ zero_sum (λ q. same (group_of s q.request.0) f.group) plan
      (λ i d l. elim (none_or_above (same (group_of s (slice_index_or plan i d).request.0) f.group)) [
        | inl zero ↦ zero
        | inr above ↦
            let group : group_of s (slice_index_or plan i d).request.0 ≡ f.group = same_above _ _ above in
            let free : ¬ (AreOfOneOneOf s (slice_index_or plan i d).request.0 p.request.0) =
            all_from_map (λ r. ¬ (AreOfOneOneOf s r p.request.0)) (λ q. q.request.0) plan fits.oneof_free i d l in
            absurd (free (f.group, subst (λ (k : Op). IsKind s k f.group) op is.kind, ((so_far.possible i d l).known, group), (possible.known, sym is.group)))
      ]);
  quota = λ q e.
      let named : quota_of s p.request.0 ≡ Some q = sym is.quota ∙ e in
      let free : quota_seconds s q (requests_of plan) + seconds_towards s q p.request.0 ≤ quota_at s q =
      fits.quota_free q (quota_known s p.request.0 o possible.known q named) in
      let told : slice_index_or t.seconds.items q 0 ≡ quota_seconds s q (requests_of plan) = seconds_told s q plan t are in
      let seconds : f.seconds ≡ seconds_of s p.request.0 = is.seconds in
      let share : seconds_towards s q p.request.0 ≡ seconds_of s p.request.0 = towards_named (quota_of s p.request.0) (seconds_of s p.request.0) q named in
      omega arith;
  slots = λ i l m.
      let none : sum_by (λ q. within (first_slot s q) (end_slot s q) i) plan ≡ 0 = zero_sum (λ q. within (first_slot s q) (end_slot s q) i) plan
      (λ j d k. elim (none_or_above (within (first_slot s (slice_index_or plan j d)) (end_slot s (slice_index_or plan j d)) i)) [
        | inl zero ↦ zero
        | inr above ↦
            let inside = within_above _ _ i above in
            absurd (fits.apart j d k (slot_shared s (slice_index_or plan j d) p i (so_far.possible j d k) possible inside.0 inside.1
            (subst (λ (n : ℕ). n ≤ i) is.from l) (subst (λ (n : ℕ). i < n) is.to m)))
      ])
      in
      flag_zero _ (are.occupied i ∙ none);
}

requests_at_most : (s : Parts) → IsOrderly s → length (listed s) ≤ 1024
requests_at_most s o = o.within Requests 0 0 (omega arith)

number_listed : (s : Parts) (r : ℕ) → IsKnown s r → Contains (map (λ x. x.request.request.0) (listed s)) r
number_listed s r k =
    let x : (x : Listed) × IsListedAs s r x = known_as s r k in
    subst (λ (n : ℕ). Contains (map (λ x. x.request.request.0) (listed s)) n) x.1.number (contains_map (λ x. x.request.request.0) (listed s) x.0 x.1.in_list)

-- a plan that is feasible but for its ANDs has no more placements than there are requests
pub placed_at_most : (s : Parts) (plan : List Placement) → IsFeasibleSoFar s plan → length plan ≤ length (listed s)
placed_at_most s plan so_far =
    let known : All (λ r. IsKnown s r) (requests_of plan) = All-map (λ r. IsKnown s r) (λ p. p.request.0) plan (λ i d l. (so_far.possible i d l).known) in
    let among : length (requests_of plan) ≤ length (map (λ x. x.request.request.0) (listed s)) =
    length_among (requests_of plan) _ so_far.once (λ i d l. number_listed s _ (known i d l)) in
    let placed : length (requests_of plan) ≡ length plan = length-map plan (λ p. p.request.0) in
    let all : length (map (λ x. x.request.request.0) (listed s)) ≡ length (listed s) = length-map (listed s) (λ x. x.request.request.0) in
    omega arith

quota_below : (s : Parts) (q : ℕ) → IsOrderly s → q < length s.quotas → quota_at s q ≤ 100000000
quota_below s q o l = o.quota_ranges q 0 l

-- the seconds that the tables tell of a quota, with a request's, fit 64 bits
pub seconds_small : (s : Parts) (plan : List Placement) (p : Placement) (f : Footprint) (t : Tables) → IsOrderly s → IsFeasibleSoFar s plan
    → IsPossibleStart s p → AreTables s plan t → IsFootprint s p f
    → (q : ℕ) → f.quota ≡ Some q → slice_index_or t.seconds.items q 0 + f.seconds < 2 ^ 64
seconds_small s plan p f t o so_far possible are is q e =
    let known : q < length s.quotas = quota_known s p.request.0 o possible.known q (sym is.quota ∙ e) in
    let told : slice_index_or t.seconds.items q 0 ≡ quota_seconds s q (requests_of plan) = seconds_told s q plan t are in
    let within : quota_seconds s q (requests_of plan) ≤ quota_at s q = so_far.within_quotas q known in
    let most : quota_at s q ≤ 100000000 = quota_below s q o known in
    let long : seconds_of s p.request.0 ≤ 86400 =
    known_has (λ n. n ≤ 86400) (λ x. x.request.seconds) 0 s p.request.0 (λ i d l. (o.ranges.seconds i d l).1) possible.known in
    let seconds : f.seconds ≡ seconds_of s p.request.0 = is.seconds in
    omega arith

same_at_most : (a b : ℕ) → same a b ≤ 1
same_at_most a b = elim (a == b) as (λ t. cond t 1 0 ≤ 1) [ true ↦ omega arith | false ↦ omega arith ]

pub left_out : (s : Parts) (plan : List Placement) (p : Placement) (f : Footprint) (t : Tables) → IsOrderly s → IsFeasibleSoFar s plan
    → IsPossibleStart s p → AreTables s plan t → IsFootprint s p f
    → IsFeasibleSoFar s (plan ++ p ∷ []) → IsLeftOut f t
left_out s plan p f t o so_far possible are is after =
    let room : HasRoom s.quotas f t = room_from_fits s plan p f t o so_far possible are is (fits_from_push s plan p after) in
    record {
      placed = room.placed;
      group =
          let told : slice_index_or t.members.items f.group 0 ≡ sum_by (λ q. same (group_of s q.request.0) f.group) plan = are.members f.group in
          let sum : sum_by (λ q. same (group_of s q.request.0) f.group) plan ≤ length plan * 1 =
          sum_by-le (λ q. same (group_of s q.request.0) f.group) 1 plan (λ i d l. same_at_most _ f.group) in
          let few : length plan ≤ length (listed s) = placed_at_most s plan so_far in
          let most : length (listed s) ≤ 1024 = requests_at_most s o in
          omega arith;
      quota = seconds_small s plan p f t o so_far possible are is;
      slots = room.slots;
    }
