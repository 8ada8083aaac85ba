-- Tables that tell of a plan, with a placement more or less.
use Rattle.std.proofs.Common.{◌≡◌, ℕ, ◌+◌, ◌-◌, ◌*◌, ◌<◌, ◌≤◌, inl, inr, Bool, true, false, cond, List, [], ◌∷◌, length, slice_index_or, filter}
use Rattle.std.proofs.Common.{sum_by, Option, Some, refl, sym, ◌∙◌, ap, arith}
use Rattle.std.proofs.lemmas.Bool.{eq-eqb}
use Rattle.std.proofs.lemmas.Bool.Decides.{nat_tests, eqb_tells}
use Rattle.std.proofs.lemmas.Nat.{mul-le}
use Rattle.std.proofs.lemmas.List.Sums.{sum_by-cons}
use Rattle.plan_base.specs.declared.parts.Parts.{Parts}
use Rattle.plan_base.specs.declared.claim.Placement.{Placement}
use Rattle.plan_base.specs.Requests.{place_of, IsKnown, group_of, quota_of, seconds_of}
use Rattle.plan_base.specs.Snapshot.{IsOrderly}
use Rattle.plan_base.specs.Starts.{IsPossibleStart, size_of}
use Rattle.plan_base.specs.Feasible.{requests_of, is_quota, quota_seconds}
use Rattle.plan_base.proofs.Known.{group_known, quota_known, telescope_known}
use Rattle.groups.specs.declared.footprint.Footprint.{Footprint}
use Rattle.groups.specs.declared.tables.Tables.{Tables}
use Rattle.groups.specs.Footprints.{first_slot, end_slot, IsFootprint}
use Rattle.groups.specs.Tables.{flag, within, same, towards, AreTables, IsInTables, IsTakenUp, TellsMore}
use Rattle.groups.proofs.Shares.{AddsUp}

-- what the footprint takes up is what the placement does
within_is : (s : Parts) (p : Placement) (f : Footprint) (i : ℕ) → IsFootprint s p f → within f.from f.to i ≡ within (first_slot s p) (end_slot s p) i
within_is s p f i is = ap (λ (a : ℕ). within a f.to i) is.from ∙ ap (λ (b : ℕ). within (first_slot s p) b i) is.to

towards_is : (s : Parts) (p : Placement) (f : Footprint) (q : ℕ) → IsFootprint s p f
    → towards f.quota f.seconds q ≡ towards (quota_of s p.request.0) (seconds_of s p.request.0) q
towards_is s p f q is = ap (λ (o : Option ℕ). towards o f.seconds q) is.quota ∙ ap (λ (n : ℕ). towards (quota_of s p.request.0) n q) is.seconds

joined : (new old part here sum more : ℕ) → new ≡ old + part → old ≡ sum → part ≡ here → more ≡ sum + here → new ≡ more
joined new old part here sum more a b c d = omega arith

parted : (new old part here sum more : ℕ) → new ≡ old + part → new ≡ more → part ≡ here → more ≡ sum + here → old ≡ sum
parted new old part here sum more a b c d = omega arith

pub tables_more : (s : Parts) (less more : List Placement) (p : Placement) (f : Footprint) (t u : Tables) → AreTables s less t → IsFootprint s p f
    → TellsMore f t u → AddsUp less p more → AreTables s more u
tables_more s less more p f t u are is tells adds = record {
  slots = tells.slots ∙ are.slots;
  places = tells.places ∙ are.places;
  groups = tells.groups ∙ are.groups;
  quotas = tells.quotas ∙ are.quotas;
  occupied = λ i. joined _ _ _ _ _ _ (tells.occupied i) (are.occupied i) (within_is s p f i is) (adds (λ q. within (first_slot s q) (end_slot s q) i));
  placed = λ i. joined _ _ _ _ _ _ (tells.placed i) (are.placed i) (ap (λ (n : ℕ). same n i) is.place) (adds (λ q. same (place_of s q.request.0) i));
  members = λ g. joined _ _ _ _ _ _ (tells.members g) (are.members g) (ap (λ (n : ℕ). same n g) is.group) (adds (λ q. same (group_of s q.request.0) g));
  seconds = λ n. joined _ _ _ _ _ _ (tells.seconds n) (are.seconds n) (towards_is s p f n is)
      (adds (λ q. towards (quota_of s q.request.0) (seconds_of s q.request.0) n));
}

pub tables_less : (s : Parts) (less more : List Placement) (p : Placement) (f : Footprint) (t u : Tables) → AreTables s more u → IsFootprint s p f
    → TellsMore f t u → AddsUp less p more → AreTables s less t
tables_less s less more p f t u are is tells adds = record {
  slots = sym tells.slots ∙ are.slots;
  places = sym tells.places ∙ are.places;
  groups = sym tells.groups ∙ are.groups;
  quotas = sym tells.quotas ∙ are.quotas;
  occupied = λ i. parted _ _ _ _ _ _ (tells.occupied i) (are.occupied i) (within_is s p f i is) (adds (λ q. within (first_slot s q) (end_slot s q) i));
  placed = λ i. parted _ _ _ _ _ _ (tells.placed i) (are.placed i) (ap (λ (n : ℕ). same n i) is.place) (adds (λ q. same (place_of s q.request.0) i));
  members = λ g. parted _ _ _ _ _ _ (tells.members g) (are.members g) (ap (λ (n : ℕ). same n g) is.group) (adds (λ q. same (group_of s q.request.0) g));
  seconds = λ n. parted _ _ _ _ _ _ (tells.seconds n) (are.seconds n) (towards_is s p f n is)
      (adds (λ q. towards (quota_of s q.request.0) (seconds_of s q.request.0) n));
}

abbrev number : Bool → ℕ
number t = cond t 1 0

-- what is within, the same, or named
pub within_inside : (a b i : ℕ) → a ≤ i → i < b → within a b i ≡ 1
within_inside a b i l m = grind (arith, nat_tests)

pub within_above : (a b i : ℕ) → 0 < within a b i → (a ≤ i) × (i < b)
within_above a b i l = (grind (arith, nat_tests), grind (arith, nat_tests))

pub same_self : (a b : ℕ) → a ≡ b → same a b ≡ 1
same_self a b e = ap number (eq-eqb a b e)

pub same_above : (a b : ℕ) → 0 < same a b → a ≡ b
same_above a b l = elim (eqb_tells a b) [ inl e ↦ e.1 | inr n ↦ let none : same a b ≡ 0 = ap number n.0 in absurd (omega arith) ]

pub towards_named : (quota : Option ℕ) (seconds q : ℕ) → quota ≡ Some q → towards quota seconds q ≡ seconds
towards_named quota seconds q e = ap (λ (o : Option ℕ). towards o seconds q) e ∙ ap (λ (t : Bool). cond t seconds 0) (eq-eqb q q refl)

pub flag_above : (b : Bool) → 0 < cond b 1 0 → b ≡ true
flag_above true l = refl
flag_above false l = absurd (omega arith)

pub flag_zero : (b : Bool) → ◌≡◌ {A = ℕ} (cond b 1 0) 0 → b ≡ false
flag_zero true e = absurd (omega arith)
flag_zero false e = refl

pub flag_false : (b : Bool) → b ≡ false → ◌≡◌ {A = ℕ} (cond b 1 0) 0
flag_false b e = let number : Bool → ℕ = λ t. cond t 1 0 in ap number e

-- a placement of the plan is taken up in its tables
pub taken_up : (s : Parts) (less more : List Placement) (p : Placement) (f : Footprint) (t : Tables) → AreTables s more t → IsFootprint s p f
    → AddsUp less p more → IsTakenUp f t
taken_up s less more p f t are is adds = record {
  placed =
      let told : flag t.placed.items f.place ≡ _ = are.placed f.place in
      let sum : sum_by (λ q. same (place_of s q.request.0) f.place) more ≡ sum_by (λ q. same (place_of s q.request.0) f.place) less
      + same (place_of s p.request.0) f.place = adds (λ q. same (place_of s q.request.0) f.place) in
      let one : same (place_of s p.request.0) f.place ≡ 1 = same_self _ _ (sym is.place) in
      flag_above _ (omega arith);
  group =
      let told = are.members f.group in
      let sum : sum_by (λ q. same (group_of s q.request.0) f.group) more ≡ sum_by (λ q. same (group_of s q.request.0) f.group) less
      + same (group_of s p.request.0) f.group = adds (λ q. same (group_of s q.request.0) f.group) in
      let one : same (group_of s p.request.0) f.group ≡ 1 = same_self _ _ (sym is.group) in
      omega arith;
  quota = λ n e.
      let told = are.seconds n in
      let sum : sum_by (λ q. towards (quota_of s q.request.0) (seconds_of s q.request.0) n) more
      ≡ sum_by (λ q. towards (quota_of s q.request.0) (seconds_of s q.request.0) n) less + towards (quota_of s p.request.0)
      (seconds_of s p.request.0) n
      = adds (λ q. towards (quota_of s q.request.0) (seconds_of s q.request.0) n)
      in
      let mine : towards (quota_of s p.request.0) (seconds_of s p.request.0) n ≡ seconds_of s p.request.0 = towards_named _ _ n (sym is.quota ∙ e) in
      let seconds : f.seconds ≡ seconds_of s p.request.0 = is.seconds in
      omega arith;
  slots = λ i l m.
      let told : flag t.occupied.items i ≡ _ = are.occupied i in
      let sum : sum_by (λ q. within (first_slot s q) (end_slot s q) i) more ≡ sum_by (λ q. within (first_slot s q) (end_slot s q) i) less
      + within (first_slot s p) (end_slot s p) i = adds (λ q. within (first_slot s q) (end_slot s q) i) in
      let one : within (first_slot s p) (end_slot s p) i ≡ 1 = sym (within_is s p f i is) ∙ within_inside f.from f.to i l m in
      flag_above _ (omega arith);
}

-- the slots of a possible start are below all
pub slots_below : (t n slices k first size : ℕ) → t < n → first ≤ k → k + size ≤ first + slices → t * slices + (k - first) + size ≤ n * slices
slots_below t n slices k first size l m e =
    let row : t * slices + slices ≤ n * slices = rows t n slices l in
    omega arith
  where
    rows : (t n w : ℕ) → t < n → t * w + w ≤ n * w
    rows t n w l = let more : (t + 1) * w ≤ n * w = mul-le (t + 1) w n w (omega arith) (omega arith) in omega arith

pub in_tables : (s : Parts) (plan : List Placement) (p : Placement) (f : Footprint) (t : Tables) → IsOrderly s → IsPossibleStart s p
    → AreTables s plan t → IsFootprint s p f → IsInTables f t
in_tables s plan p f t o possible are is = record {
  place = let known : IsKnown s p.request.0 = possible.known in let count = are.places in let place = is.place in omega arith;
  group = let known : group_of s p.request.0 < length s.groups = group_known s p.request.0 possible.known in let count = are.groups in
      let group = is.group in omega arith;
  quota = λ q e. let known : q < length s.quotas = quota_known s p.request.0 o possible.known q (sym is.quota ∙ e) in let count = are.quotas in omega arith;
  order = let from = is.from in let to = is.to in omega arith;
  slots =
      let below : end_slot s p ≤ length s.telescopes * s.slices = slots_below p.telescope.0 (length s.telescopes) s.slices p.slice.0 s.first.0
      (size_of s p.request.0) (telescope_known s p o possible) possible.begins possible.ends in
      let count = are.slots in
      let to = is.to in
      omega arith;
}

-- the seconds that the tables tell of a quota are those of the plan
quota_told : (s : Parts) (q : ℕ) (plan : List Placement)
    → quota_seconds s q (requests_of plan) ≡ sum_by (λ p. towards (quota_of s p.request.0) (seconds_of s p.request.0) q) plan
quota_told s q [] = refl
quota_told s q (p ∷ plan) =
    let more : sum_by (λ p. towards (quota_of s p.request.0) (seconds_of s p.request.0) q) (p ∷ plan) ≡ towards (quota_of s p.request.0)
    (seconds_of s p.request.0) q + sum_by (λ p. towards (quota_of s p.request.0) (seconds_of s p.request.0) q) plan
    = sum_by-cons (λ p. towards (quota_of s p.request.0) (seconds_of s p.request.0) q) p plan
    in
    by_test (is_quota q (quota_of s p.request.0)) (filter (λ r. is_quota q (quota_of s r)) (requests_of plan)) (seconds_of s p.request.0) p.request.0 refl
    ∙ ap (λ (n : ℕ). cond (is_quota q (quota_of s p.request.0)) (seconds_of s p.request.0) 0 + n) (quota_told s q plan) ∙ sym more
  where
    by_test : (b : Bool) (rs : List ℕ) (n r : ℕ) → n ≡ seconds_of s r → sum_by (seconds_of s) (cond b (r ∷ rs) rs) ≡ cond b n 0 + sum_by (seconds_of s) rs
    by_test true rs n r e = sum_by-cons (seconds_of s) r rs ∙ ap (λ (m : ℕ). m + sum_by (seconds_of s) rs) (sym e)
    by_test false rs n r e = omega arith

pub seconds_told : (s : Parts) (q : ℕ) (plan : List Placement) (t : Tables) → AreTables s plan t
    → slice_index_or t.seconds.items q 0 ≡ quota_seconds s q (requests_of plan)
seconds_told s q plan t are = are.seconds q ∙ sym (quota_told s q plan)
