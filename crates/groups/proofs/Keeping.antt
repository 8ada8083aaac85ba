-- What a plan that is being built keeps as placements are added and removed.
use Rattle.std.proofs.Common.{◌≡◌, ℕ, ◌+◌, ◌-◌, ◌*◌, ◌<◌, ◌≤◌, ◌↔◌, IsTrue, not, take, drop, ◌==◌, Bool, true, false, cond, ◌⊎◌, inl, inr, List, []}
use Rattle.std.proofs.Common.{◌∷◌, ◌++◌, length, replicate, slice_index_or, Option, None, Some, Contains, find, refl, sym, ◌∙◌, ap, subst, arith}
use Rattle.std.proofs.lemmas.List.{length_push, length-replicate, length-take, length-drop, get_or-replicate, get_or-take, get_or-drop, get_or_default}
use Rattle.std.proofs.lemmas.List.{get_or_past}
use Rattle.std.proofs.lemmas.List.Sums.{AllPass-from_list_all, list_all-from_AllPass}
use Rattle.std.specs.List.{list_all, slice_range}
use Rattle.std.proofs.lemmas.List.Elements.{All-nil}
use Rattle.std.proofs.lemmas.Bool.{eqb-true, eq-eqb}
use Rattle.plan_base.specs.declared.parts.Parts.{Parts}
use Rattle.plan_base.specs.declared.parts.Op.TheVariants.{OneOf}
use Rattle.plan_base.specs.declared.claim.Placement.{Placement}
use Rattle.plan_base.specs.Requests.{listed}
use Rattle.plan_base.specs.Snapshot.{IsOrderly}
use Rattle.plan_base.specs.Starts.{IsPossibleStart}
use Rattle.plan_base.specs.Feasible.{requests_of}
use Rattle.plan_base.specs.FeasibleSoFar.{IsFeasibleSoFar}
use Rattle.plan_base.proofs.Adding.{so_far_push, fits_from_push}
use Rattle.plan_base.proofs.Removing.{so_far_filter}
use Rattle.plan_base.proofs.Lists.{contains_map}
use Rattle.plan_base.proofs.Orders.{contains_cases, contains_first, contains_rest}
use Rattle.groups.specs.declared.footprint.Footprint.{Footprint}
use Rattle.groups.specs.declared.tables.Tables.{Tables}
use Rattle.groups.specs.Footprints.{IsFootprint}
use Rattle.groups.specs.Tables.{flag, AreTables, IsInTables, HasRoom, IsTakenUp, TellsMore}
use Rattle.groups.specs.Building.{without}
use Rattle.groups.specs.Kept.{IsKept}
use Rattle.groups.proofs.Shares.{adds_up_push, adds_up_without}
use Rattle.groups.proofs.Told.{tables_more, tables_less, taken_up}
use Rattle.groups.proofs.Rooms.{fits_from_room, room_from_fits, placed_at_most}

pub can_add_right : (s : Parts) (plan : List Placement) (p : Placement) (capacity : ℕ) (f : Footprint) (t : Tables) (b : Bool) → IsOrderly s
    → IsKept s plan capacity t → IsPossibleStart s p → IsFootprint s p f
    → (IsTrue b ↔ HasRoom s.quotas f t) → (IsTrue b ↔ IsFeasibleSoFar s (plan ++ p ∷ []))
can_add_right s plan p capacity f t b o kept possible is room = (
  λ yes. so_far_push s plan p kept.so_far possible (fits_from_room s plan p f t o kept.so_far possible kept.tables is (room.0 yes)),
  λ after. room.1 (room_from_fits s plan p f t o kept.so_far possible kept.tables is (fits_from_push s plan p after)),
)

-- there is room for one placement more
pub room_left : (s : Parts) (plan : List Placement) (p : Placement) (capacity : ℕ) (t : Tables) → IsKept s plan capacity t
    → IsFeasibleSoFar s (plan ++ p ∷ []) → length plan < capacity
room_left s plan p capacity t kept after =
    let few : length (plan ++ p ∷ []) ≤ length (listed s) = placed_at_most s (plan ++ p ∷ []) after in
    let one : length (plan ++ p ∷ []) ≡ length plan + 1 = length_push plan p in
    let room = kept.room in
    omega arith

pub kept_added : (s : Parts) (plan more : List Placement) (p : Placement) (capacity room : ℕ) (f : Footprint) (t u : Tables)
    → IsKept s plan capacity t → IsFootprint s p f → TellsMore f t u → IsFeasibleSoFar s (plan ++ p ∷ [])
    → more ≡ plan ++ p ∷ [] → room ≡ capacity → IsKept s more room u
kept_added s plan more p capacity room f t u kept is tells after e same =
    subst (λ (ps : List Placement). IsKept s ps room u) (sym e)
    (record {
      so_far = after;
      room = let had = kept.room in
          omega arith;
      tables = tables_more s plan (plan ++ p ∷ []) p f t u kept.tables is tells (adds_up_push plan p);
    })

pub kept_removed : (s : Parts) (plan less : List Placement) (p : Placement) (r capacity room : ℕ) (f : Footprint) (t u : Tables)
    → IsKept s plan capacity u → Contains plan p → p.request.0 ≡ r → IsFootprint s p f → TellsMore f t u
    → less ≡ without r plan → room ≡ capacity → IsKept s less room t
kept_removed s plan less p r capacity room f t u kept has number is tells e same =
    let own : less ≡ without p.request.0 plan = e ∙ ap (λ (n : ℕ). without n plan) (sym number) in
    subst (λ (ps : List Placement). IsKept s ps room t) (sym own)
    (record {
      so_far = so_far_filter s _ plan kept.so_far;
      room = let had = kept.room in omega arith;
      tables = tables_less s (without p.request.0 plan) plan p f t u kept.tables is tells (adds_up_without plan p kept.so_far.once has);
    })

pub taken_in_plan : (s : Parts) (plan : List Placement) (p : Placement) (capacity : ℕ) (f : Footprint) (t : Tables) → IsKept s plan capacity t
    → Contains plan p → IsFootprint s p f → IsTakenUp f t
taken_in_plan s plan p capacity f t kept has is = taken_up s (without p.request.0 plan) plan p f t kept.tables is (adds_up_without plan p kept.so_far.once has)

pub kept_empty : (s : Parts) (plan : List Placement) (capacity : ℕ) (t : Tables) → plan ≡ [] → length (listed s) ≤ capacity → AreTables s [] t
    → IsKept s plan capacity t
kept_empty s plan capacity t e room are =
    subst (λ (ps : List Placement). IsKept s ps capacity t) (sym e)
    (record {
      so_far = record {
        possible = All-nil (IsPossibleStart s);
        once = λ i j d l m. absurd (omega arith);
        disjoint = λ i j d l m. absurd (omega arith);
        oneof_once = λ i j d l m. absurd (omega arith);
        within_quotas = λ q l. omega arith;
      };
      room = room;
      tables = are;
    })

found_step : (b : Bool) (q p : Placement) (rest : Option Placement) → cond b (Some q) rest ≡ Some p → ((b ≡ true) × (q ≡ p)) ⊎ (rest ≡ Some p)
found_step true q p rest e = inl (refl, cc)
found_step false q p rest e = inr e

-- what is found among the placements is the request's
pub found_placement : (r : ℕ) (plan : List Placement) (p : Placement) → find (λ q. q.request.0 == r) plan ≡ Some p → Contains plan p × (p.request.0 ≡ r)
found_placement r [] p e = cc
found_placement r (q ∷ plan) p e = elim (found_step (q.request.0 == r) q p (find (λ x. x.request.0 == r) plan) e) [
  | inl here ↦ (
    subst (λ (x : Placement). Contains (q ∷ plan) x) here.1 (contains_first q plan),
    ap (λ (x : Placement). x.request.0) (sym here.1)
        ∙ eqb-true q.request.0 r here.0,
  )
  | inr later ↦ let rest = found_placement r plan p later in (contains_rest q p plan rest.0, rest.1)
]

none_step : (b : Bool) (q : Placement) (rest : Option Placement) → cond b (Some q) rest ≡ None → (b ≡ false) × (rest ≡ None)
none_step true q rest e = cc
none_step false q rest e = (refl, e)

-- where nothing is found the request isn't placed
pub not_found : (r : ℕ) (plan : List Placement) → find (λ q. q.request.0 == r) plan ≡ None → ¬ (Contains (requests_of plan) r)
not_found r [] e has = omega (arith, has.1)
not_found r (q ∷ plan) e has =
    let none = none_step (q.request.0 == r) q (find (λ x. x.request.0 == r) plan) e in
    elim (contains_cases q.request.0 r (requests_of plan) has) [
      | inl same ↦ let bad : false ≡ true = sym none.0 ∙ eq-eqb q.request.0 r same in cc
      | inr later ↦ not_found r plan none.1 later
    ]

pub found_request : (r : ℕ) (plan : List Placement) (p : Placement) → find (λ q. q.request.0 == r) plan ≡ Some p → Contains (requests_of plan) r
found_request r plan p e = let found = found_placement r plan p e in
    subst (λ (n : ℕ). Contains (requests_of plan) n) found.1 (contains_map (λ q. q.request.0) plan p found.0)

-- tables of nothing
pub tables_empty : (s : Parts) (t : Tables) → t.occupied.items ≡ replicate (length s.telescopes * s.slices) false
    → t.placed.items ≡ replicate (length (listed s)) false
    → t.members.items ≡ replicate (length s.groups) 0 → t.seconds.items ≡ replicate (length s.quotas) 0 → AreTables s [] t
tables_empty s t a b c d = record {
  slots = ap (λ (xs : List Bool). length xs) a ∙ length-replicate _ false;
  places = ap (λ (xs : List Bool). length xs) b ∙ length-replicate _ false;
  groups = ap (λ (xs : List ℕ). length xs) c ∙ length-replicate _ 0;
  quotas = ap (λ (xs : List ℕ). length xs) d ∙ length-replicate _ 0;
  occupied = λ i. ap (λ (xs : List Bool). flag xs i) a ∙ ap (λ (x : Bool). cond x 1 0) (none_set _ i);
  placed = λ i. ap (λ (xs : List Bool). flag xs i) b ∙ ap (λ (x : Bool). cond x 1 0) (none_set _ i);
  members = λ i. ap (λ (xs : List ℕ). slice_index_or xs i 0) c ∙ all_zero _ i;
  seconds = λ i. ap (λ (xs : List ℕ). slice_index_or xs i 0) d ∙ all_zero _ i;
}
  where
    below_or_from : (j k : ℕ) → (j < k) ⊎ (k ≤ j)
    below_or_from j k = grind arith

    none_set : (n i : ℕ) → slice_index_or (replicate n false) i false ≡ false
    none_set n i = elim (below_or_from i n) [
      | inl l ↦ get_or-replicate n i false false l
      | inr l ↦ get_or_past (replicate n false) i false
          (let count : length (replicate n false) ≡ n = length-replicate n false in omega arith)
    ]

    all_zero : (n i : ℕ) → ◌≡◌ {A = ℕ} (slice_index_or (replicate n 0) i 0) 0
    all_zero n i = elim (below_or_from i n) [
      | inl l ↦ get_or-replicate n i 0 0 l
      | inr l ↦ get_or_past {X = ℕ} (replicate n 0) i 0 (let zeros : List ℕ = replicate n 0 in
          let count : length zeros ≡ n = length-replicate n 0 in omega arith)
    ]

-- no flag of a part is set
pub clear_part : (flags : List Bool) (a b : ℕ) → a ≤ b → b ≤ length flags → list_all not (slice_range flags a b) ≡ true → (i : ℕ) → a ≤ i → i < b
    → slice_index_or flags i false ≡ false
clear_part flags a b order l e i m n =
    let dropped : length (drop a flags) ≡ length flags - a = length-drop a flags in
    let taken : length (take (b - a) (drop a flags)) ≡ b - a = length-take (b - a) (drop a flags) ∙ omega arith in
    let passes : not (slice_index_or (take (b - a) (drop a flags)) (i - a) false) ≡ true =
    AllPass-from_list_all not (slice_range flags a b) e (i - a) false (omega arith) in
    let there : a + (i - a) ≡ i = omega arith in
    let is : slice_index_or (take (b - a) (drop a flags)) (i - a) false ≡ slice_index_or flags i false =
    get_or-take (b - a) (drop a flags) (i - a) false (omega arith) ∙ get_or-drop a flags (i - a) false
    ∙ ap (λ (j : ℕ). slice_index_or flags j false) there in
    sym is ∙ not_true _ passes
  where
    not_true : (x : Bool) → not x ≡ true → x ≡ false
    not_true true h = cc
    not_true false h = refl

pub part_clear : (flags : List Bool) (a b : ℕ) → a ≤ b → b ≤ length flags → ((i : ℕ) → a ≤ i → i < b → slice_index_or flags i false ≡ false)
    → list_all not (slice_range flags a b) ≡ true
part_clear flags a b order l clear =
    let dropped : length (drop a flags) ≡ length flags - a = length-drop a flags in
    let taken : length (take (b - a) (drop a flags)) ≡ b - a = length-take (b - a) (drop a flags) ∙ omega arith in
    list_all-from_AllPass not (slice_range flags a b)
    (λ k d h. ap not (get_or-take (b - a) (drop a flags) k d (omega arith) ∙ get_or-drop a flags k d
    ∙ get_or_default flags (a + k) d false (omega arith) ∙ clear (a + k) (omega arith) (omega arith)))

pub room_by_tests : (quotas : List ℕ) (f : Footprint) (t : Tables) (b : Bool) → IsInTables f t → slice_index_or t.placed.items f.place false ≡ false
    → (f.op ≡ OneOf → slice_index_or t.members.items f.group 0 ≡ 0)
    → ((q : ℕ) → f.quota ≡ Some q → slice_index_or t.seconds.items q 0 + f.seconds ≤ slice_index_or quotas q 0)
    → b ≡ list_all not (slice_range t.occupied.items f.from f.to) → (IsTrue b ↔ HasRoom quotas f t)
room_by_tests quotas f t b within placed one_of quota e = (
  λ yes. record { placed = placed; one_of = one_of; quota = quota; slots = clear_part t.occupied.items f.from f.to within.order within.slots (sym e ∙ yes) },
  λ room. e ∙ part_clear t.occupied.items f.from f.to within.order within.slots room.slots,
)
