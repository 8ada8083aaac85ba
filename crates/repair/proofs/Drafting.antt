-- What a plan that is being built keeps, as placements come and go.
use Rattle.std.proofs.Common.{◌≡◌, ◌≢◌, ℕ, ◌+◌, ◌-◌, ◌*◌, ◌^◌, ◌<◌, ◌≤◌, inl, inr, min, Bool, true, cond, not, ◌&&◌, ◌==◌, nat_le, nat_lt, List, []}
use Rattle.std.proofs.Common.{◌∷◌, ◌++◌, length, map, take, filter, slice_index_or, All, AllPairs, refl, sym, ◌∙◌, ap, subst, arith}
use Rattle.std.specs.Prelude.{HoldsAt}
use Rattle.std.proofs.lemmas.Nat.{mul-le}
use Rattle.std.proofs.lemmas.Bool.Decides.{eqb_tells}
use Rattle.std.proofs.lemmas.List.{length-map, take_more, take_all, append-nil}
use Rattle.std.proofs.lemmas.List.Elements.{All-map, filter-append}
use Rattle.plan_base.specs.declared.parts.Parts.{Parts}
use Rattle.plan_base.specs.declared.fault.Counted.TheVariants.{Telescopes, Requests}
use Rattle.plan_base.specs.declared.claim.Placement.{Placement}
use Rattle.plan_base.specs.Requests.{listed, place_of, IsKnown}
use Rattle.plan_base.specs.Snapshot.{IsOrderly}
use Rattle.plan_base.specs.Starts.{IsPossibleStart, size_of}
use Rattle.plan_base.specs.Feasible.{requests_of}
use Rattle.plan_base.specs.FeasibleSoFar.{IsFeasibleSoFar}
use Rattle.plan_base.proofs.Adding.{requests_push, pairs_before_last}
use Rattle.plan_base.proofs.Known.{telescope_known}
use Rattle.plan_base.proofs.Lists.{AllPairs-map, length_below}
use Rattle.plan_base.proofs.Sizes.{start_size_above}
use Rattle.groups.specs.Building.{Building, without}
use Rattle.groups.specs.Footprints.{first_slot, end_slot}
use Rattle.groups.proofs.Rooms.{same_place}
use Rattle.groups.proofs.Shares.{not_placed}
use Rattle.groups.proofs.Told.{slots_below}
use Rattle.snapshot_starts.specs.declared.run.Run.{Run}
use Rattle.snapshot_starts.specs.Runs.{start_at}
use Rattle.repair.specs.Marks.{IsClear, IsFirstClear, AreMarks}
use Rattle.repair.specs.Apart.{HasSlice, IsPossibleRun, HasNoApart, IsFirstApart}
use Rattle.repair.specs.Drafts.{IsDraft}
use Rattle.repair.proofs.Marked.{marks_more, marks_less, apart_when_clear, clear_when_apart}

-- a plan that is feasible so far has a placement a request, or fewer
pub few_placed : (s : Parts) (plan : List Placement) → IsOrderly s → IsFeasibleSoFar s plan → length plan ≤ 1024
few_placed s plan orderly so_far =
    let known : All (λ r. IsKnown s r) (requests_of plan) = All-map (λ r. IsKnown s r) (λ p. p.request.0) plan (λ i d l. (so_far.possible i d l).known) in
    let places : List ℕ = map (place_of s) (requests_of plan) in
    let once : AllPairs (λ a b. a ≢ b) places =
    AllPairs-map (λ a b. a ≢ b) (place_of s) (requests_of plan)
    (λ i j d l m e. so_far.once i j d l m (same_place s _ _ (known i d (omega arith)) (known j d m) e)) in
    let count : length places ≤ length (listed s) =
    length_below places (length (listed s)) once (All-map (λ n. n < length (listed s)) (place_of s) (requests_of plan) known) in
    let same : length places ≡ length (requests_of plan) = length-map (requests_of plan) (place_of s) in
    let also : length (requests_of plan) ≡ length plan = length-map plan (λ p. p.request.0) in
    let most : length (listed s) ≤ 1024 = orderly.within Requests 0 0 (omega arith) in
    omega arith

-- the slots of a start lie within those of all telescopes
pub slots_within : (s : Parts) (p : Placement) → IsOrderly s → IsPossibleStart s p → end_slot s p ≤ length s.telescopes * s.slices
slots_within s p orderly possible = slots_below p.telescope.0 (length s.telescopes) s.slices p.slice.0 s.first.0 (size_of s p.request.0)
    (telescope_known s p orderly possible) possible.begins possible.ends

-- and their numbers fit 16 bits
pub slots_few : (s : Parts) → IsOrderly s → length s.telescopes * s.slices < 2 ^ 16
slots_few s orderly =
    let telescopes : length s.telescopes ≤ 32 = orderly.within Telescopes 0 0 (omega arith) in
    let slices : s.slices ≤ 1440 = orderly.ranges.slices_most in
    let most : length s.telescopes * s.slices ≤ 32 * 1440 = mul-le (length s.telescopes) s.slices 32 1440 telescopes slices in
    omega arith

written_as : (before after : List ℕ) (from to mark a b m : ℕ) → from ≡ a → to ≡ b → mark ≡ m
    → ((i : ℕ) → slice_index_or after i 0 ≡ cond (nat_le from i && nat_lt i to) mark (slice_index_or before i 0))
    → (i : ℕ) → slice_index_or after i 0 ≡ cond (nat_le a i && nat_lt i b) m (slice_index_or before i 0)
written_as before after from to mark a b m e f g each i =
    each i ∙ ap (λ (n : ℕ). cond (nat_le n i && nat_lt i to) mark (slice_index_or before i 0)) e
    ∙ ap (λ (n : ℕ). cond (nat_le a i && nat_lt i n) mark (slice_index_or before i 0)) f
    ∙ ap (λ (n : ℕ). cond (nat_le a i && nat_lt i b) n (slice_index_or before i 0)) g

pub draft_added : (s : Parts) (build next : Building) (before after : List ℕ) (p : Placement) (from to : ℕ) → IsOrderly s → IsPossibleStart s p
    → IsDraft s build before → next ≡ record { snapshot = build.snapshot; placed = build.placed ++ p ∷ [] }
    → from ≡ first_slot s p → to ≡ end_slot s p → length after ≡ length before
    → ((i : ℕ) → slice_index_or after i 0 ≡ cond (nat_le from i && nat_lt i to) to (slice_index_or before i 0)) → IsDraft s next after
draft_added s build next before after p from to orderly possible draft is begins ends same each = record {
  snapshot = ap (λ (b : Building). b.snapshot) is ∙ draft.snapshot;
  marks = subst (λ (plan : List Placement). AreMarks s plan after) (sym (ap (λ (b : Building). b.placed) is))
      (marks_more s build.placed p before after orderly possible draft.marks same
      (written_as before after from to to (first_slot s p) (end_slot s p) (end_slot s p) begins ends ends each));
}

-- a plan with something in it is what stands before the last, and the last
pub last_split : (plan : List Placement) (x : Placement) → 0 < length plan → HoldsAt (λ p. p ≡ x) plan (length plan - 1)
    → plan ≡ take (length plan - 1) plan ++ x ∷ []
last_split plan x some is =
    let n : ℕ = length plan - 1 in
    let whole : take (n + 1) plan ≡ plan = take_all (n + 1) plan (omega arith) in
    sym whole ∙ take_more plan n x (omega arith) ∙ ap (λ (p : Placement). take n plan ++ p ∷ []) (is x)

self_test : (n : ℕ) → (n == n) ≡ true
self_test n = elim (eqb_tells n n) [ inl same ↦ same.0 | inr other ↦ absurd (other.1 refl) ]

-- without the last placement's request, what stands before it is left
pub without_last : (s : Parts) (front : List Placement) (x : Placement) → IsFeasibleSoFar s (front ++ x ∷ []) → without x.request.0 (front ++ x ∷ []) ≡ front
without_last s front x so_far =
    let test : Placement → Bool = λ p. not (p.request.0 == x.request.0) in
    let others : All (λ r. r ≢ x.request.0) (requests_of front) =
    pairs_before_last (λ a b. a ≢ b) (requests_of front) x.request.0 (subst (AllPairs (λ a b. a ≢ b)) (requests_push front x) so_far.once) in
    let kept : without x.request.0 front ≡ front = not_placed x.request.0 front (λ has. others has.0 x.request.0 has.1 has.2) in
    filter-append test front (x ∷ []) ∙ ap (λ (xs : List Placement). xs ++ filter test (x ∷ [])) kept
    ∙ ap (λ (b : Bool). front ++ cond (not b) (x ∷ []) []) (self_test x.request.0) ∙ append-nil front

pub draft_removed : (s : Parts) (build next : Building) (before after : List ℕ) (x : Placement) (from to : ℕ) → IsFeasibleSoFar s build.placed
    → 0 < length build.placed → HoldsAt (λ p. p ≡ x) build.placed (length build.placed - 1)
    → IsDraft s build before → next ≡ record { snapshot = build.snapshot; placed = without x.request.0 build.placed } → from ≡ first_slot s x
    → to ≡ end_slot s x → length after ≡ length before
    → ((i : ℕ) → slice_index_or after i 0 ≡ cond (nat_le from i && nat_lt i to) 0 (slice_index_or before i 0)) → IsDraft s next after
draft_removed s build next before after x from to so_far some last draft is begins ends same each =
    let front : List Placement = take (length build.placed - 1) build.placed in
    let split : build.placed ≡ front ++ x ∷ [] = last_split build.placed x some last in
    let whole : IsFeasibleSoFar s (front ++ x ∷ []) = subst (IsFeasibleSoFar s) split so_far in
    let placed : next.placed ≡ front = ap (λ (b : Building). b.placed) is ∙ ap (without x.request.0) split ∙ without_last s front x whole in
    record {
      snapshot = ap (λ (b : Building). b.snapshot) is ∙ draft.snapshot;
      marks = subst (λ (plan : List Placement). AreMarks s plan after) (sym placed)
          (marks_less s front x before after whole (subst (λ (plan : List Placement). AreMarks s plan before) split draft.marks) same
          (written_as before after from to 0 (first_slot s x) (end_slot s x) 0 begins ends refl each));
    }

-- what is left when the last placement is taken out
pub removed_is : (s : Parts) (build next : Building) (x : Placement) → IsFeasibleSoFar s build.placed → 0 < length build.placed
    → HoldsAt (λ p. p ≡ x) build.placed (length build.placed - 1)
    → next ≡ record { snapshot = build.snapshot; placed = without x.request.0 build.placed }
    → next ≡ record { snapshot = build.snapshot; placed = take (length build.placed - 1) build.placed }
removed_is s build next x so_far some last is =
    let front : List Placement = take (length build.placed - 1) build.placed in
    let split : build.placed ≡ front ++ x ∷ [] = last_split build.placed x some last in
    let left : without x.request.0 build.placed ≡ front = ap (without x.request.0) split ∙ without_last s front x (subst (IsFeasibleSoFar s) split so_far) in
    is ∙ ap (λ (plan : List Placement). let b : Building = record { snapshot = build.snapshot; placed = plan } in b) left

-- ---- starts of a run

-- where the starts of a run lie
pub record IsWithin (s : Parts) (run : Run) : Type 0 where
  pub telescope : run.telescope.0 < length s.telescopes
  pub begins : s.first.0 ≤ run.first.0
  pub ends : run.first.0 + run.count + size_of s run.request.0 ≤ s.first.0 + s.slices + 1
  pub size : 0 < size_of s run.request.0
  pub fits : s.first.0 + s.slices < 4294967295
  pub rows : run.telescope.0 * s.slices + s.slices ≤ length s.telescopes * s.slices

pub run_within : (s : Parts) (run : Run) → IsOrderly s → IsPossibleRun s run → IsWithin s run
run_within s run orderly possible =
    let some : 0 < run.count = possible.some in
    let first : IsPossibleStart s (start_at run run.first.0) = possible.possible run.first.0 (omega arith, omega arith) in
    let last : IsPossibleStart s (start_at run (run.first.0 + run.count - 1)) = possible.possible (run.first.0 + run.count - 1) (omega arith, omega arith) in
    let ends : run.first.0 + run.count - 1 + size_of s run.request.0 ≤ s.first.0 + s.slices = last.ends in
    let least : s.first.0 ≤ 4223371680 = orderly.ranges.first in
    let slices : s.slices ≤ 1440 = orderly.ranges.slices_most in
    let telescope : run.telescope.0 < length s.telescopes = telescope_known s (start_at run run.first.0) orderly first in
    let rows : (run.telescope.0 + 1) * s.slices ≤ length s.telescopes * s.slices =
    mul-le (run.telescope.0 + 1) s.slices (length s.telescopes) s.slices (omega arith) (omega arith) in
    record {
      telescope = telescope;
      begins = first.begins;
      ends = omega arith;
      size = start_size_above s orderly (start_at run run.first.0) first;
      fits = omega arith;
      rows = omega arith;
    }

-- where no slot of a run is clear before a slice, none of its starts is apart
pub none_before : (s : Parts) (plan : List Placement) (marks : List ℕ) (run : Run) (size before to row f : ℕ) → IsFeasibleSoFar s plan
    → AreMarks s plan marks → IsWithin s run → IsPossibleRun s run → size ≡ size_of s run.request.0
    → row ≡ run.telescope.0 * s.slices → f ≡ s.first.0 → to ≡ min (run.first.0 + run.count) before
    → ((j : ℕ) → row + (run.first.0 - f) ≤ j → j < row + (to - f) → ¬ (IsClear marks j (j + size))) → HasNoApart s plan run before
none_before s plan marks run size before to row f so_far are within possible is rows first ends none k has below apart =
    let clear = clear_when_apart s plan marks (start_at run k) so_far are (possible.possible k has) apart in
    let from : run.first.0 ≤ k = has.0 in
    let under : k < run.first.0 + run.count = has.1 in
    let begins : s.first.0 ≤ run.first.0 = within.begins in
    none (first_slot s (start_at run k)) (omega arith) (omega arith)
    (subst (λ (n : ℕ). IsClear marks (first_slot s (start_at run k)) (first_slot s (start_at run k) + n)) (sym is) clear)

-- the first clear slot is that of the first start that is apart
pub first_before : (s : Parts) (plan : List Placement) (marks : List ℕ) (run : Run) (size before to row f slot : ℕ) → IsFeasibleSoFar s plan
    → AreMarks s plan marks → IsWithin s run → IsPossibleRun s run → size ≡ size_of s run.request.0
    → row ≡ run.telescope.0 * s.slices → f ≡ s.first.0 → to ≡ min (run.first.0 + run.count) before
    → IsFirstClear marks (row + (run.first.0 - f)) (row + (to - f)) size slot → IsFirstApart s plan run before (f + (slot - row))
first_before s plan marks run size before to row f slot so_far are within possible is rows first ends found =
    let k : ℕ = f + (slot - row) in
    let begins : s.first.0 ≤ run.first.0 = within.begins in
    let from : row + (run.first.0 - f) ≤ slot = found.from in
    let under : slot < row + (to - f) = found.to in
    let has : HasSlice run k = (omega arith, omega arith) in
    let at : slot ≡ first_slot s (start_at run k) = omega arith in
    record {
      has = has;
      below = omega arith;
      apart = apart_when_clear s plan marks (start_at run k) so_far are (possible.possible k has)
          (subst (λ (n : ℕ). IsClear marks n (n + size_of s run.request.0)) at (subst (λ (n : ℕ). IsClear marks slot (slot + n)) is found.clear));
      first = λ j slice less apart.
          let clear = clear_when_apart s plan marks (start_at run j) so_far are (possible.possible j slice) apart in
          let low : run.first.0 ≤ j = slice.0 in
          found.first (first_slot s (start_at run j)) (omega arith) (omega arith)
          (subst (λ (n : ℕ). IsClear marks (first_slot s (start_at run j)) (first_slot s (start_at run j) + n)) (sym is) clear);
    }
