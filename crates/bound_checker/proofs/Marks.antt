-- The requests that the first placements of a plan place, as marks at their places.
use Rattle.std.proofs.Common.{◌≡◌, ◌≢◌, ℕ, ◌+◌, ◌<◌, ◌≤◌, ◌⊎◌, inl, inr, Bool, true, false, List, [], length, replicate, slice_get, slice_index_or}
use Rattle.std.proofs.Common.{slice_set, Some, AllPairs, sym, ◌∙◌, ap, subst, refl, arith, get_or-set_other, get_or-set_same}
use Rattle.std.proofs.lemmas.Option.{slice_get-get_or, get_or_from_slice_get}
use Rattle.std.proofs.lemmas.List.{get_or_default, get_or_past, length-set, length-replicate, get_or-replicate}
use Rattle.std.proofs.lemmas.Bool.Decides.{eqb_tells}
use Rattle.plan_base.specs.declared.parts.Parts.{Parts}
use Rattle.plan_base.specs.declared.number.RequestNo.{RequestNo}
use Rattle.plan_base.specs.declared.claim.Placement.{Placement}
use Rattle.plan_base.specs.Requests.{Listed, listed, place_of, IsKnown}
use Rattle.plan_base.specs.Feasible.{requests_of, IsEachOnce}
use Rattle.plan_base.specs.Verdict.{IsFirst, HasEarlier}
use Rattle.plan_base.proofs.Known.{known_as, IsListedAs}
use Rattle.plan_base.proofs.Lists.{AllPairs-map}
use Rattle.bound_checker.specs.Claims.{IsEachKnown}

-- the placement at i
abbrev pub placed_at : List Placement → ℕ → Placement
placed_at plan i = slice_index_or plan i (record { request = record { 0 = 0 }; telescope = record { 0 = 0 }; slice = record { 0 = 0 } })

-- the place of its request
abbrev pub mark_of : Parts → List Placement → ℕ → ℕ
mark_of s plan i = place_of s (placed_at plan i).request.0

-- the marks tell where the requests of the first n placements stand, of which no two have the same
pub record AreMarks (s : Parts) (plan : List Placement) (n : ℕ) (marks : List Bool) : Type 0 where
  pub count : length marks ≡ length (listed s)
  pub set : (i : ℕ) → i < n → slice_index_or marks (mark_of s plan i) false ≡ true
  pub only : (k : ℕ) → slice_index_or marks k false ≡ true → (i : ℕ) × (i < n) × (mark_of s plan i ≡ k)
  pub once : (i j : ℕ) → i < j → j < n → (placed_at plan i).request.0 ≢ (placed_at plan j).request.0

-- known requests at one place are the same
pub one_at_place : (s : Parts) (a b : ℕ) → IsKnown s a → IsKnown s b → place_of s a ≡ place_of s b → a ≡ b
one_at_place s a b ka kb e =
    let x = known_as s a ka in
    let y = known_as s b kb in
    let left : x.0.request.request.0 ≡ a = x.1.number in
    let right : y.0.request.request.0 ≡ b = y.1.number in
    let same : x.0 ≡ y.0 = sym x.1.at_place ∙ ap (λ (k : ℕ). slice_index_or (listed s) k x.0) e
    ∙ get_or_default (listed s) (place_of s b) x.0 y.0 kb ∙ y.1.at_place in
    sym left ∙ ap (λ (z : Listed). z.request.request.0) same ∙ right

-- a flag that was set is still set
still_set : (marks : List Bool) (k i : ℕ) → k < length marks → slice_index_or marks i false ≡ true → slice_index_or (slice_set marks k true) i false ≡ true
still_set marks k i l e = elim (eqb_tells i k) [
  | inl same ↦ subst (λ (j : ℕ). slice_index_or (slice_set marks k true) j false ≡ true) (sym same.1) (get_or-set_same marks k true false l)
  | inr other ↦ get_or-set_other marks k i true false other.1 ∙ e
]

below_or_from : (k n : ℕ) → (k < n) ⊎ (n ≤ k)
below_or_from k n = grind arith

pub none_set : (n k : ℕ) → slice_index_or (replicate n false) k false ≡ false
none_set n k = elim (below_or_from k n) [
  | inl l ↦ get_or-replicate n k false false l
  | inr past ↦ get_or_past (replicate n false) k false (omega (arith, length-replicate n false))
]

pub marks_none : (s : Parts) (plan : List Placement) (marks : List Bool) → marks ≡ replicate (length (listed s)) false → AreMarks s plan 0 marks
marks_none s plan marks e = record {
  count = ap (λ (xs : List Bool). length xs) e ∙ length-replicate (length (listed s)) false;
  set = λ i l. absurd (omega arith);
  only = λ k h. absurd (let bad : false ≡ true = sym (none_set (length (listed s)) k) ∙ ap (λ (xs : List Bool). slice_index_or xs k false) (sym e) ∙ h in cc);
  once = λ i j l m. absurd (omega arith);
}

below_or_last : (i n : ℕ) → i < n + 1 → (i < n) ⊎ (i ≡ n)
below_or_last i n l = grind arith

pub marks_more : (s : Parts) (plan : List Placement) (n : ℕ) (marks : List Bool) → IsEachKnown s plan → n < length plan → AreMarks s plan n marks
    → slice_index_or marks (mark_of s plan n) false ≡ false
    → AreMarks s plan (n + 1) (slice_set marks (mark_of s plan n) true)
marks_more s plan n marks known l are clear =
    let k : ℕ = mark_of s plan n in
    let within : k < length marks = let place : k < length (listed s) = known n _ l in let count = are.count in omega arith in
    record {
      count = length-set marks k true ∙ are.count;
      set = λ i less. elim (below_or_last i n less) [
        | inl before ↦ still_set marks k _ within (are.set i before)
        | inr here ↦ subst (λ (j : ℕ). slice_index_or (slice_set marks k true) (mark_of s plan j) false ≡ true) (sym here)
            (get_or-set_same marks k true false within)
      ];
      only = λ j h. elim (eqb_tells j k) [
        | inl same ↦ (n, omega arith, sym same.1)
        | inr other ↦ let old = are.only j (sym (get_or-set_other marks k j true false other.1) ∙ h) in (old.0, omega (arith, old.1), old.2)
      ];
      once = λ i j less m. elim (below_or_last j n m) [
        | inl before ↦ are.once i j less before
        | inr here ↦ λ same.
            let twin : mark_of s plan i ≡ k = ap (place_of s) same ∙ ap (mark_of s plan) here in
            let bad : true ≡ false = sym (are.set i (omega arith)) ∙ ap (λ (x : ℕ). slice_index_or marks x false) twin ∙ clear in
            cc
      ];
    }

-- a placement whose place is marked is the first whose request stands earlier
pub first_marked : (s : Parts) (plan : List Placement) (n : ℕ) (marks : List Bool) → IsEachKnown s plan → n < length plan → AreMarks s plan n marks
    → slice_index_or marks (mark_of s plan n) false ≡ true
    → IsFirst (HasEarlier (λ p q. p.request ≡ q.request) plan) n
first_marked s plan n marks known l are marked =
    let old = are.only (mark_of s plan n) marked in
    let same : (placed_at plan old.0).request.0 ≡ (placed_at plan n).request.0 =
    one_at_place s _ _ (known old.0 _ (omega (arith, old.1))) (known n _ l) old.2 in (
      (
        old.0,
        placed_at plan old.0,
        placed_at plan n,
        old.1,
        slice_get-get_or plan old.0 _ (omega (arith, old.1)),
        slice_get-get_or plan n _ l,
        ap (λ (x : ℕ). record { 0 = x }) same,
      ),
      λ j less (i, p, q, before, read_p, read_q, twin). are.once i j before less
          (ap (λ (x : Placement). x.request.0) (get_or_from_slice_get plan i p _ read_p) ∙ ap (λ (r : RequestNo). r.0) twin
          ∙ ap (λ (x : Placement). x.request.0) (sym (get_or_from_slice_get plan j q _ read_q))),
    )

-- where all are marked, each request stands once
pub once_marked : (s : Parts) (plan : List Placement) (n : ℕ) (marks : List Bool) → length plan ≤ n → AreMarks s plan n marks → IsEachOnce plan
once_marked s plan n marks all are =
    AllPairs-map (λ a b. a ≢ b) (λ p. p.request.0) plan
    (λ i j d l m same. are.once i j l (omega arith) (ap (λ (x : Placement). x.request.0) (get_or_default plan i _ d (omega arith)) ∙ same
    ∙ ap (λ (x : Placement). x.request.0) (get_or_default plan j d _ m)))
