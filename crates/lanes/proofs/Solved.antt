-- What is known of lanes while one telescope after another is solved.
use Rattle.std.proofs.Common.{◌≡◌, ℕ, ◌+◌, ◌*◌, ◌<◌, ◌≤◌, ◌⊎◌, inl, inr, ℤ, pos, List, [], ◌∷◌, ◌++◌, length, slice_index_or, slice_set, All, refl}
use Rattle.std.proofs.Common.{sym, ◌∙◌, ap, subst, arith}
use Rattle.std.specs.List.{flat_map}
use Rattle.std.proofs.lemmas.List.{length-set, length-map, length-append, map-set, get_or-set_same, get_or-set_other, get_or_append_left, get_or_push}
use Rattle.std.proofs.lemmas.List.{length_push, flat_map_more}
use Rattle.std.proofs.lemmas.List.Elements.{All-set}
use Rattle.std.proofs.lemmas.Nat.{mul-le}
use Rattle.plan_base.specs.declared.parts.Parts.{Parts}
use Rattle.plan_base.specs.declared.claim.Placement.{Placement}
use Rattle.plan_base.specs.Bound.{IsBest}
use Rattle.plan_base.specs.Canonical.{IsCanonicalUse}
use Rattle.interval_solver.specs.Lanes.{number_in, lane}
use Rattle.interval_solver.specs.Uses.{Started}
use Rattle.interval_solver.specs.Solving.{HasRoom, AreUsesMore, AreLanesSolved}
use Rattle.lanes.specs.Rounds.{IsSolved}
use Rattle.lanes.specs.Ready.{IsAsLong, IsRoomy, IsEmpty}

below_or_at : (k i : ℕ) → k < i + 1 → (k < i) ⊎ (k ≡ i)
below_or_at k i h = grind arith

-- the first n telescopes were solved at prices: what they start is in the uses, and these are their bests
pub record IsSolvedTo (s : Parts) (prices : List ℤ) (n : ℕ) (u : Started) (bests : List ℤ) : Type 0 where
  pub lists : List (List Placement)
  pub count : length lists ≡ n
  pub each : (t : ℕ) → t < n → IsCanonicalUse s prices t (slice_index_or lists t [])
  pub joined : u.starts ≡ flat_map (λ list. list) lists
  pub few : length u.starts ≤ n * s.slices
  pub best : (t : ℕ) → t < n → IsBest s prices t s.first.0 (slice_index_or bests t (pos 0))

solved_none : (s : Parts) (prices : List ℤ) (u : Started) (bests : List ℤ) → u.starts ≡ [] → IsSolvedTo s prices 0 u bests
solved_none s prices u bests none = record {
  lists = [];
  count = refl;
  each = λ t l. absurd (omega arith);
  joined = none;
  few = let size : length u.starts ≡ 0 = ap length none in omega arith;
  best = λ t l. absurd (omega arith);
}

-- one telescope more
solved_more : (s : Parts) (prices : List ℤ) (n : ℕ) (u v : Started) (bests : List ℤ) (b : ℤ) → n < length bests → AreUsesMore s prices n u v
    → IsBest s prices n s.first.0 b → IsSolvedTo s prices n u bests
    → IsSolvedTo s prices (n + 1) v (slice_set bests n b)
solved_more s prices n u v bests b within more best h = record {
  lists = h.lists ++ more.starts ∷ [];
  count = length_push h.lists more.starts ∙ ap (λ (k : ℕ). k + 1) h.count;
  each = λ t l. elim (below_or_at t n l) [
    | inl below ↦ subst (IsCanonicalUse s prices t) (sym (get_or_append_left h.lists (more.starts ∷ []) [] t (omega (arith, h.count)))) (h.each t below)
    | inr same ↦
        let read : slice_index_or (h.lists ++ more.starts ∷ []) t [] ≡ more.starts = get_or_push h.lists more.starts [] t (h.count ∙ sym same) in
        subst (IsCanonicalUse s prices t) (sym read) (subst (λ (k : ℕ). IsCanonicalUse s prices k more.starts) (sym same) more.canonical)
  ];
  joined = more.added ∙ ap (λ (xs : List Placement). xs ++ more.starts) h.joined ∙ flat_map_more (λ list. list) [] h.lists more.starts;
  few =
      let size : length v.starts ≡ length u.starts + length more.starts = ap length more.added ∙ length-append u.starts more.starts in
      let before : length u.starts ≤ n * s.slices = h.few in
      let here : length more.starts ≤ s.slices = more.few in
      let times : (n + 1) * s.slices ≡ n * s.slices + s.slices = grind arith in
      omega arith;
  best = λ t l. elim (below_or_at t n l) [
    | inl below ↦ subst (IsBest s prices t s.first.0) (sym (get_or-set_other bests n t b (pos 0) (λ e. omega arith))) (h.best t below)
    | inr same ↦
        let read : slice_index_or (slice_set bests n b) t (pos 0) ≡ b = ap (λ (k : ℕ). slice_index_or (slice_set bests n b) k (pos 0)) same
        ∙ get_or-set_same bests n b (pos 0) within in
        subst (IsBest s prices t s.first.0) (sym read) (subst (λ (k : ℕ). IsBest s prices k s.first.0 b) (sym same) best)
  ];
}

-- all telescopes
solved_all : (s : Parts) (prices : List ℤ) (n : ℕ) (u : Started) (bests : List ℤ) → n ≡ length s.telescopes → length bests ≡ length s.telescopes
    → IsSolvedTo s prices n u bests → IsSolved s prices u.starts bests
solved_all s prices n u bests all count h = record {
  canonical = record { lists = h.lists; count = h.count ∙ all; each = λ t l. h.each t (omega arith); joined = h.joined };
  best = record { count = count; each = λ t l. h.best t (omega arith) };
}

-- the first n telescopes were solved at the prices of each of m lanes
pub record AreSolvedTo (s : Parts) (m n : ℕ) (prices : List (List ℤ)) (uses : List Started) (bests : List (List ℤ)) : Type 0 where
  pub bests_count : length bests ≡ length s.telescopes
  pub bests_lanes : All (IsAsLong m) bests
  pub uses_count : length uses ≡ m
  pub roomy : All (IsRoomy s) uses
  pub solved : (l : ℕ) (u : Started) → l < m → IsSolvedTo s (lane l prices) n (slice_index_or uses l u) (lane l bests)

pub lanes_none : (s : Parts) (m : ℕ) (prices : List (List ℤ)) (uses : List Started) (bests : List (List ℤ)) → length bests ≡ length s.telescopes
    → All (IsAsLong m) bests → length uses ≡ m → All (IsEmpty s) uses
    → AreSolvedTo s m 0 prices uses bests
lanes_none s m prices uses bests bests_count long count empty = record {
  bests_count = bests_count;
  bests_lanes = long;
  uses_count = count;
  roomy = λ i d l. (empty i d l).roomy;
  solved = λ l u below. solved_none s (lane l prices) (slice_index_or uses l u) (lane l bests) (empty l u (omega (arith, count))).none;
}

-- there is room for what one telescope more starts
pub lanes_room : (s : Parts) (m n : ℕ) (prices : List (List ℤ)) (uses : List Started) (bests : List (List ℤ)) → n < length s.telescopes
    → AreSolvedTo s m n prices uses bests → All (HasRoom s) uses
lanes_room s m n prices uses bests below h i d l =
    let u : Started = slice_index_or uses i d in
    let room : length s.telescopes * s.slices ≤ u.room = (h.roomy i d l).room in
    let few : length u.starts ≤ n * s.slices = (h.solved i d (omega (arith, h.uses_count))).few in
    let times : (n + 1) * s.slices ≡ n * s.slices + s.slices = grind arith in
    let most : (n + 1) * s.slices ≤ length s.telescopes * s.slices = mul-le (n + 1) s.slices (length s.telescopes) s.slices (omega arith) (omega arith) in
    record { snapshot = (h.roomy i d l).snapshot; room = omega arith }

pub lanes_more : (s : Parts) (m n : ℕ) (prices : List (List ℤ)) (uses new : List Started) (bests : List (List ℤ)) (b : List ℤ) → n < length s.telescopes
    → length b ≡ m → AreLanesSolved s n m prices uses new b
    → AreSolvedTo s m n prices uses bests → AreSolvedTo s m (n + 1) prices new (slice_set bests n b)
lanes_more s m n prices uses new bests b below long is_solved h = record {
  bests_count = length-set bests n b ∙ h.bests_count;
  bests_lanes = All-set (IsAsLong m) bests n b long h.bests_lanes;
  uses_count = is_solved.uses.count ∙ h.uses_count;
  roomy = λ i d l.
      let within : i < m = omega (arith, is_solved.uses.count, h.uses_count) in
      let more : AreUsesMore s (lane i prices) n (slice_index_or uses i d) (slice_index_or new i d) = is_solved.uses.each i d within in
      let before : length s.telescopes * s.slices ≤ (slice_index_or uses i d).room = (h.roomy i d (omega (arith, h.uses_count))).room in
      record { snapshot = more.snapshot; room = omega (arith, more.room, before) };
  solved = λ l u within.
      subst (IsSolvedTo s (lane l prices) (n + 1) (slice_index_or new l u)) (sym (map-set (number_in l) bests n b))
      (solved_more s (lane l prices) n (slice_index_or uses l u) (slice_index_or new l u) (lane l bests) (number_in l b)
      (omega (arith, length-map bests (number_in l), h.bests_count)) (is_solved.uses.each l u within)
      (is_solved.best l within) (h.solved l u within));
}

pub lanes_all : (s : Parts) (m n : ℕ) (prices : List (List ℤ)) (uses : List Started) (bests : List (List ℤ)) → n ≡ length s.telescopes
    → AreSolvedTo s m n prices uses bests
    → (l : ℕ) (u : Started) → l < m → IsSolved s (lane l prices) (slice_index_or uses l u).starts (lane l bests)
lanes_all s m n prices uses bests all h l u within =
    solved_all s (lane l prices) n (slice_index_or uses l u) (lane l bests) all (length-map bests (number_in l) ∙ h.bests_count) (h.solved l u within)
