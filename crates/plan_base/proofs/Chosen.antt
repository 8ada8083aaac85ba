-- The canonical starts of all telescopes are possible, and no two of them share a slice.
use Rattle.std.proofs.Common.{◌≡◌, ℕ, suc, ◌+◌, ◌<◌, ◌≤◌, ℤ, List, [], ◌∷◌, length, slice_index_or, All, sym, ◌∙◌, ap, subst, arith}
use Rattle.std.specs.List.{flat_map}
use Rattle.std.proofs.lemmas.List.Elements.{All-nil, All-cons, All-append, All-contains}
use Rattle.plan_base.proofs.Pairs.{pairs_append}
use Rattle.std.proofs.lemmas.List.Kept.{AllPairs-cons}
use Rattle.plan_base.specs.declared.parts.Parts.{Parts}
use Rattle.plan_base.specs.declared.claim.Placement.{Placement}
use Rattle.plan_base.specs.Starts.{IsPossibleStart, ShareSlice, size_of}
use Rattle.plan_base.specs.Feasible.{IsDisjoint}
use Rattle.plan_base.specs.Bound.{IsStartList}
use Rattle.plan_base.specs.Canonical.{IsCanonicalFrom, IsCanonicalStarts}

-- no slice is occupied by both
abbrev AreApart : Parts → Placement → Placement → Type 0
AreApart s a b = ¬ (ShareSlice s a b)

-- what a telescope starts from slice k on is one of the lists over which its best is taken
chosen_from : (s : Parts) (prices : List ℤ) (t k : ℕ) (starts : List Placement) → IsCanonicalFrom s prices t k starts → IsStartList s t k starts
chosen_from s prices t k [] h = record {
  possible = All-nil (IsPossibleStart s);
  same_telescope = All-nil (λ p. p.telescope.0 ≡ t);
  later = All-nil (λ p. k ≤ p.slice.0);
  disjoint = λ i j d l m. absurd (omega arith);
}
chosen_from s prices t k (p ∷ ps) (from, idle, here, rest) =
    let after : ℕ = p.slice.0 + size_of s p.request.0 in
    let later : IsStartList s t after ps = chosen_from s prices t after ps rest in
    record {
      possible = All-cons (IsPossibleStart s) p ps here.possible later.possible;
      same_telescope = All-cons (λ q. q.telescope.0 ≡ t) p ps here.same_telescope later.same_telescope;
      later = All-cons (λ q. k ≤ q.slice.0) p ps from (λ i d l. let least : after ≤ (slice_index_or ps i d).slice.0 = later.later i d l in omega arith);
      disjoint = AllPairs-cons (AreApart s) p ps (λ i d l shared.
          let least : after ≤ (slice_index_or ps i d).slice.0 = later.later i d l in
          let first : shared.1 < after = shared.2.1 in
          let second : (slice_index_or ps i d).slice.0 ≤ shared.1 = shared.3.0 in
          omega arith)
          later.disjoint;
    }

-- the lists of telescopes from n on, one after another
record AreJoined (s : Parts) (n : ℕ) (starts : List Placement) : Type 0 where
  possible : All (IsPossibleStart s) starts
  from : All (λ p. n ≤ p.telescope.0) starts
  disjoint : IsDisjoint s starts

later_telescope : (s : Parts) (n : ℕ) (p q : Placement) → p.telescope.0 ≡ n → suc n ≤ q.telescope.0 → AreApart s p q
later_telescope s n p q on from shared = let same : p.telescope.0 ≡ q.telescope.0 = ap (λ x. x.0) shared.0 in omega arith

joined_from : (s : Parts) (n : ℕ) (lists : List (List Placement)) → ((t : ℕ) → t < length lists → IsStartList s (n + t) s.first.0 (slice_index_or lists t []))
    → AreJoined s n (flat_map (λ list. list) lists)
joined_from s n [] h = record { possible = All-nil (IsPossibleStart s); from = All-nil (λ p. n ≤ p.telescope.0); disjoint = λ i j d l m. absurd (omega arith) }
joined_from s n (xs ∷ lists) h =
    let here : IsStartList s (n + 0) s.first.0 xs = h 0 (omega arith) in
    let rest : AreJoined s (suc n) (flat_map (λ list. list) lists) = joined_from s (suc n) lists (λ t l.
    let next : n + suc t ≡ suc n + t = omega arith in
    subst (λ (k : ℕ). IsStartList s k s.first.0 (slice_index_or lists t [])) next (h (suc t) (omega arith))) in
    let on : All (λ p. p.telescope.0 ≡ n) xs = λ i d l. here.same_telescope i d l ∙ omega arith in
    record {
      possible = All-append (IsPossibleStart s) xs (flat_map (λ list. list) lists) here.possible rest.possible;
      from = All-append (λ p. n ≤ p.telescope.0) xs (flat_map (λ list. list) lists) (λ i d l. let same = on i d l in
          omega (arith, same)) (λ i d l. let more = rest.from i d l in omega (arith, more));
      disjoint = pairs_append (AreApart s) xs (flat_map (λ list. list) lists) here.disjoint rest.disjoint (λ p q a b.
          later_telescope s n p q (All-contains (λ x. x.telescope.0 ≡ n) xs p on a)
          (All-contains (λ x. suc n ≤ x.telescope.0) (flat_map (λ list. list) lists) q rest.from b));
    }

joined : (s : Parts) (prices : List ℤ) (starts : List Placement) → IsCanonicalStarts s prices starts → AreJoined s 0 starts
joined s prices starts h =
    subst (AreJoined s 0) (sym h.joined)
    (joined_from s 0 h.lists (λ t l.
    let same : t ≡ 0 + t = omega arith in
    subst (λ (k : ℕ). IsStartList s k s.first.0 (slice_index_or h.lists t [])) same
    (chosen_from s prices t s.first.0 (slice_index_or h.lists t []) (h.each t (omega (arith, h.count))))))

pub starts_possible : (s : Parts) (prices : List ℤ) (starts : List Placement) → IsCanonicalStarts s prices starts → All (IsPossibleStart s) starts
starts_possible s prices starts h = (joined s prices starts h).possible

pub starts_disjoint : (s : Parts) (prices : List ℤ) (starts : List Placement) → IsCanonicalStarts s prices starts → IsDisjoint s starts
starts_disjoint s prices starts h = (joined s prices starts h).disjoint
