-- The uses of a telescope, as starts are taken out and added.
use Rattle.std.proofs.Common.{◌≡◌, ℕ, ◌+◌, ◌<◌, ◌==◌, inl, inr, cond, List, [], ◌∷◌, ◌++◌, length, map, slice_index_or, slice_set, All, refl, sym, ◌∙◌}
use Rattle.std.proofs.Common.{ap, length-set, arith}
use Rattle.std.specs.Prelude.{HoldsAt}
use Rattle.std.proofs.lemmas.List.{map-append, get_or_default, get_or-map, length-map, ext_get_or}
use Rattle.std.proofs.lemmas.List.Sums.{sum_by-cons}
use Rattle.std.proofs.lemmas.List.Elements.{All-nil, All-head, All-tail, All-push}
use Rattle.plan_base.specs.declared.parts.Parts.{Parts}
use Rattle.plan_base.specs.declared.claim.Placement.{Placement}
use Rattle.plan_base.specs.Requests.{Listed, listed, place_of, IsKnown}
use Rattle.plan_base.specs.Snapshot.{IsOrderly}
use Rattle.plan_base.specs.Round.{uses_of}
use Rattle.plan_base.proofs.Members.{listed_known}
use Rattle.interval_solver.specs.Uses.{count_of, IsTally, AreUsesOf}
use Rattle.plan_base.proofs.Here.{element_at, place_at}
use Rattle.interval_solver.proofs.Listed.{same_number}
use Rattle.interval_solver.proofs.Tallying.{same_or_not, one_where_same, none_where_not, tally_more}

-- nothing is started
pub uses_none : (s : Parts) (counts : List ℕ) → length counts ≡ length (listed s) → IsTally [] counts → AreUsesOf s [] [] counts
uses_none s counts long tally = record { known = All-nil (λ p. IsKnown s p.request.0); places_are = refl; tally = tally; requests = long }

-- one start more
pub uses_more : (s : Parts) (starts : List Placement) (places counts : List ℕ) (p : Placement) (n m : ℕ) → IsKnown s p.request.0
    → n ≡ place_of s p.request.0 → m ≡ slice_index_or counts n 0 → n < length counts
    → AreUsesOf s starts places counts → AreUsesOf s (starts ++ p ∷ []) (places ++ n ∷ []) (slice_set counts n (m + 1))
uses_more s starts places counts p n m known at is within h = record {
  known = All-push (λ q. IsKnown s q.request.0) starts p h.known known;
  places_are = ap (λ (ns : List ℕ). ns ++ n ∷ []) h.places_are ∙ ap (λ (k : ℕ). map (λ q. place_of s q.request.0) starts ++ k ∷ []) at
      ∙ sym (map-append (λ (q : Placement). place_of s q.request.0) starts (p ∷ []));
  tally = tally_more places counts n m h.tally within is;
  requests = length-set counts n (m + 1) ∙ h.requests;
}

one_test : (a b c d : ℕ) → (a ≡ b → c ≡ d) → (c ≡ d → a ≡ b) → cond {A = ℕ} (a == b) 1 0 ≡ cond {A = ℕ} (c == d) 1 0
one_test a b c d to from = elim (same_or_not a b) [
  | inl same ↦ one_where_same a b same ∙ sym (one_where_same c d (to same))
  | inr differ ↦ none_where_not a b differ ∙ sym (none_where_not c d (λ e. differ (from e)))
]

-- requests are counted by their places as by their numbers
same_counts : (s : Parts) (k r : ℕ) (starts : List Placement) → IsKnown s r → place_of s r ≡ k → All (λ p. IsKnown s p.request.0) starts
    → count_of (map (λ p. place_of s p.request.0) starts) k ≡ uses_of starts r
same_counts s k r [] known at all = refl
same_counts s k r (p ∷ ps) known at all =
    let first : IsKnown s p.request.0 = All-head (λ q. IsKnown s q.request.0) p ps all in
    let rest : count_of (map (λ q. place_of s q.request.0) ps) k ≡ uses_of ps r =
    same_counts s k r ps known at (All-tail (λ q. IsKnown s q.request.0) p ps all) in
    let test : cond {A = ℕ} (place_of s p.request.0 == k) 1 0 ≡ cond {A = ℕ} (p.request.0 == r) 1 0
    = one_test (place_of s p.request.0) k p.request.0 r (λ e. same_number s p.request.0 r first known (e ∙ sym at)) (λ e. ap (place_of s) e ∙ at)
    in
    let left = sum_by-cons (λ (n : ℕ). cond {A = ℕ} (n == k) 1 0) (place_of s p.request.0) (map (λ q. place_of s q.request.0) ps) in
    let right = sum_by-cons (λ (q : Placement). cond {A = ℕ} (q.request.0 == r) 1 0) p ps in
    omega (arith, left, right)

-- what is counted at a place is how often its request is started
counted_at : (s : Parts) (starts : List Placement) (places counts : List ℕ) (k : ℕ) (x : Listed) → IsOrderly s → AreUsesOf s starts places counts
    → k < length (listed s) → slice_index_or (listed s) k x ≡ x
    → slice_index_or counts k 0 ≡ uses_of starts x.request.request.0
counted_at s starts places counts k x orderly h l at =
    h.tally.each k (omega (arith, h.requests)) ∙ ap (λ (ns : List ℕ). count_of ns k) h.places_are
    ∙ same_counts s k x.request.request.0 starts (listed_known s x (k, l, at)) (place_at s k x orderly l at) h.known

pub counted_uses : (s : Parts) (starts : List Placement) (places counts : List ℕ) (k n : ℕ) → IsOrderly s → AreUsesOf s starts places counts
    → k < length (listed s) → n ≡ slice_index_or counts k 0
    → HoldsAt (λ x. n ≡ uses_of starts x.request.request.0) (listed s) k
counted_uses s starts places counts k n orderly h l is d =
    let x : Listed = slice_index_or (listed s) k d in
    let at : slice_index_or (listed s) k x ≡ x = get_or_default (listed s) k x d l in
    is ∙ counted_at s starts places counts k x orderly h l at

-- the counts are those of the requests, in their order
pub all_counted : (s : Parts) (starts : List Placement) (places counts : List ℕ) → IsOrderly s → AreUsesOf s starts places counts
    → counts ≡ map (λ x. uses_of starts x.request.request.0) (listed s)
all_counted s starts places counts orderly h =
    ext_get_or 0 counts (map (λ x. uses_of starts x.request.request.0) (listed s))
    (h.requests ∙ sym (length-map (listed s) (λ x. uses_of starts x.request.request.0)))
    (λ k l.
    let below : k < length (listed s) = omega (arith, h.requests) in
    let x = element_at (listed s) k below in
    counted_at s starts places counts k x.0 orderly h below x.1
    ∙ ap (λ (y : Listed). uses_of starts y.request.request.0) (sym x.1)
    ∙ sym (get_or-map (λ (y : Listed). uses_of starts y.request.request.0) (listed s) k x.0 0 below))
