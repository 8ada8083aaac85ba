-- What the loops over prices keep.
use Rattle.std.proofs.Common.{◌≡◌, ℕ, ◌+◌, ◌*◌, ◌<◌, ◌≤◌, ◌⊎◌, inl, inr, Bool, true, false, cond, int_lt, ℤ, pos, negsuc, neg_ℤ, w64, ◌+ℤ◌, ◌≤ℤ◌, List}
use Rattle.std.proofs.Common.{length, drop, slice_index_or, Contains, sym, ◌∙◌, subst, below_more, arith}
use Rattle.std.proofs.lemmas.Int.{ints}
use Rattle.std.proofs.lemmas.List.{at_drop_more, at_drop_all, get_or_default}
use Rattle.std.proofs.lemmas.List.Elements.{Contains-get_or}
use Rattle.plan_base.specs.Sums.{total}
use mir.Val.{SFits}
use Rattle.plan_base.specs.NetPrices.{IsNetInRange, IsGreatestPrice, positive}

-- the sum of what f gives of the first i prices
pub record IsGrown (f : ℤ → ℤ) (prices : List ℤ) (i : ℕ) (sum : ℤ) : Type 0 where
  pub rest : sum +ℤ total f (drop i prices) ≡ total f prices
  pub least : neg_ℤ (pos (i * 2000000000000)) ≤ℤ sum
  pub most : sum ≤ℤ pos (i * 2000000000000)

-- the greatest of the first i prices, or 0
pub record IsGreatestSoFar (prices : List ℤ) (i : ℕ) (b : ℤ) : Type 0 where
  pub least : pos 0 ≤ℤ b
  pub above : (k : ℕ) → k < i → slice_index_or prices k (pos 0) ≤ℤ b
  pub reached : (b ≡ pos 0) ⊎ Contains prices b

pub grown_more : (f : ℤ → ℤ) (prices : List ℤ) (i : ℕ) (sum : ℤ) → i < length prices → IsNetInRange (f (slice_index_or prices i (pos 0)))
    → IsGrown f prices i sum → IsGrown f prices (i + 1) (sum +ℤ f (slice_index_or prices i (pos 0)))
grown_more f prices i sum l range grown =
    let step : total f (drop i prices) ≡ f (slice_index_or prices i (pos 0)) +ℤ total f (drop (i + 1) prices) = at_drop_more (total f) prices i (pos 0) l in
    let rest : sum +ℤ total f (drop i prices) ≡ total f prices = grown.rest in
    let least : neg_ℤ (pos (i * 2000000000000)) ≤ℤ sum = grown.least in
    let most : sum ≤ℤ pos (i * 2000000000000) = grown.most in
    record { rest = omega (arith, ints); least = omega (arith, ints); most = omega (arith, ints) }

pub grown_all : (f : ℤ → ℤ) (prices : List ℤ) (i : ℕ) (sum : ℤ) → length prices ≤ i → IsGrown f prices i sum → sum ≡ total f prices
grown_all f prices i sum l grown =
    let none : total f (drop i prices) ≡ pos 0 = at_drop_all (total f) prices i l in
    let rest : sum +ℤ total f (drop i prices) ≡ total f prices = grown.rest in
    omega (arith, ints)

pub positive_in_range : (c : ℤ) → IsNetInRange c → IsNetInRange (positive c)
positive_in_range c range = by_test (int_lt (pos 0) c)
  where
    by_test : (t : Bool) → IsNetInRange (cond t c (pos 0))
    by_test true = range
    by_test false = (omega (arith, ints), omega (arith, ints))

pub greatest_more : (prices : List ℤ) (i : ℕ) (a b : ℤ) → i < length prices → a ≤ℤ b → slice_index_or prices i (pos 0) ≤ℤ b
    → (b ≡ a) ⊎ (b ≡ slice_index_or prices i (pos 0))
    → IsGreatestSoFar prices i a → IsGreatestSoFar prices (i + 1) b
greatest_more prices i a b l first second one so_far = record {
  least = let least : pos 0 ≤ℤ a = so_far.least in omega (arith, ints);
  above = below_more _ _ (λ k h. let before : slice_index_or prices k (pos 0) ≤ℤ a = so_far.above k h in omega (arith, ints)) second;
  reached = elim one [
    | inl same ↦ elim so_far.reached [ inl none ↦ inl (same ∙ none) | inr has ↦ inr (subst (Contains prices) (sym same) has) ]
    | inr same ↦ inr (subst (Contains prices) (sym same) (Contains-get_or prices i (pos 0) l))
  ];
}

pub greatest_all : (prices : List ℤ) (i : ℕ) (b : ℤ) → length prices ≤ i → IsGreatestSoFar prices i b → IsGreatestPrice prices b
greatest_all prices i b l so_far = record {
  least = so_far.least;
  above = λ k d h. subst (λ (c : ℤ). c ≤ℤ b) (get_or_default prices k (pos 0) d h) (so_far.above k (omega arith));
  reached = so_far.reached;
}

-- a net price fits 64 bits
pub net_fits : (z : ℤ) → IsNetInRange z → SFits w64 z
net_fits (pos n) range = let top = range.1 in record { sfits = omega (arith, ints) }
net_fits (negsuc n) range = let low = range.0 in record { sfits = omega (arith, ints) }
