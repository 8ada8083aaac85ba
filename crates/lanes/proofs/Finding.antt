-- What two sets of rounds have found together.
use Rattle.std.proofs.Common.{◌≡◌, ℕ, ◌≤◌, ◌<◌, ◌⊎◌, inl, inr, nat_lt, if◌then◌else◌, Bool, true, false, List, [], length, refl, sym, ap, ◌∙◌, subst, arith}
use Rattle.std.specs.Prelude.{ℤ, pos, ◌≤ℤ◌, All}
use Rattle.std.proofs.lemmas.Bool.{ltb-true}
use Rattle.std.proofs.lemmas.Bool.Decides.{nat_tests}
use Rattle.std.proofs.lemmas.Int.{ints}
use Rattle.plan_base.specs.declared.parts.Parts.{Parts}
use Rattle.plan_base.specs.declared.claim.Placement.{Placement}
use Rattle.plan_base.specs.Snapshot.{IsOrderly}
use Rattle.plan_base.specs.Starts.{value_of_plan}
use Rattle.plan_base.specs.Feasible.{IsFeasible}
use Rattle.plan_base.specs.Bound.{IsBound}
use Rattle.plan_base.specs.Round.{IsRoundPrices}
use Rattle.plan_base.specs.Repaired.{IsRepaired}
use Rattle.plan_base.specs.Planned.{IsEarlierRound}
use Rattle.plan_base.specs.Limits.{most_quota_price}
use Rattle.plan_base.specs.Verdict.{IsPriceInRange}
use Rattle.plan_base.proofs.Empty.{empty_feasible}
use Rattle.plan_base.proofs.Limits.{bound_limit}
use Rattle.plan_base.proofs.OneRound.{one_round, one_repaired}
use Rattle.plan_base.proofs.Single.{one_bound}
use Rattle.plan_base.proofs.Sizes.{start_size_above}
use Rattle.board.specs.Views.{no_bound}
use Rattle.lanes.specs.Found.{FoundSeen, bettered, ArePrices, IsBoundMade, IsValueMade, IsLeastMade, IsBoundFound, IsFirstValue, IsValueFound, IsFound}
use Rattle.lanes.specs.declared.lane_prices.LanePrices.{LanePrices}
use Rattle.lanes.specs.Rounds.{IsAnswer}
use Rattle.lanes.specs.Searched.{IsBoundGiven, IsValueGiven}

-- of two rounds one alone is the earlier
pub not_both_earlier : (i k j l : ℕ) → IsEarlierRound i k j l → ¬ (IsEarlierRound j l i k)
not_both_earlier i k j l (inl a) (inl b) = absurd (omega arith)
not_both_earlier i k j l (inl a) (inr b) = absurd (omega arith)
not_both_earlier i k j l (inr a) (inl b) = absurd (omega arith)
not_both_earlier i k j l (inr a) (inr b) = absurd (omega arith)

-- where rounds are made of which more were made, a bound and a value stay what they are
module _ (s : Parts) (m n : ℕ → ℕ → Type 0) (more : (j k : ℕ) → m j k → n j k) where
  abbrev pub bound_more : (b : ℕ) (c : List ℤ) (u : List ℕ) → IsBoundMade s m b c u → IsBoundMade s n b c u
  bound_more b c u x = record { lane = x.lane; round = x.round; was_made = more x.lane x.round x.was_made; gives = x.gives; is_bound = x.is_bound }

  abbrev pub value_more : (v : ℕ) (p : List Placement) → IsValueMade s m v p → IsValueMade s n v p
  value_more v p x = record {
    lane = x.lane;
    round = x.round;
    prices = x.prices;
    quota_prices = x.quota_prices;
    was_made = more x.lane x.round x.was_made;
    gives = x.gives;
    repaired = x.repaired;
    worth = x.worth;
  }

  pub bound_given_more : (b : ℕ) → IsBoundGiven s m b → IsBoundGiven s n b
  bound_given_more b (inl none) = inl none
  bound_given_more b (inr (c, u, x)) = inr (c, u, bound_more b c u x)

  pub value_given_more : (opening v : ℕ) → IsValueGiven s m opening v → IsValueGiven s n opening v
  value_given_more opening v (inl under) = inl under
  value_given_more opening v (inr (p, x)) = inr (p, value_more v p x)

  -- what is found of the same rounds is the same
  pub found_same : (workers opening : ℕ) (opening_plan : List Placement) (f : FoundSeen) → ((j k : ℕ) → n j k → m j k)
      → IsFound s workers m opening opening_plan f
      → IsFound s workers n opening opening_plan f
  found_same workers opening opening_plan f less x = record {
    bound = elim x.bound [
      | inl none ↦ inl ((λ j k h. none.0 j k (less j k h)), none.1)
      | inr l ↦ inr (record {
        reached = bound_more f.bound f.prices f.quota_prices l.reached;
        least = λ j k c u b h. l.least j k c u b (less j k h);
        first = λ alone j k c u h. l.first alone j k c u (less j k h);
      })
    ];
    value = record {
      above_opening = x.value.above_opening;
      above = λ j k c u q h. x.value.above j k c u q (less j k h);
      reached = elim x.value.reached [
        | inl o ↦ inl o
        | inr (greater, y) ↦ inr (
          greater,
          record {
            reached = value_more f.value f.plan y.reached;
            first = λ alone j k c u q h. y.first alone j k c u q (less j k h);
          },
        )
      ];
    };
    prices = x.prices;
    feasible = x.feasible;
  }

-- what later rounds have found, of which a value is kept only above the opening one
pub record IsLater (s : Parts) (workers : ℕ) (m : ℕ → ℕ → Type 0) (opening : ℕ) (g : FoundSeen) : Type 0 where
  pub bound : IsBoundFound s workers m g.bound g.prices g.quota_prices
  pub above : (j k : ℕ) (c : List ℤ) (u : List ℕ) (q : List Placement) → m j k → IsRoundPrices s j k c u → IsRepaired s c q → value_of_plan s q ≤ g.value
  pub first : opening < g.value → IsFirstValue s workers m g.value g.plan
  pub prices : ArePrices s g.prices g.quota_prices
  pub feasible : IsFeasible s g.plan

pub found_later : (s : Parts) (workers : ℕ) (m : ℕ → ℕ → Type 0) (opening later : ℕ) (plan : List Placement) (g : FoundSeen) → later ≤ opening
    → IsFound s workers m later plan g
    → IsLater s workers m opening g
found_later s workers m opening later plan g under x = record {
  bound = x.bound;
  above = x.value.above;
  first = λ above. elim x.value.reached [ inl o ↦ (let e = o.0 in absurd (omega arith)) | inr y ↦ y.1 ];
  prices = x.prices;
  feasible = x.feasible;
}

-- a bound of prices in their ranges is below none
bound_below : (s : Parts) (b : ℕ) (c : List ℤ) (u : List ℕ) → IsOrderly s → ArePrices s c u → IsBound s c u (pos b) → b < no_bound
bound_below s b c u orderly are is = (let l = (bound_limit s c u (pos b) orderly are.range are.quota_range is).1 in omega (arith, ints))

pub bound_at_most : (s : Parts) (workers : ℕ) (m : ℕ → ℕ → Type 0) (opening : ℕ) (plan : List Placement) (f : FoundSeen) → IsOrderly s
    → IsFound s workers m opening plan f
    → f.bound ≤ no_bound
bound_at_most s workers m opening plan f orderly x = elim x.bound [
  | inl none ↦ (let e = none.1 in omega arith)
  | inr l ↦ (let b = bound_below s f.bound f.prices f.quota_prices orderly x.prices l.reached.is_bound in omega arith)
]

pub either_prices : (s : Parts) (second : Bool) (c e : List ℤ) (u w : List ℕ) → ArePrices s c u → ArePrices s e w
    → ArePrices s (if second then e else c) (if second then w else u)
either_prices s true c e u w x y = y
either_prices s false c e u w x y = x

either_feasible : (s : Parts) (second : Bool) (p q : List Placement) → IsFeasible s p → IsFeasible s q → IsFeasible s (if second then q else p)
either_feasible s true p q x y = y
either_feasible s false p q x y = x

module _ (s : Parts) (workers : ℕ) (m1 m2 : ℕ → ℕ → Type 0) (before : workers ≡ 1 → (i k j l : ℕ) → m1 i k → m2 j l → IsEarlierRound i k j l) where
  -- a round of either
  abbrev pub either : ℕ → ℕ → Type 0
  either j k = m1 j k ⊎ m2 j k

  -- the first bound stays where the second isn't lower
  kept_bound : (b d : ℕ) (c e : List ℤ) (u w : List ℕ) → (IsLeastMade s workers m2 d e w → d < no_bound) → b ≤ d
      → IsBoundFound s workers m1 b c u → IsBoundFound s workers m2 d e w → IsBoundFound s workers either b c u
  kept_bound b d c e u w limit le (inl (none, n)) (inl (other, n')) = inl ((λ j k h. elim h [ inl x ↦ none j k x | inr y ↦ other j k y ]), n)
  kept_bound b d c e u w limit le (inl (none, n)) (inr g) = (let l = limit g in absurd (omega arith))
  kept_bound b d c e u w limit le (inr f) (inl (other, n)) = inr (record {
    reached = bound_more s m1 either (λ _ _ h'. inl h') b c u f.reached;
    least = λ j k p q x h r t. elim h [ inl y ↦ f.least j k p q x y r t | inr y ↦ absurd (other j k y) ];
    first = λ alone j k p q h earlier r t. elim h [ inl y ↦ f.first alone j k p q y earlier r t | inr y ↦ absurd (other j k y) ];
  })
  kept_bound b d c e u w limit le (inr f) (inr g) = inr (record {
    reached = bound_more s m1 either (λ _ _ h'. inl h') b c u f.reached;
    least = λ j k p q x h r t. elim h [ inl y ↦ f.least j k p q x y r t | inr y ↦ (let l = g.least j k p q x y r t in omega (arith, ints)) ];
    first = λ alone j k p q h earlier r t. elim h [
      | inl y ↦ f.first alone j k p q y earlier r t
      | inr y ↦ absurd (not_both_earlier _ _ _ _ (before alone f.reached.lane f.reached.round j k f.reached.was_made y) earlier)
    ];
  })

  -- a lower second bound takes its place
  new_bound : (b d : ℕ) (c e : List ℤ) (u w : List ℕ) → d < b → b ≤ no_bound → IsBoundFound s workers m1 b c u → IsBoundFound s workers m2 d e w
      → IsBoundFound s workers either d e w
  new_bound b d c e u w less limit f (inl (other, n)) = absurd (omega arith)
  new_bound b d c e u w less limit f (inr g) = inr (record {
    reached = bound_more s m2 either (λ _ _ h'. inr h') d e w g.reached;
    least = λ j k p q x h r t. elim h [
      | inl y ↦ elim f [ inl none ↦ absurd (none.0 j k y) | inr f' ↦ (let l = f'.least j k p q x y r t in omega (arith, ints)) ]
      | inr y ↦ g.least j k p q x y r t
    ];
    first = λ alone j k p q h earlier r t. elim h [
      | inl y ↦ elim f [ inl none ↦ none.0 j k y | inr f' ↦ (let l = f'.least j k p q (pos d) y r t in absurd (omega (arith, ints))) ]
      | inr y ↦ g.first alone j k p q y earlier r t
    ];
  })

  both_bounds : (lower : Bool) (b d : ℕ) (c e : List ℤ) (u w : List ℕ) → nat_lt d b ≡ lower → (IsLeastMade s workers m2 d e w → d < no_bound) → b ≤ no_bound
      → IsBoundFound s workers m1 b c u → IsBoundFound s workers m2 d e w
      → IsBoundFound s workers either (if lower then d else b) (if lower then e else c) (if lower then w else u)
  both_bounds true b d c e u w is limit most f g = new_bound b d c e u w (ltb-true d b is) most f g
  both_bounds false b d c e u w is limit most f g = kept_bound b d c e u w limit (grind (arith, nat_tests)) f g

  module _ (opening : ℕ) (opening_plan : List Placement) where
    -- the first value stays where the second isn't greater
    kept_value : (v : ℕ) (p : List Placement) (g : FoundSeen) → g.value ≤ v → IsValueFound s workers m1 opening opening_plan v p
        → IsLater s workers m2 opening g
        → IsValueFound s workers either opening opening_plan v p
    kept_value v p g le f y = record {
      above_opening = f.above_opening;
      above = λ j k c u x h r t. elim h [ inl z ↦ f.above j k c u x z r t | inr z ↦ (let a = y.above j k c u x z r t in omega arith) ];
      reached = elim f.reached [
        | inl o ↦ inl o
        | inr (less, x) ↦ inr (
          less,
          record {
            reached = value_more s m1 either (λ _ _ h'. inl h') v p x.reached;
            first = λ alone j k c u z h earlier r t. elim h [
              | inl here ↦ x.first alone j k c u z here earlier r t
              | inr here ↦ absurd (not_both_earlier _ _ _ _ (before alone x.reached.lane x.reached.round j k x.reached.was_made here) earlier)
            ];
          },
        )
      ];
    }

    -- a greater second value takes its place
    new_value : (v : ℕ) (p : List Placement) (g : FoundSeen) → v < g.value → IsValueFound s workers m1 opening opening_plan v p → IsLater s workers m2 opening g
        → IsValueFound s workers either opening opening_plan g.value g.plan
    new_value v p g less f y =
        let above : opening < g.value = (let o = f.above_opening in omega arith) in
        let x : IsFirstValue s workers m2 g.value g.plan = y.first above in
        record {
          above_opening = omega arith;
          above = λ j k c u z h r t. elim h [ inl here ↦ (let a = f.above j k c u z here r t in omega arith) | inr here ↦ y.above j k c u z here r t ];
          reached = inr (
            above,
            record {
              reached = value_more s m2 either (λ _ _ h'. inr h') g.value g.plan x.reached;
              first = λ alone j k c u z h earlier r t is. elim h [
                | inl here ↦ (let a = f.above j k c u z here r t in absurd (omega arith))
                | inr here ↦ x.first alone j k c u z here earlier r t is
              ];
            },
          );
        }

    both_values : (greater : Bool) (v : ℕ) (p : List Placement) (g : FoundSeen) → nat_lt v g.value ≡ greater
        → IsValueFound s workers m1 opening opening_plan v p
        → IsLater s workers m2 opening g → IsValueFound s workers either opening opening_plan (if greater then g.value else v) (if greater then g.plan else p)
    both_values true v p g is f y = new_value v p g (ltb-true v g.value is) f y
    both_values false v p g is f y = kept_value v p g (grind (arith, nat_tests)) f y

    -- the better of both is what the rounds of either have found
    pub found_by_either : (f g : FoundSeen) → IsOrderly s → IsFound s workers m1 opening opening_plan f → IsLater s workers m2 opening g
        → IsFound s workers either opening opening_plan (bettered f g)
    found_by_either f g orderly x y = record {
      bound = both_bounds (nat_lt g.bound f.bound) f.bound g.bound f.prices g.prices f.quota_prices g.quota_prices refl
          (λ l. bound_below s g.bound g.prices g.quota_prices orderly y.prices l.reached.is_bound)
          (bound_at_most s workers m1 opening opening_plan f orderly x) x.bound y.bound;
      value = both_values (nat_lt f.value g.value) f.value f.plan g refl x.value y;
      prices = either_prices s (nat_lt g.bound f.bound) f.prices g.prices f.quota_prices g.quota_prices x.prices y.prices;
      feasible = either_feasible s (nat_lt f.value g.value) f.plan g.plan x.feasible y.feasible;
    }

-- before any round is made nothing is found
pub none_found : (s : Parts) (workers : ℕ) (m : ℕ → ℕ → Type 0) (f : FoundSeen) (opening : ℕ) → ((j k : ℕ) → ¬ (m j k)) → f.bound ≡ no_bound
    → f.value ≡ opening → f.plan ≡ []
    → ArePrices s f.prices f.quota_prices → IsFound s workers m opening [] f
none_found s workers m f opening none bound value plan prices = record {
  bound = inl (none, bound);
  value = record { above_opening = omega arith; above = λ j k c u q h. absurd (none j k h); reached = inl (value, plan) };
  prices = prices;
  feasible = subst (IsFeasible s) (sym plan) (empty_feasible s);
}

-- the round of these prices
abbrev pub IsThis : LanePrices → ℕ → ℕ → Type 0
IsThis x j k = (x.lane ≡ j) × (k ≡ x.made)

-- what a round gives is what is found of it
pub answer_later : (s : Parts) (workers opening : ℕ) (x : LanePrices) (g : FoundSeen) → IsOrderly s → g.prices ≡ x.prices.0 → g.quota_prices ≡ x.quota_prices.0
    → IsAnswer s x g.bound g.value g.plan → IsLater s workers (IsThis x) opening g
answer_later s workers opening x g orderly prices quota_prices a =
    let sizes = start_size_above s orderly in
    record {
      bound = inr (record {
        reached = record {
          lane = x.lane;
          round = x.made;
          was_made = (refl, refl);
          gives = subst (λ (c : List ℤ). IsRoundPrices s x.lane x.made c g.quota_prices) (sym prices)
              (subst (λ (u : List ℕ). IsRoundPrices s x.lane x.made x.prices.0 u) (sym quota_prices) a.is_lane.is_round);
          is_bound = subst (λ (c : List ℤ). IsBound s c g.quota_prices (pos g.bound)) (sym prices)
              (subst (λ (u : List ℕ). IsBound s x.prices.0 u (pos g.bound)) (sym quota_prices) a.bound);
        };
        least = λ j k c u b h r is.
            let r' : IsRoundPrices s x.lane x.made c u =
            subst (λ (i : ℕ). IsRoundPrices s i x.made c u) (sym h.0) (subst (λ (i : ℕ). IsRoundPrices s j i c u) h.1 r) in
            let same = one_round s x.lane x.made c u x.prices.0 x.quota_prices.0 sizes r' a.is_lane.is_round in
            let is' : IsBound s x.prices.0 x.quota_prices.0 b =
            subst (λ (e : List ℤ). IsBound s e x.quota_prices.0 b) same.0 (subst (λ (w : List ℕ). IsBound s c w b) same.1 is) in
            let e = one_bound s x.prices.0 x.quota_prices.0 b (pos g.bound) is' a.bound in
            subst (λ (z : ℤ). z ≤ℤ b) e (omega (arith, ints));
        first = λ alone j k c u h earlier r is. elim earlier
            [ inl less ↦ (let e = h.0 in omega arith) | inr less ↦ (let e = h.1 in let l = less.1 in omega arith) ];
      });
      above = λ j k c u q h r t.
          let r' : IsRoundPrices s x.lane x.made c u =
          subst (λ (i : ℕ). IsRoundPrices s i x.made c u) (sym h.0) (subst (λ (i : ℕ). IsRoundPrices s j i c u) h.1 r) in
          let same = one_round s x.lane x.made c u x.prices.0 x.quota_prices.0 sizes r' a.is_lane.is_round in
          let e : q ≡ g.plan = one_repaired s x.prices.0 q g.plan sizes (subst (λ (d : List ℤ). IsRepaired s d q) same.0 t) a.repaired in
          let w = ap (value_of_plan s) e in let worth = a.worth in omega arith;
      first = λ above. record {
        reached = record {
          lane = x.lane;
          round = x.made;
          prices = x.prices.0;
          quota_prices = x.quota_prices.0;
          was_made = (refl, refl);
          gives = a.is_lane.is_round;
          repaired = a.repaired;
          worth = a.worth;
        };
        first = λ alone j k c u q h earlier r t is. elim earlier
            [ inl less ↦ (let e = h.0 in omega arith) | inr less ↦ (let e = h.1 in let l = less.1 in omega arith) ];
      };
      prices = record {
        count = ap (λ (c : List ℤ). length c) prices ∙ a.is_lane.count;
        quota_count = ap (λ (u : List ℕ). length u) quota_prices ∙ a.is_lane.quota_count;
        range = subst (λ (c : List ℤ). All IsPriceInRange c) (sym prices) a.is_lane.range;
        quota_range = subst (λ (u : List ℕ). All (λ q. q ≤ most_quota_price) u) (sym quota_prices) a.is_lane.quota_range;
      };
      feasible = a.feasible;
    }
