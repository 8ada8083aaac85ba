-- The counted centres are those below the end, and the windows of a cadence are sound.
use Rattle.std.proofs.Common.{◌≡◌, ℕ, ◌+◌, ◌*◌, ◌-◌, ◌<◌, ◌≤◌, ◌⊎◌, inl, inr, Bool, true, false, cond, List, [], ◌∷◌, length, map, filter, get_or, All}
use Rattle.std.proofs.Common.{Contains, Result, Ok, Err, subst, refl, arith}
use Rattle.std.specs.Prelude.{nat_le}
use Rattle.std.specs.List.{range_with_len}
use Rattle.std.specs.List.Sorted.{IsNonDecreasingBy}
use Rattle.std.proofs.lemmas.Bool.{leb-true}
use Rattle.std.proofs.lemmas.Nat.{mul-le}
use Rattle.std.proofs.lemmas.Grind.{common_steps, div_ceil_times}
use Rattle.std.proofs.lemmas.List.Elements.{All-filter, All-map, filter_passes}
use Rattle.std.proofs.lemmas.List.FromFn.{length-map-range_with_len, get_or-map-range_with_len}
use Rattle.std.proofs.lemmas.List.Kept.{IsNonDecreasingBy-filter}
use Rattle.plan_base.specs.declared.span.Span.{Span}
use Rattle.plan_base.proofs.Lists.{contains_filter}
use Rattle.request_model.specs.declared.request.Cadence.{Cadence}
use Rattle.request_model.specs.declared.time_fault.TimeFault.{TimeFault}
use Rattle.request_model.specs.declared.time_fault.TimeFault.TheVariants.{BadCadence, TooManyWindows}
use Rattle.request_times.specs.Cadence.{centre, centre_count, window, is_long, windows_of, is_cadence, if_any}
use Rattle.request_times.specs.Laws.{IsInside, IsSound, WindowsAreSound, CentresAreCounted}

-- centres
below_end : (s e p n k : ℕ) → n * p < (e - s) + p → k < n → s + k * p < e
below_end s e p n k h l =
    let product : (k + 1) * p ≤ n * p = mul-le (k + 1) p n p (omega arith) (omega arith) in
    omega arith

below_or_from : (j k : ℕ) → (j < k) ⊎ (k ≤ j)
below_or_from j k = grind arith

counted_end : (s e p n k : ℕ) → e - s ≤ n * p → s + k * p < e → k < n
counted_end s e p n k h l = elim (below_or_from k n) [
  | inl b ↦ b
  | inr g ↦ let product : n * p ≤ k * p = mul-le n p k p g (omega arith) in absurd (omega arith)
]

counted_bounds : (c : Cadence) → 0 < c.period → (c.end.0 - c.start.0 ≤ centre_count c * c.period)
    × (centre_count c * c.period < (c.end.0 - c.start.0) + c.period)
counted_bounds c p = div_ceil_times (c.end.0 - c.start.0) c.period p

pub counted : CentresAreCounted
counted c k p = (
  λ h. below_end c.start.0 c.end.0 c.period (centre_count c) k (counted_bounds c p).1 h,
  λ h. counted_end c.start.0 c.end.0 c.period (centre_count c) k (counted_bounds c p).0 h,
)

centre_rises : (c : Cadence) (i j : ℕ) → i ≤ j → centre c i ≤ centre c j
centre_rises c i j h =
    let product : i * c.period ≤ j * c.period = mul-le i c.period j c.period h (omega arith) in
    omega arith

-- windows
from_rises : (c : Cadence) (m n : ℕ) → m ≤ n → (window c m).from.0 ≤ (window c n).from.0
from_rises c m n h = omega arith

to_rises : (c : Cadence) (m n : ℕ) → m ≤ n → (window c m).to.0 ≤ (window c n).to.0
to_rises c m n h = omega arith

inside : (c : Cadence) (m : ℕ) → IsInside c (window c m)
inside c m = record { from = omega arith; to = omega arith }

map_rises : {X : Type 0} (f : X → ℕ) (g : ℕ → X) (n : ℕ) → ((i j : ℕ) → i ≤ j → f (g i) ≤ f (g j)) → IsNonDecreasingBy f (map g (range_with_len 0 n))
map_rises f g n h = λ i j d l m.
    let len : length (map g (range_with_len 0 n)) ≡ n = length-map-range_with_len g 0 n in
    let one : get_or (map g (range_with_len 0 n)) i d ≡ g i = get_or-map-range_with_len g 0 n i i d (omega arith) (omega arith) in
    let two : get_or (map g (range_with_len 0 n)) j d ≡ g j = get_or-map-range_with_len g 0 n j j d (omega arith) (omega arith) in
    rw one (rw two (h i j l))

map_has : {X : Type 0} (g : ℕ → X) (n k : ℕ) → k < n → Contains (map g (range_with_len 0 n)) (g k)
map_has g n k h =
    let len : length (map g (range_with_len 0 n)) ≡ n = length-map-range_with_len g 0 n in
    (k, omega arith, get_or-map-range_with_len g 0 n k k (g k) h (omega arith))

all_inside : (c : Cadence) (ks : List ℕ) → All (IsInside c) (map (λ k. window c (centre c k)) ks)
all_inside c ks = All-map (IsInside c) (λ k. window c (centre c k)) ks (λ i d l. inside c _)

all_long : (seconds : ℕ) (ws : List Span) → All (λ w. w.from.0 + seconds ≤ w.to.0) (filter (is_long seconds) ws)
all_long seconds ws = λ k d l. leb-true _ _ (filter_passes (is_long seconds) ws k d l)

long_or_not : (a b : ℕ) → (nat_le a b ≡ true) ⊎ (b < a)
long_or_not a b = grind (arith, common_steps)

has_window : (c : Cadence) (seconds k : ℕ) → 0 < c.period → centre c k < c.end.0
    → Contains (windows_of c seconds (centre_count c)) (window c (centre c k)) ⊎ ((window c (centre c k)).to.0 < (window c (centre c k)).from.0 + seconds)
has_window c seconds k p h = elim (long_or_not ((window c (centre c k)).from.0 + seconds) (window c (centre c k)).to.0) [
  | inl e ↦ inl (contains_filter (is_long seconds) _ _ (map_has (λ j. window c (centre c j)) (centre_count c) k ((counted c k p).1 h)) e)
  | inr l ↦ inr l
]

windows_sound : (c : Cadence) (seconds : ℕ) → 0 < c.period → IsSound c seconds (windows_of c seconds (centre_count c))
windows_sound c seconds p =
    let all : List Span = map (λ k. window c (centre c k)) (range_with_len 0 (centre_count c)) in
    record {
      inside = All-filter (is_long seconds) (IsInside c) all (all_inside c _);
      begins_rise = IsNonDecreasingBy-filter (λ w. w.from.0) (is_long seconds) all
          (map_rises (λ w. w.from.0) (λ k. window c (centre c k)) (centre_count c) (λ i j l. from_rises c _ _ (centre_rises c i j l)));
      ends_rise = IsNonDecreasingBy-filter (λ w. w.to.0) (is_long seconds) all
          (map_rises (λ w. w.to.0) (λ k. window c (centre c k)) (centre_count c) (λ i j l. to_rises c _ _ (centre_rises c i j l)));
      long = all_long seconds all;
      each = λ k h. has_window c seconds k p h;
    }

-- what an expansion is
no_fault : (answer : Result (List Span) TimeFault) (e : TimeFault) (windows : List Span) → answer ≡ Err e → answer ≡ Ok windows → ⊥
no_fault answer e windows f h = cc

left : (b d : Bool) (n : ℕ) (ws windows : List Span) → cond b (cond d (if_any ws) (Err (TooManyWindows n))) (Err BadCadence) ≡ Ok windows
    → (b ≡ true) × (ws ≡ windows)
left true true n [] windows h = absurd (no_fault _ _ _ refl h)
left true true n (w ∷ ws) windows h = let same : w ∷ ws ≡ windows = cc in (refl, same)
left true false n ws windows h = absurd (no_fault _ _ _ refl h)
left false d n ws windows h = absurd (no_fault _ _ _ refl h)

has_period : (c : Cadence) → is_cadence c ≡ true → 0 < c.period
has_period c h = grind (arith, common_steps)

pub sound : WindowsAreSound
sound c seconds windows h =
    let is : (is_cadence c ≡ true) × (windows_of c seconds (centre_count c) ≡ windows) =
    left (is_cadence c) (nat_le (centre_count c) 256) (centre_count c) (windows_of c seconds (centre_count c)) windows h in
    subst (λ (ws : List Span). IsSound c seconds ws) is.1 (windows_sound c seconds (has_period c is.0))
