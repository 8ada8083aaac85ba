-- Numbers of lanes that are written side by side, and copied out again.
use Rattle.std.proofs.Common.{◌≡◌, ◌≢◌, ℕ, ◌+◌, ◌<◌, ◌≤◌, ◌⊎◌, inl, inr, ℤ, pos, List, [], length, slice_index_or, slice_set, All, refl, sym, ◌∙◌, ap}
use Rattle.std.proofs.Common.{subst, arith}
use Rattle.std.proofs.lemmas.List.{length-set, length-map, get_or-map, get_or-set_same, get_or-set_other, get_or_default, ext_get_or}
use Rattle.std.proofs.lemmas.List.Elements.{All-set, All-from_get_or}
use Rattle.interval_solver.specs.Lanes.{number_in, lane, IsForLanes}
use Rattle.interval_solver.specs.Uses.{Started}
use Rattle.lanes.specs.declared.lane_prices.LanePrices.{LanePrices}
use Rattle.lanes.specs.Ready.{IsAsLong, IsCleared}

below_or_at : (k i : ℕ) → k < i + 1 → (k < i) ⊎ (k ≡ i)
below_or_at k i h = grind arith

same_or_other : (k i : ℕ) → (k ≡ i) ⊎ (k ≢ i)
same_or_other k i = grind arith

-- lane l of what stands at a place
abbrev at : ℕ → List (List ℤ) → ℕ → ℤ
at l lists k = number_in l (slice_index_or lists k [])

lane_at : (l : ℕ) (lists : List (List ℤ)) (k : ℕ) (d : ℤ) → k < length lists → slice_index_or (lane l lists) k d ≡ at l lists k
lane_at l lists k d below = get_or-map (number_in l) lists k [] d below

-- the first n numbers of lane l are the prices, and the other lanes are as before
pub record IsWrittenTo (m l n : ℕ) (prices : List ℤ) (old now : List (List ℤ)) : Type 0 where
  pub count : length now ≡ length old
  pub long : All (IsAsLong m) now
  pub here : (k : ℕ) → k < n → at l now k ≡ slice_index_or prices k (pos 0)
  pub others : (j k : ℕ) → j ≢ l → at j now k ≡ at j old k

pub written_none : (m l : ℕ) (prices : List ℤ) (old : List (List ℤ)) → All (IsAsLong m) old → IsWrittenTo m l 0 prices old old
written_none m l prices old long = record { count = refl; long = long; here = λ k below. absurd (omega arith); others = λ j k other. refl }

pub written_more : (m l n : ℕ) (prices : List ℤ) (old now : List (List ℤ)) (row : List ℤ) (p : ℤ) → l < m → n < length now → row ≡ slice_index_or now n []
    → p ≡ slice_index_or prices n (pos 0)
    → IsWrittenTo m l n prices old now → IsWrittenTo m l (n + 1) prices old (slice_set now n (slice_set row l p))
written_more m l n prices old now row p lane_known below is value h = record {
  count = length-set now n (slice_set row l p) ∙ h.count;
  long = All-set (IsAsLong m) now n (slice_set row l p) (length-set row l p ∙ ap length is ∙ h.long n [] below) h.long;
  here = λ k l_below. elim (below_or_at k n l_below) [
    | inl earlier ↦ ap (number_in l) (get_or-set_other now n k (slice_set row l p) [] (λ e. omega arith)) ∙ h.here k earlier
    | inr same ↦
        let size : length row ≡ m = ap length is ∙ h.long n [] below in
        ap (at l (slice_set now n (slice_set row l p))) same ∙ ap (number_in l) (get_or-set_same now n (slice_set row l p) [] below)
        ∙ get_or-set_same row l p (pos 0) (omega arith) ∙ value
        ∙ ap (λ (i : ℕ). slice_index_or prices i (pos 0)) (sym same)
  ];
  others = λ j k other. elim (same_or_other k n) [
    | inl same ↦
        ap (at j (slice_set now n (slice_set row l p))) same ∙ ap (number_in j) (get_or-set_same now n (slice_set row l p) [] below)
        ∙ get_or-set_other row l j p (pos 0) other ∙ ap (number_in j) is
        ∙ h.others j n other ∙ ap (at j old) (sym same)
    | inr differ ↦ ap (number_in j) (get_or-set_other now n k (slice_set row l p) [] differ) ∙ h.others j k other
  ];
}

pub written_here : (m l n : ℕ) (prices : List ℤ) (old now : List (List ℤ)) → n ≡ length prices → length prices ≡ length old
    → IsWrittenTo m l n prices old now → lane l now ≡ prices
written_here m l n prices old now all count h =
    let size : length (lane l now) ≡ length now = length-map now (number_in l) in
    ext_get_or (pos 0) (lane l now) prices (size ∙ h.count ∙ sym count) (λ k below. lane_at l now k (pos 0) (omega arith) ∙ h.here k (omega (arith, h.count)))

pub written_others : (m l n : ℕ) (prices : List ℤ) (old now : List (List ℤ)) → IsWrittenTo m l n prices old now → (j : ℕ) → j ≢ l → lane j now ≡ lane j old
written_others m l n prices old now h j other =
    let size : length (lane j now) ≡ length now = length-map now (number_in j) in
    let before : length (lane j old) ≡ length old = length-map old (number_in j) in
    ext_get_or (pos 0) (lane j now) (lane j old) (size ∙ h.count ∙ sym before) (λ k below.
    lane_at j now k (pos 0) (omega arith) ∙ h.others j k other ∙ sym (lane_at j old k (pos 0) (omega (arith, h.count))))

-- each number of each lane is P where all numbers of each lane are
pub for_lanes : (m : ℕ) (P : ℤ → Type 0) (lists : List (List ℤ)) → All (IsAsLong m) lists → ((l : ℕ) → l < m → All P (lane l lists))
    → All (IsForLanes m P) lists
for_lanes m P lists long all k d below = record {
  count = long k d below;
  each = All-from_get_or P (slice_index_or lists k d) (pos 0) (λ l within.
      let known : l < m = omega (arith, long k d below) in
      let size : length (lane l lists) ≡ length lists = length-map lists (number_in l) in
      subst P (get_or-map (number_in l) lists k d (pos 0) below) (all l known k (pos 0) (omega arith)));
}

-- the prices of the first n lanes are written
pub record AreWrittenTo (m n : ℕ) (lanes : List LanePrices) (old now : List (List ℤ)) : Type 0 where
  pub count : length now ≡ length old
  pub long : All (IsAsLong m) now
  pub prices : (l : ℕ) (d : LanePrices) → l < n → lane l now ≡ (slice_index_or lanes l d).prices.0

pub lanes_written_none : (m : ℕ) (lanes : List LanePrices) (old : List (List ℤ)) → All (IsAsLong m) old → AreWrittenTo m 0 lanes old old
lanes_written_none m lanes old long = record { count = refl; long = long; prices = λ l d below. absurd (omega arith) }

pub lanes_written_more : (m n : ℕ) (lanes : List LanePrices) (old now new : List (List ℤ)) (x : LanePrices) → n < length lanes → x ≡ slice_index_or lanes n x
    → length new ≡ length now → All (IsAsLong m) new
    → lane n new ≡ x.prices.0 → ((k : ℕ) → k ≢ n → lane k new ≡ lane k now) → AreWrittenTo m n lanes old now → AreWrittenTo m (n + 1) lanes old new
lanes_written_more m n lanes old now new x within is count long here others h = record {
  count = count ∙ h.count;
  long = long;
  prices = λ l d below. elim (below_or_at l n below) [
    | inl earlier ↦ others l (λ e. omega arith) ∙ h.prices l d earlier
    | inr same ↦
        ap (λ (k : ℕ). lane k new) same ∙ here ∙ ap (λ (y : LanePrices). y.prices.0) (is ∙ get_or_default lanes n x d within)
        ∙ ap (λ (k : ℕ). (slice_index_or lanes k d).prices.0) (sym same)
  ];
}

-- nothing is started in the first n lanes, and the others are as before
pub record AreClearedTo (n : ℕ) (old now : List Started) : Type 0 where
  pub count : length now ≡ length old
  pub done : (l : ℕ) (d : Started) → l < n → IsCleared (slice_index_or old l d) (slice_index_or now l d)
  pub rest : (l : ℕ) (d : Started) → n ≤ l → slice_index_or now l d ≡ slice_index_or old l d

pub cleared_none : (old : List Started) → AreClearedTo 0 old old
cleared_none old = record { count = refl; done = λ l d below. absurd (omega arith); rest = λ l d from. refl }

pub cleared_more : (n : ℕ) (old now : List Started) (u v : Started) → n < length old → u ≡ slice_index_or now n u → IsCleared u v → AreClearedTo n old now
    → AreClearedTo (n + 1) old (slice_set now n v)
cleared_more n old now u v within is cleared h = record {
  count = length-set now n v ∙ h.count;
  done = λ l d below. elim (below_or_at l n below) [
    | inl earlier ↦ get_or-set_other now n l v d (λ e. omega arith) ∙ h.done l d earlier
    | inr same ↦
        let before : u ≡ slice_index_or old l d = is ∙ h.rest n u (omega arith) ∙ get_or_default old n u d within
        ∙ ap (λ (k : ℕ). slice_index_or old k d) (sym same) in
        ap (λ (k : ℕ). slice_index_or (slice_set now n v) k d) same ∙ get_or-set_same now n v d (omega (arith, h.count)) ∙ cleared
        ∙ ap (λ (w : Started). let it : Started = record { snapshot = w.snapshot; starts = []; room = w.room } in it) before
  ];
  rest = λ l d from. get_or-set_other now n l v d (λ e. omega arith) ∙ h.rest l d (omega arith);
}
