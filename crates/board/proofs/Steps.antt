-- What the table asks of each call.
use Rattle.std.proofs.Common.{◌≡◌, ℕ, ◌+◌, ◌*◌, ◌%◌, ◌^◌, ◌≤◌, ◌<◌, List, [], ◌∷◌, ◌++◌, slice_index, slice_set, min, max, refl, sym, ap, ◌∙◌, subst}
use Rattle.std.proofs.Common.{arith, length, length-append, append-nil, mod-eq_of_lt}
use mathlib.Core.Option.{some}
use lib.ListN.{get_elem?}
use Rattle.atomic_table.specs.Table.{State, Me, Act, keeps, Valid, stepped, carried_after, Final, Seen}
use Rattle.board.specs.declared.seat.SeatView.{SeatView}
use Rattle.board.specs.Views.{no_bound, all_seats, most_claims, times, EachOnce, IsOnlySeat}
use Rattle.board.specs.Steps.{after_claim, after_lower, after_raise, after_look_at_bound, after_look_at_value, after_split, split_off, joined, spent}
use Rattle.board.specs.Steps.{IsBoundFor, IsValueFor, IsCounterFor}
use Rattle.board.specs.Rule.{IsWithin, Rule, RuleHolds}
use Rattle.board.specs.Plays.{Claims, Lowers, Raises, SeesBound, SeesValue}
use Rattle.board.proofs.Claims.{none_follow, one_follows}
use Rattle.board.proofs.Keeping as keeping
use Rattle.board.proofs.Known.{bound_known, value_known, counter_known, only_claims, counter_limit}

-- the seat may take some view by which the rule is kept, where the word i becomes n
abbrev May : State ℕ SeatView → ℕ → ℕ → ℕ → Me ℕ SeatView → (Me ℕ SeatView → Type 0) → Type 0
May s i n id me then = (w : SeatView) × (act : Act ℕ) × Valid s.homes me.1 act × RuleHolds (stepped s i n id me.1 w act) × then (w, carried_after me.1 act)

module _ (s : State ℕ SeatView) (id : ℕ) (me : Me ℕ SeatView) (h : RuleHolds s) (at : get_elem? s.views id ≡ some me.0) where
  bound_word : slice_index s.words 0 ≡ h.bound
  bound_word = ap (λ (ws : List ℕ). slice_index ws 0) h.words

  value_word : slice_index s.words 1 ≡ h.value
  value_word = ap (λ (ws : List ℕ). slice_index ws 1) h.words

  counter_word : slice_index s.words 2 ≡ h.counter
  counter_word = ap (λ (ws : List ℕ). slice_index ws 2) h.words

  at_bound : Rule (slice_index s.words 0) h.value h.counter s.views
  at_bound = subst (λ (a : ℕ). Rule a h.value h.counter s.views) (sym bound_word) h.rule

  at_value : Rule h.bound (slice_index s.words 1) h.counter s.views
  at_value = subst (λ (b : ℕ). Rule h.bound b h.counter s.views) (sym value_word) h.rule

  at_counter : Rule h.bound h.value (slice_index s.words 2) s.views
  at_counter = subst (λ (c : ℕ). Rule h.bound h.value c s.views) (sym counter_word) h.rule

  exchanged : (i n a b c : ℕ) (w : SeatView) (then : Me ℕ SeatView → Type 0) → slice_set (h.bound ∷ h.value ∷ h.counter ∷ []) i n ≡ a ∷ b ∷ c ∷ []
      → Rule a b c (slice_set s.views id w) → then (w, me.1) → May s i n id me then
  exchanged i n a b c w then words rule tells = (
    w,
    keeps,
    tt,
    record { bound = a; value = b; counter = c; words = ap (λ (ws : List ℕ). slice_set ws i n) h.words ∙ words; rule = rule },
    tells,
  )

  pub claims : length me.0.claims < most_claims * me.0.seats → May s 2 ((slice_index s.words 2 + 1) % 2 ^ 64) id me (Claims me (slice_index s.words 2))
  claims room =
      let v : SeatView = me.0 in
      let n : ℕ = slice_index s.words 2 in
      let next : ℕ = (n + 1) % 2 ^ 64 in
      let limit : n ≤ most_claims * all_seats = counter_limit h.bound h.value n s.views at_counter in
      let one : next ≡ n + 1 = mod-eq_of_lt (omega arith) in
      let within : IsWithin h.bound h.value v = h.rule.within id v at in
      let bound : h.bound ≤ no_bound = keeping.bound_limit h.bound h.value h.counter s.views h.rule in
      let limit : v.least_given ≤ no_bound = within.limit in
      let longer : length (v.claims ++ n ∷ []) ≡ length v.claims + 1 = length-append v.claims (n ∷ []) in
      exchanged 2 next h.bound h.value next (after_claim v n) (Claims me n) refl
      (keeping.stepped h.bound h.value n h.bound h.value next no_bound 0 (n ∷ []) s.views id v (after_claim v n) at_counter at
      (record { least = omega arith; greatest = omega arith; claims = refl; parts = refl })
      (one_follows n next one) (omega arith) (omega arith) within.lowest_seen within.greatest_seen (omega arith) (omega arith))
      (refl, counter_known h.bound h.value n s.views id v at_counter at)

  pub lowers : (bound : ℕ) → 0 < me.0.seats → May s 0 (min (slice_index s.words 0) bound) id me (Lowers bound me (slice_index s.words 0))
  lowers bound live =
      let v : SeatView = me.0 in
      let n : ℕ = slice_index s.words 0 in
      let within : IsWithin n h.value v = at_bound.within id v at in
      let low : n ≤ v.lowest_seen = within.lowest_seen in
      exchanged 0 (min n bound) (min n bound) h.value h.counter (after_lower v bound n) (Lowers bound me n) refl
      (keeping.stepped n h.value h.counter (min n bound) h.value h.counter bound 0 [] s.views id v (after_lower v bound n) at_bound at
      (record { least = refl; greatest = omega arith; claims = sym (append-nil v.claims); parts = refl })
      (none_follow h.counter) refl (omega arith) (omega arith) within.greatest_seen live within.room)
      (refl, bound_known n h.value h.counter s.views id v at_bound at)

  pub raises : (value : ℕ) → 0 < me.0.seats → May s 1 (max (slice_index s.words 1) value) id me (Raises value me (slice_index s.words 1))
  raises value live =
      let v : SeatView = me.0 in
      let n : ℕ = slice_index s.words 1 in
      let within : IsWithin h.bound n v = at_value.within id v at in
      let high : v.greatest_seen ≤ n = within.greatest_seen in
      let bound : h.bound ≤ no_bound = keeping.bound_limit h.bound n h.counter s.views at_value in
      let limit : v.least_given ≤ no_bound = within.limit in
      exchanged 1 (max n value) h.bound (max n value) h.counter (after_raise v value n) (Raises value me n) refl
      (keeping.stepped h.bound n h.counter h.bound (max n value) h.counter no_bound value [] s.views id v (after_raise v value n) at_value at
      (record { least = omega arith; greatest = refl; claims = sym (append-nil v.claims); parts = refl })
      (none_follow h.counter) (omega arith) refl within.lowest_seen (omega arith) live within.room)
      (refl, value_known h.bound n h.counter s.views id v at_value at)

  pub sees_bound : 0 < me.0.seats → May s 0 (slice_index s.words 0) id me (SeesBound me (slice_index s.words 0))
  sees_bound live =
      let v : SeatView = me.0 in
      let n : ℕ = slice_index s.words 0 in
      let within : IsWithin n h.value v = at_bound.within id v at in
      let bound : n ≤ no_bound = keeping.bound_limit n h.value h.counter s.views at_bound in
      let limit : v.least_given ≤ no_bound = within.limit in
      exchanged 0 n n h.value h.counter (after_look_at_bound v n) (SeesBound me n) refl
      (keeping.stepped n h.value h.counter n h.value h.counter no_bound 0 [] s.views id v (after_look_at_bound v n) at_bound at
      (record { least = omega arith; greatest = omega arith; claims = sym (append-nil v.claims); parts = refl })
      (none_follow h.counter) (omega arith) (omega arith) (omega arith) within.greatest_seen live within.room)
      (refl, bound_known n h.value h.counter s.views id v at_bound at)

  pub sees_value : 0 < me.0.seats → May s 1 (slice_index s.words 1) id me (SeesValue me (slice_index s.words 1))
  sees_value live =
      let v : SeatView = me.0 in
      let n : ℕ = slice_index s.words 1 in
      let within : IsWithin h.bound n v = at_value.within id v at in
      let bound : h.bound ≤ no_bound = keeping.bound_limit h.bound n h.counter s.views at_value in
      let limit : v.least_given ≤ no_bound = within.limit in
      exchanged 1 n h.bound n h.counter (after_look_at_value v n) (SeesValue me n) refl
      (keeping.stepped h.bound n h.counter h.bound n h.counter no_bound 0 [] s.views id v (after_look_at_value v n) at_value at
      (record { least = omega arith; greatest = omega arith; claims = sym (append-nil v.claims); parts = refl })
      (none_follow h.counter) (omega arith) (omega arith) within.lowest_seen (omega arith) live within.room)
      (refl, value_known h.bound n h.counter s.views id v at_value at)

pub splits : (s : State ℕ SeatView) (id : ℕ) (v : SeatView) → 0 < v.seats → 0 < v.tickets → RuleHolds s → get_elem? s.views id ≡ some v
    → RuleHolds record { words = s.words; homes = s.homes; views = slice_set s.views id (after_split v) ++ split_off v ∷ [] }
splits s id v live ticket h at = record {
  bound = h.bound;
  value = h.value;
  counter = h.counter;
  words = h.words;
  rule = keeping.split_kept h.bound h.value h.counter s.views id v h.rule at live ticket;
}

pub joins : (s : State ℕ SeatView) (id other : ℕ) (v w : SeatView) → 0 < v.seats → RuleHolds s → get_elem? s.views id ≡ some v → ¬ (other ≡ id)
    → get_elem? (slice_set s.views id (joined v w)) other ≡ some w
    → RuleHolds record { words = s.words; homes = s.homes; views = slice_set (slice_set s.views id (joined v w)) other spent }
joins s id other v w live h at ne there = record {
  bound = h.bound;
  value = h.value;
  counter = h.counter;
  words = h.words;
  rule = keeping.join_kept h.bound h.value h.counter s.views id other v w h.rule at ne there live;
}

-- the words at the end, for the only seat
pub record Closes (v : SeatView) (a b c : ℕ) : Type 0 where
  pub bound : a ≡ v.least_given
  pub value : b ≡ v.greatest_given
  pub seen : (a ≤ v.lowest_seen) × (v.greatest_seen ≤ b)
  pub count : c ≡ length v.claims
  pub claimed : EachOnce c (λ number. times number v.claims)

pub closes : (id : ℕ) (v : SeatView) (ws xs : List ℕ) (a b c : ℕ) → Final (Seen RuleHolds id v) ws xs
    → get_elem? ws 0 ≡ some a → get_elem? ws 1 ≡ some b → get_elem? ws 2 ≡ some c → IsOnlySeat v → Closes v a b c
closes id v ws xs a b c final first second third only =
    let s : State ℕ SeatView = final.0 in
    let h : RuleHolds s = final.1.0 in
    let at : get_elem? s.views id ≡ some v = final.1.1 in
    let all : ws ≡ h.bound ∷ h.value ∷ h.counter ∷ [] = sym final.2 ∙ h.words in
    let sa : some a ≡ some h.bound = sym first ∙ ap (λ (xs : List ℕ). get_elem? xs 0) all in
    let sb : some b ≡ some h.value = sym second ∙ ap (λ (xs : List ℕ). get_elem? xs 1) all in
    let sc : some c ≡ some h.counter = sym third ∙ ap (λ (xs : List ℕ). get_elem? xs 2) all in
    let ea : a ≡ h.bound = cc in
    let eb : b ≡ h.value = cc in
    let ec : c ≡ h.counter = cc in
    let bound : IsBoundFor v h.bound = bound_known h.bound h.value h.counter s.views id v h.rule at in
    let value : IsValueFor v h.value = value_known h.bound h.value h.counter s.views id v h.rule at in
    let counter : IsCounterFor v h.counter = counter_known h.bound h.value h.counter s.views id v h.rule at in
    let claimed : EachOnce h.counter (λ number. times number v.claims) = only_claims h.bound h.value h.counter s.views id v h.rule at only in
    record {
      bound = ea ∙ bound.alone only;
      value = eb ∙ value.alone only;
      seen = (let low : h.bound ≤ v.lowest_seen = bound.seen in omega arith, let high : v.greatest_seen ≤ h.value = value.seen in omega arith);
      count = ec ∙ counter.alone only;
      claimed = subst (λ (k : ℕ). EachOnce k (λ number. times number v.claims)) (sym ec) claimed;
    }
