-- Each kind of step keeps the rule.
use Rattle.std.proofs.Common.{◌≡◌, ℕ, ◌+◌, ◌*◌, ◌≤◌, ◌<◌, inl, inr, List, [], ◌∷◌, ◌++◌, slice_set, min, max, refl, ◌∙◌, subst, arith, length, length-append}
use mathlib.Core.Option.{some}
use lib.ListN.{get_elem?}
use Rattle.atomic_table.proofs.Lists.{at_set, at_snoc}
use Rattle.board.specs.declared.seat.SeatView.{SeatView}
use Rattle.board.specs.Views.{no_bound, most_claims, least_of, greatest_of, all_times, all_claims}
use Rattle.board.specs.Steps.{after_split, split_off, joined, spent}
use Rattle.board.specs.Rule.{IsWithin, EachView, Rule}
use Rattle.board.proofs.Claims.{Follow, none_follow, each_once_more}
use Rattle.board.proofs.Changes.{Change, Given, changed, divided, merged, least_limit}

-- a view stays within a bound that falls and a value that rises
still_within : (a b a' b' : ℕ) (v : SeatView) → a' ≤ a → b ≤ b' → IsWithin a b v → IsWithin a' b' v
still_within a b a' b' v falls rises h =
    let low : a ≤ v.lowest_seen = h.lowest_seen in
    let high : v.greatest_seen ≤ b = h.greatest_seen in
    record { lowest_seen = omega arith; greatest_seen = omega arith; room = h.room; spent = h.spent; limit = h.limit }

each_set : (a b a' b' : ℕ) (vs : List SeatView) (i : ℕ) (w : SeatView) → a' ≤ a → b ≤ b' → EachView (IsWithin a b) vs → IsWithin a' b' w
    → EachView (IsWithin a' b') (slice_set vs i w)
each_set a b a' b' vs i w falls rises each new j x at = elim (at_set vs i j w x at) [
  | inl e ↦ subst (IsWithin a' b') e.1 new
  | inr e ↦ still_within a b a' b' x falls rises (each j x e.1)
]

each_snoc : (a b : ℕ) (vs : List SeatView) (w : SeatView) → EachView (IsWithin a b) vs → IsWithin a b w → EachView (IsWithin a b) (vs ++ w ∷ [])
each_snoc a b vs w each new j x at = elim (at_snoc vs w x j at) [
  | inl e ↦ each j x e
  | inr e ↦ subst (IsWithin a b) e new
]

-- The step: the words become what was given and claimed, and so do the views
pub kept : (a b c a' b' c' bound value : ℕ) (numbers : List ℕ) (old new : List SeatView) → Rule a b c old
    → Change old new bound value numbers → Follow c c' numbers
    → a' ≡ min a bound → b' ≡ max b value → EachView (IsWithin a' b') new → Rule a' b' c' new
kept a b c a' b' c' bound value numbers old new rule change follow falls rises within = record {
  least =
      let before : a ≡ least_of old = rule.least in
      let after : least_of new ≡ min (least_of old) bound = change.least in
      omega arith;
  greatest =
      let before : b ≡ greatest_of old = rule.greatest in
      let after : greatest_of new ≡ max (greatest_of old) value = change.greatest in
      omega arith;
  claimed = each_once_more c c' numbers (λ number. all_times number old) (λ number. all_times number new) rule.claimed follow change.claimed;
  counted =
      let before : c ≡ all_claims old = rule.counted in
      let after : all_claims new ≡ all_claims old + length numbers = change.counted in
      let next : c' ≡ c + length numbers = follow.counted in
      omega arith;
  parts = change.parts ∙ rule.parts;
  within = within;
}

-- no bound is above the greatest u64
pub bound_limit : (a b c : ℕ) (views : List SeatView) → Rule a b c views → a ≤ no_bound
bound_limit a b c views rule =
    let least : a ≡ least_of views = rule.least in
    let limit : least_of views ≤ no_bound = least_limit views in
    omega arith

-- a step of one seat, by which the word of the bound, of the value or of the counter may change
pub stepped : (a b c a' b' c' bound value : ℕ) (numbers : List ℕ) (vs : List SeatView) (i : ℕ) (v w : SeatView) → Rule a b c vs → get_elem? vs i ≡ some v
    → Given v w bound value numbers → Follow c c' numbers → a' ≡ min a bound → b' ≡ max b value
    → a' ≤ w.lowest_seen → w.greatest_seen ≤ b' → 0 < w.seats → length w.claims ≤ most_claims * w.seats → Rule a' b' c' (slice_set vs i w)
stepped a b c a' b' c' bound value numbers vs i v w rule at given follow falls rises low high live room =
    let before : IsWithin a b v = rule.within i v at in
    let limit : v.least_given ≤ no_bound = before.limit in
    let gave : w.least_given ≡ min v.least_given bound = given.least in
    kept a b c a' b' c' bound value numbers vs (slice_set vs i w) rule (changed vs i v w bound value numbers at given) follow falls rises
    (each_set a b a' b' vs i w (omega arith) (omega arith) rule.within
    (record { lowest_seen = low; greatest_seen = high; room = room; spent = λ z. absurd (omega arith); limit = omega arith }))

pub split_kept : (a b c : ℕ) (vs : List SeatView) (i : ℕ) (v : SeatView) → Rule a b c vs → get_elem? vs i ≡ some v → 0 < v.seats → 0 < v.tickets
    → Rule a b c (slice_set vs i (after_split v) ++ split_off v ∷ [])
split_kept a b c vs i v rule at live ticket =
    let before : IsWithin a b v = rule.within i v at in
    let limit : a ≤ no_bound = bound_limit a b c vs rule in
    kept a b c a b c no_bound 0 [] vs (slice_set vs i (after_split v) ++ split_off v ∷ []) rule (divided vs i v at ticket before.limit) (none_follow c)
    (omega arith) (omega arith)
    (each_snoc a b (slice_set vs i (after_split v)) (split_off v)
    (each_set a b a b vs i (after_split v) (omega arith) (omega arith) rule.within
    (record {
      lowest_seen = before.lowest_seen;
      greatest_seen = before.greatest_seen;
      room = before.room;
      spent = λ z. absurd (omega arith);
      limit = before.limit;
    }))
    (record {
      lowest_seen = before.lowest_seen;
      greatest_seen = before.greatest_seen;
      room = omega arith;
      spent = λ z. absurd (omega arith);
      limit = omega arith;
    }))

pub join_kept : (a b c : ℕ) (vs : List SeatView) (i j : ℕ) (v w : SeatView) → Rule a b c vs → get_elem? vs i ≡ some v → ¬ (j ≡ i)
    → get_elem? (slice_set vs i (joined v w)) j ≡ some w → 0 < v.seats → Rule a b c (slice_set (slice_set vs i (joined v w)) j spent)
join_kept a b c vs i j v w rule at other there live =
    let was : get_elem? vs j ≡ some w = elim (at_set vs i j (joined v w) w there) [ inl e ↦ absurd (other e.0) | inr e ↦ e.1 ] in
    let first : IsWithin a b v = rule.within i v at in
    let second : IsWithin a b w = rule.within j w was in
    let low : a ≤ v.lowest_seen = first.lowest_seen in
    let lower : a ≤ w.lowest_seen = second.lowest_seen in
    let high : v.greatest_seen ≤ b = first.greatest_seen in
    let higher : w.greatest_seen ≤ b = second.greatest_seen in
    let room : length v.claims ≤ most_claims * v.seats = first.room in
    let more : length w.claims ≤ most_claims * w.seats = second.room in
    let both : length (v.claims ++ w.claims) ≡ length v.claims + length w.claims = length-append v.claims w.claims in
    let limit : v.least_given ≤ no_bound = first.limit in
    let bound : a ≤ no_bound = bound_limit a b c vs rule in
    kept a b c a b c no_bound 0 [] vs (slice_set (slice_set vs i (joined v w)) j spent) rule (merged vs i j v w at other there second.limit) (none_follow c)
    (omega arith) (omega arith)
    (each_set a b a b (slice_set vs i (joined v w)) j spent (omega arith) (omega arith)
    (each_set a b a b vs i (joined v w) (omega arith) (omega arith) rule.within
    (record { lowest_seen = omega arith; greatest_seen = omega arith; room = omega arith; spent = λ z. absurd (omega arith); limit = omega arith }))
    (record {
      lowest_seen = omega arith;
      greatest_seen = omega arith;
      room = omega arith;
      spent = λ z. record { bound = refl; value = refl; tickets = refl; claims = refl };
      limit = omega arith;
    }))
