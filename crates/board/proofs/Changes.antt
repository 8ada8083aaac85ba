-- What each kind of step gives and claims, over all views.
use Rattle.std.proofs.Common.{◌≡◌, ℕ, zero, suc, ◌+◌, ◌-◌, ◌≤◌, ◌<◌, inl, inr, List, [], ◌∷◌, ◌++◌, slice_set, min, max, refl, sym, ap, ◌∙◌, arith}
use Rattle.std.proofs.Common.{length, length-append, add_assoc, add_comm}
use Rattle.std.proofs.Math.Nat.{min_comm}
use mathlib.Core.Option.{some}
use lib.ListN.{get_elem?}
use Rattle.atomic_table.proofs.Lists.{at_set, set_else}
use Rattle.board.specs.declared.seat.SeatView.{SeatView}
use Rattle.board.specs.Views.{no_bound, times, total, least_of, greatest_of, all_times, all_claims, all_parts}
use Rattle.board.specs.Steps.{after_split, split_off, joined, spent}
use Rattle.board.proofs.Claims.{times_both}
use Rattle.board.proofs.Together.{together_set, together_snoc, together_at}

pub min_assoc : (a b c : ℕ) → min (min a b) c ≡ min a (min b c)
min_assoc a b c = omega arith

pub max_assoc : (a b c : ℕ) → max (max a b) c ≡ max a (max b c)
max_assoc a b c = omega arith

pub max_comm : (a b : ℕ) → max a b ≡ max b a
max_comm a b = omega arith

min_same : (a : ℕ) → min a a ≡ a
min_same a = omega arith

max_same : (a : ℕ) → max a a ≡ a
max_same a = omega arith

pub total_set : (f : SeatView → ℕ) (vs : List SeatView) (i : ℕ) (v w : SeatView) → get_elem? vs i ≡ some v → total f (slice_set vs i w) + f v ≡ total f vs + f w
total_set f vs i v w at = together_set ◌+◌ 0 add_comm add_assoc f vs i v w at

pub total_snoc : (f : SeatView → ℕ) (vs : List SeatView) (w : SeatView) → total f (vs ++ w ∷ []) ≡ total f vs + f w
total_snoc f vs w = together_snoc ◌+◌ 0 add_comm add_assoc f vs w

least_set : (vs : List SeatView) (i : ℕ) (v w : SeatView) → get_elem? vs i ≡ some v
    → min (least_of (slice_set vs i w)) v.least_given ≡ min (least_of vs) w.least_given
least_set vs i v w at = together_set min no_bound min_comm min_assoc (λ u. u.least_given) vs i v w at

pub least_at : (vs : List SeatView) (i : ℕ) (v : SeatView) → get_elem? vs i ≡ some v → min v.least_given (least_of vs) ≡ least_of vs
least_at vs i v at = together_at min no_bound min_comm min_assoc (λ u. u.least_given) min_same vs i v at

greatest_set : (vs : List SeatView) (i : ℕ) (v w : SeatView) → get_elem? vs i ≡ some v
    → max (greatest_of (slice_set vs i w)) v.greatest_given ≡ max (greatest_of vs) w.greatest_given
greatest_set vs i v w at = together_set max 0 max_comm max_assoc (λ u. u.greatest_given) vs i v w at

pub greatest_at : (vs : List SeatView) (i : ℕ) (v : SeatView) → get_elem? vs i ≡ some v → max v.greatest_given (greatest_of vs) ≡ greatest_of vs
greatest_at vs i v at = together_at max 0 max_comm max_assoc (λ u. u.greatest_given) max_same vs i v at

pub least_limit : (vs : List SeatView) → least_of vs ≤ no_bound
least_limit [] = omega arith
least_limit (x ∷ vs) = let rest : least_of vs ≤ no_bound = least_limit vs in omega arith

pub set_there : (vs : List SeatView) (i : ℕ) (v w : SeatView) → get_elem? vs i ≡ some v → get_elem? (slice_set vs i w) i ≡ some w
set_there [] i v w at = cc
set_there (x ∷ vs) zero v w at = refl
set_there (x ∷ vs) (suc i) v w at = set_there vs i v w at

-- the new views are the old ones with this bound and this value given and these numbers claimed
pub record Change (old new : List SeatView) (bound value : ℕ) (numbers : List ℕ) : Type 0 where
  pub least : least_of new ≡ min (least_of old) bound
  pub greatest : greatest_of new ≡ max (greatest_of old) value
  pub claimed : (number : ℕ) → all_times number new ≡ all_times number old + times number numbers
  pub counted : all_claims new ≡ all_claims old + length numbers
  pub parts : all_parts new ≡ all_parts old

-- what the seat has given and claimed is in w what it is in v, and this bound, this value and these numbers
pub record Given (v w : SeatView) (bound value : ℕ) (numbers : List ℕ) : Type 0 where
  pub least : w.least_given ≡ min v.least_given bound
  pub greatest : w.greatest_given ≡ max v.greatest_given value
  pub claims : w.claims ≡ v.claims ++ numbers
  pub parts : w.seats + w.tickets ≡ v.seats + v.tickets

-- one seat's step
pub changed : (vs : List SeatView) (i : ℕ) (v w : SeatView) (bound value : ℕ) (numbers : List ℕ) → get_elem? vs i ≡ some v → Given v w bound value numbers
    → Change vs (slice_set vs i w) bound value numbers
changed vs i v w bound value numbers at given =
    let new : List SeatView = slice_set vs i w in
    let there : get_elem? new i ≡ some w = set_there vs i v w at in
    record {
      least =
          let set : min (least_of new) v.least_given ≡ min (least_of vs) w.least_given = least_set vs i v w at in
          let before : min v.least_given (least_of vs) ≡ least_of vs = least_at vs i v at in
          let after : min w.least_given (least_of new) ≡ least_of new = least_at new i w there in
          let gave : w.least_given ≡ min v.least_given bound = given.least in
          omega arith;
      greatest =
          let set : max (greatest_of new) v.greatest_given ≡ max (greatest_of vs) w.greatest_given = greatest_set vs i v w at in
          let before : max v.greatest_given (greatest_of vs) ≡ greatest_of vs = greatest_at vs i v at in
          let after : max w.greatest_given (greatest_of new) ≡ greatest_of new = greatest_at new i w there in
          let gave : w.greatest_given ≡ max v.greatest_given value = given.greatest in
          omega arith;
      claimed = λ number.
          let set : all_times number new + times number v.claims ≡ all_times number vs + times number w.claims =
          total_set (λ u. times number u.claims) vs i v w at in
          let more : times number w.claims ≡ times number v.claims + times number numbers = ap (λ (l : List ℕ). times number l) given.claims
          ∙ times_both number v.claims numbers in
          omega arith;
      counted =
          let set : all_claims new + length v.claims ≡ all_claims vs + length w.claims = total_set (λ u. length u.claims) vs i v w at in
          let more : length w.claims ≡ length v.claims + length numbers = ap (λ (l : List ℕ). length l) given.claims ∙ length-append v.claims numbers in
          omega arith;
      parts =
          let set : all_parts new + (v.seats + v.tickets) ≡ all_parts vs + (w.seats + w.tickets) = total_set (λ u. u.seats + u.tickets) vs i v w at in
          let same : w.seats + w.tickets ≡ v.seats + v.tickets = given.parts in
          omega arith;
    }

-- a seat is split off
pub divided : (vs : List SeatView) (i : ℕ) (v : SeatView) → get_elem? vs i ≡ some v → 0 < v.tickets → v.least_given ≤ no_bound
    → Change vs (slice_set vs i (after_split v) ++ split_off v ∷ []) no_bound 0 []
divided vs i v at ticket limit =
    let left : List SeatView = slice_set vs i (after_split v) in
    let new : List SeatView = left ++ split_off v ∷ [] in
    let there : get_elem? left i ≡ some (after_split v) = set_there vs i v (after_split v) at in
    record {
      least =
          let set : min (least_of left) v.least_given ≡ min (least_of vs) v.least_given = least_set vs i v (after_split v) at in
          let before : min v.least_given (least_of vs) ≡ least_of vs = least_at vs i v at in
          let after : min v.least_given (least_of left) ≡ least_of left = least_at left i (after_split v) there in
          let more : least_of new ≡ min (least_of left) no_bound = together_snoc min no_bound min_comm min_assoc (λ u. u.least_given) left (split_off v) in
          omega arith;
      greatest =
          let set : max (greatest_of left) v.greatest_given ≡ max (greatest_of vs) v.greatest_given = greatest_set vs i v (after_split v) at in
          let before : max v.greatest_given (greatest_of vs) ≡ greatest_of vs = greatest_at vs i v at in
          let after : max v.greatest_given (greatest_of left) ≡ greatest_of left = greatest_at left i (after_split v) there in
          let more : greatest_of new ≡ max (greatest_of left) 0 = together_snoc max 0 max_comm max_assoc (λ u. u.greatest_given) left (split_off v) in
          omega arith;
      claimed = λ number.
          let set : all_times number left + times number v.claims ≡ all_times number vs + times number v.claims =
          total_set (λ u. times number u.claims) vs i v (after_split v) at in
          let more : all_times number new ≡ all_times number left + 0 = total_snoc (λ u. times number u.claims) left (split_off v) in
          let none : times number [] ≡ 0 = refl in
          omega arith;
      counted =
          let set : all_claims left + length v.claims ≡ all_claims vs + length v.claims = total_set (λ u. length u.claims) vs i v (after_split v) at in
          let more : all_claims new ≡ all_claims left + 0 = total_snoc (λ u. length u.claims) left (split_off v) in
          omega arith;
      parts =
          let set : all_parts left + (v.seats + v.tickets) ≡ all_parts vs + (v.seats + (v.tickets - 1)) =
          total_set (λ u. u.seats + u.tickets) vs i v (after_split v) at in
          let more : all_parts new ≡ all_parts left + 1 = total_snoc (λ u. u.seats + u.tickets) left (split_off v) in
          omega arith;
    }

-- a number that is added up stays, where two views become one and a spent one
total_kept : (f : SeatView → ℕ) (vs : List SeatView) (i j : ℕ) (v w : SeatView) → get_elem? vs i ≡ some v → get_elem? (slice_set vs i (joined v w)) j ≡ some w
    → f (joined v w) ≡ f v + f w → f spent ≡ 0 → total f (slice_set (slice_set vs i (joined v w)) j spent) ≡ total f vs
total_kept f vs i j v w at there adds none =
    let middle : List SeatView = slice_set vs i (joined v w) in
    let set : total f middle + f v ≡ total f vs + f (joined v w) = total_set f vs i v (joined v w) at in
    let taken : total f (slice_set middle j spent) + f w ≡ total f middle + f spent = total_set f middle j w spent there in
    omega arith

-- a seat is joined into another
pub merged : (vs : List SeatView) (i j : ℕ) (v w : SeatView) → get_elem? vs i ≡ some v → ¬ (j ≡ i) → get_elem? (slice_set vs i (joined v w)) j ≡ some w
    → w.least_given ≤ no_bound → Change vs (slice_set (slice_set vs i (joined v w)) j spent) no_bound 0 []
merged vs i j v w at other there limit =
    let middle : List SeatView = slice_set vs i (joined v w) in
    let new : List SeatView = slice_set middle j spent in
    let was : get_elem? vs j ≡ some w = elim (at_set vs i j (joined v w) w there) [ inl e ↦ absurd (other e.0) | inr e ↦ e.1 ] in
    let stays : get_elem? new i ≡ some (joined v w) = set_else middle j i spent (λ e. other (sym e)) ∙ set_there vs i v (joined v w) at in
    record {
      least =
          let set : min (least_of middle) v.least_given ≡ min (least_of vs) (min v.least_given w.least_given) = least_set vs i v (joined v w) at in
          let taken : min (least_of new) w.least_given ≡ min (least_of middle) no_bound = least_set middle j w spent there in
          let first : min v.least_given (least_of vs) ≡ least_of vs = least_at vs i v at in
          let second : min w.least_given (least_of vs) ≡ least_of vs = least_at vs j w was in
          let third : min w.least_given (least_of middle) ≡ least_of middle = least_at middle j w there in
          let both : min (min v.least_given w.least_given) (least_of new) ≡ least_of new = least_at new i (joined v w) stays in
          let half : min (min v.least_given w.least_given) (least_of middle) ≡ least_of middle =
          least_at middle i (joined v w) (set_there vs i v (joined v w) at) in
          omega arith;
      greatest =
          let set : max (greatest_of middle) v.greatest_given ≡ max (greatest_of vs) (max v.greatest_given w.greatest_given) =
          greatest_set vs i v (joined v w) at in
          let taken : max (greatest_of new) w.greatest_given ≡ max (greatest_of middle) 0 = greatest_set middle j w spent there in
          let first : max v.greatest_given (greatest_of vs) ≡ greatest_of vs = greatest_at vs i v at in
          let second : max w.greatest_given (greatest_of vs) ≡ greatest_of vs = greatest_at vs j w was in
          let both : max (max v.greatest_given w.greatest_given) (greatest_of new) ≡ greatest_of new = greatest_at new i (joined v w) stays in
          let half : max (max v.greatest_given w.greatest_given) (greatest_of middle) ≡ greatest_of middle =
          greatest_at middle i (joined v w) (set_there vs i v (joined v w) at) in
          omega arith;
      claimed = λ number.
          let kept : all_times number new ≡ all_times number vs =
          total_kept (λ u. times number u.claims) vs i j v w at there (times_both number v.claims w.claims) refl in
          let none : times number [] ≡ 0 = refl in
          omega arith;
      counted =
          let kept : all_claims new ≡ all_claims vs = total_kept (λ u. length u.claims) vs i j v w at there (length-append v.claims w.claims) refl in
          omega arith;
      parts = total_kept (λ u. u.seats + u.tickets) vs i j v w at there (omega arith) refl;
    }
