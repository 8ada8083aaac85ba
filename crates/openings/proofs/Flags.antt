-- Flags that say where something holds, and those of a request's starts on a telescope.
use Rattle.std.proofs.Common.{◌≡◌, ◌↔◌, ℕ, ◌+◌, ◌-◌, ◌<◌, ◌≤◌, ◌⊎◌, inl, inr, Bool, true, false, min, ℤ, pos, List, [], ◌∷◌, ◌++◌, map, length}
use Rattle.std.proofs.Common.{length-append, replicate, slice_index_or, Contains, Result, Ok, Err, IfOk, refl, sym, ◌∙◌, ap, subst, arith}
use Rattle.std.proofs.lemmas.Bool.{false≢true}
use Rattle.std.proofs.lemmas.List.{get_or_default, get_or_append_left, get_or_push, length_push, get_or-append_right, get_or_past, get_or-replicate}
use Rattle.std.proofs.lemmas.List.{length-replicate}
use Rattle.plan_base.specs.declared.parts.Parts.{Parts}
use Rattle.plan_base.specs.declared.parts.RequestPart.{RequestPart}
use Rattle.plan_base.specs.declared.span.Span.{Span}
use Rattle.plan_base.specs.declared.claim.Placement.{Placement}
use Rattle.plan_base.specs.declared.number.SiteNo.{SiteNo}
use Rattle.plan_base.specs.declared.number.TelescopeNo.{TelescopeNo}
use Rattle.plan_base.specs.Snapshot.{IsOrderly}
use Rattle.plan_base.specs.Requests.{place_of, IsKnown, seconds_of, request_value, fade_of, windows_of}
use Rattle.plan_base.specs.Starts.{slices_for, size_of, least_of, IsPossibleStart}
use Rattle.plan_base.specs.Tables.{row}
use Rattle.plan_base.proofs.Here.{IsHere}
use Rattle.bound_checker.specs.declared.worth.Offer.{Offer}
use Rattle.bound_checker.specs.declared.sight.Sight.{Sight}
use Rattle.bound_checker.specs.declared.stretches.Stretch.{Stretch}
use Rattle.bound_checker.specs.Stretches.{IsStretch}
use Rattle.bound_checker.specs.Sights.{IsInSight}
use Rattle.bound_checker.specs.Offers.{IsOfferRange, IsOffer, offer_weight}
use Rattle.bound_checker.specs.Listings.{CanStart}
use Rattle.bound_checker.proofs.Seen.{IsSightOf, seen_if_possible, possible_if_seen}
use Rattle.bound_checker.proofs.Telling.{told_by}
use Rattle.openings.specs.Openings.{IsStartAt}
use Rattle.openings.specs.Openings.{IsSet, IsFlagged, CanStartAt, IsOpenRow, IsOfferOf, AreRowsTo}
use Rattle.openings.proofs.Numbers.{below_or_at, same_number}

-- the flags at the first n places are set where P holds
pub record IsFlaggedTo (P : ℕ → Type 0) (n : ℕ) (flags : List Bool) : Type 0 where
  pub count : length flags ≡ n
  pub each : (i : ℕ) → i < n → IsSet flags i ↔ P i

below_or_from : (a b : ℕ) → (a < b) ⊎ (b ≤ a)
below_or_from a b = grind arith

pub flags_start : (P : ℕ → Type 0) → IsFlaggedTo P 0 []
flags_start P = record { count = refl; each = λ i l. absurd (omega arith) }

-- a flag so many times more
pub flags_more : (P : ℕ → Type 0) (n m : ℕ) (old new : List Bool) (flag : Bool) → new ≡ old ++ replicate m flag
    → ((i : ℕ) → n ≤ i → i < n + m → (flag ≡ true) ↔ P i) → IsFlaggedTo P n old → IsFlaggedTo P (n + m) new
flags_more P n m old new flag is alike before =
    let count : length old ≡ n = before.count in
    let added : length (replicate m flag) ≡ m = length-replicate m flag in
    record {
      count = let all : length (old ++ replicate m flag) ≡ length old + length (replicate m flag) = length-append old (replicate m flag) in
          ap (λ (xs : List Bool). length xs) is ∙ omega arith;
      each = λ i l. elim (below_or_from i n) [
        | inl below ↦
            let same : slice_index_or new i false ≡ slice_index_or old i false = ap (λ (xs : List Bool). slice_index_or xs i false) is
            ∙ get_or_append_left old (replicate m flag) false i (omega arith) in
            subst (λ (b : Bool). (b ≡ true) ↔ P i) (sym same) (before.each i below)
        | inr from ↦
            let same : slice_index_or new i false ≡ flag
            = ap (λ (xs : List Bool). slice_index_or xs i false) is ∙ get_or-append_right old (replicate m flag) n i false count from
            ∙ get_or-replicate m (i - n) flag false (omega arith) in
            subst (λ (b : Bool). (b ≡ true) ↔ P i) (sym same) (alike i from l)
      ];
    }

-- no place after the last flag
pub flags_all : (P : ℕ → Type 0) (n most : ℕ) (flags : List Bool) → n ≤ most → ((i : ℕ) → n ≤ i → ¬ (P i)) → IsFlaggedTo P n flags → IsFlagged P most flags
flags_all P n most flags few none before =
    let count : length flags ≡ n = before.count in
    record {
      few = omega arith;
      each = λ i. elim (below_or_from i n) [
        | inl below ↦ before.each i below
        | inr from ↦ (λ is. absurd (false≢true (sym (get_or_past flags i false (omega arith)) ∙ is)), λ holds. absurd (none i from holds))
      ];
    }

-- no place at all
pub flags_none : (P : ℕ → Type 0) (most : ℕ) (flags : List Bool) → flags ≡ [] → ((i : ℕ) → ¬ (P i)) → IsFlagged P most flags
flags_none P most flags is none = subst (IsFlagged P most) (sym is) (flags_all P 0 most [] (omega arith) (λ i l. none i) (flags_start P))

-- the request at the place of number r has it
pub number_here : (s : Parts) (r place : ℕ) (q : RequestPart) → IsHere s place q → IsKnown s r → place ≡ place_of s r → q.request.0 ≡ r
number_here s r place q here known at = same_number s q.request.0 r here.known known (here.at ∙ at)

-- what it offers
pub offer_is : (s : Parts) (prices : List ℤ) (r place : ℕ) (q : RequestPart) (o : Offer) → IsHere s place q → q.request.0 ≡ r
    → IsOffer s.len q (slice_index_or prices place (pos 0)) o → IsOfferRange o → IsOfferOf s prices r o
offer_is s prices r place q o here same offer range = record {
  len = offer.len;
  seconds = offer.seconds ∙ sym here.seconds ∙ ap (seconds_of s) same;
  price = offer.price ∙ ap (λ (n : ℕ). slice_index_or prices n (pos 0)) (sym here.at ∙ ap (place_of s) same);
  value = offer.value ∙ sym here.value ∙ ap (request_value s) same;
  fade = offer.fade ∙ sym here.fade ∙ ap (fade_of s) same;
  earliest = offer.earliest ∙ ap (λ (ws : List Span). slices_for s.len (least_of (map (λ w. w.from.0) ws))) (sym here.windows ∙ ap (windows_of s) same);
  size = offer.size ∙ ap (slices_for s.len) (sym here.seconds) ∙ ap (size_of s) same;
  weighs = λ p is from.
      let at : p.slice.0 ≡ s.first.0 + (p.slice.0 - s.first.0) = omega arith in
      ap (offer_weight o) at ∙ (told_by s prices place q o p (p.slice.0 - s.first.0) here offer (is ∙ sym same) at).gives;
  range = range;
}

-- the flags of a stretch after those before it
module _ (s : Parts) (sight : Sight) (o : Offer) (slice end stop : ℕ) (x : Stretch) (stretch : IsStretch (IsInSight sight o.observation) slice x)
    (from : s.first.0 ≤ slice) (more : slice < stop) (stop_is : stop ≡ s.first.0 + s.slices + 1 - o.size) (end_is : end ≡ min x.end stop) where
  abbrev Can : ℕ → Type 0
  Can i = CanStart s sight o (s.first.0 + i)

  pub goes_on : slice < end
  goes_on = let later : slice < x.end = stretch.later in omega arith

  pub flags_swept : (old new : List Bool) → new ≡ old ++ replicate (end - slice) x.fits → IsFlaggedTo Can (slice - s.first.0) old
      → IsFlaggedTo Can (end - s.first.0) new
  flags_swept old new is before =
      let on : slice < end = goes_on in
      let all : slice - s.first.0 + (end - slice) ≡ end - s.first.0 = omega arith in
      subst (λ (n : ℕ). IsFlaggedTo Can n new) all
      (flags_more Can (slice - s.first.0) (end - slice) old new x.fits is
      (λ i l m.
      let alike = stretch.alike (s.first.0 + i) (omega arith) (omega arith) in
      (λ fits. record { begins = omega arith; ends = omega arith; in_sight = alike.0 fits }, λ can. alike.1 can.in_sight))
      before)

-- no start is past the last slice from which it ends within the horizon
pub flags_ended : (s : Parts) (sight : Sight) (o : Offer) (slice stop : ℕ) (flags : List Bool) → s.first.0 ≤ slice → slice ≤ s.first.0 + s.slices
    → stop ≤ slice → stop ≡ s.first.0 + s.slices + 1 - o.size
    → IsFlaggedTo (λ i. CanStart s sight o (s.first.0 + i)) (slice - s.first.0) flags → IsFlagged (λ i. CanStart s sight o (s.first.0 + i)) s.slices flags
flags_ended s sight o slice stop flags from within end stop_is before =
    flags_all (λ i. CanStart s sight o (s.first.0 + i)) (slice - s.first.0) s.slices flags (omega arith)
    (λ i l can. let ends : s.first.0 + i + o.size ≤ s.first.0 + s.slices = can.ends in absurd (omega arith)) before

-- where no start is, no flag is needed
pub row_none : (s : Parts) (t r : ℕ) (q : RequestPart) (flags : List Bool) → flags ≡ [] → q.request.0 ≡ r
    → ((p : Placement) → p.request.0 ≡ q.request.0 → p.telescope.0 ≡ t → IsPossibleStart s p → ⊥) → IsOpenRow s t r flags
row_none s t r q flags is same never =
    flags_none (λ i. CanStartAt s t r (s.first.0 + i)) s.slices flags is
    (λ i can. never can.0 (can.1.start.same_request ∙ sym same) can.1.same_telescope can.1.start.possible)

module _ (s : Parts) (t : TelescopeNo) (place r : ℕ) (q : RequestPart) (site : SiteNo) (x : Sight) (price : ℤ) (o : Offer) (orderly : IsOrderly s)
    (here : IsHere s place q) (same : q.request.0 ≡ r) (able : Contains q.telescopes t) (sight : IsSightOf s t.0 q site x)
    (offer : IsOffer s.len q price o) where
  abbrev placed : ℕ → Placement
  placed k = record { request = q.request; telescope = t; slice = record { 0 = k } }

  -- flags of what is in sight are those of the request's starts
  pub row_in_sight : (flags : List Bool) → IsFlagged (λ i. CanStart s x o (s.first.0 + i)) s.slices flags → IsOpenRow s t.0 r flags
  row_in_sight flags are = record {
    few = are.few;
    each = λ i. (
      λ is.
          let can : CanStart s x o (s.first.0 + i) = (are.each i).0 is in (
            placed (s.first.0 + i),
            record {
              start = record {
                possible = possible_if_seen s t.0 place q site x price o orderly here sight offer
                    (placed (s.first.0 + i)) refl refl able can;
                same_request = same;
              };
              same_telescope = refl;
            },
            refl,
          ),
      λ can.
          let seen : CanStart s x o can.0.slice.0 = seen_if_possible s t.0 place q site x price o orderly here sight offer can.0
          (can.1.start.same_request ∙ sym same) can.1.same_telescope can.1.start.possible in
          (are.each i).1 (subst (CanStart s x o) can.2 seen),
    );
  }

pub rows_none : (s : Parts) (r : ℕ) → AreRowsTo s r 0 []
rows_none s r = record { count = refl; each = λ t l. absurd (omega arith) }

pub rows_more : (s : Parts) (r n : ℕ) (rows : List (List Bool)) (flags : List Bool) → AreRowsTo s r n rows → IsOpenRow s n r flags
    → AreRowsTo s r (n + 1) (rows ++ flags ∷ [])
rows_more s r n rows flags are next =
    let count : length rows ≡ n = are.count in
    record {
      count = length_push rows flags ∙ ap (λ (m : ℕ). m + 1) count;
      each = λ t l. elim (below_or_at t n l) [
        | inl below ↦ subst (IsOpenRow s t r) (sym (get_or_append_left rows (flags ∷ []) [] t (omega arith))) (are.each t below)
        | inr at ↦ subst (λ (u : ℕ). IsOpenRow s u r (row (rows ++ flags ∷ []) t)) (sym at)
            (subst (IsOpenRow s n r) (sym (get_or_push rows flags [] t (count ∙ sym at))) next)
      ];
    }

-- what was read as the row of telescope t
pub row_read : (rows : List (List Bool)) (t i : ℕ) (xs read : List Bool) → t < length rows → i ≡ t → read ≡ slice_index_or rows i read
    → xs ≡ read → xs ≡ row rows t
row_read rows t i xs read l at is same = same ∙ is ∙ ap (λ (n : ℕ). slice_index_or rows n read) at ∙ get_or_default rows t read [] l

-- where a flag was read that is set, a start is
pub can_there : (s : Parts) (t r n : ℕ) (rows : List (List Bool)) (i index : ℕ) (xs read : List Bool) → AreRowsTo s r n rows → t < n → i ≡ t
    → read ≡ slice_index_or rows i read → xs ≡ read → IsSet xs index → CanStartAt s t r (s.first.0 + index)
can_there s t r n rows i index xs read are l at is same is_set =
    let count : length rows ≡ n = are.count in
    ((are.each t l).each index).0 (ap (λ (ys : List Bool). slice_index_or ys index false) (sym (row_read rows t i xs read (omega arith) at is same)) ∙ is_set)

-- a flag that is set stands before the end, and so does a start
pub start_before : (s : Parts) (t r n : ℕ) (flags : List Bool) → IsOpenRow s t r flags → length flags ≤ n → (p : Placement) → IsStartAt s t r p
    → p.slice.0 < s.first.0 + n
start_before s t r n flags open_row all p start =
    let begins : s.first.0 ≤ p.slice.0 = start.start.possible.begins in
    let is_set : IsSet flags (p.slice.0 - s.first.0) = (open_row.each (p.slice.0 - s.first.0)).1 (p, start, omega arith) in
    elim (below_or_from (p.slice.0 - s.first.0) n) [
      | inl below ↦ omega arith
      | inr past ↦ absurd (false≢true (sym (get_or_past flags (p.slice.0 - s.first.0) false (omega arith)) ∙ is_set))
    ]

pub ok_said : {T E : Type 0} (r : Result T E) (P Q : T → Type 0) → ((x : T) → P x → Q x) → IfOk r P → IfOk r Q
ok_said (Ok x) P Q f h = f x h
ok_said (Err e) P Q f h = h
