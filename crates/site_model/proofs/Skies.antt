-- What another sky changes.
use Rattle.std.proofs.Common.{◌≡◌, ◌+◌, ◌-◌, ◌<◌, ◌≤◌, List, [], ◌∷◌, Some, None, length, refl, arith}
use Rattle.std.proofs.lemmas.Bool.Decides.{nat_tests}
use Rattle.std.specs.Prelude.{ℕ, Bool, true, false, if◌then◌else◌, sum_by, All, AllPairs}
use Rattle.std.proofs.lemmas.Grind.{common_steps}
use Rattle.std.proofs.lemmas.List.Elements.{All-head, All-tail, All-cons}
use Rattle.std.proofs.lemmas.List.Sums.{sum_by-cons}
use Rattle.indexmap.specs.IndexMap.{insert_entry}
use Rattle.plan_base.specs.declared.span.Span.{Span}
use Rattle.plan_base.proofs.Orders.{pairs_head, pairs_tail}
use Rattle.site_model.specs.declared.calendar.SkyKey.{SkyKey}
use Rattle.site_model.specs.declared.fault.FullOf.TheVariants.{Visibility}
use Rattle.plan_base.specs.Limits.{most_visibility, most_spans}
use Rattle.site_model.specs.Limits.{full}
use Rattle.site_model.specs.Calendar.{CalendarSeen, is_sky, sky_of, pieces_of, sky_refusal, SkiesAreCounted}

-- the pieces of a sky count in the place of those of the one before it
pub pieces_with : (skies : List (SkyKey × List Span)) (key : SkyKey) (spans : List Span)
    → pieces_of (insert_entry is_sky skies key spans) + length (sky_of skies key) ≡ pieces_of skies + length spans
pieces_with [] key spans = grind (arith, common_steps)
pieces_with (sky ∷ skies) key spans = grind (arith, common_steps, pieces_with skies key spans)

-- a sky of another target stays
pub other_target : (skies : List (SkyKey × List Span)) (key other : SkyKey) (spans : List Span) → key.target.0 < other.target.0
    → sky_of (insert_entry is_sky skies key spans) other ≡ sky_of skies other
other_target [] key other spans lt = grind (arith, nat_tests)
other_target (sky ∷ skies) key other spans lt = grind (arith, nat_tests, other_target skies key other spans lt)

-- a sky has no more pieces than all have
pub sky_within : (skies : List (SkyKey × List Span)) (key : SkyKey) → length (sky_of skies key) ≤ pieces_of skies
sky_within skies key = omega (arith, pieces_with skies key [])

-- a sky has no more pieces than each of the skies may have
pub sky_few : (skies : List (SkyKey × List Span)) (key : SkyKey) (most : ℕ) → All (λ sky. length sky.1 ≤ most) skies → length (sky_of skies key) ≤ most
sky_few [] key most few = omega arith
sky_few (sky ∷ skies) key most few =
    grind (
      arith,
      All-head (λ (sky : SkyKey × List Span). length sky.1 ≤ most) sky skies few,
      sky_few skies key most (All-tail (λ (sky : SkyKey × List Span). length sky.1 ≤ most) sky skies few),
    )

-- and so it stays with another sky
pub skies_few : (skies : List (SkyKey × List Span)) (key : SkyKey) (spans : List Span) → length spans ≤ most_spans
    → All (λ sky. length sky.1 ≤ most_spans) skies
    → All (λ sky. length sky.1 ≤ most_spans) (insert_entry is_sky skies key spans)
skies_few [] key spans new few = All-cons (λ (sky : SkyKey × List Span). length sky.1 ≤ most_spans) (key, spans) [] new few
skies_few (sky ∷ skies) key spans new few =
    by (is_sky key sky.0) (skies_few skies key spans new (All-tail (λ (sky : SkyKey × List Span). length sky.1 ≤ most_spans) sky skies few))
  where
    IsFew : SkyKey × List Span → Type 0
    IsFew s = length s.1 ≤ most_spans

    by : (b : Bool) → All IsFew (insert_entry is_sky skies key spans)
        → All IsFew (if b then (sky.0, spans) ∷ skies else sky ∷ insert_entry is_sky skies key spans)
    by true later = All-cons IsFew (sky.0, spans) skies new (All-tail IsFew sky skies few)
    by false later = All-cons IsFew sky (insert_entry is_sky skies key spans) (All-head IsFew sky skies few) later

-- there is no room for a sky's pieces
pub sky_refused : (c : CalendarSeen) (key : SkyKey) (spans : List Span)
    → most_visibility - (pieces_of c.skies - length (sky_of c.skies key)) < length spans → sky_refusal c key spans ≡ Some (full Visibility)
sky_refused c key spans many = grind (arith, nat_tests, pieces_with c.skies key spans, sky_within c.skies key)

-- there is room for them
pub sky_allowed : (c : CalendarSeen) (key : SkyKey) (spans : List Span) → pieces_of c.skies ≤ most_visibility
    → length spans ≤ most_visibility - (pieces_of c.skies - length (sky_of c.skies key)) → sky_refusal c key spans ≡ None
sky_allowed c key spans few room = grind (arith, nat_tests, pieces_with c.skies key spans, sky_within c.skies key)

-- the pieces of the skies that are asked for
abbrev pieces_at : List (SkyKey × List Span) → SkyKey → ℕ
pieces_at skies key = length (sky_of skies key)

-- where no sky was given, there are no pieces
no_pieces : (keys : List SkyKey) → sum_by (pieces_at []) keys ≤ 0
no_pieces [] = omega arith
no_pieces (key ∷ keys) = omega (arith, no_pieces keys, sum_by-cons (pieces_at []) key keys)

-- a sky that is none of those that are asked for adds nothing to them
not_asked : (sky : SkyKey × List Span) (skies : List (SkyKey × List Span)) (keys : List SkyKey) → All (λ key. is_sky key sky.0 ≡ false) keys
    → sum_by (pieces_at (sky ∷ skies)) keys ≡ sum_by (pieces_at skies) keys
not_asked sky skies [] none = refl
not_asked sky skies (key ∷ keys) none =
    let other : pieces_at (sky ∷ skies) key ≡ pieces_at skies key = rw (All-head (λ key. is_sky key sky.0 ≡ false) key keys none) refl in
    omega (
      arith,
      other,
      not_asked sky skies keys (All-tail (λ key. is_sky key sky.0 ≡ false) key keys none),
      sum_by-cons (pieces_at (sky ∷ skies)) key keys,
      sum_by-cons (pieces_at skies) key keys,
    )

-- a key that is apart from one of a sky isn't of that sky
other_sky : (key other of : SkyKey) → is_sky key of ≡ true → is_sky key other ≡ false → is_sky other of ≡ false
other_sky key other of same apart = grind (arith, nat_tests)

-- a sky is asked for once at most
asked_once : (sky : SkyKey × List Span) (skies : List (SkyKey × List Span)) (keys : List SkyKey) → AllPairs (λ a b. is_sky a b ≡ false) keys
    → sum_by (pieces_at (sky ∷ skies)) keys ≤ length sky.1 + sum_by (pieces_at skies) keys
asked_once sky skies [] apart = omega arith
asked_once sky skies (key ∷ keys) apart = by (is_sky key sky.0) refl (asked_once sky skies keys (pairs_tail (λ a b. is_sky a b ≡ false) key keys apart))
  where
    by : (b : Bool) → is_sky key sky.0 ≡ b → sum_by (pieces_at (sky ∷ skies)) keys ≤ length sky.1 + sum_by (pieces_at skies) keys
        → sum_by (pieces_at (sky ∷ skies)) (key ∷ keys) ≤ length sky.1 + sum_by (pieces_at skies) (key ∷ keys)
    by true same _ =
        let here : pieces_at (sky ∷ skies) key ≡ length sky.1 = rw same refl in
        let others : All (λ other. is_sky other sky.0 ≡ false) keys =
        λ k d lt. other_sky key _ sky.0 same (pairs_head (λ a b. is_sky a b ≡ false) key keys apart k d lt) in
        omega (arith, here, not_asked sky skies keys others, sum_by-cons (pieces_at (sky ∷ skies)) key keys, sum_by-cons (pieces_at skies) key keys)
    by false other later =
        let here : pieces_at (sky ∷ skies) key ≡ pieces_at skies key = rw other refl in
        omega (arith, here, later, sum_by-cons (pieces_at (sky ∷ skies)) key keys, sum_by-cons (pieces_at skies) key keys)

pub skies_are_counted : SkiesAreCounted
skies_are_counted [] keys apart = no_pieces keys
skies_are_counted (sky ∷ skies) keys apart =
    omega (arith, asked_once sky skies keys apart, skies_are_counted skies keys apart, sum_by-cons (λ (sky : SkyKey × List Span). length sky.1) sky skies)
