-- Stretches of things that hold together.
use Rattle.std.proofs.Common.{◌≡◌, ℕ, ◌+◌, ◌≤◌, ◌<◌, ◌⊎◌, inl, inr, Bool, true, false, cond, not, min, IsTrue, List, [], length, map, slice_index_or}
use Rattle.std.proofs.Common.{All, refl, sym, ◌∙◌, ap, subst, arith}
use Rattle.std.proofs.lemmas.Bool.{false≢true}
use Rattle.std.proofs.lemmas.List.{get_or_default, get_or-map}
use Rattle.plan_base.specs.declared.span.Span.{Span}
use Rattle.plan_base.specs.declared.parts.Sky.{Sky}
use Rattle.bound_checker.specs.declared.stretches.Observation.{Observation}
use Rattle.bound_checker.specs.declared.stretches.Stretch.{Stretch}
use Rattle.bound_checker.specs.declared.sight.Sight.{Sight}
use Rattle.bound_checker.specs.Stretches.{DoesFit, IsStretch, both}
use Rattle.bound_checker.specs.Sights.{IsClearSpans, spans_at, IsInSkies, IsInSight}

pub both_stretch : (P Q : ℕ → Type 0) (k : ℕ) (a b : Stretch) → IsStretch P k a → IsStretch Q k b → IsStretch (λ j. P j × Q j) k (both a b)
both_stretch P Q k a b p q = by_fits a.fits refl b.fits refl
  where
    by_fits : (x : Bool) → a.fits ≡ x → (y : Bool) → b.fits ≡ y → IsStretch (λ j. P j × Q j) k (both a b)
    by_fits false e y f = subst (IsStretch (λ j. P j × Q j) k)
        (sym (ap (λ (t : Bool). cond t (cond b.fits (record { fits = true; end = min a.end b.end }) b) a) e)) (record {
          later = p.later;
          alike = λ j from to. (λ fits. absurd (false≢true (sym e ∙ fits)), λ holds. (p.alike j from to).1 holds.0);
        })
    by_fits true e false f = subst (IsStretch (λ j. P j × Q j) k)
        (sym (ap (λ (t : Bool). cond t (cond b.fits (record { fits = true; end = min a.end b.end }) b) a) e
        ∙ ap (λ (t : Bool). cond t (record { fits = true; end = min a.end b.end }) b) f)) (record {
          later = q.later;
          alike = λ j from to. (λ fits. absurd (false≢true (sym f ∙ fits)), λ holds. (q.alike j from to).1 holds.1);
        })
    by_fits true e true f = subst (IsStretch (λ j. P j × Q j) k)
        (sym (ap (λ (t : Bool). cond t (cond b.fits (record { fits = true; end = min a.end b.end }) b) a) e
        ∙ ap (λ (t : Bool). cond t (record { fits = true; end = min a.end b.end }) b) f)) (record {
          later = let one : k < a.end = p.later in let two : k < b.end = q.later in omega arith;
          alike = λ j from to. (λ fits. ((p.alike j from (omega arith)).0 e, (q.alike j from (omega arith)).0 f), λ holds. refl);
        })

-- what is said in other words
pub stretch_said : (P Q : ℕ → Type 0) (k : ℕ) (x : Stretch) → ((j : ℕ) → P j → Q j) → ((j : ℕ) → Q j → P j) → IsStretch P k x → IsStretch Q k x
stretch_said P Q k x there back s =
    record { later = s.later; alike = λ j from to. (λ fits. there j ((s.alike j from to).0 fits), λ holds. (s.alike j from to).1 (back j holds)) }

off_from_not : (b : Bool) → not b ≡ true → b ≡ false
off_from_not true e = absurd (false≢true e)
off_from_not false e = refl

-- what asks for more doesn't hold either
pub stretch_none : (P Q : ℕ → Type 0) (k : ℕ) (x : Stretch) → not x.fits ≡ true → ((j : ℕ) → Q j → P j) → IsStretch P k x → IsStretch Q k x
stretch_none P Q k x off back s =
    record {
      later = s.later;
      alike = λ j from to.
          (λ fits. absurd (false≢true (sym (off_from_not x.fits off) ∙ fits)), λ holds. (s.alike j from to).1 (back j holds));
    }

-- an observation that begins at slice k lies inside a span of each of the first i skies that are meant
abbrev pub IsInFirst : List Sky → List ℕ → Observation → ℕ → ℕ → Type 0
IsInFirst skies views o i k = (n : ℕ) → n < i → DoesFit (spans_at skies (slice_index_or views n 0)) o k

below_or_at : (a b : ℕ) → a < b + 1 → (a < b) ⊎ (a ≡ b)
below_or_at a b h = grind arith

pub first_more : (skies : List Sky) (views : List ℕ) (o : Observation) (i k : ℕ) (x y : Stretch) → IsStretch (IsInFirst skies views o i) k x
    → IsStretch (DoesFit (spans_at skies (slice_index_or views i 0)) o) k y
    → IsStretch (IsInFirst skies views o (i + 1)) k (both x y)
first_more skies views o i k x y before here =
    stretch_said (λ j. IsInFirst skies views o i j × DoesFit (spans_at skies (slice_index_or views i 0)) o j) (IsInFirst skies views o (i + 1)) k (both x y)
    (λ j h n below. elim (below_or_at n i below)
    [ inl less ↦ h.0 n less | inr same ↦ subst (λ (m : ℕ). DoesFit (spans_at skies (slice_index_or views m 0)) o j) (sym same) h.1 ])
    (λ j h. (λ n less. h n (omega arith), h i (omega arith)))
    (both_stretch (IsInFirst skies views o i) (DoesFit (spans_at skies (slice_index_or views i 0)) o) k x y before here)

-- the sky that was read at a place
pub sky_read : (skies : List Sky) (v : ℕ) (y : Sky) (spans : List Span) → v < length skies → spans ≡ (slice_index_or skies v y).spans → spans ≡ spans_at skies v
sky_read skies v y spans l same = same ∙ sym (get_or-map (λ z. z.spans) skies v y [] l)

pub sky_more : (skies : List Sky) (views : List ℕ) (o : Observation) (i k : ℕ) (x y z : Stretch) (sky : Sky) (spans : List Span)
    → slice_index_or views i 0 < length skies → spans ≡ (slice_index_or skies (slice_index_or views i 0) sky).spans
    → IsStretch (IsInFirst skies views o i) k x → IsStretch (DoesFit spans o) k y → z ≡ both x y → IsStretch (IsInFirst skies views o (i + 1)) k z
sky_more skies views o i k x y z sky spans within same before here is =
    subst (λ (s : Stretch). IsStretch (IsInFirst skies views o (i + 1)) k s) (sym is)
    (first_more skies views o i k x y before
    (subst (λ (ws : List Span). IsStretch (DoesFit ws o) k y) (sky_read skies (slice_index_or views i 0) sky spans within same) here))

pub sky_clear : (skies : List Sky) (v : ℕ) (y : Sky) (spans : List Span) → All (λ z. IsClearSpans z.spans) skies → v < length skies
    → spans ≡ (slice_index_or skies v y).spans → IsClearSpans spans
sky_clear skies v y spans clear l same = subst IsClearSpans (sym same) (clear v y l)

pub no_window : (x : Sight) (o : Observation) (k : ℕ) (window : Stretch) → IsStretch (DoesFit x.windows.now o) k window → not window.fits ≡ true
    → IsStretch (IsInSight x o) k window
no_window x o k window w off = stretch_none (DoesFit x.windows.now o) (IsInSight x o) k window off (λ j h. h.window) w

pub not_usable : (x : Sight) (o : Observation) (k : ℕ) (usable : Stretch) → IsStretch (DoesFit x.usable.now o) k usable → not usable.fits ≡ true
    → IsStretch (IsInSight x o) k usable
not_usable x o k usable u off = stretch_none (DoesFit x.usable.now o) (IsInSight x o) k usable off (λ j h. h.usable) u

pub all_three : (x : Sight) (o : Observation) (k : ℕ) (window usable skies : Stretch) → IsStretch (DoesFit x.windows.now o) k window
    → IsStretch (DoesFit x.usable.now o) k usable → IsStretch (IsInSkies x.skies.now x.views.now o) k skies
    → IsStretch (IsInSight x o) k (both (both window usable) skies)
all_three x o k window usable skies w u s =
    stretch_said (λ j. (DoesFit x.windows.now o j × DoesFit x.usable.now o j) × IsInSkies x.skies.now x.views.now o j) (IsInSight x o) k
    (both (both window usable) skies)
    (λ j h. record { window = h.0.0; usable = h.0.1; skies = h.1 })
    (λ j h. ((h.window, h.usable), h.skies))
    (both_stretch (λ j. DoesFit x.windows.now o j × DoesFit x.usable.now o j) (IsInSkies x.skies.now x.views.now o) k (both window usable) skies
    (both_stretch (DoesFit x.windows.now o) (DoesFit x.usable.now o) k window usable w u) s)
