-- Which seconds are closed after a line, telescope by telescope.
use Rattle.std.proofs.Common.{◌≡◌, ◌∙◌, ap, sym, refl, ℕ, zero, suc, ◌<◌, ◌≤◌, Bool, true, false, cond, not, ◌&&◌, ◌||◌, nat_lt, List, [], ◌∷◌, length}
use Rattle.std.proofs.Common.{replicate, arith}
use Rattle.std.specs.Prelude.{IsTrue, if◌then◌else◌}
use Rattle.std.proofs.lemmas.Bool.Decides.{nat_tests}
use Rattle.plan_base.specs.declared.span.Span.{Span}
use Rattle.interval_set.specs.Spans.{has}
use Rattle.site_model.specs.declared.changes.Change.{Change}
use Rattle.site_model.specs.declared.changes.Change.TheVariants.{Close, Reopen}
use Rattle.site_model.specs.declared.code.Code.{Code}
use Rattle.site_model.specs.Calendar.{set_at}
use Rattle.site_model.specs.Latest.{is_close}
use Rattle.desk_core.specs.Registering.{in_scope, closed_after, closures_after}
use Rattle.desk_core.specs.Seconds.{spans_below, end_of_time}
use Rattle.desk_core.proofs.Seconds.{set_below}
use Rattle.desk_calendar.specs.Told.{Closing}
use Rattle.desk_calendar.proofs.Latest.{is_about}

-- no second of the spans is after the end of time
abbrev pub IsEarly : List Span → Type 0
IsEarly spans = (x : ℕ) → IsTrue (has spans x) → x < end_of_time

abbrev pub AreEarly : List (List Span) → Type 0
AreEarly sets = (t : ℕ) → IsEarly (set_at sets t)

-- the closures after a line
abbrev pub after_closing : Closing → List Code → List (List Span) → List (List Span)
after_closing c codes old = closures_after c.change c.scope c.spans codes old

-- ---- one telescope

decided : (change : Change) (old spans : List Span) (x : ℕ) (early was is : Bool) → early ≡ nat_lt x end_of_time → was ≡ has old x → is ≡ has spans x
    → (was ≡ true → early ≡ true) → (is ≡ true → early ≡ true) → (nat_lt x end_of_time && closed_after change old spans x) ≡ cond is (is_close change) was
decided Close old spans x early was is e w s a b = ap (λ v. v && (has old x || has spans x)) (sym e) ∙ ap (λ v. early && (v || has spans x)) (sym w)
    ∙ ap (λ v. early && (was || v)) (sym s) ∙ by early was is a b
  where
    by : (early was is : Bool) → (was ≡ true → early ≡ true) → (is ≡ true → early ≡ true) → (early && (was || is)) ≡ cond is true was
    by true true true a b = refl
    by true true false a b = refl
    by true false true a b = refl
    by true false false a b = refl
    by false true is a b = let no = a refl in absurd (cc)
    by false false true a b = let no = b refl in absurd (cc)
    by false false false a b = refl
decided Reopen old spans x early was is e w s a b = ap (λ v. v && (has old x && not (has spans x))) (sym e)
    ∙ ap (λ v. early && (v && not (has spans x))) (sym w) ∙ ap (λ v. early && (was && not v)) (sym s) ∙ by early was is a b
  where
    by : (early was is : Bool) → (was ≡ true → early ≡ true) → (is ≡ true → early ≡ true) → (early && (was && not is)) ≡ cond is false was
    by true true true a b = refl
    by true true false a b = refl
    by true false true a b = refl
    by true false false a b = refl
    by false true is a b = let no = a refl in absurd (cc)
    by false false true a b = refl
    by false false false a b = refl

pub lt_test : (x : ℕ) → x < end_of_time → nat_lt x end_of_time ≡ true
lt_test x lt = grind (arith, nat_tests, lt)

-- a line decides the seconds of its spans, and leaves the others
changed_has : (change : Change) (old spans : List Span) (x : ℕ) → IsEarly old → IsEarly spans
    → has (spans_below (closed_after change old spans) end_of_time) x ≡ cond (has spans x) (is_close change) (has old x)
changed_has change old spans x early more =
    (set_below (closed_after change old spans) end_of_time).seconds x
    ∙ decided change old spans x (nat_lt x end_of_time) (has old x) (has spans x) refl refl refl (λ h. lt_test x (early x h)) (λ h. lt_test x (more x h))

-- ---- all telescopes

-- a line decides the seconds that it is about, and leaves the others
pub line_decides : (c : Closing) (codes : List Code) (old : List (List Span)) (t x : ℕ) → length codes ≤ length old → AreEarly old → IsEarly c.spans
    → has (set_at (after_closing c codes old) t) x ≡ cond (is_about c codes t x) (is_close c.change) (has (set_at old t) x)
line_decides c [] old t x le early more = refl
line_decides c (k ∷ codes) [] t x le early more = absurd (omega arith)
line_decides c (k ∷ codes) (o ∷ old) zero x le early more = by (in_scope c.scope k)
  where
    by : (b : Bool) → has (if b then spans_below (closed_after c.change o c.spans) end_of_time else o) x ≡ cond (b && has c.spans x)
        (is_close c.change) (has o x)
    by true = changed_has c.change o c.spans x (early 0) more
    by false = refl
line_decides c (k ∷ codes) (o ∷ old) (suc t) x le early more = line_decides c codes old t x (omega (arith, le)) (λ s. early (suc s)) more

pub same_places : (c : Closing) (codes : List Code) (old : List (List Span)) → length (after_closing c codes old) ≡ length old
same_places c [] old = refl
same_places c (k ∷ codes) [] = refl
same_places c (k ∷ codes) (o ∷ old) = ap suc (same_places c codes old)

-- at first no second is closed
pub none_closed : (n t x : ℕ) → has (set_at (replicate n []) t) x ≡ false
none_closed zero t x = refl
none_closed (suc n) zero x = refl
none_closed (suc n) (suc t) x = none_closed n t x
