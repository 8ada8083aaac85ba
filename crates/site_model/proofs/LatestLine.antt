-- The latest line that is about a second decides whether it is closed.
use Rattle.std.proofs.Common.{◌≡◌, ℕ, zero, suc, Bool, true, false, cond, List, [], ◌∷◌, Option, Some, None, refl, sym, ap, ◌∙◌, true≢false}
use Rattle.std.specs.Prelude.{nat_eq, not, ◌&&◌, ◌||◌, filter, replicate}
use Rattle.std.specs.List.{list_any, last_or}
use Rattle.std.specs.Option.{option_map_or}
use Rattle.std.proofs.lemmas.Bool.{eqb-true, eq-eqb}
use Rattle.std.proofs.lemmas.List.Folds.{list_any_at}
use Rattle.indexmap.proofs.CallerLemmas.{Contains-list_any}
use Rattle.plan_base.specs.declared.number.TelescopeNo.{TelescopeNo}
use Rattle.plan_base.specs.declared.span.Span.{Span}
use Rattle.interval_set.specs.Spans.{has}
use Rattle.site_model.specs.declared.changes.Change.{Change}
use Rattle.site_model.specs.declared.changes.Change.TheVariants.{Close, Reopen}
use Rattle.site_model.specs.Calendar.{no_calendar, set_at, IsChanged, IsClosureLine, IsListed}
use Rattle.site_model.specs.Latest.{ClosureLine, is_about, is_close, LeadsTo, LatestDecides, UsableByLatest, ScopeIsList}
use Rattle.site_model.proofs.Lines.{listed_in_scope}

same_telescope : (a b : TelescopeNo) → nat_eq a.0 b.0 ≡ true → a ≡ b
same_telescope a b e = ap (λ (n : ℕ). record { 0 = n }) (eqb-true a.0 b.0 e)

-- a telescope that the test finds is one of the list
listed : (telescopes : List TelescopeNo) (t : ℕ) → list_any (λ n. nat_eq t n.0) telescopes ≡ true → IsListed telescopes t
listed telescopes t found = Contains-list_any (λ (a b : TelescopeNo). nat_eq a.0 b.0) same_telescope telescopes record { 0 = t } found

unlisted : (telescopes : List TelescopeNo) (t : ℕ) → list_any (λ n. nat_eq t n.0) telescopes ≡ false → IsListed telescopes t → ⊥
unlisted telescopes t missing in' =
    true≢false (sym (list_any_at (λ (n : TelescopeNo). nat_eq t n.0) telescopes in'.0 record { 0 = t } in'.1
    (eq-eqb t _ (sym (ap (λ (n : TelescopeNo). n.0) in'.2)))) ∙ missing)

-- what a change makes of second x
changed_at : (change : Change) (old spans new : List Span) → IsChanged change old spans new → (x : ℕ)
    → has new x ≡ cond (has spans x) (is_close change) (has old x)
changed_at Close old spans new is x = is.seconds x ∙ by (has old x) (has spans x)
  where
    by : (a b : Bool) → (a || b) ≡ cond b true a
    by true true = refl
    by true false = refl
    by false true = refl
    by false false = refl
changed_at Reopen old spans new is x = is.seconds x ∙ by (has old x) (has spans x)
  where
    by : (a b : Bool) → (a && not b) ≡ cond b false a
    by true true = refl
    by true false = refl
    by false true = refl
    by false false = refl

-- a line decides the seconds that it is about, and leaves the others
line_decides : (line : ClosureLine) (old new : List (List Span)) → IsClosureLine line.change (IsListed line.telescopes) line.spans old new → (t x : ℕ)
    → has (set_at new t) x ≡ cond (is_about t x line) (is_close line.change) (has (set_at old t) x)
line_decides line old new is t x = by (list_any (λ n. nat_eq t n.0) line.telescopes) refl
  where
    by : (b : Bool) → list_any (λ n. nat_eq t n.0) line.telescopes ≡ b
        → has (set_at new t) x ≡ cond (b && has line.spans x) (is_close line.change) (has (set_at old t) x)
    by true found = changed_at line.change (set_at old t) line.spans (set_at new t) (is.inside t (listed line.telescopes t found)) x
    by false missing = ap (λ (s : List Span). has s x) (is.outside t (unlisted line.telescopes t missing))

-- what lines make of a second that earlier ones have decided
lines_decide : (lines : List ClosureLine) (earlier : Option ClosureLine) (old new : List (List Span)) (t x : ℕ) → LeadsTo lines old new
    → has (set_at old t) x ≡ option_map_or (λ line. is_close line.change) earlier false
    → has (set_at new t) x ≡ option_map_or (λ line. is_close line.change) (last_or earlier (filter (is_about t x) lines)) false
lines_decide [] earlier old new t x to decided = ap (λ (sets : List (List Span)). has (set_at sets t) x) to ∙ decided
lines_decide (line ∷ lines) earlier old new t x to decided =
    by (is_about t x line) (line_decides line old to.0 to.1 t x) (λ so_far at. lines_decide lines so_far to.0 new t x to.2 at)
  where
    by : (b : Bool) → has (set_at to.0 t) x ≡ cond b (is_close line.change) (has (set_at old t) x)
        → ((so_far : Option ClosureLine) → has (set_at to.0 t) x ≡ option_map_or (λ line. is_close line.change) so_far false
        → has (set_at new t) x ≡ option_map_or (λ line. is_close line.change) (last_or so_far (filter (is_about t x) lines)) false)
        → has (set_at new t) x ≡ option_map_or (λ line. is_close line.change)
        (last_or earlier (cond b (line ∷ filter (is_about t x) lines) (filter (is_about t x) lines))) false
    by true at later = later (Some line) at
    by false at later = later earlier (at ∙ decided)

-- no second is closed at first
none_closed : (n t x : ℕ) → has (set_at (replicate n []) t) x ≡ false
none_closed zero t x = refl
none_closed (suc n) zero x = refl
none_closed (suc n) (suc t) x = none_closed n t x

pub latest_decides : LatestDecides
latest_decides lines closures to t x = lines_decide lines None no_calendar.closures closures t x to (none_closed 32 t x)

pub usable_by_latest : UsableByLatest
usable_by_latest lines closures to t night usable is x = is.seconds x ∙ ap (λ (b : Bool). has night x && not b) (latest_decides lines closures to t x)

pub scope_is_list : ScopeIsList
scope_is_list r scope numbers list change spans old new line = record {
  inside = λ t in'. line.inside t (listed_in_scope r scope numbers list t in');
  few = λ t in'. line.few t (listed_in_scope r scope numbers list t in');
  outside = λ t out. line.outside t (λ in'. out (list.all t in'));
  places = line.places;
}
