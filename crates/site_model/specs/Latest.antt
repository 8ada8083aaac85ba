-- What all lines about closures mean together: the latest line that is about a second decides.
use Rattle.std.specs.Prelude.{◌≡◌, ℕ, nat_eq, Bool, true, false, not, ◌&&◌, List, [], ◌∷◌, Option, None, filter}
use Rattle.std.specs.List.{list_any, last_or}
use Rattle.std.specs.Option.{option_map_or}
use Rattle.plan_base.specs.declared.number.TelescopeNo.{TelescopeNo}
use Rattle.plan_base.specs.declared.span.Span.{Span}
use Rattle.interval_set.specs.Spans.{has, IsDifference}
use Rattle.site_model.specs.declared.changes.Change.{Change}
use Rattle.site_model.specs.declared.changes.Change.TheVariants.{Close, Reopen}
use Rattle.site_model.specs.declared.code.Scope.{Scope}
use Rattle.site_model.specs.Registry.{RegistrySeen, InScope, IsScopeList}
use Rattle.site_model.specs.Calendar.{no_calendar, set_at, IsClosureLine, IsListed}

-- an accepted line: what it does, the telescopes in its scope, and its seconds
pub record ClosureLine : Type 0 where
  pub change : Change
  pub telescopes : List TelescopeNo
  pub spans : List Span

-- whether a line is about second x of telescope t
abbrev pub is_about : ℕ → ℕ → ClosureLine → Bool
is_about t x line = list_any (λ n. nat_eq t n.0) line.telescopes && has line.spans x

-- whether it closes
abbrev pub is_close : Change → Bool
is_close Close = true
is_close Reopen = false

-- the latest of the lines that are about second x of telescope t
abbrev pub latest : List ClosureLine → ℕ → ℕ → Option ClosureLine
latest lines t x = last_or None (filter (is_about t x) lines)

-- whether the lines have closed second x of telescope t
abbrev pub is_closed : List ClosureLine → ℕ → ℕ → Bool
is_closed lines t x = option_map_or (λ line. is_close line.change) (latest lines t x) false

-- the lines, one after another, lead from old closures to new ones
abbrev pub LeadsTo : List ClosureLine → List (List Span) → List (List Span) → Type 0
LeadsTo [] old new = new ≡ old
LeadsTo (line ∷ lines) old new =
    (next : List (List Span)) × IsClosureLine line.change (IsListed line.telescopes) line.spans old next × LeadsTo lines next new

-- a second is closed where the latest line that is about it is a closure
abbrev pub LatestDecides : Type 0
LatestDecides =
    (lines : List ClosureLine) (closures : List (List Span)) → LeadsTo lines no_calendar.closures closures → (t x : ℕ)
    → has (set_at closures t) x ≡ is_closed lines t x

-- a second of the night is usable where the lines have not closed it
abbrev pub UsableByLatest : Type 0
UsableByLatest =
    (lines : List ClosureLine) (closures : List (List Span)) → LeadsTo lines no_calendar.closures closures
    → (t : ℕ) (night usable : List Span) → IsDifference night (set_at closures t) usable
    → (x : ℕ) → has usable x ≡ (has night x && not (is_closed lines t x))

-- a line of a network is one with the list of the telescopes in its scope
abbrev pub ScopeIsList : Type 0
ScopeIsList = (r : RegistrySeen) (scope : Scope) (numbers : List TelescopeNo) → IsScopeList r scope numbers
    → (change : Change) (spans : List Span) (old new : List (List Span)) → IsClosureLine change (InScope r scope) spans old new
    → IsClosureLine change (IsListed numbers) spans old new
