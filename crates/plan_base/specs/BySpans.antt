-- Possible starts by spans: whole observations inside single spans, in place of second after second.
use Rattle.std.specs.Prelude.{◌≡◌, ℕ, ◌+◌, ◌≤◌, List, [], map, slice_index_or, All, Contains}
use Rattle.std.specs.Prelude.{Any}
use Rattle.plan_base.specs.declared.parts.Parts.{Parts}
use Rattle.plan_base.specs.declared.span.Span.{Span}
use Rattle.plan_base.specs.declared.claim.Placement.{Placement}
use Rattle.plan_base.specs.Requests.{IsKnown, windows_of, telescopes_of, targets_of}
use Rattle.plan_base.specs.Starts.{size_of, start_second, end_second, site_of}

-- one of the spans has all seconds from a to the one before b
abbrev pub OneHasAll : List Span → ℕ → ℕ → Type 0
OneHasAll spans a b = Any (λ w. (w.from.0 ≤ a) × (b ≤ w.to.0)) spans

-- the usable spans of telescope t
abbrev pub usable_of : Parts → ℕ → List Span
usable_of s t = slice_index_or (map (λ y. y.usable) s.telescopes) t []

-- one span of the target's sky at the site has all seconds from a to the one before b
abbrev pub IsVisibleThrough : Parts → ℕ → ℕ → ℕ → ℕ → Type 0
IsVisibleThrough s target site a b = Any (λ y. (y.target.0 ≡ target) × (y.site.0 ≡ site) × OneHasAll y.spans a b) s.skies

-- a possible start, said by spans
pub record IsPossibleBySpans (s : Parts) (p : Placement) : Type 0 where
  pub known : IsKnown s p.request.0
  pub able : Contains (telescopes_of s p.request.0) p.telescope
  pub begins : s.first.0 ≤ p.slice.0
  pub ends : p.slice.0 + size_of s p.request.0 ≤ s.first.0 + s.slices
  pub window : OneHasAll (windows_of s p.request.0) (start_second s p) (end_second s p)
  pub usable : OneHasAll (usable_of s p.telescope.0) (start_second s p) (end_second s p)
  pub visible : All (λ target. IsVisibleThrough s target.0 (site_of s p.telescope.0) (start_second s p) (end_second s p)) (targets_of s p.request.0)
