-- Possible starts, the slices that they occupy, and what they are worth.
use Rattle.std.specs.Prelude.{
  ◌≡◌,
  ◌≢◌,
  ℕ,
  ◌+◌,
  ◌-◌,
  ◌*◌,
  ◌/◌,
  ◌≤◌,
  ◌<◌,
  min,
  max,
  List,
  [],
  ◌∷◌,
  length,
  map,
  slice_index_or,
  All,
  AllPairs,
  Any,
  Contains,
  sum_by,
  fold,
  ◌⊎◌,
}
use Rattle.plan_base.specs.declared.parts.Parts.{Parts}
use Rattle.plan_base.specs.declared.span.Span.{Span}
use Rattle.plan_base.specs.declared.claim.Placement.{Placement}
use Rattle.plan_base.specs.Requests.{IsKnown, seconds_of, request_value, fade_of, windows_of, telescopes_of, targets_of}

-- second x is one of the span
abbrev pub HasSecond : Span → ℕ → Type 0
HasSecond w x = (w.from.0 ≤ x) × (x < w.to.0)

-- how many slices d seconds take, the last one perhaps in part
abbrev pub slices_for : ℕ → ℕ → ℕ
slices_for len d = (d + len - 1) / len

-- how many slices request r takes
abbrev pub size_of : Parts → ℕ → ℕ
size_of s r = slices_for s.len (seconds_of s r)

-- the first second of a placement
abbrev pub start_second : Parts → Placement → ℕ
start_second s p = p.slice.0 * s.len

-- the second after the last of a placement
abbrev pub end_second : Parts → Placement → ℕ
end_second s p = start_second s p + seconds_of s p.request.0

-- the placement's observation is under way at second x
abbrev pub IsObserved : Parts → Placement → ℕ → Type 0
IsObserved s p x = (start_second s p ≤ x) × (x < end_second s p)

-- the site of telescope t
abbrev pub site_of : Parts → ℕ → ℕ
site_of s t = slice_index_or (map (λ y. y.site.0) s.telescopes) t 0

-- telescope t can observe at second x
abbrev pub IsUsable : Parts → ℕ → ℕ → Type 0
IsUsable s t x = Any (λ w. HasSecond w x) (slice_index_or (map (λ y. y.usable) s.telescopes) t [])

-- the target can be observed from the site at second x; without a sky it never can
abbrev pub IsVisible : Parts → ℕ → ℕ → ℕ → Type 0
IsVisible s target site x = Any (λ y. (y.target.0 ≡ target) × (y.site.0 ≡ site) × Any (λ w. HasSecond w x) y.spans) s.skies

-- a request on one of its telescopes, within the horizon, inside one window, while the telescope is usable and each target visible
pub record IsPossibleStart (s : Parts) (p : Placement) : Type 0 where
  pub known : IsKnown s p.request.0
  pub able : Contains (telescopes_of s p.request.0) p.telescope
  pub begins : s.first.0 ≤ p.slice.0
  pub ends : p.slice.0 + size_of s p.request.0 ≤ s.first.0 + s.slices
  pub window : Any (λ w. (w.from.0 ≤ start_second s p) × (end_second s p ≤ w.to.0)) (windows_of s p.request.0)
  pub usable : (x : ℕ) → IsObserved s p x → IsUsable s p.telescope.0 x
  pub visible : All (λ target. (x : ℕ) → IsObserved s p x → IsVisible s target.0 (site_of s p.telescope.0) x) (targets_of s p.request.0)

-- slice k of the placement's telescope is one of the slices from its first to its last
abbrev pub Occupies : Parts → Placement → ℕ → Type 0
Occupies s p k = (p.slice.0 ≤ k) × (k < p.slice.0 + size_of s p.request.0)

-- both occupy the same slice of the same telescope
abbrev pub ShareSlice : Parts → Placement → Placement → Type 0
ShareSlice s a b = (a.telescope ≡ b.telescope) × (k : ℕ) × Occupies s a k × Occupies s b k

-- all possible starts, each once
pub record IsAllStarts (s : Parts) (starts : List Placement) : Type 0 where
  pub possible : All (IsPossibleStart s) starts
  pub once : AllPairs (λ a b. a ≢ b) starts
  pub complete : (p : Placement) → IsPossibleStart s p → Contains starts p

-- the snapshot has n possible starts
abbrev pub IsStartCount : Parts → ℕ → Type 0
IsStartCount s n = (starts : List Placement) × IsAllStarts s starts × (length starts ≡ n)

-- a is before b by telescope, then slice
abbrev pub IsListedBefore : Placement → Placement → Type 0
IsListedBefore a b = (a.telescope.0 < b.telescope.0) ⊎ ((a.telescope ≡ b.telescope) × (a.slice.0 < b.slice.0))

-- the least number of a list, or 0 where it is empty
abbrev pub least_of : List ℕ → ℕ
least_of [] = 0
least_of (x ∷ xs) = fold min x xs

-- the first slice that begins no earlier than the earliest window of request r, or slice 0 where it has none
abbrev pub earliest_slice : Parts → ℕ → ℕ
earliest_slice s r = slices_for s.len (least_of (map (λ w. w.from.0) (windows_of s r)))

-- the value v after n slices of delay, of which each takes f thousandths: never below 1
abbrev pub faded : ℕ → ℕ → ℕ → ℕ
faded v f n = max 1 (v - v * f * min n 1000 / 1000)

-- what a start is worth: its request's value, less what fades of it by the start's slice
abbrev pub worth_at : Parts → Placement → ℕ
worth_at s p = faded (request_value s p.request.0) (fade_of s p.request.0) (p.slice.0 - earliest_slice s p.request.0)

-- the sum of the worths of a plan's placements
abbrev pub value_of_plan : Parts → List Placement → ℕ
value_of_plan s plan = sum_by (worth_at s) plan
