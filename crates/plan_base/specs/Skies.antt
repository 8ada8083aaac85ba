-- The skies of targets at sites, in their order.
use Rattle.std.specs.Prelude.{◌≡◌, ℕ, ◌<◌, ◌⊎◌, nat_lt, ◌≤◌, ◌&&◌, ◌||◌, ◌==◌, Bool, true, false, List, length, slice_index_or, AllPairs}
use Rattle.plan_base.specs.declared.parts.Sky.{Sky}

-- the sky is that of the target at the site
abbrev pub IsSkyOf : ℕ → ℕ → Sky → Type 0
IsSkyOf target site sky = (sky.target.0 ≡ target) × (sky.site.0 ≡ site)

-- sky a stands below sky b by target, then site
abbrev pub IsSkyBelow : Sky → Sky → Type 0
IsSkyBelow a b = (a.target.0 < b.target.0) ⊎ ((a.target.0 ≡ b.target.0) × (a.site.0 < b.site.0))

-- skies stand by target, then site, and no two are of the same
abbrev pub SkiesRise : List Sky → Type 0
SkiesRise skies = AllPairs IsSkyBelow skies

-- whether the sky stands below that of the target at the site
abbrev pub is_below : ℕ → ℕ → Sky → Bool
is_below target site sky = nat_lt sky.target.0 target || ((sky.target.0 == target) && nat_lt sky.site.0 site)

-- the sky at place n is that of the target at the site
abbrev pub IsSkyAt : List Sky → ℕ → ℕ → ℕ → Type 0
IsSkyAt skies target site n = (sky : Sky) × (n < length skies) × (slice_index_or skies n sky ≡ sky) × (sky.target.0 ≡ target) × (sky.site.0 ≡ site)

-- the skies before place n stand below that of the target at the site, and those from it on don't
pub record IsCountBelow (skies : List Sky) (target site n : ℕ) : Type 0 where
  pub within : n ≤ length skies
  pub below : (k : ℕ) (d : Sky) → k < n → is_below target site (slice_index_or skies k d) ≡ true
  pub others : (k : ℕ) (d : Sky) → n ≤ k → k < length skies → is_below target site (slice_index_or skies k d) ≡ false
