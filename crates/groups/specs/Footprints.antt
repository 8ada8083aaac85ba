-- What a placement takes up of what the placements of a plan share.
use Rattle.std.specs.Prelude.{◌≡◌, ℕ, ◌+◌, ◌-◌, ◌*◌}
use Rattle.plan_base.specs.declared.parts.Parts.{Parts}
use Rattle.plan_base.specs.declared.claim.Placement.{Placement}
use Rattle.plan_base.specs.Requests.{place_of, group_of, quota_of, seconds_of, IsKind}
use Rattle.plan_base.specs.Starts.{size_of}
use Rattle.groups.specs.declared.footprint.Footprint.{Footprint}

-- the first slot of a placement: slices are counted from the horizon's first, telescope after telescope
abbrev pub first_slot : Parts → Placement → ℕ
first_slot s p = p.telescope.0 * s.slices + (p.slice.0 - s.first.0)

-- the slot after the last one of a placement
abbrev pub end_slot : Parts → Placement → ℕ
end_slot s p = first_slot s p + size_of s p.request.0

-- what a placement takes up
pub record IsFootprint (s : Parts) (p : Placement) (f : Footprint) : Type 0 where
  pub place : f.place ≡ place_of s p.request.0
  pub group : f.group ≡ group_of s p.request.0
  pub kind : IsKind s f.op f.group
  pub quota : f.quota ≡ quota_of s p.request.0
  pub seconds : f.seconds ≡ seconds_of s p.request.0
  pub from : f.from ≡ first_slot s p
  pub to : f.to ≡ end_slot s p
