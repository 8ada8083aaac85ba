-- The slots that placements take up, and flags of them.
use Rattle.std.specs.Prelude.{◌≡◌, ℕ, ◌+◌, ◌-◌, ◌*◌, ◌≤◌, ◌<◌, List, length}
use Rattle.plan_base.specs.declared.parts.Parts.{Parts}
use Rattle.plan_base.specs.declared.claim.Placement.{Placement}
use Rattle.plan_base.specs.Starts.{size_of}
use Rattle.bound_checker.specs.declared.overlap.Slots.{Slots}

-- the first slot of a placement: slices are counted from the horizon's first, telescope after telescope
abbrev pub first_slot : Parts → Placement → ℕ
first_slot s p = p.telescope.0 * s.slices + (p.slice.0 - s.first.0)

-- the slot after the last one of a placement
abbrev pub end_slot : Parts → Placement → ℕ
end_slot s p = first_slot s p + size_of s p.request.0

-- the placement takes up these slots, which are among those of the telescopes
pub record AreSlots (s : Parts) (p : Placement) (slots : Slots) : Type 0 where
  pub from : slots.from ≡ first_slot s p
  pub to : slots.to ≡ end_slot s p
  pub order : slots.from ≤ slots.to
  pub within : slots.to ≤ length s.telescopes * s.slices
