use Rattle.std.specs.Map.{keys_of}
use Rattle.site_model.proofs.Placed.{PlacedSoFar}
use Rattle.site_model.proofs.names.places_of.Given as goal

abbrev pub invariant-loop-index : goal.invariant-loop-index
invariant-loop-index l = PlacedSoFar (keys_of l.instruments.entries) l.names l.index l.places
