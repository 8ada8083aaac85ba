-- A small snapshot, written out.
use Rattle.std.proofs.Common.{ℕ, [], ◌∷◌, Some, None}
use Rattle.plan_base.specs.declared.parts.Parts.{Parts}
use Rattle.plan_base.specs.declared.parts.TelescopePart.{TelescopePart}
use Rattle.plan_base.specs.declared.parts.Sky.{Sky}
use Rattle.plan_base.specs.declared.parts.GroupPart.{GroupPart}
use Rattle.plan_base.specs.declared.parts.RequestPart.{RequestPart}
use Rattle.plan_base.specs.declared.parts.Op.TheVariants.{Single, OneOf}
use Rattle.plan_base.specs.declared.span.Span.{Span}
use Rattle.plan_base.specs.declared.claim.Placement.{Placement}

abbrev pub span : ℕ → ℕ → Span
span a b = record { from = record { 0 = a }; to = record { 0 = b } }

abbrev pub telescope : TelescopePart
telescope = record { site = record { 0 = 0 }; usable = span 0 86400 ∷ [] }

abbrev pub sky : ℕ → Sky
sky target = record { target = record { 0 = target }; site = record { 0 = 0 }; spans = span 0 86400 ∷ [] }

-- a request by its number, seconds, value and fade
abbrev pub asked : ℕ → ℕ → ℕ → ℕ → RequestPart
asked number seconds value fade = record {
  request = record { 0 = number };
  seconds = seconds;
  value = value;
  windows = span 0 86400 ∷ [];
  telescopes = record { 0 = 0 } ∷ [];
  targets = record { 0 = 0 } ∷ [];
  fade = fade;
}

abbrev pub single : ℕ → RequestPart → GroupPart
single number request = record { group = record { 0 = number }; op = Single; requests = request ∷ []; quota = None }

-- one telescope, two groups: a SINGLE whose value fades, and a ONEOF of two requests that counts towards the one quota
abbrev pub small : Parts
small = record {
  version = 7;
  len = 300;
  first = record { 0 = 0 };
  slices = 288;
  telescopes = telescope ∷ [];
  skies = sky 0 ∷ [];
  groups = single 1 (asked 1 300 50000 100)
      ∷ record { group = record { 0 = 2 }; op = OneOf; requests = asked 4 301 70000 0 ∷ asked 9 900 60000 1000 ∷ []; quota = Some 0 }
      ∷ [];
  quotas = 600 ∷ [];
}

-- the same with the SINGLE alone
abbrev pub fading : Parts
fading = record small { groups = single 1 (asked 1 300 50000 100) ∷ []; quotas = [] }

-- a request, by its number, on the telescope from a slice on
abbrev pub at : ℕ → ℕ → Placement
at number slice = record { request = record { 0 = number }; telescope = record { 0 = 0 }; slice = record { 0 = slice } }
