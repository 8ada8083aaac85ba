-- What is said of the requests that a claim leaves out, as far as they have been gone through.
use Rattle.std.specs.Prelude.{ℕ, not, List, map, take, filter}
use Rattle.std.specs.List.{AllZip}
use Rattle.plan_base.specs.declared.parts.Parts.{Parts}
use Rattle.plan_base.specs.declared.claim.Claim.{Claim}
use Rattle.plan_base.specs.Requests.{listed}
use Rattle.explain.specs.declared.answer.Left.{Left}
use Rattle.explain.specs.Left.{IsLeft, is_placed}

-- of the first n requests each that the claim leaves out is explained, in order, and no other
abbrev pub AreLeftTo : Parts → Claim → ℕ → List Left → Type 0
AreLeftTo s claim n lefts = AllZip (IsLeft s claim)
    (filter (λ r. not (is_placed claim.placements r)) (take n (map (λ x. x.request.request.0) (listed s)))) lefts
