-- What stands before and after an insertion, and what a verdict says of a claim.
use Rattle.std.proofs.Common.{◌≡◌, ℕ, Option, None, Some, refl}
use Rattle.plan_base.specs.declared.parts.Parts.{Parts}
use Rattle.plan_base.specs.declared.parts.GroupPart.{GroupPart}
use Rattle.plan_base.specs.declared.claim.Claim.{Claim}
use Rattle.plan_base.specs.declared.verdict.Verdict.TheVariants.{Yes, No}
use Rattle.plan_base.specs.declared.verdict.Reason.{Reason}
use Rattle.plan_base.specs.Verdict.{IsCertified, IsFirstReason, verdict_of, IsVerdict}
use Rattle.rapid.specs.declared.inserted.Inserted.{Inserted}
use Rattle.rapid.specs.Standing.{Standing, opening}
use Rattle.rapid.specs.Insertion.{IsInsertion}

-- what was displaced before doesn't matter
pub insertion_from : (before after : Standing) (group : GroupPart) (answer : Inserted)
    → IsInsertion (opening before.snapshot before.claim) group answer after → IsInsertion before group answer after
insertion_from before after group answer h = record {
  request = h.request;
  only = h.only;
  snapshot = h.snapshot;
  placing = h.placing;
  price = h.price;
  new_price = h.new_price;
  prices = h.prices;
  quota_prices = h.quota_prices;
  certified = h.certified;
}

yes_not_no : (value bound : ℕ) (reason : Reason) → Yes value bound ≡ No reason → ⊥
yes_not_no value bound reason e = cc

first_certified : (s : Parts) (claim : Claim) (value bound : ℕ) (found : Option Reason) → IsFirstReason s claim found
    → Yes value bound ≡ verdict_of claim found → IsCertified s claim
first_certified s claim value bound None first e = first
first_certified s claim value bound (Some reason) first e = absurd (yes_not_no value bound reason e)

pub yes_certified : (s : Parts) (claim : Claim) (value bound : ℕ) → IsVerdict s claim (Yes value bound) → IsCertified s claim
yes_certified s claim value bound h = first_certified s claim value bound h.0 h.1 h.2

pub certified_yes : (s : Parts) (claim : Claim) → IsCertified s claim → IsVerdict s claim (Yes claim.value claim.bound)
certified_yes s claim h = (None, h, refl)
