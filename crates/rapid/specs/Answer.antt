-- Whether groups can be inserted into a claim.
use Rattle.std.specs.Prelude.{◌≡◌}
use Rattle.plan_base.specs.declared.parts.Parts.{Parts}
use Rattle.plan_base.specs.declared.claim.Claim.{Claim}
use Rattle.plan_base.specs.declared.verdict.Verdict.TheVariants as judged
use Rattle.plan_base.specs.Verdict.{IsVerdict}
use Rattle.rapid.specs.declared.rapid.RapidAnswer.{RapidAnswer}
use Rattle.rapid.specs.declared.rapid.RapidAnswer.TheVariants.{Ready, No}
use Rattle.rapid.specs.Standing.{opening}

-- ready with this snapshot and this claim exactly where the verdict is Yes, else the verdict's reason
abbrev pub IsAnswer : Parts → Claim → RapidAnswer → Type 0
IsAnswer s claim (Ready rapid) = (rapid ≡ opening s claim) × IsVerdict s claim (judged.Yes claim.value claim.bound)
IsAnswer s claim (No reason) = IsVerdict s claim (judged.No reason)
