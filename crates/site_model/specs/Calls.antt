-- What the calls that change something answer.
use Rattle.std.specs.Prelude.{◌≡◌, ◌≢◌, Option, Some, None, Result, IfErr, OnOk, OnErr}
use Rattle.site_model.specs.declared.fault.SiteFault.{SiteFault}
use Rattle.site_model.specs.declared.fault.SiteFault.TheVariants.{NoMemory}

-- a call made the change and nothing refused it, or it was refused, or found no memory, and changed nothing
pub record ChangesOrRefuses {S V : Type 0} (refusal : Option SiteFault) (old changed new : S) (result : Result V SiteFault) : Type 0 where
  pub ok : OnOk result (new ≡ changed)
  pub allowed : OnOk result (refusal ≡ None)
  pub refused : IfErr result (λ fault. fault ≢ NoMemory → refusal ≡ Some fault)
  pub unchanged : OnErr result (new ≡ old)
