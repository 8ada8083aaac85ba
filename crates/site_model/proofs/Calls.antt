-- What is to be shown of a call that changes something.
use Rattle.std.proofs.Common.{◌≡◌, ◌≢◌, Option, Some, None, ◌∙◌}
use Rattle.std.specs.Prelude.{Result, Ok, Err, IsErrAnd}
use Rattle.site_model.specs.declared.fault.SiteFault.{SiteFault}
use Rattle.site_model.specs.declared.fault.SiteFault.TheVariants.{NoMemory}
use Rattle.site_model.specs.Calls.{ChangesOrRefuses}

-- it made the change
pub changes : {S V : Type 0} (refusal : Option SiteFault) (old changed new : S) (v : V) → refusal ≡ None → new ≡ changed
    → ChangesOrRefuses refusal old changed new (Ok v)
changes refusal old changed new v allowed ok = record { ok = ok; allowed = allowed; refused = tt; unchanged = tt }

-- it was refused, or found no memory
pub refuses : {S V : Type 0} (refusal : Option SiteFault) (old changed new : S) (fault : SiteFault) → (fault ≢ NoMemory → refusal ≡ Some fault) → new ≡ old
    → ChangesOrRefuses {S = S} {V = V} refusal old changed new (Err fault)
refuses refusal old changed new fault refused unchanged = record { ok = tt; allowed = tt; refused = refused; unchanged = unchanged }

-- it passed on what another call answered
pub passes_on : {S V : Type 0} (refusal : Option SiteFault) (old changed new : S) (fault : SiteFault) (result : Result V SiteFault)
    → IsErrAnd result (λ f. f ≡ fault)
    → (fault ≢ NoMemory → refusal ≡ Some fault) → new ≡ old → ChangesOrRefuses refusal old changed new result
passes_on refusal old changed new fault (Ok v) is refused unchanged = absurd is
passes_on refusal old changed new fault (Err f) is refused unchanged =
    refuses refusal old changed new f (λ memory. rw is (refused (λ none. memory (is ∙ none)))) unchanged
