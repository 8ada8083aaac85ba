-- What a call answers that the network refused.
use Rattle.std.proofs.Common.{◌≡◌, ◌≢◌, ◌∙◌, refl, ap, sym, subst, Some, Result, Err}
use Rattle.std.specs.Result.{IsErrAnd}
use Rattle.std.proofs.lemmas.Result.{err_from_is_err_and}
use Rattle.site_model.specs.declared.fault.SiteFault.{SiteFault}
use Rattle.site_model.specs.declared.fault.SiteFault.TheVariants as site
use Rattle.desk_events.specs.declared.fault.CommandFault.{CommandFault}
use Rattle.desk_events.specs.declared.fault.CommandFault.TheVariants.{NoMemory}
use Rattle.desk_events.specs.declared.refusal.Refusal.{Refusal}
use Rattle.desk_events.specs.declared.refusal.Refusal.TheVariants as refusal
use Rattle.desk_events.specs.declared.reply.Reply.{Reply}
use Rattle.desk_events.specs.Fault.{of_network, full_of_site}
use Rattle.desk_core.specs.Desk.{DeskSeen, Decision, Decides}
use Rattle.desk_core.specs.Refusals.{refusal_in, refusal_of_site}

-- each of the network's faults but want of memory is a refusal
named : (fault : SiteFault) → of_network fault ≢ NoMemory → (r : Refusal) × (refusal_in (of_network fault) ≡ Some r)
named site.NoSuchTelescope other = (refusal.NoSuchTelescope, refl)
named site.NoSuchSite other = (refusal.NoSuchSite, refl)
named site.Repeated other = (refusal.Repeated, refl)
named (site.Full limit what) other = (refusal.Full limit (full_of_site what), refl)
named (site.NoSuchInstrument index) other = (refusal.NoSuchInstrument index, refl)
named site.NoMemory other = absurd (other refl)

pub named_refusal : (fault : SiteFault) → fault ≢ site.NoMemory → (r : Refusal) × (refusal_of_site fault ≡ Some r)
named_refusal fault memory = named fault (λ none. memory (of_none fault none))
  where
    of_none : (f : SiteFault) → of_network f ≡ NoMemory → f ≡ site.NoMemory
    of_none site.NoSuchTelescope e = absurd (cc)
    of_none site.NoSuchSite e = absurd (cc)
    of_none site.Repeated e = absurd (cc)
    of_none (site.Full limit what) e = absurd (cc)
    of_none (site.NoSuchInstrument index) e = absurd (cc)
    of_none site.NoMemory e = refl

-- a call that the network refused, and that changed nothing
pub network_refused : (decision : Decision) (before after : DeskSeen) (fault : SiteFault) (result : Result Reply CommandFault)
    → IsErrAnd result (λ f. f ≡ of_network fault)
    → (fault ≢ site.NoMemory → decision.refusal ≡ refusal_of_site fault) → after ≡ before → Decides decision before after result
network_refused decision before after fault result is refused same =
    let found = err_from_is_err_and result is in
    subst (Decides decision before after) (sym (found.1 ∙ ap (λ f. Err f) found.2)) record {
      ok = tt;
      refused = λ other.
          let r = named fault other in
          (r.0, refused (λ memory. other (ap of_network memory)) ∙ r.1, r.1);
      unchanged = same;
    }
