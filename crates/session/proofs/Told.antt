-- What was written of a workload.
use Rattle.std.proofs.Common.{◌≡◌, ℕ, List, subst}
use Rattle.std.specs.declared.option.Option.{Option}
use Rattle.plan_io.specs.declared.sink.PutAnswer.TheVariants as put
use Rattle.plan_io.specs.declared.status.Status.{Status}
use Rattle.plan_io.specs.declared.status.Status.TheVariants.{Done, WriteFault}
use Rattle.plan_io.specs.Sink.{Adds, Puts}
use Rattle.session.specs.Summary.{IsSummaryText, WritesSummary, IsWorkloadRun}

pub told : (number : ℕ) (held held' : Option (List ℕ)) (text shown : List ℕ) (status : Status) → IsSummaryText number text → shown ≡ text
    → WritesSummary held held' shown status
    → IsWorkloadRun number held held' status
told number held held' text shown Done is same written = (text, is, subst (λ (xs : List ℕ). Adds held held' xs) same written)
told number held held' text shown WriteFault is same written = (text, is, subst (λ (xs : List ℕ). Puts held held' put.WriteFault xs) same written)
told number held held' text shown status is same written = absurd written
