-- The state of a desk, and what a line leaves of it.
use Rattle.std.specs.Prelude.{ℕ, ◌+◌, ◌≡◌, ◌≢◌, List, Option, Some, None, Result, Ok, Err, IfOk, IfErr, OnErr}
use Rattle.site_model.specs.Network.{NetworkSeen}
use Rattle.allocations.specs.Books.{Books}
use Rattle.desk_runs.specs.Progress.{Progress}
use Rattle.desk_events.specs.declared.fault.CommandFault.{CommandFault}
use Rattle.desk_events.specs.declared.fault.CommandFault.TheVariants.{NoMemory}
use Rattle.desk_events.specs.declared.refusal.Refusal.{Refusal}
use Rattle.desk_events.specs.declared.reply.Reply.{Reply}
use Rattle.desk_events.specs.declared.reply.Reply.TheVariants.{Refused}
use Rattle.desk_core.specs.declared.desk.Desk.{Desk}
use Rattle.desk_core.specs.declared.desk.Opening.{Opening}
use Rattle.desk_core.specs.Publication.{PublicationSeen}
use Rattle.desk_core.specs.declared.desk.Submitted.{Submitted}
use Rattle.desk_core.specs.Refusals.{refusal_in}

-- ---- the state

-- an opened desk: what it was opened with, the network, the books of the accounts, the groups as they were submitted and how
-- far they have come, both in the order of their numbers, and the last publication
pub record DeskSeen : Type 0 where
  pub opening : Opening
  pub network : NetworkSeen
  pub books : Books
  pub groups : List Submitted
  pub progress : Progress
  pub published : Option PublicationSeen

-- a desk as it is seen, without the room that its ledger has
abbrev pub seen : Desk → DeskSeen
seen a = record { opening = a.opening; network = a.network; books = a.ledger.books; groups = a.submitted.items; progress = a.runs; published = a.published }

-- how many changes were accepted, and the desk, once it is opened
pub record StateSeen : Type 0 where
  pub version : ℕ
  pub desk : Option DeskSeen

-- before the first line
abbrev pub start : StateSeen
start = record { version = 0; desk = None }

-- ---- what a line leaves

-- a reply, and the state that is left
pub record Stepped : Type 0 where
  pub reply : Reply
  pub state : StateSeen

-- a refused line leaves the state
abbrev pub refused : StateSeen → Refusal → Stepped
refused s refusal = record { reply = Refused refusal; state = s }

-- an accepted change counts, and leaves this desk
abbrev pub accepted : StateSeen → Reply → DeskSeen → Stepped
accepted s reply desk = record { reply = reply; state = record { version = s.version + 1; desk = Some desk } }

-- what only shows the desk leaves the state, and doesn't count
abbrev pub told : StateSeen → Result Reply Refusal → Stepped
told s (Ok reply) = record { reply = reply; state = s }
told s (Err refusal) = refused s refusal

-- a call tells so: it answers the reply or the refusal, or finds no memory
pub record Tells (answer : Result Reply Refusal) (result : Result Reply CommandFault) : Type 0 where
  pub ok : IfOk result (λ reply. answer ≡ Ok reply)
  pub refused : IfErr result (λ fault. fault ≢ NoMemory → (r : Refusal) × (answer ≡ Err r) × (refusal_in fault ≡ Some r))

-- what a command decides on a desk: a refusal, or a reply and the desk that is left; where there is a refusal, these two mean
-- nothing
pub record Decision : Type 0 where
  pub refusal : Option Refusal
  pub reply : Reply
  pub desk : DeskSeen

-- refused where there is a refusal, else accepted with this reply and this desk
abbrev pub decided : StateSeen → Decision → Stepped
decided s decision = by_refusal decision.refusal
  where
    by_refusal : Option Refusal → Stepped
    by_refusal None = accepted s decision.reply decision.desk
    by_refusal (Some refusal) = refused s refusal

-- a call decides so: it answers the reply and leaves that desk, or it answers the refusal, or finds no memory, and changes
-- nothing
pub record Decides (decision : Decision) (before after : DeskSeen) (result : Result Reply CommandFault) : Type 0 where
  pub ok : IfOk result (λ reply. (decision.refusal ≡ None) × (reply ≡ decision.reply) × (after ≡ decision.desk))
  pub refused : IfErr result (λ fault. fault ≢ NoMemory → (r : Refusal) × (decision.refusal ≡ Some r) × (refusal_in fault ≡ Some r))
  pub unchanged : OnErr result (after ≡ before)
