-- What a call answers decides so.
use Rattle.std.proofs.Common.{◌≡◌, refl, Some, Err}
use Rattle.desk_events.specs.declared.fault.CommandFault.TheVariants.{Refused}
use Rattle.desk_events.specs.declared.refusal.Refusal.{Refusal}
use Rattle.desk_core.specs.Desk.{DeskSeen, Decision, Decides}

-- a refusal that is decided
pub refused_so : (decision : Decision) (d : DeskSeen) (r : Refusal) → decision.refusal ≡ Some r → Decides decision d d (Err (Refused r))
refused_so decision d r e = record { ok = tt; refused = λ _. (r, e, refl); unchanged = refl }
