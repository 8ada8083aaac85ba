use Rattle.std.proofs.Common.{◌≡◌, ℕ, ◌<◌, length}
use Rattle.desk_core.specs.History.{script_of}
use Rattle.session.proofs.live.same.is_same.Given as goal

abbrev pub invariant-loop-caller : goal.invariant-loop-caller
invariant-loop-caller l = (length l.a.scripts ≡ length l.b.scripts) × ((k : ℕ) → k < l.caller → script_of l.a.scripts k ≡ script_of l.b.scripts k)
