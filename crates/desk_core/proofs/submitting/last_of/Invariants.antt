use Rattle.std.proofs.Common.{◌≡◌, take}
use Rattle.desk_core.specs.Asking.{last_of}
use Rattle.desk_core.proofs.submitting.last_of.Given as goal

abbrev pub invariant-loop-window : goal.invariant-loop-window
invariant-loop-window l = l.last.0 ≡ last_of (take l.window-index l.windows)
