use Rattle.std.proofs.Common.{◌≡◌, ◌++◌, map, drop}
use Rattle.std.specs.List.{enumerate_from}
use Rattle.desk_core.specs.Desk.{seen}
use Rattle.desk_core.specs.Asking.{turned_into, seen_made, made_from, gathered, made_of}
use Rattle.desk_core.proofs.desk.Desk.made_of.Given as goal

abbrev pub invariant-loop-index : goal.invariant-loop-index
invariant-loop-index l =
    made_of (seen l.self) l.document
    ≡ turned_into (gathered (map (made_from (seen l.self) l.document.op) (enumerate_from l.index (drop l.index l.document.requests))))
    (λ rest. map seen_made l.made.items ++ rest)
