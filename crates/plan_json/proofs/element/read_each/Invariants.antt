use Rattle.std.proofs.Common.{◌≡◌, ◌++◌, drop}
use Rattle.plan_json.specs.Reading.{result_map, read_each}
use Rattle.plan_json.specs.Shown.{elements_of, named_by}
use Rattle.plan_json.proofs.element.read_each.Given as goal

-- the elements so far, before those that are left
abbrev pub invariant-loop-index : goal.invariant-loop-index
invariant-loop-index g l =
    result_map (λ rest. l.all.items ++ rest) (read_each (g.E.Element.element_in (named_by l.list)) (drop l.index (elements_of l.list)))
    ≡ read_each (g.E.Element.element_in (named_by l.list)) (elements_of l.list)
