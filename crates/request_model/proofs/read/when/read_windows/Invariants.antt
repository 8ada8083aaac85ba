use Rattle.std.proofs.Common.{◌≡◌, ◌++◌, drop}
use Rattle.plan_json.specs.Reading.{result_map, read_from}
use Rattle.plan_json.specs.Shown.{elements_of}
use Rattle.request_model.specs.When.{window_in}
use Rattle.request_model.proofs.read.when.read_windows.Given as goal

-- the windows so far, before those of the elements that are left
abbrev pub invariant-loop-window : goal.invariant-loop-window
invariant-loop-window l =
    result_map (λ rest. l.windows ++ rest) (read_from (window_in l.index) l.window (drop l.window (elements_of l.list)))
    ≡ read_from (window_in l.index) 0 (elements_of l.list)
