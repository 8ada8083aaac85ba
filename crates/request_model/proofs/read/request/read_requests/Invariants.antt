use Rattle.std.proofs.Common.{◌≡◌, ◌++◌, drop}
use Rattle.plan_json.specs.Reading.{result_map, read_from}
use Rattle.plan_json.specs.Shown.{elements_of}
use Rattle.request_model.specs.Request.{request_in}
use Rattle.request_model.proofs.read.request.read_requests.Given as goal

-- the requests so far, before those of the elements that are left
abbrev pub invariant-loop-index : goal.invariant-loop-index
invariant-loop-index l =
    result_map (λ rest. l.requests ++ rest) (read_from request_in l.index (drop l.index (elements_of l.list))) ≡ read_from request_in 0 (elements_of l.list)
