-- The requests that are drawn.
use Rattle.std.specs.Prelude.{ℕ, ◌+◌, ◌*◌, ◌==◌, if◌then◌else◌, List, map}
use Rattle.std.specs.List.{range_with_len}
use Rattle.workload.specs.declared.class.Class.{Class}
use Rattle.workload.specs.declared.class.Class.TheVariants.{OneMetre, FortyCentimetres}
use Rattle.workload.specs.declared.request.Request.{Request}
use Rattle.workload.specs.Generator.{number_after, draw}

-- the class that a draw below 2 names
abbrev pub class_drawn : ℕ → Class
class_drawn n = if n == 0 then OneMetre else FortyCentimetres

-- the request of the five draws from x on: its class, target, exposure, and the start and the length of its window
abbrev pub request_from : ℕ → Request
request_from x =
    let start = 300 * draw x 3 72 in
    record {
      class = class_drawn (draw x 0 2);
      target = draw x 1 40;
      exposure_ms = 60000 * (1 + draw x 2 20);
      start = start;
      end = start + 7200 + 300 * draw x 4 48;
    }

-- so many requests, one after another
abbrev pub requests_from : ℕ → ℕ → List Request
requests_from x count = map (λ i. request_from (number_after x (5 * i))) (range_with_len 0 count)
