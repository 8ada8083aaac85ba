use Rattle.std.proofs.Common.{◌≡◌, take}
use Rattle.lanes.specs.Found.{ArePrices}
use Rattle.lanes.proofs.Keeping.{kept_of}
use Rattle.lanes.proofs.worker.Worker.keep.Given as goal

abbrev pub invariant-loop-place : goal.invariant-loop-place
invariant-loop-place g l =
    (l.self ≡ record l.fn.self { found = kept_of l.fn.self.found (take l.place l.fn.self.lanes.items) })
    × ArePrices l.fn.self.steps.snapshot l.self.found.prices l.self.found.quota_prices
