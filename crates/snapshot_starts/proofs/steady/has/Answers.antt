use Rattle.std.proofs.Common.{subst}
use Rattle.std.specs.Prelude.{IsTrue}
use Rattle.snapshot_starts.proofs.Searching.{found_there}
use Rattle.snapshot_starts.proofs.steady.has.Goals as goal

pub returns : goal.returns
returns g c =
    λ yes. found_there _ _ _ _ c.requires c.binary_search.ensures.bound c.binary_search.ensures.ok (subst IsTrue c.is_ok.ensures.value yes)
