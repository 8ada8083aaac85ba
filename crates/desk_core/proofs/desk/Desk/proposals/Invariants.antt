use Rattle.std.proofs.Common.{◌≡◌, [], take}
use Rattle.std.specs.Prelude.{fold}
use Rattle.site_model.specs.Names.{numbered}
use Rattle.desk_core.specs.Desk.{seen}
use Rattle.desk_core.specs.DeskSnapshot.{listed_groups}
use Rattle.desk_core.proofs.desk.Desk.proposals.Given as goal

abbrev pub invariant-loop-number : goal.invariant-loop-number
invariant-loop-number l =
    l.proposals.keys ≡ fold (λ names p. numbered names p.0.document.proposal) [] (take l.number-index (listed_groups (seen l.self)))
