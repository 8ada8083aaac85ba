use Rattle.std.proofs.Common.{◌∙◌, ap, sym, replicate}
use Rattle.desk_core.specs.Desk.{seen}
use Rattle.desk_core.specs.DeskSnapshot.{proposals_of, quotas_of}
use Rattle.desk_core.proofs.SnapshotParts.{quota_each}
use Rattle.desk_core.proofs.desk.Desk.quotas.Goals as goal

pub returns-in_ok-repeated-in-Some : goal.returns-in_ok-repeated-in-Some
returns-in_ok-repeated-in-Some c =
    let d = seen c.args.self.now in
    c.from_vec.ensures ∙ c.in_ok-repeated-in-Some.ensures ∙ ap (λ n. replicate n c.in-Some.quota) c.requires
    ∙ quota_each c.in-Some.quota (proposals_of d) ∙ ap (quotas_of d) (sym c.in-Some.is)
