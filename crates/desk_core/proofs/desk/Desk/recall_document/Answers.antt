use Rattle.std.proofs.Common.{sym, subst}
use Rattle.plan_base.specs.Snapshot.{IsOrderly}
use Rattle.plan_doc.specs.Ranges.{AreParts}
use Rattle.desk_core.specs.Desk.{seen}
use Rattle.desk_core.proofs.SnapshotRanges.{parts_in}
use Rattle.desk_core.proofs.desk.Desk.recall_document.Goals as goal

pub returns : goal.returns
returns c =
    let s = c.args.snapshot.now in
    let orderly = c.recall_valid.ensures.orderly in
    let version = orderly.ranges.version in
    subst AreParts (sym c.requires.snapshot)
    (parts_in s.version (seen c.args.self.now) version c.requires.desk c.recall_few.ensures c.requires.few (subst IsOrderly c.requires.snapshot orderly))
