use Rattle.std.proofs.Common.{sym, subst}
use Rattle.plan_base.specs.Snapshot.{IsSnapshot}
use Rattle.desk_core.specs.Desk.{seen}
use Rattle.desk_core.proofs.SnapshotOrder.{is_snapshot}
use Rattle.desk_core.proofs.SnapshotParts.{parts_are}
use Rattle.desk_core.proofs.desk.Desk.parts.Goals as goal

pub returns-clause-parts : goal.returns-clause-parts
returns-clause-parts c =
    let d = seen c.args.self.now in
    parts_are c.args.version d c.first_slice.result c.in_ok-telescopes.telescopes c.in_ok-skies.skies c.in_ok-groups.field-0.groups
    c.in_ok-groups.field-0.quotas
    c.first_slice.ensures c.in_ok-telescopes.ensures.parts c.in_ok-skies.ensures c.in_ok-groups.ensures.groups c.in_ok-groups.ensures.quotas

pub returns-clause-snapshot : goal.returns-clause-snapshot
returns-clause-snapshot c =
    let d = seen c.args.self.now in
    let same = returns-clause-parts c in
    subst IsSnapshot (sym same) (is_snapshot c.args.version d c.requires.version c.requires.desk record {
      few = c.recall_few.ensures;
      usable = c.in_ok-telescopes.ensures.limits;
    })
