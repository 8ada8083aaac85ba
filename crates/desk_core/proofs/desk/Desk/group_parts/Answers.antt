use Rattle.std.proofs.Common.{◌∙◌, ap, sym, subst}
use Rattle.desk_core.specs.Desk.{seen}
use Rattle.desk_core.specs.DeskSnapshot.{both_at, IsGroupNo, listed_groups, group_part}
use Rattle.desk_core.proofs.SnapshotListing.{next_is, listed_at}
use Rattle.desk_core.proofs.SnapshotParts.{mapped_more}
use Rattle.desk_core.proofs.desk.Desk.group_parts.Goals as goal

pub group_part-requires-clause-number : goal.group_part-requires-clause-number
group_part-requires-clause-number c =
    let d = seen c.args.self.now in
    let next = next_is d (listed_groups d) c.args.listed.now c.loop-number.number-index
    (listed_at d c.requires.desk) c.requires.listed c.loop-number-test.true in
    subst (IsGroupNo d) (sym next.number) next.numbered.known

pub loop-number-preserved : goal.loop-number-preserved
loop-number-preserved c =
    let d = seen c.args.self.now in
    let next = next_is d (listed_groups d) c.args.listed.now c.loop-number.number-index
    (listed_at d c.requires.desk) c.requires.listed c.loop-number-test.true in
    mapped_more (group_part d) (listed_groups d) c.loop-number.number-index next.group next.in_range next.stands c.loop-number.parts
    c.push.new.self c.loop-number.invariant
    c.in_ok-group_part.field-0 (c.in_ok-group_part.ensures next.group (ap (both_at d) next.number ∙ next.numbered.at)) c.in_ok-push.ensures.ok
