use Rattle.std.proofs.Common.{◌∙◌, ap, length, arith}
use Rattle.desk_core.specs.Desk.{seen}
use Rattle.desk_core.proofs.SnapshotGroups.{few_groups}
use Rattle.desk_core.proofs.SnapshotSkies.{proposals_few}
use Rattle.desk_core.proofs.SnapshotListing.{group_at, as_many, submission_is}
use Rattle.desk_core.proofs.SnapshotParts.{group_part_is}
use Rattle.desk_core.proofs.desk.Desk.group_part.Goals as goal

pub quota_place-requires-clause-few : goal.quota_place-requires-clause-few
quota_place-requires-clause-few c =
    let d = seen c.args.self.now in
    omega (arith, ap length c.requires.proposals, proposals_few d, few_groups d c.requires.desk)

pub submission-submitted-requires : goal.submission-submitted-requires
submission-submitted-requires c = (c.requires.number.0, omega (arith, c.requires.number.1, as_many (seen c.args.self.now) c.requires.desk))

pub returns : goal.returns
returns c p e =
    let d = seen c.args.self.now in
    group_part_is d p c.submission-submitted.result.now c.known-group.result.now c.in_ok-request_parts.field-0 c.quota_place.result
    (submission_is d c.args.number p c.submission-submitted.result.now e c.submission-submitted.ensures)
    (c.known-group.ensures ∙ group_at d c.args.number p e) c.in_ok-request_parts.ensures c.quota_place.ensures
