-- A text has one claim, or one snapshot.
use Rattle.plan_json.proofs.TextsBack.{texts_are_distinct}
use Rattle.plan_doc.specs.Written.{claim_data, snapshot_data}
use Rattle.plan_doc.specs.Laws.{ClaimsAreDistinct, SnapshotsAreDistinct}
use Rattle.plan_doc.proofs.Inverse.{same_claim, same_snapshot}

pub claims_are_distinct : ClaimsAreDistinct
claims_are_distinct c d p q same = same_claim c d (texts_are_distinct (claim_data c) (claim_data d) p q same)

pub snapshots_are_distinct : SnapshotsAreDistinct
snapshots_are_distinct s t p q same = same_snapshot s t (texts_are_distinct (snapshot_data s) (snapshot_data t) p q same)
