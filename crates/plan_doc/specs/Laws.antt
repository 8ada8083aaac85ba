-- What is claimed of reading and writing together.
use Rattle.std.specs.Prelude.{◌≡◌, Some, Ok}
use Rattle.serde_json.specs.Data.{Members}
use Rattle.plan_base.specs.declared.claim.Claim.{Claim}
use Rattle.plan_base.specs.declared.parts.Parts.{Parts}
use Rattle.plan_base.specs.declared.verdict.Verdict.TheVariants.{Yes}
use Rattle.plan_base.specs.Snapshot.{IsInRanges, IsSnapshot}
use Rattle.plan_base.specs.Verdict.{IsCertified, IsVerdict}
use Rattle.plan_json.specs.declared.member.Member.TheVariants as key
use Rattle.plan_json.specs.Exact.{IsExact}
use Rattle.plan_json.specs.Object.{value_of}
use Rattle.plan_json.specs.Values.{in_byte_order, those_there}
use Rattle.plan_doc.specs.Claim.{claim_of}
use Rattle.plan_doc.specs.Snapshot.{parts_of, snapshot_of}
use Rattle.plan_doc.specs.Publication.{publication_of}
use Rattle.plan_doc.specs.Written.{claim_members, claim_data, text_of_claim, snapshot_members, snapshot_data, text_of_snapshot}
use Rattle.plan_doc.specs.Ranges.{IsClaim, AreParts}

-- the document of each claim in the ranges is read as that claim
abbrev pub ClaimsAreReadBack : Type 0
ClaimsAreReadBack = (c : Claim) → IsClaim c → claim_of (those_there (in_byte_order (claim_members c))) ≡ Ok c

-- each claim that is read lies in the ranges
abbrev pub ClaimsAreInRange : Type 0
ClaimsAreInRange = (ms : Members) (c : Claim) → claim_of ms ≡ Ok c → IsClaim c

-- claims whose numbers have 64 bits, as what is written is exact, are the same where they have one text
abbrev pub ClaimsAreDistinct : Type 0
ClaimsAreDistinct = (c d : Claim) → IsExact (claim_data c) → IsExact (claim_data d) → text_of_claim c ≡ text_of_claim d → c ≡ d

-- the document of each snapshot in the ranges is read as that snapshot
abbrev pub SnapshotsAreReadBack : Type 0
SnapshotsAreReadBack = (s : Parts) → IsSnapshot s → AreParts s → snapshot_of (those_there (in_byte_order (snapshot_members s))) ≡ Ok s

-- the parts that are read lie in the ranges, as a snapshot wants them
abbrev pub SnapshotsAreInRange : Type 0
SnapshotsAreInRange = (ms : Members) (s : Parts) → parts_of ms ≡ Ok s → AreParts s × IsInRanges s

-- snapshots whose numbers have 64 bits, as what is written is exact, are the same where they have one text
abbrev pub SnapshotsAreDistinct : Type 0
SnapshotsAreDistinct = (s t : Parts) → IsExact (snapshot_data s) → IsExact (snapshot_data t) → text_of_snapshot s ≡ text_of_snapshot t → s ≡ t

-- an object whose members `snapshot` and `claim` are the documents of a snapshot and of a claim is read as these two
abbrev pub PublicationsAreReadBack : Type 0
PublicationsAreReadBack =
    (ms : Members) (s : Parts) (c : Claim) → IsSnapshot s → AreParts s → IsClaim c
    → value_of ms key.Snapshot ≡ Some (snapshot_data s) → value_of ms key.Claim ≡ Some (claim_data c)
    → publication_of ms ≡ Ok (record { snapshot = s; claim = c })

-- each claim that is certified for a snapshot in the ranges lies in the ranges
abbrev pub CertifiedClaimsAreInRange : Type 0
CertifiedClaimsAreInRange = (s : Parts) (c : Claim) → IsSnapshot s → AreParts s → IsCertified s c → IsClaim c

-- An object whose members `snapshot` and `claim` are the documents of a snapshot in the ranges and of a claim that is certified
-- for it, as the reply to an export line is one, is read as these two, and the verdict on them is Yes, with the claim's value and bound.
abbrev pub ExportsAreCertified : Type 0
ExportsAreCertified =
    (ms : Members) (s : Parts) (c : Claim) → IsSnapshot s → AreParts s → IsCertified s c
    → value_of ms key.Snapshot ≡ Some (snapshot_data s) → value_of ms key.Claim ≡ Some (claim_data c)
    → (publication_of ms ≡ Ok (record { snapshot = s; claim = c })) × IsVerdict s c (Yes c.value c.bound)
