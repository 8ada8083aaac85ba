-- A claim that was published, with the snapshot that it was published for.
use Rattle.plan_base.specs.declared.claim.Claim.{Claim}
use Rattle.plan_base.specs.declared.parts.Parts.{Parts}
use Rattle.plan_base.specs.Snapshot.{IsSnapshot}
use Rattle.plan_base.specs.Verdict.{IsCertified}
use Rattle.plan_doc.specs.Ranges.{AreParts}

-- what contracts see of it
pub record PublicationSeen : Type 0 where
  pub snapshot : Parts
  pub claim : Claim

-- the snapshot has no fault and is in the ranges of documents, and the claim is certified for it: so a document of the two is
-- read as these, and its check says Yes
pub record IsCheckable (s : Parts) (claim : Claim) : Type 0 where
  pub snapshot : IsSnapshot s
  pub ranges : AreParts s
  pub certified : IsCertified s claim
