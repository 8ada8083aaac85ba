-- A claim that was planned for the snapshot of the desk as it is, is published: the state is kept.
use Rattle.std.proofs.Common.{◌≡◌, ◌∙◌, ℕ, ◌+◌, ◌<◌, ap, sym, subst, Some, arith}
use Rattle.plan_base.specs.declared.claim.Claim.{Claim}
use Rattle.plan_base.specs.declared.parts.Parts.{Parts}
use Rattle.plan_base.specs.Verdict.{IsCertified}
use Rattle.desk_core.specs.Desk.{DeskSeen, StateSeen}
use Rattle.desk_core.specs.DeskSnapshot.{snapshot_of}
use Rattle.desk_core.specs.Kept.{IsState}
use Rattle.desk_core.specs.Publishing.{with_publication}
use Rattle.desk_core.specs.Step.{IsSnapshotOf, opened}
use Rattle.desk_core.proofs.KeptState.{change_keeps}
use Rattle.desk_core.proofs.Publications.{publication_keeps}

-- the snapshot of an opened desk
pub snapshot_is : (s : StateSeen) (version : ℕ) (d : DeskSeen) (parts : Parts) → s ≡ opened version d → IsSnapshotOf s parts → parts ≡ snapshot_of version d
snapshot_is s version d parts is of =
    let both : Some of.0 ≡ Some d = sym of.1 ∙ ap (λ (t : StateSeen). t.desk) is in
    let same : of.0 ≡ d = cc in
    of.2 ∙ ap (λ (t : StateSeen). snapshot_of t.version of.0) is ∙ ap (snapshot_of version) same

pub published_keeps : (s : StateSeen) (version : ℕ) (d e : DeskSeen) (parts : Parts) (claim : Claim) → version < 524288
    → IsState (opened version d) → s ≡ opened version d
    → IsSnapshotOf s parts → IsCertified parts claim → e ≡ with_publication parts.version claim d → IsState (opened (version + 1) e)
published_keeps s version d e parts claim lt h is of certified published =
    let snapshot = snapshot_is s version d parts is of in
    let known = publication_keeps version d claim h.desk (subst (λ (p : Parts). IsCertified p claim) snapshot certified) in
    let made : e ≡ with_publication version claim d = published ∙ ap (λ (p : Parts). with_publication p.version claim d) snapshot in
    subst (λ (x : DeskSeen). IsState (opened (version + 1) x)) (sym made)
    (change_keeps version d (with_publication version claim d) lt h record { desk = known; seconds = omega arith; groups = omega arith })
