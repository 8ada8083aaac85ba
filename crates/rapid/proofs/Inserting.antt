-- What holds after every list of insertions.
use Rattle.std.proofs.Common.{◌≡◌, List, [], ◌∷◌, ◌++◌, ℤ, pos, refl, sym, ◌∙◌, ap, subst, append_assoc}
use Rattle.plan_base.specs.declared.parts.Parts.{Parts}
use Rattle.plan_base.specs.declared.parts.GroupPart.{GroupPart}
use Rattle.plan_base.specs.Bound.{IsBound}
use Rattle.plan_base.specs.Verdict.{IsCertified}
use Rattle.plan_base.proofs.Single.{one_bound}
use Rattle.rapid.specs.Standing.{Standing}
use Rattle.rapid.specs.Insertion.{with_groups, InsertsEach}

pub certified_each : (before after : Standing) (groups : List GroupPart) → IsCertified before.snapshot before.claim → InsertsEach before groups after
    → IsCertified after.snapshot after.claim
certified_each before after [] h e = subst (λ (b : Standing). IsCertified b.snapshot b.claim) (sym e) h
certified_each before after (group ∷ groups) h each = certified_each each.1 after groups each.2.certified each.3

none_after : {X : Type 0} (xs : List X) → xs ≡ xs ++ []
none_after [] = refl
none_after {X} (x ∷ xs) = ap (λ (l : List X). x ∷ l) (none_after xs)

pub snapshot_each : (before after : Standing) (groups : List GroupPart) → InsertsEach before groups after → after.snapshot ≡ with_groups before.snapshot groups
snapshot_each before after [] e = ap (λ (b : Standing). b.snapshot) e
    ∙ ap (λ (gs : List GroupPart). record before.snapshot { groups = gs }) (none_after before.snapshot.groups)
snapshot_each before after (group ∷ groups) each =
    snapshot_each each.1 after groups each.3
    ∙ ap (λ (s : Parts). with_groups s groups) each.2.snapshot
    ∙ ap (λ (gs : List GroupPart). record before.snapshot { groups = gs }) (append_assoc before.snapshot.groups (group ∷ []) groups)

pub bound_each : (before after : Standing) (groups : List GroupPart) (bound : ℤ) → IsCertified before.snapshot before.claim
    → InsertsEach before groups after → IsBound after.snapshot after.claim.prices.0 after.claim.quota_prices.0 bound → bound ≡ pos after.claim.bound
bound_each before after groups bound h each is = one_bound after.snapshot after.claim.prices.0 after.claim.quota_prices.0 bound
    (pos after.claim.bound) is (certified_each before after groups h each).bound
