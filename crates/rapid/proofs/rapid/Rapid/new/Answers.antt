use Rattle.std.proofs.Common.{sym, subst}
use Rattle.plan_base.specs.declared.parts.Parts.{Parts}
use Rattle.plan_base.specs.Verdict.{IsCertified, IsVerdict}
use Rattle.rapid.specs.Tables.{AreTables}
use Rattle.rapid.proofs.Standings.{yes_certified, certified_yes}
use Rattle.rapid.proofs.rapid.Rapid.new.Goals as goal

pub tables_of-requires-clause-count : goal.tables_of-requires-clause-count
tables_of-requires-clause-count c =
    (yes_certified c.args.snapshot.now c.args.claim c.in-Yes.value c.in-Yes.bound
    (subst (IsVerdict c.args.snapshot.now c.args.claim) c.in-Yes.is c.in_ok-check.ensures.verdict)).price_count

pub tables_of-requires-clause-range : goal.tables_of-requires-clause-range
tables_of-requires-clause-range c =
    (yes_certified c.args.snapshot.now c.args.claim c.in-Yes.value c.in-Yes.bound
    (subst (IsVerdict c.args.snapshot.now c.args.claim) c.in-Yes.is c.in_ok-check.ensures.verdict)).price_range

pub invariant_of-result : goal.invariant_of-result
invariant_of-result c =
    subst (λ (s : Parts). IsCertified s c.args.claim × AreTables s c.args.claim.prices.0 c.in_ok-tables-in-Yes.tables)
    (sym c.in_ok-clone-in-Yes.ensures.cases) (
      yes_certified c.args.snapshot.now c.args.claim c.in-Yes.value c.in-Yes.bound
          (subst (IsVerdict c.args.snapshot.now c.args.claim) c.in-Yes.is c.in_ok-check.ensures.verdict),
      c.in_ok-tables-in-Yes.ensures,
    )

pub returns-in_ok-clone-in-Yes : goal.returns-in_ok-clone-in-Yes
returns-in_ok-clone-in-Yes c = (
  (λ i. record { snapshot = c.in_ok-clone-in-Yes.ensures.cases i; claim = c.args.claim; displaced = c.new.ensures i }),
  certified_yes c.args.snapshot.now c.args.claim
      (yes_certified c.args.snapshot.now c.args.claim c.in-Yes.value c.in-Yes.bound
      (subst (IsVerdict c.args.snapshot.now c.args.claim) c.in-Yes.is c.in_ok-check.ensures.verdict)),
)

pub returns-in-No : goal.returns-in-No
returns-in-No c = subst (IsVerdict c.args.snapshot.now c.args.claim) c.in-No.is c.in_ok-check.ensures.verdict
