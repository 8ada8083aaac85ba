use Rattle.std.proofs.Common.{◌≡◌, ◌≤◌, ℕ, pos, ◌≤ℤ◌, sym, ◌∙◌, ap, subst, arith, Option, None}
use Rattle.std.proofs.lemmas.Int.{ints}
use Rattle.plan_base.specs.declared.verdict.Reason.{Reason}
use Rattle.plan_base.specs.Starts.{value_of_plan}
use Rattle.plan_base.specs.Verdict.{IsCertified, IsFirstReason}
use Rattle.bound_checker.proofs.verdict.check.Goals as goal

pub returns-in-None-clause-bound : goal.returns-in-None-clause-bound
returns-in-None-clause-bound c = λ value bound same plan feasible.
    let certified : IsCertified c.args.snapshot.now c.args.claim.now =
    subst (λ (o : Option Reason). IsFirstReason c.args.snapshot.now c.args.claim.now o) c.in-None.is c.in_ok-reason.ensures in
    let most : pos (value_of_plan c.args.snapshot.now plan) ≤ℤ pos c.args.claim.now.bound =
    c.weak_duality.ensures plan (pos c.args.claim.now.bound) feasible certified.bound in
    let is : c.args.claim.now.bound ≡ bound = cc in
    omega (arith, ints)
