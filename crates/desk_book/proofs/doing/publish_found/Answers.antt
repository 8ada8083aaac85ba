use Rattle.std.proofs.Common.{◌≡◌, ap, subst, sym, ◌∙◌}
use Rattle.plan_base.specs.declared.parts.Parts.{Parts}
use Rattle.plan_base.specs.declared.taken.Outcome.{Outcome}
use Rattle.plan_base.specs.declared.taken.Outcome.TheVariants.{Plan}
use Rattle.plan_base.specs.Solved.{IsOutcome}
use Rattle.desk_book.specs.Doing.{IsTakenOf}
use Rattle.desk_book.proofs.Fields.{taken_now, desk_claim}
use Rattle.desk_book.proofs.doing.publish_found.Goals as goal

pub returns-in_ok-publish_certified-in-Plan-clause-claims : goal.returns-in_ok-publish_certified-in-Plan-clause-claims
returns-in_ok-publish_certified-in-Plan-clause-claims c = λ sent told.
    (let same : c.args.state.now.version ≡ c.args.taken.snapshot.version = sym c.version-newer.ensures.version ∙ c.if-newer-asked.false
    ∙ ap (λ (p : Parts). p.version) c.parts.ensures.value in
    let was : IsTakenOf c.args.state.now c.args.taken = taken_now c.args.state.now c.args.taken c.requires.behind same in
    let found : IsOutcome c.args.taken.snapshot c.args.taken.settings (Plan c.in-Plan.claim) =
    subst (λ (o : Outcome). IsOutcome c.args.taken.snapshot c.args.taken.settings o) c.in-Plan.is c.requires.found in
    desk_claim c.args.state.now c.args.taken c.in-Plan.claim sent was c.recall_valid.ensures.orderly found.0 found.1 told)
