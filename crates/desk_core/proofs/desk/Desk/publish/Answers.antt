use Rattle.std.proofs.Common.{◌≡◌, ◌∙◌, ap, sym, subst, Ok, Err}
use Rattle.plan_base.specs.declared.parts.Parts.{Parts}
use Rattle.plan_base.specs.Verdict.{IsVerdict}
use Rattle.desk_events.specs.declared.fault.CommandFault.{CommandFault}
use Rattle.desk_events.specs.declared.reply.Reply.{Reply}
use Rattle.desk_core.specs.Desk.{seen}
use Rattle.desk_core.specs.Publishing.{DecidesByVerdict, with_publication}
use Rattle.desk_core.proofs.PublicationCalls.{stale_is, no_memory_from, rejected_is, published_is}
use Rattle.desk_core.proofs.desk.Desk.publish.Goals as goal

pub returns-then-asked-version : goal.returns-then-asked-version
returns-then-asked-version c =
    let d = seen c.args.self.now in
    subst (λ (f : CommandFault). DecidesByVerdict c.args.version d c.args.asked c.args.claim.now d (Err f)) (sym c.into.ensures)
    (stale_is c.args.version d c.args.asked c.args.claim.now c.if-asked-version.true)

pub returns-in_err-snapshot : goal.returns-in_err-snapshot
returns-in_err-snapshot c = no_memory_from c.args.version (seen c.args.self.now) c.args.asked c.args.claim.now c.from_residual.result c.from_residual.ensures.1

pub returns-in_err-check : goal.returns-in_err-check
returns-in_err-check c = no_memory_from c.args.version (seen c.args.self.now) c.args.asked c.args.claim.now c.from_residual-in_err-check.result
    c.from_residual-in_err-check.ensures.1

pub returns-in-No : goal.returns-in-No
returns-in-No c =
    let d = seen c.args.self.now in
    let found = subst (λ (s : Parts). IsVerdict s c.args.claim.now c.in_ok-check.field-0) c.in_ok-snapshot.ensures c.in_ok-check.ensures.verdict in
    let no = subst (IsVerdict _ c.args.claim.now) c.in-No.is found in
    subst (λ (f : CommandFault). DecidesByVerdict c.args.version d c.args.asked c.args.claim.now d (Err f)) (sym c.into-in-No.ensures)
    (rejected_is c.args.version d c.args.asked c.args.claim.now c.in-No.reason c.if-asked-version.false no)

pub returns-in_ok-publish_told-in-Yes : goal.returns-in_ok-publish_told-in-Yes
returns-in_ok-publish_told-in-Yes c =
    let d = seen c.args.self.now in
    let found = subst (λ (s : Parts). IsVerdict s c.args.claim.now c.in_ok-check.field-0) c.in_ok-snapshot.ensures c.in_ok-check.ensures.verdict in
    let yes = subst (IsVerdict _ c.args.claim.now) c.in-Yes.is found in
    let version : c.in_ok-snapshot.snapshot.version ≡ c.args.version = ap (λ (s : Parts). s.version) c.in_ok-snapshot.ensures in
    let published = c.in_ok-publish_told-in-Yes.ensures in
    subst (λ (r : Reply). DecidesByVerdict c.args.version d c.args.asked c.args.claim.now (seen c.publish_told.new.self) (Ok r)) (sym published.reply)
    (published_is c.args.version d (seen c.publish_told.new.self) c.args.asked c.args.claim.now c.in-Yes.value c.in-Yes.bound c.if-asked-version.false yes
    (published.desk ∙ ap (λ v. with_publication v c.args.claim.now d) version))
