use Rattle.std.proofs.Common.{inl, subst, sym}
use Rattle.plan_base.specs.declared.taken.Taken.{Taken}
use Rattle.desk_book.specs.Doing.{IsTakenOf}
use Rattle.session.proofs.Plans.{plan_replied}
use Rattle.session.proofs.line.publish_solved.Goals as goal

pub publish_found-requires-clause-behind : goal.publish_found-requires-clause-behind
publish_found-requires-clause-behind c = inl (subst (λ (t : Taken). IsTakenOf c.args.state.now t) (sym c.into_parts-taken.ensures.same_taken) c.requires.taken)

pub publish_found-requires-clause-found : goal.publish_found-requires-clause-found
publish_found-requires-clause-found c = c.into_parts-taken.ensures.found

pub returns-clause-reply : goal.returns-clause-reply
returns-clause-reply c =
    plan_replied c.args.state.now c.into_parts-taken.result.0 c.in_ok-reply.reply
    (subst (λ (t : Taken). IsTakenOf c.args.state.now t) (sym c.into_parts-taken.ensures.same_taken) c.requires.taken)
    c.in_ok-reply.ensures.publication c.in_ok-reply.ensures.claims

pub returns-clause-left : goal.returns-clause-left
returns-clause-left c = c.in_ok-reply.ensures.left
