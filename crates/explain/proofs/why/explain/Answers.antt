use Rattle.explain.proofs.Leaving.{certified_by, sound}
use Rattle.explain.proofs.why.explain.Goals as goal

pub explained-requires : goal.explained-requires
explained-requires c = certified_by c.args.snapshot.now c.args.claim.now c.in_ok-check.field-0 c.in-Yes.value c.in-Yes.bound
    c.in_ok-check.ensures.verdict c.in-Yes.is

pub returns-in_ok-explained-in-Yes-clause-excluded : goal.returns-in_ok-explained-in-Yes-clause-excluded
returns-in_ok-explained-in-Yes-clause-excluded c =
    sound c.args.snapshot.now c.args.claim.now c.in_ok-explained-in-Yes.field-0 c.recall_valid.ensures.orderly
    (certified_by c.args.snapshot.now c.args.claim.now c.in_ok-check.field-0 c.in-Yes.value c.in-Yes.bound c.in_ok-check.ensures.verdict c.in-Yes.is)
    c.in_ok-explained-in-Yes.ensures
