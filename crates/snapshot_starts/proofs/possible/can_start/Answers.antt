use Rattle.std.proofs.Common.{sym, ◌∙◌}
use Rattle.std.proofs.lemmas.Bool.{false≢true}
use Rattle.snapshot_starts.proofs.Open.{part_apart, no_telescope, open_iff}
use Rattle.snapshot_starts.proofs.possible.can_start.Goals as goal

pub is_open-requires-clause-usable : goal.is_open-requires-clause-usable
is_open-requires-clause-usable c = part_apart c.args.parts.now c.args.telescope.0 c.in-Some.part.now c.requires.orderly c.in-Some.ensures.0 c.in-Some.ensures.1

pub returns-then-not-is_able : goal.returns-then-not-is_able
returns-then-not-is_able c = (λ yes. absurd (false≢true yes), λ can. sym c.if-not-is_able.true ∙ c.is_able.ensures.1 can.able)

pub returns-then-not-is_timely : goal.returns-then-not-is_timely
returns-then-not-is_timely c = (λ yes. absurd (false≢true yes), λ can. sym c.if-not-is_timely.true ∙ c.is_timely.ensures.1 can.timely)

pub returns-in-Some : goal.returns-in-Some
returns-in-Some c =
    let both = open_iff c.args.parts.now c.args.request.now c.args.telescope c.args.slice.0 c.in-Some.part.now _ _ c.in-Some.ensures.0 c.in-Some.ensures.1
    (c.is_able.ensures.0 c.if-not-is_able.false) (c.is_timely.ensures.0 c.if-not-is_timely.false) c.times_of-times.ensures.from c.times_of-times.ensures.to in
    (λ yes. both.0 (c.is_open.ensures.0 yes), λ can. c.is_open.ensures.1 (both.1 can))

pub returns-in-None : goal.returns-in-None
returns-in-None c = (λ yes. absurd (false≢true yes), λ can. absurd (no_telescope _ _ _ _ c.in-None.ensures can))
