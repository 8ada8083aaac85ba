use Rattle.std.proofs.Common.{sym, ◌∙◌, arith}
use Rattle.workload.proofs.Places.{subject_by_place, at_first, in_instruments, in_telescopes, in_nights, in_skies, in_grants, in_groups, at_last}
use Rattle.workload.proofs.subject.subject_at.Goals as goal

pub returns-in-0 : goal.returns-in-0
returns-in-0 c = sym (subject_by_place c.args.place c.requires ∙ at_first c.args.place c.in-0.is)

pub returns-in-1-to-2 : goal.returns-in-1-to-2
returns-in-1-to-2 c =
    sym (subject_by_place c.args.place c.requires
    ∙ in_instruments c.args.place c.drawn.result (omega (arith, c.in-1-to-2)) (omega (arith, c.in-1-to-2)) c.drawn.ensures)

pub returns-in-3-to-8 : goal.returns-in-3-to-8
returns-in-3-to-8 c =
    sym (subject_by_place c.args.place c.requires
    ∙ in_telescopes c.args.place c.drawn-in-3-to-8.result (omega (arith, c.in-3-to-8)) (omega (arith, c.in-3-to-8)) c.drawn-in-3-to-8.ensures)

pub returns-in-9-to-11 : goal.returns-in-9-to-11
returns-in-9-to-11 c = sym (subject_by_place c.args.place c.requires ∙ in_nights c.args.place (omega (arith, c.in-9-to-11)) (omega (arith, c.in-9-to-11)))

pub returns-in-12-to-131 : goal.returns-in-12-to-131
returns-in-12-to-131 c = sym (subject_by_place c.args.place c.requires ∙ in_skies c.args.place (omega (arith, c.in-12-to-131)) (omega (arith, c.in-12-to-131)))

pub returns-in-132-to-139 : goal.returns-in-132-to-139
returns-in-132-to-139 c =
    sym (subject_by_place c.args.place c.requires
    ∙ in_grants c.args.place c.drawn-in-132-to-139.result (omega (arith, c.in-132-to-139))
    (omega (arith, c.in-132-to-139)) c.drawn-in-132-to-139.ensures)

pub returns-in-140-to-209 : goal.returns-in-140-to-209
returns-in-140-to-209 c = sym (subject_by_place c.args.place c.requires
    ∙ in_groups c.args.place (omega (arith, c.in-140-to-209)) (omega (arith, c.in-140-to-209)))

pub returns-in_default : goal.returns-in_default
returns-in_default c = sym (subject_by_place c.args.place c.requires ∙ at_last c.args.place (omega (arith, c.in_default)))
