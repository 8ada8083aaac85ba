use Rattle.std.proofs.Common.{◌≢◌, inl, inr, ◌∙◌, ap}
use Rattle.plan_base.specs.declared.parts.Op.TheVariants.{OneOf, And}
use Rattle.repair.specs.Entries.{numbers_of}
use Rattle.repair.proofs.Grouping.{outside_all}
use Rattle.repair.proofs.Visiting.{visit_alone}
use Rattle.repair.proofs.visit.visit.Goals as goal

pub try_each-requires-clause-alone : goal.try_each-requires-clause-alone
try_each-requires-clause-alone c =
    let other : c.args.trial.now.op ≢ OneOf = λ e. elim c.in-Single.is [ inl h ↦ cc | inr h ↦ cc ] in
    outside_all c.args.draft.now.snapshot c.args.group c.args.trial.now.op _ c.recall.ensures.orderly c.requires.trial.kind other
    (ap numbers_of c.deref.ensures.value ∙ c.requires.trial.by_number other)

pub returns-in-Single-clause-visits : goal.returns-in-Single-clause-visits
returns-in-Single-clause-visits c =
    let other : c.args.trial.now.op ≢ OneOf = λ e. elim c.in-Single.is [ inl h ↦ cc | inr h ↦ cc ] in
    let also : c.args.trial.now.op ≢ And = λ e. elim c.in-Single.is [ inl h ↦ cc | inr h ↦ cc ] in
    visit_alone c.args.draft.now.snapshot c.args.draft.now.placed c.try_each.new.draft.placed c.args.group c.args.trial.now.op _ c.requires.trial.kind
    other also (ap numbers_of c.deref.ensures.value ∙ c.requires.trial.by_number other) c.try_each.ensures.tries
