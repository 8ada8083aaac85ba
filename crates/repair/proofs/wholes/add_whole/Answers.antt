use Rattle.std.proofs.Common.{◌≡◌, ◌≢◌, inl, inr, ◌∙◌, ap, subst}
use Rattle.plan_base.specs.declared.parts.Op.{Op}
use Rattle.plan_base.specs.declared.parts.Op.TheVariants.{OneOf, And}
use Rattle.plan_base.specs.Requests.{IsKind}
use Rattle.plan_base.proofs.Rebates.{one_kind}
use Rattle.repair.specs.Entries.{numbers_of}
use Rattle.repair.proofs.Adding.{adds_whole, places_feasible, adds_other}
use Rattle.repair.proofs.wholes.add_whole.Goals as goal

pub returns-in-And-clause-feasible : goal.returns-in-And-clause-feasible
returns-in-And-clause-feasible c =
    let other : c.args.trial.now.op ≢ OneOf = λ e. cc in
    places_feasible c.args.draft.now.snapshot c.args.draft.now.placed c.args.group _ c.add_all.new.draft.placed c.recall.ensures.orderly
    c.requires.feasible (ap numbers_of c.deref.ensures.value ∙ c.requires.trial.by_number other) c.add_all.ensures.placed

pub returns-in-And-clause-adds : goal.returns-in-And-clause-adds
returns-in-And-clause-adds c = λ starts are.
    let other : c.args.trial.now.op ≢ OneOf = λ e. cc in
    adds_whole c.args.draft.now.snapshot starts c.args.draft.now.placed c.args.group _ c.add_all.new.draft.placed c.recall.ensures.orderly
    (subst (λ (k : Op). IsKind c.args.draft.now.snapshot k c.args.group) c.in-And.is c.requires.trial.kind) c.requires.feasible
    (ap numbers_of c.deref.ensures.value ∙ c.requires.trial.by_number other) (c.add_all.ensures.adds starts are)

pub returns-in-Single-clause-adds : goal.returns-in-Single-clause-adds
returns-in-Single-clause-adds c = λ starts are. adds_other c.args.draft.now.snapshot starts c.args.draft.now.placed c.args.group (λ kind.
    let same : c.args.trial.now.op ≡ And = one_kind c.args.draft.now.snapshot c.args.group c.args.trial.now.op And c.requires.trial.kind kind in
    elim c.in-Single.is [ inl h ↦ cc | inr h ↦ elim h [ inl k ↦ cc | inr k ↦ cc ] ])
