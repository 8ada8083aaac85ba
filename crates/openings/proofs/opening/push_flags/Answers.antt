use Rattle.std.proofs.Common.{Bool, List, [], ◌∷◌, ◌++◌, replicate, ◌∙◌, ap}
use Rattle.std.proofs.lemmas.List.{append_assoc, replicate-append-replicate}
use Rattle.openings.proofs.opening.push_flags.Goals as goal

pub loop-preserved : goal.loop-preserved
loop-preserved c =
    c.in_ok-push.ensures.items
    ∙ ap (λ (xs : List Bool). xs ++ c.args.flag ∷ []) c.loop.invariant
    ∙ append_assoc c.args.flags.now.items (replicate c.loop.counter c.args.flag) (c.args.flag ∷ [])
    ∙ ap (λ (xs : List Bool). c.args.flags.now.items ++ xs) (replicate-append-replicate c.loop.counter 1 c.args.flag)
