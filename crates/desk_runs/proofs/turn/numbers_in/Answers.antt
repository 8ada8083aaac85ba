use Rattle.std.proofs.Common.{◌∙◌, ap, sym, ℕ, ◌<◌, List, [], length, get_or, arith}
use Rattle.std.specs.Ordering.{nat_cmp}
use Rattle.std.specs.BTreeSet.{insert_key}
use Rattle.std.proofs.lemmas.List.Sums.{fold_more}
use Rattle.desk_runs.specs.declared.observation.Observation.{Observation}
use Rattle.desk_runs.proofs.turn.numbers_in.Goals as goal

none : Observation
none = record { request = record { 0 = 0 }; telescope = record { 0 = 0 }; slice = record { 0 = 0 }; seconds = 0 }

pub loop-observation-preserved : goal.loop-observation-preserved
unfolding none
loop-observation-preserved c =
    let i = c.loop-observation.observation-index in
    let l : i < length c.args.observations.now = omega arith in
    let step = fold_more (λ (numbers : List ℕ) (o : Observation). insert_key nat_cmp numbers o.request.0) [] c.args.observations.now i none l in
    c.in_ok-insert.ensures.keys ∙ ap (λ (s : List ℕ). insert_key nat_cmp s (get_or c.args.observations.now i none).request.0)
    c.loop-observation.invariant ∙ sym step
