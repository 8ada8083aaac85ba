use Rattle.std.proofs.Common.{Bool, false, List, length, ◌∙◌, ap}
use Rattle.std.proofs.lemmas.List.{length-replicate}
use Rattle.plan_base.specs.declared.parts.Parts.{Parts}
use Rattle.rapid.proofs.seeking.earliest.Goals as goal

pub earliest_by-requires-clause-flags : goal.earliest_by-requires-clause-flags
earliest_by-requires-clause-flags c =
    ap (λ (xs : List Bool). length xs) (c.as_mut_slice.ensures.value ∙ c.in_ok-flags.ensures) ∙ length-replicate c.len.result false ∙ c.len.ensures
    ∙ ap (λ (s : Parts). length s.groups) c.parts.ensures.value
