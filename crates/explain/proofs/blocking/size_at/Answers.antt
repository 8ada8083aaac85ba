use Rattle.std.proofs.Common.{ℕ, sym, ◌∙◌, ap}
use Rattle.plan_base.specs.declared.parts.Parts.{Parts}
use Rattle.plan_base.specs.Starts.{slices_for}
use Rattle.explain.proofs.blocking.size_at.Goals as goal

pub returns : goal.returns
returns c =
    c.slices_for.ensures.value
    ∙ ap (λ (n : ℕ). slices_for n c.from-2.result) (c.from.ensures ∙ ap (λ (s : Parts). s.len) c.parts.ensures.value)
    ∙ ap (slices_for c.args.snapshot.now.len) (c.from-2.ensures ∙ sym c.request_of.ensures.is.seconds)
