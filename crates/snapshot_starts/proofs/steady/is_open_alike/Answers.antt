use Rattle.std.proofs.Common.{List, subst, arith}
use Rattle.std.proofs.lemmas.Result.{IfOk-weaker}
use Rattle.plan_base.specs.declared.span.Span.{Span}
use Rattle.snapshot_starts.specs.Mending.{IsSameWithin}
use Rattle.snapshot_starts.proofs.Mending.{steady_telescope}
use Rattle.snapshot_starts.proofs.steady.is_open_alike.Goals as goal

pub returns : goal.returns
returns c =
    let before = c.in-Some-Some.ensures in
    let now = c.in-Some-Some.ensures' in
    IfOk-weaker c.is_same_within.result _ _ (λ alike same yes.
    steady_telescope c.args.was.now c.args.parts.now c.args.telescope.0 c.args.times c.in-Some-Some.earlier.now c.in-Some-Some.part.now c.requires
    before.0 before.1 now.0 now.1 (omega (arith, c.if-earlier-part.false))
    (subst (λ (xs : List Span). IsSameWithin c.args.times xs c.in-Some-Some.part.now.usable) c.as_slice.ensures
    (subst (λ (ys : List Span). IsSameWithin c.args.times c.as_slice.result.now ys) c.as_slice-2.ensures (same yes)))) c.is_same_within.ensures
