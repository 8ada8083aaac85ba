use Rattle.std.proofs.Common.{List, sym, subst, Contains}
use Rattle.std.proofs.lemmas.Result.{IfOk-weaker}
use Rattle.plan_base.specs.declared.span.Span.{Span}
use Rattle.plan_base.specs.declared.parts.Sky.{Sky}
use Rattle.snapshot_starts.specs.Mending.{IsSameWithin}
use Rattle.snapshot_starts.proofs.Mending.{seen_alike}
use Rattle.plan_base.specs.Skies.{SkiesRise}
use Rattle.snapshot_starts.proofs.steady.is_seen_alike.Goals as goal

pub returns-in-Some : goal.returns-in-Some
returns-in-Some c =
    let there : Contains c.args.was.now.skies c.in-Some.earlier.now =
    subst (λ (skies : List Sky). Contains skies c.in-Some.earlier.now) c.as_slice.ensures c.in-Some.ensures.0 in
    IfOk-weaker c.is_same_within.result _ _ (λ alike same yes.
    seen_alike c.args.was.now c.args.sky.now c.in-Some.earlier.now c.args.times c.requires there c.in-Some.ensures.1
    (subst (λ (xs : List Span). IsSameWithin c.args.times xs c.args.sky.now.spans) c.as_slice-in-Some.ensures
    (subst (λ (ys : List Span). IsSameWithin c.args.times c.as_slice-in-Some.result.now ys) c.as_slice-in-Some-2.ensures (same yes)))) c.is_same_within.ensures

pub sky_of-requires : goal.sky_of-requires
sky_of-requires c = subst SkiesRise (sym c.as_slice.ensures) c.requires.skies_rise
