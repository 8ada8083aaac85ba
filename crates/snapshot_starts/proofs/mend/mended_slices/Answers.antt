use Rattle.std.proofs.Common.{subst, ◌∙◌}
use Rattle.std.specs.Prelude.{IsTrue}
use Rattle.std.proofs.lemmas.Result.{IfOk-weaker}
use Rattle.plan_base.specs.declared.parts.Parts.{Parts}
use Rattle.plan_base.specs.Snapshot.{IsOrderly}
use Rattle.interval_set.specs.Spans.{span_has}
use Rattle.snapshot_starts.specs.Slices.{AreSlices, IsHorizonFor}
use Rattle.snapshot_starts.specs.Pairs.{CanStart}
use Rattle.snapshot_starts.proofs.Keeping.{stay_slices, stay_and_new, none_new}
use Rattle.snapshot_starts.proofs.mend.mended_slices.Goals as goal

pub returns-then-is_empty : goal.returns-then-is_empty
returns-then-is_empty c =
    let was : Parts = c.args.held.now in
    let s = c.args.parts.now in
    let q = c.args.request.now in
    let t = c.args.telescope in
    let horizon = c.horizon_for-horizon.result in
    let earlier = c.horizon_for-earlier.result in
    let stay = c.in_ok-stay.stay in
    let same = c.parts.ensures.value ∙ c.snapshot.ensures in
    let are : AreSlices (λ k. CanStart s q t k × IsTrue (span_has earlier k)) stay =
    stay_slices was s q t horizon earlier stay (subst IsOrderly c.snapshot.ensures c.parts.ensures.orderly) c.requires.orderly c.requires.known
    c.requires.steady c.horizon_for-horizon.ensures.horizon
    (subst (λ (p : Parts). IsHorizonFor p q.seconds earlier) same c.horizon_for-earlier.ensures.horizon) c.in_ok-stay.ensures in
    stay_and_new s q t horizon earlier stay c.in_ok-new.new stay c.horizon_for-horizon.ensures.horizon c.if-horizon-earlier.false are c.in_ok-new.ensures
    (λ k. none_new stay c.in_ok-new.new k (c.is_empty.ensures.0 c.if-is_empty.true)) are.sorted

pub returns : goal.returns
returns c =
    let was : Parts = c.args.held.now in
    let s = c.args.parts.now in
    let q = c.args.request.now in
    let t = c.args.telescope in
    let horizon = c.horizon_for-horizon.result in
    let earlier = c.horizon_for-earlier.result in
    let stay = c.in_ok-stay.stay in
    let same = c.parts.ensures.value ∙ c.snapshot.ensures in
    let are : AreSlices (λ k. CanStart s q t k × IsTrue (span_has earlier k)) stay =
    stay_slices was s q t horizon earlier stay (subst IsOrderly c.snapshot.ensures c.parts.ensures.orderly) c.requires.orderly c.requires.known
    c.requires.steady c.horizon_for-horizon.ensures.horizon
    (subst (λ (p : Parts). IsHorizonFor p q.seconds earlier) same c.horizon_for-earlier.ensures.horizon) c.in_ok-stay.ensures in
    IfOk-weaker c.union.result _ _ (λ union is. stay_and_new s q t horizon earlier stay c.in_ok-new.new union c.horizon_for-horizon.ensures.horizon
    c.if-horizon-earlier.false are c.in_ok-new.ensures
    is.seconds is.sorted) c.union.ensures
