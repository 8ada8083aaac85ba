use Rattle.std.proofs.Common.{◌≡◌, ◌+◌, ◌≤◌, sym, ◌∙◌, ap, subst, arith}
use Rattle.std.proofs.lemmas.Bool.{false≢true}
use Rattle.std.proofs.lemmas.Result.{IfOk-weaker}
use Rattle.snapshot_starts.specs.Pairs.{CanStart}
use Rattle.snapshot_starts.proofs.Keeping.{AreTried, more_tried, not_tried, all_tried}
use Rattle.snapshot_starts.proofs.mend.new_slices.Goals as goal
use Rattle.snapshot_starts.proofs.mend.new_slices.Goals.{then-can_start+in_ok-push, else-can_start}

pub loop-slice-preserved : goal.loop-slice-preserved
loop-slice-preserved c =
    let s = c.args.parts.now in
    let q = c.args.request.now in
    let t = c.args.telescope in
    let from = c.args.from.0 in
    let to = c.args.to.0 in
    let k = c.loop-slice.slice in
    let so_far = c.loop-slice.invariant.0 in
    let still : to ≤ from → k + 1 ≡ from = λ none. absurd (omega (arith, none, c.loop-slice.auto.slice, c.loop-slice-test.true)) in (
      elim c.if-can_start.branch [
        | then-can_start+in_ok-push b ↦
            subst (AreTried s q t from (k + 1)) (sym b.in_ok-push.ensures.items ∙ sym (ap (λ v. v.items) b.slices-is))
            (more_tried s q t from k c.loop-slice.slices.items c.loop-slice.auto.slice (c.can_start.ensures.0 b.if-can_start.true) so_far)
        | else-can_start b ↦
            let cannot : ¬ (CanStart s q t k) = λ can. false≢true (sym b.if-can_start.false ∙ c.can_start.ensures.1 can) in
            subst (AreTried s q t from (k + 1)) (sym (ap (λ v. v.items) b.slices-is)) (not_tried s q t from k c.loop-slice.slices.items cannot so_far)
      ],
      still,
    )

pub returns : goal.returns
returns c =
    let s = c.args.parts.now in
    let q = c.args.request.now in
    let t = c.args.telescope in
    let from = c.args.from.0 in
    let to = c.args.to.0 in
    let last = c.loop-slice.slice in
    let past : to ≤ last = omega (arith, c.loop-slice-test.false) in
    let tried : AreTried s q t from last c.as_slice.result.now = subst (AreTried s q t from last) (sym c.as_slice.ensures.value) c.loop-slice.invariant.0 in
    IfOk-weaker c.from_list.result _ _
    (λ set is. all_tried s q t from last to c.as_slice.result.now set past c.loop-slice.auto.slice-end c.loop-slice.invariant.1 tried is)
    c.from_list.ensures
