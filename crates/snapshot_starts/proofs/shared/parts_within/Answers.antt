use Rattle.std.proofs.Common.{◌≡◌, ◌+◌, List, slice_index_or, take, sym, ◌∙◌, ap, subst, arith}
use Rattle.std.proofs.lemmas.List.{get_or_default, take_all}
use Rattle.plan_base.specs.declared.span.Span.{Span}
use Rattle.snapshot_starts.specs.Mending.{IsSameWithin}
use Rattle.snapshot_starts.proofs.Begun.{nothing}
use Rattle.snapshot_starts.proofs.Alike.{IsPartOf, more_within, none_within}
use Rattle.snapshot_starts.proofs.shared.parts_within.Goals as goal
use Rattle.snapshot_starts.proofs.shared.parts_within.Goals.{then-part+in_ok-push, else-part}

pub loop-span-preserved : goal.loop-span-preserved
loop-span-preserved c =
    let times = c.args.times in
    let spans = c.args.spans.now in
    let i = c.loop-span.span-index in
    let l = c.loop-span-test.true in
    let w : Span = slice_index_or spans i nothing in
    let at : slice_index_or spans i w ≡ w = get_or_default spans i w nothing l in
    let is : IsPartOf w times c.common-part.result = record { from = c.common-part.ensures.from; to = c.common-part.ensures.to } in
    elim c.if-part.branch [
      | then-part+in_ok-push b ↦
          subst (IsSameWithin times (take (i + 1) spans)) (sym b.in_ok-push.ensures.items ∙ sym (ap (λ v. v.items) b.parts-is))
          (more_within times w c.common-part.result spans c.loop-span.parts.items i l at is c.loop-span.invariant)
      | else-part b ↦
          subst (IsSameWithin times (take (i + 1) spans)) (sym (ap (λ v. v.items) b.parts-is))
          (none_within times w c.common-part.result spans c.loop-span.parts.items i l at is
          (omega (arith, b.if-part.false)) c.loop-span.invariant)
    ]

pub returns : goal.returns
returns c =
    let whole : take c.loop-span.span-index c.args.spans.now ≡ c.args.spans.now =
    take_all c.loop-span.span-index c.args.spans.now (omega (arith, c.loop-span-test.false)) in
    subst (λ (xs : List Span). IsSameWithin c.args.times xs c.loop-span.parts.items) whole c.loop-span.invariant
