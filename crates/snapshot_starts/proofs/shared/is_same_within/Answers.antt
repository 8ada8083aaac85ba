use Rattle.std.proofs.Common.{List, subst}
use Rattle.std.proofs.lemmas.Slice.Eq.{slice_eq-Decides}
use Rattle.plan_base.specs.declared.span.Span.{Span}
use Rattle.plan_base.proofs.Equality.{spans_decide}
use Rattle.snapshot_starts.specs.Mending.{IsSameWithin}
use Rattle.snapshot_starts.proofs.Alike.{same_at_first, same_through}
use Rattle.snapshot_starts.proofs.shared.is_same_within.Goals as goal

pub returns-then-eq : goal.returns-then-eq
returns-then-eq c =
    λ yes.
    subst (λ (spans : List Span). IsSameWithin c.args.times c.args.one.now spans) ((slice_eq-Decides spans_decide _ _ _ c.eq.ensures).0 c.if-eq.true)
    (same_at_first c.args.times c.args.one.now)

pub returns : goal.returns
returns c =
    λ yes.
    same_through c.args.times c.args.one.now c.args.other.now c.in_ok-mine.mine.items c.in_ok-theirs.theirs.items
    ((slice_eq-Decides spans_decide _ _ _ c.eq-2.ensures).0 yes) c.in_ok-mine.ensures c.in_ok-theirs.ensures
