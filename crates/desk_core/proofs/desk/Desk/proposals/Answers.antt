use Rattle.std.proofs.Common.{◌≡◌, ◌∙◌, ap, sym, subst, [], arith}
use Rattle.desk_core.specs.Desk.{seen}
use Rattle.site_model.specs.Names.{numbered}
use Rattle.desk_core.specs.declared.desk.Submitted.{Submitted}
use Rattle.desk_core.specs.DeskSnapshot.{both_at, IsGroupNo, listed_groups}
use Rattle.desk_core.proofs.SnapshotListing.{next_is, listed_at, as_many, submission_is}
use Rattle.desk_core.proofs.SnapshotParts.{folded_more}
use Rattle.desk_core.proofs.desk.Desk.proposals.Goals as goal

pub submission-requires : goal.submission-requires
submission-requires c =
    let d = seen c.args.self.now in
    let next = next_is d (listed_groups d) c.args.listed.now c.loop-number.number-index
    (listed_at d c.requires.desk) c.requires.listed c.loop-number-test.true in
    let known = subst (IsGroupNo d) (sym next.number) next.numbered.known in
    (known.0, omega (arith, known.1, as_many d c.requires.desk))

pub loop-number-preserved : goal.loop-number-preserved
loop-number-preserved c =
    let d = seen c.args.self.now in
    let next = next_is d (listed_groups d) c.args.listed.now c.loop-number.number-index
    (listed_at d c.requires.desk) c.requires.listed c.loop-number-test.true in
    let submitted : c.submission.result.now ≡ next.group.0 =
    submission_is d _ next.group c.submission.result.now (ap (both_at d) next.number ∙ next.numbered.at) c.submission.ensures in
    folded_more (λ names p. numbered names p.0.document.proposal) [] (listed_groups d) c.loop-number.number-index next.group next.in_range next.stands
    c.loop-number.proposals.keys
    c.add_name.new.names.keys c.loop-number.invariant
    (c.in_ok-add_name.ensures ∙ ap (λ (w : Submitted). numbered c.loop-number.proposals.keys w.document.proposal) submitted)
