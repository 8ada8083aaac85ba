use Rattle.std.proofs.Common.{List, length, refl, subst}
use Rattle.plan_base.specs.declared.claim.Placement.{Placement}
use Rattle.plan_base.specs.declared.number.RequestNo.{RequestNo}
use Rattle.explain.specs.Left.{AreKept, Blocks}
use Rattle.explain.specs.Starts.{HasStartsWhere}
use Rattle.explain.specs.Crossings.{IsBeforeTelescope, IsPassedTo}
use Rattle.explain.proofs.Gathering.{all_starts}
use Rattle.explain.proofs.Leaving.{detour_told}
use Rattle.explain.proofs.left.left_of.Goals as goal

pub forced_of-requires-clause-detour : goal.forced_of-requires-clause-detour
forced_of-requires-clause-detour c =
    detour_told c.args.snapshot.now c.args.claim.now.prices.0 c.args.request.0 c.pass-passage.result.starts c.pass-passage.result.detour
    c.recall_valid.ensures.orderly
    (subst (λ (r : RequestNo). IsPassedTo c.args.snapshot.now c.args.claim.now.prices.0 r.0
    (length c.args.snapshot.now.telescopes) c.pass-passage.result.starts c.pass-passage.result.detour)
    c.in_ok-openings.ensures.request c.pass-passage.ensures)

pub returns : goal.returns
returns c = record {
  request = refl;
  starts = all_starts c.args.snapshot.now c.args.claim.now.prices.0 c.args.request.0 c.recall_valid.ensures.orderly c.pass-passage.result.starts
      (subst (λ (r : RequestNo). HasStartsWhere c.args.snapshot.now r.0
      (IsBeforeTelescope (length c.args.snapshot.now.telescopes)) c.pass-passage.result.starts) c.in_ok-openings.ensures.request
      c.pass-passage.ensures.starts);
  blocking = subst (λ (r : RequestNo). AreKept (Blocks c.args.snapshot.now r.0) c.args.claim.now.placements c.in_ok-blocking_of.field-0)
      c.in_ok-openings.ensures.request
      (subst (λ (plan : List Placement). AreKept (Blocks c.args.snapshot.now c.in_ok-openings.openings.request.0) plan c.in_ok-blocking_of.field-0)
      c.as_slice-plan.ensures c.in_ok-blocking_of.ensures);
  forced = c.forced_of.ensures;
}
