use Rattle.std.proofs.Common.{ap, sym, ◌∙◌, subst}
use Rattle.plan_base.specs.Snapshot.{IsInRanges, fault_of}
use Rattle.rapid.proofs.Ranged.{ranges_more, built_is}
use Rattle.rapid.proofs.Refusals.{not_single, not_refused}
use Rattle.rapid.proofs.making.with_group.Goals as goal

pub build-requires : goal.build-requires
build-requires c =
    subst IsInRanges (sym (built_is c.args.snapshot.now c.in_ok-parts.parts c.args.group c.push.new.self
    (c.in_ok-parts.ensures ∙ c.parts.ensures.value) c.in_ok-push.ensures.ok))
    (ranges_more c.args.snapshot.now c.args.group c.parts.ensures.orderly.ranges c.requires)

pub returns-then-not-is_single : goal.returns-then-not-is_single
returns-then-not-is_single c = record {
  ok = tt;
  accepted = tt;
  err = λ told. not_single c.args.snapshot.now c.args.group (sym c.is_single.ensures ∙ c.if-not-is_single.true);
}

pub returns : goal.returns
returns c =
    let built = built_is c.args.snapshot.now c.in_ok-parts.parts c.args.group c.push.new.self
    (c.in_ok-parts.ensures ∙ c.parts.ensures.value) c.in_ok-push.ensures.ok in
    record {
      ok = c.in_ok-build.ensures.ok ∙ built;
      accepted = not_refused c.args.snapshot.now c.args.group (sym c.is_single.ensures ∙ c.if-not-is_single.false)
          (ap fault_of (sym built) ∙ c.in_ok-build.ensures.faultless);
      err = tt;
    }
