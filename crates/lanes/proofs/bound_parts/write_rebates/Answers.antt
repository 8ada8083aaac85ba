use Rattle.std.proofs.Common.{rules, ◌≡◌, ◌<◌, pos, ◌≤ℤ◌, length, w64, ◌∙◌, ap, arith}
use Rattle.std.proofs.lemmas.Int.{to_z-of_z}
use Rattle.std.proofs.lemmas.List.{length-set}
use Rattle.std.proofs.lemmas.List.Elements.{All-from_get_or}
use Rattle.plan_base.specs.declared.parts.Parts.{Parts}
use Rattle.plan_base.specs.Bound.{net_price, IsRebate}
use Rattle.lanes.proofs.Parts.{part_more}
use Rattle.lanes.proofs.bound_parts.write_rebates.Goals as goal
use mir.Val.{SFits}

pub loop-group-preserved : goal.loop-group-preserved
loop-group-preserved c =
    let s = c.args.snapshot.now in
    let fit : SFits w64 c.rebate.result = search rules in
    let same = to_z-of_z w64 c.rebate.result fit in
    let groups : c.len-group-end.result ≡ length s.groups = c.len-group-end.ensures ∙ ap (λ (p : Parts). length p.groups) c.parts.ensures.value in
    let within : c.loop-group.group < length c.loop-group.rebates = omega (arith, c.loop-group.invariant.count) in
    record {
      count = length-set c.loop-group.rebates c.loop-group.group _ ∙ c.loop-group.invariant.count;
      each = λ given quota_prices count is.
          part_more (IsRebate s (net_price s given quota_prices)) c.loop-group.rebates c.loop-group.group c.rebate.result _ within same
          (c.rebate.ensures.at_net given quota_prices count is)
          (c.loop-group.invariant.each given quota_prices count is);
      least = part_more (λ i b. pos 0 ≤ℤ b) c.loop-group.rebates c.loop-group.group c.rebate.result _ within same c.rebate.ensures.least
          c.loop-group.invariant.least;
    }

pub returns-clause-rebates : goal.returns-clause-rebates
returns-clause-rebates c = λ given quota_prices count is.
    let groups : c.len-group-end.result ≡ length c.args.snapshot.now.groups = c.len-group-end.ensures
    ∙ ap (λ (p : Parts). length p.groups) c.parts.ensures.value in
    record { count = c.loop-group.invariant.count; each = λ i l. c.loop-group.invariant.each given quota_prices count is i (omega arith) }

pub returns-clause-least : goal.returns-clause-least
returns-clause-least c =
    let groups : c.len-group-end.result ≡ length c.args.snapshot.now.groups = c.len-group-end.ensures
    ∙ ap (λ (p : Parts). length p.groups) c.parts.ensures.value in
    All-from_get_or (λ b. pos 0 ≤ℤ b) c.loop-group.rebates (pos 0) (λ i l. c.loop-group.invariant.least i (omega (arith, c.loop-group.invariant.count)))
