use Rattle.std.proofs.Common.{rules, ◌≡◌, ℕ, ℤ, pos, w64, to_z, of_z, map, All, refl, sym, ◌∙◌, ap, subst, arith}
use Rattle.std.proofs.lemmas.Grind.{common_steps}
use Rattle.std.proofs.lemmas.Int.{ints, to_z-of_z}
use Rattle.plan_base.specs.declared.parts.Parts.{Parts}
use Rattle.plan_base.specs.Requests.{listed}
use Rattle.plan_base.specs.Bound.{net_price}
use Rattle.plan_base.specs.Round.{uses_of, step_of, greatest_value, next_prices, next_quota_prices}
use Rattle.plan_base.specs.Verdict.{IsPriceInRange}
use Rattle.groups.proofs.NetRanges.{nets_in_range}
use Rattle.prices.specs.Rounds.{AreUses, prices_after, step_size}
use Rattle.lanes.proofs.Lanes.{next_stays, next_lane, step_size_is}
use Rattle.lanes.proofs.lane_prices.LanePrices.advance.Goals as goal
use mir.Val.{SFits}

pub net-requires-clause-range : goal.net-requires-clause-range
net-requires-clause-range c = nets_in_range c.args.snapshot.now c.args.self.now.prices.0 c.args.self.now.quota_prices.0 c.recall_valid.ensures.orderly
    c.requires.lane.range c.requires.lane.quota_range

pub advance-requires-clause-stay : goal.advance-requires-clause-stay
advance-requires-clause-stay c =
    let s = c.args.snapshot.now in
    let l = c.args.self.now in
    let fit : SFits w64 c.step_of-step.result = search rules in
    let is : to_z w64 (of_z w64 c.step_of-step.result) ≡ pos (step_of l.lane l.made (greatest_value s))
    = to_z-of_z w64 c.step_of-step.result fit ∙ c.step_of-step.ensures ∙ ap (λ (n : ℕ). pos (step_of l.lane l.made n)) c.requires.greatest
    in
    let are : AreUses s c.args.uses.now.starts c.counts.result.now
    = c.counts.ensures ∙ ap (λ (p : Parts). map (λ x. uses_of c.args.uses.now.starts x.request.request.0) (listed p)) c.requires.same_snapshot
    in
    subst (λ (z : ℤ). All IsPriceInRange (prices_after s z l.prices.0 (net_price s l.prices.0 l.quota_prices.0) c.counts.result.now)) (sym is)
    (next_stays s l c.args.uses.now.starts c.recall_valid.ensures.orderly c.requires.lane c.requires.starts c.counts.result.now c.requires.made are)

pub returns-clause-is_lane : goal.returns-clause-is_lane
returns-clause-is_lane c =
    let s = c.args.snapshot.now in
    let l = c.args.self.now in
    let fit : SFits w64 c.step_of-step.result = search rules in
    let is : to_z w64 (of_z w64 c.step_of-step.result) ≡ pos (step_of l.lane l.made (greatest_value s))
    = to_z-of_z w64 c.step_of-step.result fit ∙ c.step_of-step.ensures ∙ ap (λ (n : ℕ). pos (step_of l.lane l.made n)) c.requires.greatest
    in
    let size : step_size (to_z w64 (of_z w64 c.step_of-step.result)) ≡ step_of l.lane l.made (greatest_value s) = step_size_is _ _ is in
    let are : AreUses s c.args.uses.now.starts c.counts.result.now
    = c.counts.ensures ∙ ap (λ (p : Parts). map (λ x. uses_of c.args.uses.now.starts x.request.request.0) (listed p)) c.requires.same_snapshot
    in
    next_lane s l c.args.uses.now.starts c.recall_valid.ensures.orderly c.requires.lane c.requires.starts _ c.requires.made refl refl
    (c.advance.ensures.next c.args.uses.now.starts (omega (arith, ints, is)) are
    ∙ ap (λ (n : ℕ). next_prices s n l.prices.0 (net_price s l.prices.0 l.quota_prices.0) c.args.uses.now.starts) size)
    (c.advance.ensures.quotas ∙ ap (λ (n : ℕ). next_quota_prices s n l.quota_prices.0 (net_price s l.prices.0 l.quota_prices.0)) size)

pub advance-requires-clause-uses : goal.advance-requires-clause-uses
advance-requires-clause-uses c = grind (arith, common_steps)

pub returns-clause-room : goal.returns-clause-room
returns-clause-room c = grind (arith, common_steps)
