use Rattle.std.proofs.Common.{◌≡◌, ℕ, ℤ, pos, slice_index_or, ◌∙◌, sym, ap, subst, false, w64, arith}
use Rattle.std.proofs.lemmas.Int.{to_z-of_z}
use Rattle.plan_base.specs.declared.parts.Parts.{Parts}
use Rattle.plan_base.specs.Bound.{net_price}
use Rattle.plan_base.specs.Verdict.{IsPriceInRange}
use Rattle.plan_base.specs.Round.{moved_quota_price}
use Rattle.prices.specs.Rounds.{stepped_price, step_size, prices_after}
use Rattle.prices.proofs.Rounding.{taken_net, size_is, stays_at, after_is, next_is, next_quota_is}
use Rattle.prices.proofs.round.advance.Goals as goal
use Rattle.prices.proofs.round.advance.Goals.{After-move_quota_prices}
use mir.Val.{SFits}

pub move_prices-requires-clause-stay : goal.move_prices-requires-clause-stay
move_prices-requires-clause-stay c =
    let fit : SFits w64 c.args.step = c.ranges.step in
    λ i l.
    subst (λ (z : ℤ). IsPriceInRange
    (stepped_price z (slice_index_or c.args.prices.now.0 i (pos 0)) (slice_index_or c.args.uses.now i 0)
    (slice_index_or c.taken_flags-taken.result i false))) (sym (to_z-of_z w64 c.args.step fit))
    (stays_at c.args.snapshot.now c.args.step c.args.prices.now.0 (net_price c.args.snapshot.now c.args.prices.now.0 c.args.quota_prices.now.0)
    c.args.uses.now c.taken_flags-taken.result i
    (omega (arith, c.requires.count))
    (taken_net c.args.snapshot.now c.args.prices.now.0 c.args.quota_prices.now.0 c.as_slice.result.now c.taken_flags-taken.result c.requires.count
    (c.as_slice.ensures ∙ c.requires.net) c.taken_flags-taken.ensures.taken) c.requires.stay)

after : (c : After-move_quota_prices)
    → c.move_prices.new.prices ≡ prices_after c.args.snapshot.now c.args.step c.args.prices.now.0
    (net_price c.args.snapshot.now c.args.prices.now.0 c.args.quota_prices.now.0) c.args.uses.now
after c =
    let fit : SFits w64 c.args.step = c.ranges.step in
    after_is c.args.snapshot.now c.args.step c.args.prices.now.0 c.move_prices.new.prices
    (net_price c.args.snapshot.now c.args.prices.now.0 c.args.quota_prices.now.0) c.args.uses.now c.taken_flags-taken.result c.requires.count
    c.move_prices.ensures.count (taken_net c.args.snapshot.now c.args.prices.now.0 c.args.quota_prices.now.0 c.as_slice.result.now
    c.taken_flags-taken.result c.requires.count (c.as_slice.ensures ∙ c.requires.net) c.taken_flags-taken.ensures.taken)
    (λ i l. c.move_prices.ensures.moved i l
    ∙ ap (λ (z : ℤ). stepped_price z (slice_index_or c.args.prices.now.0 i (pos 0)) (slice_index_or c.args.uses.now i 0)
    (slice_index_or c.taken_flags-taken.result i false)) (to_z-of_z w64 c.args.step fit))

pub returns-clause-after : goal.returns-clause-after
returns-clause-after c = after c

pub returns-clause-next : goal.returns-clause-next
returns-clause-next c = λ starts up are.
    after c
    ∙ ap (λ (z : ℤ). prices_after c.args.snapshot.now z c.args.prices.now.0
    (net_price c.args.snapshot.now c.args.prices.now.0 c.args.quota_prices.now.0) c.args.uses.now) (sym (size_is c.args.step up))
    ∙ next_is c.args.snapshot.now (step_size c.args.step) c.args.prices.now.0
    (net_price c.args.snapshot.now c.args.prices.now.0 c.args.quota_prices.now.0) c.args.uses.now starts c.parts.ensures.orderly are

pub returns-clause-quotas : goal.returns-clause-quotas
returns-clause-quotas c =
    let fit : SFits w64 c.args.step = c.ranges.step in
    next_quota_is c.args.snapshot.now (step_size c.args.step) c.args.quota_prices.now.0 c.move_quota_prices.new.quota_prices
    c.demands_of-demands.result c.as_slice-quotas.result.now
    (net_price c.args.snapshot.now c.args.prices.now.0 c.args.quota_prices.now.0)
    (c.as_slice-quotas.ensures ∙ ap (λ (s : Parts). s.quotas) c.parts.ensures.value) c.requires.quotas c.move_quota_prices.ensures.count
    (λ q. c.demands_of-demands.ensures.demand (net_price c.args.snapshot.now c.args.prices.now.0 c.args.quota_prices.now.0) q
    (taken_net c.args.snapshot.now c.args.prices.now.0 c.args.quota_prices.now.0 c.as_slice.result.now c.taken_flags-taken.result c.requires.count
    (c.as_slice.ensures ∙ c.requires.net) c.taken_flags-taken.ensures.taken))
    (λ q l. c.move_quota_prices.ensures.moved q l
    ∙ ap (λ (n : ℕ). moved_quota_price n (slice_index_or c.args.quota_prices.now.0 q 0) (slice_index_or c.demands_of-demands.result q 0)
    (slice_index_or c.as_slice-quotas.result.now q 0)) (c.step_size.ensures.size ∙ ap step_size (to_z-of_z w64 c.args.step fit)))
