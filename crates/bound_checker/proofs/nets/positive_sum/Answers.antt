use Rattle.std.proofs.Common.{rules, ◌≡◌, ◌+◌, ◌≤◌, ℤ, pos, ◌+ℤ◌, length, drop, slice_index_or, subst, ap, ◌∙◌, arith, w64}
use Rattle.std.proofs.lemmas.Int.{ints, to_z-of_z}
use Rattle.std.proofs.lemmas.List.{at_drop_more}
use Rattle.plan_base.specs.Sums.{total}
use Rattle.plan_base.specs.NetPrices.{IsNetInRange, positive, positive_sum}
use Rattle.bound_checker.specs.Nets.{net_list}
use Rattle.plan_base.proofs.Growing.{grown_all, positive_in_range}
use Rattle.bound_checker.proofs.Runs.{nets_length}
use Rattle.bound_checker.proofs.nets.positive_sum.Goals as goal
use mir.Val.{SFits}

pub loop-place-preserved : goal.loop-place-preserved
loop-place-preserved c =
    let count : length (net_list c.args.nets.now) ≡ length c.args.nets.now.requests.now =
    nets_length c.args.nets.now.quota_price c.args.nets.now.requests.now c.args.nets.now.prices.now c.requires.count in
    let fit : SFits w64 c.net_at.result = search rules in
    let net : IsNetInRange c.net_at.result = c.net_at.ensures.range in
    let gives : c.positive.result ≡ positive c.net_at.result = simp to_z-of_z at c.positive.ensures in
    let range : IsNetInRange (positive c.net_at.result) = positive_in_range c.net_at.result net in
    let value : c.net_at.result ≡ slice_index_or (net_list c.args.nets.now) c.loop-place.place (pos 0) = c.net_at.ensures.value in
    let same : positive c.net_at.result ≡ positive (slice_index_or (net_list c.args.nets.now) c.loop-place.place (pos 0)) = ap positive value in
    let step : total positive (drop c.loop-place.place (net_list c.args.nets.now))
    ≡ positive (slice_index_or (net_list c.args.nets.now) c.loop-place.place (pos 0)) +ℤ total positive
    (drop (c.loop-place.place + 1) (net_list c.args.nets.now))
    = at_drop_more (total positive) (net_list c.args.nets.now) c.loop-place.place (pos 0) (omega arith)
    in
    let few : length c.args.nets.now.requests.now ≤ 256 = c.requires.few in
    let low = range.0 in
    let high = range.1 in
    record { rest = omega (arith, ints); least = omega (arith, ints); most = omega (arith, ints) }

pub returns : goal.returns
returns c =
    let count : length (net_list c.args.nets.now) ≡ length c.args.nets.now.requests.now =
    nets_length c.args.nets.now.quota_price c.args.nets.now.requests.now c.args.nets.now.prices.now c.requires.count in
    let all : c.loop-place.sum.value ≡ positive_sum (net_list c.args.nets.now) =
    grown_all positive (net_list c.args.nets.now) c.loop-place.place c.loop-place.sum.value (omega arith) c.loop-place.invariant in
    let few : length c.args.nets.now.requests.now ≤ 256 = c.requires.few in
    omega (arith, ints)
