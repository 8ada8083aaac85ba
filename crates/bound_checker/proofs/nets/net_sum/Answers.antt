use Rattle.std.proofs.Common.{◌≡◌, ◌+◌, ◌≤◌, ℤ, pos, ◌+ℤ◌, length, drop, slice_index_or, arith}
use Rattle.std.proofs.lemmas.Int.{ints}
use Rattle.std.proofs.lemmas.List.{at_drop_more}
use Rattle.plan_base.specs.Sums.{total}
use Rattle.plan_base.specs.NetPrices.{IsNetInRange, price_sum}
use Rattle.bound_checker.specs.Nets.{net_list}
use Rattle.plan_base.proofs.Growing.{grown_all}
use Rattle.bound_checker.proofs.Runs.{nets_length}
use Rattle.bound_checker.proofs.nets.net_sum.Goals as goal

pub loop-place-preserved : goal.loop-place-preserved
loop-place-preserved c =
    let count : length (net_list c.args.nets.now) ≡ length c.args.nets.now.requests.now =
    nets_length c.args.nets.now.quota_price c.args.nets.now.requests.now c.args.nets.now.prices.now c.requires.count in
    let range : IsNetInRange c.net_at.result = c.net_at.ensures.range in
    let value : c.net_at.result ≡ slice_index_or (net_list c.args.nets.now) c.loop-place.place (pos 0) = c.net_at.ensures.value in
    let step : total (λ x. x) (drop c.loop-place.place (net_list c.args.nets.now)) ≡ slice_index_or (net_list c.args.nets.now) c.loop-place.place
    (pos 0) +ℤ total (λ x. x) (drop (c.loop-place.place + 1) (net_list c.args.nets.now))
    = at_drop_more (total (λ x. x)) (net_list c.args.nets.now) c.loop-place.place (pos 0) (omega arith)
    in
    let few : length c.args.nets.now.requests.now ≤ 256 = c.requires.few in
    let low = range.0 in
    let high = range.1 in
    record { rest = omega (arith, ints); least = omega (arith, ints); most = omega (arith, ints) }

pub returns : goal.returns
returns c =
    let count : length (net_list c.args.nets.now) ≡ length c.args.nets.now.requests.now =
    nets_length c.args.nets.now.quota_price c.args.nets.now.requests.now c.args.nets.now.prices.now c.requires.count in
    let all : c.loop-place.sum.value ≡ price_sum (net_list c.args.nets.now) =
    grown_all (λ x. x) (net_list c.args.nets.now) c.loop-place.place c.loop-place.sum.value (omega arith) c.loop-place.invariant in
    let few : length c.args.nets.now.requests.now ≤ 256 = c.requires.few in
    omega (arith, ints)
