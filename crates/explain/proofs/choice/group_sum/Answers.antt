use Rattle.std.proofs.Common.{rules, ◌≡◌, ℕ, ◌+◌, ◌*◌, ◌^◌, ◌<◌, ◌≤◌, ℤ, pos, neg_ℤ, w64, ◌+ℤ◌, ◌≤ℤ◌, List, length, map, slice_index_or, sym, ◌∙◌, ap}
use Rattle.std.proofs.Common.{subst, arith}
use Rattle.std.proofs.lemmas.Int.{ints, to_z-of_z}
use Rattle.plan_base.specs.declared.parts.Parts.{Parts}
use Rattle.plan_base.specs.declared.parts.GroupPart.{GroupPart}
use Rattle.plan_base.specs.declared.parts.RequestPart.{RequestPart}
use Rattle.plan_base.specs.Requests.{members}
use Rattle.plan_base.specs.Bound.{net_price}
use Rattle.plan_base.specs.NetPrices.{IsNetInRange, price_sum}
use Rattle.plan_base.proofs.Growing.{IsGrown, grown_more, grown_all}
use Rattle.bound_checker.proofs.Runs.{group_read, group_size}
use Rattle.explain.proofs.Choosing.{IsMemberAt, member_at, members_count}
use Rattle.explain.proofs.Fits.{fits_64}
use Rattle.explain.proofs.choice.group_sum.Goals as goal
use mir.Val.{SFits}

groups_are : (s t : Parts) (gs : List GroupPart) → gs ≡ t.groups → t ≡ s → gs ≡ s.groups
groups_are s t gs e f = e ∙ ap (λ (x : Parts). x.groups) f

pub net_of-requires-clause-request : goal.net_of-requires-clause-request
net_of-requires-clause-request c =
    let groups = groups_are c.args.snapshot.now c.parts.result.now c.as_slice.result.now c.as_slice.ensures c.parts.ensures.value in
    let at = group_read c.args.snapshot.now c.as_slice.result.now c.args.group c.index-as_slice-group.result groups c.index-as_slice-group.is in
    (member_at c.args.snapshot.now (net_price c.args.snapshot.now c.args.prices.now.0 c.args.quota_prices.now.0) c.args.group
    c.loop-request.request-index c.index-as_slice-group.result c.as_slice-request-items.result.now c.request-item.result c.parts.ensures.orderly
    c.requires.group at c.as_slice-request-items.ensures c.loop-request-test.true c.request-item.is).of.0

pub overflow_add-sum : goal.overflow_add-sum
overflow_add-sum c =
    let groups = groups_are c.args.snapshot.now c.parts.result.now c.as_slice.result.now c.as_slice.ensures c.parts.ensures.value in
    let at = group_read c.args.snapshot.now c.as_slice.result.now c.args.group c.index-as_slice-group.result groups c.index-as_slice-group.is in
    let few : length c.index-as_slice-group.result.requests ≤ 256 =
    (group_size c.args.snapshot.now c.args.group c.index-as_slice-group.result c.parts.ensures.orderly c.requires.group at).1 in
    let same : length c.as_slice-request-items.result.now ≡ length c.index-as_slice-group.result.requests =
    ap (λ (qs : List RequestPart). length qs) c.as_slice-request-items.ensures in
    let below : c.loop-request.request-index < length c.as_slice-request-items.result.now = c.loop-request-test.true in
    let least : neg_ℤ (pos (c.loop-request.request-index * 2000000000000)) ≤ℤ c.loop-request.sum.value = c.loop-request.invariant.least in
    let most : c.loop-request.sum.value ≤ℤ pos (c.loop-request.request-index * 2000000000000) = c.loop-request.invariant.most in
    let low : neg_ℤ (pos (2 * 10 ^ 12)) ≤ℤ c.net_of.result = c.net_of.ensures.range.0 in
    let high : c.net_of.result ≤ℤ pos (2 * 10 ^ 12) = c.net_of.ensures.range.1 in
    let one : SFits w64 c.loop-request.sum.value = search rules in
    let two : SFits w64 c.net_of.result = search rules in
    let both : SFits w64 (c.loop-request.sum.value +ℤ c.net_of.result) = fits_64 _ (omega (arith, ints)) (omega (arith, ints)) in
    simp to_z-of_z both

pub loop-request-preserved : goal.loop-request-preserved
loop-request-preserved c =
    let f : ℕ → ℤ = net_price c.args.snapshot.now c.args.prices.now.0 c.args.quota_prices.now.0 in
    let nets : List ℤ = map (net_price c.args.snapshot.now c.args.prices.now.0 c.args.quota_prices.now.0) (members c.args.snapshot.now c.args.group) in
    let groups = groups_are c.args.snapshot.now c.parts.result.now c.as_slice.result.now c.as_slice.ensures c.parts.ensures.value in
    let at = group_read c.args.snapshot.now c.as_slice.result.now c.args.group c.index-as_slice-group.result groups c.index-as_slice-group.is in
    let member : IsMemberAt c.args.snapshot.now f c.args.group c.loop-request.request-index c.request-item.result =
    member_at c.args.snapshot.now f c.args.group c.loop-request.request-index c.index-as_slice-group.result c.as_slice-request-items.result.now
    c.request-item.result c.parts.ensures.orderly c.requires.group at c.as_slice-request-items.ensures
    c.loop-request-test.true c.request-item.is in
    let few : length c.index-as_slice-group.result.requests ≤ 256 =
    (group_size c.args.snapshot.now c.args.group c.index-as_slice-group.result c.parts.ensures.orderly c.requires.group at).1 in
    let same : length c.as_slice-request-items.result.now ≡ length c.index-as_slice-group.result.requests =
    ap (λ (qs : List RequestPart). length qs) c.as_slice-request-items.ensures in
    let below : c.loop-request.request-index < length c.as_slice-request-items.result.now = c.loop-request-test.true in
    let is : slice_index_or nets c.loop-request.request-index (pos 0) ≡ c.net_of.result = member.value ∙ sym c.net_of.ensures.value in
    let least : neg_ℤ (pos (c.loop-request.request-index * 2000000000000)) ≤ℤ c.loop-request.sum.value = c.loop-request.invariant.least in
    let most : c.loop-request.sum.value ≤ℤ pos (c.loop-request.request-index * 2000000000000) = c.loop-request.invariant.most in
    let low : neg_ℤ (pos (2 * 10 ^ 12)) ≤ℤ c.net_of.result = c.net_of.ensures.range.0 in
    let high : c.net_of.result ≤ℤ pos (2 * 10 ^ 12) = c.net_of.ensures.range.1 in
    let one : SFits w64 c.loop-request.sum.value = search rules in
    let two : SFits w64 c.net_of.result = search rules in
    let both : SFits w64 (c.loop-request.sum.value +ℤ c.net_of.result) = fits_64 _ (omega (arith, ints)) (omega (arith, ints)) in
    let grown : IsGrown (λ z. z) nets (c.loop-request.request-index + 1) (c.loop-request.sum.value +ℤ c.net_of.result)
    = subst (λ (z : ℤ). IsGrown (λ x. x) nets (c.loop-request.request-index + 1) (c.loop-request.sum.value +ℤ z)) is
    (grown_more (λ z. z) nets c.loop-request.request-index c.loop-request.sum.value member.within
    (subst IsNetInRange (sym is) c.net_of.ensures.range) c.loop-request.invariant) in
    simp to_z-of_z grown

pub returns-clause-value : goal.returns-clause-value
returns-clause-value c =
    let nets : List ℤ = map (net_price c.args.snapshot.now c.args.prices.now.0 c.args.quota_prices.now.0) (members c.args.snapshot.now c.args.group) in
    let groups = groups_are c.args.snapshot.now c.parts.result.now c.as_slice.result.now c.as_slice.ensures c.parts.ensures.value in
    let at = group_read c.args.snapshot.now c.as_slice.result.now c.args.group c.index-as_slice-group.result groups c.index-as_slice-group.is in
    let count : length nets ≡ length c.as_slice-request-items.result.now =
    members_count c.args.snapshot.now (net_price c.args.snapshot.now c.args.prices.now.0 c.args.quota_prices.now.0) c.args.group
    c.index-as_slice-group.result c.as_slice-request-items.result.now c.requires.group at c.as_slice-request-items.ensures in
    let kept : SFits w64 c.loop-request.sum.value = search rules in
    let all : c.loop-request.sum.value ≡ price_sum nets = grown_all (λ z. z) nets c.loop-request.request-index c.loop-request.sum.value
    (omega arith) c.loop-request.invariant in
    simp to_z-of_z all

pub returns-clause-least : goal.returns-clause-least
returns-clause-least c =
    let groups = groups_are c.args.snapshot.now c.parts.result.now c.as_slice.result.now c.as_slice.ensures c.parts.ensures.value in
    let at = group_read c.args.snapshot.now c.as_slice.result.now c.args.group c.index-as_slice-group.result groups c.index-as_slice-group.is in
    let few : length c.index-as_slice-group.result.requests ≤ 256 =
    (group_size c.args.snapshot.now c.args.group c.index-as_slice-group.result c.parts.ensures.orderly c.requires.group at).1 in
    let same : length c.as_slice-request-items.result.now ≡ length c.index-as_slice-group.result.requests =
    ap (λ (qs : List RequestPart). length qs) c.as_slice-request-items.ensures in
    let within : c.loop-request.request-index ≤ length c.as_slice-request-items.result.now = c.loop-request.auto.request-index-end in
    let kept : SFits w64 c.loop-request.sum.value = search rules in
    let least : neg_ℤ (pos (c.loop-request.request-index * 2000000000000)) ≤ℤ c.loop-request.sum.value = c.loop-request.invariant.least in
    let bound : neg_ℤ (pos 512000000000000) ≤ℤ c.loop-request.sum.value = omega (arith, ints) in
    simp to_z-of_z bound

pub returns-clause-most : goal.returns-clause-most
returns-clause-most c =
    let groups = groups_are c.args.snapshot.now c.parts.result.now c.as_slice.result.now c.as_slice.ensures c.parts.ensures.value in
    let at = group_read c.args.snapshot.now c.as_slice.result.now c.args.group c.index-as_slice-group.result groups c.index-as_slice-group.is in
    let few : length c.index-as_slice-group.result.requests ≤ 256 =
    (group_size c.args.snapshot.now c.args.group c.index-as_slice-group.result c.parts.ensures.orderly c.requires.group at).1 in
    let same : length c.as_slice-request-items.result.now ≡ length c.index-as_slice-group.result.requests =
    ap (λ (qs : List RequestPart). length qs) c.as_slice-request-items.ensures in
    let within : c.loop-request.request-index ≤ length c.as_slice-request-items.result.now = c.loop-request.auto.request-index-end in
    let kept : SFits w64 c.loop-request.sum.value = search rules in
    let most : c.loop-request.sum.value ≤ℤ pos (c.loop-request.request-index * 2000000000000) = c.loop-request.invariant.most in
    let bound : c.loop-request.sum.value ≤ℤ pos 512000000000000 = omega (arith, ints) in
    simp to_z-of_z bound
