use Rattle.std.proofs.Common.{rules, ◌≡◌, ◌⊎◌, inl, inr, ◌≤ℤ◌, ℤ, pos, length, slice_index_or, sym, ◌∙◌, subst, arith, w64}
use Rattle.std.proofs.lemmas.Int.{ints, to_z-of_z}
use Rattle.bound_checker.specs.Nets.{net_list}
use Rattle.plan_base.proofs.Growing.{IsGreatestSoFar, greatest_more, greatest_all}
use Rattle.bound_checker.proofs.Runs.{nets_length}
use Rattle.bound_checker.proofs.nets.greatest_net.Goals as goal
use mir.Val.{SFits}

pub loop-place-preserved : goal.loop-place-preserved
loop-place-preserved c =
    let count : length (net_list c.args.nets.now) ≡ length c.args.nets.now.requests.now =
    nets_length c.args.nets.now.quota_price c.args.nets.now.requests.now c.args.nets.now.prices.now c.requires.count in
    let fit : SFits w64 c.larger.result = search rules in
    let net : SFits w64 c.net_at.result = search rules in
    let kept : SFits w64 c.loop-place.greatest.value = search rules in
    let two = simp to_z-of_z at c.larger.ensures in
    let value : c.net_at.result ≡ slice_index_or (net_list c.args.nets.now) c.loop-place.place (pos 0) = c.net_at.ensures.value in
    let second : slice_index_or (net_list c.args.nets.now) c.loop-place.place (pos 0) ≤ℤ c.larger.result =
    subst (λ (z : ℤ). z ≤ℤ c.larger.result) value two.second in
    let one : (c.larger.result ≡ c.loop-place.greatest.value)
    ⊎ (c.larger.result ≡ slice_index_or (net_list c.args.nets.now) c.loop-place.place (pos 0)) =
    elim two.one [ inl e ↦ inl e | inr e ↦ inr (e ∙ value) ] in
    simp to_z-of_z (greatest_more (net_list c.args.nets.now) c.loop-place.place c.loop-place.greatest.value c.larger.result
    (omega arith) two.first second one c.loop-place.invariant)

pub returns : goal.returns
returns c =
    let count : length (net_list c.args.nets.now) ≡ length c.args.nets.now.requests.now =
    nets_length c.args.nets.now.quota_price c.args.nets.now.requests.now c.args.nets.now.prices.now c.requires.count in
    let kept : SFits w64 c.loop-place.greatest.value = search rules in
    simp to_z-of_z (greatest_all (net_list c.args.nets.now) c.loop-place.place c.loop-place.greatest.value (omega arith) c.loop-place.invariant)
