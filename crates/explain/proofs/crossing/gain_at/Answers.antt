use Rattle.std.proofs.Common.{◌≡◌, ℕ, ◌+◌, w64, ◌+ℤ◌, length, ◌∙◌, ap, arith}
use Rattle.std.proofs.lemmas.Grind.{common_steps}
use Rattle.std.proofs.lemmas.Int.{to_z-of_z}
use Rattle.plan_base.specs.declared.parts.Parts.{Parts}
use Rattle.bound_checker.specs.Offers.{offer_weight}
use Rattle.openings.specs.Openings.{CanStartAt}
use Rattle.openings.proofs.Flags.{can_there}
use Rattle.explain.proofs.Gaining.{gain_here, u_fits, w_fits, a_fits, two_fit, all_fit}
use Rattle.explain.proofs.crossing.gain_at.Goals as goal
use mir.Val.{SFits}

pub overflow_add-result : goal.overflow_add-result
overflow_add-result c =
    let slice : c.from-first.result ≡ c.args.snapshot.now.first.0 = c.from-first.ensures ∙ ap (λ (s : Parts). s.first.0) c.parts.ensures.value in
    let can : CanStartAt c.args.snapshot.now c.args.telescope.0 c.args.openings.now.request.0 (c.args.snapshot.now.first.0 + c.args.index)
    = can_there c.args.snapshot.now c.args.telescope.0 c.args.openings.now.request.0
    (length c.args.snapshot.now.telescopes) c.args.openings.now.rows.items c.from.result c.args.index c.as_slice-flags.result.now
    c.index.result.now c.requires.openings.rows c.requires.telescope c.from.ensures c.index.ensures c.as_slice-flags.ensures
    c.if-not-flags-index.false in
    let weight : c.weight_at-weight.result ≡ offer_weight c.args.openings.now.offer (c.args.snapshot.now.first.0 + c.args.index) =
    c.weight_at-weight.ensures ∙ ap (λ (n : ℕ). offer_weight c.args.openings.now.offer (n + c.args.index)) slice in
    let one : SFits w64 c.index-until.result.now =
    u_fits c.args.snapshot.now c.args.prices.now.0 c.args.telescope.0 c.args.openings.now.request.0 c.args.index c.args.openings.now.offer
    c.parts.ensures.orderly c.requires.openings.offer can c.args.chart.now c.requires.prices c.requires.chart c.index-until.result.now
    c.weight_at-weight.result c.index-after.result.now c.index-until.ensures weight c.index-after.ensures in
    let two : SFits w64 c.weight_at-weight.result =
    w_fits c.args.snapshot.now c.args.prices.now.0 c.args.telescope.0 c.args.openings.now.request.0 c.args.index c.args.openings.now.offer
    c.parts.ensures.orderly c.requires.openings.offer can c.args.chart.now c.requires.prices c.requires.chart c.index-until.result.now
    c.weight_at-weight.result c.index-after.result.now c.index-until.ensures weight c.index-after.ensures in
    simp to_z-of_z (two_fit c.args.snapshot.now c.args.prices.now.0 c.args.telescope.0 c.args.openings.now.request.0 c.args.index
    c.args.openings.now.offer c.parts.ensures.orderly c.requires.openings.offer can c.args.chart.now c.requires.prices c.requires.chart
    c.index-until.result.now c.weight_at-weight.result c.index-after.result.now c.index-until.ensures weight c.index-after.ensures)

pub overflow_add-result-2 : goal.overflow_add-result-2
overflow_add-result-2 c =
    let slice : c.from-first.result ≡ c.args.snapshot.now.first.0 = c.from-first.ensures ∙ ap (λ (s : Parts). s.first.0) c.parts.ensures.value in
    let can : CanStartAt c.args.snapshot.now c.args.telescope.0 c.args.openings.now.request.0 (c.args.snapshot.now.first.0 + c.args.index)
    = can_there c.args.snapshot.now c.args.telescope.0 c.args.openings.now.request.0
    (length c.args.snapshot.now.telescopes) c.args.openings.now.rows.items c.from.result c.args.index c.as_slice-flags.result.now
    c.index.result.now c.requires.openings.rows c.requires.telescope c.from.ensures c.index.ensures c.as_slice-flags.ensures
    c.if-not-flags-index.false in
    let weight : c.weight_at-weight.result ≡ offer_weight c.args.openings.now.offer (c.args.snapshot.now.first.0 + c.args.index) =
    c.weight_at-weight.ensures ∙ ap (λ (n : ℕ). offer_weight c.args.openings.now.offer (n + c.args.index)) slice in
    let one : SFits w64 c.index-until.result.now =
    u_fits c.args.snapshot.now c.args.prices.now.0 c.args.telescope.0 c.args.openings.now.request.0 c.args.index c.args.openings.now.offer
    c.parts.ensures.orderly c.requires.openings.offer can c.args.chart.now c.requires.prices c.requires.chart c.index-until.result.now
    c.weight_at-weight.result c.index-after.result.now c.index-until.ensures weight c.index-after.ensures in
    let two : SFits w64 c.weight_at-weight.result =
    w_fits c.args.snapshot.now c.args.prices.now.0 c.args.telescope.0 c.args.openings.now.request.0 c.args.index c.args.openings.now.offer
    c.parts.ensures.orderly c.requires.openings.offer can c.args.chart.now c.requires.prices c.requires.chart c.index-until.result.now
    c.weight_at-weight.result c.index-after.result.now c.index-until.ensures weight c.index-after.ensures in
    let three : SFits w64 c.index-after.result.now =
    a_fits c.args.snapshot.now c.args.prices.now.0 c.args.telescope.0 c.args.openings.now.request.0 c.args.index c.args.openings.now.offer
    c.parts.ensures.orderly c.requires.openings.offer can c.args.chart.now c.requires.prices c.requires.chart c.index-until.result.now
    c.weight_at-weight.result c.index-after.result.now c.index-until.ensures weight c.index-after.ensures in
    let both : SFits w64 (c.index-until.result.now +ℤ c.weight_at-weight.result) =
    two_fit c.args.snapshot.now c.args.prices.now.0 c.args.telescope.0 c.args.openings.now.request.0 c.args.index c.args.openings.now.offer
    c.parts.ensures.orderly c.requires.openings.offer can c.args.chart.now c.requires.prices c.requires.chart c.index-until.result.now
    c.weight_at-weight.result c.index-after.result.now c.index-until.ensures weight c.index-after.ensures in
    simp to_z-of_z (all_fit c.args.snapshot.now c.args.prices.now.0 c.args.telescope.0 c.args.openings.now.request.0 c.args.index
    c.args.openings.now.offer c.parts.ensures.orderly c.requires.openings.offer can c.args.chart.now c.requires.prices c.requires.chart
    c.index-until.result.now c.weight_at-weight.result c.index-after.result.now c.index-until.ensures weight c.index-after.ensures)

pub returns : goal.returns
returns c =
    let slice : c.from-first.result ≡ c.args.snapshot.now.first.0 = c.from-first.ensures ∙ ap (λ (s : Parts). s.first.0) c.parts.ensures.value in
    let can : CanStartAt c.args.snapshot.now c.args.telescope.0 c.args.openings.now.request.0 (c.args.snapshot.now.first.0 + c.args.index)
    = can_there c.args.snapshot.now c.args.telescope.0 c.args.openings.now.request.0
    (length c.args.snapshot.now.telescopes) c.args.openings.now.rows.items c.from.result c.args.index c.as_slice-flags.result.now
    c.index.result.now c.requires.openings.rows c.requires.telescope c.from.ensures c.index.ensures c.as_slice-flags.ensures
    c.if-not-flags-index.false in
    let weight : c.weight_at-weight.result ≡ offer_weight c.args.openings.now.offer (c.args.snapshot.now.first.0 + c.args.index) =
    c.weight_at-weight.ensures ∙ ap (λ (n : ℕ). offer_weight c.args.openings.now.offer (n + c.args.index)) slice in
    let one : SFits w64 c.index-until.result.now =
    u_fits c.args.snapshot.now c.args.prices.now.0 c.args.telescope.0 c.args.openings.now.request.0 c.args.index c.args.openings.now.offer
    c.parts.ensures.orderly c.requires.openings.offer can c.args.chart.now c.requires.prices c.requires.chart c.index-until.result.now
    c.weight_at-weight.result c.index-after.result.now c.index-until.ensures weight c.index-after.ensures in
    let two : SFits w64 c.weight_at-weight.result =
    w_fits c.args.snapshot.now c.args.prices.now.0 c.args.telescope.0 c.args.openings.now.request.0 c.args.index c.args.openings.now.offer
    c.parts.ensures.orderly c.requires.openings.offer can c.args.chart.now c.requires.prices c.requires.chart c.index-until.result.now
    c.weight_at-weight.result c.index-after.result.now c.index-until.ensures weight c.index-after.ensures in
    let three : SFits w64 c.index-after.result.now =
    a_fits c.args.snapshot.now c.args.prices.now.0 c.args.telescope.0 c.args.openings.now.request.0 c.args.index c.args.openings.now.offer
    c.parts.ensures.orderly c.requires.openings.offer can c.args.chart.now c.requires.prices c.requires.chart c.index-until.result.now
    c.weight_at-weight.result c.index-after.result.now c.index-until.ensures weight c.index-after.ensures in
    let both : SFits w64 (c.index-until.result.now +ℤ c.weight_at-weight.result) =
    two_fit c.args.snapshot.now c.args.prices.now.0 c.args.telescope.0 c.args.openings.now.request.0 c.args.index c.args.openings.now.offer
    c.parts.ensures.orderly c.requires.openings.offer can c.args.chart.now c.requires.prices c.requires.chart c.index-until.result.now
    c.weight_at-weight.result c.index-after.result.now c.index-until.ensures weight c.index-after.ensures in
    let all : SFits w64 (c.index-until.result.now +ℤ c.weight_at-weight.result +ℤ c.index-after.result.now) =
    all_fit c.args.snapshot.now c.args.prices.now.0 c.args.telescope.0 c.args.openings.now.request.0 c.args.index c.args.openings.now.offer
    c.parts.ensures.orderly c.requires.openings.offer can c.args.chart.now c.requires.prices c.requires.chart c.index-until.result.now
    c.weight_at-weight.result c.index-after.result.now c.index-until.ensures weight c.index-after.ensures in
    simp to_z-of_z (gain_here c.args.snapshot.now c.args.prices.now.0 c.args.telescope.0 c.args.openings.now.request.0 c.args.index
    c.args.openings.now.offer c.parts.ensures.orderly c.requires.openings.offer can c.args.chart.now c.requires.prices c.requires.chart
    c.index-until.result.now c.weight_at-weight.result c.index-after.result.now c.index-until.ensures weight c.index-after.ensures)

pub bounds-flags-index : goal.bounds-flags-index
bounds-flags-index c = grind (arith, common_steps)

pub returns-then-not-flags-index : goal.returns-then-not-flags-index
returns-then-not-flags-index c = grind (arith, common_steps)

pub index-after-requires : goal.index-after-requires
index-after-requires c = grind (arith, common_steps)
