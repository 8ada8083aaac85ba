use Rattle.std.proofs.Common.{◌≡◌, ℕ, ◌<◌, ℤ, pos, List, length, slice_index_or, refl, ◌∙◌, sym, ap, subst, rules, w64}
use Rattle.std.proofs.lemmas.Int.{to_z-of_z}
use Rattle.std.proofs.lemmas.List.{length-map}
use Rattle.plan_base.specs.declared.parts.Parts.{Parts}
use Rattle.plan_base.specs.declared.parts.Op.{Op}
use Rattle.plan_base.specs.Requests.{members, IsKind}
use Rattle.plan_base.specs.Bound.{price}
use Rattle.plan_base.specs.NetPrices.{group_prices}
use Rattle.groups.specs.Takings.{takes_at, takes_by}
use Rattle.groups.proofs.Chosen.{takes_is}
use Rattle.groups.proofs.Runs.{kind_read}
use Rattle.groups.proofs.rebates.choice.Goals as goal
use mir.Val.{SFits}

pub returns : goal.returns
returns c =
    let groups = c.as_slice.ensures ∙ ap (λ (s : Parts). s.groups) c.parts.ensures.value in
    let prices : List ℤ = c.prices_of_group-prices.result.now in
    let are : prices ≡ group_prices c.args.snapshot.now c.args.prices.now.0 c.args.group = c.prices_of_group-prices.ensures.value in
    let op : Op = (slice_index_or c.as_slice.result.now c.args.group c.index-as_slice-group.result).op in
    let kind : IsKind c.args.snapshot.now op c.args.group =
    kind_read c.args.snapshot.now c.as_slice.result.now c.args.group c.index-as_slice-group.result op groups c.requires.group refl in
    let many : length (group_prices c.args.snapshot.now c.args.prices.now.0 c.args.group) ≡ length (members c.args.snapshot.now c.args.group)
    = length-map (members c.args.snapshot.now c.args.group) (price c.args.snapshot.now c.args.prices.now.0)
    in
    let within : c.args.member < length prices =
    subst (λ (ps : List ℤ). c.args.member < length ps) (sym are) (subst (λ (n : ℕ). c.args.member < n) (sym many) c.requires.member) in
    let fit : SFits w64 (slice_index_or prices c.args.member (pos 0)) = search rules in
    c.takes.ensures
    ∙ ap (λ (z : ℤ). takes_by c.at.result z c.args.member) (to_z-of_z w64 (slice_index_or prices c.args.member (pos 0)) fit)
    ∙ c.at.ensures c.args.member within
    ∙ ap (λ (ps : List ℤ). takes_at op ps c.args.member) are
    ∙ takes_is c.args.snapshot.now c.args.prices.now.0 c.args.group c.args.member op c.parts.ensures.orderly c.requires.group c.requires.member kind
