use Rattle.std.proofs.Common.{◌≡◌, ℕ, ◌+◌, ◌-◌, ◌<◌, ℤ, List, length, take, drop, slice_index_or, refl, ◌∙◌, sym, ap, subst, arith}
use Rattle.std.proofs.lemmas.List.{length-map}
use Rattle.plan_base.specs.declared.parts.Parts.{Parts}
use Rattle.plan_base.specs.declared.parts.Op.{Op}
use Rattle.plan_base.specs.Requests.{members, IsKind}
use Rattle.plan_base.specs.Bound.{price}
use Rattle.plan_base.specs.NetPrices.{group_prices}
use Rattle.groups.proofs.Runs.{run_prices, kind_read}
use Rattle.groups.specs.Takings.{takes_at}
use Rattle.groups.proofs.Chosen.{takes_is}
use Rattle.prices.proofs.taken.write_group.Goals as goal

pub returns-clause-group : goal.returns-clause-group
returns-clause-group c =
    let groups = c.as_slice.ensures ∙ ap (λ (s : Parts). s.groups) c.parts.ensures.value in
    let op : Op = (slice_index_or c.as_slice.result.now c.args.group c.index-as_slice-group.result).op in
    let kind : IsKind c.args.snapshot.now op c.args.group =
    kind_read c.args.snapshot.now c.as_slice.result.now c.args.group c.index-as_slice-group.result op groups c.requires.group refl in
    let size : c.args.first + c.member_count-count.result - c.args.first ≡ c.member_count-count.result = omega arith in
    let are : take (c.args.first + c.member_count-count.result - c.args.first) (drop c.args.first c.args.net.now)
    ≡ group_prices c.args.snapshot.now c.args.net.now c.args.group
    = ap (λ (n : ℕ). take n (drop c.args.first c.args.net.now)) size
    ∙ run_prices c.args.snapshot.now c.args.net.now c.args.group c.args.first c.member_count-count.result c.requires.run c.requires.count
    (sym c.member_count-count.ensures.value)
    in
    let many : length (group_prices c.args.snapshot.now c.args.net.now c.args.group) ≡ length (members c.args.snapshot.now c.args.group) =
    length-map (members c.args.snapshot.now c.args.group) (price c.args.snapshot.now c.args.net.now) in
    λ i l.
    c.write_members.ensures.group i (subst (λ (ps : List ℤ). i < length ps) (sym are) (subst (λ (n : ℕ). i < n) (sym many) l))
    ∙ ap (λ (ps : List ℤ). takes_at op ps i) are
    ∙ takes_is c.args.snapshot.now c.args.net.now c.args.group i op c.parts.ensures.orderly c.requires.group l kind
