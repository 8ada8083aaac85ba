use Rattle.std.proofs.Common.{◌≡◌, ℕ, ◌+◌, ◌<◌, ◌≤◌, length, slice_index_or, ◌∙◌, ap, arith}
use Rattle.plan_base.specs.declared.parts.Parts.{Parts}
use Rattle.groups.specs.Tables.{towards}
use Rattle.groups.proofs.Footed.{seconds_listed}
use Rattle.prices.proofs.Demanding.{asked_at, asked_here, asked_most, quota_within}
use Rattle.prices.proofs.demands.add_request.Goals as goal
use Rattle.prices.proofs.demands.add_request.Goals.{After-slice_known-2-1}

pub add_seconds-requires-clause-within : goal.add_seconds-requires-clause-within
add_seconds-requires-clause-within c = λ q named.
    let groups = c.as_slice.ensures ∙ ap (λ (s : Parts). s.groups) c.parts.ensures.value in
    let known : q < length c.args.snapshot.now.quotas =
    quota_within c.args.snapshot.now _ c.group_at.result c.index-as_slice-group_at.result q c.parts.ensures.orderly groups
    c.group_at.ensures.within c.index-as_slice-group_at.is named in
    let room = c.requires.room in
    omega arith

pub add_seconds-requires-clause-small : goal.add_seconds-requires-clause-small
add_seconds-requires-clause-small c = λ q named.
    let most : c.request_at.result.now.seconds ≤ 86400 =
    seconds_listed c.args.snapshot.now c.args.place c.request_at.result.now c.parts.ensures.orderly c.requires.place c.request_at.ensures in
    let is = c.from.ensures in
    let small = c.requires.small q in
    omega arith

added : (c : After-slice_known-2-1) (q : ℕ) → slice_index_or c.add_seconds.new.seconds q 0 ≡ slice_index_or c.args.demands.now q 0
    + asked_at c.args.snapshot.now c.args.place q
added c q =
    let groups = c.as_slice.ensures ∙ ap (λ (s : Parts). s.groups) c.parts.ensures.value in
    c.add_seconds.ensures.added q
    ∙ ap (λ (n : ℕ). slice_index_or c.args.demands.now q 0 + n)
    (ap (λ (m : ℕ). towards c.index-as_slice-group_at.result.quota m q) c.from.ensures
    ∙ asked_here c.args.snapshot.now c.args.place c.group_at.result c.request_at.result.now _ c.index-as_slice-group_at.result q
    c.parts.ensures.orderly c.requires.place c.request_at.ensures c.group_at.ensures.value groups c.index-as_slice-group_at.is)

pub returns-clause-added : goal.returns-clause-added
returns-clause-added c = λ q. added c q

pub returns-clause-few : goal.returns-clause-few
returns-clause-few c = λ q.
    let is : slice_index_or c.add_seconds.new.seconds q 0 ≡ slice_index_or c.args.demands.now q 0 + asked_at c.args.snapshot.now c.args.place q = added c q in
    let most : asked_at c.args.snapshot.now c.args.place q ≤ 86400 = asked_most c.args.snapshot.now c.args.place q c.parts.ensures.orderly c.requires.place in
    omega arith
