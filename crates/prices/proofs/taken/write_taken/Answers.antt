use Rattle.std.proofs.Common.{◌≡◌, ◌+◌, ◌≤◌, length, ◌∙◌, ap, arith}
use Rattle.plan_base.specs.declared.parts.Parts.{Parts}
use Rattle.plan_base.specs.Requests.{listed, members}
use Rattle.plan_base.specs.NetPrices.{IsGroupRun}
use Rattle.prices.proofs.Walking.{walked_more, walked_all, group_within, few_requests}
use Rattle.prices.proofs.taken.write_taken.Goals as goal

pub write_group-requires-clause-run : goal.write_group-requires-clause-run
write_group-requires-clause-run c =
    let count = c.len-group-end.ensures ∙ ap (λ (s : Parts). length s.groups) c.parts.ensures.value in
    let test = c.loop-group-test.true in
    group_within c.args.snapshot.now c.args.net.now c.args.taken.now c.loop-group.taken c.loop-group.first c.loop-group.group c.parts.ensures.orderly
    (omega arith) c.loop-group.invariant

pub overflow_add-first : goal.overflow_add-first
overflow_add-first c =
    let count = c.len-group-end.ensures ∙ ap (λ (s : Parts). length s.groups) c.parts.ensures.value in
    let test = c.loop-group-test.true in
    let run : IsGroupRun c.args.snapshot.now c.loop-group.group c.loop-group.first
    = group_within c.args.snapshot.now c.args.net.now c.args.taken.now c.loop-group.taken c.loop-group.first c.loop-group.group
    c.parts.ensures.orderly (omega arith) c.loop-group.invariant
    in
    let within : c.loop-group.first + length (members c.args.snapshot.now c.loop-group.group) ≤ length (listed c.args.snapshot.now) = run.within in
    let few : length (listed c.args.snapshot.now) ≤ 1024 = few_requests c.args.snapshot.now c.parts.ensures.orderly in
    let is : c.member_count-first.result ≡ length (members c.args.snapshot.now c.loop-group.group) = c.member_count-first.ensures.value in
    record { fits = omega arith }

pub loop-group-preserved : goal.loop-group-preserved
loop-group-preserved c =
    let count = c.len-group-end.ensures ∙ ap (λ (s : Parts). length s.groups) c.parts.ensures.value in
    let test = c.loop-group-test.true in
    walked_more c.args.snapshot.now c.args.net.now c.args.taken.now c.loop-group.taken c.write_group.new.taken c.loop-group.first c.loop-group.group
    c.member_count-first.result (omega arith) c.member_count-first.ensures.value
    c.write_group.ensures.count c.write_group.ensures.before c.write_group.ensures.group c.loop-group.invariant

pub returns-clause-taken : goal.returns-clause-taken
returns-clause-taken c =
    let count = c.len-group-end.ensures ∙ ap (λ (s : Parts). length s.groups) c.parts.ensures.value in
    let test = c.loop-group-test.false in
    walked_all c.args.snapshot.now c.args.net.now c.args.taken.now c.loop-group.taken c.loop-group.first c.loop-group.group (omega arith) c.loop-group.invariant
