use Rattle.std.proofs.Common.{◌≡◌, ◌+◌, ◌≤◌, ap, subst, arith}
use Rattle.plan_base.specs.declared.parts.Parts.{Parts}
use Rattle.rapid.specs.Found.{IsFirstAt}
use Rattle.rapid.proofs.Sought.{none_first, none_more, none_whole, found_first}
use Rattle.rapid.proofs.seeking.earliest_by.Goals as goal

pub loop-slice-init : goal.loop-slice-init
loop-slice-init c = none_first c.args.snapshot.now c.args.held.now c.args.request c.parts.result.now.first.0
    (ap (λ (s : Parts). s.first.0) c.parts.ensures.value)

pub loop-slice-preserved : goal.loop-slice-preserved
loop-slice-preserved c =
    none_more c.args.snapshot.now c.args.held.now c.args.request c.loop-slice.slice c.loop-slice.invariant
    (subst (IsFirstAt c.args.snapshot.now c.args.held.now c.args.request (record { 0 = c.loop-slice.slice }))
    c.in_default.is c.in_ok-found.ensures)

pub returns-in-Some : goal.returns-in-Some
returns-in-Some c =
    found_first c.args.snapshot.now c.args.held.now c.args.request c.loop-slice.slice c.in-Some.found c.loop-slice.invariant
    (subst (IsFirstAt c.args.snapshot.now c.args.held.now c.args.request (record { 0 = c.loop-slice.slice })) c.in-Some.is c.in_ok-found.ensures)

pub returns : goal.returns
returns c =
    let first : c.parts.result.now.first.0 ≡ c.args.snapshot.now.first.0 = ap (λ (s : Parts). s.first.0) c.parts.ensures.value in
    let slices : c.parts-2.result.now.slices ≡ c.args.snapshot.now.slices = ap (λ (s : Parts). s.slices) c.parts-2.ensures.value in
    let end : c.parts.result.now.first.0 + c.parts-2.result.now.slices ≤ c.loop-slice.slice = c.loop-slice-test.false in
    none_whole c.args.snapshot.now c.args.held.now c.args.request c.loop-slice.slice c.recall_valid.ensures.orderly (omega arith) c.loop-slice.invariant
