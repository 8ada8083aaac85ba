use Rattle.std.proofs.Common.{◌-◌, ◌≤◌, List, All, map, sym, ap, subst, ◌∙◌, arith}
use Rattle.plan_base.specs.declared.parts.Parts.{Parts}
use Rattle.plan_base.specs.declared.span.Span.{Span}
use Rattle.plan_base.specs.Requests.{request_value, fade_of}
use Rattle.plan_base.specs.Snapshot.{IsMoment}
use Rattle.plan_base.specs.Starts.{slices_for, least_of}
use Rattle.plan_base.proofs.Known.{known_has, value_at_most}
use Rattle.plan_base.proofs.Here.{request_here}
use Rattle.lanes.proofs.Worths.{number_here, worth_here}
use Rattle.lanes.proofs.worth.worth_of.Goals as goal

pub least_from-requires : goal.least_from-requires
least_from-requires c =
    let here = request_here c.args.snapshot.now c.known_place.result c.request_at-request.result.now c.recall_valid.ensures.orderly
    c.known_place.ensures.within c.request_at-request.ensures in
    record { moments = subst (λ (ws : List Span). All (λ w. IsMoment w.from.0) ws) (sym c.as_slice.ensures) (λ k d l. (here.asked.moments k d l).0) }

pub faded-requires-clause-value : goal.faded-requires-clause-value
faded-requires-clause-value c =
    let s = c.args.snapshot.now in
    let q = c.request_at-request.result.now in
    let here = request_here s c.known_place.result q c.recall_valid.ensures.orderly c.known_place.ensures.within c.request_at-request.ensures in
    let most : request_value s q.request.0 ≤ 288000000 = value_at_most s q.request.0 c.recall_valid.ensures.orderly here.known in
    let is = here.value in
    let from = c.from-2.ensures in
    omega arith

pub faded-requires-clause-fade : goal.faded-requires-clause-fade
faded-requires-clause-fade c =
    let s = c.args.snapshot.now in
    let q = c.request_at-request.result.now in
    let here = request_here s c.known_place.result q c.recall_valid.ensures.orderly c.known_place.ensures.within c.request_at-request.ensures in
    let most : fade_of s q.request.0 ≤ 1000 = known_has (λ n. n ≤ 1000) (λ x. x.request.fade) 0 s q.request.0 c.recall_valid.ensures.orderly.fades here.known in
    let is = here.fade in
    let from = c.from-3.ensures in
    omega arith

pub returns-clause-value : goal.returns-clause-value
returns-clause-value c =
    let s = c.args.snapshot.now in
    let q = c.request_at-request.result.now in
    let here = request_here s c.known_place.result q c.recall_valid.ensures.orderly c.known_place.ensures.within c.request_at-request.ensures in
    let number = number_here s c.args.start.request.0 c.known_place.result q c.requires.known c.known_place.ensures.value c.request_at-request.ensures in
    c.faded.ensures.value ∙ worth_here s c.args.start c.known_place.result q c.from-2.result c.from-3.result c.slices_for-earliest.result
    c.saturating_sub-delay.result here number c.from-2.ensures c.from-3.ensures
    (c.slices_for-earliest.ensures.value ∙ ap (λ n. slices_for n c.least_from.result) (c.from-len.ensures ∙ ap (λ (p : Parts). p.len) c.parts.ensures.value)
    ∙ ap (λ n. slices_for s.len n) (c.least_from.ensures.least ∙ ap (λ (ws : List Span). least_of (map (λ w. w.from.0) ws)) c.as_slice.ensures))
    (c.saturating_sub-delay.ensures ∙ ap (λ n. n - c.slices_for-earliest.result) c.from.ensures)
