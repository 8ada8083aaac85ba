use Rattle.std.proofs.Common.{◌<◌, length, sym, subst, arith}
use Rattle.plan_base.specs.declared.parts.Parts.{Parts}
use Rattle.plan_base.specs.Requests.{listed, place_of}
use Rattle.snapshot_starts.specs.Pairs.{CanStart}
use Rattle.snapshot_starts.proofs.Pairing.{possible_iff, few_seconds}
use Rattle.snapshot_starts.proofs.possible.is_possible.Goals as goal

pub can_start-requires-clause-seconds : goal.can_start-requires-clause-seconds
can_start-requires-clause-seconds c =
    let known : place_of c.args.snapshot.now c.args.placement.request.0 < length (listed c.args.snapshot.now) = c.in-Some.ensures.0 in
    few_seconds c.args.snapshot.now c.in-Some.place c.request_at-request.result.now c.parts-parts.ensures.orderly
    (omega (arith, c.in-Some.ensures.1, known)) c.request_at-request.ensures

pub returns-in-Some : goal.returns-in-Some
returns-in-Some c =
    let s = c.args.snapshot.now in
    let p = c.args.placement in
    let both = possible_iff s p c.in-Some.place c.request_at-request.result.now c.parts-parts.ensures.orderly c.in-Some.ensures.0 c.in-Some.ensures.1
    c.request_at-request.ensures in (
      λ yes. both.1 (subst (λ (x : Parts). CanStart x c.request_at-request.result.now p.telescope p.slice.0) c.parts-parts.ensures.value
          (c.can_start.ensures.0 yes)),
      λ possible. c.can_start.ensures.1
          (subst (λ (x : Parts). CanStart x c.request_at-request.result.now p.telescope p.slice.0)
          (sym c.parts-parts.ensures.value) (both.0 possible)),
    )
