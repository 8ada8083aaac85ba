use Rattle.std.proofs.Common.{◌≡◌, ◌*◌, refl, ◌∙◌, ap, arith}
use Rattle.workload.specs.Generator.{number_after}
use Rattle.workload.specs.Requests.{requests_from}
use Rattle.workload.proofs.Numbers.{requests_more, number_more_drawn}
use Rattle.workload.proofs.request.draw_requests.Goals as goal

pub loop-init : goal.loop-init
loop-init c = record { drawn = c.new-requests.ensures; next = refl }

pub loop-preserved : goal.loop-preserved
loop-preserved c = record {
  drawn = c.in_ok-push.ensures.ok
      ∙ requests_more c.args.draws.now.x c.loop.counter c.loop.draws.x c.loop.requests c.draw_request.result c.loop.invariant.drawn
      c.loop.invariant.next c.draw_request.ensures.drawn;
  next = c.draw_request.ensures.next ∙ number_more_drawn c.args.draws.now.x c.loop.counter c.loop.draws.x c.loop.invariant.next;
}

pub returns-clause-drawn : goal.returns-clause-drawn
returns-clause-drawn c =
    let all : c.loop.counter ≡ c.args.count = omega (arith, c.loop-test.false, c.loop.auto.counter-end) in
    c.loop.invariant.drawn ∙ ap (requests_from c.args.draws.now.x) all

pub returns-clause-next : goal.returns-clause-next
returns-clause-next c =
    let all : c.loop.counter ≡ c.args.count = omega (arith, c.loop-test.false, c.loop.auto.counter-end) in
    c.loop.invariant.next ∙ ap (λ n. number_after c.args.draws.now.x (5 * n)) all
