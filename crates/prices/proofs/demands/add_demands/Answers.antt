use Rattle.std.proofs.Common.{◌+◌, ◌<◌, List, ℕ, length, sym, subst, arith}
use Rattle.plan_base.specs.Requests.{listed}
use Rattle.prices.proofs.Demanding.{IsDemandedUpTo, demanded_more, demanded_as_before}
use Rattle.prices.proofs.demands.add_demands.Goals as goal
use Rattle.prices.proofs.demands.add_demands.Goals.{then-taken-place, else-taken-place}

pub loop-place-preserved : goal.loop-place-preserved
loop-place-preserved c =
    let all = c.request_count-place-end.ensures.value in
    let test = c.loop-place-test.true in
    let below : c.loop-place.place < length (listed c.args.snapshot.now) = omega arith in
    elim c.if-taken-place.branch [
      | then-taken-place w ↦
          subst (λ (ds : List ℕ). IsDemandedUpTo c.args.snapshot.now c.args.taken.now c.args.demands.now ds (c.loop-place.place + 1)) (sym w.demands-is)
          (demanded_more c.args.snapshot.now c.args.taken.now c.args.demands.now c.loop-place.demands w.add_request.new.demands c.loop-place.place
          below w.if-taken-place.true w.add_request.ensures.count w.add_request.ensures.added w.add_request.ensures.few c.loop-place.invariant)
      | else-taken-place w ↦
          subst (λ (ds : List ℕ). IsDemandedUpTo c.args.snapshot.now c.args.taken.now c.args.demands.now ds (c.loop-place.place + 1)) (sym w.demands-is)
          (demanded_as_before c.args.snapshot.now c.args.taken.now c.args.demands.now c.loop-place.demands c.loop-place.place below
          w.if-taken-place.false c.loop-place.invariant)
    ]
