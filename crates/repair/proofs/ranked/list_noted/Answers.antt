use Rattle.std.proofs.Common.{◌≡◌, length, ◌∙◌, ap, arith}
use Rattle.std.specs.Vec.{vec_capacity}
use Rattle.repair.proofs.Sorting.{few_pushed}
use Rattle.repair.proofs.Foremost.{listed_some, listed_none}
use Rattle.repair.proofs.ranked.list_noted.Goals as goal
use Rattle.repair.proofs.ranked.list_noted.Goals.{in-Some, in_default}

pub loop-place-preserved : goal.loop-place-preserved
loop-place-preserved c = elim c.match-noted-place.branch [
  | in-Some w ↦ record {
    listed = ap (λ v. v.items) w.ranked-is ∙ w.push_reserved.ensures.items
        ∙ listed_some c.args.noted.now c.loop-place.place _ c.loop-place.ranked.items w.in-Some.rank
        (omega arith) w.in-Some.is c.loop-place.invariant.listed;
    few = few_pushed c.loop-place.ranked.items c.match-noted-place.ranked.items _ c.loop-place.place
        (ap (λ v. v.items) w.ranked-is ∙ w.push_reserved.ensures.items) c.loop-place.invariant.few;
    room = ap (λ v. vec_capacity v) w.ranked-is ∙ w.push_reserved.ensures.capacity ∙ c.loop-place.invariant.room;
  }
  | in_default w ↦ record {
    listed = ap (λ v. v.items) w.ranked-is
        ∙ listed_none c.args.noted.now c.loop-place.place _ c.loop-place.ranked.items (omega arith) w.in_default.is c.loop-place.invariant.listed;
    few = let same : length c.match-noted-place.ranked.items ≡ length c.loop-place.ranked.items = ap (λ v. length v.items) w.ranked-is in
        let few = c.loop-place.invariant.few in omega arith;
    room = ap (λ v. vec_capacity v) w.ranked-is ∙ c.loop-place.invariant.room;
  }
]
