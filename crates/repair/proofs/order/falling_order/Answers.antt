use Rattle.std.proofs.Common.{◌≡◌, List, map, ap, ◌∙◌}
use Rattle.std.proofs.lemmas.Result.{IfOk-weaker}
use Rattle.repair.specs.Orders.{IsFallingOrder}
use Rattle.repair.specs.declared.order.Rank.{Rank}
use Rattle.repair.proofs.Ranking.{order_from_ranks}
use Rattle.repair.proofs.order.falling_order.Goals as goal

pub returns : goal.returns
returns c = IfOk-weaker c.places_of.result (λ places. places.items ≡ map (λ r. r.place) c.deref.result.now)
    (λ order. IsFallingOrder c.args.worths.now order.items)
    (λ places is. order_from_ranks c.args.worths.now c.in_ok-ranks.ranks.items c.sort_unstable.new.self.items places.items c.in_ok-ranks.ensures
    c.sort_unstable.ensures.permutation c.sort_unstable.ensures.sorted
    (is ∙ ap (λ (l : List Rank). map (λ r. r.place) l) c.deref.ensures.value)) c.places_of.ensures
