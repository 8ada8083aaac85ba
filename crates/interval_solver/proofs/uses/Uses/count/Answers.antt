use Rattle.std.proofs.Common.{◌≡◌, ◌<◌, length, slice_index_or, sym, ◌∙◌, subst, arith}
use Rattle.std.specs.Prelude.{HoldsAt}
use Rattle.std.proofs.lemmas.List.{get_or_default}
use Rattle.plan_base.specs.Requests.{listed}
use Rattle.plan_base.specs.Round.{uses_of}
use Rattle.interval_solver.specs.Uses.{Started}
use Rattle.interval_solver.proofs.Used.{counted_uses}
use Rattle.interval_solver.proofs.uses.Uses.count.Goals as goal

pub returns : goal.returns
returns c =
    let uses = c.self.invariant.0 in
    let within : c.args.place < length (listed c.self.inside.snapshot.now) =
    subst (λ (u : Started). c.args.place < length (listed u.snapshot)) (sym c.self.view_is) c.requires in
    let read : c.index.result.now ≡ slice_index_or c.self.inside.counts.items c.args.place 0 = c.index.ensures
    ∙ get_or_default c.self.inside.counts.items c.args.place _ 0 (omega (arith, uses.requests)) in
    subst (λ (u : Started). HoldsAt (λ x. c.index.result.now ≡ uses_of u.starts x.request.request.0) (listed u.snapshot) c.args.place) c.self.view_is
    (counted_uses c.self.inside.snapshot.now c.self.inside.starts.items c.self.inside.places.items c.self.inside.counts.items c.args.place
    c.index.result.now c.recall_valid.ensures.orderly uses within read)
