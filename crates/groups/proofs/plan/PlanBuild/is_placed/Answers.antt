use Rattle.std.proofs.Common.{◌≡◌, ◌<◌, ◌↔◌, false, Contains, IsTrue, length, slice_index_or, sym, ◌∙◌, ap, subst}
use Rattle.std.proofs.lemmas.Bool.{false≢true}
use Rattle.std.proofs.lemmas.List.{get_or_default}
use Rattle.plan_base.specs.Requests.{place_of, IsKnown}
use Rattle.plan_base.specs.Feasible.{requests_of}
use Rattle.groups.specs.Building.{Building}
use Rattle.groups.proofs.PlacedFlags.{flag_tells, unknown_not_placed}
use Rattle.groups.proofs.plan.PlanBuild.is_placed.Goals as goal

pub returns-in-Some : goal.returns-in-Some
returns-in-Some c =
    let s = c.self.inside.snapshot.now in
    let placed = c.self.inside.tables.placed.items in
    let known : IsKnown s c.args.request.0 = c.in-Some.ensures.0 in
    let at : c.in-Some.place ≡ place_of s c.args.request.0 = c.in-Some.ensures.1 in
    let within : place_of s c.args.request.0 < length placed = subst (λ n. place_of s c.args.request.0 < n) (sym c.self.invariant.kept.tables.places) known in
    let here : slice_index_or placed (place_of s c.args.request.0) false ≡ c.index.result.now
    = get_or_default placed (place_of s c.args.request.0) false c.index.result.now within
    ∙ ap (λ k. slice_index_or placed k c.index.result.now) (sym at) ∙ sym c.index.ensures
    in
    subst (λ (b : Building). IsTrue c.index.result.now ↔ Contains (requests_of b.placed) c.args.request.0) c.self.view_is
    (flag_tells s c.self.inside.placements.items placed c.args.request.0 c.index.result.now c.self.invariant.kept.so_far known
    c.self.invariant.kept.tables.placed here)

pub returns-in-None : goal.returns-in-None
returns-in-None c =
    subst (λ (b : Building). IsTrue false ↔ Contains (requests_of b.placed) c.args.request.0) c.self.view_is (
      λ yes. absurd (false≢true yes),
      λ has. absurd (unknown_not_placed c.self.inside.snapshot.now c.self.inside.placements.items c.args.request.0
          c.self.invariant.kept.so_far c.in-None.ensures has),
    )
