use Rattle.std.proofs.Common.{◌≡◌, ◌<◌, ◌↔◌, IsTrue, nat_eq, length, slice_index_or, sym, ◌∙◌, subst}
use Rattle.std.proofs.lemmas.List.{get_or_default}
use Rattle.plan_base.specs.Saturated.{HasNonePlaced}
use Rattle.groups.specs.Building.{Building}
use Rattle.groups.proofs.PlacedFlags.{count_tells}
use Rattle.groups.proofs.plan.PlanBuild.has_none_placed.Goals as goal

pub returns : goal.returns
returns c =
    let s = c.self.inside.snapshot.now in
    let members = c.self.inside.tables.members.items in
    let below : c.args.group < length s.groups = subst (λ (b : Building). c.args.group < length b.snapshot.groups) (sym c.self.view_is) c.requires in
    let within : c.args.group < length members = subst (λ n. c.args.group < n) (sym c.self.invariant.kept.tables.groups) below in
    let here : c.index.result.now ≡ slice_index_or members c.args.group 0 = c.index.ensures ∙ get_or_default members c.args.group c.index.result.now 0 within in
    subst (λ (b : Building). IsTrue (nat_eq c.index.result.now 0) ↔ HasNonePlaced b.snapshot b.placed c.args.group) c.self.view_is
    (count_tells s c.args.group c.index.result.now c.self.inside.placements.items c.recall_valid.ensures.orderly c.self.invariant.kept.so_far
    (here ∙ c.self.invariant.kept.tables.members c.args.group))
