use Rattle.std.proofs.Common.{subst, sym, List}
use Rattle.std.specs.Prelude.{◌==◌, Contains}
use Rattle.std.proofs.lemmas.List.Elements.{contains_decides, Decides-contains}
use Rattle.plan_base.specs.declared.number.TelescopeNo.{TelescopeNo}
use Rattle.plan_base.proofs.Equality.{telescopes_decide}
use Rattle.snapshot_starts.proofs.telescope.is_able.Goals as goal

pub returns : goal.returns
returns c =
    let here = Decides-contains c.as_slice.result.now c.args.telescope _
    (contains_decides (λ a b. a.0 == b.0) telescopes_decide c.as_slice.result.now c.args.telescope _ c.contains.ensures.cases) in (
      λ yes. subst (λ (ts : List TelescopeNo). Contains ts c.args.telescope) c.as_slice.ensures (here.0 yes),
      λ has. here.1 (subst (λ (ts : List TelescopeNo). Contains ts c.args.telescope) (sym c.as_slice.ensures) has),
    )
