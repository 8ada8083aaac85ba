use Rattle.std.proofs.Common.{inl, inr, refl, ℕ, subst}
use Rattle.repair.specs.Apart.{HasNoApart, IsFirstApart}
use Rattle.repair.proofs.find.better.Goals as goal

pub returns-in-Some : goal.returns-in-Some
returns-in-Some c = inr (
  c.in-Some.slice.0,
  refl,
  subst (λ (n : ℕ). IsFirstApart c.args.draft.now.snapshot c.args.draft.now.placed c.args.run n c.in-Some.slice.0)
      c.limit_of.ensures c.in-Some.ensures,
)

pub returns-in-None : goal.returns-in-None
returns-in-None c = inl (refl, subst (HasNoApart c.args.draft.now.snapshot c.args.draft.now.placed c.args.run) c.limit_of.ensures c.in-None.ensures)
