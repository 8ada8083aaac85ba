use Rattle.std.proofs.Common.{◌≡◌, ℕ, subst, arith}
use Rattle.desk_passes.specs.declared.seen.PassPlace.TheVariants.{NotMade}
use Rattle.desk_passes.specs.Rule.{place_of}
use Rattle.desk_passes.proofs.Steps.{splits_pass_at}
use Rattle.desk_passes.proofs.desk.SharedDesk.make_pass.Goals as goal

pub split_seat-inner-requires : goal.split_seat-inner-requires
split_seat-inner-requires g c = (
  c.requires.desk,
  omega (arith, c.args.self.now.two_words),
  λ s h at. splits_pass_at c.args.self.now.table.shared.key s c.args.root.now.inner.id c.args.root.now.inner.me.0 g.C.Naming.caller c.args.root.now.first
      (subst (λ (n : ℕ). place_of c.args.root.now.inner.me.0.passes n ≡ NotMade) c.requires.named c.requires.not_made) h at,
)
