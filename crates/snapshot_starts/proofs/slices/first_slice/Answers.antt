use Rattle.std.proofs.Common.{◌≡◌, ℕ, ◌*◌, ◌≤◌, sym, ◌∙◌, ap, subst, arith}
use Rattle.std.specs.Prelude.{◌↔◌}
use Rattle.std.specs.Int.{div_ceil}
use Rattle.snapshot_starts.proofs.Sets.{ceil_iff}
use Rattle.snapshot_starts.proofs.slices.first_slice.Goals as goal

pub returns : goal.returns
returns c = λ k.
    let is : c.div_ceil.result ≡ div_ceil c.args.from c.args.len = c.div_ceil.ensures ∙ ap (div_ceil c.args.from) c.from.ensures in
    let long : 60 ≤ c.args.len = c.requires in
    subst (λ (q : ℕ). (q ≤ k) ↔ (c.args.from ≤ k * c.args.len)) (sym is) (ceil_iff c.args.from c.args.len k (omega arith))
