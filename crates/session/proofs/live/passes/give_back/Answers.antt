use Rattle.std.proofs.Common.{◌≡◌, ℕ, ◌+◌, ◌∷◌, ◌++◌, [], ◌∙◌, ap, subst, length, List, length-append}
use Rattle.desk_passes.specs.declared.holders.Pass.{Pass}
use Rattle.desk_passes.specs.Calls.{root_view, view}
use Rattle.session.specs.Passes.{OnlyOut}
use Rattle.session.proofs.Passes.{fewer, last_of, out_fewer}
use Rattle.session.proofs.live.passes.give_back.Goals as goal

pub loop-pass-preserved : goal.loop-pass-preserved
loop-pass-preserved c =
    let desk = c.args.desk.now in
    let old = c.loop-pass.passes.items in
    let left = c.pop.new.self.items in
    let pass = c.in-Some.pass in
    let cut : old ≡ left ++ pass ∷ [] = c.in-Some.ensures.items in
    let more : length old ≡ length left + 1 = ap (λ (ps : List Pass). length ps) cut ∙ length-append left (pass ∷ []) in
    let held = c.loop-pass.invariant in (
      c.back.ensures.root,
      fewer desk left old pass cut held.1,
      out_fewer (root_view c.loop-pass.root) (root_view c.back.new.root) (length left) (view pass).caller
          (last_of desk left old pass cut held.1) c.back.ensures.back
          (subst (λ (n : ℕ). OnlyOut (root_view c.loop-pass.root) n) more held.2),
    )
