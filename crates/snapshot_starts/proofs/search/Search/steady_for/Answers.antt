use Rattle.std.proofs.Common.{◌≡◌, ◌<◌, Option, Bor, length, subst, ◌∙◌}
use Rattle.std.specs.Prelude.{HoldsAt, IfSome}
use Rattle.plan_base.specs.declared.parts.Parts.{Parts}
use Rattle.snapshot_starts.specs.Mending.{AreSteady}
use Rattle.snapshot_starts.proofs.Keeping.{steady_pair}
use Rattle.snapshot_starts.proofs.search.Search.steady_for.Goals as goal

pub returns-then-has_pair : goal.returns-then-has_pair
returns-then-has_pair c =
    let was : Parts = c.in_ok-held.held.now in
    let s : Parts = c.args.self.now in
    let t = c.args.telescope in
    let held = subst (λ (x : Option (Bor Parts)). IfSome x (λ earlier. AreSteady earlier.now c.self.inside.snapshot.now c.self.inside.steady))
    c.in_ok-held.was c.self.invariant in
    let steady : AreSteady was s c.self.inside.steady = subst (λ (p : Parts). AreSteady was p c.self.inside.steady) c.self.view_is held in
    let same = c.parts.ensures.value ∙ c.self.view_is in
    let within : t.0 < length s.telescopes = subst (λ (p : Parts). t.0 < length p.telescopes) same c.in_ok-part.ensures.0 in
    let at : HoldsAt (λ x. x ≡ c.in_ok-part.part.now) s.telescopes t.0 =
    subst (λ (p : Parts). HoldsAt (λ x. x ≡ c.in_ok-part.part.now) p.telescopes t.0) same c.in_ok-part.ensures.1 in
    steady_pair was s c.self.inside.steady c.args.request.now t c.in_ok-part.part.now steady c.requires within at
    (c.has_pair.ensures.request c.if-has_pair.true) (c.has_pair.ensures.telescope c.if-has_pair.true)
    (c.has_pair.ensures.skies c.if-has_pair.true)
