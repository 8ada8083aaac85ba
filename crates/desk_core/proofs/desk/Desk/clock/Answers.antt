use Rattle.std.proofs.Common.{◌≡◌, ◌∙◌, ◌<◌, Bool, cond, ap, sym, subst, Option, Some, None}
use Rattle.std.proofs.lemmas.Bool.{lt-ltb}
use Rattle.plan_base.specs.declared.number.Sec.{Sec}
use Rattle.desk_events.specs.declared.refusal.Refusal.{Refusal}
use Rattle.desk_events.specs.declared.refusal.Refusal.TheVariants.{ClockBack}
use Rattle.desk_core.specs.Desk.{seen}
use Rattle.desk_core.specs.Timing.{on_clock}
use Rattle.desk_core.proofs.Decided.{refused_so}
use Rattle.desk_core.proofs.desk.Desk.clock.Goals as goal

pub returns-then-at-now : goal.returns-then-at-now
returns-then-at-now c =
    let before : Sec = c.args.self.now.runs.moment in
    let same : c.now-now.result ≡ before = c.now-now.ensures.now in
    let low : c.args.at.0 < before.0 = subst (λ (m : Sec). c.args.at.0 < m.0) same c.if-at-now.true in
    refused_so (on_clock (seen c.args.self.now) c.args.at) (seen c.args.self.now) (ClockBack c.args.at c.now-now.result)
    (ap (λ (b : Bool). let o : Option Refusal = cond b (Some (ClockBack c.args.at before)) None in o) (lt-ltb c.args.at.0 before.0 low)
    ∙ ap (λ (m : Sec). let o : Option Refusal = Some (ClockBack c.args.at m) in o) (sym same))
