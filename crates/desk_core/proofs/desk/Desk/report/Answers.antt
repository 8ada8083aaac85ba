use Rattle.std.proofs.Common.{◌≡◌, ◌∙◌, ◌≤◌, true, false, sym, subst, arith}
use Rattle.desk_events.specs.declared.refusal.Refusal.TheVariants.{NoSuchRequest, NotRunning, UsedTooLong}
use Rattle.desk_runs.specs.Numbers.{is_placed}
use Rattle.desk_core.specs.Desk.{DeskSeen, Decision, seen, Decides}
use Rattle.desk_core.specs.Timing.{IsFoundAt, on_report}
use Rattle.desk_core.proofs.Decided.{refused_so}
use Rattle.desk_core.proofs.Reportable.{can_charge}
use Rattle.desk_core.proofs.Reports.{not_found, not_running, too_long, fails, completes}
use Rattle.desk_core.proofs.desk.Desk.report.Goals as goal

pub returns-in_default : goal.returns-in_default
returns-in_default c =
    let d : DeskSeen = seen c.args.self.now in
    refused_so (on_report d c.args.number c.args.percent c.args.used) d NoSuchRequest
    (not_found d c.args.number c.args.percent c.args.used c.in_default.ensures)

pub returns-then-not-is_running : goal.returns-then-not-is_running
returns-then-not-is_running c =
    let d : DeskSeen = seen c.args.self.now in
    let off : is_placed c.args.self.now.runs.running c.args.number ≡ false = sym c.is_running.ensures ∙ c.if-not-is_running.true in
    refused_so (on_report d c.args.number c.args.percent c.args.used) d NotRunning
    (not_running d c.args.number c.args.percent c.args.used c.in-Some.place c.in-Some.ensures off)

pub returns-then-used-most : goal.returns-then-used-most
returns-then-used-most c =
    let d : DeskSeen = seen c.args.self.now in
    let f : IsFoundAt d c.args.number c.in-Some.place = c.in-Some.ensures in
    let on : is_placed c.args.self.now.runs.running c.args.number ≡ true = sym c.is_running.ensures ∙ c.if-not-is_running.false in
    refused_so (on_report d c.args.number c.args.percent c.args.used) d (UsedTooLong c.seconds_at-most.result c.args.used)
    (too_long d c.args.number c.args.percent c.args.used c.seconds_at-most.result c.in-Some.place f on
    (c.seconds_at-most.ensures c.args.number f) c.if-used-most.true)

pub returns-then-percent-threshold_at : goal.returns-then-percent-threshold_at
returns-then-percent-threshold_at c =
    let d : DeskSeen = seen c.args.self.now in
    let f : IsFoundAt d c.args.number c.in-Some.place = c.in-Some.ensures in
    let on : is_placed c.args.self.now.runs.running c.args.number ≡ true = sym c.is_running.ensures ∙ c.if-not-is_running.false in
    let few : c.args.used ≤ f.request.seconds = let most = c.seconds_at-most.ensures c.args.number f in omega (arith, most, c.if-used-most.false) in
    subst (λ (x : Decision). Decides x d (seen c.fail.new.self) c.fail.result)
    (sym (fails d c.args.number c.args.percent c.args.used c.threshold_at.result c.in-Some.place f on few
    (c.threshold_at.ensures c.args.number f) c.if-percent-threshold_at.true)) c.fail.ensures

pub complete-requires-clause-charge : goal.complete-requires-clause-charge
complete-requires-clause-charge c =
    let d : DeskSeen = seen c.args.self.now in
    let f : IsFoundAt d c.args.number c.in-Some.place = c.in-Some.ensures in
    let on : is_placed c.args.self.now.runs.running c.args.number ≡ true = sym c.is_running.ensures ∙ c.if-not-is_running.false in
    let few : c.args.used ≤ f.request.seconds = let most = c.seconds_at-most.ensures c.args.number f in omega (arith, most, c.if-used-most.false) in
    can_charge d c.args.number c.in-Some.place c.args.used c.in_ok-key.key c.requires.desk f on few (c.in_ok-key.ensures c.args.number f)

pub returns : goal.returns
returns c =
    let d : DeskSeen = seen c.args.self.now in
    let f : IsFoundAt d c.args.number c.in-Some.place = c.in-Some.ensures in
    let on : is_placed c.args.self.now.runs.running c.args.number ≡ true = sym c.is_running.ensures ∙ c.if-not-is_running.false in
    let few : c.args.used ≤ f.request.seconds = let most = c.seconds_at-most.ensures c.args.number f in omega (arith, most, c.if-used-most.false) in
    subst (λ (x : Decision). Decides x d (seen c.complete.new.self) c.complete.result)
    (sym (completes d c.args.number c.args.percent c.args.used c.threshold_at.result c.in-Some.place f on few
    (c.threshold_at.ensures c.args.number f) c.if-percent-threshold_at.false))
    (c.complete.ensures f.submitted f.wanted f.group (c.in_ok-key.ensures c.args.number f) f.known f.numbered)
