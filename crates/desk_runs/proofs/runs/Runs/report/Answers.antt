use Rattle.std.proofs.Common.{◌≡◌, ◌∙◌, ◌==◌, ap, sym, subst, List, [], ◌∷◌, filter, not, true, Some}
use Rattle.plan_base.specs.declared.number.RequestNo.{RequestNo}
use Rattle.desk_runs.specs.declared.change.Change.{Change}
use Rattle.desk_runs.specs.declared.group.Group.{Group}
use Rattle.desk_runs.specs.declared.observation.Observation.{Observation}
use Rattle.plan_base.specs.declared.state.RequestState.TheVariants.{WindowExpired, Canceled}
use Rattle.plan_base.specs.States.{is_in}
use Rattle.desk_runs.specs.Numbers.{group_with, is_placed}
use Rattle.desk_runs.specs.Progress.{Progress}
use Rattle.desk_runs.specs.Clock.{became}
use Rattle.desk_runs.specs.Turning.{turned}
use Rattle.desk_runs.specs.Inside.{progress_of}
use Rattle.desk_runs.specs.Sound.{IsLater}
use Rattle.desk_runs.proofs.Moves.{is_among}
use Rattle.desk_runs.proofs.Reporting.{others}
use Rattle.desk_runs.proofs.ReportChange.{later_finished, finished, settled_group, report_found, told_found, told_canceled, told_expired, IsReport}
use Rattle.desk_runs.proofs.runs.Runs.report.Goals as goal

pub group_of_running-group-requires : goal.group_of_running-group-requires
group_of_running-group-requires c = c.requires

pub became_of-requires : goal.became_of-requires
became_of-requires c =
    subst (IsLater c.group_of_running-group.result.now) (sym c.in_ok-after.ensures)
    (later_finished c.args.number c.args.completes c.as_slice-2.result.now c.self.inside.moment c.group_of_running-group.result.now)

pub became_of-requires-2 : goal.became_of-requires-2
became_of-requires-2 c =
    subst (IsLater c.group_of_running-group.result.now) (sym c.in_ok-after.ensures)
    (later_finished c.args.number c.args.completes c.as_slice-2.result.now c.self.inside.moment c.group_of_running-group.result.now)

pub over_of-requires : goal.over_of-requires
over_of-requires c =
    subst (IsLater c.group_of_running-group.result.now) (sym c.in_ok-after.ensures)
    (later_finished c.args.number c.args.completes c.as_slice-2.result.now c.self.inside.moment c.group_of_running-group.result.now)

running_is : (c : goal.After-drop-over-2) → c.in_ok-running.running.items ≡ others c.args.number c.self.inside.running
running_is c = c.in_ok-running.ensures ∙ ap (λ (l : List Observation). filter (λ o. not (o.request.0 == c.args.number.0)) l) c.as_slice.ensures

after_is : (c : goal.After-drop-over-2)
    → c.in_ok-after.after ≡ turned c.in_ok-running.running.items c.self.inside.moment
    (finished c.args.number c.args.completes c.group_of_running-group.result.now)
after_is c =
    c.in_ok-after.ensures ∙ ap (λ (l : List Observation). turned l c.self.inside.moment
    (finished c.args.number c.args.completes c.group_of_running-group.result.now)) c.as_slice-2.ensures.value

there_is : (c : goal.After-drop-over-2) → group_with c.self.inside.groups.items c.args.number ≡ Some c.group_of_running-group.result.now
there_is c = rw (← c.self.view_is) at c.group_of_running-group.ensures

found : (c : goal.After-drop-over-2) → IsReport (progress_of c.self.inside) c.args.number c.args.completes c.in_ok-change.change
found c =
    let s : Progress = progress_of c.self.inside in
    let runs : is_placed s.running c.args.number ≡ true = subst (λ (p : Progress). is_placed p.running c.args.number ≡ true) (sym c.self.view_is) c.requires in
    report_found s c.args.number c.args.completes c.group_of_running-group.result.now c.in_ok-after.after c.in_ok-over.over.items
    c.in_ok-running.running.items c.in_ok-change.change c.self.invariant.sound runs (there_is c)
    (running_is c) (after_is c) c.in_ok-over.ensures
    (c.in_ok-change.ensures
    ∙ ap (λ (l : List RequestNo). let x : Change = record {
      now = c.self.inside.moment;
      groups = c.in_ok-after.after ∷ [];
      kept = filter (λ o. not (is_among o.request l)) c.as_slice-kept.result.now;
      running = c.in_ok-running.running.items;
    } in
    x) c.as_slice-3.ensures.value
    ∙ ap (λ (l : List Observation). let x : Change = record {
      now = c.self.inside.moment;
      groups = c.in_ok-after.after ∷ [];
      kept = filter (λ o. not (is_among o.request c.in_ok-over.over.items)) l;
      running = c.in_ok-running.running.items;
    } in
    x) c.as_slice-kept.ensures)

pub returns-clause-reported : goal.returns-clause-reported
returns-clause-reported c = rw (← c.self.view_is) ((found c).does)

pub returns-clause-can : goal.returns-clause-can
returns-clause-can c = rw (← c.self.view_is) ((found c).can)

settled_is : (c : goal.After-drop-over-2)
    → c.in_ok-after.after ≡ settled_group c.args.number c.args.completes (progress_of c.self.inside) c.group_of_running-group.result.now
settled_is c = told_found (progress_of c.self.inside) c.args.number c.args.completes c.group_of_running-group.result.now c.in_ok-after.after
    c.in_ok-running.running.items (running_is c) (after_is c)

pub returns-clause-canceled : goal.returns-clause-canceled
returns-clause-canceled c =
    rw (← c.self.view_is)
    (c.from_vec.ensures ∙ c.in_ok-canceled.ensures
    ∙ ap (λ (g : Group). became (is_in Canceled) c.group_of_running-group.result.now.requests g.requests) (settled_is c)
    ∙ sym (told_canceled (progress_of c.self.inside) c.args.number c.args.completes c.group_of_running-group.result.now c.self.invariant.sound (there_is c)))

pub returns-clause-expired : goal.returns-clause-expired
returns-clause-expired c =
    rw (← c.self.view_is)
    (c.from_vec-2.ensures ∙ c.in_ok-expired.ensures
    ∙ ap (λ (g : Group). became (is_in WindowExpired) c.group_of_running-group.result.now.requests g.requests) (settled_is c)
    ∙ sym (told_expired (progress_of c.self.inside) c.args.number c.args.completes c.group_of_running-group.result.now c.self.invariant.sound (there_is c)))
