use Rattle.std.proofs.Common.{◌≡◌, ◌∙◌, Some, ap, sym, subst, List, [], ◌∷◌, filter, not}
use Rattle.plan_base.specs.declared.number.RequestNo.{RequestNo}
use Rattle.desk_runs.specs.declared.change.Change.{Change}
use Rattle.desk_runs.specs.declared.group.Group.{Group}
use Rattle.desk_runs.specs.declared.observation.Observation.{Observation}
use Rattle.desk_runs.specs.Numbers.{group_at}
use Rattle.desk_runs.specs.Progress.{Progress}
use Rattle.desk_runs.specs.Turning.{group_of}
use Rattle.desk_runs.specs.Inside.{progress_of}
use Rattle.desk_runs.specs.Sound.{IsLater, IsWithdrawable}
use Rattle.desk_runs.proofs.Later.{later_canceled}
use Rattle.desk_runs.proofs.Known.{IsKnown, known_there}
use Rattle.desk_runs.proofs.Moves.{is_among}
use Rattle.desk_runs.proofs.Withdrawn.{withdrawal_found, idle_found, IsWithdrawal}
use Rattle.desk_runs.proofs.runs.Runs.withdraw.Goals as goal

pub known-group-requires : goal.known-group-requires
known-group-requires c =
    let known : IsKnown c.args.self.now.groups c.args.number c.requires.group =
    known_there c.args.self.now.groups c.args.number c.requires.group c.now.ensures.sound.numbered.groups c.requires.there in
    (known.low, known.high)

pub over_of-requires : goal.over_of-requires
over_of-requires c = subst (IsLater c.known-group.result.now) (sym c.in_ok-after.ensures) (later_canceled c.known-group.result.now)

found : (c : goal.After-drop-over-2) → IsWithdrawal (progress_of c.self.inside) c.args.number c.in_ok-change.change
found c =
    let s : Progress = progress_of c.self.inside in
    let g : Group = c.known-group.result.now in
    let may : IsWithdrawable c.args.number s = subst (IsWithdrawable c.args.number) (sym c.self.view_is) c.requires in
    let known : IsKnown s.groups c.args.number may.group = known_there s.groups c.args.number may.group c.self.invariant.sound.numbered.groups may.there in
    let stands : g ≡ group_of s.groups c.args.number =
    subst (λ (p : Progress). g ≡ group_of p.groups c.args.number) (sym c.self.view_is) c.known-group.ensures in
    let there : group_at s.groups c.args.number ≡ Some g = may.there ∙ ap Some (sym (stands ∙ known.is)) in
    withdrawal_found s c.args.number g c.in_ok-after.after c.in_ok-over.over.items c.in_ok-running.running.items c.in_ok-change.change
    c.self.invariant.sound there (idle_found s c.args.number g may there)
    c.in_ok-after.ensures c.in_ok-over.ensures (c.in_ok-running.ensures.items ∙ c.as_slice.ensures)
    (c.in_ok-change.ensures
    ∙ ap (λ (l : List RequestNo). let x : Change = record {
      now = c.self.inside.moment;
      groups = c.in_ok-after.after ∷ [];
      kept = filter (λ o. not (is_among o.request l)) c.as_slice-kept.result.now;
      running = c.in_ok-running.running.items;
    } in
    x) c.as_slice-2.ensures.value
    ∙ ap (λ (l : List Observation). let x : Change = record {
      now = c.self.inside.moment;
      groups = c.in_ok-after.after ∷ [];
      kept = filter (λ o. not (is_among o.request c.in_ok-over.over.items)) l;
      running = c.in_ok-running.running.items;
    } in
    x) c.as_slice-kept.ensures)

pub returns-clause-withdrawn : goal.returns-clause-withdrawn
returns-clause-withdrawn c = rw (← c.self.view_is) ((found c).does)

pub returns-clause-can : goal.returns-clause-can
returns-clause-can c = rw (← c.self.view_is) ((found c).can)
