use Rattle.std.proofs.Common.{Bool, ◌≡◌, ◌∙◌, ◌++◌, ap, sym, List, filter, map, not}
use Rattle.plan_base.specs.declared.number.GroupNo.{GroupNo}
use Rattle.plan_base.specs.declared.number.RequestNo.{RequestNo}
use Rattle.desk_runs.specs.declared.group.Group.{Group}
use Rattle.desk_runs.specs.declared.observation.Observation.{Observation}
use Rattle.plan_base.specs.States.{is_over}
use Rattle.desk_runs.specs.States.{is_open}
use Rattle.desk_runs.specs.Clock.{has_begun, has_ended, became, settle, at_moment}
use Rattle.desk_runs.specs.Turning.{turned, is_touched, groups_of}
use Rattle.desk_runs.specs.Changes.{changed}
use Rattle.desk_runs.specs.Inside.{progress_of}
use Rattle.std.specs.List.{flat_map}
use Rattle.desk_runs.proofs.Expiring.{expired_only}
use Rattle.desk_runs.proofs.Opened.{open_in_range}
use Rattle.desk_runs.proofs.Moves.{is_among, found_groups, found_over, change_of, moved, told_over, can_move}
use Rattle.desk_runs.proofs.runs.Runs.clock.Goals as goal

pub expire-requires : goal.expire-requires
expire-requires c =
    let gs = c.self.inside.groups.items in
    let opened : c.as_slice-opened.result.now ≡ map (λ g. g.number) (filter is_open gs) = c.as_slice-opened.ensures.value ∙ c.self.invariant.opened in
    let groups : c.as_slice-3.result.now ≡ gs = c.as_slice-3.ensures.value in
    rw (opened, groups) (open_in_range gs c.self.invariant.sound.numbered.groups)

kept_first : (c : goal.After-drop-started-3)
    → c.in_ok-started.started.kept.items ≡ filter (λ o. not (has_begun c.self.inside.len c.args.now o)) c.self.inside.kept
kept_first c = c.in_ok-started.ensures.kept
    ∙ ap (λ (l : List Observation). filter (λ o. not (has_begun c.self.inside.len c.args.now o)) l) c.as_slice-kept.ensures

running_then : (c : goal.After-drop-started-3) → c.in_ok-stopped.stopped.running.items ≡ (settle (at_moment c.args.now (progress_of c.self.inside))).running
running_then c =
    let begins : Observation → Bool = has_begun c.self.inside.len c.args.now in
    c.in_ok-stopped.ensures.running
    ∙ ap (λ (l : List Observation). filter (λ o. not (has_ended c.self.inside.len c.args.now o)) l)
    (c.as_slice-2.ensures.value ∙ c.in_ok-started.ensures.running
    ∙ ap (λ (l : List Observation). l ++ filter begins c.as_slice-kept.result.now) c.as_slice.ensures
    ∙ ap (λ (l : List Observation). c.self.inside.running ++ filter begins l) c.as_slice-kept.ensures)

open_then : (c : goal.After-drop-started-3) → c.as_slice-opened.result.now ≡ map (λ g. g.number) (filter is_open c.self.inside.groups.items)
open_then c = c.as_slice-opened.ensures.value ∙ c.self.invariant.opened

groups_then : (c : goal.After-drop-started-3)
    → c.in_ok-expiry.expiry.groups.items ≡ found_groups c.in_ok-stopped.stopped.running.items c.args.now c.self.inside.groups.items
groups_then c =
    let found : List Observation → List Group → List GroupNo
    → List Group = λ running gs opened. map (turned running c.args.now) (filter (is_touched running c.args.now) (groups_of gs opened)) in
    c.in_ok-expiry.ensures.groups
    ∙ ap (λ (l : List Observation). found l c.as_slice-3.result.now c.as_slice-opened.result.now) c.as_slice-running.ensures.value
    ∙ ap (λ (l : List Group). found c.in_ok-stopped.stopped.running.items l c.as_slice-opened.result.now) c.as_slice-3.ensures.value
    ∙ ap (λ (l : List GroupNo). found c.in_ok-stopped.stopped.running.items c.self.inside.groups.items l) (open_then c)

over_then : (c : goal.After-drop-started-3)
    → c.in_ok-expiry.expiry.requests.items ≡ found_over c.in_ok-stopped.stopped.running.items c.args.now c.self.inside.groups.items
over_then c =
    let found : List Observation → List Group → List GroupNo
    → List RequestNo = λ running gs opened. flat_map
    (λ g. became is_over g.requests (turned running c.args.now g).requests) (groups_of gs opened) in
    c.in_ok-expiry.ensures.requests
    ∙ ap (λ (l : List Observation). found l c.as_slice-3.result.now c.as_slice-opened.result.now) c.as_slice-running.ensures.value
    ∙ ap (λ (l : List Group). found c.in_ok-stopped.stopped.running.items l c.as_slice-opened.result.now) c.as_slice-3.ensures.value
    ∙ ap (λ (l : List GroupNo). found c.in_ok-stopped.stopped.running.items c.self.inside.groups.items l) (open_then c)

kept_then : (c : goal.After-drop-started-3) → c.in_ok-kept.kept.items ≡ filter (λ o. not (is_among o.request c.in_ok-expiry.expiry.requests.items))
    (filter (λ o. not (has_begun c.self.inside.len c.args.now o)) c.self.inside.kept)
kept_then c =
    c.in_ok-kept.ensures ∙ ap (λ (l : List RequestNo). filter (λ o. not (is_among o.request l)) c.as_slice-4.result.now) c.as_slice-5.ensures.value
    ∙ ap (λ (l : List Observation). filter (λ o. not (is_among o.request c.in_ok-expiry.expiry.requests.items)) l) (c.as_slice-4.ensures.value ∙ kept_first c)

does : (c : goal.After-drop-started-3)
    → changed (progress_of c.self.inside) (change_of c.args.now c.from_vec-2.result c.from_vec-3.result c.from_vec-4.result)
    ≡ settle (at_moment c.args.now (progress_of c.self.inside))
does c =
    let same : c.from_vec-4.result ≡ c.in_ok-stopped.stopped.running.items = c.from_vec-4.ensures in
    moved (progress_of c.self.inside) c.args.now c.from_vec-3.result c.from_vec-4.result c.from_vec-2.result
    c.in_ok-expiry.expiry.requests.items c.self.invariant.sound
    (same ∙ running_then c)
    (c.from_vec-2.ensures ∙ groups_then c ∙ ap (λ (l : List Observation). found_groups l c.args.now c.self.inside.groups.items) (sym same))
    (over_then c ∙ ap (λ (l : List Observation). found_over l c.args.now c.self.inside.groups.items) (sym same))
    (c.from_vec-3.ensures ∙ kept_then c)

pub returns-clause-moved : goal.returns-clause-moved
returns-clause-moved c = rw (← c.self.view_is) (does c)

pub returns-clause-can : goal.returns-clause-can
returns-clause-can c =
    rw (← c.self.view_is) (can_move (progress_of c.self.inside) c.args.now
    (change_of c.args.now c.from_vec-2.result c.from_vec-3.result c.from_vec-4.result) c.self.invariant.sound (does c)
    (c.from_vec-2.ensures ∙ groups_then c ∙ ap (λ (l : List Observation). found_groups l c.args.now c.self.inside.groups.items) (running_then c)))

pub returns-clause-expired : goal.returns-clause-expired
returns-clause-expired c =
    rw (← c.self.view_is)
    (c.from_vec.ensures ∙ told_over (progress_of c.self.inside) c.args.now c.in_ok-stopped.stopped.running.items c.in_ok-expiry.expiry.requests.items
    c.self.invariant.sound (running_then c) (over_then c) ∙ expired_only (at_moment c.args.now (progress_of c.self.inside)))
