use Rattle.std.proofs.Common.{◌≡◌, ◌∙◌, ◌<◌, ◌^◌, ap, sym, subst, ℕ, List, length, filter, map, sum_by}
use Rattle.std.specs.List.{fold}
use Rattle.desk_runs.specs.declared.group.Group.{Group}
use Rattle.desk_runs.specs.States.{is_open}
use Rattle.desk_runs.specs.Numbers.{requests_of}
use Rattle.desk_runs.specs.Owners.{owners_from, pending_of, pending_count}
use Rattle.desk_runs.specs.Changes.{put}
use Rattle.desk_runs.specs.Turning.{group_of, is_open_at}
use Rattle.desk_runs.specs.Inside.{progress_of}
use Rattle.desk_runs.specs.Sound.{IsSound, CanChange}
use Rattle.desk_runs.proofs.Later.{owners_later}
use Rattle.desk_runs.proofs.Opened.{opened_after, as_many, as_many_requests}
use Rattle.desk_runs.proofs.Counts.{Recounted, recounted}
use Rattle.desk_runs.proofs.runs.Runs.make.Goals as goal

-- the groups after the change
abbrev after : goal.After-as_slice-3 → List Group
after c = fold put c.self.inside.groups.items c.args.change.groups

can : (c : goal.After-as_slice-3) → CanChange (progress_of c.self.inside) c.args.change
can c = rw (← c.self.view_is) at c.requires

are : (c : goal.After-as_slice-3) → c.put_groups.new.groups.items ≡ after c
are c = c.put_groups.ensures ∙ ap (λ l. fold put c.self.inside.groups.items l) c.into_vec.ensures

kept : (c : goal.After-as_slice-3) → c.keep_open.new.numbers.items ≡ filter (is_open_at (after c)) c.self.inside.opened.items
kept c = c.keep_open.ensures ∙ ap (λ l. filter (is_open_at l) c.self.inside.opened.items) (c.as_slice.ensures.value ∙ are c)

-- what is counted of them
recount : (c : goal.After-as_slice-3) → Recounted c.as_slice-2.result.now c.as_slice-3.result.now
recount c =
    subst (λ (l : List Group). Recounted l c.as_slice-3.result.now) (sym (c.as_slice-2.ensures.value ∙ are c))
    (recounted c.self.inside.groups.items (after c) c.self.inside.opened.items c.as_slice-3.result.now (can c).later
    (can c).sound.numbered c.self.invariant.few_requests c.self.invariant.opened (c.as_slice-3.ensures.value ∙ kept c))

pub count_pending-self-inside-requires-clause-there : goal.count_pending-self-inside-requires-clause-there
count_pending-self-inside-requires-clause-there c = (recount c).there

pub count_pending-self-inside-requires-clause-few : goal.count_pending-self-inside-requires-clause-few
count_pending-self-inside-requires-clause-few c = (recount c).few

pub invariant_of-self : goal.invariant_of-self
invariant_of-self c =
    let inside = c.self.inside in
    let gs = inside.groups.items in
    let can : CanChange (progress_of inside) c.args.change = rw (← c.self.view_is) at c.requires in
    let hs : List Group = fold put gs c.args.change.groups in
    let are : c.put_groups.new.groups.items ≡ hs = c.put_groups.ensures ∙ ap (λ l. fold put gs l) c.into_vec.ensures in
    let kept : c.keep_open.new.numbers.items ≡ filter (is_open_at hs) inside.opened.items = c.keep_open.ensures
    ∙ ap (λ l. filter (is_open_at l) inside.opened.items) (c.as_slice.ensures.value ∙ are) in
    let counted : Recounted hs c.as_slice-3.result.now =
    recounted gs hs inside.opened.items c.as_slice-3.result.now can.later can.sound.numbered c.self.invariant.few_requests c.self.invariant.opened
    (c.as_slice-3.ensures.value ∙ kept) in
    record {
      sound = subst (λ (l : List Group). IsSound
          (record { len = inside.len; moment = c.args.change.now; groups = l; kept = c.args.change.kept; running = c.args.change.running }))
          (sym are) can.sound;
      opened = opened_after gs hs inside.opened.items c.keep_open.new.numbers.items can.later can.sound.numbered c.self.invariant.opened kept
          ∙ ap (λ l. map (λ g. g.number) (filter is_open l)) (sym are);
      owners = c.self.invariant.owners ∙ sym (owners_later 0 gs hs can.later) ∙ ap (λ l. owners_from 0 l) (sym are);
      pending =
          c.count_pending-self-inside.ensures
          ∙ ap (λ (l : List Group). sum_by (λ n. pending_of (group_of l n)) c.as_slice-3.result.now) (c.as_slice-2.ensures.value ∙ are)
          ∙ counted.all ∙ ap pending_count (sym are);
      few_groups = subst (λ (l : List Group). length l < 2 ^ 32) (sym are)
          (subst (λ (n : ℕ). n < 2 ^ 32) (sym (as_many gs hs can.later)) c.self.invariant.few_groups);
      few_requests = subst (λ (l : List Group). length (requests_of l) < 2 ^ 32) (sym are)
          (subst (λ (n : ℕ). n < 2 ^ 32) (sym (as_many_requests gs hs can.later)) c.self.invariant.few_requests);
    }
