use Rattle.std.proofs.Common.{◌≡◌, ℕ, ◌≤◌, List, length, slice_index_or, vec_len, lit<, refl, sym, ap, subst, ◌∙◌, arith}
use Rattle.plan_base.specs.declared.claim.Placement.{Placement}
use Rattle.plan_base.specs.Starts.{value_of_plan}
use Rattle.board.specs.Seats.{view}
use Rattle.lanes.specs.Found.{FoundSeen, nothing}
use Rattle.lanes.specs.Searched.{IsSearched}
use Rattle.lanes.specs.Solving.{HasWorked, IsGathering}
use Rattle.lanes.proofs.Workers.{few_placed}
use Rattle.lanes.proofs.Starting.{searched_new}
use Rattle.lanes.proofs.Closed.{IsClosed, claim_planned, has_worked}
use Rattle.lanes.proofs.solve.plan_in_step.Goals as goal

pub value_of-value-requires-clause-few : goal.value_of-value-requires-clause-few
value_of-value-requires-clause-few g c =
    subst (λ (p : List Placement). length p ≤ 1024) (sym c.as_slice.ensures.value)
    (few_placed c.args.taken.now.snapshot c.in_ok-greedy.greedy.items c.recall_valid.ensures.orderly c.in_ok-greedy.ensures.feasible)

pub hold-requires : goal.hold-requires
hold-requires g c =
    subst (λ (p : List Placement). length p ≤ 1024) (sym c.as_slice-2.ensures.value)
    (few_placed c.args.taken.now.snapshot c.in_ok-greedy.greedy.items c.recall_valid.ensures.orderly c.in_ok-greedy.ensures.feasible)

pub gather-requires : goal.gather-requires
gather-requires g c =
    let s = c.args.taken.now.snapshot in
    let settings = c.args.taken.now.settings in
    let value = c.value_of-value.result in
    let plan = c.in_ok-greedy.greedy.items in
    let v = view c.workers_of.new.seat in
    let start : FoundSeen = record (nothing s value) { plan = plan } in
    let held : c.hold.new.self ≡ start =
    c.hold.ensures ∙ ap (λ (f : FoundSeen). record f { plan = c.as_slice-2.result.now }) c.in_ok-found.ensures
    ∙ ap (λ (p : List Placement). record (nothing s value) { plan = p }) c.as_slice-2.ensures.value in
    let count = c.work_all-workers.ensures.count in
    let many = c.in_ok-workers.ensures.count in
    let parts = c.in_ok-workers.ensures.parts in
    let gathering : IsGathering s settings start.value start.plan v start (vec_len c.work_all-workers.result) = record {
      parts = omega arith;
      searched = searched_new s settings value plan v start refl c.in_ok-workers.ensures.unused c.in_ok-greedy.ensures.feasible;
      most = omega arith;
      none_yet = λ all. c.in_ok-workers.ensures.unused.claims;
      ended = λ less. absurd (omega arith);
    } in
    let length_new = c.work_all-workers.result.ok.0 in
    let length_old = c.in_ok-workers.workers.ok.0 in (
      lit< tt,
      (
        c.in_ok-workers.ensures.seat,
        (
          subst (λ (f : FoundSeen). IsGathering s settings f.value f.plan v f (vec_len c.work_all-workers.result)) (sym held) gathering,
          (
            λ i d lt. (c.work_all-workers.ensures.each i d (omega arith)).seat,
            λ i d lt. subst (λ (f : FoundSeen). HasWorked g.row.L s settings f.value (slice_index_or c.work_all-workers.result.items i d)) (sym held)
                (has_worked g.row.L c.in_ok-board.board s settings value (slice_index_or c.in_ok-workers.workers.items i d)
                (slice_index_or c.work_all-workers.result.items i d)
                (c.in_ok-workers.ensures.workers i d (omega arith)) (c.work_all-workers.ensures.each i d (omega arith))),
          ),
        ),
      ),
    )

pub returns : goal.returns
returns g c =
    let s = c.args.taken.now.snapshot in
    let settings = c.args.taken.now.settings in
    let plan = c.in_ok-greedy.greedy.items in
    let v = view c.gather.new.seat in
    let f = c.gather.new.found in
    let worth : c.hold.new.self.value ≡ value_of_plan s plan =
    ap (λ (x : FoundSeen). x.value) c.hold.ensures ∙ ap (λ (x : FoundSeen). x.value) c.in_ok-found.ensures ∙ c.value_of-value.ensures
    ∙ ap (λ (p : List Placement). value_of_plan s p) c.as_slice.ensures.value in
    let held : c.hold.new.self.plan ≡ plan = ap (λ (x : FoundSeen). x.plan) c.hold.ensures ∙ c.as_slice-2.ensures.value in
    let searched : IsSearched s settings (value_of_plan s plan) plan v f =
    subst (λ (n : ℕ). IsSearched s settings n plan v f) worth
    (subst (λ (p : List Placement). IsSearched s settings c.hold.new.self.value p v f) held c.gather.ensures.gathered.searched) in
    let some = c.requires.settings.some_workers in
    let closed : IsClosed v = record {
      bound = (let e = c.close.ensures.bound in let m = c.close.ensures.seen.0 in omega arith);
      value = (let e = c.close.ensures.value in let m = c.close.ensures.seen.1 in omega arith);
      count = c.close.result.claimed;
      claimed = c.close.ensures.claimed;
    } in
    let made = c.into_claim.ensures in
    claim_planned s settings plan v f c.recall_valid.ensures.orderly c.requires.settings c.in_ok-greedy.ensures.greedy searched
    (c.gather.ensures.gathered.ended (omega arith)) closed
    c.into_claim.result made.bound made.prices made.quota_prices made.value made.same made.rising
