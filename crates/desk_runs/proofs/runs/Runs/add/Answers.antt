use Rattle.std.proofs.Common.{◌≡◌, ◌∙◌, ◌+◌, ◌<◌, ◌^◌, ◌++◌, ◌∷◌, [], ℕ, List, length, map, filter, replicate, ap, sym, subst, arith}
use Rattle.std.proofs.lemmas.Grind.{common_steps}
use Rattle.plan_base.specs.declared.number.GroupNo.{GroupNo}
use Rattle.desk_runs.specs.declared.group.Group.{Group}
use Rattle.desk_runs.specs.declared.group.Request.{Request}
use Rattle.desk_runs.specs.States.{is_open}
use Rattle.desk_runs.specs.Numbers.{requests_of}
use Rattle.desk_runs.specs.Progress.{Progress}
use Rattle.desk_runs.specs.Adding.{requests_from, next_group, with_group}
use Rattle.desk_runs.specs.Owners.{owners_from, pending_count}
use Rattle.desk_runs.specs.Inside.{progress_of}
use Rattle.desk_runs.specs.Sound.{IsSound}
use Rattle.desk_runs.proofs.Places.{owners_length}
use Rattle.desk_runs.proofs.Counts.{pending_more}
use Rattle.desk_runs.proofs.Adding.{added_sound, opened_more, owners_more, requests_more, groups_more, asked_length}
use Rattle.desk_runs.proofs.runs.Runs.add.Goals as goal

pub overflow_cast-first : goal.overflow_cast-first
overflow_cast-first c =
    let many : length c.as_slice.result.now ≡ length (requests_of c.self.inside.groups.items) = ap length c.as_slice.ensures.value
    ∙ ap length c.self.invariant.owners ∙ owners_length 0 c.self.inside.groups.items in
    let few : length (requests_of c.self.inside.groups.items) + length c.args.asks.now < 2 ^ 32 = rw (← c.self.view_is) at c.requires.few in
    omega arith

pub overflow_add-first : goal.overflow_add-first
overflow_add-first c =
    let many : length c.as_slice.result.now ≡ length (requests_of c.self.inside.groups.items) = ap length c.as_slice.ensures.value
    ∙ ap length c.self.invariant.owners ∙ owners_length 0 c.self.inside.groups.items in
    let few : length (requests_of c.self.inside.groups.items) + length c.args.asks.now < 2 ^ 32 = rw (← c.self.view_is) at c.requires.few in
    omega (arith, c.requires.some)

pub pending_requests-requires : goal.pending_requests-requires
pending_requests-requires c =
    let many : length c.as_slice.result.now ≡ length (requests_of c.self.inside.groups.items) = ap length c.as_slice.ensures.value
    ∙ ap length c.self.invariant.owners ∙ owners_length 0 c.self.inside.groups.items in
    let few : length (requests_of c.self.inside.groups.items) + length c.args.asks.now < 2 ^ 32 = rw (← c.self.view_is) at c.requires.few in
    omega arith

pub push_owners-requires : goal.push_owners-requires
push_owners-requires c =
    let many : length c.self.inside.owners.items ≡ length (requests_of c.self.inside.groups.items) = ap length c.self.invariant.owners
    ∙ owners_length 0 c.self.inside.groups.items in
    let few : length (requests_of c.self.inside.groups.items) + length c.args.asks.now < 2 ^ 32 = rw (← c.self.view_is) at c.requires.few in
    omega arith

pub invariant_of-self : goal.invariant_of-self
invariant_of-self c =
    let inside = c.self.inside in
    let same : inside.groups.items ≡ c.reserve.new.self.items = sym c.in_err-reserve.ensures.items in
    record {
      sound = subst (λ (l : List Group). IsSound
          (record { len = inside.len; moment = inside.moment; groups = l; kept = inside.kept; running = inside.running }))
          same c.self.invariant.sound;
      opened = c.self.invariant.opened ∙ ap (λ (l : List Group). map (λ g. g.number) (filter is_open l)) same;
      owners = c.self.invariant.owners ∙ ap (owners_from 0) same;
      pending = c.self.invariant.pending ∙ ap pending_count same;
      few_groups = subst (λ (l : List Group). length l < 2 ^ 32) same c.self.invariant.few_groups;
      few_requests = subst (λ (l : List Group). length (requests_of l) < 2 ^ 32) same c.self.invariant.few_requests;
    }

groups_are : (c : goal.After-push_reserved-2) → c.push_reserved-2.new.self.items ≡ (with_group c.args.op c.args.asks.now (progress_of c.self.inside)).groups
groups_are c =
    let gs = c.self.inside.groups.items in
    let count : length c.as_slice-place.result.now ≡ length gs = ap length c.as_slice-place.ensures.value in
    let many : length c.as_slice.result.now ≡ length (requests_of gs) = ap length c.as_slice.ensures.value
    ∙ ap length c.self.invariant.owners ∙ owners_length 0 gs in
    let requests : c.in_ok-requests.requests ≡ requests_from (length (requests_of gs) + 1) c.args.asks.now = c.in_ok-requests.ensures
    ∙ ap (λ (n : ℕ). requests_from (n + 1) c.args.asks.now) many in
    c.push_reserved-2.ensures.items
    ∙ ap (λ (l : List Group). l ++ record {
      number = record { 0 = length c.as_slice-place.result.now + 1 };
      op = c.args.op;
      requests = c.in_ok-requests.requests;
    } ∷ []) c.in_ok-reserve.ensures.items
    ∙ ap (λ (n : ℕ). let l : List Group = gs ++ record { number = record { 0 = n + 1 }; op = c.args.op; requests = c.in_ok-requests.requests } ∷ [] in l) count
    ∙ ap (λ (rs : List Request). let l : List Group = gs ++ record { number = record { 0 = length gs + 1 }; op = c.args.op; requests = rs } ∷ [] in l) requests

pub invariant_of-self-2 : goal.invariant_of-self-2
invariant_of-self-2 c =
    let inside = c.self.inside in
    let s : Progress = progress_of inside in
    let op = c.args.op in
    let asks = c.args.asks.now in
    let gs = inside.groups.items in
    let g : Group = next_group op asks s in
    let are = sym (groups_are c) in
    let count : length c.as_slice-place.result.now ≡ length gs = ap length c.as_slice-place.ensures.value in
    let sound : IsSound (with_group op asks s) = added_sound op asks s c.self.invariant.sound (rw (← c.self.view_is) at c.requires.late) in
    let few : length (requests_of gs) + length asks < 2 ^ 32 = rw (← c.self.view_is) at c.requires.few in
    let few_too : length gs + 1 < 2 ^ 32 = rw (← c.self.view_is) at c.requires.few_groups in
    let opened : c.push_reserved.new.self.items ≡ map (λ x. x.number) (filter is_open gs) ++ g.number ∷ [] =
    c.push_reserved.ensures.items ∙ ap (λ (l : List GroupNo). l ++ record { 0 = length c.as_slice-place.result.now + 1 } ∷ [])
    (c.in_ok-reserve-2.ensures.items ∙ c.self.invariant.opened)
    ∙ ap (λ (n : ℕ). let l : List GroupNo = map (λ x. x.number) (filter is_open gs) ++ record { 0 = n + 1 } ∷ [] in l) count in
    let owners : c.push_owners.new.owners.items ≡ owners_from 0 gs ++ replicate (length g.requests) (0 + length gs) =
    c.in_ok-push_owners.ensures.ok ∙ ap (λ (l : List ℕ). l ++ replicate (length asks) (length c.as_slice-place.result.now)) c.self.invariant.owners
    ∙ ap (λ (n : ℕ). owners_from 0 gs ++ replicate (length asks) n) count
    ∙ ap (λ (n : ℕ). owners_from 0 gs ++ replicate n (length gs)) (sym (asked_length (length (requests_of gs) + 1) asks))
    ∙ ap (λ (n : ℕ). owners_from 0 gs ++ replicate (length g.requests) n) (from_zero (length gs)) in
    record {
      sound = subst (λ (l : List Group). IsSound
          (record { len = inside.len; moment = inside.moment; groups = l; kept = inside.kept; running = inside.running })) are sound;
      opened = opened ∙ sym (opened_more op asks s c.requires.some) ∙ ap (λ (l : List Group). map (λ x. x.number) (filter is_open l)) are;
      owners = owners ∙ sym (owners_more 0 gs g) ∙ ap (owners_from 0) are;
      pending = ap (λ (n : ℕ). n + length asks) c.self.invariant.pending ∙ sym (pending_more op asks s) ∙ ap pending_count are;
      few_groups = subst (λ (l : List Group). length l < 2 ^ 32) are (subst (λ (n : ℕ). n < 2 ^ 32) (sym (groups_more op asks s)) few_too);
      few_requests = subst (λ (l : List Group). length (requests_of l) < 2 ^ 32) are (subst (λ (n : ℕ). n < 2 ^ 32) (sym (requests_more op asks s)) few);
    }
  where
    from_zero : (n : ℕ) → n ≡ 0 + n
    from_zero n = omega arith

pub returns-clause-added : goal.returns-clause-added
returns-clause-added c =
    ap (λ (l : List Group). let p : Progress = record {
      len = c.self.inside.len;
      moment = c.self.inside.moment;
      groups = l;
      kept = c.self.inside.kept;
      running = c.self.inside.running;
    } in p) (groups_are c)
    ∙ ap (with_group c.args.op c.args.asks.now) c.self.view_is

pub overflow_add-self : goal.overflow_add-self
overflow_add-self c = grind (arith, common_steps)
