use Rattle.std.proofs.Common.{◌≡◌, ◌∙◌, ◌+◌, ◌-◌, ◌<◌, ◌≤◌, ◌^◌, ap, sym, subst, ℕ, List, length, filter, map, take, vec_len, arith}
use Rattle.std.proofs.lemmas.Grind.{common_steps}
use Rattle.desk_runs.specs.declared.group.Group.{Group}
use Rattle.desk_runs.specs.States.{is_open}
use Rattle.desk_runs.specs.Numbers.{requests_of}
use Rattle.desk_runs.specs.Owners.{owners_from, pending_count}
use Rattle.desk_runs.specs.Progress.{Progress}
use Rattle.desk_runs.specs.Adding.{IsOneMore}
use Rattle.desk_runs.specs.Inside.{progress_of}
use Rattle.desk_runs.specs.Sound.{IsSound}
use Rattle.desk_runs.proofs.Forgetting.{Last, found_last, left_of}
use Rattle.desk_runs.proofs.runs.Runs.forget_last.Goals as goal

pub overflow_sub-requests : goal.overflow_sub-requests
overflow_sub-requests c =
    let last : Last c.self.inside c.requires.0 c.len-count.result =
    found_last c.self.inside c.args.self.now c.requires.0 c.as_slice.result.now c.index.result.now c.len-count.result c.self.invariant
    c.self.view_is c.requires.1 c.as_slice.ensures.value c.index.ensures c.len-count.ensures in
    let owned : c.len-count.result ≤ length c.self.inside.owners.items = last.owned in
    let same : length c.as_slice-2.result.now ≡ length c.self.inside.owners.items = ap length c.as_slice-2.ensures.value in
    omega (arith, owned, same)

pub overflow_sub-self : goal.overflow_sub-self
overflow_sub-self c =
    let last : Last c.self.inside c.requires.0 c.len-count.result =
    found_last c.self.inside c.args.self.now c.requires.0 c.as_slice.result.now c.index.result.now c.len-count.result c.self.invariant
    c.self.view_is c.requires.1 c.as_slice.ensures.value c.index.ensures c.len-count.ensures in
    let pending : c.self.inside.pending ≡ pending_count c.requires.0.groups + c.len-count.result = last.pending in
    omega (arith, pending)

pub invariant_of-self : goal.invariant_of-self
invariant_of-self c =
    let a = c.self.inside in
    let before : Progress = c.requires.0 in
    let more : IsOneMore before c.args.self.now = c.requires.1 in
    let last : Last a before c.len-count.result =
    found_last a c.args.self.now before c.as_slice.result.now c.index.result.now c.len-count.result c.self.invariant c.self.view_is more
    c.as_slice.ensures.value c.index.ensures c.len-count.ensures in
    let are : c.truncate.new.self.items ≡ before.groups = c.truncate.ensures.items
    ∙ ap (λ (l : List Group). take (length l - 1) a.groups.items) c.as_slice.ensures.value ∙ last.front in
    let state : record (progress_of a) { groups = c.truncate.new.self.items } ≡ before =
    left_of (progress_of a) before c.truncate.new.self.items (subst (IsOneMore before) (sym c.self.view_is) more) are in
    record {
      sound = subst IsSound (sym state) more.sound;
      opened =
          let many : vec_len a.opened - 1 ≡ length a.opened.items - 1 = omega (arith, a.opened.ok.0) in
          c.pop.ensures.rest ∙ ap (λ (n : ℕ). take n a.opened.items) many ∙ last.opened
          ∙ ap (λ (l : List Group). map (λ g. g.number) (filter is_open l)) (sym are);
      owners = c.truncate-2.ensures.items ∙ ap (λ (l : List ℕ). take (length l - c.len-count.result) a.owners.items) c.as_slice-2.ensures.value
          ∙ last.owners ∙ ap (owners_from 0) (sym are);
      pending = let pending : a.pending ≡ pending_count before.groups + c.len-count.result = last.pending in
          let left : a.pending - c.len-count.result ≡ pending_count before.groups = omega (arith, pending) in left ∙ ap pending_count (sym are);
      few_groups = let many : length a.groups.items ≡ length before.groups + 1 = last.groups in
          subst (λ (l : List Group). length l < 2 ^ 32) (sym are) (omega (arith, many, c.self.invariant.few_groups));
      few_requests =
          let many : length (requests_of a.groups.items) ≡ length (requests_of before.groups) + c.len-count.result = last.requests in
          subst (λ (l : List Group). length (requests_of l) < 2 ^ 32) (sym are) (omega (arith, many, c.self.invariant.few_requests));
    }

pub overflow_sub-place : goal.overflow_sub-place
overflow_sub-place c = grind (arith, common_steps)

pub index-requires : goal.index-requires
index-requires c = grind (arith, common_steps)

pub returns : goal.returns
returns c = grind (arith, common_steps)
