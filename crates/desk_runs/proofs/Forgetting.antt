-- What is left where the group that was added last is taken away again.
use Rattle.std.proofs.Common.{◌≡◌, ℕ, ◌+◌, ◌-◌, ◌≤◌, List, [], ◌∷◌, ◌++◌, length, map, filter, get_or, take, replicate, refl, sym, ◌∙◌, ap, subst, arith}
use Rattle.std.proofs.Math.Seq.{take-append_seam}
use Rattle.std.proofs.lemmas.List.{length-append, length-replicate}
use Rattle.plan_base.specs.declared.number.GroupNo.{GroupNo}
use Rattle.desk_runs.specs.declared.group.Group.{Group}
use Rattle.desk_runs.specs.declared.runs.Runs.TheInside.{Inside}
use Rattle.desk_runs.specs.States.{is_open}
use Rattle.desk_runs.specs.Numbers.{requests_of}
use Rattle.desk_runs.specs.Owners.{owners_from, pending_count}
use Rattle.desk_runs.specs.Progress.{Progress}
use Rattle.desk_runs.specs.Adding.{next_group, with_group, IsOneMore}
use Rattle.desk_runs.specs.Inside.{progress_of, IsRuns}
use Rattle.desk_runs.proofs.Counts.{pending_more}
use Rattle.desk_runs.proofs.Adding.{opened_more, owners_more, requests_more, groups_more, asked_length}

-- what is found before anything is taken away: how many groups and requests there are, and how many were added
pub record Last (a : Inside) (before : Progress) (size : ℕ) : Type 0 where
  pub groups : length a.groups.items ≡ length before.groups + 1
  pub front : take (length a.groups.items - 1) a.groups.items ≡ before.groups
  pub each : (d : Group) → length (get_or a.groups.items (length a.groups.items - 1) d).requests ≡ size
  pub owned : size ≤ length a.owners.items
  pub owners : take (length a.owners.items - size) a.owners.items ≡ owners_from 0 before.groups
  pub opened : take (length a.opened.items - 1) a.opened.items ≡ map (λ g. g.number) (filter is_open before.groups)
  pub pending : a.pending ≡ pending_count before.groups + size
  pub requests : length (requests_of a.groups.items) ≡ length (requests_of before.groups) + size

pub last_of : (a : Inside) (before : Progress) → IsRuns a → (m : IsOneMore before (progress_of a)) → Last a before (length m.asks)
last_of a before r m =
    let g : Group = next_group m.op m.asks before in
    let gs : List Group = (with_group m.op m.asks before).groups in
    let are : a.groups.items ≡ gs = ap (λ (p : Progress). p.groups) m.added in
    let many : length gs ≡ length before.groups + 1 = groups_more m.op m.asks before in
    let count : length a.groups.items ≡ length before.groups + 1 = ap length are ∙ many in
    let asked : length g.requests ≡ length m.asks = asked_length (length (requests_of before.groups) + 1) m.asks in
    let place : length a.groups.items - 1 ≡ length before.groups = omega arith in
    let owners : a.owners.items ≡ owners_from 0 before.groups ++ replicate (length g.requests) (0 + length before.groups) = r.owners
    ∙ ap (owners_from 0) are ∙ owners_more 0 before.groups g in
    let owned : length a.owners.items ≡ length (owners_from 0 before.groups) + length m.asks =
    ap length owners ∙ length-append (owners_from 0 before.groups) (replicate (length g.requests) (0 + length before.groups))
    ∙ ap (λ (n : ℕ). length (owners_from 0 before.groups) + n) (length-replicate (length g.requests) (0 + length before.groups) ∙ asked) in
    let opened : a.opened.items ≡ map (λ x. x.number) (filter is_open before.groups) ++ g.number ∷ [] =
    r.opened ∙ ap (λ (l : List Group). map (λ x. x.number) (filter is_open l)) are ∙ opened_more m.op m.asks before m.some in
    record {
      groups = count;
      front = ap (λ (n : ℕ). take n a.groups.items) place ∙ ap (take (length before.groups)) are ∙ take-append_seam before.groups (g ∷ []);
      each = λ d.
          ap (λ (n : ℕ). length (get_or a.groups.items n d).requests) place ∙ ap (λ (l : List Group). length (get_or l (length before.groups) d).requests) are
          ∙ ap (λ (x : Group). length x.requests) (at_last before.groups g d) ∙ asked;
      owned = omega (arith, owned);
      owners =
          let left : length a.owners.items - length m.asks ≡ length (owners_from 0 before.groups) = omega (arith, owned) in
          ap (λ (n : ℕ). take n a.owners.items) left ∙ ap (take (length (owners_from 0 before.groups))) owners
          ∙ take-append_seam (owners_from 0 before.groups) (replicate (length g.requests) (0 + length before.groups));
      opened =
          let numbers : List GroupNo = map (λ x. x.number) (filter is_open before.groups) in
          let more : length a.opened.items ≡ length numbers + 1 = ap length opened ∙ length-append numbers (g.number ∷ []) in
          let left : length a.opened.items - 1 ≡ length numbers = omega (arith, more) in
          ap (λ (n : ℕ). take n a.opened.items) left ∙ ap (take (length numbers)) opened ∙ take-append_seam numbers (g.number ∷ []);
      pending = r.pending ∙ ap pending_count are ∙ pending_more m.op m.asks before;
      requests = ap (λ (l : List Group). length (requests_of l)) are ∙ requests_more m.op m.asks before;
    }
  where
    at_last : (xs : List Group) (x d : Group) → get_or (xs ++ x ∷ []) (length xs) d ≡ x
    at_last [] x d = refl
    at_last (y ∷ ys) x d = at_last ys x d

-- the same, as it is found
pub found_last : (a : Inside) (s before : Progress) (groups : List Group) (g : Group) (size : ℕ) → IsRuns a → progress_of a ≡ s → IsOneMore before s
    → groups ≡ a.groups.items → g ≡ get_or a.groups.items (length groups - 1) g → size ≡ length g.requests
    → Last a before size
found_last a s before groups g size r e m same at n =
    let found = last_of a before r (subst (IsOneMore before) (sym e) m) in
    let here : g ≡ get_or a.groups.items (length a.groups.items - 1) g = at ∙ ap (λ (l : List Group). get_or a.groups.items (length l - 1) g) same in
    subst (Last a before) (sym (n ∙ ap (λ (x : Group). length x.requests) here ∙ found.each g)) found

-- what is left is the state before
pub left_of : (s before : Progress) (groups : List Group) → IsOneMore before s → groups ≡ before.groups → record s { groups = groups } ≡ before
left_of s before groups m e =
    ap (λ (l : List Group). let p : Progress = record s { groups = l } in p) e
    ∙ ap (λ (p : Progress). let q : Progress = record p { groups = before.groups } in q) m.added
