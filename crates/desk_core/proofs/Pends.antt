-- A reported request is pending.
use Rattle.std.proofs.Common.{◌≡◌, ℕ, ◌+◌, ◌<◌, ◌≤◌, Bool, true, false, cond, List, [], ◌∷◌, length, map, refl, sym, ◌∙◌, ap, subst, arith, inl, inr}
use Rattle.std.proofs.Common.{◌⊎◌, Option, Some, None}
use Rattle.std.specs.List.{zip, find, list_any}
use Rattle.std.proofs.lemmas.Bool.{and_parts, or_cases, eqb-true}
use Rattle.plan_base.specs.declared.number.RequestNo.{RequestNo}
use Rattle.plan_base.specs.States.{is_pending}
use Rattle.desk_runs.specs.declared.group.Group.{Group}
use Rattle.desk_runs.specs.declared.group.Request.{Request}
use Rattle.desk_runs.specs.Numbers.{requests_of, is_request, has_request, group_with, is_pending_at}
use Rattle.desk_runs.proofs.Known.{pending_found}
use Rattle.desk_runs.proofs.Places.{IsCountedFrom, counted_head, counted_tail, front_of, back_of, with_none}
use Rattle.desk_runs.proofs.Reporting.{pending_has}
use Rattle.desk_runs.proofs.Sounds.{is_pending_request, has_pending}
use Rattle.desk_core.specs.declared.desk.Wanted.{Wanted}

pub pair_parts : (x q : Request) (w v : Wanted) → (let a : Option (Request × Wanted) = Some (x, w) in a) ≡ Some (q, v) → (x ≡ q) × (w ≡ v)
pair_parts x q w v e =
    let a : Request × Wanted = (x, w) in
    let b : Request × Wanted = (q, v) in
    let same : a ≡ b = cc in
    (ap (λ (p : Request × Wanted). p.0) same, ap (λ (p : Request × Wanted). p.1) same)

has_high : (b : ℕ) (n : RequestNo) (qs : List Request) → IsCountedFrom b (map (λ q. q.number.0) qs) → list_any (is_request n) qs ≡ true
    → (b < n.0) × (n.0 ≤ b + length qs)
has_high b n [] c e = cc
has_high b n (q ∷ qs) c e =
    let first : q.number.0 ≡ b + 1 = counted_head b q.number.0 (map (λ x. x.number.0) qs) c in
    elim (or_cases (is_request n q) (list_any (is_request n) qs) e) [
      | inl here ↦ let same : q.number.0 ≡ n.0 = eqb-true q.number.0 n.0 here in (omega arith, omega arith)
      | inr later ↦
          let rest = has_high (b + 1) n qs (counted_tail b q.number.0 (map (λ x. x.number.0) qs) c) later in
          let low : b + 1 < n.0 = rest.0 in
          let high : n.0 ≤ b + 1 + length qs = rest.1 in
          (omega arith, omega arith)
    ]

-- in the group that has it, whose requests are numbered from some number on
pub record Pends (n : RequestNo) (g : Group) : Type 0 where
  pub from : ℕ
  pub counted : IsCountedFrom from (map (λ q. q.number.0) g.requests)
  pub pends : has_pending n g ≡ true

pub pend_in : (b : ℕ) (gs : List Group) (n : RequestNo) (g : Group) → IsCountedFrom b (map (λ q. q.number.0) (requests_of gs)) → group_with gs n ≡ Some g
    → is_pending_at gs n ≡ true → Pends n g
pend_in b [] n g c known e = cc
pend_in b (x ∷ gs) n g c known e = by (has_request n x) refl known (or_cases (has_pending n x) (is_pending_at gs n) e)
    (λ k p. pend_in (b + length x.requests) gs n g (back_of b x gs c) k p)
  where
    by : (v : Bool) → has_request n x ≡ v → cond v (Some x) (group_with gs n) ≡ Some g → (has_pending n x ≡ true) ⊎ (is_pending_at gs n ≡ true)
        → (group_with gs n ≡ Some g → is_pending_at gs n ≡ true → Pends n g) → Pends n g
    by true is k (inl here) rest = let same : x ≡ g = cc in subst (Pends n) same (record { from = b; counted = front_of b x gs c; pends = here })
    by true is k (inr later) rest =
        let found = pending_found gs n later in
        let none : group_with gs n ≡ None = with_none (b + length x.requests) n gs (back_of b x gs c) (has_high b n x.requests (front_of b x gs c) is).1 in
        let bad : None ≡ Some found.0 = sym none ∙ found.1 in cc
    by false is k (inl here) rest = let bad : false ≡ true = sym is ∙ pending_has n x.requests here in cc
    by false is k (inr later) rest = rest k later

-- and so is the first that has its number
pub pend_first : (b : ℕ) (qs : List Request) (ws : List Wanted) (n : RequestNo) (q : Request) (v : Wanted) → IsCountedFrom b (map (λ x. x.number.0) qs)
    → find (λ m. is_request n m.0) (zip qs ws) ≡ Some (q, v) → list_any (is_pending_request n) qs ≡ true → is_pending q.state ≡ true
pend_first b [] ws n q v c f e = cc
pend_first b (x ∷ qs) [] n q v c f e = cc
pend_first b (x ∷ qs) (w ∷ ws) n q v c f e =
    by (is_request n x) refl f (or_cases (is_pending_request n x) (list_any (is_pending_request n) qs) e)
    (λ k p. pend_first (b + 1) qs ws n q v (counted_tail b x.number.0 (map (λ y. y.number.0) qs) c) k p)
  where
    by : (t : Bool) → is_request n x ≡ t → cond t (Some (x, w)) (find (λ m. is_request n m.0) (zip qs ws)) ≡ Some (q, v)
        → (is_pending_request n x ≡ true) ⊎ (list_any (is_pending_request n) qs ≡ true)
        → (find (λ m. is_request n m.0) (zip qs ws) ≡ Some (q, v) → list_any (is_pending_request n) qs ≡ true → is_pending q.state ≡ true)
        → is_pending q.state ≡ true
    by true is k (inl here) rest = let same : x ≡ q = (pair_parts x q w v k).0 in
        ap (λ (y : Request). is_pending y.state) (sym same) ∙ (and_parts (is_request n x) (is_pending x.state) here).1
    by true is k (inr later) rest =
        let first : x.number.0 ≡ b + 1 = counted_head b x.number.0 (map (λ y. y.number.0) qs) c in
        let number : x.number.0 ≡ n.0 = eqb-true x.number.0 n.0 is in
        let low : b + 1 < n.0 = (has_high (b + 1) n qs (counted_tail b x.number.0 (map (λ y. y.number.0) qs) c) (pending_has n qs later)).0 in
        absurd (omega arith)
    by false is k (inl here) rest = let bad : false ≡ true = sym is ∙ (and_parts (is_request n x) (is_pending x.state) here).0 in cc
    by false is k (inr later) rest = rest k later
