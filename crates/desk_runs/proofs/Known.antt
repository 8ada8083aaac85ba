-- Groups that are there, by their numbers and by those of their running requests.
use Rattle.std.proofs.Common.{◌≡◌, ℕ, suc, ◌+◌, ◌-◌, ◌<◌, ◌≤◌, ◌==◌, true, false, List, [], ◌∷◌, length, map, slice_get, sym, ◌∙◌, ap, arith, inl, inr}
use Rattle.std.proofs.Common.{Some, None}
use Rattle.std.proofs.lemmas.Bool.{or_cases, cases_lt, cases_Bool, eqb-true, cond-true, cond-false}
use Rattle.std.proofs.lemmas.Option.{slice_get_within, get_or_from_slice_get}
use Rattle.plan_base.specs.declared.number.GroupNo.{GroupNo}
use Rattle.plan_base.specs.declared.number.RequestNo.{RequestNo}
use Rattle.desk_runs.specs.declared.group.Group.{Group}
use Rattle.desk_runs.specs.declared.observation.Observation.{Observation}
use Rattle.desk_runs.specs.Numbers.{has_request, group_at, group_with, is_pending_at, is_placed}
use Rattle.desk_runs.specs.Progress.{Progress}
use Rattle.desk_runs.specs.Turning.{no_group, group_of}
use Rattle.desk_runs.specs.Sound.{IsCounted, IsSound, AllPending}
use Rattle.desk_runs.proofs.Places.{counted_from, found_from, found_none}
use Rattle.desk_runs.proofs.Sounds.{has_pending}
use Rattle.desk_runs.proofs.Reporting.{pending_has}

-- a pending request is one of a group
pub pending_found : (gs : List Group) (number : RequestNo) → is_pending_at gs number ≡ true → (g : Group) × (group_with gs number ≡ Some g)
pending_found [] number e = cc
pending_found (g ∷ gs) number e = elim (cases_Bool (has_request number g)) [
  | inl hit ↦ (g, cond-true (has_request number g) (Some g) (group_with gs number) hit)
  | inr miss ↦
      let later : is_pending_at gs number ≡ true = elim (or_cases (has_pending number g) (is_pending_at gs number) e) [
        | inl here ↦ let bad : false ≡ true = sym miss ∙ pending_has number g.requests here in cc
        | inr there ↦ there
      ] in
      let rest = pending_found gs number later in
      (rest.0, cond-false (has_request number g) (Some g) (group_with gs number) miss ∙ rest.1)
]

pub placed_pending : (gs : List Group) (os : List Observation) (number : RequestNo) → AllPending gs os → is_placed os number ≡ true
    → is_pending_at gs number ≡ true
placed_pending gs [] number h e = cc
placed_pending gs (o ∷ os) number h e = elim (or_cases (o.request.0 == number.0) (is_placed os number) e) [
  | inl here ↦ sym (ap (λ (n : ℕ). is_pending_at gs (record { 0 = n })) (eqb-true o.request.0 number.0 here)) ∙ h 0 o (omega arith)
  | inr there ↦ placed_pending gs os number (λ k d l. h (suc k) d (omega arith)) there
]

-- a running request is one of a group
pub running_found : (s : Progress) (number : RequestNo) → IsSound s → is_placed s.running number ≡ true → (g : Group) × (group_with s.groups number ≡ Some g)
running_found s number h e = pending_found s.groups number (placed_pending s.groups s.running number h.running e)

pub none_is_some : (g : Group) → None ≡ Some g → ⊥
none_is_some g e = cc

-- a group that is there stands at the place of its number
pub record IsKnown (gs : List Group) (n : GroupNo) (g : Group) : Type 0 where
  pub low : 1 ≤ n.0
  pub high : n.0 ≤ length gs
  pub is : group_of gs n ≡ g

pub known_there : (gs : List Group) (n : GroupNo) (g : Group) → IsCounted (map (λ x. x.number.0) gs) → group_at gs n ≡ Some g → IsKnown gs n g
known_there gs n g h e = elim (cases_lt 0 n.0) [
  | inl above ↦
      let place : n.0 ≡ 0 + (n.0 - 1) + 1 = omega arith in
      let read : slice_get gs (n.0 - 1) ≡ Some g = sym (found_from 0 gs n (n.0 - 1) (counted_from (map (λ x. x.number.0) gs) h) place) ∙ e in
      let within : n.0 - 1 < length gs = slice_get_within gs (n.0 - 1) g read in
      record { low = omega arith; high = omega arith; is = get_or_from_slice_get gs (n.0 - 1) g no_group read }
  | inr none ↦ absurd (none_is_some g (sym (found_none 0 gs n (counted_from (map (λ x. x.number.0) gs) h) none) ∙ e))
]
