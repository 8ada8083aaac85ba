use Rattle.std.proofs.Common.{◌≡◌, ◌∙◌, ℕ, ◌+◌, ◌-◌, ◌<◌, ◌≤◌, ap, length, map, subst, get_or, arith, List, None, Some}
use Rattle.std.specs.List.{slice_get}
use Rattle.desk_runs.specs.Numbers.{requests_of, group_with}
use Rattle.desk_runs.specs.Turning.{no_group}
use Rattle.desk_runs.specs.Owners.{owners_from}
use Rattle.desk_runs.proofs.Places.{counted_from, owners_length, with_none, with_beyond, owner_from, Owns, match_get}
use Rattle.desk_runs.proofs.runs.Runs.place_with.Goals as goal

pub returns-in_err-place : goal.returns-in_err-place
returns-in_err-place c =
    let gs = c.self.inside.groups.items in
    let none : ¬ (1 ≤ c.args.number.0) = c.in_err-place.ensures in
    let low : c.args.number.0 ≤ 0 = omega (arith, none) in
    rw (← c.self.view_is) (rw c.from_residual.ensures
    (with_none 0 c.args.number gs (counted_from (map (λ q. q.number.0) (requests_of gs)) c.self.invariant.sound.numbered.requests) low))

pub returns : goal.returns
returns c =
    let gs = c.self.inside.groups.items in
    let i : ℕ = c.in_ok-place.place in
    let least = c.in_ok-place.ensures.0 in
    let same = c.in_ok-place.ensures.1 in
    let counted = counted_from (map (λ q. q.number.0) (requests_of gs)) c.self.invariant.sound.numbered.requests in
    let are : c.as_slice-owners.result.now ≡ owners_from 0 gs = c.as_slice-owners.ensures.value ∙ c.self.invariant.owners in
    let many : length (owners_from 0 gs) ≡ length (requests_of gs) = owners_length 0 gs in
    let place : c.args.number.0 ≡ 0 + i + 1 = omega (arith, least, same) in
    let found : c.copied.result ≡ slice_get (owners_from 0 gs) i =
    c.copied.ensures ∙ c.at_place.ensures ∙ ap (λ (l : List ℕ). slice_get l i) are in
    rw (← c.self.view_is) (rw found
    (match_get (group_with gs c.args.number ≡ None) (λ o. (o < length gs) × (group_with gs c.args.number ≡ Some (get_or gs o no_group)))
    (owners_from 0 gs) i 0
    (λ beyond. with_beyond 0 0 i c.args.number gs counted place (omega (arith, beyond, many)))
    (λ within.
    let owns : Owns 0 (get_or (owners_from 0 gs) i 0) c.args.number gs = owner_from 0 0 i c.args.number gs counted place (omega (arith, within, many)) in
    subst (λ (o : ℕ). (o < length gs) × (group_with gs c.args.number ≡ Some (get_or gs o no_group)))
    (minus_zero (get_or (owners_from 0 gs) i 0)) (owns.within, owns.group))))
  where
    minus_zero : (n : ℕ) → n - 0 ≡ n
    minus_zero n = omega arith
