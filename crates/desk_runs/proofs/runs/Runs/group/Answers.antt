use Rattle.std.proofs.Common.{◌≡◌, ◌∙◌, ◌+◌, ◌≤◌, ap, map, sym, arith}
use Rattle.std.specs.List.{slice_get}
use Rattle.std.specs.Option.{option_copied}
use Rattle.desk_runs.proofs.Places.{found_none, found_from, counted_from}
use Rattle.desk_runs.proofs.runs.Runs.group.Goals as goal

pub returns-in_err-place : goal.returns-in_err-place
returns-in_err-place c =
    let gs = c.self.inside.groups.items in
    let none : ¬ (1 ≤ c.args.number.0) = c.in_err-place.ensures in
    let low : c.args.number.0 ≤ 0 = omega (arith, none) in
    rw (← c.self.view_is) (ap option_copied c.from_residual.ensures
    ∙ sym (found_none 0 gs c.args.number (counted_from (map (λ g. g.number.0) gs) c.self.invariant.sound.numbered.groups) low))

pub returns : goal.returns
returns c =
    let gs = c.self.inside.groups.items in
    let least = c.in_ok-place.ensures.0 in
    let same = c.in_ok-place.ensures.1 in
    let place : c.args.number.0 ≡ 0 + c.in_ok-place.place + 1 = omega (arith, least, same) in
    rw (← c.self.view_is)
    (c.at_place.ensures ∙ ap (λ l. slice_get l c.in_ok-place.place) c.as_slice-groups.ensures.value
    ∙ sym (found_from 0 gs c.args.number c.in_ok-place.place (counted_from (map (λ g. g.number.0) gs) c.self.invariant.sound.numbered.groups) place))
