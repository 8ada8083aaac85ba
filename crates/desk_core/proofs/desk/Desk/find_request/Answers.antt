use Rattle.std.proofs.Common.{◌∙◌, ap, sym}
use Rattle.std.specs.List.{position}
use Rattle.desk_runs.specs.Numbers.{is_request}
use Rattle.desk_core.specs.Desk.{seen}
use Rattle.desk_core.proofs.FoundAt.{not_with, found_at, must_have}
use Rattle.desk_core.proofs.desk.Desk.find_request.Goals as goal

pub returns-in_err-group : goal.returns-in_err-group
returns-in_err-group c = rw c.from_residual.ensures (not_with (seen c.args.self.now) c.args.number (sym c.in_err-group.ensures))

pub returns-in_err-member : goal.returns-in_err-member
returns-in_err-member c =
    absurd (must_have (seen c.args.self.now) c.args.number c.in_ok-group.group.now (sym c.in_ok-group.ensures)
    (ap (position (is_request c.args.number)) (sym c.as_slice.ensures) ∙ sym c.in_err-member.ensures))

pub returns : goal.returns
returns c =
    found_at (seen c.args.self.now) c.args.number c.in_ok-group.group.now c.in_ok-member.member c.requires (sym c.in_ok-group.ensures)
    (ap (position (is_request c.args.number)) (sym c.as_slice.ensures) ∙ sym c.in_ok-member.ensures)
