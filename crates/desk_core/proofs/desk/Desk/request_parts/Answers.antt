use Rattle.std.proofs.Common.{◌≡◌, ◌∙◌, ap, sym, inl, inr, ◌++◌, [], List, map, arith}
use Rattle.std.proofs.lemmas.Grind.{common_steps}
use Rattle.std.specs.Prelude.{filter}
use Rattle.std.specs.List.{zip}
use Rattle.std.proofs.lemmas.List.{append-nil}
use Rattle.desk_runs.specs.declared.group.Request.{Request}
use Rattle.desk_runs.specs.Clock.{is_waiting}
use Rattle.desk_core.specs.declared.desk.Wanted.{Wanted}
use Rattle.desk_core.specs.Desk.{seen}
use Rattle.desk_core.specs.DeskSnapshot.{request_part}
use Rattle.desk_core.proofs.SnapshotListing.{none_left_first, none_left_second}
use Rattle.desk_core.proofs.desk.Desk.request_parts.Goals as goal

pub returns : goal.returns
returns c =
    let requests : List Request = c.loop-request.request-iterator.a.rest.now in
    let wanted : List Wanted = c.loop-request.request-iterator.b.rest.now in
    let none : zip requests wanted ≡ []
    = elim c.in-None.ensures.steps [ inl first ↦ none_left_first requests wanted first.1.0 | inr second ↦ none_left_second requests wanted second.1.0 ]
    in
    sym (append-nil c.loop-request.parts)
    ∙ sym (ap (λ l. c.loop-request.parts ++ map (request_part (seen c.args.self.now)) (filter (λ m. is_waiting c.args.self.now.runs.running m.0) l))
    none) ∙ c.loop-request.invariant

pub loop-request-preserved-in_ok-push : goal.loop-request-preserved-in_ok-push
loop-request-preserved-in_ok-push c = grind (arith, common_steps)
