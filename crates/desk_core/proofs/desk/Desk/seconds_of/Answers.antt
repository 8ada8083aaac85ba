use Rattle.std.proofs.Common.{◌∙◌, ap, sym, List}
use Rattle.std.specs.Prelude.{find}
use Rattle.std.specs.Option.{unwrap_or, option_map, option_copied}
use Rattle.desk_runs.specs.declared.group.Request.{Request}
use Rattle.desk_runs.specs.Numbers.{is_request}
use Rattle.desk_core.proofs.PublicationCalls.{seconds_through, no_seconds}
use Rattle.desk_core.proofs.desk.Desk.seconds_of.Goals as goal

pub returns-in-Some : goal.returns-in-Some
returns-in-Some c =
    let n = c.args.number in
    c.unwrap_or.ensures
    ∙ ap (λ o. unwrap_or o 0) (c.seconds_in.ensures ∙ ap (λ (l : List Request). option_map (λ q. q.seconds) (find (is_request n) l)) c.as_slice.ensures)
    ∙ seconds_through c.args.self.now.runs.groups n c.in-Some.group.now (sym c.group_with.ensures ∙ ap option_copied c.in-Some.is)

pub returns-in-None : goal.returns-in-None
returns-in-None c = no_seconds c.args.self.now.runs.groups c.args.number (sym c.group_with.ensures ∙ ap option_copied c.in-None.is)
