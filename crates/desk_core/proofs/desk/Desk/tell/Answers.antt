use Rattle.std.proofs.Common.{refl, subst, sym}
use Rattle.desk_events.specs.declared.command.Command.{Command}
use Rattle.desk_events.specs.declared.command.Command.TheVariants.{Export, Balances, Show}
use Rattle.desk_core.specs.Desk.{seen}
use Rattle.desk_core.specs.Showing.{on_export, on_balances, on_show}
use Rattle.desk_core.specs.Step.{Does}
use Rattle.desk_core.proofs.Steps.{tells_does}
use Rattle.desk_core.proofs.desk.Desk.tell.Goals as goal

pub returns-in-Export : goal.returns-in-Export
returns-in-Export c = λ version.
    let d = seen c.args.self.now in
    subst (λ (k : Command). Does version d k d c.export.result) (sym c.in-Export.is)
    (tells_does version d Export (on_export d.published) c.export.result refl tt refl c.export.ensures)

pub returns-in-Balances : goal.returns-in-Balances
returns-in-Balances c = λ version.
    let d = seen c.args.self.now in
    subst (λ (k : Command). Does version d k d c.balances.result) (sym c.in-Balances.is)
    (tells_does version d Balances (on_balances d.books) c.balances.result refl tt refl c.balances.ensures)

pub returns-in-Show : goal.returns-in-Show
returns-in-Show c = λ version.
    let d = seen c.args.self.now in
    let g = c.in-Show.group_number in
    subst (λ (k : Command). Does version d k d c.show.result) (sym c.in-Show.is)
    (tells_does version d (Show g) (on_show d g) c.show.result refl tt refl c.show.ensures)
