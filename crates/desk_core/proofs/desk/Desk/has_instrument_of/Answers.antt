use Rattle.std.proofs.Common.{inl, inr, ◌∙◌, ap, is_some}
use Rattle.desk_core.specs.Desk.{seen}
use Rattle.desk_core.specs.Registering.{is_on_instrument}
use Rattle.desk_core.proofs.Lacking.{on_type}
use Rattle.desk_core.proofs.desk.Desk.has_instrument_of.Goals as goal

pub returns-in-Standard : goal.returns-in-Standard
returns-in-Standard c =
    c.is_some.ensures ∙ ap is_some c.instrument.ensures ∙ on_type (seen c.args.self.now) c.args.key.now (elim c.in-Standard.is [
      | inl e ↦ ap is_on_instrument e
      | inr (inl e) ↦ ap is_on_instrument e
      | inr (inr e) ↦ ap is_on_instrument e
    ])
