use Rattle.std.proofs.Common.{◌≡◌, sym, ap, ◌∙◌, arith}
use Rattle.std.specs.Option.{option_map}
use Rattle.site_model.specs.Registry.{code_number}
use Rattle.site_model.proofs.Carried.{code_number-seen}
use Rattle.site_model.proofs.Scopes.{number_only}
use Rattle.site_model.proofs.network.Network.find_telescope.Goals as goal

pub returns-in_err-place-clause-number : goal.returns-in_err-place-clause-number
returns-in_err-place-clause-number c =
    let number : code_number c.args.self.now.registry c.args.code.now ≡ c.get_index_of.result =
    rw (← c.self.view_is) (code_number-seen c.self.inside c.args.code.now ∙ sym c.get_index_of.ensures.index) in
    grind arith

pub returns-clause-number : goal.returns-clause-number
returns-clause-number c =
    let number : code_number c.args.self.now.registry c.args.code.now ≡ c.get_index_of.result =
    rw (← c.self.view_is) (code_number-seen c.self.inside c.args.code.now ∙ sym c.get_index_of.ensures.index) in
    sym (ap (option_map (λ n. record { 0 = n })) (number ∙ c.in_ok-place.was))

pub returns-clause-only : goal.returns-clause-only
returns-clause-only c = rw (← c.self.view_is) (λ t at. number_only c.self.inside c.args.code.now t c.get_index_of.ensures.unique at)

pub returns-in_err-place-clause-only : goal.returns-in_err-place-clause-only
returns-in_err-place-clause-only c = rw (← c.self.view_is) (λ t at. number_only c.self.inside c.args.code.now t c.get_index_of.ensures.unique at)
