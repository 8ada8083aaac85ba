use Rattle.std.proofs.Common.{◌≡◌, ◌<◌, ap, sym, subst, Option, arith}
use Rattle.std.specs.Option.{option_map}
use Rattle.desk_core.specs.declared.desk.Desk.{Desk}
use Rattle.desk_core.specs.Desk.{StateSeen, seen}
use Rattle.desk_core.specs.Kept.{IsState}
use Rattle.desk_core.proofs.KeptPublishing.{published_keeps}
use Rattle.desk_core.proofs.state.State.publish_certified.Goals as goal

-- the publication keeps the state
pub invariant_of-self-2 : goal.invariant_of-self-2
invariant_of-self-2 c =
    let version = c.self.inside.version in
    let same = ap (λ (s : StateSeen). s.version) c.self.view_is in
    let few : version < 524288 = omega (arith, c.requires.version, same) in
    published_keeps c.args.self.now version (seen c.in-Some.desk) (seen c.publish_certified.new.self) c.args.snapshot c.args.claim.now few
    (subst (λ (o : Option Desk). IsState record { version = version; desk = option_map seen o }) c.in-Some.is c.self.invariant)
    (subst (λ (o : Option Desk). c.args.self.now ≡ record { version = version; desk = option_map seen o }) c.in-Some.is (sym c.self.view_is))
    c.requires.snapshot c.requires.certified c.in_ok-publish_certified.ensures.desk
