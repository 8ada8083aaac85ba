use Rattle.std.proofs.lemmas.Bool.{and_parts}
use Rattle.plan_json.proofs.Literals.{name_utf8}
use Rattle.plan_json.proofs.Objects.{there}
use Rattle.plan_json.proofs.write.object.NamedMembers.write_members.Goals as goal

pub returns : goal.returns
returns g c =
    let next = and_parts _ _ c.args.self.now.is_next in
    there _ _ _ _ _ _ _ _ _ _ _ _ (name_utf8 _ next.0) next.1 c.in_ok-write_name.ensures.ok c.in_ok-write.ensures.adds.ok
    c.in_ok-write.ensures.holds c.write_members.ensures
