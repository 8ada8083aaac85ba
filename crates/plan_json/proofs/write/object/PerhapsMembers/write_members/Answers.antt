use Rattle.std.proofs.Common.{option_map, ap}
use Rattle.std.proofs.lemmas.Bool.{and_parts}
use Rattle.plan_json.proofs.Literals.{name_utf8}
use Rattle.plan_json.proofs.Objects.{if_there}
use Rattle.plan_json.proofs.write.object.PerhapsMembers.write_members.Goals as goal

pub returns : goal.returns
returns g c =
    let next = and_parts _ _ c.args.self.now.is_next in
    if_there _ _ _ _ _ _ _ _ _ _ _ _ _ (ap (option_map g.T.Json.value) c.in-Some.is) (name_utf8 _ next.0) next.1
    c.in_ok-write_name.ensures.ok c.in_ok-write.ensures.adds.ok c.in_ok-write.ensures.holds c.write_members-2.ensures
