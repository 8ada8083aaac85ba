use Rattle.std.proofs.Common.{option_map, ap, ◌∙◌}
use Rattle.serde_json.specs.Find.{get_member}
use Rattle.serde_json.specs.View.{view}
use Rattle.serde_json.proofs.Views.{view_of_ref, view-lookup}
use Rattle.plan_json.specs.Member.{name_of}
use Rattle.plan_json.proofs.doc.Doc.found.Goals as goal

pub returns : goal.returns
returns c =
    view_of_ref c.get.result ∙ ap (option_map view) c.get.ensures.value ∙ view-lookup c.name.result.now c.members.result.now.entries
    ∙ rw c.name.ensures (ap (get_member (name_of c.args.member)) c.members.ensures)
