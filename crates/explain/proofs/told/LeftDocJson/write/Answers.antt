use Rattle.std.proofs.Common.{ℕ, Bool, List, [], ◌∷◌, codes, subst}
use Rattle.serde_json.specs.Data.{Data, boolean}
use Rattle.plan_base.specs.declared.claim.Placement.{Placement}
use Rattle.plan_json.specs.Adds.{AddsNested}
use Rattle.plan_json.specs.Values.{whole, list_of, has, object_of}
use Rattle.plan_doc.specs.Written.{placement_data}
use Rattle.explain.specs.declared.answer.Forced.{Forced}
use Rattle.explain.specs.Told.{forced_data}
use Rattle.explain.proofs.told.LeftDocJson.write.Goals as goal

-- the object of what was found
abbrev object_with : List Placement → Bool → Forced → ℕ → ℕ → Data
object_with blocking excluded forced request starts =
    object_of
    (has (codes "blocking") (list_of placement_data blocking)
    ∷ has (codes "excluded") (boolean excluded)
    ∷ has (codes "forced") (forced_data forced)
    ∷ has (codes "request") (whole request)
    ∷ has (codes "starts") (whole starts)
    ∷ [])

pub returns : goal.returns
returns c =
    let left = c.args.self.now.left.now in
    subst (λ (b : Bool). AddsNested c.write.result c.args.out.now.items c.write.new.out.items 3
    (object_with left.blocking b left.forced left.request.0 left.starts)) c.is_excluded-excluded.ensures
    (subst (λ (ps : List Placement). AddsNested c.write.result c.args.out.now.items c.write.new.out.items 3
    (object_with ps c.is_excluded-excluded.result left.forced left.request.0 left.starts)) c.as_list-blocking.ensures c.write.ensures)
