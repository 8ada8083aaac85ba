-- What is claimed of reading and writing together.
use Rattle.std.specs.Prelude.{◌≡◌, Ok}
use Rattle.serde_json.specs.Data.{Members}
use Rattle.plan_json.specs.Values.{in_byte_order, those_there}
use Rattle.request_model.specs.declared.group.GroupDoc.{GroupDoc}
use Rattle.request_model.specs.Group.{group_of}
use Rattle.request_model.specs.Ranges.{IsGroup}
use Rattle.request_model.specs.Written.{group_members}

-- the document of each group in the ranges is read as that group
abbrev pub GroupsAreReadBack : Type 0
GroupsAreReadBack = (g : GroupDoc) → IsGroup g → group_of (those_there (in_byte_order (group_members g))) ≡ Ok g

-- each group that is read lies in the ranges
abbrev pub GroupsAreInRange : Type 0
GroupsAreInRange = (ms : Members) (g : GroupDoc) → group_of ms ≡ Ok g → IsGroup g
