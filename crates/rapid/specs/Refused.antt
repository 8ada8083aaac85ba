-- Which groups can be inserted, and why another can't.
use Rattle.std.specs.Prelude.{◌≤◌, if◌then◌else◌, All, List, [], ◌∷◌, Option, None, Some}
use Rattle.std.specs.Option.{option_map, option_or}
use Rattle.plan_base.specs.declared.parts.Parts.{Parts}
use Rattle.plan_base.specs.declared.parts.GroupPart.{GroupPart}
use Rattle.plan_base.specs.Limits.{most_seconds, most_value}
use Rattle.plan_base.specs.Operators.{is_single}
use Rattle.plan_base.specs.Snapshot.{IsMoment, fault_of}
use Rattle.rapid.specs.declared.fault.RapidFault.{RapidFault}
use Rattle.rapid.specs.declared.fault.RapidFault.TheVariants.{NotSingle, Snapshot}
use Rattle.rapid.specs.Insertion.{with_group}

-- the seconds, the values and the moments of the group are where a document may put them
pub record IsGroupInRanges (group : GroupPart) : Type 0 where
  pub seconds : All (λ q. (1 ≤ q.seconds) × (q.seconds ≤ most_seconds)) group.requests
  pub values : All (λ q. (1 ≤ q.value) × (q.value ≤ most_value)) group.requests
  pub moments : All (λ q. All (λ w. IsMoment w.from.0 × IsMoment w.to.0) q.windows) group.requests

-- why the group can't be inserted into the snapshot, if it can't: its kind first, then what is wrong with the snapshot that it would make
abbrev pub refusal_of : Parts → GroupPart → Option RapidFault
refusal_of s group = if is_single group.op then option_map (λ f. Snapshot f) (fault_of (with_group s group)) else Some (NotSingle group.group)

-- the first refusal where groups are put into the snapshot one after another, if one is refused
abbrev pub first_refusal : Parts → List GroupPart → Option RapidFault
first_refusal s [] = None
first_refusal s (group ∷ groups) = option_or (refusal_of s group) (first_refusal (with_group s group) groups)
