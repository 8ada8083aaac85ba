-- Why a group is refused.
use Rattle.std.proofs.Common.{◌≡◌, Bool, true, false, cond, None, Some, Option, refl, ◌∙◌, ap}
use Rattle.std.specs.Option.{option_map}
use Rattle.plan_base.specs.declared.parts.Parts.{Parts}
use Rattle.plan_base.specs.declared.parts.GroupPart.{GroupPart}
use Rattle.plan_base.specs.declared.parts.Op.{Op}
use Rattle.plan_base.specs.declared.parts.Op.TheVariants.{Single, Many, OneOf, And}
use Rattle.plan_base.specs.declared.fault.SnapshotFault.{SnapshotFault}
use Rattle.plan_base.specs.Snapshot.{fault_of}
use Rattle.rapid.specs.declared.fault.RapidFault.{RapidFault}
use Rattle.rapid.specs.declared.fault.RapidFault.TheVariants.{NotSingle, Snapshot}
use Rattle.rapid.specs.Insertion.{with_group}
use Rattle.plan_base.specs.Operators.{is_single}
use Rattle.rapid.specs.Refused.{refusal_of}

pub not_single : (s : Parts) (group : GroupPart) → is_single group.op ≡ false → refusal_of s group ≡ Some (NotSingle group.group)
not_single s group e = ap (λ (b : Bool). cond b (option_map (λ f. Snapshot f) (fault_of (with_group s group))) (Some (NotSingle group.group))) e

pub not_refused : (s : Parts) (group : GroupPart) → is_single group.op ≡ true → fault_of (with_group s group) ≡ None → refusal_of s group ≡ None
not_refused s group e f =
    ap (λ (b : Bool). cond b (option_map (λ f. Snapshot f) (fault_of (with_group s group))) (Some (NotSingle group.group))) e
    ∙ ap (option_map (λ f. Snapshot f)) f

single_by : (k : Op) → is_single k ≡ true → k ≡ Single
single_by Single e = refl
single_by Many e = cc
single_by OneOf e = cc
single_by And e = cc

single_from : (b : Bool) (o : Option RapidFault) (fault : RapidFault) → cond b o (Some fault) ≡ None → b ≡ true
single_from true o fault e = refl
single_from false o fault e = cc

-- what isn't refused is a SINGLE
pub accepted_single : (s : Parts) (group : GroupPart) → refusal_of s group ≡ None → group.op ≡ Single
accepted_single s group e = single_by group.op
    (single_from (is_single group.op) (option_map (λ f. Snapshot f) (fault_of (with_group s group))) (NotSingle group.group) e)

faultless_from : (b : Bool) (found : Option SnapshotFault) (fault : RapidFault) → cond b (option_map (λ f. Snapshot f) found) (Some fault) ≡ None
    → found ≡ None
faultless_from true None fault e = refl
faultless_from true (Some other) fault e = cc
faultless_from false found fault e = cc

-- with what isn't refused the parts have no fault
pub accepted_faultless : (s : Parts) (group : GroupPart) → refusal_of s group ≡ None → fault_of (with_group s group) ≡ None
accepted_faultless s group e = faultless_from (is_single group.op) (fault_of (with_group s group)) (NotSingle group.group) e
