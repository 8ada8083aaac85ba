-- A member's fault, as the group's.
use Rattle.std.specs.Prelude.{Result, Ok, Err}
use Rattle.plan_json.specs.declared.fault.JsonFault.{JsonFault}
use Rattle.plan_json.specs.declared.fault.JsonFault.TheVariants as json
use Rattle.request_model.specs.declared.fault.GroupFault.{GroupFault}
use Rattle.request_model.specs.declared.fault.GroupFault.TheVariants.{Json, NoMemory}

-- want of memory stays what it is
abbrev pub fault_of : JsonFault → GroupFault
fault_of json.NoMemory = NoMemory
fault_of fault = Json fault

-- what was read, its fault being the group's
abbrev pub in_group : {T : Type 0} → Result T JsonFault → Result T GroupFault
in_group (Ok x) = Ok x
in_group (Err e) = Err (fault_of e)
