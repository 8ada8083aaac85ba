-- Lists whose elements are all read alike.
use Rattle.std.specs.Prelude.{ℕ, List, slice_index_or, Result}
use Rattle.serde_json.specs.Data.{Data, null, Members}
use Rattle.plan_json.specs.declared.member.Member.{Member}
use Rattle.plan_json.specs.declared.fault.JsonFault.{JsonFault}
use Rattle.plan_json.specs.Object.{member_of}
use Rattle.plan_json.specs.List.{list_in}
use Rattle.plan_json.specs.Reading.{◌>>=◌, read_each}

-- the element at that place
abbrev pub item : List Data → ℕ → Data
item ds i = slice_index_or ds i null

-- the list of `least` to `most` elements that the member is, each read alike
abbrev pub each_of : {T : Type 0} → (Member → Data → Result T JsonFault) → ℕ → ℕ → Members → Member → Result (List T) JsonFault
each_of element_in least most ms m = member_of (λ k. list_in k least most) ms m >>= read_each (element_in m)
