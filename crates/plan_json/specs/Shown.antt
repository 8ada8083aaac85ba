-- What contracts see of a document and of a list in it.
use Rattle.std.specs.Prelude.{ℕ, List, map, slice_index_or}
use Rattle.serde_json.specs.Data.{Data, null, Members}
use Rattle.serde_json.specs.View.{view, members_view}
use Rattle.plan_json.specs.declared.doc.Object.{Object}
use Rattle.plan_json.specs.declared.doc.Object.TheVariants.{Whole, Part}
use Rattle.plan_json.specs.declared.doc.Doc.{Doc}
use Rattle.plan_json.specs.declared.list.DocList.{DocList}
use Rattle.plan_json.specs.declared.member.Member.{Member}

-- the members that were read
abbrev pub members_read : Object → Members
members_read (Whole found) = members_view found.entries
members_read (Part found) = members_view found.now.entries

-- the members of a document, as `serde_json` read them
abbrev pub members_of : Doc → Members
members_of doc = members_read doc.object

-- the elements of a list
abbrev pub elements_of : DocList → List Data
elements_of list = map view list.items.now

-- the element at that place
abbrev pub element_of : DocList → ℕ → Data
element_of list i = slice_index_or (elements_of list) i null

-- the member that a list was read by, which its faults name
abbrev pub named_by : DocList → Member
named_by list = list.member
