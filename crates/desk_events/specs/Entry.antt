-- The text of an entry: one JSON object, its members in byte order of their names, and a newline. Here members stand in
-- any order, since `object_of` sorts them.
use Rattle.std.specs.Prelude.{ℕ, List, [], ◌∷◌, ◌++◌, codes, Result}
use Rattle.std.specs.List.{flat_map}
use Rattle.serde_json.specs.Data.{Data}
use Rattle.serde_json.specs.Read.{max_depth}
use Rattle.plan_json.specs.Adds.{text_of, AddsOf, AddsValue}
use Rattle.plan_json.specs.Exact.{IsWritten}
use Rattle.plan_json.specs.Values.{Named, has, whole, object_of}
use Rattle.desk_events.specs.declared.entry.EventEntry.{EventEntry}
use Rattle.desk_events.specs.declared.reply.Reply.{Reply}
use Rattle.desk_events.specs.Replied.{members_of_reply}

-- An entry with these members beside its own. It unfolds only where it is asked, so that a proof of one reply is apart
-- from the others.
unfoldable pub data_with : EventEntry → List Named → Data
data_with e ms = object_of (has (codes "caller") (whole e.caller) ∷ has (codes "line") (whole e.line) ∷ has (codes "version") (whole e.version) ∷ ms)

-- an entry with this reply
abbrev pub data_of_reply : EventEntry → Reply → Data
data_of_reply e reply = data_with e (members_of_reply reply)

-- an entry, with the reply that it has
abbrev pub data_of_entry : EventEntry → Data
data_of_entry e = data_of_reply e e.reply

-- the text of an entry
abbrev pub text_of_entry : EventEntry → List ℕ
text_of_entry e = text_of (data_of_entry e) ++ 10 ∷ []

-- the texts of entries, one after another
abbrev pub text_of_history : List EventEntry → List ℕ
text_of_history es = flat_map text_of_entry es

-- the text of an entry with these members is added
abbrev pub AddsEntry : {E : Type 0} → Result (Unit {0}) E → List ℕ → List ℕ → EventEntry → List Named → Type 0
AddsEntry r old new e ms = AddsValue r old new (data_with e ms)

-- the text of a value and a newline are added
abbrev pub AddsLine : {E : Type 0} → Result (Unit {0}) E → List ℕ → List ℕ → Data → Type 0
AddsLine r old new d = AddsOf r old new (text_of d ++ 10 ∷ []) (IsWritten max_depth d)
