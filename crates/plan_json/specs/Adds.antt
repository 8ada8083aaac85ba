-- What a writer adds to the bytes that it is given.
use Rattle.std.specs.Prelude.{◌≡◌, ℕ, List, ◌++◌, Bool, false, Result, OnOk, OnErr}
use Rattle.serde_json.specs.Data.{Data, Items, Members}
use Rattle.serde_json.specs.Read.{max_depth}
use Rattle.serde_json.specs.Written.{compact_text, comma_if, items_text, members_text}
use Rattle.plan_json.specs.Exact.{IsWritten, AreWrittenItems, AreWrittenMembers}

-- The text of a value, with no space. It unfolds only where it is asked, so that proofs compare values and not texts.
unfoldable pub text_of : Data → List ℕ
text_of d = compact_text d

-- new begins with old
abbrev pub IsFrontOf : List ℕ → List ℕ → Type 0
IsFrontOf old new = (rest : List ℕ) × (new ≡ old ++ rest)

-- The text is added at the end. If memory runs out, what was there stays, and a part of the text may stand after it.
pub record Adds {E : Type 0} (r : Result (Unit {0}) E) (old new text : List ℕ) : Type 0 where
  pub ok : OnOk r (new ≡ old ++ text)
  pub err : OnErr r (IsFrontOf old new)

-- the text is added, and this holds of what it is of
pub record AddsOf {E : Type 0} (r : Result (Unit {0}) E) (old new text : List ℕ) (P : Type 0) : Type 0 where
  pub adds : Adds r old new text
  pub holds : OnOk r P

-- the text of a value is added, which nests at most n levels deep
abbrev pub AddsNested : {E : Type 0} → Result (Unit {0}) E → List ℕ → List ℕ → ℕ → Data → Type 0
AddsNested r old new n d = AddsOf r old new (text_of d) (IsWritten n d)

-- the text of a value is added, which doesn't nest too deep for a reader
abbrev pub AddsValue : {E : Type 0} → Result (Unit {0}) E → List ℕ → List ℕ → Data → Type 0
AddsValue r old new d = AddsNested r old new max_depth d

-- with a comma before it, if it is a later item of a list
abbrev pub AddsItem : {E : Type 0} → Result (Unit {0}) E → List ℕ → List ℕ → Bool → ℕ → Data → Type 0
AddsItem r old new is_later n d = AddsOf r old new (comma_if is_later ++ text_of d) (IsWritten n d)

-- the text of items is added, with the bracket that closes their list
abbrev pub AddsItems : {E : Type 0} → Result (Unit {0}) E → List ℕ → List ℕ → ℕ → Items → Type 0
AddsItems r old new n ds = AddsOf r old new (items_text false ds) (AreWrittenItems n ds)

-- the text of members of these names is added, the first after a comma if it is a later one, with the brace that closes their object
abbrev pub AddsMembers : {E : Type 0} → Result (Unit {0}) E → List ℕ → List ℕ → Bool → List (List ℕ) → ℕ → Members → Type 0
AddsMembers r old new is_later names n ms = AddsOf r old new (members_text is_later ms) (AreWrittenMembers names n ms)
