-- Requests that are noted with their places.
use Rattle.std.proofs.Common.{◌≡◌, ℕ, ◌<◌, List, Option, Some, length, slice_set, length-set, sym, ◌∙◌, subst}
use Rattle.std.specs.Prelude.{HoldsAt}
use Rattle.std.proofs.lemmas.List.Elements.{All-set}
use Rattle.plan_base.specs.declared.parts.Parts.{Parts}
use Rattle.plan_base.specs.declared.parts.RequestPart.{RequestPart}
use Rattle.plan_base.specs.Requests.{listed}
use Rattle.plan_base.specs.Snapshot.{IsOrderly}
use Rattle.plan_base.proofs.Here.{IsHere, request_here}
use Rattle.groups.specs.declared.places.Note.{Note}
use Rattle.groups.specs.Places.{IsNote, AreNotes}

-- a note in one of the entries is a request with its place
abbrev IsRight : Parts → Option Note → Type 0
IsRight s entry = (note : Note) → entry ≡ Some note → IsNote s note

same_Some : (a b : Note) → Some a ≡ Some b → a ≡ b
same_Some a b e = cc

pub notes_more : (s : Parts) (noted : List (Option Note)) (i place : ℕ) (q : RequestPart) → IsOrderly s → place < length (listed s)
    → HoldsAt (λ x. x.request ≡ q) (listed s) place → AreNotes s noted
    → AreNotes s (slice_set noted i (Some (record { request = q.request; place = place })))
notes_more s noted i place q orderly within at notes =
    let here : IsHere s place q = request_here s place q orderly within at in
    let new : Note = record { request = q.request; place = place } in
    let is : IsNote s new = record { known = here.known; at = sym here.at } in
    record {
      count = length-set noted i (Some new) ∙ notes.count;
      each = All-set (IsRight s) noted i (Some new) (λ note e. subst (IsNote s) (same_Some new note e) is) notes.each;
    }
