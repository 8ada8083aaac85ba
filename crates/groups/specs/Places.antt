-- Requests and their places among all, noted by the remainders of their numbers.
use Rattle.std.specs.Prelude.{◌≡◌, ℕ, List, length, All, Option, Some}
use Rattle.plan_base.specs.declared.parts.Parts.{Parts}
use Rattle.plan_base.specs.Requests.{place_of, IsKnown}
use Rattle.groups.specs.declared.places.Note.{Note}
use Rattle.groups.specs.declared.places.Places.{Places}

-- so many remainders of numbers are told apart
abbrev pub remainders : ℕ
remainders = 4096

-- a request and its place
pub record IsNote (s : Parts) (note : Note) : Type 0 where
  pub known : IsKnown s note.request.0
  pub at : note.place ≡ place_of s note.request.0

-- 4,096 notes at most
pub record AreNotes (s : Parts) (noted : List (Option Note)) : Type 0 where
  pub count : length noted ≡ remainders
  pub each : All (λ entry. (note : Note) → entry ≡ Some note → IsNote s note) noted

-- these tell where requests of the snapshot stand
abbrev pub ArePlaces : Parts → Places → Type 0
ArePlaces s places = AreNotes s places.noted.items
