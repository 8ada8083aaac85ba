-- What each line of the workload is about, in order.
use Rattle.std.specs.Prelude.{ℕ, ◌+◌, ◌*◌, ◌%◌, ◌==◌, nat_lt, if◌then◌else◌, List, [], ◌∷◌, ◌++◌, map}
use Rattle.std.specs.List.{range_with_len, flat_map}
use Rattle.plan_base.specs.declared.parts.Op.{Op}
use Rattle.plan_base.specs.declared.parts.Op.TheVariants.{Single, Many, OneOf, And}
use Rattle.workload.specs.declared.class.Class.{Class}
use Rattle.workload.specs.declared.class.Class.TheVariants.{OneMetre, FortyCentimetres}
use Rattle.workload.specs.declared.subject.Subject.{Subject}
use Rattle.workload.specs.declared.subject.Subject.TheVariants.{Open, Instrument, Telescope, Night, Visibility, Grant, Submit, Plan}

-- the classes of telescopes, of each of which each site has one telescope
abbrev pub classes : List Class
classes = OneMetre ∷ FortyCentimetres ∷ []

-- sites, targets, proposals and groups are counted from 0
abbrev pub sites : List ℕ
sites = 0 ∷ 1 ∷ 2 ∷ []

-- The subjects of all lines. They unfold only where it is asked, since there are many.
unfoldable pub subjects : List Subject
subjects =
    Open
    ∷ map Instrument classes
    ++ flat_map (λ site. map (Telescope site) classes) sites
    ++ map Night sites
    ++ flat_map (λ target. map (Visibility target) sites) (range_with_len 0 40)
    ++ flat_map (λ proposal. map (Grant proposal) classes) (range_with_len 0 4)
    ++ map Submit (range_with_len 0 70)
    ++ Plan
    ∷ []

-- the kind of a group, by its number modulo 7, and how many requests it has
abbrev pub shape_at : ℕ → Op × ℕ
shape_at rest = if nat_lt rest 4 then (Single, 1) else (if rest == 4 then (Many, 3) else (if rest == 5 then (OneOf, 3) else (And, 2)))

-- the same by a group's number
abbrev pub shape_of : ℕ → Op × ℕ
shape_of group = shape_at (group % 7)

-- how many requests a line submits
abbrev pub requests_of : Subject → ℕ
requests_of (Submit group) = (shape_of group).1
requests_of _ = 0

-- how many draws a line makes: two for a sky, and for a group one and five for each of its requests
abbrev pub draws_of : Subject → ℕ
draws_of (Visibility target site) = 2
draws_of (Submit group) = 1 + 5 * (shape_of group).1
draws_of _ = 0
