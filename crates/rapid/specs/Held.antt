-- What is worked out of each placement of a plan before the starts of a new request are looked at.
use Rattle.std.specs.Prelude.{◌≡◌, ℕ, ◌<◌, nat_lt, Bool, false, not, ◌==◌, ◌&&◌, ◌||◌, if◌then◌else◌, List, length, map, slice_index_or, Option, Some, None}
use Rattle.std.specs.Option.{ForSome}
use Rattle.std.specs.List.{list_any}
use Rattle.plan_base.specs.declared.parts.Parts.{Parts}
use Rattle.plan_base.specs.declared.parts.Op.{Op}
use Rattle.plan_base.specs.declared.parts.Op.TheVariants.{Single, Many, OneOf, And}
use Rattle.plan_base.specs.declared.claim.Placement.{Placement}
use Rattle.plan_base.specs.Requests.{group_of, quota_of, seconds_of}
use Rattle.plan_base.specs.Starts.{worth_at}
use Rattle.plan_base.specs.Feasible.{is_quota}
use Rattle.plan_base.specs.Round.{op_at}
use Rattle.plan_base.specs.Tables.{slice_after}
use Rattle.rapid.specs.declared.held.Held.{Held}

-- the place g of a group, where it is an AND
abbrev pub and_at : Op → ℕ → Option ℕ
and_at Single g = None
and_at Many g = None
and_at OneOf g = None
and_at And g = Some g

-- the place of the AND that has request r, if one has
abbrev pub and_of : Parts → ℕ → Option ℕ
and_of s r = and_at (op_at s (group_of s r)) (group_of s r)

-- the quota is named on both sides
abbrev pub is_same_quota : Option ℕ → Option ℕ → Bool
is_same_quota None other = false
is_same_quota (Some q) other = is_quota q other

-- the seconds of request r, where they count towards the quota
abbrev pub counted_of : Parts → Option ℕ → ℕ → ℕ
counted_of s quota r = if is_same_quota quota (quota_of s r) then seconds_of s r else 0

-- what is worked out of a placement
abbrev pub held_of : Parts → Option ℕ → Placement → Held
held_of s quota p =
    record { placement = p; after = slice_after s p; and_place = and_of s p.request.0; worth = worth_at s p; counted = counted_of s quota p.request.0 }

-- a and b take up the same slice
abbrev pub meets : Held → Held → Bool
meets a b = (a.placement.telescope.0 == b.placement.telescope.0) && nat_lt a.placement.slice.0 b.after && nat_lt b.placement.slice.0 a.after

-- the start meets one that is of the AND at place g
abbrev pub strikes : Held → List Held → ℕ → Bool
strikes start held g = list_any (λ h. meets start h && is_quota g h.and_place) held

-- the start meets one that is of this AND, if there is one
abbrev pub strikes_and : Held → List Held → Option ℕ → Bool
strikes_and start held None = false
strikes_and start held (Some g) = strikes start held g

-- h has to go for the start
abbrev pub has_to_go : Held → List Held → Held → Bool
has_to_go start held h = meets start h || strikes_and start held h.and_place

-- h can stay
abbrev pub can_stay : Held → List Held → Held → Bool
can_stay start held h = not (has_to_go start held h)

-- the plan of which this is held
abbrev pub plan_of : List Held → List Placement
plan_of held = map (λ h. h.placement) held

-- the AND at this place, if there is one, is flagged
abbrev pub is_flagged : List Bool → Option ℕ → Bool
is_flagged flags None = false
is_flagged flags (Some g) = slice_index_or flags g false

-- by these flags of ANDs, h has to go for the start
abbrev pub goes_by : List Bool → Held → Held → Bool
goes_by flags start h = meets start h || is_flagged flags h.and_place

-- group g is flagged by these flags, or it is the AND of h, which the start meets
abbrev pub is_struck : List Bool → Held → Held → ℕ → Bool
is_struck flags start h g = slice_index_or flags g false || meets start h && is_quota g h.and_place

-- of n groups, those are flagged that are an AND of which the start meets one that is held
pub record AreStruck (start : Held) (held : List Held) (n : ℕ) (flags : List Bool) : Type 0 where
  pub count : length flags ≡ n
  pub each : (g : ℕ) → g < n → slice_index_or flags g false ≡ strikes start held g

-- the place of an AND, if there is one, is below n
abbrev pub HasPlaceBelow : ℕ → Held → Type 0
HasPlaceBelow n h = ForSome h.and_place (λ g. g < n)
