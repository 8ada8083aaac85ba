-- The requests of a snapshot, counted through its groups, and what is known of each.
use Rattle.std.specs.Prelude.{◌≡◌, ℕ, suc, ◌<◌, ◌==◌, ◌⊎◌, List, [], ◌∷◌, ◌++◌, length, map, slice_index_or, Option, None, Contains, HoldsAt}
use Rattle.std.specs.List.{position_or_len}
use Rattle.plan_base.specs.declared.parts.Parts.{Parts}
use Rattle.plan_base.specs.declared.parts.GroupPart.{GroupPart}
use Rattle.plan_base.specs.declared.parts.RequestPart.{RequestPart}
use Rattle.plan_base.specs.declared.parts.Op.{Op}
use Rattle.plan_base.specs.declared.span.Span.{Span}
use Rattle.plan_base.specs.declared.number.TelescopeNo.{TelescopeNo}
use Rattle.plan_base.specs.declared.number.TargetNo.{TargetNo}

-- a request with the place of its group and the quota that the group names
pub record Listed : Type 0 where
  pub group : ℕ
  pub quota : Option ℕ
  pub request : RequestPart

-- the requests of groups, of which the first has place g
abbrev pub listed_from : ℕ → List GroupPart → List Listed
listed_from g [] = []
listed_from g (x ∷ xs) = map (λ q. record { group = g; quota = x.quota; request = q }) x.requests ++ listed_from (suc g) xs

-- all requests in their order
abbrev pub listed : Parts → List Listed
listed s = listed_from 0 s.groups

-- the place of the request with number r, or how many requests there are
abbrev pub place_of : Parts → ℕ → ℕ
place_of s r = position_or_len (λ x. x.request.request.0 == r) (listed s)

-- the snapshot has a request with number r
abbrev pub IsKnown : Parts → ℕ → Type 0
IsKnown s r = place_of s r < length (listed s)

-- what f gives of the request with number r, or d where there is none
abbrev pub known_or : {X : Type 0} → (Listed → X) → X → Parts → ℕ → X
known_or f d s r = slice_index_or (map f (listed s)) (place_of s r) d

-- the place of the group of r
abbrev pub group_of : Parts → ℕ → ℕ
group_of s r = known_or (λ x. x.group) 0 s r

-- the quota that the group of r names, if it names one
abbrev pub quota_of : Parts → ℕ → Option ℕ
quota_of s r = known_or (λ x. x.quota) None s r

-- how long r takes, in seconds
abbrev pub seconds_of : Parts → ℕ → ℕ
seconds_of s r = known_or (λ x. x.request.seconds) 0 s r

-- the value of r, before any of it fades
abbrev pub request_value : Parts → ℕ → ℕ
request_value s r = known_or (λ x. x.request.value) 0 s r

-- the thousandths of its value that r loses with each slice of delay
abbrev pub fade_of : Parts → ℕ → ℕ
fade_of s r = known_or (λ x. x.request.fade) 0 s r

-- the windows of r
abbrev pub windows_of : Parts → ℕ → List Span
windows_of s r = known_or (λ x. x.request.windows) [] s r

-- the telescopes that can take r
abbrev pub telescopes_of : Parts → ℕ → List TelescopeNo
telescopes_of s r = known_or (λ x. x.request.telescopes) [] s r

-- the targets of r
abbrev pub targets_of : Parts → ℕ → List TargetNo
targets_of s r = known_or (λ x. x.request.targets) [] s r

-- r is a request of the group at place g
abbrev pub IsOf : Parts → ℕ → ℕ → Type 0
IsOf s g r = IsKnown s r × (group_of s r ≡ g)

-- the group at place g is of this kind
abbrev pub IsKind : Parts → Op → ℕ → Type 0
IsKind s k g = HoldsAt (λ group. group.op ≡ k) s.groups g

-- the numbers of a group's requests, in their order
abbrev pub members_of : GroupPart → List ℕ
members_of x = map (λ q. q.request.0) x.requests

-- those of the group at place g
abbrev pub members : Parts → ℕ → List ℕ
members s g = slice_index_or (map members_of s.groups) g []

-- all requests of the group at place g are in the list, or none is
abbrev pub AllOrNone : Parts → ℕ → List ℕ → Type 0
AllOrNone s g rs = ((r : ℕ) → IsOf s g r → Contains rs r) ⊎ ((r : ℕ) → IsOf s g r → ¬ (Contains rs r))
