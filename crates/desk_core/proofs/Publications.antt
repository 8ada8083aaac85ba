-- A publication keeps the desk.
use Rattle.std.proofs.Common.{◌≡◌, ◌≢◌, ℕ, ◌*◌, ◌<◌, ◌≤◌, ◌==◌, Bool, true, false, cond, ◌&&◌, List, [], ◌∷◌, ◌++◌, length, get_or, map, refl}
use Rattle.std.proofs.Common.{sym, ap, ◌∙◌, inl, inr, arith, Option, Some, None}
use Rattle.std.specs.Prelude.{count_by, All, AllPairs, Contains}
use Rattle.std.proofs.Math.Nat.{mul-le-mul_right}
use Rattle.std.proofs.lemmas.Bool.{cases_lt, eqb-true, eq-eqb, false_from_ne_true}
use Rattle.std.proofs.lemmas.Bool.Decides.{nat_tests}
use Rattle.std.proofs.lemmas.List.{get_or-map, get_or_default}
use Rattle.std.proofs.lemmas.List.Elements.{All-head, All-tail, All-map}
use Rattle.std.proofs.lemmas.List.Elements.{Contains-get_or}
use Rattle.std.proofs.lemmas.List.Sums.{sum_by-cons, sum_by-append}
use Rattle.plan_base.specs.declared.claim.Claim.{Claim}
use Rattle.plan_base.specs.declared.claim.Placement.{Placement}
use Rattle.plan_base.specs.declared.parts.GroupPart.{GroupPart}
use Rattle.plan_base.specs.declared.parts.Op.{Op}
use Rattle.plan_base.specs.declared.parts.Op.TheVariants.{Single, Many, OneOf, And}
use Rattle.plan_base.specs.Feasible.{IsFeasible, AreOfOneOneOf}
use Rattle.plan_base.specs.Requests.{IsKnown, IsKind}
use Rattle.plan_base.specs.declared.verdict.Reason.{Reason}
use Rattle.plan_base.specs.declared.verdict.Verdict.{Verdict}
use Rattle.plan_base.specs.Verdict.{IsCertified, IsFirstReason, IsVerdict, verdict_of}
use Rattle.desk_events.specs.declared.refusal.Refusal.{Refusal}
use Rattle.desk_events.specs.declared.refusal.Refusal.TheVariants.{Rejected, Stale}
use Rattle.plan_base.proofs.Lists.{AllPairs-map}
use Rattle.plan_base.proofs.Members.{pairs_right, pairs_from_map}
use Rattle.plan_base.proofs.Orders.{pairs_head, pairs_tail}
use Rattle.desk_runs.specs.declared.group.Group.{Group}
use Rattle.desk_runs.specs.declared.observation.Observation.{Observation}
use Rattle.desk_runs.specs.Clock.{has_begun}
use Rattle.desk_runs.specs.Numbers.{requests_of, is_request, has_request, is_pending_at, is_placed}
use Rattle.desk_runs.specs.Sound.{IsOneOfOnce, IsObservedAtMostOnce, placed_in}
use Rattle.plan_base.specs.Operators.{is_oneof}
use Rattle.desk_runs.specs.Adding.{CanPublish}
use Rattle.desk_runs.proofs.Adding.{published_sound}
use Rattle.desk_core.specs.declared.desk.Submitted.{Submitted}
use Rattle.desk_core.specs.Desk.{DeskSeen}
use Rattle.desk_core.specs.Kept.{IsDesk}
use Rattle.desk_core.specs.DeskSnapshot.{first_slice, has_running, listed_groups, group_part, snapshot_of}
use Rattle.desk_core.specs.Publishing.{observed, with_publication, rejection, on_publish, IsJudged}
use Rattle.desk_core.proofs.SnapshotLists.{pairs_append}
use Rattle.desk_core.proofs.SnapshotSpans.{horizon}
use Rattle.desk_core.proofs.SnapshotGroups.{counted_rise, groups_rise}
use Rattle.desk_core.proofs.ListedRequests.{AreBefore, any_found, any_there, same_group, IsWaitingAt, waits_at}

-- ---- what may be published

abbrev pub kept_of : DeskSeen → Claim → List Observation
kept_of d claim = map (observed d) claim.placements

known_at : (version : ℕ) (d : DeskSeen) (claim : Claim) → IsFeasible (snapshot_of version d) claim.placements
    → All (λ p. IsWaitingAt version d p.request) claim.placements
known_at version d claim f k e lt = waits_at version d (get_or claim.placements k e).request (f.possible k e lt).known

kept_pending : (version : ℕ) (d : DeskSeen) (claim : Claim) → IsFeasible (snapshot_of version d) claim.placements
    → All (λ o. is_pending_at d.progress.groups o.request ≡ true) (kept_of d claim)
kept_pending version d claim f =
    All-map (λ o. is_pending_at d.progress.groups o.request ≡ true) (observed d) claim.placements (λ k e lt. (known_at version d claim f k e lt).pending)

kept_later : (version : ℕ) (d : DeskSeen) (claim : Claim) → IsDesk d → IsFeasible (snapshot_of version d) claim.placements
    → All (λ o. has_begun d.progress.len d.progress.moment o ≡ false) (kept_of d claim)
kept_later version d claim h f =
    All-map (λ o. has_begun d.progress.len d.progress.moment o ≡ false) (observed d) claim.placements (λ k e lt.
    let p = get_or claim.placements k e in
    let begins : first_slice d ≤ p.slice.0 = (f.possible k e lt).begins in
    let later = (horizon d h).later in
    let start : first_slice d * d.opening.slice ≤ p.slice.0 * d.opening.slice = mul-le-mul_right d.opening.slice begins in
    let len : p.slice.0 * d.progress.len ≡ p.slice.0 * d.opening.slice = ap (λ n. p.slice.0 * n) h.len in
    let past : d.progress.moment.0 ≤ p.slice.0 * d.progress.len = omega arith in
    grind (arith, nat_tests))

none_counted : {X : Type 0} (p : X → Bool) (xs : List X) → All (λ x. p x ≡ false) xs → count_by p xs ≡ 0
none_counted p [] h = refl
none_counted p (x ∷ xs) h =
    let here : cond {A = ℕ} (p x) 1 0 ≡ 0 = ap (λ b. cond {A = ℕ} b 1 0) (All-head (λ y. p y ≡ false) x xs h) in
    omega (arith, sum_by-cons (λ y. cond (p y) 1 0) x xs, here, none_counted p xs (All-tail (λ y. p y ≡ false) x xs h))

one_first : {X : Type 0} (p : X → Bool) (x : X) (xs : List X) → All (λ y. p x ≡ true → p y ≡ true → ⊥) xs → count_by p xs ≤ 1 → (b : Bool) → p x ≡ b
    → count_by p (x ∷ xs) ≤ 1
one_first p x xs apart rest true e =
    let here : cond {A = ℕ} (p x) 1 0 ≡ 1 = ap (λ b. cond {A = ℕ} b 1 0) e in
    let none : count_by p xs ≡ 0 = none_counted p xs (λ k d lt. false_from_ne_true _ (apart k d lt e)) in
    omega (arith, sum_by-cons (λ y. cond (p y) 1 0) x xs, here, none)
one_first p x xs apart rest false e =
    let here : cond {A = ℕ} (p x) 1 0 ≡ 0 = ap (λ b. cond {A = ℕ} b 1 0) e in
    omega (arith, sum_by-cons (λ y. cond (p y) 1 0) x xs, here, rest)

-- at most one of the elements passes
at_most_one : {X : Type 0} (p : X → Bool) (xs : List X) → AllPairs (λ a b. p a ≡ true → p b ≡ true → ⊥) xs → count_by p xs ≤ 1
at_most_one p [] h = omega arith
at_most_one p (x ∷ xs) h =
    one_first p x xs (pairs_head (λ a b. p a ≡ true → p b ≡ true → ⊥) x xs h)
    (at_most_one p xs (pairs_tail (λ a b. p a ≡ true → p b ≡ true → ⊥) x xs h)) (p x) refl

-- a listed group stands at one place
same_index : (d : DeskSeen) → IsDesk d → (i j : ℕ) (p q : Submitted × Group) → i < j → j < length (listed_groups d) → get_or (listed_groups d) i p ≡ p
    → get_or (listed_groups d) j q ≡ q
    → p.1.number.0 ≡ q.1.number.0 → ⊥
same_index d h i j p q lt in_range one other same =
    let rise = pairs_from_map (λ x y. x.group.0 < y.group.0) (group_part d) (listed_groups d) (groups_rise d h) i j p lt in_range in
    let second : get_or (listed_groups d) j p ≡ q = get_or_default (listed_groups d) j p q in_range ∙ other in
    omega (arith, rise, ap (λ (r : Submitted × Group). r.1.number.0) one, ap (λ (r : Submitted × Group). r.1.number.0) second, same)

one_place : (d : DeskSeen) → IsDesk d → (i j : ℕ) (p q : Submitted × Group) → i < length (listed_groups d) → j < length (listed_groups d)
    → get_or (listed_groups d) i p ≡ p
    → get_or (listed_groups d) j q ≡ q → p.1.number.0 ≡ q.1.number.0 → i ≡ j
one_place d h i j p q left right one other same = elim (cases_lt i j) [
  | inl lt ↦ absurd (same_index d h i j p q lt right one other same)
  | inr ge ↦ elim (cases_lt j i) [
    | inl lt ↦ absurd (same_index d h j i q p lt left other one (sym same))
    | inr le ↦ omega arith
  ]
]

is_one_of : (op : Op) → is_oneof op ≡ true → op ≡ OneOf
is_one_of Single e = cc
is_one_of Many e = cc
is_one_of OneOf e = refl
is_one_of And e = cc

-- two requests of one group are of one ONEOF
of_one : (version : ℕ) (d : DeskSeen) (a b : Placement) (g : Group) → IsDesk d → is_oneof g.op ≡ true → IsKnown (snapshot_of version d) a.request.0
    → IsKnown (snapshot_of version d) b.request.0
    → (one : IsWaitingAt version d a.request) (other : IsWaitingAt version d b.request) → g ≡ one.pair.1 → g ≡ other.pair.1
    → AreOfOneOneOf (snapshot_of version d) a.request.0 b.request.0
of_one version d a b g h oneof known_a known_b one other same_a same_b =
    let place : one.index ≡ other.index
    = one_place d h one.index other.index one.pair other.pair one.in_range other.in_range one.stands other.stands
    (ap (λ (x : Group). x.number.0) (sym same_a ∙ same_b))
    in
    let kind : IsKind (snapshot_of version d) OneOf one.index
    = λ e. ap (λ (x : GroupPart). x.op) (get_or-map (group_part d) (listed_groups d) one.index one.pair e one.in_range ∙ ap (group_part d) one.stands)
    ∙ ap (λ (x : Group). x.op) (sym same_a) ∙ is_one_of g.op oneof
    in (one.index, kind, (known_a, one.group_is), (known_b, other.group_is ∙ sym place))

before_of : (d : DeskSeen) → IsDesk d → AreBefore (requests_of d.progress.groups)
before_of d h = counted_rise (λ q. q.number.0) (requests_of d.progress.groups) h.sound.numbered.requests

-- no running observation is of a group that doesn't run
none_running : (d : DeskSeen) (g : Group) → has_running d g ≡ false → All (λ o. has_request o.request g ≡ false) d.progress.running
none_running d g idle i e lt = false_from_ne_true _ (λ has.
    let o = get_or d.progress.running i e in
    let q = any_found (is_request o.request) g.requests has in
    let placed : is_placed d.progress.running q.0.number ≡ true
    = any_there (λ r. r.request.0 == q.0.number.0) d.progress.running o (Contains-get_or d.progress.running i e lt)
    (eq-eqb o.request.0 q.0.number.0 (sym (eqb-true q.0.number.0 o.request.0 q.2)))
    in
    let runs : has_running d g ≡ true = any_there (λ r. is_placed d.progress.running r.number) g.requests q.0 q.1 placed in
    cc)

-- of a ONEOF at most one request is observed
once_by : (version : ℕ) (d : DeskSeen) (claim : Claim) → IsDesk d → IsFeasible (snapshot_of version d) claim.placements → (g : Group)
    → Contains d.progress.groups g
    → is_oneof g.op ≡ true → placed_in g (d.progress.kept ++ d.progress.running) ≤ 1 → (b : Bool) → has_running d g ≡ b
    → placed_in g (kept_of d claim ++ d.progress.running) ≤ 1
once_by version d claim h f g there oneof old true runs =
    let none : All (λ o. has_request o.request g ≡ false) (kept_of d claim)
    = All-map (λ o. has_request o.request g ≡ false) (observed d) claim.placements (λ k e lt. false_from_ne_true _ (λ has.
    let w = known_at version d claim f k e lt in
    let same : g ≡ w.pair.1 = same_group d.progress.groups (get_or claim.placements k e).request g w.pair.1 (before_of d h) there w.there has w.has in
    let free : (is_oneof g.op && has_running d g) ≡ false = ap (λ (x : Group). is_oneof x.op && has_running d x) same ∙ w.free in
    grind (arith, oneof, runs, free)))
    in
    omega (
      arith,
      sum_by-append (λ (o : Observation). cond (has_request o.request g) 1 0) (kept_of d claim) d.progress.running,
      sum_by-append (λ (o : Observation). cond (has_request o.request g) 1 0) d.progress.kept d.progress.running,
      none_counted (λ (o : Observation). has_request o.request g) (kept_of d claim) none,
      old,
    )
once_by version d claim h f g there oneof old false runs =
    let plan = claim.placements in
    let apart : AllPairs (λ a b. AreOfOneOneOf (snapshot_of version d) a.request.0 b.request.0 → ⊥) plan
    = pairs_from_map (λ a b. AreOfOneOneOf (snapshot_of version d) a b → ⊥) (λ (p : Placement). p.request.0) plan f.oneof_once
    in
    let single : count_by (λ o. has_request o.request g) (kept_of d claim) ≤ 1
    = at_most_one (λ o. has_request o.request g) (kept_of d claim)
    (AllPairs-map (λ a b. has_request a.request g ≡ true → has_request b.request g ≡ true → ⊥) (observed d) plan (λ i j e lt in_range one other.
    let first : i < length plan = omega arith in
    let a = known_at version d claim f i e first in
    let b = known_at version d claim f j e in_range in
    apart i j e lt in_range
    (of_one version d (get_or plan i e) (get_or plan j e) g h oneof (f.possible i e first).known (f.possible j e in_range).known a b
    (same_group d.progress.groups (get_or plan i e).request g a.pair.1 (before_of d h) there a.there one a.has)
    (same_group d.progress.groups (get_or plan j e).request g b.pair.1 (before_of d h) there b.there other b.has))))
    in
    omega (
      arith,
      sum_by-append (λ (o : Observation). cond (has_request o.request g) 1 0) (kept_of d claim) d.progress.running,
      none_counted (λ (o : Observation). has_request o.request g) d.progress.running (none_running d g runs),
      single,
    )

kept_once : (version : ℕ) (d : DeskSeen) (claim : Claim) → IsDesk d → IsFeasible (snapshot_of version d) claim.placements
    → IsOneOfOnce d.progress.groups (kept_of d claim ++ d.progress.running)
kept_once version d claim h f k e lt oneof =
    let g = get_or d.progress.groups k e in
    once_by version d claim h f g (Contains-get_or d.progress.groups k e lt) oneof (h.sound.once k e lt oneof) (has_running d g) refl

-- a feasible plan may be published
pub can_publish : (version : ℕ) (d : DeskSeen) (claim : Claim) → IsDesk d → IsFeasible (snapshot_of version d) claim.placements
    → CanPublish (kept_of d claim) d.progress
can_publish version d claim h f =
    record { pending = kept_pending version d claim f; begun = kept_later version d claim h f; once = kept_once version d claim h f }

-- no request is observed twice
kept_apart : (version : ℕ) (d : DeskSeen) (claim : Claim) → IsDesk d → IsFeasible (snapshot_of version d) claim.placements
    → IsObservedAtMostOnce (kept_of d claim ++ d.progress.running)
kept_apart version d claim h f =
    pairs_append (λ a b. a.request.0 ≢ b.request.0) (kept_of d claim) d.progress.running
    (AllPairs-map (λ a b. a.request.0 ≢ b.request.0) (observed d) claim.placements
    (pairs_from_map (λ a b. a ≢ b) (λ (p : Placement). p.request.0) claim.placements f.once))
    (pairs_right (λ a b. a.request.0 ≢ b.request.0) d.progress.kept d.progress.running h.once)
    (All-map (λ a. All (λ b. a.request.0 ≢ b.request.0) d.progress.running) (observed d) claim.placements (λ k e lt i o in_range same.
    let p = get_or claim.placements k e in
    let r = get_or d.progress.running i o in
    let placed : is_placed d.progress.running p.request ≡ true
    = any_there (λ b. b.request.0 == p.request.0) d.progress.running r (Contains-get_or d.progress.running i o in_range)
    (eq-eqb r.request.0 p.request.0 (sym same))
    in
    let idle : is_placed d.progress.running p.request ≡ false = (known_at version d claim f k e lt).idle in
    cc))

-- ---- the desk

-- the publication of a certified claim keeps the desk
pub publication_keeps : (version : ℕ) (d : DeskSeen) (claim : Claim) → IsDesk d → IsCertified (snapshot_of version d) claim
    → IsDesk (with_publication version claim d)
publication_keeps version d claim h certified = record {
  opening = h.opening;
  len = h.len;
  moment = h.moment;
  sound = published_sound d.progress (kept_of d claim) h.sound (can_publish version d claim h certified.feasible);
  along = h.along;
  pending = h.pending;
  once = kept_apart version d claim h certified.feasible;
  held = h.held;
  granted = h.granted;
  charged = h.charged;
  closures = h.closures;
  published = certified;
}

-- a claim with a verdict that isn't a rejection is certified
pub certified_by : (version : ℕ) (d : DeskSeen) (claim : Claim) (verdict : Verdict) → IsVerdict (snapshot_of version d) claim verdict → rejection verdict ≡ None
    → IsCertified (snapshot_of version d) claim
certified_by version d claim verdict judged allowed = by_reason judged.0 judged.1 judged.2
  where
    by_reason : (found : Option Reason) → IsFirstReason (snapshot_of version d) claim found → verdict ≡ verdict_of claim found
        → IsCertified (snapshot_of version d) claim
    by_reason None first is = first
    by_reason (Some reason) first is = let refused : Some (Rejected reason) ≡ None = ap rejection (sym is) ∙ allowed in absurd (cc)

not_stale : (b : Bool) (r : Option Refusal) (stale : Refusal) → cond b r (Some stale) ≡ None → (b ≡ true) × (r ≡ None)
not_stale true r stale e = (refl, e)
not_stale false r stale e = cc

-- `publish` keeps the desk
pub publish_keeps : (verdict : Verdict) (version : ℕ) (d : DeskSeen) (asked : ℕ) (claim : Claim) → IsDesk d → IsJudged version d asked claim verdict
    → (on_publish verdict version d asked claim).refusal ≡ None → IsDesk (on_publish verdict version d asked claim).desk
publish_keeps verdict version d asked claim h judged allowed =
    let both = not_stale (asked == version) (rejection verdict) (Stale asked version) allowed in
    publication_keeps version d claim h (certified_by version d claim verdict (judged (eqb-true asked version both.0)) both.1)
