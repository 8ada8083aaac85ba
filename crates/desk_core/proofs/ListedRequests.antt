-- Where the requests of the snapshot stand on the desk.
use Rattle.std.proofs.Common.{◌≡◌, ℕ, suc, ◌+◌, ◌<◌, Bool, true, false, not, ◌&&◌, List, [], ◌∷◌, length, get_or, map, refl}
use Rattle.std.proofs.Common.{sym, ap, ◌∙◌, subst, inl, inr, arith, nat_lt, Option}
use Rattle.std.specs.Prelude.{All, AllPairs, Contains}
use Rattle.std.specs.List.{zip, list_any, flat_map}
use Rattle.std.proofs.lemmas.Bool.{and_parts, or_cases, eqb-true, eq-eqb}
use Rattle.std.proofs.lemmas.List.{get_or_default}
use Rattle.std.proofs.lemmas.List.Elements.{All-nil, All-weaker, All-map, All-append, All-filter, All-contains, All-contains_itself}
use Rattle.std.proofs.lemmas.List.Elements.{Contains-append_left, Contains-append_right, filter_passes}
use Rattle.std.proofs.lemmas.List.Folds.{list_any_at}
use Rattle.plan_base.specs.declared.number.RequestNo.{RequestNo}
use Rattle.plan_base.specs.Requests.{Listed, listed, listed_from, IsKnown, group_of}
use Rattle.plan_base.specs.States.{is_pending}
use Rattle.plan_base.proofs.Here.{element_at}
use Rattle.plan_base.proofs.Known.{known_as, known_or_is}
use Rattle.plan_base.proofs.Members.{pairs_right}
use Rattle.plan_base.proofs.Orders.{contains_cases, contains_first, contains_rest}
use Rattle.desk_runs.specs.declared.group.Group.{Group}
use Rattle.desk_runs.specs.declared.group.Request.{Request}
use Rattle.desk_runs.specs.Clock.{is_waiting}
use Rattle.desk_runs.specs.Numbers.{requests_of, is_request, has_request, is_pending_at, is_placed}
use Rattle.plan_base.specs.Operators.{is_oneof}
use Rattle.desk_core.specs.declared.desk.Submitted.{Submitted}
use Rattle.desk_core.specs.declared.desk.Wanted.{Wanted}
use Rattle.desk_core.specs.Desk.{DeskSeen}
use Rattle.desk_core.specs.DeskSnapshot.{both_of, request_part, waiting_of, has_running, is_listed, listed_groups, group_part, snapshot_of}
use Rattle.desk_core.proofs.SnapshotLists.{across, all_firsts, all_seconds}

-- ---- where a request of the snapshot stands on the desk

-- the request of the snapshot is a waiting member of this listed group
pub record IsHome (d : DeskSeen) (ps : List (Submitted × Group)) (b : ℕ) (x : Listed) : Type 0 where
  pub index : ℕ
  pub group : Submitted × Group
  pub member : Request × Wanted
  pub in_range : index < length ps
  pub stands : get_or ps index group ≡ group
  pub waits : Contains (waiting_of d group) member
  pub is : x.request ≡ request_part d member
  pub place : x.group ≡ b + index

homes_first : (d : DeskSeen) (b : ℕ) (p : Submitted × Group) (ps : List (Submitted × Group)) (quota : Option ℕ)
    → All (IsHome d (p ∷ ps) b) (map (λ q. record { group = b; quota = quota; request = q }) (map (request_part d) (waiting_of d p)))
homes_first d b p ps quota =
    All-map (IsHome d (p ∷ ps) b) (λ q. record { group = b; quota = quota; request = q }) (map (request_part d) (waiting_of d p))
    (All-map (λ q. IsHome d (p ∷ ps) b record { group = b; quota = quota; request = q }) (request_part d) (waiting_of d p) (λ k e lt.
    let here = element_at (waiting_of d p) k lt in
    record {
      index = 0;
      group = p;
      member = here.0;
      in_range = omega arith;
      stands = refl;
      waits = (k, lt, here.1);
      is = ap (request_part d) (get_or_default (waiting_of d p) k e here.0 lt ∙ here.1);
      place = omega arith;
    }))

homes_later : (d : DeskSeen) (b : ℕ) (p : Submitted × Group) (ps : List (Submitted × Group)) (x : Listed) → IsHome d ps (suc b) x → IsHome d (p ∷ ps) b x
homes_later d b p ps x h = record {
  index = suc h.index;
  group = h.group;
  member = h.member;
  in_range = let lt = h.in_range in omega arith;
  stands = h.stands;
  waits = h.waits;
  is = h.is;
  place = let e = h.place in omega (arith, e);
}

homes : (d : DeskSeen) (b : ℕ) (ps : List (Submitted × Group)) → All (IsHome d ps b) (listed_from b (map (group_part d) ps))
homes d b [] = All-nil (IsHome d [] b)
homes d b (p ∷ ps) =
    All-append (IsHome d (p ∷ ps) b) (map (λ q. record { group = b; quota = (group_part d p).quota; request = q }) (map (request_part d) (waiting_of d p)))
    (listed_from (suc b) (map (group_part d) ps)) (homes_first d b p ps (group_part d p).quota)
    (All-weaker (IsHome d ps (suc b)) (IsHome d (p ∷ ps) b) (homes_later d b p ps) (listed_from (suc b) (map (group_part d) ps)) (homes d (suc b) ps))

-- the home of a known request, by its number
pub record IsHomeOf (version : ℕ) (d : DeskSeen) (r : ℕ) : Type 0 where
  pub listed : Listed
  pub home : IsHome d (listed_groups d) 0 listed
  pub number : home.member.0.number.0 ≡ r
  pub group_is : group_of (snapshot_of version d) r ≡ home.index

pub home_of : (version : ℕ) (d : DeskSeen) (r : ℕ) → IsKnown (snapshot_of version d) r → IsHomeOf version d r
home_of version d r known =
    let s = snapshot_of version d in
    let found = known_as s r known in
    let home : IsHome d (listed_groups d) 0 found.0 =
    All-contains (IsHome d (listed_groups d) 0) (listed s) found.0 (homes d 0 (listed_groups d)) found.1.in_list in
    record {
      listed = found.0;
      home = home;
      number = sym (ap (λ q. q.request.0) home.is) ∙ found.1.number;
      group_is = known_or_is (λ x. x.group) 0 s r found.0 known found.1 ∙ home.place ∙ (omega arith);
    }

-- ---- groups by their requests

pub any_found : {X : Type 0} (p : X → Bool) (xs : List X) → list_any p xs ≡ true → (x : X) × Contains xs x × (p x ≡ true)
any_found p [] e = cc
any_found p (x ∷ xs) e = elim (or_cases (p x) (list_any p xs) e) [
  | inl here ↦ (x, contains_first x xs, here)
  | inr later ↦ let rest = any_found p xs later in (rest.0, contains_rest x rest.0 xs rest.1, rest.2)
]

pub any_there : {X : Type 0} (p : X → Bool) (xs : List X) (x : X) → Contains xs x → p x ≡ true → list_any p xs ≡ true
any_there p xs x there passes = list_any_at p xs there.0 x there.1 (ap p there.2 ∙ passes)

in_flat : {X Y : Type 0} (f : X → List Y) (xs : List X) (x : X) (y : Y) → Contains xs x → Contains (f x) y → Contains (flat_map f xs) y
in_flat f [] x y there has = absurd (omega (arith, there.1))
in_flat f (z ∷ xs) x y there has = elim (contains_cases z x xs there) [
  | inl same ↦ Contains-append_left (f z) (flat_map f xs) y (subst (λ w. Contains (f w) y) (sym same) has)
  | inr later ↦ Contains-append_right (f z) (flat_map f xs) y (in_flat f xs x y later has)
]

abbrev pub AreBefore : List Request → Type 0
AreBefore qs = AllPairs (λ q r. q.number.0 < r.number.0) qs

-- no later group has a request of the first
apart_first : (g : Group) (gs : List Group) (n : RequestNo) (h : Group) → AreBefore (requests_of (g ∷ gs)) → Contains gs h → has_request n g ≡ true
    → has_request n h ≡ true → ⊥
apart_first g gs n h before there one other =
    let q = any_found (is_request n) g.requests one in
    let r = any_found (is_request n) h.requests other in
    let lt : q.0.number.0 < r.0.number.0
    = All-contains (λ t. q.0.number.0 < t.number.0) (requests_of gs) r.0
    (All-contains (λ t. All (λ u. t.number.0 < u.number.0) (requests_of gs)) g.requests q.0
    (across (λ t u. t.number.0 < u.number.0) g.requests (requests_of gs) before) q.1)
    (in_flat (λ x. x.requests) gs h r.0 there r.1)
    in omega (arith, lt, eqb-true q.0.number.0 n.0 q.2, eqb-true r.0.number.0 n.0 r.2)

-- a request is one of a single group
pub same_group : (gs : List Group) (n : RequestNo) (g h : Group) → AreBefore (requests_of gs) → Contains gs g → Contains gs h → has_request n g ≡ true
    → has_request n h ≡ true → g ≡ h
same_group [] n g h before one other has_one has_other = absurd (omega (arith, one.1))
same_group (x ∷ gs) n g h before one other has_one has_other = elim (contains_cases x g gs one) [
  | inl first ↦ elim (contains_cases x h gs other) [
    | inl second ↦ sym first ∙ second
    | inr later ↦ absurd (apart_first x gs n h before later (ap (has_request n) first ∙ has_one) has_other)
  ]
  | inr later ↦ elim (contains_cases x h gs other) [
    | inl second ↦ absurd (apart_first x gs n g before later (ap (has_request n) second ∙ has_other) has_one)
    | inr both ↦ same_group gs n g h (pairs_right (λ q r. q.number.0 < r.number.0) x.requests (requests_of gs) before) later both has_one has_other
  ]
]

-- ---- a request of the snapshot on the desk

pub record IsWaitingAt (version : ℕ) (d : DeskSeen) (n : RequestNo) : Type 0 where
  pub index : ℕ
  pub pair : Submitted × Group
  pub in_range : index < length (listed_groups d)
  pub stands : get_or (listed_groups d) index pair ≡ pair
  pub there : Contains d.progress.groups pair.1
  pub has : has_request n pair.1 ≡ true
  pub pending : is_pending_at d.progress.groups n ≡ true
  pub idle : is_placed d.progress.running n ≡ false
  pub free : (is_oneof pair.1.op && has_running d pair.1) ≡ false
  pub group_is : group_of (snapshot_of version d) n.0 ≡ index

members_of_group : (d : DeskSeen) (p : Submitted × Group) → All (λ m. Contains p.1.requests m.0) (waiting_of d p)
members_of_group d p =
    All-filter (λ m. is_waiting d.progress.running m.0) (λ m. Contains p.1.requests m.0) (zip p.1.requests p.0.requests)
    (all_firsts (Contains p.1.requests) p.1.requests p.0.requests (All-contains_itself p.1.requests))

groups_of_desk : (d : DeskSeen) → All (λ p. Contains d.progress.groups p.1) (listed_groups d)
groups_of_desk d =
    All-filter (is_listed d) (λ p. Contains d.progress.groups p.1) (both_of d)
    (all_seconds (Contains d.progress.groups) d.groups d.progress.groups (All-contains_itself d.progress.groups))

pub waits_at : (version : ℕ) (d : DeskSeen) (n : RequestNo) → IsKnown (snapshot_of version d) n.0 → IsWaitingAt version d n
waits_at version d n known =
    let at = home_of version d n.0 known in
    let home = at.home in
    let p = home.group in
    let m = home.member in
    let listed : Contains (listed_groups d) p = (home.index, home.in_range, home.stands) in
    let waits : is_waiting d.progress.running m.0 ≡ true
    = All-contains (λ k. is_waiting d.progress.running k.0 ≡ true) (waiting_of d p) m
    (filter_passes (λ k. is_waiting d.progress.running k.0) (zip p.1.requests p.0.requests)) home.waits
    in
    let parts = and_parts (is_pending m.0.state) (not (is_placed d.progress.running m.0.number)) waits in
    let number : m.0.number ≡ n = ap (λ k. record { 0 = k }) at.number in
    let inside : Contains p.1.requests m.0 = All-contains (λ k. Contains p.1.requests k.0) (waiting_of d p) m (members_of_group d p) home.waits in
    let there : Contains d.progress.groups p.1 = All-contains (λ q. Contains d.progress.groups q.1) (listed_groups d) p (groups_of_desk d) listed in
    let test : is_request n m.0 ≡ true = eq-eqb m.0.number.0 n.0 at.number in
    let passes : is_listed d p ≡ true = All-contains (λ q. is_listed d q ≡ true) (listed_groups d) p (filter_passes (is_listed d) (both_of d)) listed in
    record {
      index = home.index;
      pair = p;
      in_range = home.in_range;
      stands = home.stands;
      there = there;
      has = any_there (is_request n) p.1.requests m.0 inside test;
      pending = any_there (λ g. list_any (λ q. is_request n q && is_pending q.state) g.requests) d.progress.groups p.1 there
          (any_there (λ q. is_request n q && is_pending q.state) p.1.requests m.0 inside (both_true (is_request n m.0) (is_pending m.0.state) test parts.0));
      idle = ap (is_placed d.progress.running) (sym number) ∙ not_true (is_placed d.progress.running m.0.number) parts.1;
      free = not_true (is_oneof p.1.op && has_running d p.1)
          (and_parts (not (is_oneof p.1.op && has_running d p.1)) (nat_lt 0 (length (waiting_of d p))) passes).0;
      group_is = at.group_is;
    }
  where
    both_true : (a b : Bool) → a ≡ true → b ≡ true → (a && b) ≡ true
    both_true a b one other = grind (arith, one, other)

    not_true : (b : Bool) → not b ≡ true → b ≡ false
    not_true true e = cc
    not_true false e = refl
