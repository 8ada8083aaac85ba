-- The groups of the snapshot: what is so of each request, how many there are, and that they rise.
use Rattle.std.proofs.Common.{◌≡◌, ℕ, ◌+◌, ◌<◌, ◌≤◌, Bool, true, false, cond, not, ◌&&◌, List, [], ◌∷◌, ◌++◌, length, get_or, map, refl, sym, ap, ◌∙◌, subst}
use Rattle.std.proofs.Common.{arith, nat_lt}
use Rattle.std.specs.Prelude.{filter, count_by, sum_by, All, AllPairs}
use Rattle.std.specs.List.{zip, flat_map, AllZip}
use Rattle.std.proofs.lemmas.Bool.{and_parts, ltb-true}
use Rattle.std.proofs.lemmas.List.{length-map, map-append, get_or-map}
use Rattle.std.proofs.lemmas.List.Elements.{All-nil, All-cons, All-head, All-tail, All-weaker, All-map, All-filter, All-append, filter_passes}
use Rattle.std.proofs.lemmas.List.Kept.{AllPairs-filter}
use Rattle.std.proofs.lemmas.List.Sums.{sum_by-cons, length-filter, count_by-le-length}
use Rattle.plan_base.specs.declared.parts.RequestPart.{RequestPart}
use Rattle.plan_base.specs.Faults.{all_requests}
use Rattle.plan_base.specs.Requests.{listed}
use Rattle.plan_base.specs.Snapshot.{most_requests}
use Rattle.plan_base.specs.States.{is_pending}
use Rattle.plan_base.proofs.FaultLemmas.{requests-listed, length-listed}
use Rattle.plan_base.proofs.Lists.{AllPairs-map}
use Rattle.plan_base.proofs.Members.{pairs_left, pairs_right, pairs_from_map}
use Rattle.desk_runs.specs.declared.group.Group.{Group}
use Rattle.desk_runs.specs.declared.group.Request.{Request}
use Rattle.desk_runs.specs.declared.observation.Observation.{Observation}
use Rattle.desk_runs.specs.Clock.{is_waiting}
use Rattle.desk_runs.specs.Numbers.{requests_of, is_placed}
use Rattle.plan_base.specs.Operators.{is_oneof}
use Rattle.desk_runs.specs.Owners.{pending_count}
use Rattle.desk_runs.specs.Sound.{IsCounted}
use Rattle.desk_core.specs.declared.desk.Submitted.{Submitted}
use Rattle.desk_core.specs.declared.desk.Wanted.{Wanted}
use Rattle.desk_core.specs.Desk.{DeskSeen}
use Rattle.desk_core.specs.Kept.{IsDesk, IsAlong, LastsADay, IsWanted}
use Rattle.desk_core.specs.DeskSnapshot.{both_of, request_part, waiting_of, has_running, is_listed, listed_groups, group_part, snapshot_of}
use Rattle.plan_base.proofs.Lists.{all_flat}
use Rattle.desk_core.proofs.SnapshotLists.{all_zip, all_seconds, all_firsts, pairs_firsts, pairs_seconds, pairs_append, across, all_left, all_right}
use Rattle.desk_core.proofs.SnapshotLists.{length_zip, less_filtered, less_each, less_seconds, count_flat, no_more}

-- ---- what is so of each request

-- a request with what is wanted of it, where so many targets are numbered
pub record IsMember (targets : ℕ) (m : Request × Wanted) : Type 0 where
  pub asked : LastsADay m.0
  pub wanted : IsWanted targets m.1

abbrev pub target_count : DeskSeen → ℕ
target_count d = length d.network.registry.targets

-- each group of a kept desk is along
pub along : (d : DeskSeen) → IsDesk d → All (λ p. IsAlong (target_count d) p.0 p.1) (both_of d)
along d h = all_zip (IsAlong (target_count d)) d.groups d.progress.groups h.along

-- .. and so is each that is listed
pub listed_along : (d : DeskSeen) → IsDesk d → All (λ p. IsAlong (target_count d) p.0 p.1) (listed_groups d)
listed_along d h = All-filter (is_listed d) (λ p. IsAlong (target_count d) p.0 p.1) (both_of d) (along d h)

pub members : (d : DeskSeen) (p : Submitted × Group) → IsAlong (target_count d) p.0 p.1 → All (IsMember (target_count d)) (waiting_of d p)
members d p h =
    All-filter (λ m. is_waiting d.progress.running m.0) (IsMember (target_count d)) (zip p.1.requests p.0.requests) (λ k e lt. record {
      asked = all_firsts LastsADay p.1.requests p.0.requests h.asked k e lt;
      wanted = all_seconds (IsWanted (target_count d)) p.1.requests p.0.requests h.wanted k e lt;
    })

-- what is so of the part of each member is so of each request
pub each_request : (d : DeskSeen) → IsDesk d → (P : RequestPart → Type 0) → ((m : Request × Wanted) → IsMember (target_count d) m → P (request_part d m))
    → All P (all_requests (map (group_part d) (listed_groups d)))
each_request d h P each =
    all_flat P (λ x. x.requests) (map (group_part d) (listed_groups d)) (All-map (λ x. All P x.requests) (group_part d) (listed_groups d)
    (All-weaker (λ p. IsAlong (target_count d) p.0 p.1) (λ p. All P (map (request_part d) (waiting_of d p)))
    (λ p along. All-map P (request_part d) (waiting_of d p)
    (All-weaker (IsMember (target_count d)) (λ m. P (request_part d m)) each (waiting_of d p) (members d p along)))
    (listed_groups d) (listed_along d h)))

pub all_from_map : {X Y : Type 0} (P : Y → Type 0) (f : X → Y) (xs : List X) → All P (map f xs) → All (λ x. P (f x)) xs
all_from_map P f [] h = All-nil (λ x. P (f x))
all_from_map P f (x ∷ xs) h = All-cons (λ y. P (f y)) x xs (All-head P (f x) (map f xs) h) (all_from_map P f xs (All-tail P (f x) (map f xs) h))

pub each_listed : (version : ℕ) (d : DeskSeen) → IsDesk d → (P : RequestPart → Type 0)
    → ((m : Request × Wanted) → IsMember (target_count d) m → P (request_part d m))
    → All (λ x. P x.request) (listed (snapshot_of version d))
each_listed version d h P each =
    let s = snapshot_of version d in
    all_from_map P (λ x. x.request) (listed s) (subst (All P) (sym (requests-listed 0 s.groups)) (each_request d h P each))

-- ---- how many there are

waiting_step : (pending placed : Bool) (n m : ℕ) → n ≤ m → cond (pending && not placed) 1 0 + n ≤ cond pending 1 0 + m
waiting_step true true n m le = omega arith
waiting_step true false n m le = omega arith
waiting_step false placed n m le = omega arith

-- no more requests are waiting than are pending
waiting_few : (running : List Observation) (qs : List Request) (ws : List Wanted)
    → count_by (λ m. is_waiting running m.0) (zip qs ws) ≤ count_by (λ q. is_pending q.state) qs
waiting_few running [] ws = omega arith
waiting_few running (q ∷ qs) [] = omega arith
waiting_few running (q ∷ qs) (w ∷ ws) =
    let both : List (Request × Wanted) = zip qs ws in
    omega (
      arith,
      waiting_step (is_pending q.state) (is_placed running q.number) (count_by (λ m. is_waiting running m.0) both)
          (count_by (λ r. is_pending r.state) qs) (waiting_few running qs ws),
      sum_by-cons (λ m. cond (is_waiting running m.0) 1 0) (q, w) both,
      sum_by-cons (λ (r : Request). cond (is_pending r.state) 1 0) q qs,
    )

waiting_pending : (d : DeskSeen) (p : Submitted × Group) → length (waiting_of d p) ≤ count_by (λ q. is_pending q.state) p.1.requests
waiting_pending d p =
    omega (
      arith,
      length-filter (λ (m : Request × Wanted). is_waiting d.progress.running m.0) (zip p.1.requests p.0.requests),
      waiting_few d.progress.running p.1.requests p.0.requests,
    )

waiting_most : (d : DeskSeen) (p : Submitted × Group) → length (waiting_of d p) ≤ length p.1.requests
waiting_most d p =
    let both : List (Request × Wanted) = zip p.1.requests p.0.requests in
    let test : Request × Wanted → Bool = λ m. is_waiting d.progress.running m.0 in
    omega (arith, length-filter test both, count_by-le-length test both, length_zip p.1.requests p.0.requests)

-- the requests of listed groups are no more than are pending
pub waiting_count : (d : DeskSeen) → sum_by (λ p. length (waiting_of d p)) (listed_groups d) ≤ pending_count d.progress.groups
waiting_count d =
    let pending : Submitted × Group → ℕ = λ p. count_by (λ q. is_pending q.state) p.1.requests in
    let one : sum_by (λ p. length (waiting_of d p)) (listed_groups d) ≤ sum_by pending (listed_groups d)
    = less_each (λ p. length (waiting_of d p)) pending (listed_groups d) (λ k e lt. waiting_pending d (get_or (listed_groups d) k e))
    in
    let two : sum_by pending (listed_groups d) ≤ sum_by pending (both_of d) = less_filtered pending (is_listed d) (both_of d) in
    let three : sum_by pending (both_of d) ≤ sum_by (λ g. count_by (λ q. is_pending q.state) g.requests) d.progress.groups
    = less_seconds (λ g. count_by (λ q. is_pending q.state) g.requests) d.groups d.progress.groups
    in
    let four : pending_count d.progress.groups ≡ sum_by (λ g. count_by (λ q. is_pending q.state) g.requests) d.progress.groups
    = count_flat (λ q. is_pending q.state) (λ (g : Group). g.requests) d.progress.groups
    in omega arith

-- a listed group has a request
listed_some : (d : DeskSeen) → All (λ p. 1 ≤ length (waiting_of d p)) (listed_groups d)
listed_some d k e lt =
    let p = get_or (listed_groups d) k e in
    let passes : is_listed d p ≡ true = filter_passes (is_listed d) (both_of d) k e lt in
    let some : 0 < length (waiting_of d p) =
    ltb-true 0 (length (waiting_of d p)) (and_parts (not (is_oneof p.1.op && has_running d p.1)) (nat_lt 0 (length (waiting_of d p))) passes).1 in
    omega arith

pub sum_map : {X Y : Type 0} (f : Y → ℕ) (g : X → Y) (xs : List X) → sum_by f (map g xs) ≡ sum_by (λ x. f (g x)) xs
sum_map f g [] = refl
sum_map f g (x ∷ xs) = omega (arith, sum_by-cons f (g x) (map g xs), sum_by-cons (λ y. f (g y)) x xs, sum_map f g xs)

-- there are at most 1,024 requests ..
pub few_requests : (version : ℕ) (d : DeskSeen) → IsDesk d → length (listed (snapshot_of version d)) ≤ 1024
few_requests version d h =
    let s = snapshot_of version d in
    let parts : sum_by (λ x. length x.requests) s.groups ≡ sum_by (λ p. length (map (request_part d) (waiting_of d p))) (listed_groups d)
    = sum_map (λ x. length x.requests) (group_part d) (listed_groups d)
    in
    let same : sum_by (λ p. length (map (request_part d) (waiting_of d p))) (listed_groups d) ≤ sum_by (λ p. length (waiting_of d p)) (listed_groups d)
    = less_each (λ p. length (map (request_part d) (waiting_of d p))) (λ p. length (waiting_of d p)) (listed_groups d)
    (λ k e lt. omega (arith, length-map (waiting_of d (get_or (listed_groups d) k e)) (request_part d)))
    in omega (arith, length-listed s, parts, same, waiting_count d, h.pending)

-- .. and groups
pub few_groups : (d : DeskSeen) → IsDesk d → length (listed_groups d) ≤ 1024
few_groups d h =
    omega (arith, no_more (λ p. length (waiting_of d p)) (listed_groups d) (listed_some d), waiting_count d, h.pending)

-- each group has as many requests as its kind may have
pub shapes : (d : DeskSeen) → IsDesk d
    → All (λ x. (1 ≤ length x.requests) × (length x.requests ≤ most_requests x.op)) (map (group_part d) (listed_groups d))
shapes d h =
    All-map (λ x. (1 ≤ length x.requests) × (length x.requests ≤ most_requests x.op)) (group_part d) (listed_groups d) (λ k e lt.
    let p = get_or (listed_groups d) k e in
    let along : IsAlong (target_count d) p.0 p.1 = listed_along d h k e lt in
    let some : 1 ≤ length (waiting_of d p) = listed_some d k e lt in
    let same : length (map (request_part d) (waiting_of d p)) ≡ length (waiting_of d p) = length-map (waiting_of d p) (request_part d) in
    let few : length (waiting_of d p) ≤ length p.1.requests = waiting_most d p in
    (omega arith, omega (arith, along.shape.high)))

-- ---- that they rise

-- what is counted rises
pub counted_rise : {X : Type 0} (number : X → ℕ) (xs : List X) → IsCounted (map number xs) → AllPairs (λ x y. number x < number y) xs
counted_rise number xs h i j d lt in_range =
    let count : length (map number xs) ≡ length xs = length-map xs number in
    let one : number (get_or xs i d) ≡ i + 1 = sym (get_or-map number xs i d 0 (omega arith)) ∙ h i (omega arith) in
    let other : number (get_or xs j d) ≡ j + 1 = sym (get_or-map number xs j d 0 in_range) ∙ h j (omega arith) in
    omega arith

pub groups_rise : (d : DeskSeen) → IsDesk d → AllPairs (λ x y. x.group.0 < y.group.0) (map (group_part d) (listed_groups d))
groups_rise d h =
    AllPairs-map (λ x y. x.group.0 < y.group.0) (group_part d) (listed_groups d)
    (AllPairs-filter (λ p q. p.1.number.0 < q.1.number.0) (is_listed d) (both_of d)
    (pairs_seconds (λ g i. g.number.0 < i.number.0) d.groups d.progress.groups (counted_rise (λ g. g.number.0) d.progress.groups h.sound.numbered.groups)))

-- the numbers of requests rise
abbrev IsBefore : Request → Request → Type 0
IsBefore q r = q.number.0 < r.number.0

-- ---- parts of lists of groups

among_one : (P : Request → Type 0) (d : DeskSeen) (p : Submitted × Group) (ps : List (Submitted × Group)) → All (λ m. P m.0) (waiting_of d p)
    → All (λ m. P m.0) (flat_map (waiting_of d) ps) → (b : Bool) → All (λ m. P m.0) (flat_map (waiting_of d) (cond b (p ∷ ps) ps))
among_one P d p ps here rest true = All-append (λ m. P m.0) (waiting_of d p) (flat_map (waiting_of d) ps) here rest
among_one P d p ps here rest false = rest

waiting_all : (P : Request → Type 0) (d : DeskSeen) (p : Submitted × Group) → All P p.1.requests → All (λ m. P m.0) (waiting_of d p)
waiting_all P d p h =
    All-filter (λ m. is_waiting d.progress.running m.0) (λ m. P m.0) (zip p.1.requests p.0.requests) (all_firsts P p.1.requests p.0.requests h)

-- what is so of all requests is so of those that are listed
among : (P : Request → Type 0) (d : DeskSeen) (ps : List (Submitted × Group)) → All P (flat_map (λ p. p.1.requests) ps)
    → All (λ m. P m.0) (flat_map (waiting_of d) (filter (is_listed d) ps))
among P d [] h = All-nil (λ m. P m.0)
among P d (p ∷ ps) h =
    among_one P d p (filter (is_listed d) ps) (waiting_all P d p (all_left P p.1.requests (flat_map (λ q. q.1.requests) ps) h))
    (among P d ps (all_right P p.1.requests (flat_map (λ q. q.1.requests) ps) h)) (is_listed d p)

rise_one : (d : DeskSeen) (p : Submitted × Group) (ps : List (Submitted × Group)) → AllPairs (λ m n. IsBefore m.0 n.0) (waiting_of d p)
    → All (λ m. All (λ n. IsBefore m.0 n.0) (flat_map (waiting_of d) ps)) (waiting_of d p) → AllPairs (λ m n. IsBefore m.0 n.0) (flat_map (waiting_of d) ps)
    → (b : Bool) → AllPairs (λ m n. IsBefore m.0 n.0) (flat_map (waiting_of d) (cond b (p ∷ ps) ps))
rise_one d p ps here between rest true = pairs_append (λ m n. IsBefore m.0 n.0) (waiting_of d p) (flat_map (waiting_of d) ps) here rest between
rise_one d p ps here between rest false = rest

listed_rise : (d : DeskSeen) (ps : List (Submitted × Group)) → AllPairs IsBefore (flat_map (λ p. p.1.requests) ps)
    → AllPairs (λ m n. IsBefore m.0 n.0) (flat_map (waiting_of d) (filter (is_listed d) ps))
listed_rise d [] h = λ i j e l m. absurd (omega arith)
listed_rise d (p ∷ ps) h =
    let later : List Request = flat_map (λ q. q.1.requests) ps in
    let listed = filter (is_listed d) ps in
    rise_one d p listed
    (AllPairs-filter (λ m n. IsBefore m.0 n.0) (λ m. is_waiting d.progress.running m.0) (zip p.1.requests p.0.requests)
    (pairs_firsts IsBefore p.1.requests p.0.requests (pairs_left IsBefore p.1.requests later h)))
    (waiting_all (λ q. All (λ n. IsBefore q n.0) (flat_map (waiting_of d) listed)) d p
    (All-weaker (λ q. All (IsBefore q) later) (λ q. All (λ n. IsBefore q n.0) (flat_map (waiting_of d) listed)) (λ q all. among (IsBefore q) d ps all)
    p.1.requests (across IsBefore p.1.requests later h)))
    (listed_rise d ps (pairs_right IsBefore p.1.requests later h)) (is_listed d p)

-- all groups have all requests
pub all_of_both : (n : ℕ) (ws : List Submitted) (gs : List Group) → AllZip (IsAlong n) ws gs → flat_map (λ p. p.1.requests) (zip ws gs) ≡ requests_of gs
all_of_both n [] [] h = refl
all_of_both n [] (g ∷ gs) h = absurd h
all_of_both n (w ∷ ws) [] h = absurd h
all_of_both n (w ∷ ws) (g ∷ gs) h = ap (λ l. g.requests ++ l) (all_of_both n ws gs h.1)

-- the requests of the snapshot are the parts of those that are listed
pub all_parts : (d : DeskSeen) (ps : List (Submitted × Group)) → all_requests (map (group_part d) ps) ≡ map (request_part d) (flat_map (waiting_of d) ps)
all_parts d [] = refl
all_parts d (p ∷ ps) =
    ap (λ l. map (request_part d) (waiting_of d p) ++ l) (all_parts d ps) ∙ sym (map-append (request_part d) (waiting_of d p) (flat_map (waiting_of d) ps))

pub requests_rise : (version : ℕ) (d : DeskSeen) → IsDesk d → AllPairs (λ x y. x.request.request.0 < y.request.request.0) (listed (snapshot_of version d))
requests_rise version d h =
    let s = snapshot_of version d in
    let all : AllPairs IsBefore (flat_map (λ p. p.1.requests) (both_of d))
    = subst (AllPairs IsBefore) (sym (all_of_both (target_count d) d.groups d.progress.groups h.along))
    (counted_rise (λ q. q.number.0) (requests_of d.progress.groups) h.sound.numbered.requests)
    in
    let parts : AllPairs (λ a b. a.request.0 < b.request.0) (map (request_part d) (flat_map (waiting_of d) (listed_groups d)))
    = AllPairs-map (λ a b. a.request.0 < b.request.0) (request_part d) (flat_map (waiting_of d) (listed_groups d)) (listed_rise d (both_of d) all)
    in
    pairs_from_map (λ a b. a.request.0 < b.request.0) (λ x. x.request) (listed s)
    (subst (AllPairs (λ a b. a.request.0 < b.request.0)) (sym (all_parts d (listed_groups d)) ∙ sym (requests-listed 0 s.groups)) parts)
