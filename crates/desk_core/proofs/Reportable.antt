-- A report that completes a request may charge it.
use Rattle.std.proofs.Common.{◌≡◌, ℕ, zero, suc, ◌+◌, ◌-◌, ◌<◌, ◌≤◌, ◌==◌, Bool, true, false, not, ◌&&◌, List, [], ◌∷◌, length, map, fold, sum_by, All}
use Rattle.std.proofs.Common.{get_or, refl, sym, ◌∙◌, ap, subst, arith, inl, inr, Option, Some}
use Rattle.std.specs.Bool.{IsTrue}
use Rattle.std.specs.List.{AllZip, Contains, zip, slice_get}
use Rattle.std.proofs.lemmas.Bool.{and_right, or_cases, cases_Bool, eqb-true}
use Rattle.std.proofs.lemmas.List.{length-map, get_or-map}
use Rattle.std.proofs.lemmas.List.Elements.{All-nil, All-cons, All-head, All-tail, All-weaker}
use Rattle.std.proofs.lemmas.List.Sums.{sum_by-cons}
use Rattle.plan_base.specs.declared.number.RequestNo.{RequestNo}
use Rattle.plan_base.specs.States.{is_pending, is_completed}
use Rattle.allocations.specs.declared.entry.Hold.{Hold}
use Rattle.allocations.specs.declared.key.Key.{Key}
use Rattle.allocations.specs.Books.{GroupHolds, has_grant, held_in, held_of}
use Rattle.desk_runs.specs.declared.group.Group.{Group}
use Rattle.desk_runs.specs.declared.observation.Observation.{Observation}
use Rattle.desk_runs.specs.Numbers.{requests_of, has_request, is_pending_at, is_placed}
use Rattle.desk_runs.specs.Progress.{Progress}
use Rattle.desk_runs.specs.Reports.{reported}
use Rattle.desk_runs.specs.States.{is_open, any_in}
use Rattle.desk_runs.specs.Sound.{IsLater, AllPending}
use Rattle.desk_runs.proofs.GoingOn.{report_goes_on}
use Rattle.desk_runs.proofs.Places.{counted_from}
use Rattle.desk_runs.proofs.ReportChange.{reported_is, groups_settled, settled_group}
use Rattle.desk_runs.proofs.Settling.{facts_of}
use Rattle.desk_runs.proofs.Single.{change_where, choose}
use Rattle.desk_core.specs.declared.desk.Submitted.{Submitted}
use Rattle.desk_core.specs.declared.timing.Place.{Place}
use Rattle.desk_core.specs.Desk.{DeskSeen}
use Rattle.desk_core.specs.Holds.{key_of, needs_of, keys_in, held_by, is_refunded, after_group, groups_along, with_progress}
use Rattle.desk_core.specs.Kept.{LastsADay, IsAlong, IsHeldFor, IsDesk}
use Rattle.desk_core.specs.Timing.{IsFoundAt, CanCharge}
use Rattle.desk_core.proofs.Along.{refunded_self, AreAlong}
use Rattle.desk_core.proofs.ToldAlong.{AreAfter, after_all}
use Rattle.desk_core.proofs.Chargeable.{on_need, group_no_more, group_less_by, IsDone, settled_done}
use Rattle.desk_core.proofs.Fewer.{hold_of}
use Rattle.desk_core.proofs.FoundAt.{passes}
use Rattle.desk_core.proofs.KeySets.{on_from}
use Rattle.desk_core.proofs.Pends.{Pends, pend_in, pend_first}
use Rattle.desk_core.proofs.WentOn.{are_along}

-- ---- at a place

at_place : {X : Type 0} (P : X → Type 0) (xs : List X) (i : ℕ) (x : X) → All P xs → slice_get xs i ≡ Some x → P x
at_place P [] i x h e = cc
at_place P (y ∷ xs) zero x h e = let same : y ≡ x = cc in subst P same (All-head P y xs h)
at_place P (y ∷ xs) (suc i) x h e = at_place P xs i x (All-tail P y xs h) e

both_at : {X Y : Type 0} (R : X → Y → Type 0) (xs : List X) (ys : List Y) (i : ℕ) (x : X) (y : Y) → AllZip R xs ys → slice_get xs i ≡ Some x
    → slice_get ys i ≡ Some y → R x y
both_at R [] ys i x y z e f = cc
both_at R (a ∷ xs) [] i x y z e f = cc
both_at R (a ∷ xs) (b ∷ ys) zero x y z e f = let s : a ≡ x = cc in let t : b ≡ y = cc in subst (λ (c : _). R c y) s (subst (R a) t z.0)
both_at R (a ∷ xs) (b ∷ ys) (suc i) x y z e f = both_at R xs ys i x y z.1 e f

other_at : {X Y : Type 0} (R : X → Y → Type 0) (xs : List X) (ys : List Y) (i : ℕ) (x : X) → AllZip R xs ys → slice_get xs i ≡ Some x
    → (y : Y) × (slice_get ys i ≡ Some y) × R x y
other_at R [] ys i x z e = cc
other_at R (a ∷ xs) [] i x z e = absurd z
other_at R (a ∷ xs) (b ∷ ys) zero x z e = let s : a ≡ x = cc in (b, refl, subst (λ (c : _). R c b) s z.0)
other_at R (a ∷ xs) (b ∷ ys) (suc i) x z e = other_at R xs ys i x z.1 e

zip_at : {X Y : Type 0} (xs : List X) (ys : List Y) (i : ℕ) (x : X) (y : Y) → slice_get xs i ≡ Some x → slice_get ys i ≡ Some y
    → slice_get (zip xs ys) i ≡ Some (x, y)
zip_at [] ys i x y e f = cc
zip_at (a ∷ xs) [] i x y e f = cc
zip_at (a ∷ xs) (b ∷ ys) zero x y e f = let s : a ≡ x = cc in let t : b ≡ y = cc in ap (λ (c : _). Some (c, b)) s ∙ ap (λ (c : _). Some (x, c)) t
zip_at (a ∷ xs) (b ∷ ys) (suc i) x y e f = zip_at xs ys i x y e f

map_at : (f : Group → Group) (xs : List Group) (i : ℕ) (x : Group) → slice_get xs i ≡ Some x → slice_get (map f xs) i ≡ Some (f x)
map_at f [] i x e = cc
map_at f (a ∷ xs) zero x e = let s : a ≡ x = cc in ap (λ (c : Group). let o : Option Group = Some (f c) in o) s
map_at f (a ∷ xs) (suc i) x e = map_at f xs i x e

-- a sum of terms that are no more, and of which one is less by k
less_by_one : {X : Type 0} (f g : X → ℕ) (xs : List X) (i : ℕ) (x : X) (k : ℕ) → All (λ y. f y ≤ g y) xs → slice_get xs i ≡ Some x → k + f x ≤ g x
    → k + sum_by f xs ≤ sum_by g xs
less_by_one f g [] i x k h e l = cc
less_by_one {X = X} f g (y ∷ xs) zero x k h e l =
    let s : y ≡ x = cc in
    let a = sum_by-cons f y xs in
    let b = sum_by-cons g y xs in
    let c : f y ≡ f x = ap f s in
    let d : g y ≡ g x = ap g s in
    let rest : sum_by f xs ≤ sum_by g xs = no_more xs (All-tail (λ z. f z ≤ g z) y xs h) in
    omega (arith, a, b, c, d, l, rest)
  where
    no_more : (zs : List X) → All (λ z. f z ≤ g z) zs → sum_by f zs ≤ sum_by g zs
    no_more [] h = omega arith
    no_more (z ∷ zs) h =
        let a = sum_by-cons f z zs in
        let b = sum_by-cons g z zs in
        let first : f z ≤ g z = All-head (λ w. f w ≤ g w) z zs h in
        let rest : sum_by f zs ≤ sum_by g zs = no_more zs (All-tail (λ w. f w ≤ g w) z zs h) in
        omega (arith, a, b, first, rest)
less_by_one f g (y ∷ xs) (suc i) x k h e l =
    let a = sum_by-cons f y xs in
    let b = sum_by-cons g y xs in
    let first : f y ≤ g y = All-head (λ z. f z ≤ g z) y xs h in
    let rest : k + sum_by f xs ≤ sum_by g xs = less_by_one f g xs i x k (All-tail (λ z. f z ≤ g z) y xs h) e l in
    omega (arith, a, b, first, rest)

-- ---- the books

held_sum : (key : Key) (f : Submitted × (Group × Group) → Submitted × Group) (ps : List (Submitted × (Group × Group))) (es : List GroupHolds)
    → AllZip (λ p e. IsHeldFor (f p) e) ps es
    → sum_by (λ e. held_in key e.holds) es ≡ sum_by (λ p. held_in key (held_by (f p).0 (f p).1)) ps
held_sum key f [] [] h = refl
held_sum key f [] (e ∷ es) h = absurd h
held_sum key f (p ∷ ps) [] h = absurd h
held_sum key f (p ∷ ps) (e ∷ es) h =
    let a = sum_by-cons (λ (x : GroupHolds). held_in key x.holds) e es in
    let b = sum_by-cons (λ (x : Submitted × (Group × Group)). held_in key (held_by (f x).0 (f x).1)) p ps in
    let c : held_in key e.holds ≡ held_in key (held_by (f p).0 (f p).1) = ap (held_in key) h.0.holds in
    let rest : sum_by (λ x. held_in key x.holds) es ≡ sum_by (λ x. held_in key (held_by (f x).0 (f x).1)) ps = held_sum key f ps es h.1 in
    omega (arith, a, b, c, rest)

-- ---- nothing is refunded

none_back : (number : RequestNo) (s : Progress) (g : Group) → is_refunded g (change_where (has_request number) (settled_group number true s) g) ≡ false
none_back number s g = elim (cases_Bool (has_request number g)) [
  | inl has ↦
      let h : Group = settled_group number true s g in
      ap (is_refunded g) ((choose (has_request number) (settled_group number true s) g).0 has)
      ∙ ap (λ (b : Bool). is_open g && not (is_open h) && not b) (settled_done number s g has).completed_too
      ∙ and_right (is_open g && not (is_open h)) false refl
  | inr hasnt ↦ ap (is_refunded g) ((choose (has_request number) (settled_group number true s) g).1 hasnt)
      ∙ refunded_self (is_open g) (not (any_in is_completed g))
]

none_all : (number : RequestNo) (s : Progress) (ws : List Submitted) (gs : List Group)
    → All (λ p. is_refunded p.1.0 p.1.1 ≡ false) (zip ws (zip gs (map (change_where (has_request number) (settled_group number true s)) gs)))
none_all number s [] gs = All-nil (λ p. is_refunded p.1.0 p.1.1 ≡ false)
none_all number s (w ∷ ws) [] = All-nil (λ p. is_refunded p.1.0 p.1.1 ≡ false)
none_all number s (w ∷ ws) (g ∷ gs) =
    All-cons (λ p. is_refunded p.1.0 p.1.1 ≡ false) (w, (g, change_where (has_request number) (settled_group number true s) g))
    (zip ws (zip gs (map (change_where (has_request number) (settled_group number true s)) gs)))
    (none_back number s g) (none_all number s ws gs)

-- ---- all of it

-- only the group of the request changes
changed_groups : (d : DeskSeen) (number : RequestNo) → IsDesk d
    → (reported number true d.progress).groups ≡ map (change_where (has_request number) (settled_group number true d.progress)) d.progress.groups
changed_groups d number h = ap (λ (p : Progress). p.groups) (reported_is number true d.progress)
    ∙ groups_settled number true d.progress (facts_of d.progress h.sound.settled)

placed_pending : (gs : List Group) (os : List Observation) (number : RequestNo) → AllPending gs os → is_placed os number ≡ true → is_pending_at gs number ≡ true
placed_pending gs [] number h e = cc
placed_pending gs (o ∷ os) number h e = elim (or_cases (o.request.0 == number.0) (is_placed os number) e) [
  | inl here ↦ sym (ap (λ (n : ℕ). is_pending_at gs (record { 0 = n })) (eqb-true o.request.0 number.0 here)) ∙ h 0 o (omega arith)
  | inr there ↦ placed_pending gs os number (λ k d l. h (suc k) d (omega arith)) there
]

-- a running request that is found is pending
pub found_pending : (d : DeskSeen) (number : RequestNo) (place : Place) → IsDesk d → (f : IsFoundAt d number place) → is_placed d.progress.running number ≡ true
    → is_pending f.request.state ≡ true
found_pending d number place h f placed =
    let p : Pends number f.group = pend_in 0 d.progress.groups number f.group
    (counted_from (map (λ q. q.number.0) (requests_of d.progress.groups)) h.sound.numbered.requests) f.known
    (placed_pending d.progress.groups d.progress.running number h.sound.running placed) in
    pend_first p.from f.group.requests f.submitted.requests number f.request f.wanted p.counted f.first p.pends

granted_at : (d : DeskSeen) (number : RequestNo) (place : Place) → IsDesk d → (f : IsFoundAt d number place) → is_pending f.request.state ≡ true
    → IsTrue (has_grant d.books.entries (key_of f.submitted.document f.wanted))
granted_at d number place h f pending =
    let w : Submitted = f.submitted in
    let g : Group = f.group in
    let key : Key = key_of w.document f.wanted in
    let needs : List Hold = needs_of w.document (zip g.requests w.requests) in
    let there : Contains (keys_in needs) key = on_from [] needs key (on_need w.document g.requests w.requests number f.request f.wanted f.first pending) in
    let i : ℕ = place.group.0 - 1 in
    let entry = other_at IsHeldFor (zip d.groups d.progress.groups) d.books.holds i (w, g) h.held
    (zip_at d.groups d.progress.groups i w g f.submitted_at f.group_at) in
    let all : All (λ x. IsTrue (has_grant d.books.entries x.key)) entry.0.holds =
    at_place (λ e. All (λ x. IsTrue (has_grant d.books.entries x.key)) e.holds) d.books.holds i entry.0 h.granted entry.1 in
    let held : All (λ x. IsTrue (has_grant d.books.entries x.key)) (map (hold_of g.op needs) (keys_in needs)) =
    subst (All (λ x. IsTrue (has_grant d.books.entries x.key))) entry.2.holds all in
    let long : length (map (hold_of g.op needs) (keys_in needs)) ≡ length (keys_in needs) = length-map (keys_in needs) (hold_of g.op needs) in
    let within : there.0 < length (keys_in needs) = there.1 in
    let is : get_or (map (hold_of g.op needs) (keys_in needs)) there.0 (hold_of g.op needs key) ≡ hold_of g.op needs key =
    get_or-map (hold_of g.op needs) (keys_in needs) there.0 key (hold_of g.op needs key) there.1 ∙ ap (hold_of g.op needs) there.2 in
    subst (λ (x : Hold). IsTrue (has_grant d.books.entries x.key)) is (held there.0 (hold_of g.op needs key) (omega (arith, long, within)))

less_at : (d : DeskSeen) (number : RequestNo) (place : Place) (used : ℕ) → IsDesk d → (f : IsFoundAt d number place)
    → is_pending f.request.state ≡ true → used ≤ f.request.seconds
    → used + held_of (with_progress (reported number true d.progress) d).books.holds (key_of f.submitted.document f.wanted)
    ≤ held_of d.books.holds (key_of f.submitted.document f.wanted)
less_at d number place used h f pending few =
    let w : Submitted = f.submitted in
    let g : Group = f.group in
    let key : Key = key_of w.document f.wanted in
    let s : Progress = d.progress in
    let after : Progress = reported number true s in
    let step : Group → Group = change_where (has_request number) (settled_group number true s) in
    let has : has_request number g ≡ true = passes (has_request number) s.groups g f.known in
    let is : step g ≡ settled_group number true s g = (choose (has_request number) (settled_group number true s) g).0 has in
    let done : IsDone number g (step g) = subst (IsDone number g) (sym is) (settled_done number s g has) in
    let i : ℕ = place.group.0 - 1 in
    let ps : List (Submitted × (Group × Group)) = groups_along d after in
    let along : AreAlong 0 ps d.books.holds = are_along d after h (report_goes_on s number true).later in
    let then : AreAfter d.books (fold after_group d.books ps) ps [] d.books.holds =
    after_all 0 d.books.entries [] ps d.books.holds (All-nil (λ x. x.group.0 ≤ 0)) along in
    let total : held_of (with_progress after d).books.holds key ≡ sum_by (λ p. held_in key (held_by p.0 p.1.1)) ps =
    ap (λ (l : List GroupHolds). sum_by (λ e. held_in key e.holds) l) then.holds ∙ held_sum key (λ p. (p.0, p.1.1)) ps then.others then.held in
    let before : held_of d.books.holds key ≡ sum_by (λ p. held_in key (held_by p.0 p.1.0)) ps = held_sum key (λ p. (p.0, p.1.0)) ps d.books.holds along.held in
    let each : All (λ p. held_in key (held_by p.0 p.1.1) ≤ held_in key (held_by p.0 p.1.0)) ps =
    All-weaker (λ p. IsLater p.1.0 p.1.1) (λ p. held_in key (held_by p.0 p.1.1) ≤ held_in key (held_by p.0 p.1.0))
    (λ p l. group_no_more p.0 p.1.0 p.1.1 key l) ps along.later in
    let at : slice_get ps i ≡ Some (w, (g, step g)) =
    zip_at d.groups (zip s.groups after.groups) i w (g, step g) f.submitted_at
    (zip_at s.groups after.groups i g (step g) f.group_at (ap (λ (l : List Group). slice_get l i) (changed_groups d number h)
    ∙ map_at step s.groups i g f.group_at)) in
    let one : f.request.seconds + held_in key (held_by w (step g)) ≤ held_in key (held_by w g) =
    group_less_by w g (step g) number f.request f.wanted done.later f.first pending done.closed done.none in
    let sums = less_by_one (λ (p : Submitted × (Group × Group)). held_in key (held_by p.0 p.1.1)) (λ p. held_in key (held_by p.0 p.1.0)) ps i
    (w, (g, step g)) used each at (omega (arith, one, few)) in
    omega (arith, total, before, sums)

-- a report that completes a running request may charge what it used
pub can_charge : (d : DeskSeen) (number : RequestNo) (place : Place) (used : ℕ) (key : Key) → IsDesk d → (f : IsFoundAt d number place)
    → is_placed d.progress.running number ≡ true → used ≤ f.request.seconds → key ≡ key_of f.submitted.document f.wanted → CanCharge d number used key
can_charge d number place used key h f placed few e =
    let pending : is_pending f.request.state ≡ true = found_pending d number place h f placed in
    let along : IsAlong (length d.network.registry.targets) f.submitted f.group =
    both_at (IsAlong (length d.network.registry.targets)) d.groups d.progress.groups
    (place.group.0 - 1) f.submitted f.group h.along f.submitted_at f.group_at in
    let asked : LastsADay f.request = at_place LastsADay f.group.requests place.member f.request along.asked f.request_at in
    let made : CanCharge d number used (key_of f.submitted.document f.wanted) = record {
      short = omega (arith, asked, few);
      none = subst (λ (l : List Group). All (λ p. is_refunded p.1.0 p.1.1 ≡ false) (zip d.groups (zip d.progress.groups l)))
          (sym (changed_groups d number h)) (none_all number d.progress d.groups d.progress.groups);
      granted = granted_at d number place h f pending;
      less = less_at d number place used h f pending few;
    } in
    subst (CanCharge d number used) (sym e) made
