-- Where a request stands.
use Rattle.std.proofs.Common.{◌≡◌, ℕ, zero, suc, ◌+◌, ◌-◌, ◌<◌, ◌≤◌, nat_lt, Bool, true, false, cond, List, [], ◌∷◌, length, map, get_or, refl, sym}
use Rattle.std.proofs.Common.{◌∙◌, ap, arith, Option, Some, None}
use Rattle.std.specs.List.{AllZip, zip, find, list_any, position, position_or_len, slice_get}
use Rattle.std.specs.Option.{option_map, option_map_or}
use Rattle.std.proofs.lemmas.Bool.{ltb-false}
use Rattle.std.proofs.lemmas.List.Folds.{list_any_none}
use Rattle.std.proofs.lemmas.List.Sums.{fails_before_first}
use Rattle.std.proofs.lemmas.List.Quantifiers.{position-Some}
use Rattle.plan_base.specs.declared.number.RequestNo.{RequestNo}
use Rattle.plan_base.specs.declared.state.RequestState.TheVariants.{Pending}
use Rattle.desk_runs.specs.declared.group.Group.{Group}
use Rattle.desk_runs.specs.declared.group.Request.{Request}
use Rattle.desk_runs.specs.Numbers.{is_request, has_request, group_with}
use Rattle.desk_runs.proofs.Places.{IsCountedFrom, counted_from, counted_head, counted_tail}
use Rattle.desk_core.specs.declared.desk.Submitted.{Submitted}
use Rattle.desk_core.specs.declared.desk.Wanted.{Wanted}
use Rattle.desk_core.specs.Desk.{DeskSeen}
use Rattle.desk_core.specs.Kept.{IsAlong, IsDesk}
use Rattle.desk_core.specs.Timing.{member_of, request_with, IsFoundAt}
use Rattle.desk_core.proofs.WentOn.{as_submitted}

-- ---- the group

none_step : {X : Type 0} (b : Bool) (x : X) (o : Option X) → cond b (Some x) o ≡ None → (b ≡ false) × (o ≡ None)
none_step true x o e = cc
none_step false x o e = (refl, e)

no_pair : (t : Group → Bool) (ws : List Submitted) (gs : List Group) → find t gs ≡ None → find (λ p. t p.1) (zip ws gs) ≡ None
no_pair t [] gs e = refl
no_pair t (w ∷ ws) [] e = refl
no_pair t (w ∷ ws) (g ∷ gs) e =
    let parts = none_step (t g) g (find t gs) e in
    ap (λ (b : Bool). let o : Option (Submitted × Group) = cond b (Some (w, g)) (find (λ p. t p.1) (zip ws gs)) in o) parts.0 ∙ no_pair t ws gs parts.1

-- a group that passes, with what was submitted, at the place of its number
pub record Paired (t : Group → Bool) (b : ℕ) (ws : List Submitted) (gs : List Group) (g : Group) : Type 0 where
  pub place : ℕ
  pub submitted : Submitted
  pub number : g.number.0 ≡ b + place + 1
  pub at : slice_get ws place ≡ Some submitted
  pub group : slice_get gs place ≡ Some g
  pub pair : find (λ p. t p.1) (zip ws gs) ≡ Some (submitted, g)

pub paired : (t : Group → Bool) (b : ℕ) (ws : List Submitted) (gs : List Group) (g : Group) → length ws ≡ length gs → IsCountedFrom b (map (λ x. x.number.0) gs)
    → find t gs ≡ Some g → Paired t b ws gs g
paired t b [] [] g n c e = cc
paired t b [] (x ∷ gs) g n c e = absurd (omega arith)
paired t b (w ∷ ws) [] g n c e = absurd (omega arith)
paired t b (w ∷ ws) (x ∷ gs) g n c e =
    by (t x) refl e (λ later. paired t (b + 1) ws gs g (omega arith) (counted_tail b x.number.0 (map (λ y. y.number.0) gs) c) later)
  where
    by : (v : Bool) → t x ≡ v → cond v (Some x) (find t gs) ≡ Some g → (find t gs ≡ Some g → Paired t (b + 1) ws gs g) → Paired t b (w ∷ ws) (x ∷ gs) g
    by true is f rest =
        let same : x ≡ g = cc in
        let first : x.number.0 ≡ b + 1 = counted_head b x.number.0 (map (λ y. y.number.0) gs) c in
        let number : g.number.0 ≡ x.number.0 = ap (λ (y : Group). y.number.0) (sym same) in
        record {
          place = 0;
          submitted = w;
          number = omega arith;
          at = refl;
          group = ap (λ (y : Group). let o : Option Group = Some y in o) same;
          pair = ap (λ (v : Bool). let o : Option (Submitted × Group) = cond v (Some (w, x)) (find (λ p. t p.1) (zip ws gs)) in o) is
              ∙ ap (λ (y : Group). let o : Option (Submitted × Group) = Some (w, y) in o) same;
        }
    by false is f rest =
        let r : Paired t (b + 1) ws gs g = rest f in
        let number : g.number.0 ≡ b + 1 + r.place + 1 = r.number in
        record {
          place = suc r.place;
          submitted = r.submitted;
          number = omega arith;
          at = r.at;
          group = r.group;
          pair = ap (λ (v : Bool). let o : Option (Submitted × Group) = cond v (Some (w, x)) (find (λ p. t p.1) (zip ws gs)) in o) is ∙ r.pair;
        }

-- ---- the request

pub record Member (p : Request → Bool) (i : ℕ) (qs : List Request) (ws : List Wanted) : Type 0 where
  pub request : Request
  pub wanted : Wanted
  pub at : slice_get qs i ≡ Some request
  pub wanted_at : slice_get ws i ≡ Some wanted
  pub pair : find (λ m. p m.0) (zip qs ws) ≡ Some (request, wanted)

first_at : (p : Request → Bool) (i : ℕ) (qs : List Request) (ws : List Wanted) → length ws ≡ length qs → i < length qs
    → ((d : Request) → p (get_or qs i d) ≡ true)
    → ((k : ℕ) (d : Request) → k < i → p (get_or qs k d) ≡ false) → Member p i qs ws
first_at p i [] ws n l here before = absurd (omega arith)
first_at p i (q ∷ qs) [] n l here before = absurd (omega arith)
first_at p zero (q ∷ qs) (w ∷ ws) n l here before = record {
  request = q;
  wanted = w;
  at = refl;
  wanted_at = refl;
  pair = ap (λ (v : Bool). let o : Option (Request × Wanted) = cond v (Some (q, w)) (find (λ m. p m.0) (zip qs ws)) in o) (here q);
}
first_at p (suc i) (q ∷ qs) (w ∷ ws) n l here before =
    let rest : Member p i qs ws = first_at p i qs ws (omega arith) (omega arith) (λ d. here d) (λ k d m. before (suc k) d (omega arith)) in
    record {
      request = rest.request;
      wanted = rest.wanted;
      at = rest.at;
      wanted_at = rest.wanted_at;
      pair = ap (λ (v : Bool). let o : Option (Request × Wanted) = cond v (Some (q, w)) (find (λ m. p m.0) (zip qs ws)) in
          o) (before 0 q (omega arith)) ∙ rest.pair;
    }

no_request : Request
no_request = record { number = record { 0 = 0 }; seconds = 0; last = record { 0 = 0 }; state = Pending }

pub member : (p : Request → Bool) (i : ℕ) (qs : List Request) (ws : List Wanted) → length ws ≡ length qs → position p qs ≡ Some i → Member p i qs ws
member p i qs ws n e = first_at p i qs ws n (position-Some p qs i no_request e).0 (λ d. (position-Some p qs i d e).1)
    (λ k d l. (position-Some p qs i d e).2 k l)

-- ---- together

count_at : (targets : ℕ) (ws : List Submitted) (gs : List Group) (i : ℕ) (w : Submitted) (g : Group) → AllZip (IsAlong targets) ws gs → slice_get ws i ≡ Some w
    → slice_get gs i ≡ Some g → length w.requests ≡ length g.requests
count_at targets [] gs i w g a s e = cc
count_at targets (x ∷ ws) [] i w g a s e = absurd a
count_at targets (x ∷ ws) (y ∷ gs) zero w g a s e =
    let same : x ≡ w = cc in
    let same_too : y ≡ g = cc in
    ap (λ (z : Submitted). length z.requests) (sym same) ∙ a.0.count ∙ ap (λ (z : Group). length z.requests) same_too
count_at targets (x ∷ ws) (y ∷ gs) (suc i) w g a s e = count_at targets ws gs i w g a.1 s e

pub not_with : (d : DeskSeen) (number : RequestNo) → group_with d.progress.groups number ≡ None → request_with d number ≡ None
not_with d number e = ap (λ (o : Option (Submitted × Group)). option_map_or (member_of number) o None)
    (no_pair (has_request number) d.groups d.progress.groups e)

pub found_at : (d : DeskSeen) (number : RequestNo) (g : Group) (i : ℕ) → IsDesk d → group_with d.progress.groups number ≡ Some g
    → position (is_request number) g.requests ≡ Some i → IsFoundAt d number (record { group = g.number; member = i })
found_at d number g i h known at =
    let p : Paired (has_request number) 0 d.groups d.progress.groups g = paired (has_request number) 0 d.groups d.progress.groups g (as_submitted d h)
    (counted_from (map (λ x. x.number.0) d.progress.groups) h.sound.numbered.groups) known in
    let w : Submitted = p.submitted in
    let place : g.number.0 - 1 ≡ p.place = let e : g.number.0 ≡ 0 + p.place + 1 = p.number in omega arith in
    let m : Member (is_request number) i g.requests w.requests =
    member (is_request number) i g.requests w.requests
    (count_at (length d.network.registry.targets) d.groups d.progress.groups p.place w g h.along p.at p.group) at in
    record {
      submitted = w;
      group = g;
      request = m.request;
      wanted = m.wanted;
      known = known;
      numbered = refl;
      from = let e : g.number.0 ≡ 0 + p.place + 1 = p.number in omega arith;
      submitted_at = ap (slice_get d.groups) place ∙ p.at;
      group_at = ap (slice_get d.progress.groups) place ∙ p.group;
      request_at = m.at;
      wanted_at = m.wanted_at;
      first = m.pair;
      is = ap (λ (o : Option (Submitted × Group)). option_map_or (member_of number) o None) p.pair
          ∙ ap (λ (o : Option (Request × Wanted)). option_map (λ x. let y : Submitted × (Request × Wanted) = (w, x) in y) o) m.pair;
    }

-- a group that has a request has it at a place
none_at : (p : Request → Bool) (qs : List Request) → position p qs ≡ None → list_any p qs ≡ false
none_at p qs e = list_any_none p qs
    (λ k d l. fails_before_first p qs k d (let far : length qs ≤ position_or_len p qs = past (nat_lt (position_or_len p qs) (length qs)) refl e in
    omega (arith, far)))
  where
    past : (b : Bool) → nat_lt (position_or_len p qs) (length qs) ≡ b → cond b (Some (position_or_len p qs)) None ≡ None → length qs ≤ position_or_len p qs
    past true is f = cc
    past false is f = ltb-false (position_or_len p qs) (length qs) is

pub passes : (t : Group → Bool) (gs : List Group) (g : Group) → find t gs ≡ Some g → t g ≡ true
passes t [] g e = cc
passes t (x ∷ gs) g e = by (t x) refl e (passes t gs g)
  where
    by : (b : Bool) → t x ≡ b → cond b (Some x) (find t gs) ≡ Some g → (find t gs ≡ Some g → t g ≡ true) → t g ≡ true
    by true is f rest = let same : x ≡ g = cc in ap t (sym same) ∙ is
    by false is f rest = rest f

pub must_have : (d : DeskSeen) (number : RequestNo) (g : Group) → group_with d.progress.groups number ≡ Some g
    → position (is_request number) g.requests ≡ None → ⊥
must_have d number g known none =
    let bad : false ≡ true = sym (none_at (is_request number) g.requests none) ∙ passes (has_request number) d.progress.groups g known in cc
