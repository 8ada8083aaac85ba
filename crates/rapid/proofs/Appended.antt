-- A snapshot with one more group says the same of the requests that it had.
use Rattle.std.proofs.Common.{◌≡◌, ◌≢◌, ℕ, zero, suc, ◌+◌, ◌-◌, ◌*◌, ◌<◌, ◌≤◌, inl, inr, Bool, true, false, cond, not, ◌==◌, List, [], ◌∷◌, ◌++◌}
use Rattle.std.proofs.Common.{length, map, filter, slice_index_or, sum_by, All, Any, Contains, None, refl, sym, ◌∙◌, ap, subst, append_assoc}
use Rattle.std.proofs.Common.{length-append, arith}
use Rattle.std.specs.List.{position_or_len}
use Rattle.std.proofs.lemmas.Bool.{cases_lt}
use Rattle.std.proofs.lemmas.List.{get_or_append_left, get_or-append_right, length-map, map-append}
use Rattle.std.proofs.lemmas.List.Elements.{All-head, All-tail, All-weaker, All-filter}
use Rattle.std.proofs.lemmas.List.Sums.{sum_by-cons}
use Rattle.plan_base.specs.declared.parts.Parts.{Parts}
use Rattle.plan_base.specs.declared.parts.GroupPart.{GroupPart}
use Rattle.plan_base.specs.declared.parts.Op.{Op}
use Rattle.plan_base.specs.declared.parts.Op.TheVariants.{Single, OneOf, And}
use Rattle.plan_base.specs.declared.span.Span.{Span}
use Rattle.plan_base.specs.declared.claim.Placement.{Placement}
use Rattle.plan_base.specs.declared.number.TelescopeNo.{TelescopeNo}
use Rattle.plan_base.specs.declared.number.TargetNo.{TargetNo}
use Rattle.plan_base.specs.Requests.{Listed, listed_from, listed, place_of, known_or, IsKnown, quota_of, seconds_of, request_value, fade_of}
use Rattle.plan_base.specs.Requests.{windows_of, targets_of, IsOf, IsKind, members_of, members, AllOrNone}
use Rattle.plan_base.specs.Snapshot.{IsOrderly}
use Rattle.plan_base.specs.Starts.{IsPossibleStart, IsObserved, IsVisible, ShareSlice, Occupies, site_of, slices_for, least_of, faded, worth_at, value_of_plan}
use Rattle.plan_base.specs.Feasible.{requests_of, is_quota, quota_seconds, AreOfOneOneOf, IsFeasible}
use Rattle.plan_base.proofs.Known.{requests_known, group_known}
use Rattle.plan_base.proofs.Members.{is_of_member, member_is_of}
use Rattle.rapid.specs.Insertion.{with_group}

no_more : (n : ℕ) → n ≡ n + 0
no_more n = omega arith

from_zero : (n : ℕ) → 0 + n ≡ n
from_zero n = omega arith

one_more : (n m : ℕ) → suc n + m ≡ n + suc m
one_more n m = omega arith

-- the requests of groups, and then those of others
listed_more : (g : ℕ) (xs ys : List GroupPart) → listed_from g (xs ++ ys) ≡ listed_from g xs ++ listed_from (g + length xs) ys
listed_more g [] ys = ap (λ (n : ℕ). listed_from n ys) (no_more g)
listed_more g (x ∷ xs) ys =
    let here : List Listed = map (λ q. record { group = g; quota = x.quota; request = q }) x.requests in
    ap (λ (l : List Listed). here ++ l) (listed_more (suc g) xs ys ∙ ap (λ (n : ℕ). listed_from (suc g) xs ++ listed_from n ys) (one_more g (length xs)))
    ∙ sym (append_assoc here (listed_from (suc g) xs) (listed_from (g + suc (length xs)) ys))

first_step : (b : Bool) (k n m : ℕ) → cond (not b) (1 + n) 0 < suc m → (n < m → k ≡ n) → cond (not b) (1 + k) 0 ≡ cond (not b) (1 + n) 0
first_step true k n m l h = refl
first_step false k n m l h = let e : k ≡ n = h (omega arith) in omega arith

-- what is found first is found first with more behind it
found_first : {X : Type 0} (p : X → Bool) (xs ys : List X) → position_or_len p xs < length xs → position_or_len p (xs ++ ys) ≡ position_or_len p xs
found_first p [] ys l = absurd (omega arith)
found_first p (x ∷ xs) ys l = first_step (p x) (position_or_len p (xs ++ ys)) (position_or_len p xs) (length xs) l (found_first p xs ys)

same_sums : {X : Type 0} (f g : X → ℕ) (xs : List X) → All (λ x. f x ≡ g x) xs → sum_by f xs ≡ sum_by g xs
same_sums f g [] a = refl
same_sums f g (x ∷ xs) a =
    let left : sum_by f (x ∷ xs) ≡ f x + sum_by f xs = sum_by-cons f x xs in
    let right : sum_by g (x ∷ xs) ≡ g x + sum_by g xs = sum_by-cons g x xs in
    let here : f x ≡ g x = All-head (λ y. f y ≡ g y) x xs a in
    let rest : sum_by f xs ≡ sum_by g xs = same_sums f g xs (All-tail (λ y. f y ≡ g y) x xs a) in
    omega arith

-- tests that agree on each element keep the same
pub same_filters : {X : Type 0} (p q : X → Bool) (xs : List X) → All (λ x. p x ≡ q x) xs → filter p xs ≡ filter q xs
same_filters p q [] a = refl
same_filters {X} p q (x ∷ xs) a =
    let rest : filter p xs ≡ filter q xs = same_filters p q xs (All-tail (λ y. p y ≡ q y) x xs a) in
    ap (λ (b : Bool). cond b (x ∷ filter p xs) (filter p xs)) (All-head (λ y. p y ≡ q y) x xs a) ∙ ap (λ (l : List X). cond (q x) (x ∷ l) l) rest

one_only : {X : Type 0} (x : X) (k : ℕ) → slice_index_or (x ∷ []) k x ≡ x
one_only x zero = refl
one_only x (suc k) = refl

module _ (s : Parts) (group : GroupPart) where
  abbrev after : Parts
  after = with_group s group

  pub listed_after : listed after ≡ listed s ++ listed_from (length s.groups) (group ∷ [])
  listed_after = listed_more 0 s.groups (group ∷ []) ∙ ap (λ (n : ℕ). listed s ++ listed_from n (group ∷ [])) (from_zero (length s.groups))

  count_after : length (listed s) ≤ length (listed after)
  count_after = let e : length (listed after) ≡ length (listed s ++ listed_from (length s.groups) (group ∷ [])) = ap length listed_after in
      omega (arith, length-append (listed s) (listed_from (length s.groups) (group ∷ [])))

  pub place_kept : (r : ℕ) → IsKnown s r → place_of after r ≡ place_of s r
  place_kept r k = ap (position_or_len (λ (x : Listed). x.request.request.0 == r)) listed_after
      ∙ found_first (λ (x : Listed). x.request.request.0 == r) (listed s) (listed_from (length s.groups) (group ∷ [])) k

  pub known_kept : (r : ℕ) → IsKnown s r → IsKnown after r
  known_kept r k = let e = place_kept r k in let c = count_after in omega arith

  pub kept : {X : Type 0} (f : Listed → X) (d : X) (r : ℕ) → IsKnown s r → known_or f d after r ≡ known_or f d s r
  kept {X} f d r k =
      let more : List Listed = listed_from (length s.groups) (group ∷ []) in
      let len : length (map f (listed s)) ≡ length (listed s) = length-map (listed s) f in
      let both : map f (listed after) ≡ map f (listed s) ++ map f more = ap (map f) listed_after ∙ map-append f (listed s) more in
      ap (λ (l : List X). slice_index_or l (place_of after r) d) both
      ∙ ap (λ (n : ℕ). slice_index_or (map f (listed s) ++ map f more) n d) (place_kept r k)
      ∙ get_or_append_left (map f (listed s)) (map f more) d (place_of s r) (omega arith)

  pub seconds_kept : (r : ℕ) → IsKnown s r → seconds_of after r ≡ seconds_of s r
  seconds_kept r k = kept (λ x. x.request.seconds) 0 r k

  observed_kept : (p : Placement) (x : ℕ) → IsKnown s p.request.0 → IsObserved after p x → IsObserved s p x
  observed_kept p x k o = (o.0, subst (λ (n : ℕ). x < p.slice.0 * s.len + n) (seconds_kept p.request.0 k) o.1)

  pub possible_kept : (p : Placement) → IsPossibleStart s p → IsPossibleStart after p
  possible_kept p h =
      let r : ℕ = p.request.0 in
      let seconds : seconds_of s r ≡ seconds_of after r = sym (seconds_kept r h.known) in
      record {
        known = known_kept r h.known;
        able = subst (λ (ts : List TelescopeNo). Contains ts p.telescope) (sym (kept (λ x. x.request.telescopes) [] r h.known)) h.able;
        begins = h.begins;
        ends = subst (λ (n : ℕ). p.slice.0 + slices_for s.len n ≤ s.first.0 + s.slices) seconds h.ends;
        window = subst (λ (n : ℕ). Any (λ (w : Span). (w.from.0 ≤ p.slice.0 * s.len) × (p.slice.0 * s.len + n ≤ w.to.0)) (windows_of after r)) seconds
            (subst (λ (ws : List Span). Any (λ (w : Span). (w.from.0 ≤ p.slice.0 * s.len) × (p.slice.0 * s.len + seconds_of s r ≤ w.to.0)) ws)
            (sym (kept (λ x. x.request.windows) [] r h.known)) h.window);
        usable = λ x o. h.usable x (observed_kept p x h.known o);
        visible = subst (λ (ts : List TargetNo). All (λ target. (x : ℕ) → IsObserved after p x → IsVisible s target.0 (site_of s p.telescope.0) x) ts)
            (sym (kept (λ x. x.request.targets) [] r h.known))
            (All-weaker (λ target. (x : ℕ) → IsObserved s p x → IsVisible s target.0 (site_of s p.telescope.0) x)
            (λ target. (x : ℕ) → IsObserved after p x → IsVisible s target.0 (site_of s p.telescope.0) x)
            (λ target v x o. v x (observed_kept p x h.known o)) (targets_of s r) h.visible);
      }

  occupies_kept : (p : Placement) (k : ℕ) → IsKnown s p.request.0 → Occupies after p k → Occupies s p k
  occupies_kept p k h o = (o.0, subst (λ (n : ℕ). k < p.slice.0 + slices_for s.len n) (seconds_kept p.request.0 h) o.1)

  pub share_kept : (a b : Placement) → IsKnown s a.request.0 → IsKnown s b.request.0 → ShareSlice after a b → ShareSlice s a b
  share_kept a b j k share = (share.0, share.1, occupies_kept a share.1 j share.2, occupies_kept b share.1 k share.3)

  pub worth_kept : (p : Placement) → IsKnown s p.request.0 → worth_at after p ≡ worth_at s p
  worth_kept p k =
      let r : ℕ = p.request.0 in
      let from : List Span → ℕ = λ ws. p.slice.0 - slices_for s.len (least_of (map (λ w. w.from.0) ws)) in
      ap (λ (n : ℕ). faded n (fade_of after r) (from (windows_of after r))) (kept (λ x. x.request.value) 0 r k)
      ∙ ap (λ (n : ℕ). faded (request_value s r) n (from (windows_of after r))) (kept (λ x. x.request.fade) 0 r k)
      ∙ ap (λ (ws : List Span). faded (request_value s r) (fade_of s r) (from ws)) (kept (λ x. x.request.windows) [] r k)

  -- a plan of requests that were known is worth as much as before
  pub value_kept : (plan : List Placement) → All (λ p. IsKnown s p.request.0) plan → value_of_plan after plan ≡ value_of_plan s plan
  value_kept plan known = same_sums (worth_at after) (worth_at s) plan (λ i d l. worth_kept (slice_index_or plan i d) (known i d l))

  quota_kept : (q : ℕ) (rs : List ℕ) → All (IsKnown s) rs → quota_seconds after q rs ≡ quota_seconds s q rs
  quota_kept q rs known =
      ap (sum_by (seconds_of after)) (same_filters (λ r. is_quota q (quota_of after r)) (λ r. is_quota q (quota_of s r)) rs
      (λ i d l. ap (is_quota q) (kept (λ x. x.quota) None (slice_index_or rs i d) (known i d l))))
      ∙ same_sums (seconds_of after) (seconds_of s) (filter (λ r. is_quota q (quota_of s r)) rs)
      (All-weaker (IsKnown s) (λ r. seconds_of after r ≡ seconds_of s r) (λ r k. seconds_kept r k) (filter (λ r. is_quota q (quota_of s r)) rs)
      (All-filter (λ r. is_quota q (quota_of s r)) (IsKnown s) rs known))

  pub kind_kept : (k : Op) (g : ℕ) → g < length s.groups → IsKind after k g → IsKind s k g
  kind_kept k g l h d = subst (λ (x : GroupPart). x.op ≡ k) (get_or_append_left s.groups (group ∷ []) d g l) (h d)

  -- beyond the old groups there is the new one alone
  kind_new : (k : Op) (g : ℕ) → length s.groups ≤ g → IsKind after k g → group.op ≡ k
  kind_new k g l h = subst (λ (x : GroupPart). x.op ≡ k) (get_or-append_right s.groups (group ∷ []) (length s.groups) g group refl l
      ∙ one_only group (g - length s.groups)) (h group)

  pub of_kept : (g r : ℕ) → IsKnown s r → IsOf after g r → IsOf s g r
  of_kept g r k of = (k, sym (kept (λ x. x.group) 0 r k) ∙ of.1)

  -- the requests of an old group are those that it had
  pub of_old : (g r : ℕ) → IsOrderly s → g < length s.groups → IsOf after g r → IsOf s g r
  of_old g r o l of =
      let len : length (map members_of s.groups) ≡ length s.groups = length-map s.groups members_of in
      let same : members after g ≡ members s g =
      ap (λ (ms : List (List ℕ)). slice_index_or ms g []) (map-append members_of s.groups (group ∷ []))
      ∙ get_or_append_left (map members_of s.groups) (map members_of (group ∷ [])) [] g (omega arith)
      in
      is_of_member s g r o (subst (λ (ms : List ℕ). Contains ms r) same (member_is_of after g r of))

  oneof_kept : (a b : ℕ) → IsKnown s a → IsKnown s b → AreOfOneOneOf after a b → AreOfOneOneOf s a b
  oneof_kept a b j k (g, kind, of_a, of_b) =
      let left : IsOf s g a = of_kept g a j of_a in
      let below : g < length s.groups = subst (λ (n : ℕ). n < length s.groups) left.1 (group_known s a j) in
      (g, kind_kept OneOf g below kind, left, of_kept g b k of_b)

  pub whole_old : (g : ℕ) (rs : List ℕ) → IsOrderly s → g < length s.groups → AllOrNone s g rs → AllOrNone after g rs
  whole_old g rs o l (inl all) = inl (λ r of. all r (of_old g r o l of))
  whole_old g rs o l (inr none) = inr (λ r of. none r (of_old g r o l of))

  single_and : Single ≢ And
  single_and e = cc

  -- a plan that was feasible is so with a SINGLE more in the snapshot
  pub feasible_kept : (plan : List Placement) → IsOrderly s → group.op ≡ Single → IsFeasible s plan → IsFeasible after plan
  feasible_kept plan o single f =
      let known : All (IsKnown s) (requests_of plan) = requests_known s plan f in
      record {
        possible = All-weaker (IsPossibleStart s) (IsPossibleStart after) (λ p h. possible_kept p h) plan f.possible;
        once = f.once;
        disjoint = λ i j d l m share. f.disjoint i j d l m
            (share_kept (slice_index_or plan i d) (slice_index_or plan j d) (f.possible i d (omega arith)).known (f.possible j d m).known share);
        oneof_once = λ i j d l m both. f.oneof_once i j d l m
            (oneof_kept (slice_index_or (requests_of plan) i d) (slice_index_or (requests_of plan) j d) (known i d (omega arith)) (known j d m) both);
        and_whole = λ g kind. elim (cases_lt g (length s.groups)) [
          | inl below ↦ whole_old g (requests_of plan) o below (f.and_whole g (kind_kept And g below kind))
          | inr above ↦ absurd (single_and (sym single ∙ kind_new And g above kind))
        ];
        within_quotas = λ q l. subst (λ (n : ℕ). n ≤ slice_index_or s.quotas q 0) (sym (quota_kept q (requests_of plan) known)) (f.within_quotas q l);
      }
