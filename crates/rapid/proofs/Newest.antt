-- The request of a group that a snapshot has at its end.
use Rattle.std.proofs.Common.{◌≡◌, ℕ, ◌+◌, ◌-◌, ◌<◌, ◌≤◌, List, [], ◌∷◌, ◌++◌, length, map, slice_index_or, Contains, refl, sym, ◌∙◌, ap, subst}
use Rattle.std.proofs.Common.{length-append, arith}
use Rattle.std.specs.Prelude.{HoldsAt}
use Rattle.std.proofs.lemmas.List.{get_or-append_right}
use Rattle.std.proofs.lemmas.List.Elements.{All-contains, Contains-push}
use Rattle.plan_base.specs.declared.parts.Parts.{Parts}
use Rattle.plan_base.specs.declared.parts.GroupPart.{GroupPart}
use Rattle.plan_base.specs.declared.parts.RequestPart.{RequestPart}
use Rattle.plan_base.specs.declared.parts.Op.{Op}
use Rattle.plan_base.specs.declared.parts.Op.TheVariants.{Single}
use Rattle.plan_base.specs.declared.claim.Placement.{Placement}
use Rattle.plan_base.specs.Requests.{Listed, listed, place_of, IsKnown, group_of, IsKind}
use Rattle.plan_base.specs.Snapshot.{IsOrderly, most_requests}
use Rattle.plan_base.specs.Feasible.{requests_of, IsFeasible}
use Rattle.plan_base.proofs.Here.{place_at}
use Rattle.plan_base.proofs.Known.{IsListedAs, known_or_is, requests_known}
use Rattle.plan_base.proofs.Members.{listed_known, listed_as}
use Rattle.rapid.specs.Insertion.{with_group}
use Rattle.rapid.proofs.Appended.{listed_after, place_kept}

one_request : (xs : List RequestPart) → 1 ≤ length xs → length xs ≤ 1 → (q : RequestPart) × (xs ≡ q ∷ [])
one_request [] some few = absurd (omega arith)
one_request (q ∷ []) some few = (q, refl)
one_request (q ∷ p ∷ xs) some few = absurd (omega arith)

-- a SINGLE has one request
pub only_request : (s : Parts) (group : GroupPart) → IsOrderly (with_group s group) → group.op ≡ Single → (q : RequestPart) × (group.requests ≡ q ∷ [])
only_request s group o single =
    let shape = All-contains (λ x. (1 ≤ length x.requests) × (length x.requests ≤ most_requests x.op)) (s.groups ++ group ∷ []) group o.shapes
    (Contains-push s.groups group) in
    one_request group.requests shape.0 (subst (λ (k : Op). length group.requests ≤ most_requests k) single shape.1)

module _ (s : Parts) (group : GroupPart) (q : RequestPart) (only : group.requests ≡ q ∷ []) (o : IsOrderly (with_group s group)) where
  abbrev after : Parts
  after = with_group s group

  abbrev pub newest : Listed
  newest = record { group = length s.groups; quota = group.quota; request = q }

  none_after : (xs : List Listed) → xs ++ [] ≡ xs
  none_after [] = refl
  none_after (x ∷ xs) = ap (λ (l : List Listed). x ∷ l) (none_after xs)

  pub listed_newest : listed after ≡ listed s ++ newest ∷ []
  listed_newest = listed_after s group
      ∙ ap (λ (l : List Listed). listed s ++ l)
      (none_after (map (λ p. record { group = length s.groups; quota = group.quota; request = p }) group.requests)
      ∙ ap (map (λ (p : RequestPart). record { group = length s.groups; quota = group.quota; request = p })) only)

  pub count_newest : length (listed after) ≡ length (listed s) + 1
  count_newest = let e : length (listed after) ≡ length (listed s ++ newest ∷ []) = ap length listed_newest in
      let n = length-append (listed s) (newest ∷ []) in omega arith

  in_list : Contains (listed after) newest
  in_list = subst (λ (l : List Listed). Contains l newest) (sym listed_newest) (Contains-push (listed s) newest)

  pub newest_known : IsKnown after q.request.0
  newest_known = listed_known after newest in_list

  pub newest_as : IsListedAs after q.request.0 newest
  newest_as = listed_as after newest o in_list

  pub newest_group : group_of after q.request.0 ≡ length s.groups
  newest_group = known_or_is (λ x. x.group) 0 after q.request.0 newest newest_known newest_as

  last_one : slice_index_or (listed after) (length (listed s)) newest ≡ newest
  last_one = ap (λ (l : List Listed). slice_index_or l (length (listed s)) newest) listed_newest
      ∙ get_or-append_right (listed s) (newest ∷ []) (length (listed s)) (length (listed s)) newest refl (omega arith)
      ∙ ap (λ (n : ℕ). slice_index_or (newest ∷ []) n newest) (none (length (listed s)))
    where
      none : (n : ℕ) → n - n ≡ 0
      none n = omega arith

  pub newest_place : place_of after q.request.0 ≡ length (listed s)
  newest_place = place_at after (length (listed s)) newest o (let c = count_newest in omega arith) last_one

  -- it is at the last place
  pub newest_at : (p : RequestPart) → HoldsAt (λ x. x.request ≡ p) (listed after) (length (listed after) - 1) → p ≡ q
  newest_at p h =
      let last : length (listed after) - 1 ≡ length (listed s) = (let c = count_newest in omega arith) in
      sym (h newest) ∙ ap (λ (n : ℕ). (slice_index_or (listed after) n newest).request) last ∙ ap (λ (x : Listed). x.request) last_one

  pub newest_single : group.op ≡ Single → IsKind after Single (group_of after q.request.0)
  newest_single single d =
      ap (λ (n : ℕ). (slice_index_or (s.groups ++ group ∷ []) n d).op) newest_group
      ∙ ap (λ (x : GroupPart). x.op) (get_or-append_right s.groups (group ∷ []) (length s.groups) (length s.groups) d refl (omega arith)
      ∙ ap (λ (n : ℕ). slice_index_or (group ∷ []) n d) (none (length s.groups)))
      ∙ single
    where
      none : (n : ℕ) → n - n ≡ 0
      none n = omega arith

  not_below : (n m : ℕ) → n ≡ m → n < m → ⊥
  not_below n m e l = omega arith

  -- no plan that was feasible before places it
  pub newest_unplaced : (plan : List Placement) → IsFeasible s plan → ¬ (Contains (requests_of plan) q.request.0)
  newest_unplaced plan f c =
      let known : IsKnown s q.request.0 = All-contains (IsKnown s) (requests_of plan) q.request.0 (requests_known s plan f) c in
      not_below (place_of s q.request.0) (length (listed s)) (sym (place_kept s group q.request.0 known) ∙ newest_place) known
