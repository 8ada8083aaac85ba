-- Prices with one more at their end say the same of the requests that a snapshot had.
use Rattle.std.proofs.Common.{◌≡◌, ℕ, ◌-◌, ◌⊎◌, inl, inr, ℤ, pos, ◌+ℤ◌, ◌-ℤ◌, List, [], ◌∷◌, ◌++◌, length, slice_index_or, Option, None, All, Contains}
use Rattle.std.proofs.Common.{refl, sym, ◌∙◌, ap, subst, arith}
use Rattle.std.proofs.lemmas.List.{get_or_append_left, get_or-append_right}
use Rattle.std.proofs.lemmas.List.Elements.{All-head, All-tail, Contains-append_cases}
use Rattle.plan_base.specs.declared.parts.Parts.{Parts}
use Rattle.plan_base.specs.declared.parts.GroupPart.{GroupPart}
use Rattle.plan_base.specs.declared.parts.RequestPart.{RequestPart}
use Rattle.plan_base.specs.declared.claim.Placement.{Placement}
use Rattle.plan_base.specs.Sums.{total}
use Rattle.plan_base.specs.Requests.{Listed, listed, place_of, IsKnown, seconds_of, quota_of}
use Rattle.plan_base.specs.Snapshot.{IsOrderly}
use Rattle.plan_base.specs.Starts.{worth_at}
use Rattle.plan_base.specs.Bound.{price, weight, quota_cost, net_price}
use Rattle.plan_base.proofs.Orders.{contains_cases}
use Rattle.plan_base.proofs.Known.{known_as}
use Rattle.plan_base.proofs.Members.{listed_known}
use Rattle.rapid.specs.Insertion.{with_group}
use Rattle.rapid.proofs.Appended.{place_kept, seconds_kept, worth_kept, kept}
use Rattle.rapid.proofs.Newest.{listed_newest, newest_place}

-- functions that agree on each element have the same sum
pub same_totals : {X : Type 0} (f g : X → ℤ) (xs : List X) → All (λ x. f x ≡ g x) xs → total f xs ≡ total g xs
same_totals f g [] a = refl
same_totals f g (x ∷ xs) a = ap (λ (n : ℤ). n +ℤ total f xs) (All-head (λ y. f y ≡ g y) x xs a)
    ∙ ap (λ (n : ℤ). g x +ℤ n) (same_totals f g xs (All-tail (λ y. f y ≡ g y) x xs a))

module _ (s : Parts) (group : GroupPart) (q : RequestPart) (only : group.requests ≡ q ∷ []) (o : IsOrderly (with_group s group)) (cs : List ℤ) (c : ℤ)
    (count : length cs ≡ length (listed s)) where
  abbrev after : Parts
  after = with_group s group

  abbrev prices : List ℤ
  prices = cs ++ c ∷ []

  abbrev newest : Listed
  newest = record { group = length s.groups; quota = group.quota; request = q }

  -- a request is an old one or the new one
  pub old_or_new : (r : ℕ) → IsKnown after r → IsKnown s r ⊎ (r ≡ q.request.0)
  old_or_new r k =
      let x = known_as after r k in
      elim (Contains-append_cases (listed s) (newest ∷ []) x.0 (subst (λ (l : List Listed). Contains l x.0) (listed_newest s group q only o) x.1.in_list)) [
        | inl old ↦ inl (subst (IsKnown s) x.1.number (listed_known s x.0 old))
        | inr new ↦ elim (contains_cases newest x.0 [] new) [
          | inl e ↦ inr (sym x.1.number ∙ ap (λ (y : Listed). y.request.request.0) (sym e))
          | inr none ↦ absurd (omega (arith, none.1))
        ]
      ]

  pub price_kept : (r : ℕ) → IsKnown s r → price after prices r ≡ price s cs r
  price_kept r k = ap (λ (n : ℕ). slice_index_or prices n (pos 0)) (place_kept s group r k)
      ∙ get_or_append_left cs (c ∷ []) (pos 0) (place_of s r) (omega arith)

  pub price_newest : price after prices q.request.0 ≡ c
  price_newest =
      ap (λ (n : ℕ). slice_index_or prices n (pos 0)) (newest_place s group q only o)
      ∙ get_or-append_right cs (c ∷ []) (length cs) (length (listed s)) (pos 0) refl (omega arith)
      ∙ ap (λ (n : ℕ). slice_index_or (c ∷ []) n (pos 0)) (none (listed s) count)
    where
      none : (xs : List Listed) → length cs ≡ length xs → length xs - length cs ≡ 0
      none xs e = omega arith

  pub weight_kept : (p : Placement) → IsKnown s p.request.0 → weight after prices p ≡ weight s cs p
  weight_kept p k = ap (λ (n : ℕ). pos n -ℤ price after prices p.request.0) (worth_kept s group p k)
      ∙ ap (λ (z : ℤ). pos (worth_at s p) -ℤ z) (price_kept p.request.0 k)

  pub net_kept : (us : List ℕ) (r : ℕ) → IsKnown s r → net_price after prices us r ≡ net_price s cs us r
  net_kept us r k =
      ap (λ (z : ℤ). z -ℤ pos (quota_cost us (seconds_of after r) (quota_of after r))) (price_kept r k)
      ∙ ap (λ (n : ℕ). price s cs r -ℤ pos (quota_cost us n (quota_of after r))) (seconds_kept s group r k)
      ∙ ap (λ (n : Option ℕ). price s cs r -ℤ pos (quota_cost us (seconds_of s r) n)) (kept s group (λ x. x.quota) None r k)
