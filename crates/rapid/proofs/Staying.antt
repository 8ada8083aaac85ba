-- What a telescope gives from each slice on stays where no start of a new request gives more.
use Rattle.std.proofs.Common.{◌≡◌, ℕ, ◌+◌, ◌*◌, ◌-◌, ◌<◌, ◌≤◌, inl, inr, Bool, ℤ, ◌+ℤ◌, ◌≤ℤ◌, List, [], ◌∷◌, ◌++◌, length, All, Any, Contains, sym}
use Rattle.std.proofs.Common.{◌∙◌, ap, subst, arith}
use Rattle.std.proofs.lemmas.List.Elements.{All-weaker}
use Rattle.plan_base.specs.declared.parts.Parts.{Parts}
use Rattle.plan_base.specs.declared.parts.GroupPart.{GroupPart}
use Rattle.plan_base.specs.declared.parts.RequestPart.{RequestPart}
use Rattle.plan_base.specs.declared.span.Span.{Span}
use Rattle.plan_base.specs.declared.claim.Placement.{Placement}
use Rattle.plan_base.specs.declared.number.TelescopeNo.{TelescopeNo}
use Rattle.plan_base.specs.declared.number.TargetNo.{TargetNo}
use Rattle.plan_base.specs.Requests.{listed, IsKnown, seconds_of, windows_of, targets_of}
use Rattle.plan_base.specs.Snapshot.{IsOrderly}
use Rattle.plan_base.specs.Starts.{IsPossibleStart, IsObserved, IsVisible, site_of, slices_for, size_of}
use Rattle.plan_base.specs.Bound.{weight}
use Rattle.plan_base.specs.Tables.{IsStartOn, slice_after, IsTable, entry}
use Rattle.bound_checker.specs.declared.worth.Offer.{Offer}
use Rattle.bound_checker.specs.Offers.{offer_weight}
use Rattle.openings.specs.Openings.{IsStartAt, IsOpenRow, IsOfferOf}
use Rattle.rapid.specs.Insertion.{with_group}
use Rattle.rapid.specs.Tables.{IsEnough}
use Rattle.rapid.proofs.Appended.{kept, seconds_kept, possible_kept}
use Rattle.rapid.proofs.Prices.{old_or_new, weight_kept}

module _ (s : Parts) (group : GroupPart) where
  abbrev after : Parts
  after = with_group s group

  observed_more : (p : Placement) (x : ℕ) → IsKnown s p.request.0 → IsObserved s p x → IsObserved after p x
  observed_more p x k o = (o.0, subst (λ (n : ℕ). x < p.slice.0 * s.len + n) (sym (seconds_kept s group p.request.0 k)) o.1)

  -- a possible start of a request that was known was one before
  pub possible_old : (p : Placement) → IsKnown s p.request.0 → IsPossibleStart after p → IsPossibleStart s p
  possible_old p k h =
      let r : ℕ = p.request.0 in
      let seconds : seconds_of after r ≡ seconds_of s r = seconds_kept s group r k in
      record {
        known = k;
        able = subst (λ (ts : List TelescopeNo). Contains ts p.telescope) (kept s group (λ x. x.request.telescopes) [] r k) h.able;
        begins = h.begins;
        ends = subst (λ (n : ℕ). p.slice.0 + slices_for s.len n ≤ s.first.0 + s.slices) seconds h.ends;
        window = subst (λ (n : ℕ). Any (λ (w : Span). (w.from.0 ≤ p.slice.0 * s.len) × (p.slice.0 * s.len + n ≤ w.to.0)) (windows_of s r)) seconds
            (subst (λ (ws : List Span). Any (λ (w : Span). (w.from.0 ≤ p.slice.0 * s.len) × (p.slice.0 * s.len + seconds_of after r ≤ w.to.0)) ws)
            (kept s group (λ x. x.request.windows) [] r k) h.window);
        usable = λ x o. h.usable x (observed_more p x k o);
        visible = subst (λ (ts : List TargetNo). All (λ target. (x : ℕ) → IsObserved s p x → IsVisible s target.0 (site_of s p.telescope.0) x) ts)
            (kept s group (λ x. x.request.targets) [] r k)
            (All-weaker (λ target. (x : ℕ) → IsObserved after p x → IsVisible s target.0 (site_of s p.telescope.0) x)
            (λ target. (x : ℕ) → IsObserved s p x → IsVisible s target.0 (site_of s p.telescope.0) x)
            (λ target v x o. v x (observed_more p x k o)) (targets_of after r) h.visible);
      }

-- what the flags of a request's starts say of its starts
pub enough_for : (s : Parts) (prices : List ℤ) (t r : ℕ) (o : Offer) (flags : List Bool) (table : List ℤ) → IsOfferOf s prices r o
    → IsOpenRow s t r flags → IsEnough o s.first.0 flags table
    → (p : Placement) → IsStartAt s t r p → (weight s prices p +ℤ entry table (slice_after s p - s.first.0)) ≤ℤ entry table (p.slice.0 - s.first.0)
enough_for s prices t r o flags table offer open_row enough p start =
    let begins : s.first.0 ≤ p.slice.0 = start.start.possible.begins in
    let at : p.slice.0 ≡ s.first.0 + (p.slice.0 - s.first.0) = omega arith in
    let most : (offer_weight o (s.first.0 + (p.slice.0 - s.first.0)) +ℤ entry table (p.slice.0 - s.first.0 + o.size))
    ≤ℤ entry table (p.slice.0 - s.first.0) = enough (p.slice.0 - s.first.0) ((open_row.each (p.slice.0 - s.first.0)).1 (p, start, at)) in
    let weighs : offer_weight o (s.first.0 + (p.slice.0 - s.first.0)) ≡ weight s prices p = ap (offer_weight o) (sym at)
    ∙ offer.weighs p start.start.same_request begins in
    let size : o.size ≡ size_of s p.request.0 = offer.size ∙ ap (size_of s) (sym start.start.same_request) in
    let ends : p.slice.0 - s.first.0 + o.size ≡ slice_after s p - s.first.0 = omega arith in
    subst (λ (w : ℤ). (w +ℤ entry table (slice_after s p - s.first.0)) ≤ℤ entry table (p.slice.0 - s.first.0)) weighs
    (subst (λ (k : ℕ). (offer_weight o (s.first.0 + (p.slice.0 - s.first.0)) +ℤ entry table k) ≤ℤ entry table (p.slice.0 - s.first.0)) ends most)

module _ (s : Parts) (group : GroupPart) (q : RequestPart) (only : group.requests ≡ q ∷ []) (o : IsOrderly (with_group s group)) (cs : List ℤ) (c : ℤ)
    (count : length cs ≡ length (listed s)) where
  abbrev extended : Parts
  extended = with_group s group

  abbrev prices : List ℤ
  prices = cs ++ c ∷ []

  -- no start of the new request on telescope t gives more than the table has at its slice
  abbrev pub IsEnoughFor : ℕ → (ℕ → ℤ) → Type 0
  IsEnoughFor t table = (p : Placement) → IsStartAt extended t q.request.0 p → (weight extended prices p +ℤ table (slice_after extended p)) ≤ℤ table p.slice.0

  after_kept : (p : Placement) → IsKnown s p.request.0 → slice_after extended p ≡ slice_after s p
  after_kept p known = ap (λ (n : ℕ). p.slice.0 + slices_for s.len n) (seconds_kept s group p.request.0 known)

  weighs_same : (p : Placement) → IsKnown s p.request.0 → weight extended prices p ≡ weight s cs p
  weighs_same p known = weight_kept s group q only o cs c count p known

  pub table_kept : (t : ℕ) (table : ℕ → ℤ) → IsEnoughFor t table → IsTable s cs t table → IsTable extended prices t table
  table_kept t table enough is = record {
    at_end = is.at_end;
    falling = is.falling;
    above = λ p start. elim (old_or_new s group q only o cs c count p.request.0 start.possible.known) [
      | inl known ↦
          let before : IsStartOn s t p = record { possible = possible_old s group p known start.possible; same_telescope = start.same_telescope } in
          subst (λ (w : ℤ). (w +ℤ table (slice_after extended p)) ≤ℤ table p.slice.0) (sym (weighs_same p known))
          (subst (λ (k : ℕ). (weight s cs p +ℤ table k) ≤ℤ table p.slice.0) (sym (after_kept p known)) (is.above p before))
      | inr same ↦ enough p (record { start = record { possible = start.possible; same_request = same }; same_telescope = start.same_telescope })
    ];
    reached = λ k from below. elim (is.reached k from below) [
      | inl e ↦ inl e
      | inr (p, start, at, e) ↦ inr (
        p,
        record { possible = possible_kept s group p start.possible; same_telescope = start.same_telescope },
        at,
        e ∙ ap (λ (w : ℤ). w +ℤ table (slice_after s p)) (sym (weighs_same p start.possible.known))
            ∙ ap (λ (n : ℕ). weight extended prices p +ℤ table n) (sym (after_kept p start.possible.known)),
      )
    ];
  }
