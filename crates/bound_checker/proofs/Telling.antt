-- From the starts of a request to the possible starts of a telescope.
use Rattle.std.proofs.Common.{◌≡◌, ℕ, ◌+◌, ◌-◌, ◌<◌, ◌≤◌, ◌⊎◌, inl, inr, true, false, max, min, ℤ, pos, ◌-ℤ◌, List, [], length, slice_index_or, map}
use Rattle.std.proofs.Common.{Result, Ok, Err, OnOk, All, Contains, refl, sym, ◌∙◌, ap, subst, arith}
use Rattle.plan_base.specs.declared.parts.Parts.{Parts}
use Rattle.plan_base.specs.declared.parts.RequestPart.{RequestPart}
use Rattle.plan_base.specs.declared.number.TelescopeNo.{TelescopeNo}
use Rattle.plan_base.specs.declared.number.SiteNo.{SiteNo}
use Rattle.plan_base.specs.declared.claim.Placement.{Placement}
use Rattle.plan_base.specs.declared.span.Span.{Span}
use Rattle.plan_base.specs.Requests.{Listed, listed, place_of, IsKnown, telescopes_of, request_value, fade_of, windows_of}
use Rattle.plan_base.specs.Snapshot.{IsOrderly}
use Rattle.plan_base.specs.Starts.{slices_for, size_of, least_of, earliest_slice, faded, worth_at, IsPossibleStart}
use Rattle.plan_base.specs.Bound.{weight}
use Rattle.std.proofs.lemmas.List.{get_or_default}
use Rattle.plan_base.proofs.Sizes.{start_size_above}
use Rattle.plan_base.proofs.Known.{known_as}
use Rattle.bound_checker.specs.declared.table.Start.{Start}
use Rattle.bound_checker.specs.declared.worth.Offer.{Offer}
use Rattle.bound_checker.specs.declared.sight.Sight.{Sight}
use Rattle.plan_base.specs.Tables.{row, IsStartOn}
use Rattle.bound_checker.specs.Offers.{IsOffer, offer_weight}
use Rattle.bound_checker.specs.Sights.{AreViews}
use Rattle.bound_checker.specs.Listings.{start_in, IsAdded, CanStart, IsToldBy, IsListing, IsBefore}
use Rattle.plan_base.proofs.Here.{IsHere}
use Rattle.bound_checker.proofs.Seen.{IsSightOf, hidden_never, seen_if_possible, possible_if_seen}

below_or_at : (a b : ℕ) → a < b + 1 → (a < b) ⊎ (a ≡ b)
below_or_at a b h = grind arith

-- what stands at one place has one number
same_number : (s : Parts) (place : ℕ) (q : RequestPart) (r : ℕ) → IsHere s place q → IsKnown s r → place_of s r ≡ place → r ≡ q.request.0
same_number s place q r here known at =
    let x = known_as s r known in
    let y = known_as s q.request.0 here.known in
    let same : place_of s r ≡ place_of s q.request.0 = at ∙ sym here.at in
    let one : x.0 ≡ y.0 = sym x.1.at_place ∙ ap (λ (n : ℕ). slice_index_or (listed s) n x.0) same
    ∙ get_or_default (listed s) (place_of s q.request.0) x.0 y.0 here.known ∙ y.1.at_place in
    sym x.1.number ∙ ap (λ (z : Listed). z.request.request.0) one ∙ y.1.number

-- where a request has no possible start, the rows stay
pub listing_stays : (s : Parts) (prices : List ℤ) (t place : ℕ) (q : RequestPart) (rows : List (List Start)) → IsHere s place q
    → ((p : Placement) → p.request.0 ≡ q.request.0 → p.telescope.0 ≡ t → IsPossibleStart s p → ⊥)
    → IsListing s prices t (IsBefore s place) rows → IsListing s prices t (IsBefore s (place + 1)) rows
listing_stays s prices t place q rows here never before = record {
  count = before.count;
  possible = before.possible;
  complete = λ p start below. elim (below_or_at (place_of s p.request.0) place below) [
    | inl less ↦ before.complete p start less
    | inr at ↦ absurd (never p (same_number s place q p.request.0 here start.possible.known at) start.same_telescope start.possible)
  ];
}

-- a request that the telescope can't take has no possible start there
pub unable_never : (s : Parts) (t : TelescopeNo) (place : ℕ) (q : RequestPart) → IsHere s place q → ¬ (Contains q.telescopes t) → (p : Placement)
    → p.request.0 ≡ q.request.0 → p.telescope.0 ≡ t.0 → IsPossibleStart s p → ⊥
unable_never s t place q here not_able p same on possible =
    let able : Contains q.telescopes p.telescope =
    subst (λ (ts : List TelescopeNo). Contains ts p.telescope) (ap (telescopes_of s) same ∙ here.telescopes) possible.able in
    let one : p.telescope ≡ t = ap (λ (n : ℕ). let x : TelescopeNo = record { 0 = n } in x) on in
    not_able (subst (Contains q.telescopes) one able)

weight_same : (v w f g n m : ℕ) (c d : ℤ) → v ≡ w → f ≡ g → n ≡ m → c ≡ d → (pos (faded v f n) -ℤ c) ≡ (pos (faded w g m) -ℤ d)
weight_same v w f g n m c d a b e h = ap (λ (x : ℕ). pos (faded x f n) -ℤ c) a ∙ ap (λ (x : ℕ). pos (faded w x n) -ℤ c) b
    ∙ ap (λ (x : ℕ). pos (faded w g x) -ℤ c) e ∙ ap (λ (x : ℤ). pos (faded w g m) -ℤ x) h

-- a start of the offer tells of the possible start that it is
pub told_by : (s : Parts) (prices : List ℤ) (place : ℕ) (q : RequestPart) (o : Offer) (p : Placement) (i : ℕ) → IsHere s place q
    → IsOffer s.len q (slice_index_or prices place (pos 0)) o → p.request.0 ≡ q.request.0 → p.slice.0 ≡ s.first.0 + i
    → IsToldBy s prices p (start_in o s.first.0 i)
told_by s prices place q o p i here offer same at =
    let value : o.value ≡ request_value s p.request.0 = offer.value ∙ sym here.value ∙ ap (request_value s) (sym same) in
    let fade : o.fade ≡ fade_of s p.request.0 = offer.fade ∙ sym here.fade ∙ ap (fade_of s) (sym same) in
    let earliest : o.earliest ≡ earliest_slice s p.request.0 = offer.earliest
    ∙ ap (λ (ws : List Span). slices_for s.len (least_of (map (λ w. w.from.0) ws))) (sym here.windows ∙ ap (windows_of s) (sym same)) in
    let price : o.price ≡ slice_index_or prices (place_of s p.request.0) (pos 0) = offer.price
    ∙ ap (λ (n : ℕ). slice_index_or prices n (pos 0)) (sym here.at ∙ ap (place_of s) (sym same)) in
    let size : size_of s p.request.0 ≡ o.size = ap (size_of s) same ∙ ap (slices_for s.len) here.seconds ∙ sym offer.size in
    let delay : s.first.0 + i - o.earliest ≡ p.slice.0 - earliest_slice s p.request.0 = ap (λ (n : ℕ). n - o.earliest) (sym at)
    ∙ ap (λ (n : ℕ). p.slice.0 - n) earliest in
    record {
      gives = weight_same o.value (request_value s p.request.0) o.fade (fade_of s p.request.0) (s.first.0 + i - o.earliest)
          (p.slice.0 - earliest_slice s p.request.0) o.price (slice_index_or prices (place_of s p.request.0) (pos 0)) value fade delay price;
      after = omega arith;
    }

module _ (s : Parts) (prices : List ℤ) (t : TelescopeNo) (place : ℕ) (q : RequestPart) (site : SiteNo) (x : Sight) (o : Offer) (orderly : IsOrderly s)
    (here : IsHere s place q) (able : Contains q.telescopes t) (sight : IsSightOf s t.0 q site x)
    (offer : IsOffer s.len q (slice_index_or prices place (pos 0)) o) where
  abbrev placed : ℕ → Placement
  placed k = record { request = q.request; telescope = t; slice = record { 0 = k } }

  -- the starts of the request at the place are added
  pub listing_more : (old new : List (List Start)) → IsListing s prices t.0 (IsBefore s place) old → IsAdded o s.first.0 (CanStart s x o) old new
      → IsListing s prices t.0 (IsBefore s (place + 1)) new
  listing_more old new before added = record {
    count = added.count ∙ before.count;
    possible = λ i y has. elim (added.nothing_else i y has) [
      | inl earlier ↦ before.possible i y earlier
      | inr here_new ↦ (
        placed (s.first.0 + i),
        record {
          possible = possible_if_seen s t.0 place q site x (slice_index_or prices place (pos 0)) o orderly here sight offer
              (placed (s.first.0 + i)) refl refl able here_new.0;
          same_telescope = refl;
        },
        refl,
        subst (IsToldBy s prices (placed (s.first.0 + i))) (sym here_new.1) (told_by s prices place q o (placed (s.first.0 + i)) i here offer refl refl),
      )
    ];
    complete = λ p start below. elim (below_or_at (place_of s p.request.0) place below) [
      | inl less ↦ let earlier = before.complete p start less in (earlier.0, added.kept (p.slice.0 - s.first.0) earlier.0 earlier.1, earlier.2)
      | inr at ↦
          let same : p.request.0 ≡ q.request.0 = same_number s place q p.request.0 here start.possible.known at in
          let can : CanStart s x o p.slice.0 =
          seen_if_possible s t.0 place q site x
          (slice_index_or prices place (pos 0)) o orderly here sight offer p same start.same_telescope start.possible in
          let from : s.first.0 ≤ p.slice.0 = start.possible.begins in
          let row_is : s.first.0 + (p.slice.0 - s.first.0) ≡ p.slice.0 = omega arith in
          let size : size_of s p.request.0 ≡ o.size = ap (size_of s) same ∙ ap (slices_for s.len) here.seconds ∙ sym offer.size in
          let some : 0 < size_of s p.request.0 = start_size_above s orderly p start.possible in
          let ends : p.slice.0 + size_of s p.request.0 ≤ s.first.0 + s.slices = start.possible.ends in
          let count : length old ≡ s.slices = before.count in
          let within : p.slice.0 - s.first.0 < length old = omega arith in (
            start_in o s.first.0 (p.slice.0 - s.first.0),
            added.added (p.slice.0 - s.first.0) within (subst (CanStart s x o) (sym row_is) can),
            told_by s prices place q o p (p.slice.0 - s.first.0) here offer same (sym row_is),
          )
    ];
  }

-- what follows where a call has succeeded
pub ok_then : {T E : Type 0} (r : Result T E) (A B : Type 0) → (A → B) → OnOk r A → OnOk r B
ok_then (Ok x) A B f a = f a
ok_then (Err e) A B f a = a
