-- The request at a place, as the snapshot knows it by its number.
use Rattle.std.proofs.Common.{◌≡◌, ℕ, zero, suc, ◌<◌, ◌≤◌, ◌⊎◌, inl, inr, List, [], ◌∷◌, ◌++◌, length, slice_index_or, Contains, refl, sym, ◌∙◌, ap}
use Rattle.std.proofs.Common.{subst, arith}
use Rattle.std.specs.Prelude.{HoldsAt}
use Rattle.std.specs.List.{flat_map}
use Rattle.std.proofs.lemmas.List.Elements.{All-contains, Contains-get_or, Contains-append_left, Contains-append_right}
use Rattle.plan_base.specs.declared.parts.Parts.{Parts}
use Rattle.plan_base.specs.declared.parts.TelescopePart.{TelescopePart}
use Rattle.plan_base.specs.declared.parts.Sky.{Sky}
use Rattle.plan_base.specs.declared.parts.RequestPart.{RequestPart}
use Rattle.plan_base.specs.declared.span.Span.{Span}
use Rattle.plan_base.specs.Requests.{Listed, listed, place_of, IsKnown, seconds_of, request_value, fade_of, windows_of, telescopes_of, targets_of}
use Rattle.plan_base.specs.Snapshot.{IsMoment, IsOrderly, all_spans}
use Rattle.plan_base.proofs.Orders.{contains_cases}
use Rattle.plan_base.proofs.Known.{IsListedAs, known_or_is}
use Rattle.plan_base.proofs.Members.{listed_known, listed_as}
use Rattle.plan_base.specs.Asked.{IsAsked}

-- the request q stands at a place, and is known by its number
pub record IsHere (s : Parts) (place : ℕ) (q : RequestPart) : Type 0 where
  pub known : IsKnown s q.request.0
  pub at : place_of s q.request.0 ≡ place
  pub seconds : seconds_of s q.request.0 ≡ q.seconds
  pub value : request_value s q.request.0 ≡ q.value
  pub fade : fade_of s q.request.0 ≡ q.fade
  pub windows : windows_of s q.request.0 ≡ q.windows
  pub telescopes : telescopes_of s q.request.0 ≡ q.telescopes
  pub targets : targets_of s q.request.0 ≡ q.targets
  pub asked : IsAsked q

abbrev number_of : Listed → ℕ
number_of x = x.request.request.0

below_same_above : (a b : ℕ) → ((a < b) ⊎ (b < a)) ⊎ (a ≡ b)
below_same_above a b = grind arith

pub element_at : {X : Type 0} (xs : List X) (i : ℕ) → i < length xs → (x : X) × (slice_index_or xs i x ≡ x)
element_at [] i l = absurd (omega arith)
element_at (x ∷ xs) zero l = (x, refl)
element_at (x ∷ xs) (suc i) l = element_at xs i (omega arith)

-- a request's place is where it stands among all
pub place_at : (s : Parts) (i : ℕ) (x : Listed) → IsOrderly s → i < length (listed s) → slice_index_or (listed s) i x ≡ x → place_of s (number_of x) ≡ i
place_at s i x o l is =
    let known : IsKnown s (number_of x) = listed_known s x (i, l, is) in
    let listing : IsListedAs s (number_of x) x = listed_as s x o (i, l, is) in
    let there : number_of (slice_index_or (listed s) (place_of s (number_of x)) x) ≡ number_of x = ap number_of listing.at_place in
    let here : number_of (slice_index_or (listed s) i x) ≡ number_of x = ap number_of is in
    elim (below_same_above (place_of s (number_of x)) i) [
      | inl (inl below) ↦ let less : number_of (slice_index_or (listed s) (place_of s (number_of x)) x) < number_of (slice_index_or (listed s) i x) =
          o.requests_rise _ i x below l in absurd (omega arith)
      | inl (inr above) ↦ let less : number_of (slice_index_or (listed s) i x) < number_of (slice_index_or (listed s) (place_of s (number_of x)) x) =
          o.requests_rise i _ x above known in absurd (omega arith)
      | inr same ↦ same
    ]

contains_flat_map : {X Y : Type 0} (f : X → List Y) (xs : List X) (x : X) (y : Y) → Contains xs x → Contains (f x) y → Contains (flat_map f xs) y
contains_flat_map f [] x y c d = absurd (omega (arith, c.1))
contains_flat_map f (z ∷ xs) x y c d = elim (contains_cases z x xs c) [
  | inl e ↦ Contains-append_left (f z) (flat_map f xs) y (subst (λ w. Contains (f w) y) (sym e) d)
  | inr rest ↦ Contains-append_right (f z) (flat_map f xs) y (contains_flat_map f xs x y rest d)
]

abbrev usable_spans : Parts → List Span
usable_spans s = flat_map (λ x. x.usable) s.telescopes

abbrev sky_spans : Parts → List Span
sky_spans s = flat_map (λ x. x.spans) s.skies

abbrev window_spans : Parts → List Span
window_spans s = flat_map (λ x. x.request.windows) (listed s)

span_moments : (s : Parts) (w : Span) → IsOrderly s → Contains (usable_spans s ++ sky_spans s ++ window_spans s) w → IsMoment w.from.0 × IsMoment w.to.0
span_moments s w o c = All-contains (λ v. IsMoment v.from.0 × IsMoment v.to.0) (all_spans s) w o.ranges.moments c

pub usable_moments : (s : Parts) (x : TelescopePart) (w : Span) → IsOrderly s → Contains s.telescopes x → Contains x.usable w
    → IsMoment w.from.0 × IsMoment w.to.0
usable_moments s x w o c d =
    span_moments s w o (Contains-append_left (usable_spans s ++ sky_spans s) (window_spans s) w
    (Contains-append_left (usable_spans s) (sky_spans s) w (contains_flat_map (λ y. y.usable) s.telescopes x w c d)))

pub sky_moments : (s : Parts) (x : Sky) (w : Span) → IsOrderly s → Contains s.skies x → Contains x.spans w → IsMoment w.from.0 × IsMoment w.to.0
sky_moments s x w o c d = span_moments s w o
    (Contains-append_left (usable_spans s ++ sky_spans s) (window_spans s) w
    (Contains-append_right (usable_spans s) (sky_spans s) w (contains_flat_map (λ y. y.spans) s.skies x w c d)))

pub window_moments : (s : Parts) (x : Listed) (w : Span) → IsOrderly s → Contains (listed s) x → Contains x.request.windows w
    → IsMoment w.from.0 × IsMoment w.to.0
window_moments s x w o c d = span_moments s w o
    (Contains-append_right (usable_spans s ++ sky_spans s) (window_spans s) w (contains_flat_map (λ y. y.request.windows) (listed s) x w c d))

pub request_here : (s : Parts) (place : ℕ) (q : RequestPart) → IsOrderly s → place < length (listed s)
    → HoldsAt (λ x. x.request ≡ q) (listed s) place → IsHere s place q
request_here s place q o l at =
    let x = element_at (listed s) place l in
    let same : x.0.request ≡ q = ap (λ (y : Listed). y.request) (sym x.1) ∙ at x.0 in
    let in_list : Contains (listed s) x.0 = (place, l, x.1) in
    let number : number_of x.0 ≡ q.request.0 = ap (λ (p : RequestPart). p.request.0) same in
    let known : IsKnown s (number_of x.0) = listed_known s x.0 in_list in
    let listing : IsListedAs s (number_of x.0) x.0 = listed_as s x.0 o in_list in
    record {
      known = subst (IsKnown s) number known;
      at = ap (place_of s) (sym number) ∙ place_at s place x.0 o l x.1;
      seconds = ap (seconds_of s) (sym number) ∙ known_or_is (λ y. y.request.seconds) 0 s (number_of x.0) x.0 known listing
          ∙ ap (λ (p : RequestPart). p.seconds) same;
      value = ap (request_value s) (sym number) ∙ known_or_is (λ y. y.request.value) 0 s (number_of x.0) x.0 known listing
          ∙ ap (λ (p : RequestPart). p.value) same;
      fade = ap (fade_of s) (sym number) ∙ known_or_is (λ y. y.request.fade) 0 s (number_of x.0) x.0 known listing ∙ ap (λ (p : RequestPart). p.fade) same;
      windows = ap (windows_of s) (sym number) ∙ known_or_is (λ y. y.request.windows) [] s (number_of x.0) x.0 known listing
          ∙ ap (λ (p : RequestPart). p.windows) same;
      telescopes = ap (telescopes_of s) (sym number) ∙ known_or_is (λ y. y.request.telescopes) [] s (number_of x.0) x.0 known listing
          ∙ ap (λ (p : RequestPart). p.telescopes) same;
      targets = ap (targets_of s) (sym number) ∙ known_or_is (λ y. y.request.targets) [] s (number_of x.0) x.0 known listing
          ∙ ap (λ (p : RequestPart). p.targets) same;
      asked = subst IsAsked same (record {
        seconds_least = (All-contains (λ y. (1 ≤ y.request.seconds) × (y.request.seconds ≤ 86400)) (listed s) x.0 o.ranges.seconds in_list).0;
        seconds_most = (All-contains (λ y. (1 ≤ y.request.seconds) × (y.request.seconds ≤ 86400)) (listed s) x.0 o.ranges.seconds in_list).1;
        value = (All-contains (λ y. (1 ≤ y.request.value) × (y.request.value ≤ 288000000)) (listed s) x.0 o.ranges.values in_list).1;
        fade = All-contains (λ y. y.request.fade ≤ 1000) (listed s) x.0 o.fades in_list;
        moments = λ i d m. window_moments s x.0 (slice_index_or x.0.request.windows i d) o in_list (Contains-get_or x.0.request.windows i d m);
      });
    }
