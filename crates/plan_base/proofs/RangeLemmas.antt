-- The test of the ranges decides them.
use Rattle.std.proofs.Common.{◌≡◌, ◌^◌, ◌≤◌, Bool, ◌&&◌, List, [], ◌∷◌, refl, sym, ap, ◌∙◌, nat_le, Decides, All}
use Rattle.std.specs.List.{list_all, flat_map}
use Rattle.std.proofs.lemmas.Bool.{and_parts, and_from, leb-true, le-leb}
use Rattle.std.proofs.lemmas.Bool.Decides.{Decides-by_and}
use Rattle.std.proofs.lemmas.List.Folds.{list_all-append, list_all-map, flat_map-map}
use Rattle.plan_base.specs.declared.parts.Parts.{Parts}
use Rattle.plan_base.specs.declared.parts.RequestPart.{RequestPart}
use Rattle.plan_base.specs.declared.span.Span.{Span}
use Rattle.plan_base.specs.Requests.{Listed, listed}
use Rattle.plan_base.specs.Snapshot.{IsInRanges, IsMoment, all_spans}
use Rattle.plan_base.specs.Faults.{all_requests}
use Rattle.plan_base.specs.Ranges.{has_moments, has_ranges, has_horizon, has_all_moments, is_in_ranges}
use Rattle.plan_base.proofs.FaultLemmas.{requests-listed}

list_all-flat_map : {X Y : Type 0} (p : Y → Bool) (f : X → List Y) (xs : List X) → list_all p (flat_map f xs) ≡ list_all (λ x. list_all p (f x)) xs
list_all-flat_map p f [] = refl
list_all-flat_map p f (x ∷ xs) = list_all-append p (f x) (flat_map f xs) ∙ ap (λ b. list_all p (f x) && b) (list_all-flat_map p f xs)

list_all-all_spans : (s : Parts) → list_all has_moments (all_spans s) ≡ has_all_moments s
list_all-all_spans s =
    let windows : flat_map (λ x. x.request.windows) (listed s) ≡ flat_map (λ q. q.windows) (all_requests s.groups)
    = sym (flat_map-map (λ q. q.windows) (λ x. x.request) (listed s)) ∙ ap (flat_map (λ q. q.windows)) (requests-listed 0 s.groups)
    in simp (list_all-append, windows, list_all-flat_map)

list_all-listed : (p : RequestPart → Bool) (s : Parts) → list_all (λ x. p x.request) (listed s) ≡ list_all p (all_requests s.groups)
list_all-listed p s = sym (list_all-map p (λ x. x.request) (listed s)) ∙ ap (list_all p) (requests-listed 0 s.groups)

decides_all : {X : Type 0} (p : X → Bool) (P : X → Type 0) → ((x : X) → Decides (p x) (P x)) → (xs : List X) → Decides (list_all p xs) (All P xs)
decides_all p P d xs = Decides-by_and p P (list_all p) d refl (λ _ _. refl) xs

-- the ranges of a request
abbrev HasRanges : Listed → Type 0
HasRanges x = ((1 ≤ x.request.seconds) × (x.request.seconds ≤ 86400)) × ((1 ≤ x.request.value) × (x.request.value ≤ 288000000))

decides_ranges : (x : Listed) → Decides (has_ranges x.request) (HasRanges x)
decides_ranges x = (
  λ e.
      let halves = and_parts (nat_le 1 x.request.seconds && nat_le x.request.seconds 86400) (nat_le 1 x.request.value && nat_le x.request.value 288000000) e in
      let seconds = and_parts _ _ halves.0 in
      let values = and_parts _ _ halves.1 in
      ((leb-true _ _ seconds.0, leb-true _ _ seconds.1), (leb-true _ _ values.0, leb-true _ _ values.1)),
  λ h. and_from _ _ (and_from _ _ (le-leb _ _ h.0.0) (le-leb _ _ h.0.1)) (and_from _ _ (le-leb _ _ h.1.0) (le-leb _ _ h.1.1)),
)

decides_moments : (w : Span) → Decides (has_moments w) (IsMoment w.from.0 × IsMoment w.to.0)
decides_moments w = (
  λ e. let both = and_parts (nat_le w.from.0 (10 ^ 12)) (nat_le w.to.0 (10 ^ 12)) e in (leb-true _ _ both.0, leb-true _ _ both.1),
  λ h. and_from _ _ (le-leb _ _ h.0) (le-leb _ _ h.1),
)

-- the ranges of the horizon
pub record HasHorizon (s : Parts) : Type 0 where
  pub version : s.version ≤ 524288
  pub len_least : 60 ≤ s.len
  pub len_most : s.len ≤ 3600
  pub first : s.first.0 ≤ 4223371680
  pub slices_least : 1 ≤ s.slices
  pub slices_most : s.slices ≤ 1440

decides_horizon : (s : Parts) → Decides (has_horizon s) (HasHorizon s)
decides_horizon s = (
  λ e.
      let last = and_parts (nat_le s.version 524288 && (nat_le 60 s.len && nat_le s.len 3600) && nat_le s.first.0 4223371680)
      (nat_le 1 s.slices && nat_le s.slices 1440) e in
      let third = and_parts (nat_le s.version 524288 && (nat_le 60 s.len && nat_le s.len 3600)) (nat_le s.first.0 4223371680) last.0 in
      let second = and_parts (nat_le s.version 524288) (nat_le 60 s.len && nat_le s.len 3600) third.0 in
      let len = and_parts _ _ second.1 in
      let slices = and_parts _ _ last.1 in
      record {
        version = leb-true _ _ second.0;
        len_least = leb-true _ _ len.0;
        len_most = leb-true _ _ len.1;
        first = leb-true _ _ third.1;
        slices_least = leb-true _ _ slices.0;
        slices_most = leb-true _ _ slices.1;
      },
  λ h.
      and_from _ _ (and_from _ _ (and_from _ _ (le-leb _ _ h.version) (and_from _ _ (le-leb _ _ h.len_least) (le-leb _ _ h.len_most))) (le-leb _ _ h.first))
      (and_from _ _ (le-leb _ _ h.slices_least) (le-leb _ _ h.slices_most)),
)

-- the test is true exactly of parts in their ranges
pub decides_in_ranges : (s : Parts) → Decides (is_in_ranges s) (IsInRanges s)
decides_in_ranges s =
    let requests = decides_all (λ x. has_ranges x.request) HasRanges decides_ranges (listed s) in
    let moments = decides_all has_moments (λ w. IsMoment w.from.0 × IsMoment w.to.0) decides_moments (all_spans s) in
    let horizon = decides_horizon s in (
      λ e.
          let rest = and_parts (has_horizon s && list_all has_ranges (all_requests s.groups)) (has_all_moments s) e in
          let first = and_parts (has_horizon s) (list_all has_ranges (all_requests s.groups)) rest.0 in
          let numbers = horizon.0 first.0 in
          let asked = requests.0 (list_all-listed has_ranges s ∙ first.1) in
          record {
            version = numbers.version;
            len_least = numbers.len_least;
            len_most = numbers.len_most;
            first = numbers.first;
            slices_least = numbers.slices_least;
            slices_most = numbers.slices_most;
            seconds = λ k d l. (asked k d l).0;
            values = λ k d l. (asked k d l).1;
            moments = moments.0 (list_all-all_spans s ∙ rest.1);
          },
      λ h.
          and_from _ _
          (and_from _ _
          (horizon.1
          (record {
            version = h.version;
            len_least = h.len_least;
            len_most = h.len_most;
            first = h.first;
            slices_least = h.slices_least;
            slices_most = h.slices_most;
          }))
          (sym (list_all-listed has_ranges s) ∙ requests.1 (λ k d l. (h.seconds k d l, h.values k d l))))
          (sym (list_all-all_spans s) ∙ moments.1 h.moments),
    )
