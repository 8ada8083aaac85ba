-- When a telescope of a snapshot is open for a request.
use Rattle.std.proofs.Common.{◌≡◌, ℕ, ◌+◌, ◌*◌, ◌<◌, ◌≤◌, List, [], length, map, All, Contains, sym, ◌∙◌, ap, subst, arith}
use Rattle.std.specs.Prelude.{◌↔◌, HoldsAt}
use Rattle.std.proofs.lemmas.List.{length-map, get_or-map, get_or_past}
use Rattle.plan_base.specs.declared.parts.Parts.{Parts}
use Rattle.plan_base.specs.declared.parts.RequestPart.{RequestPart}
use Rattle.plan_base.specs.declared.parts.TelescopePart.{TelescopePart}
use Rattle.plan_base.specs.declared.number.TelescopeNo.{TelescopeNo}
use Rattle.plan_base.specs.declared.span.Span.{Span}
use Rattle.plan_base.specs.Snapshot.{IsSortedApart, IsOrderly}
use Rattle.plan_base.specs.Starts.{site_of}
use Rattle.plan_base.specs.BySpans.{OneHasAll, usable_of, IsVisibleThrough}
use Rattle.snapshot_starts.specs.Pairs.{IsTimely, IsOpen, CanStart}

pub usable_is : (s : Parts) (t : ℕ) (part : TelescopePart) → t < length s.telescopes → HoldsAt (λ x. x ≡ part) s.telescopes t → usable_of s t ≡ part.usable
usable_is s t part l at = get_or-map (λ y. y.usable) s.telescopes t part [] l ∙ ap (λ (y : TelescopePart). y.usable) (at part)

pub site_is : (s : Parts) (t : ℕ) (part : TelescopePart) → t < length s.telescopes → HoldsAt (λ x. x ≡ part) s.telescopes t → site_of s t ≡ part.site.0
site_is s t part l at = get_or-map (λ y. y.site.0) s.telescopes t part 0 l ∙ ap (λ (y : TelescopePart). y.site.0) (at part)

pub part_apart : (s : Parts) (t : ℕ) (part : TelescopePart) → IsOrderly s → t < length s.telescopes → HoldsAt (λ x. x ≡ part) s.telescopes t
    → IsSortedApart part.usable
part_apart s t part o l at = subst (λ (y : TelescopePart). IsSortedApart y.usable) (at part) (o.usable t part l)

-- without a telescope there is no start
pub no_telescope : (s : Parts) (q : RequestPart) (t : TelescopeNo) (k : ℕ) → length s.telescopes ≤ t.0 → ¬ (CanStart s q t k)
no_telescope s q t k past can =
    let count : length (map (λ y. y.usable) s.telescopes) ≡ length s.telescopes = length-map s.telescopes (λ y. y.usable) in
    let none : usable_of s t.0 ≡ [] = get_or_past (map (λ y. y.usable) s.telescopes) t.0 [] (omega arith) in
    let has : OneHasAll [] (k * s.len) (k * s.len + q.seconds) =
    subst (λ (spans : List Span). OneHasAll spans (k * s.len) (k * s.len + q.seconds)) none can.usable in
    let bad : has.0 < 0 = has.2 in
    absurd (omega arith)

pub open_can : (s : Parts) (q : RequestPart) (t : TelescopeNo) (k : ℕ) (part : TelescopePart) → t.0 < length s.telescopes
    → HoldsAt (λ x. x ≡ part) s.telescopes t.0
    → Contains q.telescopes t → IsTimely s q k → IsOpen s part q.targets (k * s.len) (k * s.len + q.seconds) → CanStart s q t k
open_can s q t k part l at able timely is_open = record {
  able = able;
  timely = timely;
  usable = subst (λ (spans : List Span). OneHasAll spans (k * s.len) (k * s.len + q.seconds)) (sym (usable_is s t.0 part l at)) is_open.usable;
  visible = subst (λ (site : ℕ). All (λ target. IsVisibleThrough s target.0 site (k * s.len) (k * s.len + q.seconds)) q.targets)
      (sym (site_is s t.0 part l at)) is_open.visible;
}

pub can_open : (s : Parts) (q : RequestPart) (t : TelescopeNo) (k : ℕ) (part : TelescopePart) → t.0 < length s.telescopes
    → HoldsAt (λ x. x ≡ part) s.telescopes t.0
    → CanStart s q t k → IsOpen s part q.targets (k * s.len) (k * s.len + q.seconds)
can_open s q t k part l at can = record {
  usable = subst (λ (spans : List Span). OneHasAll spans (k * s.len) (k * s.len + q.seconds)) (usable_is s t.0 part l at) can.usable;
  visible = subst (λ (site : ℕ). All (λ target. IsVisibleThrough s target.0 site (k * s.len) (k * s.len + q.seconds)) q.targets)
      (site_is s t.0 part l at) can.visible;
}

-- the same at times that are those of the observation
pub open_iff : (s : Parts) (q : RequestPart) (t : TelescopeNo) (k : ℕ) (part : TelescopePart) (a b : ℕ) → t.0 < length s.telescopes
    → HoldsAt (λ x. x ≡ part) s.telescopes t.0
    → Contains q.telescopes t → IsTimely s q k → a ≡ k * s.len → b ≡ k * s.len + q.seconds → IsOpen s part q.targets a b ↔ CanStart s q t k
open_iff s q t k part a b l at able timely from to = (
  λ is_open. open_can s q t k part l at able timely
      (subst (λ (y : ℕ). IsOpen s part q.targets (k * s.len) y) to (subst (λ (x : ℕ). IsOpen s part q.targets x b) from is_open)),
  λ can. subst (λ (x : ℕ). IsOpen s part q.targets x b) (sym from)
      (subst (λ (y : ℕ). IsOpen s part q.targets (k * s.len) y) (sym to) (can_open s q t k part l at can)),
)
