use Rattle.std.proofs.Common.{◌≡◌, false, true, ℕ, ◌<◌, List, length, sym, ◌∙◌, ap, subst, slice_index_or}
use Rattle.std.specs.Prelude.{HoldsAt}
use Rattle.std.proofs.lemmas.List.{get_or_default}
use Rattle.plan_base.specs.declared.parts.Sky.{Sky}
use Rattle.plan_base.specs.declared.span.Span.{Span}
use Rattle.plan_base.specs.BySpans.{OneHasAll}
use Rattle.plan_base.specs.Skies.{IsSkyOf, IsSkyAt}
use Rattle.plan_base.specs.Snapshot.{IsSortedApart}
use Rattle.bound_checker.proofs.PossibleStarts.{seen_in_sky, sky_has}
use Rattle.bound_checker.proofs.possible.is_visible.Goals as goal

pub has_all_sorted-requires : goal.has_all_sorted-requires
has_all_sorted-requires c =
    let place : ℕ = c.in-Some.place in
    let found : IsSkyAt c.args.parts.now.skies c.args.target.0 c.args.site.0 place
    = subst (λ (ys : List Sky). IsSkyAt ys c.args.target.0 c.args.site.0 place) c.as_slice-skies.ensures c.in-Some.ensures in
    subst IsSortedApart (sym c.as_slice.ensures)
    (subst (λ (ys : List Sky). IsSortedApart (slice_index_or ys place c.index-skies-place.result).spans) (sym c.as_slice-skies.ensures)
    (c.requires.skies place c.index-skies-place.result found.1))

pub returns-in-Some : goal.returns-in-Some
returns-in-Some c =
    let skies : List Sky = c.args.parts.now.skies in
    let place : ℕ = c.in-Some.place in
    let found : IsSkyAt skies c.args.target.0 c.args.site.0 place =
    subst (λ (ys : List Sky). IsSkyAt ys c.args.target.0 c.args.site.0 place) c.as_slice-skies.ensures c.in-Some.ensures in
    let there : (place < length skies) × HoldsAt (IsSkyOf c.args.target.0 c.args.site.0) skies place = (
      found.1,
      λ d. subst (IsSkyOf c.args.target.0 c.args.site.0)
          (sym (get_or_default skies place d found.0 found.1 ∙ found.2)) (found.3, found.4),
    ) in
    let at : c.index-skies-place.result ≡ slice_index_or skies place c.index-skies-place.result = c.index-skies-place.is
    ∙ ap (λ (ys : List Sky). slice_index_or ys place c.index-skies-place.result) c.as_slice-skies.ensures in
    let spans : c.as_slice.result.now ≡ c.index-skies-place.result.spans = c.as_slice.ensures ∙ ap (λ (y : Sky). y.spans) (sym c.index-skies-place.is) in
    let a : ℕ = c.args.observed.from.0 in
    let b : ℕ = c.args.observed.to.0 in (
      λ yes. sky_has skies c.args.target.0 c.args.site.0 a b place c.index-skies-place.result there.0 there.1 at
          (subst (λ (ws : List Span). OneHasAll ws a b) spans (c.has_all_sorted.ensures.0 yes)),
      λ seen. c.has_all_sorted.ensures.1
          (subst (λ (ws : List Span). OneHasAll ws a b) (sym spans)
          (seen_in_sky skies c.args.target.0 c.args.site.0 a b place c.index-skies-place.result c.requires.skies_rise there.0 there.1 at seen)),
    )

pub returns-in-None : goal.returns-in-None
returns-in-None c = (
  λ yes. absurd (cc),
  λ seen.
      let none : (v : ℕ) → ¬ (IsSkyAt c.args.parts.now.skies c.args.target.0 c.args.site.0 v) =
      subst (λ (ys : List Sky). (v : ℕ) → ¬ (IsSkyAt ys c.args.target.0 c.args.site.0 v)) c.as_slice-skies.ensures c.in-None.ensures in
      absurd (none seen.0 (seen.1, seen.2, seen.3, seen.4.0, seen.4.1)),
)
