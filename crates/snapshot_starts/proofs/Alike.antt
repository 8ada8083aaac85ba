-- Spans that have the same seconds within some times, and parts of snapshots that are alike.
use Rattle.std.proofs.Common.{◌≡◌, ℕ, ◌+◌, ◌<◌, ◌≤◌, inl, inr, min, max, true, nat_eq, List, [], ◌∷◌, ◌++◌, length, slice_index_or, take, sym, ◌∙◌, ap}
use Rattle.std.proofs.Common.{subst, arith}
use Rattle.std.specs.Prelude.{◌&&◌, ◌↔◌}
use Rattle.std.proofs.lemmas.Bool.{and_parts}
use Rattle.std.proofs.lemmas.List.{take_more}
use Rattle.plan_base.specs.declared.span.Span.{Span}
use Rattle.plan_base.specs.declared.number.RequestNo.{RequestNo}
use Rattle.plan_base.specs.declared.number.TelescopeNo.{TelescopeNo}
use Rattle.snapshot_starts.specs.declared.pair.Pair.{Pair}
use Rattle.snapshot_starts.specs.Pairs.{pair_of}
use Rattle.plan_base.proofs.Equality.{requests_decide, telescopes_decide}
use Rattle.plan_base.specs.BySpans.{OneHasAll}
use Rattle.snapshot_starts.specs.Mending.{IsSameWithin}
use Rattle.snapshot_starts.proofs.Sets.{any_left, any_last, any_cases}

-- ---- equal values

pub pairs_same : (a b : Pair) → (nat_eq a.request.0 b.request.0 && nat_eq a.telescope.0 b.telescope.0) ≡ true → a ≡ b
pairs_same a b told =
    let both = and_parts (nat_eq a.request.0 b.request.0) (nat_eq a.telescope.0 b.telescope.0) told in
    ap (λ (r : RequestNo). pair_of r a.telescope) ((requests_decide a.request b.request).0 both.0)
    ∙ ap (λ (t : TelescopeNo). pair_of b.request t) ((telescopes_decide a.telescope b.telescope).0 both.1)

-- ---- the same within some times

pub same_at_first : (times : Span) (xs : List Span) → IsSameWithin times xs xs
same_at_first times xs a b some from to = (λ has. has, λ has. has)

-- the seconds that a span has in common with the times
pub record IsPartOf (w times part : Span) : Type 0 where
  pub from : part.from.0 ≡ max w.from.0 times.from.0
  pub to : part.to.0 ≡ min w.to.0 times.to.0

-- what lies within the times lies inside a span where it lies inside this part of it
part_has : (w times part : Span) (a b : ℕ) → IsPartOf w times part → times.from.0 ≤ a → b ≤ times.to.0 → (w.from.0 ≤ a) × (b ≤ w.to.0)
    ↔ (part.from.0 ≤ a) × (b ≤ part.to.0)
part_has w times part a b is from to = (
  λ (h, g). (omega (arith, is.from, h, from), omega (arith, is.to, g, to)),
  λ (h, g). (omega (arith, is.from, h), omega (arith, is.to, g)),
)

more_same : (times w part : Span) (xs parts : List Span) → IsPartOf w times part → IsSameWithin times xs parts
    → IsSameWithin times (xs ++ w ∷ []) (parts ++ part ∷ [])
more_same times w part xs parts is so_far a b some from to =
    let P : Span → Type 0 = λ v. (v.from.0 ≤ a) × (b ≤ v.to.0) in
    let before = so_far a b some from to in
    let here = part_has w times part a b is from to in (
      λ has. elim (any_cases P xs w has) [
        | inl earlier ↦ any_left P parts part (before.0 earlier)
        | inr last ↦ any_last P parts part (here.0 last)
      ],
      λ has. elim (any_cases P parts part has) [
        | inl earlier ↦ any_left P xs w (before.1 earlier)
        | inr last ↦ any_last P xs w (here.1 last)
      ],
    )

-- a span with no part in the times
none_same : (times w part : Span) (xs parts : List Span) → IsPartOf w times part → part.to.0 ≤ part.from.0 → IsSameWithin times xs parts
    → IsSameWithin times (xs ++ w ∷ []) parts
none_same times w part xs parts is none so_far a b some from to =
    let P : Span → Type 0 = λ v. (v.from.0 ≤ a) × (b ≤ v.to.0) in
    let before = so_far a b some from to in
    let here = part_has w times part a b is from to in (
      λ has. elim (any_cases P xs w has) [
        | inl earlier ↦ before.0 earlier
        | inr last ↦ let both = here.0 last in absurd (omega (arith, both.0, both.1, none, some))
      ],
      λ has. any_left P xs w (before.1 has),
    )

taken_more : (spans : List Span) (i : ℕ) (w : Span) → i < length spans → slice_index_or spans i w ≡ w → take (i + 1) spans ≡ take i spans ++ w ∷ []
taken_more spans i w l at = take_more spans i w l ∙ ap (λ (v : Span). take i spans ++ v ∷ []) at

pub more_within : (times w part : Span) (spans parts : List Span) (i : ℕ) → i < length spans → slice_index_or spans i w ≡ w → IsPartOf w times part
    → IsSameWithin times (take i spans) parts → IsSameWithin times (take (i + 1) spans) (parts ++ part ∷ [])
more_within times w part spans parts i l at is so_far =
    subst (λ (xs : List Span). IsSameWithin times xs (parts ++ part ∷ [])) (sym (taken_more spans i w l at))
    (more_same times w part (take i spans) parts is so_far)

pub none_within : (times w part : Span) (spans parts : List Span) (i : ℕ) → i < length spans → slice_index_or spans i w ≡ w → IsPartOf w times part
    → part.to.0 ≤ part.from.0
    → IsSameWithin times (take i spans) parts → IsSameWithin times (take (i + 1) spans) parts
none_within times w part spans parts i l at is none so_far =
    subst (λ (xs : List Span). IsSameWithin times xs parts) (sym (taken_more spans i w l at)) (none_same times w part (take i spans) parts is none so_far)

-- with the same parts, both have the same
pub same_through : (times : Span) (xs ys parts others : List Span) → parts ≡ others → IsSameWithin times xs parts → IsSameWithin times ys others
    → IsSameWithin times xs ys
same_through times xs ys parts others e left right a b some from to =
    let mine = left a b some from to in
    let theirs = right a b some from to in (
      λ has. theirs.1 (subst (λ (zs : List Span). OneHasAll zs a b) e (mine.0 has)),
      λ has. mine.1 (subst (λ (zs : List Span). OneHasAll zs a b) (sym e) (theirs.0 has)),
    )
