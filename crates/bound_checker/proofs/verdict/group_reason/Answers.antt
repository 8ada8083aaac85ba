use Rattle.std.proofs.Common.{◌≡◌, ◌<◌, ℕ, List, length, refl, sym, ◌∙◌, ap, subst, arith}
use Rattle.plan_base.specs.declared.parts.Parts.{Parts}
use Rattle.plan_base.specs.declared.parts.GroupPart.{GroupPart}
use Rattle.plan_base.specs.declared.claim.Placement.{Placement}
use Rattle.plan_base.specs.Verdict.{IsFirst}
use Rattle.bound_checker.specs.Claims.{AreGroupCounts, IsTwice, IsPartial, HoldsOfGroup}
use Rattle.bound_checker.proofs.GroupReasons.{twice_group_first, partial_group_first, kept_when}
use Rattle.bound_checker.proofs.verdict.group_reason.Goals as goal

pub returns-in-Some : goal.returns-in-Some
returns-in-Some c =
    let s = c.args.snapshot.now in
    let plan = c.args.claim.now.placements in
    let groups = c.as_slice-groups.result.now in
    let counts = c.in_ok-counts.counts.items in
    let here : groups ≡ s.groups = c.as_slice-groups.ensures ∙ ap (λ (x : Parts). x.groups) c.parts.ensures.value in
    let are : AreGroupCounts s plan counts = subst (λ (xs : List Placement). AreGroupCounts s xs counts) c.as_slice.ensures c.in_ok-counts.ensures in
    let found : (c.in-Some.place < length groups) × IsFirst (HoldsOfGroup IsTwice groups counts) c.in-Some.place
    = subst (λ (xs : List ℕ). (c.in-Some.place < length groups) × IsFirst (HoldsOfGroup IsTwice groups xs) c.in-Some.place)
    c.as_slice-2.ensures.value c.in-Some.ensures
    in
    twice_group_first s c.args.claim.now groups counts c.parts.ensures.orderly c.requires here are c.in-Some.place
    c.index-groups-place.result _ refl found.0 found.1

pub returns-in-Some-first_and_partial : goal.returns-in-Some-first_and_partial
returns-in-Some-first_and_partial c =
    let s = c.args.snapshot.now in
    let plan = c.args.claim.now.placements in
    let groups = c.as_slice-groups.result.now in
    let counts = c.in_ok-counts.counts.items in
    let here : groups ≡ s.groups = c.as_slice-groups.ensures ∙ ap (λ (x : Parts). x.groups) c.parts.ensures.value in
    let are : AreGroupCounts s plan counts = subst (λ (xs : List Placement). AreGroupCounts s xs counts) c.as_slice.ensures c.in_ok-counts.ensures in
    let none : (g : ℕ) → ¬ (HoldsOfGroup IsTwice groups counts g) =
    subst (λ (xs : List ℕ). (g : ℕ) → ¬ (HoldsOfGroup IsTwice groups xs g)) c.as_slice-2.ensures.value c.in_default.ensures in
    let place = c.in-Some-first_and_partial.place in
    let found : (place < length groups) × IsFirst (HoldsOfGroup IsPartial groups counts) place
    = subst (λ (xs : List ℕ). (place < length groups) × IsFirst (HoldsOfGroup IsPartial groups xs) place) c.as_slice-3.ensures.value
    c.in-Some-first_and_partial.ensures
    in
    partial_group_first s c.args.claim.now groups counts c.parts.ensures.orderly c.requires here are place
    c.index-groups-place-in-Some-first_and_partial.result _ refl found.0 none found.1

pub returns : goal.returns
returns c =
    let s = c.args.snapshot.now in
    let plan = c.args.claim.now.placements in
    let groups = c.as_slice-groups.result.now in
    let counts = c.in_ok-counts.counts.items in
    let here : groups ≡ s.groups = c.as_slice-groups.ensures ∙ ap (λ (x : Parts). x.groups) c.parts.ensures.value in
    let are : AreGroupCounts s plan counts = subst (λ (xs : List Placement). AreGroupCounts s xs counts) c.as_slice.ensures c.in_ok-counts.ensures in
    let none : (g : ℕ) → ¬ (HoldsOfGroup IsTwice groups counts g) =
    subst (λ (xs : List ℕ). (g : ℕ) → ¬ (HoldsOfGroup IsTwice groups xs g)) c.as_slice-2.ensures.value c.in_default.ensures in
    let whole : (g : ℕ) → ¬ (HoldsOfGroup IsPartial groups counts g) =
    subst (λ (xs : List ℕ). (g : ℕ) → ¬ (HoldsOfGroup IsPartial groups xs g)) c.as_slice-3.ensures.value c.in_default-first_and_partial.ensures in
    kept_when s c.args.claim.now groups counts c.parts.ensures.orderly c.requires here are none whole
