-- The steps of a run make the repaired plan.
use Rattle.std.proofs.Common.{◌≡◌, ◌≢◌, ◌⊎◌, inr, not, List, [], Option, All, AllPairs, Contains, sym, ◌∙◌, subst}
use Rattle.std.proofs.lemmas.List.Elements.{All-nil, All-filter, All-contains, All-contains_itself}
use Rattle.std.proofs.lemmas.List.Kept.{AllPairs-filter}
use Rattle.std.proofs.lemmas.List.Sorted.{All-permutation, Contains-permutation, IsPermutation-sym}
use Rattle.plan_base.specs.declared.parts.Parts.{Parts}
use Rattle.plan_base.specs.declared.claim.Placement.{Placement}
use Rattle.plan_base.specs.declared.parts.Op.TheVariants.{And}
use Rattle.plan_base.specs.Requests.{group_of, IsKind}
use Rattle.plan_base.specs.Snapshot.{IsOrderly}
use Rattle.plan_base.specs.Starts.{IsPossibleStart}
use Rattle.plan_base.specs.Feasible.{IsDisjoint, IsFeasible}
use Rattle.plan_base.specs.Fill.{IsFilled}
use Rattle.plan_base.specs.Operators.{is_and}
use Rattle.plan_base.specs.Repaired.{AddsWholes, group_places, outside_ands, IsTriedBefore, AddsEach, IsRepairedFrom}
use Rattle.plan_base.specs.Round.{op_at}
use Rattle.groups.specs.Building.{Building}
use Rattle.repair.specs.Firsts.{AreFirsts}
use Rattle.repair.specs.Repairs.{IsForemost, AreOrdered}
use Rattle.repair.proofs.Blocked.{in_order, tried_joins, tried_or_turned, AreEnough, each_by_foremost, wholes_within}
use Rattle.repair.proofs.Sorting.{outside_possible, outside_kind, different}

-- the drafts of a run: when it is cleared, when whole ANDs are added, when other starts are, and when it is filled
pub record AreDrafts (s : Parts) (starts ordered : List Placement) (firsts : List (Option Placement)) (cleared wholes added filled : Building) : Type 0 where
  pub snapshot : cleared.snapshot ≡ s
  pub empty : cleared.placed ≡ []
  pub same : wholes.snapshot ≡ cleared.snapshot
  pub also : added.snapshot ≡ wholes.snapshot
  pub adds_wholes : (ps : List Placement) → AreFirsts cleared.snapshot ps firsts
      → AddsWholes cleared.snapshot ps cleared.placed (group_places cleared.snapshot) wholes.placed
  pub are_firsts : AreFirsts s starts firsts
  pub are_ordered : AreOrdered s starts ordered
  pub feasible : IsFeasible cleared.snapshot wholes.placed
  pub adds_each : AddsEach wholes.snapshot wholes.placed ordered added.placed
  pub fills : IsFilled added.snapshot added.placed filled.placed

filled_from : (s : Parts) (starts ordered : List Placement) (firsts : List (Option Placement)) (cleared wholes added filled : Building)
    → AreDrafts s starts ordered firsts cleared wholes added filled → IsFilled s added.placed filled.placed
filled_from s starts ordered firsts cleared wholes added filled are =
    subst (λ (p : Parts). IsFilled p added.placed filled.placed) (are.also ∙ are.same ∙ are.snapshot) are.fills

-- two starts of a list that share no slices are tried one after the other
compared : (s : Parts) (starts : List Placement) → IsOrderly s → All (IsPossibleStart s) starts → IsDisjoint s starts
    → AllPairs (λ p q. IsTriedBefore s p q ⊎ IsTriedBefore s q p) (outside_ands s starts)
compared s starts orderly possible disjoint i j d l m =
    tried_or_turned s _ _ (AllPairs-filter (λ a b. a ≢ b) (λ p. not (is_and (op_at s (group_of s p.request.0)))) starts
    (different s starts orderly possible disjoint) i j d l m)

pub repaired_from : (s : Parts) (starts ordered : List Placement) (firsts : List (Option Placement)) (cleared wholes added filled : Building)
    → IsOrderly s → All (IsPossibleStart s) starts → IsDisjoint s starts
    → AreDrafts s starts ordered firsts cleared wholes added filled → IsRepairedFrom s starts filled.placed
repaired_from s starts ordered firsts cleared wholes added filled orderly possible disjoint are =
    let adds : AddsWholes cleared.snapshot starts cleared.placed (group_places cleared.snapshot) wholes.placed =
    are.adds_wholes starts (subst (λ (p : Parts). AreFirsts p starts firsts) (sym are.snapshot) are.are_firsts) in
    let adds_wholes : AddsWholes s starts [] (group_places s) wholes.placed =
    subst (λ (plan : List Placement). AddsWholes s starts plan (group_places s) wholes.placed) are.empty
    (subst (λ (p : Parts). AddsWholes p starts cleared.placed (group_places p) wholes.placed) are.snapshot adds) in
    let outs : List Placement = outside_ands s starts in
    let all = in_order (IsTriedBefore s) (tried_joins s) outs (compared s starts orderly possible disjoint) in
    let enough : AreEnough s starts wholes.placed all.0 ordered = record {
      feasible = subst (λ (p : Parts). IsFeasible p wholes.placed) are.snapshot are.feasible;
      disjoint = disjoint;
      within = wholes_within s starts [] (group_places s) wholes.placed (All-nil (Contains starts)) adds_wholes;
      from = All-permutation (Contains starts) outs all.0 all.1
          (All-filter (λ p. not (is_and (op_at s (group_of s p.request.0)))) (Contains starts) starts (All-contains_itself starts));
      possible = All-permutation (IsPossibleStart s) outs all.0 all.1 (outside_possible s starts possible);
      outside = All-permutation (λ p. ¬ (IsKind s And (group_of s p.request.0))) outs all.0 all.1 (outside_kind s starts possible);
      falling = all.2;
      also = are.are_ordered.falling;
      among = λ z c. Contains-permutation outs all.0 z all.1 (All-contains (IsForemost s starts) ordered z are.are_ordered.each c).one;
      cover = λ z c.
          let one : Contains outs z = Contains-permutation all.0 outs z (IsPermutation-sym outs all.0 all.1) c in
          let found = are.are_ordered.complete z one in
          inr (found.0, found.1, found.2, (All-contains (IsForemost s starts) ordered found.0 are.are_ordered.each found.1).first z one (sym found.2));
    } in
    record {
      wholes = wholes.placed;
      ordered = all.0;
      added = added.placed;
      adds_wholes = adds_wholes;
      same = all.1;
      falling = all.2;
      adds_each = each_by_foremost s starts wholes.placed all.0 ordered added.placed enough
          (subst (λ (p : Parts). AddsEach p wholes.placed ordered added.placed) (are.same ∙ are.snapshot) are.adds_each);
      filled = filled_from s starts ordered firsts cleared wholes added filled are;
    }
