-- The plan that places nothing.
use Rattle.std.proofs.Common.{[], inr, arith}
use Rattle.std.proofs.lemmas.List.Elements.{All-nil}
use Rattle.plan_base.specs.declared.parts.Parts.{Parts}
use Rattle.plan_base.specs.Starts.{IsPossibleStart}
use Rattle.plan_base.specs.Feasible.{IsFeasible}

-- it is feasible, whatever the snapshot
pub empty_feasible : (s : Parts) → IsFeasible s []
empty_feasible s = record {
  possible = All-nil (IsPossibleStart s);
  once = λ i j d l m. absurd (omega arith);
  disjoint = λ i j d l m. absurd (omega arith);
  oneof_once = λ i j d l m. absurd (omega arith);
  and_whole = λ g k. inr (λ r o h. absurd (omega (arith, h.1)));
  within_quotas = λ q l. omega arith;
}
