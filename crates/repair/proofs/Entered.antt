-- The runs of a request's possible starts.
use Rattle.std.proofs.Common.{◌≡◌, ℕ, ◌<◌, true, ◌==◌, List, slice_index_or, Contains, sym, subst, arith}
use Rattle.std.proofs.lemmas.Bool.{eqb-true, eq-eqb}
use Rattle.std.proofs.lemmas.List.Elements.{All-contains, All-filter, filter_passes}
use Rattle.plan_base.specs.declared.parts.Parts.{Parts}
use Rattle.plan_base.specs.declared.claim.Placement.{Placement}
use Rattle.plan_base.specs.Starts.{IsPossibleStart}
use Rattle.plan_base.proofs.Lists.{contains_filter}
use Rattle.snapshot_starts.specs.declared.run.Run.{Run}
use Rattle.snapshot_starts.specs.Runs.{start_at, AreRuns, AreAllStarts, starts_with}
use Rattle.snapshot_starts.proofs.InRuns.{from_starts}
use Rattle.repair.specs.Entries.{AreRunsFor}

pub runs_for : (s : Parts) (starts : List Placement) (r : ℕ) (runs : List Run) → AreAllStarts s starts
    → AreRuns (starts_with starts r) runs → AreRunsFor s r runs
runs_for s starts r runs all are = record {
  request = λ k d l.
      let run : Run = slice_index_or runs k d in
      let some : 0 < run.count = (are.greatest k d l).some in
      let has : Contains (starts_with starts r) (start_at run run.first.0) = (are.greatest k d l).row run.first.0 (omega arith) (omega arith) in
      eqb-true run.request.0 r (All-contains (λ p. (p.request.0 == r) ≡ true) (starts_with starts r) (start_at run run.first.0)
      (filter_passes (λ p. p.request.0 == r) starts) has);
  possible = λ k d l. record {
    some = (are.greatest k d l).some;
    possible = λ j has. All-contains (IsPossibleStart s) (starts_with starts r) (start_at (slice_index_or runs k d) j)
        (All-filter (λ p. p.request.0 == r) (IsPossibleStart s) starts all.all.possible) ((are.greatest k d l).row j has.0 has.1);
  };
  complete = λ p same possible.
      let there : Contains (starts_with starts r) p = contains_filter (λ q. q.request.0 == r) starts p (all.all.complete p possible)
      (eq-eqb p.request.0 r same) in
      let found = from_starts runs p (subst (λ (ps : List Placement). Contains ps p) (sym are.whole) there) in
      (found.0, found.1, record { request = found.2.request; telescope = found.2.telescope; slice = (found.2.from, found.2.to) });
  order = are.order;
}
