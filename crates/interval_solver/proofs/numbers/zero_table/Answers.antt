use Rattle.std.proofs.Common.{ℕ, ◌+◌, ℤ, pos, ◌≡◌, List, length, replicate, All, refl, sym, ◌∙◌, ap, subst, arith}
use Rattle.std.proofs.lemmas.List.{length_push, length-replicate}
use Rattle.std.proofs.lemmas.List.Elements.{All-push, All-replicate}
use Rattle.interval_solver.specs.Tables.{IsEntry}
use Rattle.interval_solver.specs.Lanes.{IsForLanes}
use Rattle.interval_solver.proofs.numbers.zero_table.Goals as goal

-- as many zeros as there are lanes, each of which is P
zeros_for : (n : ℕ) (P : ℤ → Type 0) → P (pos 0) → IsForLanes n P (replicate n (pos 0))
zeros_for n P zero = record { count = length-replicate n (pos 0); each = All-replicate P n (pos 0) zero }

pub loop-preserved : goal.loop-preserved
loop-preserved g c = record {
  count = ap (λ (xs : List (List ℤ)). length xs) c.in_ok-push.ensures.items ∙ length_push c.loop.table.items _ ∙ ap (λ n. n + 1) c.loop.invariant.count;
  zeros = subst (All (IsForLanes g.row.L (λ n. n ≡ pos 0))) (sym c.in_ok-push.ensures.items)
      (All-push (IsForLanes g.row.L (λ n. n ≡ pos 0)) c.loop.table.items _ c.loop.invariant.zeros
      (zeros_for g.row.L (λ n. n ≡ pos 0) refl));
  entries = subst (All (IsForLanes g.row.L IsEntry)) (sym c.in_ok-push.ensures.items)
      (All-push (IsForLanes g.row.L IsEntry) c.loop.table.items _ c.loop.invariant.entries
      (zeros_for g.row.L IsEntry (omega arith, omega arith)));
}
