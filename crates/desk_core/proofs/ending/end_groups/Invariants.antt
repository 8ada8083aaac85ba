use Rattle.std.proofs.Common.{◌≡◌, ◌+◌, ◌≤◌, drop, fold, length}
use Rattle.desk_core.specs.Endings.{ended, CanEndAll, refunds_in}
use Rattle.desk_core.proofs.ending.end_groups.Given as goal

abbrev pub invariant-loop-ending : goal.invariant-loop-ending
invariant-loop-ending l = record {
  can : CanEndAll l.ledger.books (drop l.ending-index l.endings);
  books : fold ended l.ledger.books (drop l.ending-index l.endings) ≡ fold ended l.initial.ledger.books l.endings;
  enough : length (refunds_in (drop l.ending-index l.endings)) ≤ l.ledger.spare;
  spare : l.ledger.spare + length (refunds_in l.endings) ≡ l.initial.ledger.spare + length (refunds_in (drop l.ending-index l.endings));
}
