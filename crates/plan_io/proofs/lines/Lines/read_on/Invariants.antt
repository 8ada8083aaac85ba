use Rattle.std.proofs.Common.{◌≡◌, ◌-◌, ◌≤◌, [], false}
use Rattle.plan_io.specs.Newline.{NoNewline}
use Rattle.plan_io.specs.LinesSeen.{IsWithin}
use Rattle.plan_io.specs.Next.{ReadsOn}
use Rattle.plan_io.proofs.lines.Lines.read_on.Given as goal

abbrev pub invariant-loop-self : goal.invariant-loop-self
invariant-loop-self g l = record {
  reads : ReadsOn l.initial.self (g.S.Source.left l.initial.source) [] l.self (g.S.Source.left l.source);
  clear : NoNewline l.self.held;
  within : IsWithin l.self;
  failed : l.self.failed ≡ false;
  ended : l.self.ended ≡ false;
  later : g.S.Source.faults l.initial.source ≤ g.S.Source.faults l.source;
  unread : l.initial.self.answered ≡ l.initial.self.most_lines → l.self.taken ≡ l.initial.self.taken;
}

abbrev pub decreases-loop-self : goal.decreases-loop-self
decreases-loop-self g l = l.self.most_bytes - l.self.taken
