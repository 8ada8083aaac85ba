use Rattle.std.proofs.Common.{rules, ◌≡◌, ◌+◌, ◌≤◌, ◌<◌, true, false, subst, arith}
use Rattle.std.proofs.lemmas.Grind.{common_steps}
use Rattle.std.proofs.lemmas.Result.{IfOk-weaker}
use Rattle.plan_io.specs.Newline.{NoNewline}
use Rattle.plan_io.specs.LinesSeen.{LinesSeen, IsWithin}
use Rattle.plan_io.specs.Next.{IsCut}
use Rattle.plan_io.proofs.Turns.{is_false, over_again, next_after, no_line_at_hand}
use Rattle.plan_io.proofs.lines.Lines.next.Goals as goal

pub returns-then-not-is_within-clause-next : goal.returns-then-not-is_within-clause-next
returns-then-not-is_within-clause-next g c =
    let s = c.args.self.now in
    let over : IsWithin s → ⊥ = search rules in
    let clear : s.most_bytes < s.taken
    → NoNewline s.held = subst (λ (v : LinesSeen). v.most_bytes < v.taken → NoNewline v.held) c.self.view_is c.self.invariant.over in
    let few : s.answered ≤ s.most_lines = subst (λ (v : LinesSeen). v.answered ≤ v.most_lines) c.self.view_is c.self.invariant.answered in
    let ended : s.ended ≡ true → NoNewline s.held × IsWithin s × (s.failed ≡ false) =
    subst (λ (v : LinesSeen). v.ended ≡ true → NoNewline v.held × IsWithin v × (v.failed ≡ false)) c.self.view_is c.self.invariant.ended in
    let steady : s.failed ≡ false = subst (λ (v : LinesSeen). v.failed ≡ false) c.self.view_is c.if-self.false in
    let opened : s.ended ≡ false = is_false s.ended (λ e. over (ended e).1) in
    let most : s.taken ≤ s.most_bytes + 1 = subst (λ (v : LinesSeen). v.taken ≤ v.most_bytes + 1) c.self.view_is c.self.invariant.taken in
    over_again s (g.S.Source.left c.args.source.now) over few most clear steady opened

pub returns-in-None-clause-next : goal.returns-in-None-clause-next
returns-in-None-clause-next g c =
    let cut = subst (IsCut c.args.self.now c.cut.new.self) c.in-None.is c.in_ok-line.ensures.cut in
    IfOk-weaker c.read_on.result _ _ (λ answer next. next_after _ c.cut.new.self _ _ _ answer cut next) c.read_on.ensures.next

pub returns-in-None-clause-at_hand : goal.returns-in-None-clause-at_hand
returns-in-None-clause-at_hand g c =
    let s = c.args.self.now in
    let cut = subst (IsCut s c.cut.new.self) c.in-None.is c.in_ok-line.ensures.cut in
    let opened : s.ended ≡ false = subst (λ (v : LinesSeen). v.ended ≡ false) c.self.view_is c.if-self-2.false in
    λ has. absurd (no_line_at_hand s c.cut.new.self opened cut has)

pub returns-in-None-clause-err_at_hand : goal.returns-in-None-clause-err_at_hand
returns-in-None-clause-err_at_hand g c =
    let s = c.args.self.now in
    let cut = subst (IsCut s c.cut.new.self) c.in-None.is c.in_ok-line.ensures.cut in
    let opened : s.ended ≡ false = subst (λ (v : LinesSeen). v.ended ≡ false) c.self.view_is c.if-self-2.false in
    λ has. absurd (no_line_at_hand s c.cut.new.self opened cut has)

pub returns-in-None-clause-err : goal.returns-in-None-clause-err
returns-in-None-clause-err g c = grind (arith, common_steps)
