use Rattle.std.proofs.Common.{rules, ◌≡◌, ◌+◌, length, ap, sym, subst, false}
use Rattle.plan_io.specs.declared.lines.LineAnswer.TheVariants.{Line}
use Rattle.plan_io.specs.LinesSeen.{LinesSeen, IsFresh}
use Rattle.plan_io.specs.Next.{line_at, IsLast}
use Rattle.plan_io.proofs.Turns.{last_line_is}
use Rattle.plan_io.proofs.lines.Lines.last.Goals as goal

pub returns-clause-last : goal.returns-clause-last
returns-clause-last c =
    let s = c.args.self.now in
    let size : c.len.result ≡ length s.held = search rules in
    let line : c.in_ok-line.line ≡ line_at s c.len.result = search rules in
    let begun : IsFresh s → ⊥ = search rules in
    let is = ap (λ (v : LinesSeen). record v { held = c.clear.new.self.bytes; long = false; answered = v.answered + 1 }) c.self.view_is in
    subst (λ (t : LinesSeen). IsLast s t (Line c.in_ok-line.line)) (sym is)
    (last_line_is s c.clear.new.self.bytes c.len.result c.in_ok-line.line c.requires.within c.requires.clear begun size c.clear.ensures line)
