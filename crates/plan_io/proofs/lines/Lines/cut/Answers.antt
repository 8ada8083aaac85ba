use Rattle.std.proofs.Common.{rules, ◌≡◌, ◌+◌, ◌<◌, length, drop, ap, sym, subst, ◌∙◌, true, false, Some, None}
use Rattle.plan_io.specs.Newline.{NoNewline, EndsAt}
use Rattle.plan_io.specs.LinesSeen.{LinesSeen}
use Rattle.plan_io.specs.HeldSeen.{HeldSeen}
use Rattle.plan_io.specs.Next.{line_at, IsCut}
use Rattle.plan_io.proofs.Turns.{cut_some, cut_long}
use Rattle.plan_io.proofs.lines.Lines.cut.Goals as goal
use Rattle.plan_io.proofs.lines.Lines.cut.Goals.{else-not-self-via-then-not-self+else-len-le-LONGEST, else-not-self-via-else-not-self}

pub returns-in_ok-line-in-Some-clause-cut : goal.returns-in_ok-line-in-Some-clause-cut
returns-in_ok-line-in-Some-clause-cut c =
    let s = c.args.self.now in
    let at = c.in-Some.at in
    let ends : EndsAt s.held at = subst (λ (v : LinesSeen). EndsAt v.held at) c.self.view_is c.in-Some.ensures.first in
    let held : c.pass.new.self.bytes ≡ drop (at + 1) s.held =
    c.pass.ensures ∙ ap (λ (h : HeldSeen). drop (at + 1) h.bytes) c.in-Some.ensures.same ∙ ap (λ (v : LinesSeen). drop (at + 1) v.held) c.self.view_is in
    let line : c.in_ok-line-in-Some.line ≡ line_at s at = search rules in
    let is = ap (λ (v : LinesSeen). record v { held = c.pass.new.self.bytes; long = false; answered = v.answered + 1 }) c.self.view_is in
    subst (λ (t : LinesSeen). IsCut s t (Some c.in_ok-line-in-Some.line)) (sym is)
    (cut_some s c.pass.new.self.bytes at c.in_ok-line-in-Some.line c.requires.within ends held line)

pub returns-else-not-self-clause-cut : goal.returns-else-not-self-clause-cut
returns-else-not-self-clause-cut c =
    let s = c.args.self.now in
    let clear : NoNewline s.held = subst (λ (v : LinesSeen). NoNewline v.held) c.self.view_is c.in-None.ensures.first in
    let size : s.long ≡ false → 1048576 < length s.held =
    λ e. elim c.else-not-self.branch [
      | else-not-self-via-then-not-self+else-len-le-LONGEST w ↦ search rules
      | else-not-self-via-else-not-self w ↦ search rules
    ] in
    let is = ap (λ (v : LinesSeen). record v { held = c.clear.new.self.bytes; long = true }) c.self.view_is in
    subst (λ (t : LinesSeen). IsCut s t None) (sym is) (cut_long s c.clear.new.self.bytes c.requires.within clear size c.clear.ensures)
