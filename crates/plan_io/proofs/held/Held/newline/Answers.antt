use Rattle.std.proofs.Common.{rules, ◌≡◌, ℕ, ◌+◌, ◌-◌, ◌<◌, List, length, get_or, arith, ap, sym, subst, ◌∙◌}
use Rattle.plan_io.specs.Newline.{NoNewline, EndsAt}
use Rattle.plan_io.specs.HeldSeen.{HeldSeen}
use Rattle.plan_io.proofs.Cuts.{none_at, ends_at, both_clear}
use Rattle.plan_io.proofs.held.Held.newline.Goals as goal

pub returns-then-at-len-clause-first : goal.returns-then-at-len-clause-first
returns-then-at-len-clause-first c =
    let same = c.as_slice.ensures.value in
    let len : length c.self.inside.bytes.items ≡ c.find_newline-at.result = search rules in
    subst (λ (v : HeldSeen). NoNewline v.bytes) c.self.view_is
    (none_at c.self.inside.bytes.items c.self.inside.start
    (λ k low high. both_clear _ _ c.self.inside.start c.self.inside.scanned c.find_newline-at.result same c.self.invariant.clear
    c.find_newline-at.ensures.before k low (omega (arith, high, len))))

pub returns-clause-first : goal.returns-clause-first
returns-clause-first c =
    let same = c.as_slice.ensures.value in
    let at = c.find_newline-at.result in
    let len : at < length c.self.inside.bytes.items = search rules in
    let from : c.self.inside.start + (at - c.self.inside.start) ≡ at = omega (arith, c.self.invariant.start, c.find_newline-at.ensures.from) in
    let inside : at < length c.as_slice.result.now = search rules in
    subst (λ (v : HeldSeen). EndsAt v.bytes (at - c.self.inside.start)) c.self.view_is
    (ends_at c.self.inside.bytes.items c.self.inside.start at (at - c.self.inside.start) from len
    (both_clear _ _ c.self.inside.start c.self.inside.scanned at same c.self.invariant.clear c.find_newline-at.ensures.before)
    (sym (ap (λ (ys : List ℕ). get_or ys at 0) same) ∙ c.find_newline-at.ensures.found inside))
