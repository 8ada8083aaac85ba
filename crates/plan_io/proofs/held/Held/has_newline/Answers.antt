use Rattle.std.proofs.Common.{rules, ◌≡◌, ℕ, ◌+◌, ◌-◌, ◌<◌, List, length, get_or, arith, ap, sym, subst, ◌∙◌}
use Rattle.plan_io.specs.Newline.{NoNewline, EndsAt}
use Rattle.plan_io.specs.HeldSeen.{HeldSeen}
use Rattle.plan_io.proofs.Cuts.{none_at, ends_at, both_clear, found_or_none}
use Rattle.plan_io.proofs.held.Held.has_newline.Goals as goal

pub returns : goal.returns
returns c =
    let held = c.self.inside in
    let at = c.find_newline.result in
    let n = at - held.start in
    let same = c.as_slice.ensures.value in
    let size : length held.bytes.items ≡ c.len.result = search rules in
    let from : held.start + n ≡ at = omega (arith, c.self.invariant.start, c.find_newline.ensures.from) in
    let clear = both_clear _ _ held.start held.scanned at same c.self.invariant.clear c.find_newline.ensures.before in
    let sliced : length c.as_slice.result.now ≡ c.len.result = ap length same ∙ size in
    found_or_none c.args.self.now.bytes at c.len.result n
    (λ low.
    let inside : at < length held.bytes.items = omega (arith, low, size) in
    let ten = sym (ap (λ (ys : List ℕ). get_or ys at 0) same) ∙ c.find_newline.ensures.found (omega (arith, low, sliced)) in
    subst (λ (v : HeldSeen). EndsAt v.bytes n) c.self.view_is (ends_at held.bytes.items held.start at n from inside clear ten))
    (λ high. subst (λ (v : HeldSeen). NoNewline v.bytes) c.self.view_is
    (none_at held.bytes.items held.start (λ k low lt. clear k low (omega (arith, lt, size, high)))))
