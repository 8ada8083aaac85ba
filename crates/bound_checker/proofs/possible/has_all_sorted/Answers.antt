use Rattle.std.proofs.Common.{◌≡◌, ℕ, ◌≤◌, Bool, true, false, ltb, sym, subst, arith}
use Rattle.std.specs.Ordering.{is_le, nat_cmp}
use Rattle.std.proofs.lemmas.Bool.Decides.{nat_tests}
use Rattle.plan_base.specs.declared.span.Span.{Span}
use Rattle.bound_checker.proofs.Spans.{first_has_all, none_has_all}
use Rattle.bound_checker.proofs.possible.has_all_sorted.Goals as goal

begun : (a b : ℕ) (r : Bool) → r ≡ is_le (nat_cmp a b) → r ≡ true → a ≤ b
begun a b r e h = grind (arith, nat_tests)

begins : (a b : ℕ) (r : Bool) → r ≡ is_le (nat_cmp a b) → a ≤ b → r ≡ true
begins a b r e h = grind (arith, nat_tests)

not_within : (a b : ℕ) → false ≡ ltb a b → b ≤ a
not_within a b h = grind (arith, nat_tests)

pub returns-in-Some : goal.returns-in-Some
returns-in-Some c =
    let lookup = c.in-Some.ensures.lookup in
    let a : ℕ = c.args.observed.from.0 in
    let b : ℕ = c.args.observed.to.0 in (
      λ yes. (
        c.first_to.result,
        c.in-Some.span.now,
        lookup.3.0,
        sym lookup.1,
        (
          begun _ _ _ c.le.ensures yes,
          subst (λ (w : Span). b ≤ w.to.0) (sym lookup.1)
              (c.first_to.ensures.1 c.first_to.result c.in-Some.span.now (omega arith) lookup.3.0),
        ),
      ),
      λ has. begins _ _ _ c.le.ensures
          (first_has_all c.args.spans.now a b c.first_to.result c.in-Some.span.now c.requires c.first_to.ensures lookup.3.0 lookup.1 has),
    )

pub returns-in-None : goal.returns-in-None
returns-in-None c = (
  λ yes. absurd (cc),
  λ has. absurd (none_has_all c.args.spans.now _ _ c.first_to.result c.first_to.ensures (not_within _ _ c.in-None.ensures.lookup.0) has),
)
