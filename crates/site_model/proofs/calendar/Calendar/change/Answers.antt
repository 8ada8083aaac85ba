use Rattle.std.proofs.Common.{ℕ, ◌<◌, List, length, sym, ap, ◌∙◌, subst}
use Rattle.std.specs.Prelude.{All}
use Rattle.plan_base.specs.declared.number.TelescopeNo.{TelescopeNo}
use Rattle.plan_base.specs.declared.span.Span.{Span}
use Rattle.site_model.specs.Calendar.{CalendarSeen, AreChanges, IsClosureLine, IsListed}
use Rattle.site_model.proofs.Closings.{line_closed, all_within, length_with, closures_few}
use Rattle.site_model.proofs.calendar.Calendar.change.Goals as goal

pub put-requires : goal.put-requires
put-requires c =
    let closures : List (List Span) = c.self.inside.closures.items in
    let within : All (λ (t : TelescopeNo). t.0 < length closures) c.args.telescopes.now =
    subst (λ (n : ℕ). All (λ (t : TelescopeNo). t.0 < n) c.args.telescopes.now) (sym c.self.invariant.closures) c.requires in
    let are = subst (λ (cs : List (List Span)). AreChanges c.args.change c.args.telescopes.now c.args.spans.now cs c.in_ok-changes.changes.items)
    c.as_slice.ensures.value c.in_ok-changes.ensures.changes in
    all_within c.args.change c.args.telescopes.now c.args.spans.now closures c.in_ok-changes.changes.items within are

pub invariant_of-self : goal.invariant_of-self
invariant_of-self c =
    let closures : List (List Span) = c.self.inside.closures.items in
    let within : All (λ (t : TelescopeNo). t.0 < length closures) c.args.telescopes.now =
    subst (λ (n : ℕ). All (λ (t : TelescopeNo). t.0 < n) c.args.telescopes.now) (sym c.self.invariant.closures) c.requires in
    let are = subst (λ (cs : List (List Span)). AreChanges c.args.change c.args.telescopes.now c.args.spans.now cs c.in_ok-changes.changes.items)
    c.as_slice.ensures.value c.in_ok-changes.ensures.changes in
    record {
      nights = c.self.invariant.nights;
      closures = ap length c.put.ensures ∙ length_with c.in_ok-changes.changes.items c.self.inside.closures.items ∙ c.self.invariant.closures;
      pieces = c.self.invariant.pieces;
      limits = record {
        nights = c.self.invariant.limits.nights;
        closures = rw c.put.ensures (closures_few c.args.change c.args.telescopes.now c.args.spans.now closures c.in_ok-changes.changes.items are
            c.self.invariant.limits.closures);
        skies = c.self.invariant.limits.skies;
        visibility = c.self.invariant.limits.visibility;
      };
      nothing = c.self.invariant.nothing;
    }

pub returns-clause-closures : goal.returns-clause-closures
returns-clause-closures c =
    let closures : List (List Span) = c.self.inside.closures.items in
    let within : All (λ (t : TelescopeNo). t.0 < length closures) c.args.telescopes.now =
    subst (λ (n : ℕ). All (λ (t : TelescopeNo). t.0 < n) c.args.telescopes.now) (sym c.self.invariant.closures) c.requires in
    let are = subst (λ (cs : List (List Span)). AreChanges c.args.change c.args.telescopes.now c.args.spans.now cs c.in_ok-changes.changes.items)
    c.as_slice.ensures.value c.in_ok-changes.ensures.changes in
    let line = line_closed c.args.change c.args.telescopes.now c.args.spans.now closures c.in_ok-changes.changes.items within are in
    subst (λ (k : CalendarSeen). IsClosureLine c.args.change (IsListed c.args.telescopes.now) c.args.spans.now k.closures c.put.new.closures.items)
    c.self.view_is (rw c.put.ensures line)
