use Rattle.std.proofs.Common.{All, ap, sym, subst, ◌∙◌}
use Rattle.std.proofs.lemmas.List.Elements.{All-nil}
use Rattle.plan_base.specs.declared.parts.Parts.{Parts}
use Rattle.snapshot_starts.specs.Mending.{IsSteadyRequest, IsSteadyTelescope, IsSteadySky}
use Rattle.plan_base.specs.Snapshot.{IsOrderly}
use Rattle.snapshot_starts.proofs.steady.Steady.between.Goals as goal

pub returns-then-earlier-parts : goal.returns-then-earlier-parts
returns-then-earlier-parts c =
    let was = c.args.was.now in
    let s = c.args.snapshot.now in
    record {
      requests = subst (All (λ r. IsSteadyRequest was s r.0)) (sym c.nothing.ensures.requests) (All-nil (λ r. IsSteadyRequest was s r.0));
      telescopes = subst (All (λ t. IsSteadyTelescope was s t.0)) (sym c.nothing.ensures.telescopes) (All-nil (λ t. IsSteadyTelescope was s t.0));
      skies = subst (All (IsSteadySky was s)) (sym c.nothing.ensures.skies) (All-nil (IsSteadySky was s));
    }

pub returns : goal.returns
returns c =
    let before = c.parts-earlier.ensures.value in
    let now = c.parts-parts.ensures.value in
    record {
      requests = c.in_ok-steady_requests.ensures;
      telescopes = subst (λ (s : Parts). All (λ t. IsSteadyTelescope c.args.was.now s t.0) c.in_ok-steady_telescopes.field-0.items) now
          (subst (λ (was : Parts). All (λ t. IsSteadyTelescope was c.parts-parts.result.now t.0) c.in_ok-steady_telescopes.field-0.items) before
          c.in_ok-steady_telescopes.ensures);
      skies = subst (λ (s : Parts). All (IsSteadySky c.args.was.now s) c.in_ok-steady_skies.field-0.items) now
          (subst (λ (was : Parts). All (IsSteadySky was c.parts-parts.result.now) c.in_ok-steady_skies.field-0.items) before c.in_ok-steady_skies.ensures);
    }

pub shared_times-times-requires-clause-earlier : goal.shared_times-times-requires-clause-earlier
shared_times-times-requires-clause-earlier c = subst IsOrderly (sym c.parts-earlier.ensures.value) c.parts-earlier.ensures.orderly

pub shared_times-times-requires-clause-orderly : goal.shared_times-times-requires-clause-orderly
shared_times-times-requires-clause-orderly c = subst IsOrderly (sym c.parts-parts.ensures.value) c.parts-parts.ensures.orderly

pub steady_requests-requires-clause-orderly : goal.steady_requests-requires-clause-orderly
steady_requests-requires-clause-orderly c = c.parts-parts.ensures.orderly

pub steady_requests-requires-clause-len : goal.steady_requests-requires-clause-len
steady_requests-requires-clause-len c = sym (ap (λ (s : Parts). s.len) c.parts-earlier.ensures.value) ∙ c.if-earlier-parts.false
    ∙ ap (λ (s : Parts). s.len) c.parts-parts.ensures.value

pub steady_telescopes-requires-clause-orderly : goal.steady_telescopes-requires-clause-orderly
steady_telescopes-requires-clause-orderly c = subst IsOrderly (sym c.parts-parts.ensures.value) c.parts-parts.ensures.orderly

pub steady_telescopes-requires-clause-times : goal.steady_telescopes-requires-clause-times
steady_telescopes-requires-clause-times c = c.shared_times-times.ensures

pub steady_skies-requires-clause-orderly : goal.steady_skies-requires-clause-orderly
steady_skies-requires-clause-orderly c = subst IsOrderly (sym c.parts-parts.ensures.value) c.parts-parts.ensures.orderly

pub steady_skies-requires-clause-earlier : goal.steady_skies-requires-clause-earlier
steady_skies-requires-clause-earlier c = subst IsOrderly (sym c.parts-earlier.ensures.value) c.parts-earlier.ensures.orderly

pub steady_skies-requires-clause-times : goal.steady_skies-requires-clause-times
steady_skies-requires-clause-times c = c.shared_times-times.ensures
