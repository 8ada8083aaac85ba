use Rattle.std.proofs.Common.{◌≡◌, ◌≢◌, None, ◌<◌, refl, sym, ap, subst, inl}
use Rattle.std.specs.Prelude.{All}
use Rattle.std.proofs.lemmas.Result.{on_ok_weaker, on_err_weaker, IfErr-weaker}
use Rattle.plan_base.specs.declared.number.TelescopeNo.{TelescopeNo}
use Rattle.site_model.specs.declared.fault.SiteFault.{SiteFault}
use Rattle.site_model.specs.declared.fault.SiteFault.TheVariants.{NoMemory}
use Rattle.plan_base.specs.Limits.{most_telescopes}
use Rattle.site_model.specs.Registry.{IsScopeList, scope_refusal}
use Rattle.site_model.specs.Calendar.{CalendarSeen, IsListed, IsFullClosure}
use Rattle.site_model.specs.Network.{NetworkSeen, IsClosureRefusal}
use Rattle.site_model.specs.NetworkInside.{seen_registry, seen_network}
use Rattle.site_model.proofs.Carried.{registry_stays}
use Rattle.site_model.proofs.Visibility.{network_of}
use Rattle.site_model.proofs.Lines.{line_accepted, line_refused, passes_refusal, skies_stay}
use Rattle.site_model.proofs.network.Network.change.Goals as goal

pub change-requires : goal.change-requires
change-requires c = subst (All (λ (t : TelescopeNo). t.0 < most_telescopes)) (sym c.as_slice.ensures.value) c.in_ok-telescopes.ensures.numbers.within

pub returns-in_err-telescopes : goal.returns-in_err-telescopes
returns-in_err-telescopes c =
    passes_refusal _ _ _ _ _ c.in_err-telescopes.field-0.0 _ c.from_residual.ensures.1 (λ memory. inl (c.in_err-telescopes.ensures.refused memory)) refl

pub invariant_of-self : goal.invariant_of-self
invariant_of-self c = record {
  registry = registry_stays c.self.inside c.change.new.self c.self.invariant.registry;
  numbered = skies_stay _ c.self.inside.calendar c.change.new.self c.change.ensures.rest c.self.invariant.numbered;
}

pub returns : goal.returns
returns c =
    let r = seen_registry c.self.inside in
    let list : IsScopeList r c.args.scope.now c.as_slice.result.now =
    subst (λ (n : NetworkSeen). IsScopeList n.registry c.args.scope.now c.as_slice.result.now) (sym c.self.view_is)
    (subst (IsScopeList c.args.self.now.registry c.args.scope.now) (sym c.as_slice.ensures.value) c.in_ok-telescopes.ensures.numbers) in
    let allowed = subst (λ (n : NetworkSeen). scope_refusal n.registry c.args.scope.now ≡ None) (sym c.self.view_is) c.in_ok-telescopes.ensures.allowed in
    rw (← c.self.view_is) (record {
      ok = on_ok_weaker c.change.result
          (λ line. line_accepted (seen_network c.self.inside) c.args.change c.args.scope.now c.args.spans.now c.as_slice.result.now c.change.new.self
          list allowed c.change.ensures.rest line)
          c.change.ensures.closures;
      refused = IfErr-weaker c.change.result
          (λ (fault : SiteFault). fault ≢ NoMemory
          → IsFullClosure c.args.change (IsListed c.as_slice.result.now) c.args.spans.now c.self.inside.calendar.closures fault)
          (λ (fault : SiteFault). fault ≢ NoMemory → IsClosureRefusal c.args.change c.args.scope.now c.args.spans.now (seen_network c.self.inside) fault)
          (λ fault full memory. line_refused (seen_network c.self.inside) c.args.change c.args.scope.now c.args.spans.now c.as_slice.result.now fault
          list allowed (full memory))
          c.change.ensures.full;
      unchanged = on_err_weaker c.change.result (λ same. ap (λ (k : CalendarSeen). network_of r k) same) c.change.ensures.unchanged;
    })
