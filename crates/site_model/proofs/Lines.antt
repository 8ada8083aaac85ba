-- What a line makes of the closures of the telescopes in its scope.
use Rattle.std.proofs.Common.{◌≡◌, ◌≢◌, ℕ, ◌<◌, List, [], Some, None, length, ap, ◌∙◌, inr}
use Rattle.std.specs.Prelude.{slice_get, Result, Ok, Err, IsErrAnd}
use Rattle.std.proofs.lemmas.List.Elements.{All-contains}
use Rattle.std.proofs.lemmas.List.Quantifiers.{position-Some}
use Rattle.std.proofs.lemmas.Option.{option_and_then_some}
use Rattle.plan_base.specs.declared.number.TelescopeNo.{TelescopeNo}
use Rattle.plan_base.specs.declared.span.Span.{Span}
use Rattle.site_model.specs.declared.changes.Change.{Change}
use Rattle.site_model.specs.declared.code.Code.{Code}
use Rattle.site_model.specs.declared.code.Scope.{Scope}
use Rattle.site_model.specs.declared.fault.SiteFault.{SiteFault}
use Rattle.site_model.specs.declared.fault.SiteFault.TheVariants.{NoMemory}
use Rattle.site_model.specs.Names.{is_name, number_of}
use Rattle.site_model.specs.Registry.{RegistrySeen, codes_of, site_number, InScope, IsScopeList, scope_refusal}
use Rattle.site_model.specs.Calendar.{CalendarSeen, IsClosureLine, IsFullClosure, IsListed, sky_of}
use Rattle.site_model.specs.Network.{NetworkSeen, HaveNoSky, ChangesClosures, ClosesOrRefuses, IsClosureRefusal}
use Rattle.site_model.proofs.Visibility.{network_of}

-- the telescopes of the list are those in the scope
pub listed_in_scope : (r : RegistrySeen) (scope : Scope) (numbers : List TelescopeNo) → IsScopeList r scope numbers → (t : ℕ)
    → IsListed numbers t → InScope r scope t
listed_in_scope r scope numbers list t listed = All-contains (λ (n : TelescopeNo). InScope r scope n.0) numbers record { 0 = t } list.each listed

pub line_in_scope : (r : RegistrySeen) (scope : Scope) (numbers : List TelescopeNo) (change : Change) (spans : List Span) (old new : List (List Span))
    → IsScopeList r scope numbers → IsClosureLine change (IsListed numbers) spans old new
    → IsClosureLine change (InScope r scope) spans old new
line_in_scope r scope numbers change spans old new list line = record {
  inside = λ t in'. line.inside t (list.all t in');
  few = λ t in'. line.few t (list.all t in');
  outside = λ t out. line.outside t (λ listed. out (listed_in_scope r scope numbers list t listed));
  places = line.places;
}

pub full_in_scope : (r : RegistrySeen) (scope : Scope) (numbers : List TelescopeNo) (change : Change) (spans : List Span) (old : List (List Span))
    (fault : SiteFault) → IsScopeList r scope numbers → IsFullClosure change (IsListed numbers) spans old fault
    → IsFullClosure change (InScope r scope) spans old fault
full_in_scope r scope numbers change spans old fault list full = record {
  telescope = full.telescope;
  inside = listed_in_scope r scope numbers list full.telescope full.inside;
  passes = full.passes;
  full = full.full;
}

-- closures are no skies
pub skies_stay : (from : ℕ) (old new : CalendarSeen) → new ≡ record old { closures = new.closures } → HaveNoSky from old → HaveNoSky from new
skies_stay from old new rest unseen key le = ap (λ (c : CalendarSeen). sky_of c.skies key) rest ∙ unseen key le

-- what an accepted line leaves
pub line_accepted : (n : NetworkSeen) (change : Change) (scope : Scope) (spans : List Span) (numbers : List TelescopeNo) (new : CalendarSeen)
    → IsScopeList n.registry scope numbers → scope_refusal n.registry scope ≡ None
    → new ≡ record n.calendar { closures = new.closures } → IsClosureLine change (IsListed numbers) spans n.calendar.closures new.closures
    → ChangesClosures change scope spans n (network_of n.registry new)
line_accepted n change scope spans numbers new list allowed rest line = record {
  closures = line_in_scope n.registry scope numbers change spans n.calendar.closures new.closures list line;
  rest = ap (λ (c : CalendarSeen). network_of n.registry c) rest;
  allowed = allowed;
}

-- why a line is refused that has telescopes in its scope
pub line_refused : (n : NetworkSeen) (change : Change) (scope : Scope) (spans : List Span) (numbers : List TelescopeNo) (fault : SiteFault)
    → IsScopeList n.registry scope numbers → scope_refusal n.registry scope ≡ None
    → IsFullClosure change (IsListed numbers) spans n.calendar.closures fault → IsClosureRefusal change scope spans n fault
line_refused n change scope spans numbers fault list allowed full = inr (record {
  allowed = allowed;
  full = full_in_scope n.registry scope numbers change spans n.calendar.closures fault list full;
})

-- a refusal of another call is passed on
pub passes_refusal : (change : Change) (scope : Scope) (spans : List Span) (old new : NetworkSeen) (fault : SiteFault)
    (result : Result Unit SiteFault) → IsErrAnd result (λ f. f ≡ fault)
    → (fault ≢ NoMemory → IsClosureRefusal change scope spans old fault) → new ≡ old → ClosesOrRefuses change scope spans old new result
passes_refusal change scope spans old new fault (Ok v) is refused unchanged = absurd is
passes_refusal change scope spans old new fault (Err f) is refused unchanged =
    record { ok = tt; refused = λ memory. rw is (refused (λ none. memory (is ∙ none))); unchanged = unchanged }

-- the number of a telescope's site is that of a site
pub site_number_within : (r : RegistrySeen) (t s : ℕ) → site_number r t ≡ Some s → s < length r.sites
site_number_within r t s at = option_and_then_some (λ (c : Code). number_of r.sites c.site) (slice_get (codes_of r) t) s at
    (λ c _ number. (position-Some (is_name c.site) r.sites s [] number).0)
