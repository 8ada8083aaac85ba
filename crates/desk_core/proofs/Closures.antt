-- The closures that a line leaves are those of its definition.
use Rattle.std.proofs.Common.{◌≡◌, ◌≢◌, ◌∙◌, ℕ, zero, suc, ◌<◌, ◌≤◌, refl, ap, sym, subst, Bool, true, false, not, ◌&&◌, ◌||◌, inl, inr, List, [], ◌∷◌}
use Rattle.std.proofs.Common.{length, get_or, map, All, Option, Some, None, slice_get, arith, nat_lt, true≢false, Result, Ok}
use Rattle.std.specs.Prelude.{IsTrue, if◌then◌else◌}
use Rattle.std.specs.Result.{IsErrAnd}
use Rattle.std.specs.List.{list_any}
use Rattle.std.specs.Option.{option_map, option_map_or, option_or, option_and_then}
use Rattle.std.proofs.lemmas.Bool.{and_parts, or_cases}
use Rattle.std.proofs.lemmas.Bool.Decides.{nat_tests}
use Rattle.std.proofs.lemmas.Cmp.{nat_list_eq_equiv}
use Rattle.std.proofs.lemmas.List.{ext_get_or, get_or_default}
use Rattle.std.proofs.lemmas.List.Elements.{All-weaker}
use Rattle.std.proofs.lemmas.List.Folds.{list_any_none, list_any_at}
use Rattle.std.proofs.lemmas.Option.{same_Some, slice_get-map, slice_get_within}
use Rattle.std.proofs.Math.ListN.{length-map}
use Rattle.plan_base.specs.declared.span.Span.{Span}
use Rattle.interval_set.specs.Spans.{has, IsSetOf}
use Rattle.site_model.specs.declared.changes.Change.{Change}
use Rattle.site_model.specs.declared.changes.Change.TheVariants.{Close, Reopen}
use Rattle.site_model.specs.declared.code.Code.{Code}
use Rattle.site_model.specs.declared.code.Scope.{Scope}
use Rattle.site_model.specs.declared.code.Scope.TheVariants.{Telescope, Site}
use Rattle.site_model.specs.declared.fault.SiteFault.{SiteFault}
use Rattle.site_model.specs.declared.fault.SiteFault.TheVariants.{NoMemory}
use Rattle.site_model.specs.Network.{NetworkSeen, ChangesClosures, IsClosureRefusal}
use Rattle.site_model.specs.Calendar.{set_at, IsChanged, IsClosureLine, IsFullClosure}
use Rattle.plan_base.specs.Limits.{most_telescopes}
use Rattle.site_model.specs.Limits.{most_closures}
use Rattle.site_model.specs.Names.{is_name, is_code}
use Rattle.site_model.specs.Registry.{RegistrySeen, codes_of, InScope, scope_refusal}
use Rattle.site_model.proofs.Numbered.{name_same}
use Rattle.site_model.proofs.Scopes.{code_same}
use Rattle.desk_events.specs.declared.fault.CommandFault.{CommandFault}
use Rattle.desk_events.specs.declared.refusal.FullOf.TheVariants.{Closures}
use Rattle.desk_events.specs.declared.refusal.Refusal.{Refusal}
use Rattle.desk_events.specs.declared.refusal.Refusal.TheVariants.{Full}
use Rattle.desk_events.specs.declared.reply.Reply.{Reply}
use Rattle.desk_events.specs.Fault.{of_network}
use Rattle.desk_core.specs.Kept.{AreClosures}
use Rattle.desk_core.specs.Desk.{DeskSeen, Decides}
use Rattle.desk_core.specs.Refusals.{refusal_of_site}
use Rattle.desk_core.specs.Registering.{in_scope, closed_after, closures_after, closures_refusal, on_closure, with_network}
use Rattle.desk_core.specs.Seconds.{spans_below, spans_of, end_of_time}
use Rattle.desk_core.proofs.Refusing.{named_refusal, network_refused}
use Rattle.desk_core.proofs.Seconds.{all_below_is, set_below}

-- no second of a list is after the end of time
abbrev pub IsEarly : List Span → Type 0
IsEarly spans = (x : ℕ) → IsTrue (has spans x) → x < end_of_time

-- ---- one telescope

-- the set of a line has the seconds of its spans
same_seconds : (spans : List Span) → IsEarly spans → (x : ℕ) → has (spans_of spans) x ≡ has spans x
same_seconds spans early x = (set_below (has spans) end_of_time).seconds x ∙ kept (has spans x) refl
  where
    kept : (b : Bool) → b ≡ has spans x → (nat_lt x end_of_time && b) ≡ b
    kept true e = let lt : x < end_of_time = early x (sym e) in grind (arith, nat_tests)
    kept false e = grind (arith, nat_tests)

-- what a line makes of the closures of a telescope is the one list of its seconds
changed_is : (change : Change) (old spans new : List Span) → IsEarly old → IsEarly spans → IsChanged change old (spans_of spans) new
    → new ≡ spans_below (closed_after change old spans) end_of_time
changed_is Close old spans new early more h =
    let set : IsSetOf (closed_after Close old spans) new =
    record { seconds = λ x. h.seconds x ∙ ap (λ b. has old x || b) (same_seconds spans more x); sorted = h.sorted } in
    all_below_is (closed_after Close old spans) end_of_time new set (λ x closed. elim (or_cases (has old x) (has spans x) closed) [
      | inl e ↦ early x e
      | inr e ↦ more x e
    ])
changed_is Reopen old spans new early more h =
    let set : IsSetOf (closed_after Reopen old spans) new =
    record { seconds = λ x. h.seconds x ∙ ap (λ b. has old x && not b) (same_seconds spans more x); sorted = h.sorted } in
    all_below_is (closed_after Reopen old spans) end_of_time new set (λ x closed. early x (and_parts (has old x) (not (has spans x)) closed).0)

-- ---- the telescopes in the scope

-- whether a line is about the telescope of this place
abbrev is_inside : Scope → List Code → ℕ → Bool
is_inside scope codes t = option_map_or (in_scope scope) (slice_get codes t) false

of_code : (codes : List Code) (code : Code) (t : ℕ) (o : Option Code) → slice_get codes t ≡ o → option_map_or (is_code code) o false ≡ true
    → slice_get codes t ≡ Some code
of_code codes code t None at is = absurd (cc)
of_code codes code t (Some c) at is = at ∙ ap (λ x. Some x) (sym (code_same code c is))

of_site : (codes : List Code) (name : List ℕ) (t : ℕ) (o : Option Code) → slice_get codes t ≡ o
    → option_map_or (λ c. is_name name c.site) o false ≡ true → slice_get (map (λ c. c.site) codes) t ≡ Some name
of_site codes name t None at is = absurd (cc)
of_site codes name t (Some c) at is = slice_get-map (λ c. c.site) codes t ∙ ap (option_map (λ c. c.site)) at ∙ ap (λ x. Some x) (sym (name_same name c.site is))

inside_is : (r : RegistrySeen) (scope : Scope) (t : ℕ) → is_inside scope (codes_of r) t ≡ true → InScope r scope t
inside_is r (Telescope code) t is = of_code (codes_of r) code t (slice_get (codes_of r) t) refl is
inside_is r (Site name) t is = of_site (codes_of r) name t (slice_get (codes_of r) t) refl is

code_itself : (a : Code) → is_code a a ≡ true
code_itself a = λ j. nat_list_eq_equiv.refl a.site j && (nat_list_eq_equiv.refl a.enclosure j && nat_list_eq_equiv.refl a.telescope j)

site_itself : (name : List ℕ) (o : Option Code) → option_map (λ c. c.site) o ≡ Some name → option_map_or (λ c. is_name name c.site) o false ≡ true
site_itself name None at = absurd (cc)
site_itself name (Some c) at = subst (λ site. is_name name site ≡ true) (sym (same_Some c.site name at)) (nat_list_eq_equiv.refl name)

scoped_is : (r : RegistrySeen) (scope : Scope) (t : ℕ) → InScope r scope t → is_inside scope (codes_of r) t ≡ true
scoped_is r (Telescope code) t h = ap (λ o. option_map_or (is_code code) o false) h ∙ code_itself code
scoped_is r (Site name) t h = site_itself name (slice_get (codes_of r) t) (sym (slice_get-map (λ c. c.site) (codes_of r) t) ∙ h)

-- a telescope in the scope is one of those that are registered
scoped_within : (r : RegistrySeen) (scope : Scope) (t : ℕ) → InScope r scope t → t < length r.telescopes
scoped_within r (Telescope code) t h = subst (λ n. t < n) (length-map r.telescopes (λ x. x.code)) (slice_get_within (codes_of r) t code h)
scoped_within r (Site name) t h =
    subst (λ n. t < n) (length-map (codes_of r) (λ c. c.site) ∙ length-map r.telescopes (λ x. x.code))
    (slice_get_within (map (λ c. c.site) (codes_of r)) t name h)

-- ---- the closures that a line leaves

pub length_after : (change : Change) (scope : Scope) (spans : List Span) (codes : List Code) (old : List (List Span))
    → length (closures_after change scope spans codes old) ≡ length old
length_after change scope spans [] old = refl
length_after change scope spans (c ∷ codes) [] = refl
length_after change scope spans (c ∷ codes) (x ∷ old) = ap suc (length_after change scope spans codes old)

-- at each place
set_after : (change : Change) (scope : Scope) (spans : List Span) (codes : List Code) (old : List (List Span)) (t : ℕ) → t < length old
    → set_at (closures_after change scope spans codes old) t
    ≡ (if is_inside scope codes t then spans_below (closed_after change (set_at old t) spans) end_of_time else set_at old t)
set_after change scope spans [] old t l = refl
set_after change scope spans (c ∷ codes) [] t l = absurd (omega arith)
set_after change scope spans (c ∷ codes) (x ∷ old) zero l = refl
set_after change scope spans (c ∷ codes) (x ∷ old) (suc t) l = set_after change scope spans codes old t (omega arith)

early_at : (closures : List (List Span)) → All IsEarly closures → (t : ℕ) → t < length closures → IsEarly (set_at closures t)
early_at closures early t l = early t [] l

-- the closures after a line are those of the definition
pub closures_are : (change : Change) (scope : Scope) (spans : List Span) (r : RegistrySeen) (old new : List (List Span)) → IsEarly spans → All IsEarly old
    → IsClosureLine change (InScope r scope) (spans_of spans) old new → new ≡ closures_after change scope spans (codes_of r) old
closures_are change scope spans r old new more early h =
    ext_get_or [] new (closures_after change scope spans (codes_of r) old) (h.places ∙ sym (length_after change scope spans (codes_of r) old))
    (λ t l. let within : t < length old = subst (λ n. t < n) h.places l in
    by t within (is_inside scope (codes_of r) t) refl ∙ sym (set_after change scope spans (codes_of r) old t within))
  where
    by : (t : ℕ) → t < length old → (b : Bool) → is_inside scope (codes_of r) t ≡ b
        → set_at new t ≡ (if b then spans_below (closed_after change (set_at old t) spans) end_of_time else set_at old t)
    by t l true e = changed_is change (set_at old t) spans (set_at new t) (early_at old early t l) more (h.inside t (inside_is r scope t e))
    by t l false e = h.outside t (λ inside. true≢false (sym (scoped_is r scope t inside) ∙ e))

-- none of them has too many pieces
pub few_after : (change : Change) (scope : Scope) (spans : List Span) (r : RegistrySeen) (old new : List (List Span)) → All (λ c. length c ≤ most_closures) old
    → IsClosureLine change (InScope r scope) spans old new → All (λ c. length c ≤ most_closures) new
few_after change scope spans r old new few h t d l =
    let within : t < length old = subst (λ n. t < n) h.places l in
    subst (λ c. length c ≤ most_closures) (get_or_default new t [] d l) (by t within (is_inside scope (codes_of r) t) refl)
  where
    by : (t : ℕ) → t < length old → (b : Bool) → is_inside scope (codes_of r) t ≡ b → length (set_at new t) ≤ most_closures
    by t l true e = h.few t (inside_is r scope t e)
    by t l false e = subst (λ c. length c ≤ most_closures) (sym (h.outside t (λ inside. true≢false (sym (scoped_is r scope t inside) ∙ e)))) (few t [] l)

-- so the line isn't refused for them
pub none_full : (closures : List (List Span)) → All (λ c. length c ≤ most_closures) closures → closures_refusal closures ≡ None
none_full closures few =
    ap (λ b. if b then Some (Full most_closures Closures) else None)
    (list_any_none (λ c. nat_lt most_closures (length c)) closures
    (All-weaker (λ c. length c ≤ most_closures) (λ c. nat_lt most_closures (length c) ≡ false) (λ c le. grind (arith, nat_tests)) closures few))

-- where one of them would have too many pieces, the line is refused
pub one_full : (change : Change) (scope : Scope) (spans : List Span) (r : RegistrySeen) (old : List (List Span)) (fault : SiteFault) → IsEarly spans
    → AreClosures (length r.telescopes) old
    → IsFullClosure change (InScope r scope) (spans_of spans) old fault
    → closures_refusal (closures_after change scope spans (codes_of r) old) ≡ Some (Full most_closures Closures)
one_full change scope spans r old fault more are h =
    let t = h.telescope in
    let after = closures_after change scope spans (codes_of r) old in
    let listed : t < length r.telescopes = scoped_within r scope t h.inside in
    let most : length r.telescopes ≤ most_telescopes = are.telescopes in
    let places : length old ≡ most_telescopes = are.places in
    let within : t < length old = omega arith in
    let there : t < length after = subst (λ n. t < n) (sym (length_after change scope spans (codes_of r) old)) within in
    let is : set_at after t ≡ h.passes.new =
    set_after change scope spans (codes_of r) old t within
    ∙ ap (λ b. if b then spans_below (closed_after change (set_at old t) spans) end_of_time else set_at old t) (scoped_is r scope t h.inside)
    ∙ sym (changed_is change (set_at old t) spans h.passes.new (early_at old are.early t within) more h.passes.changed) in
    let many : most_closures < length h.passes.new = h.passes.many in
    let test : nat_lt most_closures (length h.passes.new) ≡ true = grind (arith, nat_tests) in
    ap (λ b. if b then Some (Full most_closures Closures) else None)
    (list_any_at (λ c. nat_lt most_closures (length c)) after t [] there (ap (λ c. nat_lt most_closures (length c)) is ∙ test))

-- ---- the answers

-- a line that was accepted
pub closed : (d : DeskSeen) (change : Change) (scope : Scope) (spans set : List Span) (done : Reply) (after : NetworkSeen)
    → AreClosures (length d.network.registry.telescopes) d.network.calendar.closures
    → IsEarly spans → set ≡ spans_of spans → ChangesClosures change scope set d.network after
    → Decides (on_closure d change scope spans done) d (with_network after d) (Ok done)
closed d change scope spans set done after are more is h =
    let r = d.network.registry in
    let old = d.network.calendar.closures in
    let line = subst (λ s. IsClosureLine change (InScope r scope) s old after.calendar.closures) is h.closures in
    let same : after.calendar.closures ≡ closures_after change scope spans (codes_of r) old =
    closures_are change scope spans r old after.calendar.closures more are.early line in
    record {
      ok = (
        ap (λ o. option_or (option_and_then refusal_of_site o) (closures_refusal (closures_after change scope spans (codes_of r) old))) h.allowed
            ∙ ap closures_refusal (sym same)
            ∙ none_full after.calendar.closures (few_after change scope (spans_of spans) r old after.calendar.closures are.few line),
        refl,
        ap (λ n. with_network n d) (h.rest ∙ ap (λ c. record d.network { calendar = record d.network.calendar { closures = c } }) same),
      );
      refused = tt;
      unchanged = tt;
    }

-- a line that was refused, or found no memory
pub not_closed : (d : DeskSeen) (change : Change) (scope : Scope) (spans set : List Span) (done : Reply) (after : NetworkSeen) (fault : SiteFault)
    (result : Result Reply CommandFault)
    → AreClosures (length d.network.registry.telescopes) d.network.calendar.closures → IsEarly spans → set ≡ spans_of spans
    → IsErrAnd result (λ f. f ≡ of_network fault)
    → (fault ≢ NoMemory → IsClosureRefusal change scope set d.network fault) → after ≡ d.network
    → Decides (on_closure d change scope spans done) d (with_network after d) result
not_closed d change scope spans set done after fault result are more is gives refused same =
    network_refused (on_closure d change scope spans done) d (with_network after d) fault result gives
    (λ memory. by (named_refusal fault memory) (refused memory)) (ap (λ n. with_network n d) same)
  where
    r : RegistrySeen
    r = d.network.registry

    full : Option Refusal
    full = closures_refusal (closures_after change scope spans (codes_of r) d.network.calendar.closures)

    by : ((x : Refusal) × (refusal_of_site fault ≡ Some x)) → IsClosureRefusal change scope set d.network fault
        → (on_closure d change scope spans done).refusal ≡ refusal_of_site fault
    by x (inl out) = ap (λ o. option_or (option_and_then refusal_of_site o) full) out ∙ ap (λ o. option_or o full) x.1 ∙ sym x.1
    by x (inr fills) =
        ap (λ o. option_or (option_and_then refusal_of_site o) full) fills.allowed
        ∙ one_full change scope spans r d.network.calendar.closures fault more are
        (subst (λ s. IsFullClosure change (InScope r scope) s d.network.calendar.closures fault) is fills.full)
        ∙ ap refusal_of_site (sym fills.full.full)

-- ---- what isn't refused

-- a line that isn't refused leaves no telescope with too many pieces
pub few_unrefused : (d : DeskSeen) (change : Change) (scope : Scope) (spans : List Span) (done : Reply) → (on_closure d change scope spans done).refusal ≡ None
    → All (λ c. length c ≤ most_closures) (closures_after change scope spans (codes_of d.network.registry) d.network.calendar.closures)
few_unrefused d change scope spans done e =
    few_each (closures_after change scope spans (codes_of d.network.registry) d.network.calendar.closures)
    (none_many (list_any (λ c. nat_lt most_closures (length c)) (closures_after change scope spans (codes_of d.network.registry) d.network.calendar.closures))
    (last_none (option_and_then refusal_of_site (scope_refusal d.network.registry scope))
    (closures_refusal (closures_after change scope spans (codes_of d.network.registry) d.network.calendar.closures)) e))
  where
    last_none : (o p : Option Refusal) → option_or o p ≡ None → p ≡ None
    last_none None p f = f
    last_none (Some r) p f = absurd (cc)

    none_many : (b : Bool) → (let o : Option Refusal = if b then Some (Full most_closures Closures) else None in o) ≡ None → b ≡ false
    none_many true f = absurd (cc)
    none_many false f = refl

    few_each : (closures : List (List Span)) → list_any (λ c. nat_lt most_closures (length c)) closures ≡ false → All (λ c. length c ≤ most_closures) closures
    few_each closures none k d l = by (nat_lt most_closures (length (get_or closures k d))) refl
      where
        by : (b : Bool) → nat_lt most_closures (length (get_or closures k d)) ≡ b → length (get_or closures k d) ≤ most_closures
        by true is = absurd (true≢false (sym (list_any_at (λ c. nat_lt most_closures (length c)) closures k d l is) ∙ none))
        by false is = grind (arith, nat_tests, is)
