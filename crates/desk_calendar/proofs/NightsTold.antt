-- The nights of the sites of a network are those that entries tell, with one entry more.
use Rattle.std.proofs.Common.{◌≡◌, ◌∙◌, ap, sym, subst, refl, ℕ, ◌≤◌, Bool, true, false, cond, List, [], ◌∷◌, ◌++◌, length, Option, Some, None}
use Rattle.std.specs.Prelude.{IsTrue, if◌then◌else◌}
use Rattle.std.specs.Option.{IfSome, option_map_or}
use Rattle.plan_base.specs.declared.span.Span.{Span}
use Rattle.plan_io.specs.declared.lines.ScriptLine.{ScriptLine}
use Rattle.interval_set.specs.Spans.{has}
use Rattle.site_model.specs.declared.code.Code.{Code}
use Rattle.site_model.specs.Limits.{most_sites}
use Rattle.site_model.specs.Names.{is_name, is_named}
use Rattle.site_model.specs.Network.{NetworkSeen}
use Rattle.desk_events.specs.declared.entry.EventEntry.{EventEntry}
use Rattle.desk_core.specs.History.{read_at}
use Rattle.desk_calendar.specs.Nights.{SiteNight, night_told, last_night}
use Rattle.desk_calendar.specs.Told.{code_told}
use Rattle.desk_calendar.proofs.Closures.{IsEarly}
use Rattle.desk_calendar.proofs.Goes.{sites_by, Goes}
use Rattle.desk_calendar.proofs.Newest.{newest, last-more}
use Rattle.desk_calendar.proofs.Nights.{nights_by, AreNights, with_line, with_site}

-- whether the latest accepted `night` line of the site has second x
abbrev pub night_said : List (List ScriptLine) → List EventEntry → List ℕ → ℕ → Bool
night_said scripts history site x = option_map_or (λ night. has night.spans x) (last_night scripts history site) false

-- what is told otherwise, second by second the same
as_told : (sites : List (List ℕ)) (nights : List (List Span)) (f g : List ℕ → ℕ → Bool) → ((site : List ℕ) (x : ℕ) → f site x ≡ g site x)
    → AreNights sites nights f → AreNights sites nights g
as_told sites nights f g same h = record { few = h.few; places = h.places; empty = h.empty; is = λ site x. h.is site x ∙ same site x }

-- with one entry more
said-more : (scripts : List (List ScriptLine)) (before : List EventEntry) (e : EventEntry) (o : Option SiteNight) (site : List ℕ) (x : ℕ)
    → night_told scripts e ≡ o
    → option_map_or (λ night. has night.spans x) (newest (λ night. is_name site night.site) o (last_night scripts before site)) false
    ≡ night_said scripts (before ++ e ∷ []) site x
said-more scripts before e o site x is =
    let p : SiteNight → Bool = λ night. is_name site night.site in
    ap (λ l. option_map_or (λ (night : SiteNight). has night.spans x) (newest p l (last_night scripts before site)) false) (sym is)
    ∙ ap (λ (l : Option SiteNight). option_map_or (λ night. has night.spans x) l false) (sym (last-more (night_told scripts) p before e))

-- the nights after the entry's line, if it has one that was accepted
lines_more : (scripts : List (List ScriptLine)) (before : List EventEntry) (e : EventEntry) (o : Option SiteNight) (sites : List (List ℕ))
    (nights : List (List Span)) → night_told scripts e ≡ o
    → IfSome o (λ night. IsEarly night.spans × IsTrue (is_named sites night.site)) → AreNights sites nights (night_said scripts before)
    → AreNights sites (nights_by o sites nights) (night_said scripts (before ++ e ∷ []))
lines_more scripts before e None sites nights is ok h =
    as_told sites nights (night_said scripts before) (night_said scripts (before ++ e ∷ [])) (λ site x. said-more scripts before e None site x is) h
lines_more scripts before e (Some night) sites nights is ok h =
    as_told sites (nights_by (Some night) sites nights)
    (λ site x. cond (is_name site night.site) (has night.spans x) (night_said scripts before site x)) (night_said scripts (before ++ e ∷ []))
    (λ site x. decided site x (is_name site night.site) ∙ said-more scripts before e (Some night) site x is)
    (with_line sites nights (night_said scripts before) night ok.0 ok.1 h)
  where
    decided : (site : List ℕ) (x : ℕ) (b : Bool)
        → cond b (has night.spans x) (night_said scripts before site x) ≡ option_map_or (λ (n : SiteNight). has n.spans x)
        (if b then Some night else last_night scripts before site) false
    decided site x true = refl
    decided site x false = refl

-- the nights once the site of its telescope has a number, if it has one that was accepted
sites_more : (o : Option Code) (sites : List (List ℕ)) (nights : List (List Span)) (told : List ℕ → ℕ → Bool) → length (sites_by o sites) ≤ most_sites
    → AreNights sites nights told → AreNights (sites_by o sites) nights told
sites_more None sites nights told few h = h
sites_more (Some code) sites nights told few h = with_site sites nights told code.site few h

pub nights_more : (scripts : List (List ScriptLine)) (before : List EventEntry) (e : EventEntry) (n m : NetworkSeen) → Goes (read_at scripts e) e.reply n m
    → AreNights n.registry.sites n.calendar.nights (night_said scripts before)
    → AreNights m.registry.sites m.calendar.nights (night_said scripts (before ++ e ∷ []))
nights_more scripts before e n m g h =
    let told : List ℕ → ℕ → Bool = night_said scripts (before ++ e ∷ []) in
    let nights : List (List Span) = nights_by (night_told scripts e) n.registry.sites n.calendar.nights in
    let few : length (sites_by (code_told scripts e) n.registry.sites) ≤ most_sites =
    subst (λ (l : List (List ℕ)). length l ≤ most_sites) g.sites (g.place h.few) in
    subst (λ (l : List (List Span)). AreNights m.registry.sites l told) (sym g.nights)
    (subst (λ (l : List (List ℕ)). AreNights l nights told) (sym g.sites)
    (sites_more (code_told scripts e) n.registry.sites nights told few
    (lines_more scripts before e (night_told scripts e) n.registry.sites n.calendar.nights refl g.night h)))
