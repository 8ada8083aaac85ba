-- The skies of the targets of a network are those that entries tell, with one entry more.
use Rattle.std.proofs.Common.{◌≡◌, ◌∙◌, ap, sym, subst, refl, ℕ, ◌&&◌, Bool, true, false, cond, List, [], ◌∷◌, ◌++◌, Option, Some, None}
use Rattle.std.specs.Prelude.{IsTrue, if◌then◌else◌}
use Rattle.std.specs.Option.{IfSome, option_map_or}
use Rattle.plan_base.specs.declared.span.Span.{Span}
use Rattle.plan_io.specs.declared.lines.ScriptLine.{ScriptLine}
use Rattle.interval_set.specs.Spans.{has}
use Rattle.site_model.specs.declared.calendar.SkyKey.{SkyKey}
use Rattle.site_model.specs.declared.code.Code.{Code}
use Rattle.site_model.specs.Names.{is_name, is_named}
use Rattle.site_model.specs.Network.{NetworkSeen}
use Rattle.desk_events.specs.declared.entry.EventEntry.{EventEntry}
use Rattle.desk_core.specs.History.{read_at}
use Rattle.desk_calendar.specs.Skies.{TargetSky, sky_told, last_sky}
use Rattle.desk_calendar.specs.Told.{code_told}
use Rattle.desk_calendar.proofs.Closures.{IsEarly}
use Rattle.desk_calendar.proofs.Goes.{sites_by, Goes}
use Rattle.desk_calendar.proofs.Newest.{newest, last-more}
use Rattle.desk_calendar.proofs.Skies.{skies_by, AreSkies, with_sky_line, with_new_site, with_new_targets}

-- whether the latest accepted `visibility` line of the target at the site has second x
abbrev pub sky_said : List (List ScriptLine) → List EventEntry → List ℕ → List ℕ → ℕ → Bool
sky_said scripts history target site x = option_map_or (λ sky. has sky.spans x) (last_sky scripts history target site) false

-- what is told otherwise, second by second the same
as_told : (targets sites : List (List ℕ)) (skies : List (SkyKey × List Span)) (f g : List ℕ → List ℕ → ℕ → Bool)
    → ((target site : List ℕ) (x : ℕ) → f target site x ≡ g target site x)
    → AreSkies targets sites skies f → AreSkies targets sites skies g
as_told targets sites skies f g same h = record { empty = h.empty; is = λ target site x. h.is target site x ∙ same target site x }

-- with one entry more
said-more : (scripts : List (List ScriptLine)) (before : List EventEntry) (e : EventEntry) (o : Option TargetSky) (target site : List ℕ) (x : ℕ)
    → sky_told scripts e ≡ o
    → option_map_or (λ sky. has sky.spans x) (newest (λ sky. is_name target sky.target && is_name site sky.site) o (last_sky scripts before target site)) false
    ≡ sky_said scripts (before ++ e ∷ []) target site x
said-more scripts before e o target site x is =
    let p : TargetSky → Bool = λ sky. is_name target sky.target && is_name site sky.site in
    ap (λ l. option_map_or (λ (sky : TargetSky). has sky.spans x) (newest p l (last_sky scripts before target site)) false) (sym is)
    ∙ ap (λ (l : Option TargetSky). option_map_or (λ sky. has sky.spans x) l false) (sym (last-more (sky_told scripts) p before e))

-- the skies after the entry's line, if it has one that was accepted
lines_more : (scripts : List (List ScriptLine)) (before : List EventEntry) (e : EventEntry) (o : Option TargetSky) (targets sites : List (List ℕ))
    (skies : List (SkyKey × List Span))
    → sky_told scripts e ≡ o → IfSome o (λ sky. IsEarly sky.spans × IsTrue (is_named targets sky.target) × IsTrue (is_named sites sky.site))
    → AreSkies targets sites skies (sky_said scripts before) → AreSkies targets sites (skies_by o targets sites skies) (sky_said scripts (before ++ e ∷ []))
lines_more scripts before e None targets sites skies is ok h =
    as_told targets sites skies (sky_said scripts before) (sky_said scripts (before ++ e ∷ []))
    (λ target site x. said-more scripts before e None target site x is) h
lines_more scripts before e (Some sky) targets sites skies is ok h =
    as_told targets sites (skies_by (Some sky) targets sites skies)
    (λ target site x. cond (is_name target sky.target && is_name site sky.site) (has sky.spans x) (sky_said scripts before target site x))
    (sky_said scripts (before ++ e ∷ []))
    (λ target site x. decided target site x (is_name target sky.target && is_name site sky.site) ∙ said-more scripts before e (Some sky) target site x is)
    (with_sky_line targets sites skies (sky_said scripts before) sky ok.0 ok.1 ok.2 h)
  where
    decided : (target site : List ℕ) (x : ℕ) (b : Bool) → cond b (has sky.spans x) (sky_said scripts before target site x)
        ≡ option_map_or (λ (k : TargetSky). has k.spans x) (if b then Some sky else last_sky scripts before target site) false
    decided target site x true = refl
    decided target site x false = refl

-- the skies once the site of its telescope has a number, if it has one that was accepted
sites_more : (o : Option Code) (targets sites : List (List ℕ)) (skies : List (SkyKey × List Span)) (told : List ℕ → List ℕ → ℕ → Bool)
    → AreSkies targets sites skies told
    → AreSkies targets (sites_by o sites) skies told
sites_more None targets sites skies told h = h
sites_more (Some code) targets sites skies told h = with_new_site targets sites skies told code.site h

-- the skies of a network after an entry are those that are told up to it
pub skies_more : (scripts : List (List ScriptLine)) (before : List EventEntry) (e : EventEntry) (n m : NetworkSeen) → Goes (read_at scripts e) e.reply n m
    → AreSkies n.registry.targets n.registry.sites n.calendar.skies (sky_said scripts before)
    → AreSkies m.registry.targets m.registry.sites m.calendar.skies (sky_said scripts (before ++ e ∷ []))
skies_more scripts before e n m g h =
    let told : List ℕ → List ℕ → ℕ → Bool = sky_said scripts (before ++ e ∷ []) in
    let skies : List (SkyKey × List Span) = skies_by (sky_told scripts e) m.registry.targets n.registry.sites n.calendar.skies in
    let more : AreSkies m.registry.targets n.registry.sites n.calendar.skies (sky_said scripts before) =
    subst (λ (l : List (List ℕ)). AreSkies l n.registry.sites n.calendar.skies (sky_said scripts before)) (sym g.targets.1)
    (with_new_targets g.targets.0 n.registry.targets n.registry.sites n.calendar.skies (sky_said scripts before) h) in
    subst (λ (l : List (SkyKey × List Span)). AreSkies m.registry.targets m.registry.sites l told) (sym g.skies)
    (subst (λ (l : List (List ℕ)). AreSkies m.registry.targets l skies told) (sym g.sites)
    (sites_more (code_told scripts e) m.registry.targets n.registry.sites skies told
    (lines_more scripts before e (sky_told scripts e) m.registry.targets n.registry.sites n.calendar.skies refl g.sky more)))
