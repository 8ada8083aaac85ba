-- After each legal history the telescopes, the sites, the closures, the nights and the skies of the desk are those that its entries tell.
use Rattle.std.proofs.Common.{◌≡◌, ◌∙◌, ap, sym, subst, refl, ℕ, ◌<◌, ◌≤◌, arith, Bool, true, false, cond, List, [], ◌∷◌, ◌++◌, length, Option}
use Rattle.std.proofs.Common.{Some, None, true≢false}
use Rattle.std.specs.Prelude.{IsTrue}
use Rattle.std.specs.Option.{IfSome, option_to_list}
use Rattle.std.proofs.lemmas.Bool.{and_parts}
use Rattle.std.proofs.lemmas.List.{append-nil, append_assoc}
use Rattle.std.proofs.lemmas.List.Sums.{fold_push}
use Rattle.plan_base.specs.declared.span.Span.{Span}
use Rattle.plan_io.specs.declared.lines.ScriptLine.{ScriptLine}
use Rattle.interval_set.specs.Spans.{has}
use Rattle.site_model.specs.declared.code.Code.{Code}
use Rattle.site_model.specs.Calendar.{set_at}
use Rattle.site_model.specs.Latest.{is_close}
use Rattle.plan_base.specs.Limits.{most_telescopes}
use Rattle.site_model.specs.Network.{NetworkSeen, no_network}
use Rattle.site_model.specs.Registry.{codes_of}
use Rattle.desk_events.specs.declared.entry.EventEntry.{EventEntry}
use Rattle.desk_core.specs.Desk.{DeskSeen, start}
use Rattle.desk_core.specs.History.{read_at, after_entry, replay, IsEntry, EachAfter, IsLegal}
use Rattle.desk_core.specs.Seconds.{end_of_time}
use Rattle.desk_calendar.specs.Laws.{TelescopesAreTold, SitesAreTold, NumbersAreTold, ClosuresAreTold}
use Rattle.desk_calendar.specs.Told.{Closing, code_told, closing_told, telescopes_told, sites_told, IsClosedByLatest}
use Rattle.desk_calendar.proofs.Closures.{IsEarly, AreEarly, after_closing, line_decides, same_places, none_closed}
use Rattle.desk_calendar.proofs.Entries.{what_goes}
use Rattle.desk_calendar.proofs.Goes.{network_in, network_of, closures_by, sites_by, Goes}
use Rattle.desk_calendar.proofs.Nights.{AreNights}
use Rattle.desk_calendar.proofs.NightsTold.{night_said, nights_more}
use Rattle.desk_calendar.proofs.Skies.{AreSkies}
use Rattle.desk_calendar.proofs.SkiesTold.{sky_said, skies_more}
use Rattle.desk_calendar.proofs.Sites.{codes-push, sites-push}
use Rattle.desk_calendar.proofs.Latest.{is_about, about_if, about_only, IsNoneAbout, closed_by, closes_if, still_closed, was_closed, none_at_first}

-- ---- closures

-- the closures of all telescopes, each second of them before the end of time, and closed exactly where the latest line says so
pub record IsTold (scripts : List (List ScriptLine)) (before : List EventEntry) (closures : List (List Span)) : Type 0 where
  pub places : length closures ≡ most_telescopes
  pub early : AreEarly closures
  pub closed : (t x : ℕ) → IsTrue (has (set_at closures t) x) → IsClosedByLatest scripts before t x
  pub only : (t x : ℕ) → IsClosedByLatest scripts before t x → IsTrue (has (set_at closures t) x)

-- an entry that tells no line leaves them
none_more : (scripts : List (List ScriptLine)) (before : List EventEntry) (e : EventEntry) (closures : List (List Span))
    → closing_told scripts e ≡ None → IsTold scripts before closures
    → IsTold scripts (before ++ e ∷ []) closures
none_more scripts before e closures none h =
    let away : (t x : ℕ) → IsNoneAbout scripts before e t x = λ t x change about. let says = about.says in absurd (cc) in
    record {
      places = h.places;
      early = h.early;
      closed = λ t x is. still_closed scripts before e t x (away t x) (h.closed t x is);
      only = λ t x k. h.only t x (was_closed scripts before e t x (away t x) k);
    }

-- a line changes them
line_more : (scripts : List (List ScriptLine)) (before : List EventEntry) (e : EventEntry) (c : Closing) (closures : List (List Span))
    → closing_told scripts e ≡ Some c
    → length (telescopes_told scripts before) ≤ most_telescopes → IsEarly c.spans → IsTold scripts before closures
    → IsTold scripts (before ++ e ∷ []) (after_closing c (telescopes_told scripts before) closures)
line_more scripts before e c closures says few more h =
    let codes : List Code = telescopes_told scripts before in
    let places : length closures ≡ most_telescopes = h.places in
    let decides : (t x : ℕ) → has (set_at (after_closing c codes closures) t) x ≡ cond (is_about c codes t x) (is_close c.change) (has (set_at closures t) x) =
    λ t x. line_decides c codes closures t x (omega (arith, few, places)) h.early more in
    record {
      places = same_places c codes closures ∙ h.places;
      early = λ t x is. early t x (is_about c codes t x) refl (sym (decides t x) ∙ is);
      closed = λ t x is. closed t x (is_about c codes t x) refl (sym (decides t x) ∙ is);
      only = λ t x k. decides t x ∙ only t x (is_about c codes t x) refl k;
    }
  where
    none : (t x : ℕ) → is_about c (telescopes_told scripts before) t x ≡ false → IsNoneAbout scripts before e t x
    none t x e' change about = true≢false (sym (about_only scripts before e c change t x says about) ∙ e')

    early : (t x : ℕ) (b : Bool) → is_about c (telescopes_told scripts before) t x ≡ b
        → cond b (is_close c.change) (has (set_at closures t) x) ≡ true → x < end_of_time
    early t x true e' is = more x (and_parts _ (has c.spans x) e').1
    early t x false e' is = h.early t x is

    closed : (t x : ℕ) (b : Bool) → is_about c (telescopes_told scripts before) t x ≡ b → cond b (is_close c.change) (has (set_at closures t) x) ≡ true
        → IsClosedByLatest scripts (before ++ e ∷ []) t x
    closed t x true e' is = closed_by scripts before e c.change t x (about_if scripts before e c t x says e') is
    closed t x false e' is = still_closed scripts before e t x (none t x e') (h.closed t x is)

    only : (t x : ℕ) (b : Bool) → is_about c (telescopes_told scripts before) t x ≡ b → IsClosedByLatest scripts (before ++ e ∷ []) t x
        → cond b (is_close c.change) (has (set_at closures t) x) ≡ true
    only t x true e' k = closes_if scripts before e c.change t x (about_if scripts before e c t x says e') k
    only t x false e' k = h.only t x (was_closed scripts before e t x (none t x e') k)

closures_more : (scripts : List (List ScriptLine)) (before : List EventEntry) (e : EventEntry) (o : Option Closing) (closures : List (List Span))
    → closing_told scripts e ≡ o
    → length (telescopes_told scripts before) ≤ most_telescopes → IfSome o (λ c. IsEarly c.spans) → IsTold scripts before closures
    → IsTold scripts (before ++ e ∷ []) (closures_by o (telescopes_told scripts before) closures)
closures_more scripts before e None closures says few more h = none_more scripts before e closures says h
closures_more scripts before e (Some c) closures says few more h = line_more scripts before e c closures says few more h

-- ---- networks

-- the telescopes, the sites, the closures, the nights and the skies of a network are those that entries tell
pub record AreTold (scripts : List (List ScriptLine)) (before : List EventEntry) (n : NetworkSeen) : Type 0 where
  pub codes : codes_of n.registry ≡ telescopes_told scripts before
  pub few : length (codes_of n.registry) ≤ most_telescopes
  pub closures : IsTold scripts before n.calendar.closures
  pub sites : n.registry.sites ≡ sites_told scripts before
  pub nights : AreNights n.registry.sites n.calendar.nights (night_said scripts before)
  pub skies : AreSkies n.registry.targets n.registry.sites n.calendar.skies (sky_said scripts before)

told_more : (scripts : List (List ScriptLine)) (before : List EventEntry) (e : EventEntry) (n m : NetworkSeen) → AreTold scripts before n
    → Goes (read_at scripts e) e.reply n m
    → AreTold scripts (before ++ e ∷ []) m
told_more scripts before e n m h g =
    let told : IsTold scripts (before ++ e ∷ []) (closures_by (closing_told scripts e) (telescopes_told scripts before) n.calendar.closures) =
    closures_more scripts before e (closing_told scripts e) n.calendar.closures refl
    (subst (λ (l : List Code). length l ≤ most_telescopes) h.codes h.few) g.spans h.closures in
    record {
      codes = g.codes ∙ ap (λ (l : List Code). l ++ option_to_list (code_told scripts e)) h.codes ∙ sym (codes-push scripts before e);
      few = g.room h.few;
      closures = subst (IsTold scripts (before ++ e ∷ []))
          (ap (λ (l : List Code). closures_by (closing_told scripts e) l n.calendar.closures) (sym h.codes) ∙ sym g.closures) told;
      sites = g.sites ∙ ap (sites_by (code_told scripts e)) h.sites ∙ sym (sites-push scripts before e);
      nights = nights_more scripts before e n m g h.nights;
      skies = skies_more scripts before e n m g h.skies;
    }

-- before the first entry nothing is told
none_told : (scripts : List (List ScriptLine)) → AreTold scripts [] no_network
none_told scripts = record {
  codes = refl;
  few = omega arith;
  closures = record {
    places = refl;
    early = λ t x is. absurd (true≢false (sym is ∙ none_closed 32 t x));
    closed = λ t x is. absurd (true≢false (sym is ∙ none_closed 32 t x));
    only = λ t x k. absurd (none_at_first scripts t x k);
  };
  sites = refl;
  nights = record { few = omega arith; places = refl; empty = λ k x far. none_closed 16 k x; is = λ site x. refl };
  skies = record { empty = λ t s x far. refl; is = λ target site x. refl };
}

-- ---- histories

-- after one entry more
entry_told : (scripts : List (List ScriptLine)) (before : List EventEntry) (e : EventEntry) → IsEntry scripts before e
    → AreTold scripts before (network_of (replay scripts before))
    → AreTold scripts (before ++ e ∷ []) (network_of (replay scripts (before ++ e ∷ [])))
entry_told scripts before e is h =
    subst (λ s. AreTold scripts (before ++ e ∷ []) (network_of s)) (sym (fold_push (after_entry scripts) start before e))
    (told_more scripts before e (network_of (replay scripts before)) (network_of (after_entry scripts (replay scripts before) e)) h
    (what_goes scripts before e e.what is.reply))

-- after all entries
told_after : (scripts : List (List ScriptLine)) (history before after : List EventEntry) → EachAfter (IsEntry scripts) history → history ≡ before ++ after
    → AreTold scripts before (network_of (replay scripts before)) → AreTold scripts history (network_of (replay scripts history))
told_after scripts history before [] each is h = subst (λ (l : List EventEntry). AreTold scripts l (network_of (replay scripts l)))
    (sym (is ∙ append-nil before)) h
told_after scripts history before (e ∷ after) each is h =
    told_after scripts history (before ++ e ∷ []) after each (is ∙ sym (append_assoc before (e ∷ []) after))
    (entry_told scripts before e (each before after e is) h)

-- each entry of a beginning is one of the whole
each_before : (R : List EventEntry → EventEntry → Type 0) (before after : List EventEntry) → EachAfter R (before ++ after) → EachAfter R before
each_before R before after each b a e is = each b (a ++ after) e (ap (λ (l : List EventEntry). l ++ after) is ∙ append_assoc b (e ∷ a) after)

-- so it is after each beginning of a legal history
begun_told : (scripts : List (List ScriptLine)) (history before after : List EventEntry) → IsLegal scripts history → history ≡ before ++ after
    → AreTold scripts before (network_of (replay scripts before))
begun_told scripts history before after h is =
    told_after scripts before [] before (each_before (IsEntry scripts) before after (subst (EachAfter (IsEntry scripts)) is h.each)) refl (none_told scripts)

-- and on the desk that all of it leaves
pub desk_told : (scripts : List (List ScriptLine)) (history : List EventEntry) (d : DeskSeen) → IsLegal scripts history → (replay scripts history).desk ≡ Some d
    → AreTold scripts history d.network
desk_told scripts history d h is = subst (AreTold scripts history) (ap network_in is) (begun_told scripts history history [] h (sym (append-nil history)))

-- ---- laws

pub telescopes_told_so : TelescopesAreTold
telescopes_told_so scripts history h = by (replay scripts history).desk refl
  where
    by : (o : Option DeskSeen) → (replay scripts history).desk ≡ o → IfSome o (λ d. codes_of d.network.registry ≡ telescopes_told scripts history)
    by None is = tt
    by (Some d) is = (desk_told scripts history d h is).codes

pub numbers_told : NumbersAreTold
numbers_told scripts history before after e code number h is says replied =
    let told : AreTold scripts before (network_of (replay scripts before)) = begun_told scripts history before (e ∷ after) h is in
    (what_goes scripts before e e.what (h.each before after e is).reply).number code number says replied ∙ ap length told.codes

pub sites_told_so : SitesAreTold
sites_told_so scripts history h = by (replay scripts history).desk refl
  where
    by : (o : Option DeskSeen) → (replay scripts history).desk ≡ o → IfSome o (λ d. d.network.registry.sites ≡ sites_told scripts history)
    by None is = tt
    by (Some d) is = (desk_told scripts history d h is).sites

pub closures_told : ClosuresAreTold
closures_told scripts history d t x h is =
    let told : IsTold scripts history d.network.calendar.closures = (desk_told scripts history d h is).closures in
    (told.closed t x, told.only t x)
