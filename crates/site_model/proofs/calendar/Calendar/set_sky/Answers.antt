use Rattle.std.proofs.Common.{◌≡◌, ◌+◌, ◌-◌, ◌≤◌, List, length, refl, sym, ap, ◌∙◌, subst, arith, Some, None}
use Rattle.indexmap.specs.IndexMap.{insert_entry}
use Rattle.plan_base.specs.declared.span.Span.{Span}
use Rattle.site_model.specs.declared.fault.FullOf.TheVariants.{Visibility}
use Rattle.plan_base.specs.Limits.{most_spans}
use Rattle.site_model.specs.Limits.{full}
use Rattle.site_model.specs.Calendar.{CalendarSeen, is_sky, sky_of, pieces_of, sky_refusal}
use Rattle.site_model.specs.CalendarInside.{seen_calendar}
use Rattle.site_model.proofs.Calls.{changes, refuses}
use Rattle.site_model.proofs.Skies.{pieces_with, sky_within, skies_few, sky_refused, sky_allowed}
use Rattle.site_model.proofs.calendar.Calendar.set_sky.Goals as goal

-- the count of the pieces of the sky that is replaced
replaced : (c : goal.After-len) → c.len.result ≡ length (sky_of c.self.inside.skies.entries c.args.key)
replaced c = c.len.ensures ∙ ap length (c.sky.ensures.sky ∙ ap (λ (k : CalendarSeen). sky_of k.skies c.args.key) (sym c.self.view_is))

pub overflow_sub-others : goal.overflow_sub-others
overflow_sub-others c = omega (arith, replaced c, c.self.invariant.pieces, sky_within c.self.inside.skies.entries c.args.key)

pub returns-then-len-most : goal.returns-then-len-most
returns-then-len-most c = refuses _ _ _ _ _ (λ _.
    subst (λ (k : CalendarSeen). sky_refusal k c.args.key c.args.spans.now ≡ Some (full Visibility)) c.self.view_is
    (sky_refused (seen_calendar c.self.inside) c.args.key c.args.spans.now
    (omega (
      arith,
      c.if-len-most.true,
      c.most.ensures,
      c.len-2.ensures,
      c.self.invariant.pieces,
      ap length (ap (λ (k : CalendarSeen). sky_of k.skies c.args.key) (sym c.self.view_is)),
      c.len.ensures,
      ap length c.sky.ensures.sky,
    )))
    ∙ ap Some (sym c.full.ensures)) refl

pub invariant_of-self-2 : goal.invariant_of-self-2
invariant_of-self-2 c =
    let with = pieces_with c.self.inside.skies.entries c.args.key c.in_ok-spans.spans in
    let within = sky_within c.self.inside.skies.entries c.args.key in
    let old : c.len.result ≡ length (sky_of c.self.inside.skies.entries c.args.key) = c.len.ensures
    ∙ ap length (c.sky.ensures.sky ∙ ap (λ (k : CalendarSeen). sky_of k.skies c.args.key) (sym c.self.view_is)) in
    let few : length c.in_ok-spans.spans ≤ most_spans = rw c.in_ok-spans.ensures.cases c.requires in
    let new : c.len-3.result ≡ length c.in_ok-spans.spans = c.len-3.ensures ∙ ap length (sym c.in_ok-spans.ensures.cases) in
    let pieces : c.self.inside.pieces - c.len.result + c.len-3.result ≡ pieces_of c.insert.new.self.entries
    = omega (arith, ap pieces_of c.in_ok-insert.ensures.entries, with, within, old, new, c.self.invariant.pieces) in
    record {
      nights = c.self.invariant.nights;
      closures = c.self.invariant.closures;
      pieces = pieces;
      limits = record {
        nights = c.self.invariant.limits.nights;
        closures = c.self.invariant.limits.closures;
        skies = rw c.in_ok-insert.ensures.entries (skies_few c.self.inside.skies.entries c.args.key c.in_ok-spans.spans few c.self.invariant.limits.skies);
        visibility = omega (
          arith,
          pieces,
          c.if-len-most.false,
          c.most.ensures,
          c.len-2.ensures,
          c.len-3.ensures,
          c.self.invariant.pieces,
          c.self.invariant.limits.visibility,
        );
      };
      nothing = c.self.invariant.nothing;
    }

pub returns : goal.returns
returns c =
    let a = c.self.inside in
    let allowed : sky_refusal (seen_calendar a) c.args.key c.args.spans.now ≡ None =
    sky_allowed (seen_calendar a) c.args.key c.args.spans.now c.self.invariant.limits.visibility
    (omega (
      arith,
      c.if-len-most.false,
      c.most.ensures,
      c.len-2.ensures,
      c.self.invariant.pieces,
      ap length (ap (λ (k : CalendarSeen). sky_of k.skies c.args.key) (sym c.self.view_is)),
      c.len.ensures,
      ap length c.sky.ensures.sky,
    )) in
    let entries = c.in_ok-insert.ensures.entries ∙ ap (λ (s : List Span). insert_entry is_sky a.skies.entries c.args.key s) c.in_ok-spans.ensures.cases in
    rw (← c.self.view_is) (changes _ _ _ _ _ allowed (λ j. record (seen_calendar a) { skies = entries j }))
