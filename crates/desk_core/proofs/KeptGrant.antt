-- `grant` keeps the desk, and a new desk is one.
use Rattle.std.proofs.Common.{◌≡◌, ℕ, ◌+◌, ◌<◌, ◌≤◌, refl, List, [], ◌∷◌, ◌++◌, length, All, Option, Some, None, arith}
use Rattle.std.specs.Prelude.{IsTrue, sum_by}
use Rattle.std.specs.Option.{IfSome}
use Rattle.std.proofs.lemmas.List.{length-replicate}
use Rattle.std.proofs.lemmas.List.Elements.{All-nil, All-weaker, All-replicate}
use Rattle.std.proofs.lemmas.List.Sums.{sum_by-append}
use Rattle.plan_base.specs.declared.number.Sec.{Sec}
use Rattle.plan_json.specs.Moment.{last_moment}
use Rattle.plan_base.specs.declared.span.Span.{Span}
use Rattle.interval_set.specs.Spans.{has}
use Rattle.plan_base.specs.Limits.{most_telescopes}
use Rattle.site_model.specs.Limits.{most_closures}
use Rattle.allocations.specs.declared.entry.Entry.{Entry}
use Rattle.allocations.specs.declared.entry.Hold.{Hold}
use Rattle.allocations.specs.declared.key.Key.{Key}
use Rattle.allocations.specs.Books.{has_grant}
use Rattle.allocations.specs.Changes.{grant_entry}
use Rattle.allocations.proofs.Granted.{has_grant-append}
use Rattle.desk_core.specs.declared.desk.Opening.{Opening}
use Rattle.desk_core.specs.Desk.{DeskSeen}
use Rattle.desk_core.specs.Kept.{IsOpenedWith, IsDesk}
use Rattle.desk_core.specs.Registering.{on_grant}
use Rattle.desk_core.specs.Seconds.{end_of_time}
use Rattle.desk_core.specs.Step.{new_desk}
use Rattle.desk_core.proofs.Along.{all_seconds}

-- ---- grants

charged_more : (entries more : List Entry) (o : Option Hold) → IfSome o (λ h. IsTrue (has_grant entries h.key))
    → IfSome o (λ h. IsTrue (has_grant (entries ++ more) h.key))
charged_more entries more None h = tt
charged_more entries more (Some x) h = has_grant-append entries more x.key h

-- accounts with a grant still have one
pub grant_keeps : (d : DeskSeen) (key : Key) (seconds : ℕ) → IsDesk d → IsDesk (on_grant d key seconds).desk
grant_keeps d key seconds h =
    let entries = d.books.entries in
    let more = grant_entry key seconds ∷ [] in
    record {
      opening = h.opening;
      len = h.len;
      moment = h.moment;
      sound = h.sound;
      along = h.along;
      pending = h.pending;
      once = h.once;
      held = h.held;
      granted =
          All-weaker (λ g. All (λ x. IsTrue (has_grant entries x.key)) g.holds) (λ g. All (λ x. IsTrue (has_grant (entries ++ more) x.key)) g.holds)
          (λ g all. All-weaker (λ x. IsTrue (has_grant entries x.key)) (λ x. IsTrue (has_grant (entries ++ more) x.key))
          (λ x is. has_grant-append entries more x.key is) g.holds all)
          d.books.holds h.granted;
      charged =
          All-weaker (λ g. IfSome g.ipp (λ x. IsTrue (has_grant entries x.key))) (λ g. IfSome g.ipp (λ x. IsTrue (has_grant (entries ++ more) x.key)))
          (λ g is. charged_more entries more g.ipp is) d.books.holds h.charged;
      closures = h.closures;
      published = h.published;
    }

-- the books have as many seconds more
pub grant_seconds : (d : DeskSeen) (key : Key) (seconds : ℕ) → all_seconds (on_grant d key seconds).desk.books ≡ all_seconds d.books + seconds
grant_seconds d key seconds =
    let sums : sum_by (λ e. e.seconds) (d.books.entries ++ grant_entry key seconds ∷ []) ≡ sum_by (λ e. e.seconds) d.books.entries
    + sum_by (λ e. e.seconds) (grant_entry key seconds ∷ []) =
    sum_by-append (λ (e : Entry). e.seconds) d.books.entries (grant_entry key seconds ∷ []) in
    let one : sum_by (λ e. e.seconds) (grant_entry key seconds ∷ []) ≡ seconds = omega arith in
    omega (arith, sums, one)

-- ---- a new desk

abbrev nothing : List Span
nothing = []

-- a desk that was opened in the ranges
pub new_is_desk : (opening : Opening) (now : Sec) → IsOpenedWith opening → now.0 ≤ last_moment → IsDesk (new_desk opening now)
new_is_desk opening now h moment = record {
  opening = h;
  len = refl;
  moment = moment;
  sound = record {
    numbered = record { groups = λ i l. absurd (omega arith); requests = λ i l. absurd (omega arith) };
    settled = refl;
    running = λ k d l. absurd (omega arith);
    once = λ k d l. absurd (omega arith);
  };
  along = tt;
  pending = omega arith;
  once = λ i j d before l. absurd (omega arith);
  held = tt;
  granted = All-nil _;
  charged = All-nil _;
  closures = record {
    telescopes = omega arith;
    places = length-replicate most_telescopes nothing;
    few = All-replicate (λ spans. length spans ≤ most_closures) most_telescopes nothing (omega arith);
    early = All-replicate (λ spans. (x : ℕ) → IsTrue (has spans x) → x < end_of_time) most_telescopes nothing (λ x h. cc);
  };
  published = tt;
}
