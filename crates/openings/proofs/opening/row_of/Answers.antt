use Rattle.std.proofs.Common.{rules, ◌≡◌, ◌+◌, true, false, ℤ, pos, w64, List, slice_index_or, Contains, sym, ◌∙◌, ap, subst}
use Rattle.std.proofs.lemmas.Bool.{false≢true}
use Rattle.std.proofs.lemmas.Int.{to_z-of_z}
use Rattle.plan_base.specs.declared.parts.Parts.{Parts}
use Rattle.plan_base.specs.declared.parts.Sky.{Sky}
use Rattle.plan_base.specs.declared.number.TelescopeNo.{TelescopeNo}
use Rattle.plan_base.specs.Starts.{site_of}
use Rattle.plan_base.specs.Skies.{SkiesRise}
use Rattle.plan_base.proofs.Here.{IsHere, request_here}
use Rattle.bound_checker.specs.declared.sight.Sight.{Sight}
use Rattle.bound_checker.specs.Offers.{IsOffer}
use Rattle.bound_checker.proofs.Seen.{IsSightOf, site_read, usable_read, views_read, sight_clear, hidden_never}
use Rattle.bound_checker.proofs.Telling.{unable_never}
use Rattle.bound_checker.specs.Listings.{CanStart}
use Rattle.openings.specs.Openings.{IsFlagged, IsOpenRow}
use Rattle.openings.proofs.Flags.{number_here, row_none, row_in_sight, ok_said}
use Rattle.openings.proofs.opening.row_of.Goals as goal
use mir.Val.{SFits}

pub returns-then-not-has_telescope : goal.returns-then-not-has_telescope
returns-then-not-has_telescope c =
    let here : IsHere c.args.snapshot.now c.known_place-place.result c.request_at-asked.result.now =
    request_here c.args.snapshot.now c.known_place-place.result c.request_at-asked.result.now c.parts-parts.ensures.orderly
    c.known_place-place.ensures.within c.request_at-asked.ensures in
    let number : c.request_at-asked.result.now.request.0 ≡ c.args.request.0 =
    number_here c.args.snapshot.now c.args.request.0 c.known_place-place.result c.request_at-asked.result.now here c.requires.request
    c.known_place-place.ensures.value in
    row_none c.args.snapshot.now c.args.telescope.0 c.args.request.0 c.request_at-asked.result.now c.new.result c.new.ensures number
    (unable_never c.args.snapshot.now c.args.telescope c.known_place-place.result c.request_at-asked.result.now here
    (λ able. false≢true (sym c.if-not-has_telescope.true
    ∙ c.has_telescope.ensures.1 (subst (λ (ts : List TelescopeNo). Contains ts c.args.telescope) (sym c.as_slice.ensures) able))))

pub find_views-requires : goal.find_views-requires
find_views-requires c =
    let skies : c.as_slice-skies.result.now ≡ c.args.snapshot.now.skies = c.as_slice-skies.ensures ∙ ap (λ (s : Parts). s.skies) c.parts-parts.ensures.value in
    subst (λ (ys : List Sky). SkiesRise ys) (sym skies) c.parts-parts.ensures.orderly.skies_rise

pub returns-then-not-branch : goal.returns-then-not-branch
returns-then-not-branch c =
    let here : IsHere c.args.snapshot.now c.known_place-place.result c.request_at-asked.result.now =
    request_here c.args.snapshot.now c.known_place-place.result c.request_at-asked.result.now c.parts-parts.ensures.orderly
    c.known_place-place.ensures.within c.request_at-asked.ensures in
    let number : c.request_at-asked.result.now.request.0 ≡ c.args.request.0 =
    number_here c.args.snapshot.now c.args.request.0 c.known_place-place.result c.request_at-asked.result.now here c.requires.request
    c.known_place-place.ensures.value in
    let skies : c.as_slice-skies.result.now ≡ c.args.snapshot.now.skies = c.as_slice-skies.ensures ∙ ap (λ (s : Parts). s.skies) c.parts-parts.ensures.value in
    let telescopes : c.as_slice-2.result.now ≡ c.args.snapshot.now.telescopes = c.as_slice-2.ensures
    ∙ ap (λ (s : Parts). s.telescopes) c.parts-parts.ensures.value in
    let site : c.index-as_slice-from.result.site.0 ≡ site_of c.args.snapshot.now c.args.telescope.0 =
    site_read c.args.snapshot.now c.as_slice-2.result.now c.from.result c.args.telescope.0 c.index-as_slice-from.result telescopes c.from.ensures
    c.requires.telescope c.index-as_slice-from.is in
    row_none c.args.snapshot.now c.args.telescope.0 c.args.request.0 c.request_at-asked.result.now c.new-then-not-branch.result
    c.new-then-not-branch.ensures number
    (hidden_never c.args.snapshot.now c.args.telescope.0 c.request_at-asked.result.now c.index-as_slice-from.result.site c.known_place-place.result
    c.find_views.new.views.items c.parts-parts.ensures.orderly here site
    (views_read c.index-as_slice-from.result.site c.as_slice-skies.result.now c.args.snapshot.now.skies c.as_slice-3.result.now
    c.request_at-asked.result.now.targets c.in_ok-find_views.field-0 false c.find_views.new.views.items c.find_views.new.views.items skies
    c.as_slice-3.ensures c.if-not-branch.true (λ i. c.find_views.new.views.items) c.in_ok-find_views.ensures))

pub offer_of-offer-requires-clause-asked : goal.offer_of-offer-requires-clause-asked
offer_of-offer-requires-clause-asked c =
    (request_here c.args.snapshot.now c.known_place-place.result c.request_at-asked.result.now c.parts-parts.ensures.orderly
    c.known_place-place.ensures.within c.request_at-asked.ensures).asked

pub flags_of-requires-clause-clear : goal.flags_of-requires-clause-clear
flags_of-requires-clause-clear c =
    let here : IsHere c.args.snapshot.now c.known_place-place.result c.request_at-asked.result.now =
    request_here c.args.snapshot.now c.known_place-place.result c.request_at-asked.result.now c.parts-parts.ensures.orderly
    c.known_place-place.ensures.within c.request_at-asked.ensures in
    let skies : c.as_slice-skies.result.now ≡ c.args.snapshot.now.skies = c.as_slice-skies.ensures ∙ ap (λ (s : Parts). s.skies) c.parts-parts.ensures.value in
    let telescopes : c.as_slice-2.result.now ≡ c.args.snapshot.now.telescopes = c.as_slice-2.ensures
    ∙ ap (λ (s : Parts). s.telescopes) c.parts-parts.ensures.value in
    let site : c.index-as_slice-from.result.site.0 ≡ site_of c.args.snapshot.now c.args.telescope.0 =
    site_read c.args.snapshot.now c.as_slice-2.result.now c.from.result c.args.telescope.0 c.index-as_slice-from.result telescopes c.from.ensures
    c.requires.telescope c.index-as_slice-from.is in
    let sight : Sight = record { windows = c.as_slice-4.result; usable = c.as_slice-5.result; skies = c.as_slice-skies.result; views = c.as_slice-6.result } in
    let of : IsSightOf c.args.snapshot.now c.args.telescope.0 c.request_at-asked.result.now c.index-as_slice-from.result.site sight = record {
      windows = c.as_slice-4.ensures;
      usable = usable_read c.args.snapshot.now c.as_slice-2.result.now c.from.result c.args.telescope.0 c.index-as_slice-from.result
          c.as_slice-5.result.now telescopes c.from.ensures c.requires.telescope c.index-as_slice-from.is c.as_slice-5.ensures;
      skies = skies;
      at_site = site;
      views = views_read c.index-as_slice-from.result.site c.as_slice-skies.result.now c.args.snapshot.now.skies c.as_slice-3.result.now
          c.request_at-asked.result.now.targets c.in_ok-find_views.field-0 true c.find_views.new.views.items c.as_slice-6.result.now skies
          c.as_slice-3.ensures c.if-not-branch.false (sym c.as_slice-6.ensures.value) c.in_ok-find_views.ensures;
    } in
    sight_clear c.args.snapshot.now c.args.telescope.0 c.known_place-place.result c.request_at-asked.result.now c.index-as_slice-from.result.site
    sight c.parts-parts.ensures.orderly c.requires.telescope here of

pub returns : goal.returns
returns c =
    let here : IsHere c.args.snapshot.now c.known_place-place.result c.request_at-asked.result.now =
    request_here c.args.snapshot.now c.known_place-place.result c.request_at-asked.result.now c.parts-parts.ensures.orderly
    c.known_place-place.ensures.within c.request_at-asked.ensures in
    let number : c.request_at-asked.result.now.request.0 ≡ c.args.request.0 =
    number_here c.args.snapshot.now c.args.request.0 c.known_place-place.result c.request_at-asked.result.now here c.requires.request
    c.known_place-place.ensures.value in
    let skies : c.as_slice-skies.result.now ≡ c.args.snapshot.now.skies = c.as_slice-skies.ensures ∙ ap (λ (s : Parts). s.skies) c.parts-parts.ensures.value in
    let telescopes : c.as_slice-2.result.now ≡ c.args.snapshot.now.telescopes = c.as_slice-2.ensures
    ∙ ap (λ (s : Parts). s.telescopes) c.parts-parts.ensures.value in
    let site : c.index-as_slice-from.result.site.0 ≡ site_of c.args.snapshot.now c.args.telescope.0 =
    site_read c.args.snapshot.now c.as_slice-2.result.now c.from.result c.args.telescope.0 c.index-as_slice-from.result telescopes c.from.ensures
    c.requires.telescope c.index-as_slice-from.is in
    let sight : Sight = record { windows = c.as_slice-4.result; usable = c.as_slice-5.result; skies = c.as_slice-skies.result; views = c.as_slice-6.result } in
    let of : IsSightOf c.args.snapshot.now c.args.telescope.0 c.request_at-asked.result.now c.index-as_slice-from.result.site sight = record {
      windows = c.as_slice-4.ensures;
      usable = usable_read c.args.snapshot.now c.as_slice-2.result.now c.from.result c.args.telescope.0 c.index-as_slice-from.result
          c.as_slice-5.result.now telescopes c.from.ensures c.requires.telescope c.index-as_slice-from.is c.as_slice-5.ensures;
      skies = skies;
      at_site = site;
      views = views_read c.index-as_slice-from.result.site c.as_slice-skies.result.now c.args.snapshot.now.skies c.as_slice-3.result.now
          c.request_at-asked.result.now.targets c.in_ok-find_views.field-0 true c.find_views.new.views.items c.as_slice-6.result.now skies
          c.as_slice-3.ensures c.if-not-branch.false (sym c.as_slice-6.ensures.value) c.in_ok-find_views.ensures;
    } in
    let able : Contains c.request_at-asked.result.now.telescopes c.args.telescope =
    subst (λ (ts : List TelescopeNo). Contains ts c.args.telescope) c.as_slice.ensures (c.has_telescope.ensures.0 c.if-not-has_telescope.false) in
    let fit : SFits w64 (slice_index_or c.as_slice-7.result.now c.known_place-place.result (pos 0)) = search rules in
    let made = simp to_z-of_z at c.offer_of-offer.ensures.offer in
    let offer : IsOffer c.args.snapshot.now.len c.request_at-asked.result.now
    (slice_index_or c.args.prices.now.0 c.known_place-place.result (pos 0)) c.offer_of-offer.result
    = subst (λ (cs : List ℤ). IsOffer c.args.snapshot.now.len c.request_at-asked.result.now
    (slice_index_or cs c.known_place-place.result (pos 0)) c.offer_of-offer.result) c.as_slice-7.ensures
    (subst (λ (s : Parts). IsOffer s.len c.request_at-asked.result.now (slice_index_or c.as_slice-7.result.now c.known_place-place.result (pos 0))
    c.offer_of-offer.result) c.parts-parts.ensures.value made) in
    ok_said c.flags_of.result (IsFlagged (λ i. CanStart c.parts-parts.result.now sight c.offer_of-offer.result (c.parts-parts.result.now.first.0 + i))
    c.parts-parts.result.now.slices) (IsOpenRow c.args.snapshot.now c.args.telescope.0 c.args.request.0)
    (λ flags are.
    row_in_sight c.args.snapshot.now c.args.telescope c.known_place-place.result c.args.request.0 c.request_at-asked.result.now
    c.index-as_slice-from.result.site sight (slice_index_or c.args.prices.now.0 c.known_place-place.result (pos 0)) c.offer_of-offer.result
    c.parts-parts.ensures.orderly here number able of offer flags
    (subst (λ (s : Parts). IsFlagged (λ i. CanStart s sight c.offer_of-offer.result (s.first.0 + i)) s.slices flags) c.parts-parts.ensures.value are))
    c.flags_of.ensures
