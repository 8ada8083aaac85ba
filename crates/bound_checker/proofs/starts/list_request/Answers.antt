use Rattle.std.proofs.Common.{rules, ◌≡◌, ℕ, ◌+◌, Bool, true, false, ℤ, pos, w64, List, length, slice_index_or, AllPairs, Contains, ap, sym, ◌∙◌, subst}
use Rattle.std.proofs.lemmas.Bool.{false≢true}
use Rattle.std.proofs.lemmas.Int.{to_z-of_z}
use Rattle.plan_base.specs.declared.parts.Parts.{Parts}
use Rattle.plan_base.specs.declared.parts.Sky.{Sky}
use Rattle.plan_base.specs.declared.number.TelescopeNo.{TelescopeNo}
use Rattle.plan_base.specs.Starts.{site_of}
use Rattle.bound_checker.specs.declared.sight.Sight.{Sight}
use Rattle.bound_checker.specs.Offers.{IsOffer}
use Rattle.plan_base.specs.Skies.{SkiesRise}
use Rattle.bound_checker.specs.Listings.{IsAdded, CanStart, IsListing, IsBefore}
use Rattle.plan_base.proofs.Here.{IsHere, request_here}
use Rattle.bound_checker.proofs.Seen.{IsSightOf, site_read, usable_read, views_read, sight_clear, hidden_never}
use Rattle.bound_checker.proofs.Telling.{listing_stays, unable_never, listing_more, ok_then}
use Rattle.bound_checker.proofs.starts.list_request.Goals as goal
use mir.Val.{SFits}

pub returns-then-not-has_telescope : goal.returns-then-not-has_telescope
returns-then-not-has_telescope c =
    let here : IsHere c.args.snapshot.now c.args.place c.request_at-request.result.now =
    request_here c.args.snapshot.now c.args.place c.request_at-request.result.now c.parts-parts.ensures.orderly c.requires.place
    c.request_at-request.ensures in
    listing_stays c.args.snapshot.now c.args.prices.now.0 c.args.telescope.0 c.args.place c.request_at-request.result.now c.args.rows.now.items here
    (unable_never c.args.snapshot.now c.args.telescope c.args.place c.request_at-request.result.now here
    (λ able. false≢true (sym c.if-not-has_telescope.true
    ∙ c.has_telescope.ensures.1 (subst (λ (ts : List TelescopeNo). Contains ts c.args.telescope) (sym c.as_slice.ensures) able))))
    c.requires.listing

pub find_views-requires : goal.find_views-requires
find_views-requires c =
    let skies : c.as_slice-skies.result.now ≡ c.args.snapshot.now.skies = c.as_slice-skies.ensures ∙ ap (λ (s : Parts). s.skies) c.parts-parts.ensures.value in
    subst (λ (ys : List Sky). SkiesRise ys) (sym skies) c.parts-parts.ensures.orderly.skies_rise

pub returns-then-not-branch : goal.returns-then-not-branch
returns-then-not-branch c =
    let here : IsHere c.args.snapshot.now c.args.place c.request_at-request.result.now =
    request_here c.args.snapshot.now c.args.place c.request_at-request.result.now c.parts-parts.ensures.orderly c.requires.place
    c.request_at-request.ensures in
    let skies : c.as_slice-skies.result.now ≡ c.args.snapshot.now.skies = c.as_slice-skies.ensures ∙ ap (λ (s : Parts). s.skies) c.parts-parts.ensures.value in
    let telescopes : c.as_slice-2.result.now ≡ c.args.snapshot.now.telescopes = c.as_slice-2.ensures
    ∙ ap (λ (s : Parts). s.telescopes) c.parts-parts.ensures.value in
    let site : c.index-as_slice-from.result.site.0 ≡ site_of c.args.snapshot.now c.args.telescope.0 =
    site_read c.args.snapshot.now c.as_slice-2.result.now c.from.result c.args.telescope.0 c.index-as_slice-from.result telescopes c.from.ensures
    c.requires.telescope c.index-as_slice-from.is in
    listing_stays c.args.snapshot.now c.args.prices.now.0 c.args.telescope.0 c.args.place c.request_at-request.result.now c.args.rows.now.items here
    (hidden_never c.args.snapshot.now c.args.telescope.0 c.request_at-request.result.now c.index-as_slice-from.result.site c.args.place
    c.find_views.new.views.items c.parts-parts.ensures.orderly here site
    (views_read c.index-as_slice-from.result.site c.as_slice-skies.result.now c.args.snapshot.now.skies c.as_slice-3.result.now
    c.request_at-request.result.now.targets c.in_ok-find_views.field-0 false c.find_views.new.views.items c.find_views.new.views.items skies
    c.as_slice-3.ensures c.if-not-branch.true (λ i. c.find_views.new.views.items) c.in_ok-find_views.ensures)) c.requires.listing

pub offer_of-offer-requires-clause-asked : goal.offer_of-offer-requires-clause-asked
offer_of-offer-requires-clause-asked c =
    (request_here c.args.snapshot.now c.args.place c.request_at-request.result.now c.parts-parts.ensures.orderly c.requires.place
    c.request_at-request.ensures).asked

pub list_stretches-requires-clause-clear : goal.list_stretches-requires-clause-clear
list_stretches-requires-clause-clear c =
    let here : IsHere c.args.snapshot.now c.args.place c.request_at-request.result.now =
    request_here c.args.snapshot.now c.args.place c.request_at-request.result.now c.parts-parts.ensures.orderly c.requires.place
    c.request_at-request.ensures in
    let skies : c.as_slice-skies.result.now ≡ c.args.snapshot.now.skies = c.as_slice-skies.ensures ∙ ap (λ (s : Parts). s.skies) c.parts-parts.ensures.value in
    let telescopes : c.as_slice-2.result.now ≡ c.args.snapshot.now.telescopes = c.as_slice-2.ensures
    ∙ ap (λ (s : Parts). s.telescopes) c.parts-parts.ensures.value in
    let site : c.index-as_slice-from.result.site.0 ≡ site_of c.args.snapshot.now c.args.telescope.0 =
    site_read c.args.snapshot.now c.as_slice-2.result.now c.from.result c.args.telescope.0 c.index-as_slice-from.result telescopes c.from.ensures
    c.requires.telescope c.index-as_slice-from.is in
    let sight : Sight = record { windows = c.as_slice-4.result; usable = c.as_slice-5.result; skies = c.as_slice-skies.result; views = c.as_slice-6.result } in
    let of : IsSightOf c.args.snapshot.now c.args.telescope.0 c.request_at-request.result.now c.index-as_slice-from.result.site sight = record {
      windows = c.as_slice-4.ensures;
      usable = usable_read c.args.snapshot.now c.as_slice-2.result.now c.from.result c.args.telescope.0 c.index-as_slice-from.result
          c.as_slice-5.result.now telescopes c.from.ensures c.requires.telescope c.index-as_slice-from.is c.as_slice-5.ensures;
      skies = skies;
      at_site = site;
      views = views_read c.index-as_slice-from.result.site c.as_slice-skies.result.now c.args.snapshot.now.skies c.as_slice-3.result.now
          c.request_at-request.result.now.targets c.in_ok-find_views.field-0 true c.find_views.new.views.items c.as_slice-6.result.now skies
          c.as_slice-3.ensures c.if-not-branch.false (sym c.as_slice-6.ensures.value) c.in_ok-find_views.ensures;
    } in
    sight_clear c.args.snapshot.now c.args.telescope.0 c.args.place c.request_at-request.result.now c.index-as_slice-from.result.site sight
    c.parts-parts.ensures.orderly c.requires.telescope here of

pub returns : goal.returns
returns c =
    let here : IsHere c.args.snapshot.now c.args.place c.request_at-request.result.now =
    request_here c.args.snapshot.now c.args.place c.request_at-request.result.now c.parts-parts.ensures.orderly c.requires.place
    c.request_at-request.ensures in
    let skies : c.as_slice-skies.result.now ≡ c.args.snapshot.now.skies = c.as_slice-skies.ensures ∙ ap (λ (s : Parts). s.skies) c.parts-parts.ensures.value in
    let telescopes : c.as_slice-2.result.now ≡ c.args.snapshot.now.telescopes = c.as_slice-2.ensures
    ∙ ap (λ (s : Parts). s.telescopes) c.parts-parts.ensures.value in
    let site : c.index-as_slice-from.result.site.0 ≡ site_of c.args.snapshot.now c.args.telescope.0 =
    site_read c.args.snapshot.now c.as_slice-2.result.now c.from.result c.args.telescope.0 c.index-as_slice-from.result telescopes c.from.ensures
    c.requires.telescope c.index-as_slice-from.is in
    let sight : Sight = record { windows = c.as_slice-4.result; usable = c.as_slice-5.result; skies = c.as_slice-skies.result; views = c.as_slice-6.result } in
    let of : IsSightOf c.args.snapshot.now c.args.telescope.0 c.request_at-request.result.now c.index-as_slice-from.result.site sight = record {
      windows = c.as_slice-4.ensures;
      usable = usable_read c.args.snapshot.now c.as_slice-2.result.now c.from.result c.args.telescope.0 c.index-as_slice-from.result
          c.as_slice-5.result.now telescopes c.from.ensures c.requires.telescope c.index-as_slice-from.is c.as_slice-5.ensures;
      skies = skies;
      at_site = site;
      views = views_read c.index-as_slice-from.result.site c.as_slice-skies.result.now c.args.snapshot.now.skies c.as_slice-3.result.now
          c.request_at-request.result.now.targets c.in_ok-find_views.field-0 true c.find_views.new.views.items c.as_slice-6.result.now skies
          c.as_slice-3.ensures c.if-not-branch.false (sym c.as_slice-6.ensures.value) c.in_ok-find_views.ensures;
    } in
    let able : Contains c.request_at-request.result.now.telescopes c.args.telescope =
    subst (λ (ts : List TelescopeNo). Contains ts c.args.telescope) c.as_slice.ensures (c.has_telescope.ensures.0 c.if-not-has_telescope.false) in
    let fit : SFits w64 (slice_index_or c.as_slice-7.result.now c.args.place (pos 0)) = search rules in
    let made = simp to_z-of_z at c.offer_of-offer.ensures.offer in
    let offer : IsOffer c.args.snapshot.now.len c.request_at-request.result.now
    (slice_index_or c.args.prices.now.0 c.args.place (pos 0)) c.offer_of-offer.result =
    subst (λ (cs : List ℤ). IsOffer c.args.snapshot.now.len c.request_at-request.result.now
    (slice_index_or cs c.args.place (pos 0)) c.offer_of-offer.result) c.as_slice-7.ensures
    (subst (λ (s : Parts). IsOffer s.len c.request_at-request.result.now
    (slice_index_or c.as_slice-7.result.now c.args.place (pos 0)) c.offer_of-offer.result) c.parts-parts.ensures.value made) in
    ok_then c.list_stretches.result
    (IsAdded c.offer_of-offer.result c.parts-parts.result.now.first.0
    (CanStart c.parts-parts.result.now sight c.offer_of-offer.result) c.args.rows.now.items c.list_stretches.new.rows.items)
    (IsListing c.args.snapshot.now c.args.prices.now.0 c.args.telescope.0 (IsBefore c.args.snapshot.now (c.args.place + 1)) c.list_stretches.new.rows.items)
    (λ added.
    listing_more c.args.snapshot.now c.args.prices.now.0 c.args.telescope c.args.place c.request_at-request.result.now
    c.index-as_slice-from.result.site sight c.offer_of-offer.result c.parts-parts.ensures.orderly here able of offer c.args.rows.now.items
    c.list_stretches.new.rows.items c.requires.listing
    (subst (λ (s : Parts). IsAdded c.offer_of-offer.result s.first.0
    (CanStart s sight c.offer_of-offer.result) c.args.rows.now.items c.list_stretches.new.rows.items) c.parts-parts.ensures.value added))
    c.list_stretches.ensures
