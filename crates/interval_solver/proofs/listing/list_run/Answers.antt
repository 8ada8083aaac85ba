use Rattle.std.proofs.Common.{arith, ◌≡◌, ◌+◌, ℕ, length, ◌∙◌, ap, subst}
use Rattle.plan_base.specs.declared.parts.Parts.{Parts}
use Rattle.plan_base.specs.Requests.{IsKnown}
use Rattle.interval_solver.specs.Offers.{IsOffer}
use Rattle.interval_solver.specs.Listings.{AreAdded, IsOfFirst, IsListing}
use Rattle.plan_base.proofs.Here.{IsHere}
use Rattle.interval_solver.proofs.Listed.{run_within, listing_stays, listing_more, found_here, found_number, ok_then}
use Rattle.interval_solver.proofs.listing.list_run.Goals as goal

pub returns-then-run-telescope : goal.returns-then-run-telescope
returns-then-run-telescope c =
    listing_stays c.args.snapshot.now c.args.telescope.0 c.args.place c.args.runs.now c.args.run c.args.rows.now.items c.requires.place
    (c.requires.run c.args.run)
    (λ p start is_in.
    let on : p.telescope.0 ≡ c.args.telescope.0 = start.same_telescope in
    let also : p.telescope.0 ≡ c.args.run.telescope.0 = ap (λ n. n.0) is_in.telescope in
    omega arith) c.requires.listing

pub returns-in_default : goal.returns-in_default
returns-in_default c =
    listing_stays c.args.snapshot.now c.args.telescope.0 c.args.place c.args.runs.now c.args.run c.args.rows.now.items c.requires.place
    (c.requires.run c.args.run)
    (λ p start is_in. c.in_default.ensures (subst (IsKnown c.args.snapshot.now) (ap (λ n. n.0) is_in.request) start.possible.known)) c.requires.listing

pub offer_of-offer-requires-clause-seconds : goal.offer_of-offer-requires-clause-seconds
offer_of-offer-requires-clause-seconds c =
    (found_here c.args.snapshot.now c.in-Some.request c.args.run.request.0 c.request_at.result.now c.parts-parts.ensures.orderly c.in-Some.ensures.0
    c.in-Some.ensures.1 c.request_at.ensures).asked.seconds_most

pub offer_of-offer-requires-clause-value : goal.offer_of-offer-requires-clause-value
offer_of-offer-requires-clause-value c =
    (found_here c.args.snapshot.now c.in-Some.request c.args.run.request.0 c.request_at.result.now c.parts-parts.ensures.orderly c.in-Some.ensures.0
    c.in-Some.ensures.1 c.request_at.ensures).asked.value

pub offer_of-offer-requires-clause-fade : goal.offer_of-offer-requires-clause-fade
offer_of-offer-requires-clause-fade c =
    (found_here c.args.snapshot.now c.in-Some.request c.args.run.request.0 c.request_at.result.now c.parts-parts.ensures.orderly c.in-Some.ensures.0
    c.in-Some.ensures.1 c.request_at.ensures).asked.fade

pub offer_of-offer-requires-clause-moments : goal.offer_of-offer-requires-clause-moments
offer_of-offer-requires-clause-moments c =
    λ i d l. ((found_here c.args.snapshot.now c.in-Some.request c.args.run.request.0 c.request_at.result.now c.parts-parts.ensures.orderly
    c.in-Some.ensures.0 c.in-Some.ensures.1 c.request_at.ensures).asked.moments i d l).0

pub push_starts-requires-clause-begins : goal.push_starts-requires-clause-begins
push_starts-requires-clause-begins c =
    let first : c.parts-parts.result.now.first.0 ≡ c.args.snapshot.now.first.0 = ap (λ (s : Parts). s.first.0) c.parts-parts.ensures.value in
    let within = run_within c.args.snapshot.now c.args.runs.now c.args.place c.args.run c.parts-parts.ensures.orderly c.requires.runs c.requires.place
    (c.requires.run c.args.run) in
    omega (arith, within.0, first)

pub push_starts-requires-clause-ends : goal.push_starts-requires-clause-ends
push_starts-requires-clause-ends c =
    let first : c.parts-parts.result.now.first.0 ≡ c.args.snapshot.now.first.0 = ap (λ (s : Parts). s.first.0) c.parts-parts.ensures.value in
    let within = run_within c.args.snapshot.now c.args.runs.now c.args.place c.args.run c.parts-parts.ensures.orderly c.requires.runs c.requires.place
    (c.requires.run c.args.run) in
    let count : length c.args.rows.now.items ≡ c.args.snapshot.now.slices = c.requires.listing.count in
    omega (arith, within.1, first)

pub returns : goal.returns
returns c =
    let here : IsHere c.args.snapshot.now c.in-Some.request c.request_at.result.now =
    found_here c.args.snapshot.now c.in-Some.request c.args.run.request.0 c.request_at.result.now c.parts-parts.ensures.orderly
    c.in-Some.ensures.0 c.in-Some.ensures.1 c.request_at.ensures in
    let number : c.args.run.request.0 ≡ c.request_at.result.now.request.0 =
    found_number c.args.snapshot.now c.in-Some.request c.args.run.request.0 c.request_at.result.now c.in-Some.ensures.0
    c.in-Some.ensures.1 here in
    let offer : IsOffer c.args.snapshot.now.len c.request_at.result.now c.in-Some.request c.offer_of-offer.result =
    subst (λ (s : Parts). IsOffer s.len c.request_at.result.now c.in-Some.request c.offer_of-offer.result) c.parts-parts.ensures.value
    c.offer_of-offer.ensures.offer in
    let first : c.from-2.result ≡ c.args.snapshot.now.first.0 = c.from-2.ensures ∙ ap (λ (s : Parts). s.first.0) c.parts-parts.ensures.value in
    let from : c.from-from.result ≡ c.args.run.first.0 = c.from-from.ensures in
    let count : c.from.result ≡ c.args.run.count = c.from.ensures in
    let on : c.args.run.telescope.0 ≡ c.args.telescope.0 = omega arith in
    ok_then c.push_starts.result
    (AreAdded c.offer_of-offer.result c.from-2.result c.from-from.result
    (c.from-from.result + c.from.result) c.args.rows.now.items c.push_starts.new.rows.items)
    (IsListing c.args.snapshot.now c.args.telescope.0 (IsOfFirst c.args.runs.now (c.args.place + 1)) c.push_starts.new.rows.items)
    (λ added.
    listing_more c.args.snapshot.now c.args.telescope.0 c.args.place c.args.runs.now c.args.run c.in-Some.request c.request_at.result.now
    c.offer_of-offer.result c.parts-parts.ensures.orderly c.requires.runs c.requires.place (c.requires.run c.args.run)
    on here number offer c.args.rows.now.items c.push_starts.new.rows.items c.requires.listing
    (subst (λ (n : ℕ). AreAdded c.offer_of-offer.result c.args.snapshot.now.first.0 c.args.run.first.0
    (c.args.run.first.0 + n) c.args.rows.now.items c.push_starts.new.rows.items) count
    (subst (λ (n : ℕ). AreAdded c.offer_of-offer.result c.args.snapshot.now.first.0 n
    (n + c.from.result) c.args.rows.now.items c.push_starts.new.rows.items) from
    (subst (λ (n : ℕ). AreAdded c.offer_of-offer.result n c.from-from.result
    (c.from-from.result + c.from.result) c.args.rows.now.items c.push_starts.new.rows.items) first added))))
    c.push_starts.ensures
