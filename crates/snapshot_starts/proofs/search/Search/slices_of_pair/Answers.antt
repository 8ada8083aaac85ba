use Rattle.std.proofs.Common.{◌<◌, ◌≡◌, length, subst, arith}
use Rattle.std.specs.Prelude.{HoldsAt}
use Rattle.plan_base.specs.declared.parts.Parts.{Parts}
use Rattle.plan_base.specs.Snapshot.{IsOrderly}
use Rattle.plan_base.specs.Requests.{listed, place_of, IsKnown}
use Rattle.snapshot_starts.specs.Mending.{IsRequest}
use Rattle.snapshot_starts.proofs.Pairing.{few_seconds}
use Rattle.snapshot_starts.proofs.Keeping.{is_request}
use Rattle.snapshot_starts.proofs.FoundPairs.{known_pair_slices}
use Rattle.snapshot_starts.proofs.search.Search.slices_of_pair.Goals as goal

pub slices_for-requires-clause-seconds : goal.slices_for-requires-clause-seconds
slices_for-requires-clause-seconds c =
    let s : Parts = c.self.inside.snapshot.now in
    let known : place_of s c.args.pair.request.0 < length (listed s) = c.in-Some.ensures.0 in
    few_seconds s c.in-Some.place c.request_at-request.result.now c.recall_valid.ensures.orderly
    (omega (arith, c.in-Some.ensures.1, known)) c.request_at-request.ensures

pub slices_for-requires-clause-known : goal.slices_for-requires-clause-known
slices_for-requires-clause-known c =
    subst (λ (s : Parts). IsRequest s c.request_at-request.result.now) c.self.view_is
    (is_request c.self.inside.snapshot.now c.args.pair.request.0 c.in-Some.place c.request_at-request.result.now c.recall_valid.ensures.orderly
    c.in-Some.ensures.0 c.in-Some.ensures.1 c.request_at-request.ensures)

pub returns-clause-slices : goal.returns-clause-slices
returns-clause-slices c =
    let s : Parts = c.args.self.now in
    let q = c.request_at-request.result.now in
    let same = c.self.view_is in
    known_pair_slices s c.args.pair c.in-Some.place q c.in_ok-slices.slices (subst IsOrderly same c.recall_valid.ensures.orderly)
    (subst (λ (p : Parts). IsKnown p c.args.pair.request.0) same c.in-Some.ensures.0)
    (subst (λ (p : Parts). c.in-Some.place ≡ place_of p c.args.pair.request.0) same c.in-Some.ensures.1)
    (subst (λ (p : Parts). HoldsAt (λ x. x.request ≡ q) (listed p) c.in-Some.place) same c.request_at-request.ensures) c.in_ok-slices.ensures
