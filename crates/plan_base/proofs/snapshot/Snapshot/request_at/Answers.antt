use Rattle.std.proofs.Common.{◌≡◌, ◌<◌, length, sym, ap, ◌∙◌, arith, get_or}
use Rattle.std.proofs.lemmas.Option.{get_or_from_slice_get, slice_get_within}
use Rattle.plan_base.specs.Requests.{listed}
use Rattle.plan_base.proofs.RowLemmas.{length-rows, row_at}
use Rattle.plan_base.proofs.snapshot.Snapshot.request_at.Goals as goal

pub index-row-requires : goal.index-row-requires
index-row-requires c =
    let within : c.args.place < length (listed c.self.inside.parts) = rw c.self.view_is c.requires in
    omega (arith, c.self.inside.rows.ok.0, length-rows c.self.inside.parts c.self.inside.rows.items c.self.invariant.1)

pub offset_bounds-as_slice-row : goal.offset_bounds-as_slice-row
offset_bounds-as_slice-row c =
    let within : c.args.place < length (listed c.self.inside.parts) = rw c.self.view_is c.requires in
    let found = row_at c.self.inside.parts c.self.inside.rows.items c.self.invariant.1 c.args.place c.index-row.result.now within c.index-row.ensures in
    let below : c.index-row.result.now.group < length c.as_slice.result.now
    = rw c.as_slice.ensures (slice_get_within c.self.inside.parts.groups c.index-row.result.now.group found.2.part found.2.at_group) in
    grind arith

pub bounds-as_slice-row : goal.bounds-as_slice-row
bounds-as_slice-row c =
    let within : c.args.place < length (listed c.self.inside.parts) = rw c.self.view_is c.requires in
    let found = row_at c.self.inside.parts c.self.inside.rows.items c.self.invariant.1 c.args.place c.index-row.result.now within c.index-row.ensures in
    rw c.as_slice.ensures (slice_get_within c.self.inside.parts.groups c.index-row.result.now.group found.2.part found.2.at_group)

pub offset_bounds-as_slice-row-2 : goal.offset_bounds-as_slice-row-2
offset_bounds-as_slice-row-2 c =
    let within : c.args.place < length (listed c.self.inside.parts) = rw c.self.view_is c.requires in
    let found = row_at c.self.inside.parts c.self.inside.rows.items c.self.invariant.1 c.args.place c.index-row.result.now within c.index-row.ensures in
    let requests : c.as_slice-2.result.now ≡ found.2.part.requests
    = c.as_slice-2.ensures
    ∙ ap (λ xs. (get_or xs c.index-row.result.now.group c.index-as_slice-row.result).requests) c.as_slice.ensures
    ∙ ap (λ x. x.requests) (get_or_from_slice_get c.self.inside.parts.groups c.index-row.result.now.group found.2.part _ found.2.at_group)
    in
    let below : c.index-row.result.now.place < length c.as_slice-2.result.now
    = rw requests (slice_get_within found.2.part.requests c.index-row.result.now.place found.0.request found.2.at_place) in
    grind arith

pub bounds-as_slice-row-2 : goal.bounds-as_slice-row-2
bounds-as_slice-row-2 c =
    let within : c.args.place < length (listed c.self.inside.parts) = rw c.self.view_is c.requires in
    let found = row_at c.self.inside.parts c.self.inside.rows.items c.self.invariant.1 c.args.place c.index-row.result.now within c.index-row.ensures in
    let requests : c.as_slice-2.result.now ≡ found.2.part.requests
    = c.as_slice-2.ensures
    ∙ ap (λ xs. (get_or xs c.index-row.result.now.group c.index-as_slice-row.result).requests) c.as_slice.ensures
    ∙ ap (λ x. x.requests) (get_or_from_slice_get c.self.inside.parts.groups c.index-row.result.now.group found.2.part _ found.2.at_group)
    in
    rw requests (slice_get_within found.2.part.requests c.index-row.result.now.place found.0.request found.2.at_place)

pub returns : goal.returns
returns c =
    let within : c.args.place < length (listed c.self.inside.parts) = rw c.self.view_is c.requires in
    let found = row_at c.self.inside.parts c.self.inside.rows.items c.self.invariant.1 c.args.place c.index-row.result.now within c.index-row.ensures in
    let requests : c.as_slice-2.result.now ≡ found.2.part.requests
    = c.as_slice-2.ensures
    ∙ ap (λ xs. (get_or xs c.index-row.result.now.group c.index-as_slice-row.result).requests) c.as_slice.ensures
    ∙ ap (λ x. x.requests) (get_or_from_slice_get c.self.inside.parts.groups c.index-row.result.now.group found.2.part _ found.2.at_group)
    in
    let here : c.index-as_slice-row-2.result ≡ found.0.request
    = c.index-as_slice-row-2.is
    ∙ ap (λ qs. get_or qs c.index-row.result.now.place c.index-as_slice-row-2.result) requests
    ∙ get_or_from_slice_get found.2.part.requests c.index-row.result.now.place found.0.request _ found.2.at_place
    in
    rw (← c.self.view_is) (λ d. ap (λ x. x.request) (get_or_from_slice_get (listed c.self.inside.parts) c.args.place found.0 d found.1) ∙ sym here)
