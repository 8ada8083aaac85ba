use Rattle.std.proofs.Common.{rules, ◌≡◌, ◌+◌, ◌≤◌, ℕ, List, [], ◌∷◌, ◌++◌, length, w64, Contains, refl, sym, ◌∙◌, ap, subst, arith}
use Rattle.std.proofs.lemmas.Int.{to_z-of_z}
use Rattle.std.proofs.lemmas.List.{append-nil, append_assoc, length_push}
use Rattle.plan_base.specs.declared.parts.Parts.{Parts}
use Rattle.plan_base.specs.declared.claim.Placement.{Placement}
use Rattle.plan_base.specs.Requests.{place_of, IsKnown}
use Rattle.plan_base.proofs.Here.{IsHere, request_here}
use Rattle.interval_solver.specs.declared.start.Start.{Start}
use Rattle.interval_solver.specs.Uses.{Started}
use Rattle.interval_solver.specs.Lanes.{lane}
use Rattle.interval_solver.proofs.LaneFilling.{all_fit}
use Rattle.interval_solver.proofs.Tabled.{rows_fit}
use Rattle.interval_solver.proofs.Walking.{placed_at, tight_reached, is_read, walk_begins, walk_goes_on, walk_ends}
use Rattle.interval_solver.proofs.walk.walk.Goals as goal
use mir.Val.{SFits}

pub loop-slice-init : goal.loop-slice-init
loop-slice-init g c = record {
  within = omega arith;
  busy = λ l. c.busy_slice-slice.ensures.busy (omega arith);
  walked = (
    [],
    walk_begins c.args.snapshot.now c.args.telescope c.args.rows.now c.parts.ensures.orderly c.requires.listing
        (lane c.args.lane_place c.args.prices.now) (lane c.args.lane_place c.args.table.now) c.requires.recursion c.busy_slice-slice.result
        (omega arith) c.busy_slice-slice.ensures.idle,
    sym (append-nil c.args.uses.now.starts),
    omega arith,
  );
  snapshot = c.requires.uses.snapshot;
  room = refl;
}

pub tight_start-start-requires : goal.tight_start-start-requires
tight_start-start-requires g c =
    let listing = c.requires.listing in
    let all = rows_fit c.args.snapshot.now c.args.telescope.0 c.args.rows.now c.parts.ensures.orderly listing (length c.args.prices.now) c.requires.count in
    let fits = all_fit c.args.rows.now (length c.args.prices.now) c.loop-slice.slice c.row.result.now all
    (λ x h. subst (λ (xs : List Start). Contains xs x) c.row.ensures h) in
    let some = tight_reached c.args.snapshot.now c.args.telescope c.args.rows.now c.parts.ensures.orderly listing
    (lane c.args.lane_place c.args.prices.now) (lane c.args.lane_place c.args.table.now) c.requires.recursion c.loop-slice.slice (omega arith)
    (c.loop-slice.invariant.busy (omega arith)) in
    let fit : SFits w64 c.number_at-entry.result = search rules in (
      search rules,
      (
        c.requires.lane,
        (
          λ k d l. (fits k d l).worth,
          (
            λ k d l. (fits k d l).place,
            (
              λ k d l. let within = (fits k d l).within in omega (arith, c.requires.length),
              (
                c.requires.range,
                (
                  c.requires.entries,
                  (
                    some.0,
                    subst (λ (xs : List Start). Contains xs some.0) (sym c.row.ensures) some.1,
                    some.2 ∙ sym c.number_at-entry.ensures
                        ∙ sym (to_z-of_z w64 c.number_at-entry.result fit),
                  ),
                ),
              ),
            ),
          ),
        ),
      ),
    )

pub request_at-requires : goal.request_at-requires
request_at-requires g c =
    let fit : SFits w64 c.number_at-entry.result = search rules in
    let read = is_read c.args.snapshot.now c.args.telescope c.args.rows.now c.parts.ensures.orderly c.requires.listing
    (lane c.args.lane_place c.args.prices.now) (lane c.args.lane_place c.args.table.now) c.requires.recursion c.loop-slice.slice _
    c.row.result.now c.tight_start-start.result c.row.ensures
    (to_z-of_z w64 c.number_at-entry.result fit ∙ c.number_at-entry.ensures) c.tight_start-start.ensures in
    read.place

pub add-requires-clause-known : goal.add-requires-clause-known
add-requires-clause-known g c =
    let fit : SFits w64 c.number_at-entry.result = search rules in
    let read = is_read c.args.snapshot.now c.args.telescope c.args.rows.now c.parts.ensures.orderly c.requires.listing
    (lane c.args.lane_place c.args.prices.now) (lane c.args.lane_place c.args.table.now) c.requires.recursion c.loop-slice.slice _
    c.row.result.now c.tight_start-start.result c.row.ensures
    (to_z-of_z w64 c.number_at-entry.result fit ∙ c.number_at-entry.ensures) c.tight_start-start.ensures in
    let here : IsHere c.args.snapshot.now c.tight_start-start.result.place c.request_at.result.now =
    request_here c.args.snapshot.now c.tight_start-start.result.place c.request_at.result.now c.parts.ensures.orderly
    read.place c.request_at.ensures in
    subst (λ (s : Parts). IsKnown s c.request_at.result.now.request.0) (sym c.loop-slice.invariant.snapshot) here.known

pub add-requires-clause-place : goal.add-requires-clause-place
add-requires-clause-place g c =
    let fit : SFits w64 c.number_at-entry.result = search rules in
    let read = is_read c.args.snapshot.now c.args.telescope c.args.rows.now c.parts.ensures.orderly c.requires.listing
    (lane c.args.lane_place c.args.prices.now) (lane c.args.lane_place c.args.table.now) c.requires.recursion c.loop-slice.slice _
    c.row.result.now c.tight_start-start.result c.row.ensures
    (to_z-of_z w64 c.number_at-entry.result fit ∙ c.number_at-entry.ensures) c.tight_start-start.ensures in
    let here : IsHere c.args.snapshot.now c.tight_start-start.result.place c.request_at.result.now =
    request_here c.args.snapshot.now c.tight_start-start.result.place c.request_at.result.now c.parts.ensures.orderly
    read.place c.request_at.ensures in
    c.from.ensures ∙ sym here.at ∙ ap (λ (s : Parts). place_of s c.request_at.result.now.request.0) (sym c.loop-slice.invariant.snapshot)

pub busy_slice-slice-requires-in-loop-slice : goal.busy_slice-slice-requires-in-loop-slice
busy_slice-slice-requires-in-loop-slice g c =
    let fit : SFits w64 c.number_at-entry.result = search rules in
    let read = is_read c.args.snapshot.now c.args.telescope c.args.rows.now c.parts.ensures.orderly c.requires.listing
    (lane c.args.lane_place c.args.prices.now) (lane c.args.lane_place c.args.table.now) c.requires.recursion c.loop-slice.slice _
    c.row.result.now c.tight_start-start.result c.row.ensures
    (to_z-of_z w64 c.number_at-entry.result fit ∙ c.number_at-entry.ensures) c.tight_start-start.ensures in
    (search rules, (c.requires.lane, (omega (arith, read.within, c.requires.length), c.requires.entries)))

pub loop-slice-smaller : goal.loop-slice-smaller
loop-slice-smaller g c =
    let fit : SFits w64 c.number_at-entry.result = search rules in
    let read = is_read c.args.snapshot.now c.args.telescope c.args.rows.now c.parts.ensures.orderly c.requires.listing
    (lane c.args.lane_place c.args.prices.now) (lane c.args.lane_place c.args.table.now) c.requires.recursion c.loop-slice.slice _
    c.row.result.now c.tight_start-start.result c.row.ensures
    (to_z-of_z w64 c.number_at-entry.result fit ∙ c.number_at-entry.ensures) c.tight_start-start.ensures in
    let later = c.busy_slice-slice-in-loop-slice.ensures.from in
    omega (arith, read.after)

pub loop-slice-preserved : goal.loop-slice-preserved
loop-slice-preserved g c =
    let fit : SFits w64 c.number_at-entry.result = search rules in
    let read = is_read c.args.snapshot.now c.args.telescope c.args.rows.now c.parts.ensures.orderly c.requires.listing
    (lane c.args.lane_place c.args.prices.now) (lane c.args.lane_place c.args.table.now) c.requires.recursion c.loop-slice.slice _
    c.row.result.now c.tight_start-start.result c.row.ensures
    (to_z-of_z w64 c.number_at-entry.result fit ∙ c.number_at-entry.ensures) c.tight_start-start.ensures in
    let here : IsHere c.args.snapshot.now c.tight_start-start.result.place c.request_at.result.now =
    request_here c.args.snapshot.now c.tight_start-start.result.place c.request_at.result.now c.parts.ensures.orderly
    read.place c.request_at.ensures in
    let walked = c.loop-slice.invariant.walked in
    let at : c.parts.result.now.first.0 ≡ c.args.snapshot.now.first.0 = ap (λ (s : Parts). s.first.0) c.parts.ensures.value in
    let placement : Placement = record {
      request = c.request_at.result.now.request;
      telescope = c.args.telescope;
      slice = record { 0 = c.parts.result.now.first.0 + c.loop-slice.slice };
    } in
    let placed : placement ≡ placed_at c.args.snapshot.now c.args.telescope c.loop-slice.slice c.request_at.result.now.request
    = ap (λ (n : ℕ). let p : Placement = record {
      request = c.request_at.result.now.request;
      telescope = c.args.telescope;
      slice = record { 0 = n + c.loop-slice.slice };
    } in p) at
    in
    let added : c.add.new.self.starts ≡ c.loop-slice.uses.starts ++ placement ∷ [] = ap (λ (u : Started). u.starts) c.add.ensures in
    record {
      within = omega arith;
      busy = λ l. c.busy_slice-slice-in-loop-slice.ensures.busy (omega arith);
      walked = (
        walked.0 ++ placed_at c.args.snapshot.now c.args.telescope c.loop-slice.slice c.request_at.result.now.request ∷ [],
        walk_goes_on c.args.snapshot.now c.args.telescope c.args.rows.now c.parts.ensures.orderly c.requires.listing
            (lane c.args.lane_place c.args.prices.now) (lane c.args.lane_place c.args.table.now) c.requires.recursion c.loop-slice.slice
            c.busy_slice-slice-in-loop-slice.result c.tight_start-start.result c.request_at.result.now walked.0
            here (omega arith) (c.loop-slice.invariant.busy (omega arith)) read.first c.busy_slice-slice-in-loop-slice.ensures.from
            (omega arith) c.busy_slice-slice-in-loop-slice.ensures.idle walked.1,
        added ∙ ap (λ (p : Placement). c.loop-slice.uses.starts ++ p ∷ []) placed
            ∙ ap (λ (ps : List Placement). ps ++ placed_at c.args.snapshot.now c.args.telescope c.loop-slice.slice c.request_at.result.now.request
            ∷ []) walked.2
            ∙ append_assoc c.args.uses.now.starts walked.0
            (placed_at c.args.snapshot.now c.args.telescope c.loop-slice.slice c.request_at.result.now.request ∷ []),
        let before : length walked.0 ≤ c.loop-slice.slice = walked.3 in
            let later = c.busy_slice-slice-in-loop-slice.ensures.from in
            omega (arith, read.after, length_push walked.0 (placed_at c.args.snapshot.now c.args.telescope c.loop-slice.slice c.request_at.result.now.request)),
      );
      snapshot = ap (λ (u : Started). u.snapshot) c.add.ensures ∙ c.loop-slice.invariant.snapshot;
      room = ap (λ (u : Started). u.room) c.add.ensures ∙ c.loop-slice.invariant.room;
    }

pub returns : goal.returns
returns g c =
    let walked = c.loop-slice.invariant.walked in
    let count : length c.args.rows.now ≡ c.args.snapshot.now.slices = c.requires.listing.count in
    record {
      starts = walked.0;
      canonical = walk_ends c.args.snapshot.now c.args.telescope c.args.rows.now c.parts.ensures.orderly c.requires.listing
          (lane c.args.lane_place c.args.prices.now) (lane c.args.lane_place c.args.table.now) c.requires.recursion c.loop-slice.slice walked.0
          (omega arith) walked.1;
      added = walked.2;
      few = let most : length walked.0 ≤ c.loop-slice.slice = walked.3 in omega arith;
      snapshot = c.loop-slice.invariant.snapshot;
      room = c.loop-slice.invariant.room;
    }

pub busy_slice-slice-requires : goal.busy_slice-slice-requires
busy_slice-slice-requires g c = (search rules, (c.requires.lane, (omega (arith, c.requires.length), c.requires.entries)))

pub number_at-entry-requires : goal.number_at-entry-requires
number_at-entry-requires g c =
    (search rules, (c.requires.lane, (omega (arith, c.loop-slice-test.true, c.requires.length), λ k d l. (c.requires.entries k d l).count)))

pub row-requires : goal.row-requires
row-requires g c = omega (arith, c.loop-slice-test.true, c.len.ensures)
