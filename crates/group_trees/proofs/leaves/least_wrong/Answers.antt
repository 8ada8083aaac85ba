use Rattle.std.proofs.Common.{◌≡◌, ◌<◌, Bool, true, false, List, length, All, sym, ap, subst, arith}
use Rattle.std.proofs.lemmas.Option.{slice_get_within}
use Rattle.plan_base.specs.declared.number.RequestNo.{RequestNo}
use Rattle.plan_base.specs.Requests.{listed}
use Rattle.plan_base.specs.Verdict.{IsFirst}
use Rattle.plan_base.proofs.Here.{request_here}
use Rattle.group_trees.specs.Forests.{IsAt, IsWrongLeaf}
use Rattle.group_trees.proofs.Tallies.{least_set, least_clear}
use Rattle.group_trees.proofs.leaves.least_wrong.Goals as goal

pub request_at-requires : goal.request_at-requires
request_at-requires c =
    let first : IsFirst (IsAt (λ flag. flag ≡ false) c.as_slice.result.now) c.in-Some.place = c.in-Some.ensures in
    let inside : c.in-Some.place < length c.as_slice.result.now = slice_get_within c.as_slice.result.now c.in-Some.place first.0.0 first.0.1 in
    let same : length c.as_slice.result.now ≡ length c.args.tally.now.flags.items = ap (λ (xs : List Bool). length xs) c.as_slice.ensures.value in
    let count : length c.args.tally.now.flags.items ≡ length (listed c.args.snapshot.now) = c.requires in
    omega arith

pub returns-in-Some : goal.returns-in-Some
returns-in-Some c = λ rs h.
    let s = c.args.snapshot.now in
    let place = c.in-Some.place in
    let first : IsFirst (IsAt (λ flag. flag ≡ false) c.as_slice.result.now) place = c.in-Some.ensures in
    let inside : place < length c.as_slice.result.now = slice_get_within c.as_slice.result.now place first.0.0 first.0.1 in
    let same : length c.as_slice.result.now ≡ length c.args.tally.now.flags.items = ap (λ (xs : List Bool). length xs) c.as_slice.ensures.value in
    let count : length c.args.tally.now.flags.items ≡ length (listed s) = c.requires in
    let here = request_here s place c.request_at.result.now c.recall_valid.ensures.orderly (omega arith) c.request_at.ensures in
    subst (λ (x : RequestNo). IsFirst (IsWrongLeaf s rs) x.0) (sym c.lesser.ensures)
    (least_clear s rs c.args.tally.now h place c.request_at.result.now.request c.recall_valid.ensures.orderly here.known here.at
    (subst (λ (xs : List Bool). IsFirst (IsAt (λ flag. flag ≡ false) xs) place) c.as_slice.ensures.value first))

pub returns-in-None : goal.returns-in-None
returns-in-None c = λ rs h. least_set c.args.snapshot.now rs c.args.tally.now h
    (subst (λ (xs : List Bool). All (λ flag. flag ≡ true) xs) c.as_slice.ensures.value c.in-None.ensures)
