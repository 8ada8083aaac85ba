-- The line of an insertion is read again.
use Rattle.std.proofs.Common.{◌≡◌, ℕ, ◌^◌, ◌<◌, List, [], ◌∷◌, ◌++◌, map, All, Some, Result, Ok, refl, sym, ◌∙◌, ap, subst, arith}
use Rattle.std.specs.Prelude.{ok_or, codes}
use Rattle.std.proofs.lemmas.List.Elements.{All-nil, All-cons, All-map, All-weaker, All-filter, All-contains, Contains-push}
use Rattle.std.proofs.lemmas.List.Sorted.{All-permutation, Contains-permutation}
use Rattle.serde_json.specs.Data.{Data, Members, no_members, member}
use Rattle.serde_json.specs.Find.{as_object}
use Rattle.serde_json.specs.Read.{max_depth}
use Rattle.plan_base.specs.declared.claim.Placement.{Placement}
use Rattle.plan_base.specs.declared.claim.Claim.{Claim}
use Rattle.plan_base.specs.declared.number.RequestNo.{RequestNo}
use Rattle.plan_base.specs.declared.parts.Parts.{Parts}
use Rattle.plan_base.specs.Feasible.{requests_of}
use Rattle.plan_base.proofs.GroupRebates.{all_from_map}
use Rattle.plan_json.specs.declared.fault.JsonFault.{JsonFault}
use Rattle.plan_json.specs.declared.fault.JsonFault.TheVariants.{NotObject}
use Rattle.plan_json.specs.declared.member.Member.TheVariants as key
use Rattle.plan_json.specs.Exact.{IsWritten}
use Rattle.plan_json.specs.Line.{line_of}
use Rattle.plan_json.specs.Object.{document_of, value_of}
use Rattle.plan_json.specs.Reading.{result_and_then}
use Rattle.plan_json.specs.Values.{list_of, has}
use Rattle.plan_json.proofs.LinesBack.{lines_are_read_back}
use Rattle.plan_json.proofs.Writable.{deeper_written, whole_written, numbers_written, list_written, none_writable, more_writable, object_written}
use Rattle.plan_doc.specs.Ranges.{IsPlacement, IsClaim}
use Rattle.plan_doc.specs.Written.{placement_data, claim_data}
use Rattle.plan_doc.proofs.WritableClaim.{claim_written}
use Rattle.rapid.specs.declared.inserted.Inserted.{Inserted}
use Rattle.rapid.specs.declared.inserted.Inserted.TheVariants.{Placed, NoPlace}
use Rattle.rapid.specs.Insertion.{IsPlacing}
use Rattle.rapid.specs.Written.{placed_data, request_number_data, inserted_data}

-- a number that can be written
abbrev IsFew : ℕ → Type 0
IsFew n = n < 2 ^ 64

placement_written : (p : Placement) → IsPlacement p → IsWritten 3 (placement_data p)
placement_written p h =
    numbers_written 2 (p.request.0 ∷ p.telescope.0 ∷ p.slice.0 ∷ [])
    (All-cons IsFew p.request.0 (p.telescope.0 ∷ p.slice.0 ∷ []) (omega (arith, h.request))
    (All-cons IsFew p.telescope.0 (p.slice.0 ∷ []) (omega (arith, h.telescope)) (All-cons IsFew p.slice.0 [] (omega (arith, h.slice)) (All-nil IsFew))))

displaced_written : (displaced : List RequestNo) → All (λ r. IsFew r.0) displaced → IsWritten 3 (list_of request_number_data displaced)
displaced_written displaced few =
    list_written 2 request_number_data displaced
    (All-weaker (λ (r : RequestNo). IsFew r.0) (λ r. IsWritten 2 (request_number_data r)) (λ r. whole_written 2 r.0) displaced few)

-- where the request of a group is placed is in the plan
placed_written : (s : Parts) (plan : List Placement) (r : ℕ) (answer : Inserted) (after : List Placement) (displaced : List RequestNo)
    → All IsPlacement after → IsPlacing s plan r answer after displaced → IsWritten 3 (placed_data answer)
placed_written s plan r NoPlace after displaced all h = record { exact = tt; in_order = tt; flat = omega arith }
placed_written s plan r (Placed p) after displaced all (gone, kept, is, listing, rising) =
    placement_written p (All-contains IsPlacement after p all (Contains-permutation (kept ++ p ∷ []) after p listing.same (Contains-push kept p)))

-- the requests displaced were in the plan
displaced_few : (s : Parts) (plan : List Placement) (r : ℕ) (answer : Inserted) (after : List Placement) (displaced : List RequestNo)
    → All IsPlacement plan → IsPlacing s plan r answer after displaced → All (λ (x : RequestNo). IsFew x.0) displaced
displaced_few s plan r NoPlace after displaced all (none, listing, empty) =
    subst (All (λ (x : RequestNo). IsFew x.0)) (sym empty) (All-nil (λ (x : RequestNo). IsFew x.0))
displaced_few s plan r (Placed p) after displaced all (gone, kept, is, listing, rising) =
    let part = is.worth_it.displaces.go in
    let each : All IsPlacement gone = subst (All IsPlacement) (sym part.those) (All-filter part.test IsPlacement plan all) in
    let few : All IsFew (requests_of gone) =
    All-map IsFew (λ q. q.request.0) gone (All-weaker IsPlacement (λ q. IsFew q.request.0) (λ q h. omega (arith, h.request)) gone each) in
    all_from_map IsFew (λ (x : RequestNo). x.0) displaced (All-permutation IsFew (requests_of gone) (map (λ x. x.0) displaced) rising.same few)

insertion_written : (s : Parts) (before : Claim) (r : ℕ) (answer : Inserted) (after : Claim) (displaced : List RequestNo) → IsClaim before → IsClaim after
    → IsPlacing s before.placements r answer after.placements displaced → IsWritten max_depth (inserted_data after displaced answer)
insertion_written s before r answer after displaced of_before of_after placing =
    let members =
    has (codes "claim") (claim_data after) ∷ has (codes "displaced") (list_of request_number_data displaced)
    ∷ has (codes "placed") (placed_data answer) ∷ [] in
    let few = displaced_few s before.placements r answer after.placements displaced of_before.placements.each placing in
    deeper_written 4 max_depth (inserted_data after displaced answer) (omega arith)
    (object_written 3 members
    (more_writable 3 _ _ _ refl (claim_written after of_after)
    (more_writable 3 _ _ _ refl (displaced_written displaced few)
    (more_writable 3 _ _ _ refl (placed_written s before.placements r answer after.placements displaced of_after.placements.each placing)
    (none_writable 3)))))

-- the members of the line
abbrev pub inserted_members : Claim → List RequestNo → Inserted → Members
inserted_members claim displaced answer =
    member (codes "claim") (claim_data claim)
    (member (codes "displaced") (list_of request_number_data displaced) (member (codes "placed") (placed_data answer) no_members))

pub claim_there : (claim : Claim) (displaced : List RequestNo) (answer : Inserted)
    → value_of (inserted_members claim displaced answer) key.Claim ≡ Some (claim_data claim)
claim_there claim displaced answer = refl

-- what is read of a line whose data is an object
line_read : (d : Data) (ms : Members) → IsWritten max_depth d → as_object d ≡ Some ms → document_of (line_of d) ≡ Ok ms
line_read d ms written object =
    let by : Result Data JsonFault → Result Members JsonFault = λ r. result_and_then (λ x. ok_or (as_object x) NotObject) r in
    ap by (lines_are_read_back d written) ∙ ap (λ o. let r : Result Members JsonFault = ok_or o NotObject in r) object

pub insertion_read : (s : Parts) (before : Claim) (r : ℕ) (answer : Inserted) (after : Claim) (displaced : List RequestNo) → IsClaim before → IsClaim after
    → IsPlacing s before.placements r answer after.placements displaced
    → document_of (line_of (inserted_data after displaced answer)) ≡ Ok (inserted_members after displaced answer)
insertion_read s before r answer after displaced of_before of_after placing =
    line_read (inserted_data after displaced answer) (inserted_members after displaced answer)
    (insertion_written s before r answer after displaced of_before of_after placing) refl
