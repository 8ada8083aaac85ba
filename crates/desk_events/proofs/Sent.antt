-- A line that sends a claim is read as its command.
use Rattle.std.proofs.Common.{◌≡◌, ℕ, List, [], ◌∷◌, Result, Ok, Some, refl, ap, ◌∙◌, arith}
use Rattle.std.specs.Prelude.{ok_or, codes}
use Rattle.json.proofs.Printed.Utf8.{IsUtf8-are_ascii}
use Rattle.serde_json.specs.Data.{Data, string, Members, no_members, member}
use Rattle.serde_json.specs.Find.{as_object}
use Rattle.serde_json.specs.Read.{max_depth}
use Rattle.plan_base.specs.Limits.{most_version}
use Rattle.plan_base.specs.declared.claim.Claim.{Claim}
use Rattle.plan_json.specs.declared.fault.JsonFault.{JsonFault}
use Rattle.plan_json.specs.declared.fault.JsonFault.TheVariants.{NotObject}
use Rattle.plan_json.specs.declared.member.Member.TheVariants as key
use Rattle.plan_json.specs.Adds.{text_of}
use Rattle.plan_json.specs.Exact.{IsWritten}
use Rattle.plan_json.specs.Object.{data_of, document_of}
use Rattle.plan_json.specs.Reading.{result_and_then}
use Rattle.plan_json.specs.Values.{whole, has}
use Rattle.plan_json.proofs.Back.{number_back}
use Rattle.plan_json.proofs.TextsBack.{texts_are_read_back}
use Rattle.plan_json.proofs.Writable.{deeper_written, whole_written, text_written, none_writable, more_writable, object_written}
use Rattle.plan_doc.specs.Written.{claim_data}
use Rattle.plan_doc.proofs.BackClaim.{up_to, claims_are_read_back}
use Rattle.plan_doc.proofs.WritableClaim.{claim_written}
use Rattle.desk_events.specs.declared.command.Command.{Command}
use Rattle.desk_events.specs.declared.command.Command.TheVariants.{Publish}
use Rattle.desk_events.specs.declared.fault.CommandFault.{CommandFault}
use Rattle.desk_events.specs.Commands.{publish_of}
use Rattle.desk_events.specs.Fault.{in_line}
use Rattle.desk_events.specs.Line.{command_in}
use Rattle.desk_events.specs.Ranges.{IsPublication}
use Rattle.desk_events.specs.Sent.{publish_data, ClaimsCanBeSent}

-- what is read of bytes whose data is an object
pub document_is : (bytes : List ℕ) (d : Data) (ms : Members) → data_of bytes ≡ Ok d → as_object d ≡ Some ms → document_of bytes ≡ Ok ms
document_is bytes d ms read object =
    let by : Result Data JsonFault → Result Members JsonFault = λ r. result_and_then (λ x. ok_or (as_object x) NotObject) r in
    ap by read ∙ ap (λ o. let r : Result Members JsonFault = ok_or o NotObject in r) object

-- the members of the line
abbrev sent : ℕ → Claim → Members
sent version claim =
    member (codes "claim") (claim_data claim) (member (codes "do") (string (codes "publish")) (member (codes "version") (whole version) no_members))

publication_is : (version : ℕ) (claim : Claim) → IsPublication version claim → publish_of (sent version claim) ≡ Ok (Publish version claim)
publication_is version claim is =
    rw (number_back 0 most_version key.Version version (up_to most_version version is.newest), claims_are_read_back claim is.what) refl

-- the object can be written
publication_written : (version : ℕ) (claim : Claim) → IsPublication version claim → IsWritten max_depth (publish_data version claim)
publication_written version claim is =
    let members = has (codes "claim") (claim_data claim) ∷ has (codes "do") (string (codes "publish")) ∷ has (codes "version") (whole version) ∷ [] in
    deeper_written 4 max_depth (publish_data version claim) (omega arith)
    (object_written 3 members
    (more_writable 3 _ _ _ refl (claim_written claim is.what)
    (more_writable 3 _ _ _ refl (text_written 3 (codes "publish") (IsUtf8-are_ascii _ refl))
    (more_writable 3 _ _ _ refl (whole_written 3 version (omega (arith, is.newest))) (none_writable 3)))))

pub claims_can_be_sent : ClaimsCanBeSent
claims_can_be_sent version claim is =
    let document = document_is (text_of (publish_data version claim)) (publish_data version claim) (sent version claim)
    (texts_are_read_back (publish_data version claim) (publication_written version claim is)) refl in
    ap (λ r. let c : Result Command CommandFault = result_and_then command_in (in_line r) in c) document
    ∙ ap (λ r. let c : Result Command CommandFault = in_line r in c) (publication_is version claim is)
