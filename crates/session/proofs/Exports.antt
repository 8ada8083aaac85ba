-- A check of the text of an export says Yes.
use Rattle.std.proofs.Common.{◌≡◌, ◌≤◌, ℕ, List, Some, None, Result, Ok, refl, sym, subst}
use Rattle.serde_json.specs.Data.{Data, Members}
use Rattle.serde_json.specs.Find.{as_object}
use Rattle.plan_base.specs.declared.claim.Claim.{Claim}
use Rattle.plan_base.specs.declared.parts.Parts.{Parts}
use Rattle.plan_base.specs.declared.verdict.Verdict.TheVariants.{Yes}
use Rattle.plan_base.specs.Starts.{value_of_plan}
use Rattle.plan_base.proofs.Orderly.{orderly}
use Rattle.plan_json.specs.declared.fault.JsonFault.{JsonFault}
use Rattle.plan_json.specs.declared.member.Member.TheVariants as key
use Rattle.plan_json.specs.Object.{document_of, value_of}
use Rattle.plan_json.specs.Reading.{◌>>=◌}
use Rattle.plan_doc.specs.declared.fault.DocFault.{DocFault}
use Rattle.plan_doc.specs.declared.publication.Publication.{Publication}
use Rattle.plan_doc.specs.Fault.{in_document}
use Rattle.plan_doc.specs.Publication.{publication_of, publication_of_bytes}
use Rattle.plan_doc.specs.Written.{claim_data, snapshot_data}
use Rattle.plan_doc.proofs.BackSnapshot.{publications_are_read_back}
use Rattle.plan_doc.proofs.Certified.{certified_claims_are_in_range}
use Rattle.desk_events.specs.declared.entry.EventEntry.{EventEntry}
use Rattle.desk_events.specs.declared.reply.Reply.{Reply}
use Rattle.desk_events.specs.declared.reply.Reply.TheVariants.{Exported}
use Rattle.desk_events.specs.Entry.{data_with, data_of_reply, data_of_entry, text_of_entry}
use Rattle.desk_events.proofs.Sent.{document_is}
use Rattle.plan_json.proofs.LinesBack.{lines_are_read_back}
use Rattle.desk_core.specs.Publication.{IsCheckable}
use Rattle.desk_book.specs.Claims.{IsBoundedClaim}
use Rattle.desk_book.proofs.Stepping.{bounded_claim}
use Rattle.session.specs.Laws.{ExportsAreChecked}

-- the members of the object of an export
record HasPublication (d : Data) (c : Claim) (parts : Parts) : Type 0 where
  members : Members
  object : as_object d ≡ Some members
  snapshot : value_of members key.Snapshot ≡ Some (snapshot_data parts)
  claim : value_of members key.Claim ≡ Some (claim_data c)

exported : (e : EventEntry) (c : Claim) (parts : Parts) → HasPublication (data_of_reply e (Exported c parts)) c parts
unfolding data_with
exported e c parts = record { members = _; object = refl; snapshot = refl; claim = refl }

publication_is : (bytes : List ℕ) (ms : Members) (p : Publication) → document_of bytes ≡ Ok ms → publication_of ms ≡ Ok p → publication_of_bytes bytes ≡ Ok p
publication_is bytes ms p document publication =
    subst (λ (r : Result Members JsonFault). (let read : Result Publication DocFault = in_document r >>= publication_of in read) ≡ Ok p)
    (sym document) publication

pub exports_are_checked : ExportsAreChecked
exports_are_checked scripts history before after e c parts sound is reply writable =
    let bytes : List ℕ = text_of_entry e in
    let checkable : IsCheckable parts c = (sound.bounded before after e is).exported c parts reply in
    let has : HasPublication (data_of_entry e) c parts = subst (λ (r : Reply). HasPublication (data_of_reply e r) c parts) (sym reply) (exported e c parts) in
    let in_range = certified_claims_are_in_range parts c checkable.snapshot checkable.ranges checkable.certified in
    let p : Publication = record { snapshot = parts; claim = c } in
    let bounded : IsBoundedClaim parts c = bounded_claim parts c (orderly parts checkable.snapshot) checkable.certified in
    let read : publication_of_bytes bytes ≡ Ok p =
    publication_is bytes has.members p (document_is bytes (data_of_entry e) has.members (lines_are_read_back (data_of_entry e) writable) has.object)
    (publications_are_read_back has.members parts c checkable.snapshot checkable.ranges in_range has.snapshot has.claim) in (
      read,
      record {
        publication = p;
        read = read;
        is_verdict = (None, checkable.certified, refl);
        bounding = λ value bound same plan feasible.
            let bounds : c.bound ≡ bound = bound_of value bound same in
            subst (λ (b : ℕ). value_of_plan parts plan ≤ b) bounds (bounded.greatest plan feasible);
      },
    )
  where
    bound_of : (value bound : ℕ) → Yes c.value c.bound ≡ Yes value bound → c.bound ≡ bound
    bound_of value bound same = cc
