-- What is claimed of what is written of a document's groups.
use Rattle.std.specs.Prelude.{◌≡◌, ℕ, List, [], ◌∷◌, ◌++◌, Some, Ok}
use Rattle.serde_json.specs.Data.{Data, Members}
use Rattle.plan_base.specs.declared.parts.GroupPart.{GroupPart}
use Rattle.plan_base.specs.declared.verdict.Verdict.TheVariants.{Yes}
use Rattle.plan_json.specs.declared.member.Member.TheVariants as key
use Rattle.plan_json.specs.Line.{line_of}
use Rattle.plan_json.specs.Object.{document_of, value_of, member_of, object_in}
use Rattle.plan_doc.specs.Check.{IsJudged}
use Rattle.plan_doc.specs.Publication.{publication_of_bytes}
use Rattle.plan_doc.specs.Snapshot.{snapshot_of}
use Rattle.plan_doc.specs.Written.{claim_data, snapshot_data}
use Rattle.rapid.specs.declared.document.RapidDocument.{RapidDocument}
use Rattle.rapid.specs.Standing.{Standing, opening}
use Rattle.rapid.specs.Insertion.{with_groups}
use Rattle.rapid.specs.Document.{rapid_document_of_bytes}
use Rattle.rapid.specs.Run.{WritesEach, IsOpen}

-- what is written of groups is what is written of the first of them, however many, and then of the others from what stands by then
abbrev pub WritesInTurn : Type 0
WritesInTurn =
    (before after : Standing) (done others : List GroupPart) (text : List ℕ) → WritesEach before (done ++ others) text after
    → (lines rest : List ℕ) × (standing : Standing)
    × WritesEach before done lines standing × WritesEach standing others rest after × (text ≡ lines ++ rest)

-- Where the claim of a document that was read is certified and the first of its groups are inserted, one at least, what is written
-- ends with a line that is read as an object, whose member `claim` is the claim that then stands, as it is written.
abbrev pub LinesHaveClaims : Type 0
LinesHaveClaims =
    (bytes : List ℕ) (d : RapidDocument) (done : List GroupPart) (group : GroupPart) (others : List GroupPart) (text : List ℕ) (after : Standing)
    → rapid_document_of_bytes bytes ≡ Ok d → IsOpen d → d.groups ≡ done ++ group ∷ others
    → WritesEach (opening d.publication.snapshot d.publication.claim) (done ++ group ∷ []) text after
    → (lines : List ℕ) × (line : Data) × (ms : Members)
    × (text ≡ lines ++ line_of line) × (document_of (line_of line) ≡ Ok ms) × (value_of ms key.Claim ≡ Some (claim_data after.claim))

-- Where the claim of a document that was read is certified and the first of its groups are inserted, however many, each object whose
-- members `snapshot` and `claim` are those of the snapshot with these groups at its end and of the claim that then stands, as they are
-- written, is read as these two. The verdict on them is Yes, with the claim's value and its bound, which no feasible plan is worth
-- more than.
abbrev pub InsertionsAreChecked : Type 0
InsertionsAreChecked =
    (bytes : List ℕ) (d : RapidDocument) (done others : List GroupPart) (text : List ℕ) (after : Standing)
    → rapid_document_of_bytes bytes ≡ Ok d → IsOpen d → d.groups ≡ done ++ others
    → WritesEach (opening d.publication.snapshot d.publication.claim) done text after
    → (document : List ℕ) (ms : Members) → document_of document ≡ Ok ms
    → value_of ms key.Snapshot ≡ Some (snapshot_data (with_groups d.publication.snapshot done)) → value_of ms key.Claim ≡ Some (claim_data after.claim)
    → (publication_of_bytes document ≡ Ok (record { snapshot = with_groups d.publication.snapshot done; claim = after.claim }))
    × IsJudged document (Yes after.claim.value after.claim.bound)

-- So it is with each object whose member `snapshot` is read as that snapshot, however it is written.
abbrev pub ReadInsertionsAreChecked : Type 0
ReadInsertionsAreChecked =
    (bytes : List ℕ) (d : RapidDocument) (done others : List GroupPart) (text : List ℕ) (after : Standing)
    → rapid_document_of_bytes bytes ≡ Ok d → IsOpen d → d.groups ≡ done ++ others
    → WritesEach (opening d.publication.snapshot d.publication.claim) done text after
    → (document : List ℕ) (ms inner : Members) → document_of document ≡ Ok ms
    → member_of object_in ms key.Snapshot ≡ Ok inner → snapshot_of inner ≡ Ok (with_groups d.publication.snapshot done)
    → value_of ms key.Claim ≡ Some (claim_data after.claim)
    → (publication_of_bytes document ≡ Ok (record { snapshot = with_groups d.publication.snapshot done; claim = after.claim }))
    × IsJudged document (Yes after.claim.value after.claim.bound)
