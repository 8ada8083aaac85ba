-- A snapshot with a claim on it, as one document.
use Rattle.std.specs.Prelude.{ℕ, List, Result, Ok}
use Rattle.serde_json.specs.Data.{Members}
use Rattle.plan_json.specs.declared.member.Member.TheVariants as key
use Rattle.plan_json.specs.Object.{member_of, object_in, document_of}
use Rattle.plan_json.specs.Reading.{◌>>=◌}
use Rattle.plan_doc.specs.declared.fault.DocFault.{DocFault}
use Rattle.plan_doc.specs.declared.publication.Publication.{Publication}
use Rattle.plan_doc.specs.Fault.{in_document}
use Rattle.plan_doc.specs.Claim.{claim_of}
use Rattle.plan_doc.specs.Snapshot.{snapshot_of}

-- `snapshot`, `claim`
abbrev pub publication_of : Members → Result Publication DocFault
publication_of ms =
    in_document (member_of object_in ms key.Snapshot) >>= λ inner.
    snapshot_of inner >>= λ snapshot.
    in_document (member_of object_in ms key.Claim) >>= λ other.
    in_document (claim_of other) >>= λ claim.
    Ok (record { snapshot = snapshot; claim = claim })

-- the publication that the bytes are
abbrev pub publication_of_bytes : List ℕ → Result Publication DocFault
publication_of_bytes bytes = in_document (document_of bytes) >>= publication_of
