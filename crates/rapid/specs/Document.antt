-- A publication with groups to insert, as one document.
use Rattle.std.specs.Prelude.{ℕ, List, Result, Ok}
use Rattle.serde_json.specs.Data.{Members}
use Rattle.plan_json.specs.declared.member.Member.TheVariants as key
use Rattle.plan_json.specs.Object.{document_of}
use Rattle.plan_json.specs.Reading.{◌>>=◌}
use Rattle.plan_doc.specs.declared.fault.DocFault.{DocFault}
use Rattle.plan_doc.specs.Fault.{in_document}
use Rattle.plan_json.specs.Elements.{each_of}
use Rattle.plan_doc.specs.Publication.{publication_of}
use Rattle.plan_doc.specs.Snapshot.{group_in}
use Rattle.rapid.specs.declared.document.RapidDocument.{RapidDocument}

-- the most groups that a document has to insert
abbrev pub most_groups : ℕ
most_groups = 64

-- `snapshot`, `claim`, `groups`
abbrev pub rapid_document_of : Members → Result RapidDocument DocFault
rapid_document_of ms =
    publication_of ms >>= λ publication.
    in_document (each_of group_in 1 most_groups ms key.Groups) >>= λ groups.
    Ok (record { publication = publication; groups = groups })

-- the document that the bytes are
abbrev pub rapid_document_of_bytes : List ℕ → Result RapidDocument DocFault
rapid_document_of_bytes bytes = in_document (document_of bytes) >>= rapid_document_of
