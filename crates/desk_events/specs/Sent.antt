-- The line that sends a claim.
use Rattle.std.specs.Prelude.{◌≡◌, ℕ, codes, Ok}
use Rattle.serde_json.specs.Data.{Data, string, object, no_members, member}
use Rattle.plan_base.specs.declared.claim.Claim.{Claim}
use Rattle.plan_json.specs.Adds.{text_of}
use Rattle.plan_json.specs.Values.{whole}
use Rattle.plan_doc.specs.Written.{claim_data}
use Rattle.desk_events.specs.declared.command.Command.TheVariants.{Publish}
use Rattle.desk_events.specs.Ranges.{IsPublication}
use Rattle.desk_events.specs.Line.{command_of_bytes}

-- the object of a `publish` line, its members in byte order of their names
abbrev pub publish_data : ℕ → Claim → Data
publish_data version claim =
    object (member (codes "claim") (claim_data claim)
    (member (codes "do") (string (codes "publish"))
    (member (codes "version") (whole version) no_members)))

-- the text of that object, where version and claim are in their ranges, is read as the command that publishes the claim for the version
abbrev pub ClaimsCanBeSent : Type 0
ClaimsCanBeSent =
    (version : ℕ) (claim : Claim) → IsPublication version claim → command_of_bytes (text_of (publish_data version claim)) ≡ Ok (Publish version claim)
