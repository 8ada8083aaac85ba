-- A snapshot that is written is read again.
use Rattle.std.proofs.Common.{◌≡◌, ◌^◌, ℕ, ◌≤◌, List, [], ◌∷◌, Bool, true, false, cond, nat_lt, Option, Some, None, option_map, Ok, refl, ap, arith}
use Rattle.std.proofs.lemmas.Bool.{ltb-false}
use Rattle.serde_json.specs.Data.{string, Members}
use Rattle.plan_base.specs.declared.number.TelescopeNo.{TelescopeNo}
use Rattle.plan_base.specs.declared.number.TargetNo.{TargetNo}
use Rattle.plan_base.specs.declared.span.Span.{Span}
use Rattle.plan_base.specs.declared.parts.Op.{Op}
use Rattle.plan_base.specs.declared.parts.Op.TheVariants.{Single, Many, OneOf, And}
use Rattle.plan_base.specs.declared.parts.TelescopePart.{TelescopePart}
use Rattle.plan_base.specs.declared.parts.Sky.{Sky}
use Rattle.plan_base.specs.declared.parts.RequestPart.{RequestPart}
use Rattle.plan_base.specs.declared.parts.GroupPart.{GroupPart}
use Rattle.plan_base.specs.declared.parts.Parts.{Parts}
use Rattle.plan_base.specs.Limits.{most_moment, most_seconds, most_value, most_slices}
use Rattle.plan_json.specs.declared.member.Member.{Member}
use Rattle.plan_json.specs.declared.member.Member.TheVariants as key
use Rattle.plan_json.specs.Object.{data_of, value_of, or_default}
use Rattle.plan_json.specs.Operator.{operator_name, operator_in}
use Rattle.plan_json.specs.Whole.{number_in}
use Rattle.plan_json.specs.Values.{whole, list_of, given, given_if, in_byte_order, those_there}
use Rattle.plan_json.proofs.Back.{number_back}
use Rattle.plan_doc.specs.Limits.{most_items}
use Rattle.plan_doc.specs.Snapshot.{span_in, telescope_number_in, target_number_in, telescope_in, sky_in, request_in, group_in, parts_of}
use Rattle.plan_doc.specs.Written.{span_data, telescope_number_data, target_number_data, telescope_data, sky_data, request_data, group_data}
use Rattle.plan_doc.specs.Written.{snapshot_members, snapshot_data, snapshot_of_bytes, claim_data, claim_of_bytes}
use Rattle.plan_doc.specs.Ranges.{IsClaim, HasMoments, IsTelescope, IsSky, IsRequest, IsGroup, AreParts}
use Rattle.plan_doc.specs.Laws.{SnapshotsAreReadBack, PublicationsAreReadBack}
use Rattle.plan_base.specs.Snapshot.{IsSnapshot}
use Rattle.plan_base.specs.declared.claim.Claim.{Claim}
use Rattle.plan_doc.proofs.BackClaim.{up_to, list_of_back, claims_are_read_back}

span_back : (m : Member) (w : Span) → HasMoments w → span_in m (span_data w) ≡ Ok w
span_back m w h =
    rw (
      number_back 0 most_moment m w.from.0 (up_to most_moment w.from.0 h.first),
      number_back 0 most_moment m w.to.0 (up_to most_moment w.to.0 h.last),
    ) refl

telescope_number_back : (m : Member) (t : TelescopeNo) → t.0 ≤ 65535 → telescope_number_in m (telescope_number_data t) ≡ Ok t
telescope_number_back m t h = rw (number_back 0 65535 m t.0 (up_to 65535 t.0 h)) refl

target_number_back : (m : Member) (t : TargetNo) → t.0 ≤ 65535 → target_number_in m (target_number_data t) ≡ Ok t
target_number_back m t h = rw (number_back 0 65535 m t.0 (up_to 65535 t.0 h)) refl

telescope_back : (m : Member) (t : TelescopePart) → IsTelescope t → telescope_in m (telescope_data t) ≡ Ok t
telescope_back m t h =
    let ms = those_there (in_byte_order (given key.Site (whole t.site.0) ∷ given key.Usable (list_of span_data t.usable) ∷ [])) in
    rw (
      number_back 0 65535 key.Site t.site.0 (up_to 65535 t.site.0 h.site),
      list_of_back HasMoments span_data span_in span_back 0 most_items ms key.Usable t.usable refl (omega arith) h.usable,
    ) refl

sky_back : (m : Member) (y : Sky) → IsSky y → sky_in m (sky_data y) ≡ Ok y
sky_back m y h =
    let ms = those_there (in_byte_order
    (given key.Target (whole y.target.0) ∷ given key.Site (whole y.site.0) ∷ given key.Spans (list_of span_data y.spans) ∷ [])) in
    rw (
      number_back 0 65535 key.Target y.target.0 (up_to 65535 y.target.0 h.target),
      number_back 0 65535 key.Site y.site.0 (up_to 65535 y.site.0 h.site),
      list_of_back HasMoments span_data span_in span_back 0 most_items ms key.Spans y.spans refl (omega arith) h.spans,
    ) refl

fade_back : (ms : Members) (fade : ℕ) (b : Bool) → nat_lt 0 fade ≡ b → value_of ms key.Fade ≡ option_map whole (cond b (Some fade) None) → fade ≤ 1000
    → or_default 0 (number_in 0 1000) ms key.Fade ≡ Ok fade
fade_back ms fade true above found h = rw (found, number_back 0 1000 key.Fade fade (up_to 1000 fade h)) refl
fade_back ms fade false above found h =
    let none : 0 ≡ fade = omega (arith, ltb-false 0 fade above) in
    rw found (ap Ok none)

-- the members of a request, where b tells whether a fade is written
abbrev request_members : RequestPart → Bool → Members
request_members q b =
    those_there (in_byte_order
    (given key.Request (whole q.request.0) ∷ given key.Seconds (whole q.seconds) ∷ given key.Value (whole q.value)
    ∷ given key.Telescopes (list_of telescope_number_data q.telescopes) ∷ given key.Targets (list_of target_number_data q.targets)
    ∷ given key.Windows (list_of span_data q.windows) ∷ given_if key.Fade (option_map whole (cond b (Some q.fade) None)) ∷ []))

-- what is found of them
record AreFound (q : RequestPart) (b : Bool) (ms : Members) : Type 0 where
  request : value_of ms key.Request ≡ Some (whole q.request.0)
  seconds : value_of ms key.Seconds ≡ Some (whole q.seconds)
  value : value_of ms key.Value ≡ Some (whole q.value)
  telescopes : value_of ms key.Telescopes ≡ Some (list_of telescope_number_data q.telescopes)
  targets : value_of ms key.Targets ≡ Some (list_of target_number_data q.targets)
  windows : value_of ms key.Windows ≡ Some (list_of span_data q.windows)
  fade : value_of ms key.Fade ≡ option_map whole (cond b (Some q.fade) None)

are_found : (q : RequestPart) (b : Bool) → AreFound q b (request_members q b)
are_found q true = record { request = refl; seconds = refl; value = refl; telescopes = refl; targets = refl; windows = refl; fade = refl }
are_found q false = record { request = refl; seconds = refl; value = refl; telescopes = refl; targets = refl; windows = refl; fade = refl }

request_back : (m : Member) (q : RequestPart) → IsRequest q → request_in m (request_data q) ≡ Ok q
request_back m q h =
    let above = nat_lt 0 q.fade in
    let ms = request_members q above in
    let found = are_found q above in
    rw (
      found.request,
      number_back 0 4294967295 key.Request q.request.0 (up_to 4294967295 q.request.0 h.request),
      found.seconds,
      number_back 1 most_seconds key.Seconds q.seconds h.seconds,
      found.value,
      number_back 1 most_value key.Value q.value h.value,
      list_of_back (λ (t : TelescopeNo). t.0 ≤ 65535) telescope_number_data telescope_number_in telescope_number_back 0 most_items ms key.Telescopes
          q.telescopes found.telescopes
          (omega arith) h.telescopes,
      list_of_back (λ (t : TargetNo). t.0 ≤ 65535) target_number_data target_number_in target_number_back 0 most_items ms key.Targets q.targets
          found.targets (omega arith) h.targets,
      list_of_back HasMoments span_data span_in span_back 0 most_items ms key.Windows q.windows found.windows (omega arith) h.windows,
      fade_back ms q.fade above refl found.fade h.fade,
    ) refl

operator_back : (m : Member) (op : Op) → operator_in m (string (operator_name op)) ≡ Ok op
operator_back m Single = refl
operator_back m Many = refl
operator_back m OneOf = refl
operator_back m And = refl

-- the group of these parts
abbrev group_made : ℕ → Op → List RequestPart → Option ℕ → GroupPart
group_made n op qs quota = record { group = record { 0 = n }; op = op; requests = qs; quota = quota }

group_back_by : (m : Member) (n : ℕ) (op : Op) (qs : List RequestPart) (quota : Option ℕ) → IsGroup (group_made n op qs quota)
    → group_in m (group_data (group_made n op qs quota)) ≡ Ok (group_made n op qs quota)
group_back_by m n op qs None h =
    let ms = those_there (in_byte_order
    (given key.Group (whole n) ∷ given key.Operator (string (operator_name op)) ∷ given key.Requests (list_of request_data qs)
    ∷ given_if key.Quota None ∷ [])) in
    rw (
      number_back 0 4294967295 key.Group n (up_to 4294967295 n h.group),
      operator_back key.Operator op,
      list_of_back IsRequest request_data request_in request_back 0 most_items ms key.Requests qs refl (omega arith) h.requests,
    ) refl
group_back_by m n op qs (Some place) h =
    let ms = those_there (in_byte_order
    (given key.Group (whole n) ∷ given key.Operator (string (operator_name op)) ∷ given key.Requests (list_of request_data qs)
    ∷ given_if key.Quota (Some (whole place)) ∷ [])) in
    rw (
      number_back 0 4294967295 key.Group n (up_to 4294967295 n h.group),
      operator_back key.Operator op,
      list_of_back IsRequest request_data request_in request_back 0 most_items ms key.Requests qs refl (omega arith) h.requests,
      number_back 0 65535 key.Quota place (up_to 65535 place h.quota),
    ) refl

group_back : (m : Member) (x : GroupPart) → IsGroup x → group_in m (group_data x) ≡ Ok x
group_back m x h = group_back_by m x.group.0 x.op x.requests x.quota h

quota_back : (m : Member) (q : ℕ) → q ≤ 10 ^ 12 → number_in 0 (10 ^ 12) m (whole q) ≡ Ok q
quota_back m q h = number_back 0 (10 ^ 12) m q (up_to (10 ^ 12) q h)

-- the parts with these quotas
abbrev with_quotas : Parts → List ℕ → Parts
with_quotas s us = record s { quotas = us }

parts_back_by : (s : Parts) (us : List ℕ) → AreParts (with_quotas s us)
    → parts_of (those_there (in_byte_order (snapshot_members (with_quotas s us)))) ≡ Ok (with_quotas s us)
parts_back_by s [] h =
    let ms = those_there (in_byte_order (snapshot_members (with_quotas s []))) in
    rw (
      number_back 0 524288 key.Version s.version (up_to 524288 s.version h.version),
      number_back 60 3600 key.Len s.len h.len,
      number_back 0 4223371680 key.First s.first.0 (up_to 4223371680 s.first.0 h.first),
      number_back 1 most_slices key.Slices s.slices h.slices,
      list_of_back IsTelescope telescope_data telescope_in telescope_back 0 most_items ms key.Telescopes s.telescopes refl (omega arith) h.telescopes,
      list_of_back IsSky sky_data sky_in sky_back 0 most_items ms key.Skies s.skies refl (omega arith) h.skies,
      list_of_back IsGroup group_data group_in group_back 0 most_items ms key.Groups s.groups refl (omega arith) h.groups,
    ) refl
parts_back_by s (u ∷ us) h =
    let ms = those_there (in_byte_order (snapshot_members (with_quotas s (u ∷ us)))) in
    rw (
      number_back 0 524288 key.Version s.version (up_to 524288 s.version h.version),
      number_back 60 3600 key.Len s.len h.len,
      number_back 0 4223371680 key.First s.first.0 (up_to 4223371680 s.first.0 h.first),
      number_back 1 most_slices key.Slices s.slices h.slices,
      list_of_back IsTelescope telescope_data telescope_in telescope_back 0 most_items ms key.Telescopes s.telescopes refl (omega arith) h.telescopes,
      list_of_back IsSky sky_data sky_in sky_back 0 most_items ms key.Skies s.skies refl (omega arith) h.skies,
      list_of_back IsGroup group_data group_in group_back 0 most_items ms key.Groups s.groups refl (omega arith) h.groups,
      list_of_back (λ q. q ≤ 10 ^ 12) whole (number_in 0 (10 ^ 12)) quota_back 0 most_items ms key.Quotas (u ∷ us) refl (omega arith) h.quotas,
    ) refl

parts_back : (s : Parts) → AreParts s → parts_of (those_there (in_byte_order (snapshot_members s))) ≡ Ok s
parts_back s h = parts_back_by s s.quotas h

pub snapshots_are_read_back : SnapshotsAreReadBack
snapshots_are_read_back s is h = rw (parts_back s h, is.faultless) refl

-- bytes that are the document of a snapshot, or of a claim
pub snapshot_bytes_back : (bytes : List ℕ) (s : Parts) → data_of bytes ≡ Ok (snapshot_data s) → IsSnapshot s → AreParts s → snapshot_of_bytes bytes ≡ Ok s
snapshot_bytes_back bytes s read is h = rw (read, snapshots_are_read_back s is h) refl

pub claim_bytes_back : (bytes : List ℕ) (c : Claim) → data_of bytes ≡ Ok (claim_data c) → IsClaim c → claim_of_bytes bytes ≡ Ok c
claim_bytes_back bytes c read h = rw (read, claims_are_read_back c h) refl

pub publications_are_read_back : PublicationsAreReadBack
publications_are_read_back ms s c is h are has_snapshot has_claim =
    rw (has_snapshot, snapshots_are_read_back s is h, has_claim, claims_are_read_back c are) refl
