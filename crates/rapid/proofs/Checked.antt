-- A check of what stands after insertions says Yes.
use Rattle.std.proofs.Common.{◌≡◌, ◌≤◌, ◌+◌, ℕ, List, [], ◌∷◌, ◌++◌, length, All, pos, ◌≤ℤ◌, Option, Some, None, Result, Ok, Err, IfOk, refl, sym, ◌∙◌, ap}
use Rattle.std.proofs.Common.{subst, append_assoc, length-append, arith}
use Rattle.std.proofs.lemmas.Int.{ints}
use Rattle.std.proofs.lemmas.List.{append-nil}
use Rattle.std.proofs.lemmas.List.Elements.{All-head, All-tail, All-push}
use Rattle.serde_json.specs.Data.{Data, Members}
use Rattle.plan_base.specs.declared.claim.Claim.{Claim}
use Rattle.plan_base.specs.declared.parts.GroupPart.{GroupPart}
use Rattle.plan_base.specs.declared.parts.Parts.{Parts}
use Rattle.plan_base.specs.declared.fault.Counted.TheVariants.{Groups}
use Rattle.plan_base.specs.declared.fault.SnapshotFault.{SnapshotFault}
use Rattle.plan_base.specs.declared.verdict.Verdict.TheVariants.{Yes}
use Rattle.plan_base.specs.Starts.{value_of_plan}
use Rattle.plan_base.specs.Snapshot.{IsSnapshot, fault_of}
use Rattle.plan_base.specs.Verdict.{IsCertified}
use Rattle.plan_base.proofs.Duality.{duality}
use Rattle.plan_base.proofs.Orderly.{orderly}
use Rattle.plan_json.specs.declared.fault.JsonFault.{JsonFault}
use Rattle.plan_json.specs.declared.member.Member.TheVariants as key
use Rattle.plan_json.specs.Elements.{each_of}
use Rattle.plan_json.specs.Line.{line_of}
use Rattle.plan_json.specs.Object.{document_of, value_of, member_of, object_in}
use Rattle.plan_json.specs.Reading.{◌>>=◌}
use Rattle.plan_json.proofs.Ranges.{Gives, any, after}
use Rattle.plan_doc.specs.declared.fault.DocFault.{DocFault}
use Rattle.plan_doc.specs.declared.publication.Publication.{Publication}
use Rattle.plan_doc.specs.Check.{IsBounding, IsJudged}
use Rattle.plan_doc.specs.Claim.{claim_of}
use Rattle.plan_doc.specs.Fault.{in_document}
use Rattle.plan_doc.specs.Publication.{publication_of, publication_of_bytes}
use Rattle.plan_doc.specs.Written.{claim_data}
use Rattle.plan_doc.specs.Ranges.{IsClaim, AreUpTo, IsGroup, AreParts}
use Rattle.plan_doc.specs.Snapshot.{parts_of, unless_fault, snapshot_of, group_in}
use Rattle.plan_doc.proofs.BackClaim.{claims_are_read_back}
use Rattle.plan_doc.proofs.Certified.{certified_claims_are_in_range, exports_are_certified}
use Rattle.plan_doc.proofs.InRange.{groups_are_in_range, parts_in_ranges, snapshots_are_in_range}
use Rattle.rapid.specs.declared.document.RapidDocument.{RapidDocument}
use Rattle.rapid.specs.Standing.{Standing, opening}
use Rattle.rapid.specs.Insertion.{with_group, with_groups, InsertsEach}
use Rattle.rapid.specs.Refused.{refusal_of}
use Rattle.rapid.specs.Document.{rapid_document_of, rapid_document_of_bytes}
use Rattle.rapid.specs.Run.{WritesEach, IsOpen}
use Rattle.rapid.specs.Written.{inserted_data}
use Rattle.rapid.specs.Laws.{WritesInTurn, LinesHaveClaims, InsertionsAreChecked, ReadInsertionsAreChecked}
use Rattle.rapid.proofs.Inserting.{certified_each, snapshot_each}
use Rattle.rapid.proofs.Lines.{inserted_members, claim_there, insertion_read}
use Rattle.rapid.proofs.Ranged.{all_left, all_right}
use Rattle.rapid.proofs.Refusals.{accepted_faultless}
use Rattle.rapid.proofs.Standings.{yes_certified, certified_yes}

-- ---- what was read

-- a snapshot that a document allows
record IsAllowed (s : Parts) : Type 0 where
  snapshot : IsSnapshot s
  ranges : AreParts s

-- a snapshot and groups that a document allows
record AreAllowed (d : RapidDocument) : Type 0 where
  snapshot : IsAllowed d.publication.snapshot
  groups : AreUpTo 64 IsGroup d.groups

-- what holds of all that may be read holds of what was
if_read : {T E : Type 0} {P : T → Type 0} (r : Result T E) → ((x : T) → r ≡ Ok x → P x) → Gives r P
if_read (Ok x) h = record { ok = h x refl }
if_read (Err e) h = record { ok = tt }

as_document : {T : Type 0} {P : T → Type 0} {r : Result T JsonFault} → Gives r P → Gives (in_document r) P
as_document {r = Ok x} h = record { ok = h.ok }
as_document {r = Err e} h = record { ok = tt }

faultless_there : (found : Option SnapshotFault) (s : Parts) → fault_of s ≡ found → AreParts s → Gives (unless_fault found s) IsAllowed
faultless_there None s faultless are = record { ok = record { snapshot = record { ranges = parts_in_ranges s are; faultless = faultless }; ranges = are } }
faultless_there (Some fault) s found are = record { ok = tt }

snapshot_there : (ms : Members) → Gives (snapshot_of ms) IsAllowed
snapshot_there ms =
    after _ (as_document (if_read (parts_of ms) (λ s read. (snapshots_are_in_range ms s read).0))) (λ s are. faultless_there (fault_of s) s refl are)

publication_there : (ms : Members) → Gives (publication_of ms) (λ p. IsAllowed p.snapshot)
publication_there ms =
    after _ (any (in_document (member_of object_in ms key.Snapshot))) (λ inner _.
    after _ (snapshot_there inner) (λ s allowed.
    after _ (any (in_document (member_of object_in ms key.Claim))) (λ other _.
    after _ (any (in_document (claim_of other))) (λ claim _. record { ok = allowed }))))

document_there : (ms : Members) → Gives (rapid_document_of ms) AreAllowed
document_there ms =
    after _ (publication_there ms) (λ publication allowed.
    after _ (as_document (if_read (each_of group_in 1 64 ms key.Groups) (groups_are_in_range 1 64 ms))) (λ groups are.
    record { ok = record { snapshot = allowed; groups = are } }))

read_allowed : (bytes : List ℕ) (d : RapidDocument) → rapid_document_of_bytes bytes ≡ Ok d → AreAllowed d
read_allowed bytes d read =
    subst (λ r. IfOk r AreAllowed) read (after rapid_document_of (any (in_document (document_of bytes))) (λ ms _. document_there ms)).ok

-- ---- groups at its end

group_more : (s : Parts) (group : GroupPart) → IsAllowed s → IsGroup group → refusal_of s group ≡ None → IsAllowed (with_group s group)
group_more s group allowed is accepted =
    let ranges = allowed.ranges in
    let few : length s.groups ≤ 1024 = (orderly s allowed.snapshot).within Groups 0 0 (omega arith) in
    let count : length (s.groups ++ group ∷ []) ≡ length s.groups + 1 = length-append s.groups (group ∷ []) in
    let are : AreParts (with_group s group) = record {
      version = ranges.version;
      len = ranges.len;
      first = ranges.first;
      slices = ranges.slices;
      telescopes = ranges.telescopes;
      skies = ranges.skies;
      groups = record { count = omega arith; each = All-push IsGroup s.groups group ranges.groups.each is };
      quotas = ranges.quotas;
    } in
    record {
      snapshot = record { ranges = parts_in_ranges (with_group s group) are; faultless = accepted_faultless s group accepted };
      ranges = are;
    }

groups_more : (before after : Standing) (groups : List GroupPart) (text : List ℕ) → IsAllowed before.snapshot → All IsGroup groups
    → WritesEach before groups text after → IsAllowed after.snapshot
groups_more before after [] text allowed all w = subst (λ (b : Standing). IsAllowed b.snapshot) (sym w.1) allowed
groups_more before after (group ∷ groups) text allowed all w =
    groups_more w.2 after groups w.3
    (subst IsAllowed (sym w.4.snapshot) (group_more before.snapshot group allowed (All-head IsGroup group groups all) w.0))
    (All-tail IsGroup group groups all) w.5

-- what is written is of insertions
inserts : (before after : Standing) (groups : List GroupPart) (text : List ℕ) → WritesEach before groups text after → InsertsEach before groups after
inserts before after [] text w = w.1
inserts before after (group ∷ groups) text w = (w.1, w.2, w.4, inserts w.2 after groups w.3 w.5)

-- what is written of groups, in turn
pub writes_in_turn : WritesInTurn
writes_in_turn before after [] others text w = ([], text, before, (refl, refl), w, refl)
writes_in_turn before after (group ∷ done) others text w =
    let more = writes_in_turn w.2 after done others w.3 w.5 in
    let line : List ℕ = line_of (inserted_data w.2.claim w.2.displaced w.1) in (
      line ++ more.0,
      more.1,
      more.2,
      (w.0, w.1, w.2, more.0, w.4, more.3, refl),
      more.4,
      w.6 ∙ ap (λ (t : List ℕ). line ++ t) more.5 ∙ sym (append_assoc line more.0 more.1),
    )

-- ---- the last line

claim_allowed : (s : Standing) → IsAllowed s.snapshot → IsCertified s.snapshot s.claim → IsClaim s.claim
claim_allowed s allowed certified = certified_claims_are_in_range s.snapshot s.claim allowed.snapshot allowed.ranges certified

pub lines_have_claims : LinesHaveClaims
lines_have_claims bytes d done group others text after read is_open parted writes =
    let first : Standing = opening d.publication.snapshot d.publication.claim in
    let allowed = read_allowed bytes d read in
    let all : All IsGroup (done ++ group ∷ others) = subst (All IsGroup) parted allowed.groups.each in
    let (lines, rest, before, by_done, (accepted, answer, next, none, insertion, (empty, same), last), whole) =
    writes_in_turn first after done (group ∷ []) text writes in
    let before_allowed : IsAllowed before.snapshot =
    groups_more first before done lines allowed.snapshot (all_left IsGroup done (group ∷ others) all) by_done in
    let is_group : IsGroup group = All-head IsGroup group others (all_right IsGroup done (group ∷ others) all) in
    let next_allowed : IsAllowed next.snapshot =
    subst IsAllowed (sym insertion.snapshot) (group_more before.snapshot group before_allowed is_group accepted) in
    let certified : IsCertified before.snapshot before.claim =
    certified_each first before done (yes_certified d.publication.snapshot d.publication.claim _ _ is_open) (inserts first before done lines by_done) in
    let line : Data = inserted_data next.claim next.displaced answer in (
      lines,
      line,
      inserted_members next.claim next.displaced answer,
      whole ∙ ap (λ (t : List ℕ). lines ++ t) (last ∙ ap (λ (t : List ℕ). line_of line ++ t) empty ∙ append-nil (line_of line)),
      insertion_read next.snapshot before.claim insertion.request.request.0 answer next.claim next.displaced
          (claim_allowed before before_allowed certified) (claim_allowed next next_allowed insertion.certified) insertion.placing,
      subst (λ (s : Standing). value_of (inserted_members next.claim next.displaced answer) key.Claim ≡ Some (claim_data s.claim)) (sym same)
          (claim_there next.claim next.displaced answer),
    )

-- ---- the check

bounds_each : (s : Parts) (claim : Claim) → IsSnapshot s → IsCertified s claim
    → IsBounding (record { snapshot = s; claim = claim }) (Yes claim.value claim.bound)
bounds_each s claim is certified value bound same plan feasible =
    let below : pos (value_of_plan s plan) ≤ℤ pos claim.bound =
    duality s claim.prices.0 claim.quota_prices.0 plan (pos claim.bound) (orderly s is) feasible certified.bound in
    let bounds : claim.bound ≡ bound = cc in
    omega (arith, ints)

-- what stands after the first groups, for the snapshot with these at its end
record IsStanding (s : Parts) (claim : Claim) : Type 0 where
  allowed : IsAllowed s
  certified : IsCertified s claim

standing : (bytes : List ℕ) (d : RapidDocument) (done others : List GroupPart) (text : List ℕ) (after : Standing)
    → rapid_document_of_bytes bytes ≡ Ok d → IsOpen d → d.groups ≡ done ++ others
    → WritesEach (opening d.publication.snapshot d.publication.claim) done text after → IsStanding (with_groups d.publication.snapshot done) after.claim
standing bytes d done others text after read is_open parted writes =
    let before : Standing = opening d.publication.snapshot d.publication.claim in
    let allowed = read_allowed bytes d read in
    let each : InsertsEach before done after = inserts before after done text writes in
    let same : after.snapshot ≡ with_groups d.publication.snapshot done = snapshot_each before after done each in
    let all : All IsGroup done = all_left IsGroup done others (subst (All IsGroup) parted allowed.groups.each) in
    record {
      allowed = subst IsAllowed same (groups_more before after done text allowed.snapshot all writes);
      certified = subst (λ (x : Parts). IsCertified x after.claim) same
          (certified_each before after done (yes_certified d.publication.snapshot d.publication.claim _ _ is_open) each);
    }

-- bytes whose members are read as the two
judged : (s : Parts) (claim : Claim) (document : List ℕ) (ms : Members) → IsStanding s claim → document_of document ≡ Ok ms
    → publication_of ms ≡ Ok (record { snapshot = s; claim = claim })
    → (publication_of_bytes document ≡ Ok (record { snapshot = s; claim = claim })) × IsJudged document (Yes claim.value claim.bound)
judged s claim document ms is known told =
    let by : Result Members JsonFault → Result Publication DocFault = λ r. in_document r >>= publication_of in
    let found = ap by known ∙ told in (
      found,
      record {
        publication = record { snapshot = s; claim = claim };
        read = found;
        is_verdict = certified_yes s claim is.certified;
        bounding = bounds_each s claim is.allowed.snapshot is.certified;
      },
    )

pub insertions_are_checked : InsertionsAreChecked
insertions_are_checked bytes d done others text after read is_open parted writes document ms known has_snapshot has_claim =
    let s : Parts = with_groups d.publication.snapshot done in
    let is = standing bytes d done others text after read is_open parted writes in
    judged s after.claim document ms is known
    (exports_are_certified ms s after.claim is.allowed.snapshot is.allowed.ranges is.certified has_snapshot has_claim).0

pub read_insertions_are_checked : ReadInsertionsAreChecked
read_insertions_are_checked bytes d done others text after read is_open parted writes document ms inner known is_object is_snapshot has_claim =
    let s : Parts = with_groups d.publication.snapshot done in
    let is = standing bytes d done others text after read is_open parted writes in
    let in_range = certified_claims_are_in_range s after.claim is.allowed.snapshot is.allowed.ranges is.certified in
    judged s after.claim document ms is known (rw (is_object, is_snapshot, has_claim, claims_are_read_back after.claim in_range) refl)
