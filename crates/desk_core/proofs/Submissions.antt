-- What has to be so before a new group is booked, and what is decided where the ledger refuses it.
use Rattle.std.proofs.Common.{◌≡◌, ◌≢◌, ◌∙◌, ap, sym, subst, refl, ℕ, zero, suc, ◌+◌, ◌-◌, ◌*◌, ◌/◌, ◌%◌, ◌<◌, ◌≤◌, ◌^◌, min, nat_lt, Bool, true}
use Rattle.std.proofs.Common.{false, cond, List, [], ◌∷◌, length, map, All, get_or, Some, None, Ok, Err, arith}
use Rattle.std.specs.List.{AllZip, zip}
use Rattle.std.specs.Option.{option_or}
use Rattle.std.specs.Prelude.{option_and_then}
use Rattle.std.specs.Int.{div_ceil}
use Rattle.std.proofs.lemmas.Bool.{ltb-true}
use Rattle.std.proofs.lemmas.Grind.{div_ceil_times}
use Rattle.std.proofs.lemmas.List.{length-append}
use Rattle.std.proofs.lemmas.List.Elements.{All-nil, All-cons, All-head, All-tail}
use Rattle.plan_base.specs.declared.number.GroupNo.{GroupNo}
use Rattle.request_model.specs.Ranges.{IsGroup}
use Rattle.request_model.specs.declared.group.GroupDoc.{GroupDoc}
use Rattle.allocations.specs.declared.fault.LedgerFault.{LedgerFault}
use Rattle.allocations.specs.declared.fault.LedgerFault.TheVariants as ledger
use Rattle.allocations.specs.declared.entry.Hold.{Hold}
use Rattle.allocations.specs.Books.{GroupHolds, total_seconds}
use Rattle.allocations.specs.Ledger.{seconds_of_holds, IsHoldList, IsFree}
use Rattle.allocations.specs.Refusals.{proposal_of, refusal_of}
use Rattle.desk_runs.specs.declared.group.Group.{Group}
use Rattle.desk_runs.specs.Numbers.{requests_of}
use Rattle.desk_runs.specs.Adding.{requests_from}
use Rattle.desk_runs.specs.Owners.{pending_count}
use Rattle.desk_runs.proofs.Places.{number_at}
use Rattle.desk_events.specs.Fault.{of_accounts}
use Rattle.desk_events.specs.declared.fault.CommandFault.{CommandFault}
use Rattle.desk_events.specs.declared.fault.CommandFault.TheVariants.{Refused, NoMemory}
use Rattle.desk_events.specs.declared.refusal.FullOf.TheVariants.{Requests, Targets}
use Rattle.desk_events.specs.declared.refusal.Refusal.{Refusal}
use Rattle.desk_events.specs.declared.refusal.Refusal.TheVariants.{Full}
use Rattle.desk_core.specs.declared.desk.Submitted.{Submitted}
use Rattle.desk_core.specs.declared.desk.Wanted.{Wanted}
use Rattle.desk_core.specs.Desk.{DeskSeen, Decides}
use Rattle.desk_core.specs.Kept.{IsAlong, IsHeldFor, IsRoomy, IsDesk}
use Rattle.desk_core.specs.Refusals.{refusal_in, refusal_of_ledger}
use Rattle.desk_core.specs.Holds.{needs_of, ipp_charge}
use Rattle.desk_core.specs.Asking.{MadeSeen}
use Rattle.desk_core.specs.Making.{AreMade}
use Rattle.desk_core.specs.Submitting.{targets_with, wanted_of, wanted_for, asks_of, op_of, group_of, holds_for, charge_for, submission_refusal, on_made}
use Rattle.desk_core.proofs.Needs.{small_needs}
use Rattle.desk_core.proofs.Held.{holds_at_most, is_hold_list, proposal_held}
use Rattle.desk_core.proofs.Drafts.{few_of, added_count, added_short}

-- ---- few requests

-- a desk of few groups has few requests
pub few_in : (targets : ℕ) (ws : List Submitted) (gs : List Group) → AllZip (IsAlong targets) ws gs → length (requests_of gs) ≤ 256 * length gs
few_in targets [] [] h = omega arith
few_in targets [] (g ∷ gs) h = absurd h
few_in targets (w ∷ ws) [] h = absurd h
few_in targets (w ∷ ws) (g ∷ gs) h =
    let one = few_of g.op (length g.requests) h.0.shape.high in
    let rest = few_in targets ws gs h.1 in
    let count = length-append g.requests (requests_of gs) in
    omega (arith, one, rest, count)

-- ---- what is held and charged

-- new requests need something
pub some_needs : (document : GroupDoc) (n : ℕ) (f : MadeSeen → Wanted) (made : List MadeSeen) → 1 ≤ length made
    → 1 ≤ length (needs_of document (zip (requests_from n (asks_of made)) (map f made)))
some_needs document n f [] some = absurd (omega arith)
some_needs document n f (m ∷ ms) some = omega arith

-- no more is charged than is held
pub charge_at_most : (ipp : ℕ) (holds : List Hold) → ipp ≤ 2000 → ipp_charge ipp holds ≤ seconds_of_holds holds
charge_at_most ipp holds h = by (nat_lt 1000 ipp)
  where
    product : (a s : ℕ) → a ≤ 1000 → a * s ≤ 1000 * s
    product a zero h = omega arith
    product a (suc s) h = let rest = product a s h in omega (arith, rest)

    by : (b : Bool) → cond b (div_ceil ((ipp - 1000) * seconds_of_holds holds) 1000) 0 ≤ seconds_of_holds holds
    by false = omega arith
    by true =
        let s = seconds_of_holds holds in
        let most = product (ipp - 1000) s (omega arith) in
        let bounds = div_ceil_times ((ipp - 1000) * s) 1000 (omega arith) in
        let above : (((ipp - 1000) * s) / 1000 + min 1 (((ipp - 1000) * s) % 1000)) * 1000 < (ipp - 1000) * s + 1000 = bounds.1 in
        omega (arith, most, above)

-- so both are small
pub small_holds : (d : DeskSeen) (document : GroupDoc) (made : List MadeSeen) → AreMade d.progress.moment document made
    → seconds_of_holds (holds_for d document made) ≤ 22118400
small_holds d document made h =
    let group : Group = group_of d document made in
    let few = few_of (op_of document made) (length made) h.shape.high in
    let count : length group.requests ≡ length made = added_count (op_of document made) made d.progress in
    let small = small_needs document group.requests (wanted_for d document made) (omega (arith, few, count))
    (added_short (op_of document made) d.progress.moment made d.progress h.each) in
    let most = holds_at_most (op_of document made) (needs_of document (zip group.requests (wanted_for d document made))) in
    omega (arith, small, most)

pub books_room : (d : DeskSeen) (document : GroupDoc) (made : List MadeSeen) → IsGroup document → AreMade d.progress.moment document made
    → IsRoomy d.books → total_seconds d.books + seconds_of_holds (holds_for d document made) + charge_for d document made ≤ 10 ^ 18
books_room d document made g h room =
    let small = small_holds d document made h in
    let charge = charge_at_most document.ipp (holds_for d document made) g.share.high in
    omega (arith, small, charge, room)

pub is_booked : (d : DeskSeen) (document : GroupDoc) (made : List MadeSeen) → AreMade d.progress.moment document made → IsHoldList (holds_for d document made)
is_booked d document made h =
    is_hold_list (op_of document made) document (zip (group_of d document made).requests (wanted_for d document made))
    (some_needs document (length (requests_of d.progress.groups) + 1) (wanted_of (targets_with d document) document) made h.shape.low)

pub booked_proposal : (d : DeskSeen) (document : GroupDoc) (made : List MadeSeen) → AreMade d.progress.moment document made
    → proposal_of (holds_for d document made) ≡ document.proposal
booked_proposal d document made h =
    proposal_held (op_of document made) document (zip (group_of d document made).requests (wanted_for d document made))
    (some_needs document (length (requests_of d.progress.groups) + 1) (wanted_of (targets_with d document) document) made h.shape.low)

-- ---- the next group holds nothing yet

all_low : (n : ℕ) (ws : List Submitted) (gs : List Group) (es : List GroupHolds) → AllZip IsHeldFor (zip ws gs) es → All (λ g. g.number.0 ≤ n) gs
    → All (λ e. e.group.0 ≤ n) es
all_low n [] gs [] h low = All-nil (λ e. e.group.0 ≤ n)
all_low n [] gs (e ∷ es) h low = absurd h
all_low n (w ∷ ws) [] [] h low = All-nil (λ e. e.group.0 ≤ n)
all_low n (w ∷ ws) [] (e ∷ es) h low = absurd h
all_low n (w ∷ ws) (g ∷ gs) [] h low = absurd h
all_low n (w ∷ ws) (g ∷ gs) (e ∷ es) h low =
    All-cons (λ e. e.group.0 ≤ n) e es (subst (λ (k : GroupNo). k.0 ≤ n) (sym h.0.group) (All-head (λ g. g.number.0 ≤ n) g gs low))
    (all_low n ws gs es h.1 (All-tail (λ g. g.number.0 ≤ n) g gs low))

pub groups_low : (d : DeskSeen) → IsDesk d → All (λ e. e.group.0 ≤ length d.progress.groups) d.books.holds
groups_low d h =
    let low : All (λ g. g.number.0 ≤ length d.progress.groups) d.progress.groups = λ k g m. let at =
    number_at d.progress.groups k g h.sound.numbered.groups m in omega (arith, at) in
    all_low (length d.progress.groups) d.groups d.progress.groups d.books.holds h.held low

pub is_free : (d : DeskSeen) (n : GroupNo) → IsDesk d → n.0 ≡ length d.progress.groups + 1 → IsFree n d.books.holds
is_free d n h e = λ i x l same.
    let here = groups_low d h i x l in
    let number : (get_or d.books.holds i x).group.0 ≡ n.0 = ap (λ (k : GroupNo). k.0) same in
    absurd (omega (arith, here, number, e))

-- ---- refused by the ledger

-- what is refused, where neither requests nor targets are too many
pub only_ledger : (d : DeskSeen) (document : GroupDoc) (made : List MadeSeen) → nat_lt 1024 (pending_count d.progress.groups + length made) ≡ false
    → length (targets_with d document) ≤ 2048
    → submission_refusal d document made ≡ option_and_then refusal_of_ledger (refusal_of d.books (holds_for d document made) (charge_for d document made))
only_ledger d document made requests targets =
    let last = option_and_then refusal_of_ledger (refusal_of d.books (holds_for d document made) (charge_for d document made)) in
    let few : nat_lt 2048 (length (targets_with d document)) ≡ false = not_over (length (targets_with d document)) targets in
    ap (λ (b : Bool). option_or (cond b (Some (Full 1024 Requests)) None)
    (option_or (cond (nat_lt 2048 (length (targets_with d document))) (Some (Full 2048 Targets)) None) last)) requests
    ∙ ap (λ (b : Bool). option_or (cond b (Some (Full 2048 Targets)) None) last) few
  where
    not_over : (n : ℕ) → n ≤ 2048 → nat_lt 2048 n ≡ false
    not_over n h = by (nat_lt 2048 n) refl
      where
        by : (b : Bool) → nat_lt 2048 n ≡ b → b ≡ false
        by true e = let over = ltb-true 2048 n e in absurd (omega arith)
        by false e = refl

pub ledger_refuses : (d after : DeskSeen) (document : GroupDoc) (made : List MadeSeen) (fault : LedgerFault)
    → nat_lt 1024 (pending_count d.progress.groups + length made) ≡ false → length (targets_with d document) ≤ 2048
    → (fault ≢ ledger.NoMemory → refusal_of d.books (holds_for d document made) (charge_for d document made) ≡ Some fault) → after ≡ d
    → Decides (on_made d document (Ok made)) d after (Err (of_accounts fault))
ledger_refuses d after document made fault requests targets refused same =
    record { ok = tt; refused = λ memory. by (of_accounts fault) refl memory; unchanged = same }
  where
    by : (command : CommandFault) → of_accounts fault ≡ command → command ≢ NoMemory → (r : Refusal) × (submission_refusal d document made ≡ Some r)
        × (refusal_in command ≡ Some r)
    by NoMemory e memory = absurd (memory refl)
    by (Refused r) e memory = (
      r,
      only_ledger d document made requests targets
          ∙ ap (option_and_then refusal_of_ledger) (refused (λ none. let bad : Refused r ≡ NoMemory = sym e ∙ ap of_accounts none in cc))
          ∙ ap refusal_in e,
      refl,
    )
