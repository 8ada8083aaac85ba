-- What releases and refunds of what is kept are in the books.
use Rattle.std.proofs.Common.{◌≡◌, ℕ, ◌+◌, ◌^◌, ◌<◌, ◌≤◌, List, [], length, get_or, set, refl, sym, ap, ◌∙◌, subst, inl, inr, ⊎_elim, arith, map, Some}
use Rattle.std.proofs.Common.{None, Option}
use Rattle.std.specs.Prelude.{All, Any, slice_get}
use Rattle.std.specs.Option.{option_map, option_to_list}
use Rattle.std.specs.Ordering.{nat_cmp}
use Rattle.std.specs.declared.cmp.Ordering.TheVariants.{Less, Equal}
use Rattle.std.proofs.lemmas.Bool.{cases_lt, cases_eq}
use Rattle.std.proofs.lemmas.Cmp.{nat_cmp_total, tied_itself}
use Rattle.std.proofs.lemmas.List.{length-map, get_or-set_same, get_or_default, get_or-map as get_or_map}
use Rattle.std.proofs.lemmas.List.Elements.{All-nil, All-cons}
use Rattle.std.proofs.lemmas.List.Sums.{sum_by-set}
use Rattle.std.proofs.lemmas.Option.{same_Some, slice_get_cases}
use Rattle.std.proofs.Math.Seq.{map-set_same}
use Rattle.plan_base.specs.declared.number.GroupNo.{GroupNo}
use Rattle.allocations.specs.declared.key.Key.{Key}
use Rattle.allocations.specs.declared.entry.Hold.{Hold}
use Rattle.allocations.specs.declared.entry.EntryKind.TheVariants.{Charge}
use Rattle.allocations.specs.declared.sums.Amount.{Amount}
use Rattle.allocations.specs.declared.posting.Posting.{Posting}
use Rattle.allocations.specs.declared.posting.GroupState.{GroupState}
use Rattle.allocations.specs.Rising.{Rises}
use Rattle.allocations.specs.Amounts.{amount_at}
use Rattle.allocations.specs.Books.{GroupHolds, total_seconds}
use Rattle.allocations.specs.Raw.{key_at, hold_of, group_of, posted, held_at}
use Rattle.allocations.specs.Changes.{ipp_of}
use Rattle.allocations.specs.Store.{StoreSeen, no_group, group_at, given_at, numbers_of, refund_posting, refunds_of, store_books}
use Rattle.allocations.specs.Ledger.{IsAtMost}
use Rattle.allocations.specs.Lowered.{AreAtMost}
use Rattle.allocations.proofs.Freed.{given-bounded}
use Rattle.allocations.proofs.Booked.{number_at}
use Rattle.allocations.proofs.Changed.{ipp_at}
use Rattle.allocations.proofs.Groups.{set_set}

-- a refund of this many seconds keeps its account in its range
pub refund_fits : (s : StoreSeen) (g : GroupState) (h : Hold) → option_map (hold_of s.keys) g.ipp ≡ Some h
    → total_seconds (store_books s) + h.seconds ≤ 1000000000000000000 → All (λ p. given_at p.account s.postings + p.seconds < 2 ^ 64) (refunds_of g)
refund_fits s g h e bound = by g.ipp e
  where
    by : (o : Option Amount) → option_map (hold_of s.keys) o ≡ Some h
        → All (λ p. given_at p.account s.postings + p.seconds < 2 ^ 64) (map (refund_posting g.group) (option_to_list o))
    by None n = cc
    by (Some m) n =
        let seconds : m.seconds ≡ h.seconds = ap (λ (x : Hold). x.seconds) (same_Some (hold_of s.keys m) h n) in
        let given = given-bounded s.keys s.postings m.account in
        All-cons (λ (p : Posting). given_at p.account s.postings + p.seconds < 2 ^ 64) (refund_posting g.group m) []
        (omega (arith, seconds, given, bound)) (All-nil (λ (p : Posting). given_at p.account s.postings + p.seconds < 2 ^ 64))

-- one refund is one posting
pub refunds_one : (keys : List Key) (g : GroupState) (h : Hold) → option_map (hold_of keys) g.ipp ≡ Some h → length (refunds_of g) ≡ 1
refunds_one keys g h e = by g.ipp e
  where
    by : (o : Option Amount) → option_map (hold_of keys) o ≡ Some h → length (map (refund_posting g.group) (option_to_list o)) ≡ 1
    by None n = cc
    by (Some m) n = refl

-- once it is refunded, no charge stands
pub refunded_once : (keys : List Key) (gs : List GroupState) (n : GroupNo) (j : ℕ) → Rises nat_cmp (numbers_of gs)
    → slice_get (numbers_of gs) j ≡ Some n.0 → ipp_of n (map (group_of keys) (set gs j (record (group_at gs j) { ipp = None }))) ≡ None
refunded_once keys gs n j r at =
    let g : GroupState = record (group_at gs j) { ipp = None } in
    let there = number_at gs n j at in
    let numbers : numbers_of (set gs j g) ≡ numbers_of gs = map-set_same (λ (x : GroupState). x.group.0) gs j g no_group refl in
    ipp_at keys (set gs j g) n j (rw numbers r) (rw numbers at)
    ∙ ap (λ (x : GroupState). option_map (hold_of keys) x.ipp) (get_or-set_same gs j g no_group there.0)

-- two places of a list that rises with the same number are one
same_place : (ns : List ℕ) (i j n : ℕ) → Rises nat_cmp ns → i < length ns → j < length ns → get_or ns i n ≡ n → get_or ns j n ≡ n → i ≡ j
same_place ns i j n r li lj a b =
    ⊎_elim
    (λ (e : i ≡ j). e)
    (λ (ne : i ≡ j → ⊥).
    let tie = tied_itself nat_cmp_total n in
    ⊎_elim
    (λ (l : i < j). let less : nat_cmp (get_or ns i n) (get_or ns j n) ≡ Less = r i j n l lj in
    let same : nat_cmp (get_or ns i n) (get_or ns j n) ≡ Equal = rw (a, b) tie in cc)
    (λ (l : j ≤ i). let less : nat_cmp (get_or ns j n) (get_or ns i n) ≡ Less = r j i n (omega (arith, ne)) li in
    let same : nat_cmp (get_or ns j n) (get_or ns i n) ≡ Equal = rw (a, b) tie in cc)
    (cases_lt i j))
    (cases_eq i j)

-- what is at most a group's holds is at most its amounts
pub at_most_seen : (keys : List Key) (gs : List GroupState) (n : GroupNo) (j : ℕ) (hs : List Hold) → Rises nat_cmp (numbers_of gs)
    → slice_get (numbers_of gs) j ≡ Some n.0 → IsAtMost n (map (group_of keys) gs) hs → AreAtMost keys (group_at gs j).holds hs
at_most_seen keys gs n j hs r at most k d l =
    let h : Hold = get_or hs k d in
    let any = most k d l in
    let there = number_at gs n j at in
    let within : any.0 < length gs = rw length-map at any.2 in
    elim (slice_get_cases gs any.0).1 [
      | inl w ↦
          (let seen : any.1 ≡ group_of keys (get_or gs any.0 w.0) = sym any.3 ∙ get_or_map (group_of keys) gs any.0 w.0 any.1 within in
          let number : (get_or gs any.0 w.0).group.0 ≡ n.0 = ap (λ (g : GroupHolds). g.group.0) (sym seen) ∙ ap (λ (x : GroupNo). x.0) any.4.0 in
          let place : any.0 ≡ j = same_place (numbers_of gs) any.0 j n.0 r (rw length-map within) (rw length-map there.0)
          (get_or_map (λ (g : GroupState). g.group.0) gs any.0 w.0 n.0 within ∙ number)
          (get_or_map (λ (g : GroupState). g.group.0) gs j no_group n.0 there.0 ∙ ap (λ (x : GroupNo). x.0) there.1) in
          let here : any.1 ≡ group_of keys (group_at gs j) = seen
          ∙ ap (group_of keys) (get_or_default gs any.0 w.0 no_group within ∙ ap (λ (i : ℕ). get_or gs i no_group) place) in
          let holds : any.1.holds ≡ map (hold_of keys) (group_at gs j).holds = ap (λ (g : GroupHolds). g.holds) here in
          any_mapped (group_at gs j).holds h (subst (λ (l : List Hold). Any (λ (o : Hold). (o.key ≡ h.key) × (h.seconds ≤ o.seconds)) l) holds any.4.1))
      | inr w ↦ absurd (omega (arith, within, w.0))
    ]
  where
    any_mapped : (ms : List Amount) (x : Hold) → Any (λ (o : Hold). (o.key ≡ x.key) × (x.seconds ≤ o.seconds)) (map (hold_of keys) ms)
        → Any (λ (m : Amount). (key_at keys m.account ≡ x.key) × (x.seconds ≤ m.seconds)) ms
    any_mapped ms x any =
        let within : any.0 < length ms = rw length-map at any.2 in
        elim (slice_get_cases ms any.0).1 [
          | inl w ↦
              (let e : any.1 ≡ hold_of keys w.0 = sym any.3 ∙ get_or_map (hold_of keys) ms any.0 w.0 any.1 within ∙ ap (hold_of keys) w.3 in
              (any.0, w.0, within, w.3, subst (λ (o : Hold). (o.key ≡ x.key) × (x.seconds ≤ o.seconds)) e any.4))
          | inr w ↦ absurd (omega (arith, within, w.0))
        ]

-- holds booked in the place of what was unbooked
pub rebooked : (gs : List GroupState) (j : ℕ) (low : List Amount) → j < length gs
    → set (set gs j (record (group_at gs j) { holds = [] })) j
    (record (group_at (set gs j (record (group_at gs j) { holds = [] })) j) { holds = low }) ≡ set gs j (record (group_at gs j) { holds = low })
rebooked gs j low l =
    let unbooked : GroupState = record (group_at gs j) { holds = [] } in
    ap (λ (g : GroupState). set (set gs j unbooked) j (record g { holds = low })) (get_or-set_same gs j unbooked no_group l)
    ∙ set_set gs j unbooked (record (group_at gs j) { holds = low })

-- lower holds fit where the higher ones did
pub rebooked_room : (ps : List Posting) (gs : List GroupState) (j : ℕ) (low : List Amount) (i : ℕ) → j < length gs
    → held_at i gs + posted Charge i ps ≤ given_at i ps → amount_at i low ≤ amount_at i (group_at gs j).holds
    → held_at i (set gs j (record (group_at gs j) { holds = [] })) + amount_at i low + posted Charge i ps ≤ given_at i ps
rebooked_room ps gs j low i l covered less =
    let s = sum_by-set (λ (x : GroupState). amount_at i x.holds) gs j (record (group_at gs j) { holds = [] }) no_group l in
    omega (arith, s, covered, less)
