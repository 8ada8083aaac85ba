-- What booking leaves of the groups.
use Rattle.std.proofs.Common.{◌≡◌, ℕ, zero, suc, ◌+◌, ◌<◌, ◌≤◌, List, [], ◌∷◌, length, set, refl, sym, ap, ◌∙◌, arith, Some, None, Option}
use Rattle.std.specs.Prelude.{slice_get, option_and_then}
use Rattle.std.specs.List.{insert}
use Rattle.std.specs.Ordering.{nat_cmp}
use Rattle.std.specs.BTreeSet.{replace_key}
use Rattle.std.specs.Cmp.{IsTotalOrder}
use Rattle.std.proofs.lemmas.Cmp.{nat_cmp_total, on_total, tied_itself}
use Rattle.std.proofs.lemmas.List.{length-map}
use Rattle.std.proofs.lemmas.List.Edits.{get_or-insert_at}
use Rattle.std.proofs.lemmas.Option.{slice_get_within, get_or_from_slice_get}
use Rattle.std.proofs.Math.ListN.{get_or-map}
use Rattle.plan_base.specs.declared.number.GroupNo.{GroupNo}
use Rattle.allocations.specs.declared.sums.Amount.{Amount}
use Rattle.allocations.specs.declared.posting.GroupState.{GroupState}
use Rattle.allocations.specs.Rising.{Rises, IsGap}
use Rattle.allocations.specs.Store.{no_group, group_at, numbers_of, empty_group}
use Rattle.std.proofs.lemmas.List.{get_or-set_same}
use Rattle.std.proofs.lemmas.List.Sums.{sum_by-set}
use Rattle.allocations.specs.Amounts.{amount_at}
use Rattle.allocations.specs.Raw.{held_at}
use Rattle.allocations.specs.Booking.{state_cmp, HoldsNothing, standing_of, booked_groups}
use Rattle.allocations.proofs.Groups.{set_set}
use Rattle.allocations.proofs.Order.{Rises-before, replace_key-there, replace_key-at}
use Rattle.allocations.proofs.Numbered.{find_at, find_gap}

pub state_total : IsTotalOrder state_cmp
state_total = on_total (λ (g : GroupState). g.group.0) nat_cmp_total

pub same_number : (a b : GroupNo) → a.0 ≡ b.0 → a ≡ b
same_number a b e = ap (λ (x : ℕ). record { 0 = x }) e

-- the number of the group at a place
pub number_at : (gs : List GroupState) (n : GroupNo) (i : ℕ) → slice_get (numbers_of gs) i ≡ Some n.0 → (i < length gs) × ((group_at gs i).group ≡ n)
number_at gs n i at =
    let within : i < length gs = rw length-map at (slice_get_within (numbers_of gs) i n.0 at) in (
      within,
      same_number (group_at gs i).group n (sym (get_or-map (λ (g : GroupState). g.group.0) gs i no_group)
          ∙ get_or_from_slice_get (numbers_of gs) i n.0 no_group.group.0 at),
    )

-- a group that is there and holds nothing
pub opened_state : (gs : List GroupState) (n : GroupNo) (i : ℕ) → Rises nat_cmp (numbers_of gs) → slice_get (numbers_of gs) i ≡ Some n.0
    → HoldsNothing n gs → group_at gs i ≡ record { group = n; holds = []; ipp = standing_of n gs }
opened_state gs n i r at nothing =
    let there = number_at gs n i at in
    let found = find_at (λ (g : GroupState). g.group.0) gs n.0 i no_group r at in
    let holds : (group_at gs i).holds ≡ [] = nothing i no_group there.0 there.1 in
    let ipp : (group_at gs i).ipp ≡ standing_of n gs = sym (ap (λ (o : Option GroupState). option_and_then (λ (g : GroupState). g.ipp) o) found) in
    ap (λ (x : GroupNo). record { group = x; holds = (group_at gs i).holds; ipp = (group_at gs i).ipp }) there.1
    ∙ ap (λ (x : List Amount). record { group = n; holds = x; ipp = (group_at gs i).ipp }) holds
    ∙ ap (λ (x : Option Amount). record { group = n; holds = []; ipp = x }) ipp

pub puts_there : (gs : List GroupState) (n : GroupNo) (i : ℕ) → Rises nat_cmp (numbers_of gs) → slice_get (numbers_of gs) i ≡ Some n.0
    → (g : GroupState) → g.group ≡ n → set gs i g ≡ replace_key state_cmp gs g
puts_there gs n i r at g same =
    let there = number_at gs n i at in
    let number : g.group.0 ≡ n.0 = ap (λ (x : GroupNo). x.0) same in
    sym (replace_key-there state_cmp state_total gs g i there.0
    (λ k d l. rw (number, ← get_or-map (λ (x : GroupState). x.group.0) gs k d) (Rises-before nat_cmp nat_cmp_total (numbers_of gs) n.0 i r at k d.group.0 l))
    (λ d. rw (number, ← get_or-map (λ (x : GroupState). x.group.0) gs i d, get_or_from_slice_get (numbers_of gs) i n.0 d.group.0 at)
    (tied_itself nat_cmp_total n.0)))

set_insert : {X : Type 0} (xs : List X) (i : ℕ) (x y : X) → i ≤ length xs → set (insert xs i x) i y ≡ insert xs i y
set_insert xs zero x y l = refl
set_insert [] (suc i) x y l = absurd (omega arith)
set_insert {X} (z ∷ zs) (suc i) x y l = ap (λ (m : List X). z ∷ m) (set_insert zs i x y (omega arith))

pub opened_gap : (gs : List GroupState) (n : GroupNo) (i : ℕ) → IsGap nat_cmp (numbers_of gs) n.0 i
    → group_at (insert gs i (empty_group n)) i ≡ record { group = n; holds = []; ipp = standing_of n gs }
opened_gap gs n i g =
    let within : i ≤ length gs = rw length-map at g.within in
    let none = find_gap (λ (x : GroupState). x.group.0) gs n.0 i g in
    get_or-insert_at gs i (empty_group n) no_group within
    ∙ sym (ap (λ (o : Option GroupState). record { group = n; holds = []; ipp = option_and_then (λ (x : GroupState). x.ipp) o }) none)

pub puts_gap : (gs : List GroupState) (n : GroupNo) (i : ℕ) → IsGap nat_cmp (numbers_of gs) n.0 i → (e g : GroupState) → g.group ≡ n
    → set (insert gs i e) i g ≡ replace_key state_cmp gs g
puts_gap gs n i gap e g same =
    let within : i ≤ length gs = rw length-map at gap.within in
    let number : g.group.0 ≡ n.0 = ap (λ (x : GroupNo). x.0) same in
    set_insert gs i e g within
    ∙ sym (replace_key-at state_cmp state_total gs g i within
    (λ k d l. rw (number, ← get_or-map (λ (x : GroupState). x.group.0) gs k d) (gap.below k d.group.0 l))
    (λ k d l m. rw (number, ← get_or-map (λ (x : GroupState). x.group.0) gs k d) (gap.above k d.group.0 l (rw length-map m))))

-- holds booked for a group that held nothing, and a charge that stands for it
pub group_booked : (gs opened : List GroupState) (n : GroupNo) (i : ℕ) (holds : List Amount) (ipp : Option Amount) → i < length opened
    → group_at opened i ≡ record { group = n; holds = []; ipp = standing_of n gs }
    → ((g : GroupState) → g.group ≡ n → set opened i g ≡ replace_key state_cmp gs g)
    → set opened i (record (group_at opened i) { holds = holds }) ≡ booked_groups n holds None gs
group_booked gs opened n i holds ipp l state puts =
    ap (λ (g : GroupState). set opened i (record g { holds = holds })) state ∙ puts record { group = n; holds = holds; ipp = standing_of n gs } refl

pub laid_charged : (gs opened : List GroupState) (n : GroupNo) (i : ℕ) (holds : List Amount) (m : Amount) → i < length opened
    → group_at opened i ≡ record { group = n; holds = []; ipp = standing_of n gs }
    → ((g : GroupState) → g.group ≡ n → set opened i g ≡ replace_key state_cmp gs g)
    → set (set opened i (record (group_at opened i) { holds = holds })) i
    (record (group_at (set opened i (record (group_at opened i) { holds = holds })) i) { ipp = Some m }) ≡ booked_groups n holds (Some m) gs
laid_charged gs opened n i holds m l state puts =
    let a : GroupState = record (group_at opened i) { holds = holds } in
    let at : group_at (set opened i a) i ≡ a = get_or-set_same opened i a no_group l in
    ap (λ (g : GroupState). set (set opened i a) i (record g { ipp = Some m })) at
    ∙ set_set opened i a (record a { ipp = Some m })
    ∙ ap (λ (g : GroupState). set opened i (record g { holds = holds; ipp = Some m })) state
    ∙ puts record { group = n; holds = holds; ipp = Some m } refl

-- what is held once holds are booked
pub held_laid : (opened : List GroupState) (j : ℕ) (holds : List Amount) (i : ℕ) → j < length opened → (group_at opened j).holds ≡ []
    → held_at i (set opened j (record (group_at opened j) { holds = holds })) ≡ held_at i opened + amount_at i holds
held_laid opened j holds i l empty =
    let s = sum_by-set (λ (x : GroupState). amount_at i x.holds) opened j (record (group_at opened j) { holds = holds }) no_group l in
    let none : amount_at i (group_at opened j).holds ≡ 0 = ap (λ (x : List Amount). amount_at i x) empty in
    omega (arith, s, none)
