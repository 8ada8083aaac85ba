-- What changes of groups keep.
use Rattle.std.proofs.lemmas.List.{get_or-set_same}
use Rattle.std.proofs.Common.{◌≡◌, ℕ, zero, suc, ◌+◌, ◌<◌, ◌≤◌, List, [], ◌∷◌, ◌++◌, length, get_or, set, take, drop, refl, sym, ap, ◌∙◌, arith, map, None}
use Rattle.std.specs.Prelude.{All}
use Rattle.std.specs.List.{insert}
use Rattle.std.specs.Ordering.{nat_cmp}
use Rattle.std.proofs.lemmas.Cmp.{nat_cmp_total}
use Rattle.std.proofs.lemmas.List.Elements.{All-set, All-append, All-cons, All-take, All-drop}
use Rattle.std.proofs.lemmas.List.Sums.{sum_by-set, sum_by-insert}
use Rattle.std.proofs.Math.Seq.{map-set_same, take-append_seam}
use Rattle.allocations.specs.declared.key.Key.{Key}
use Rattle.allocations.specs.declared.sums.Sums.{Sums}
use Rattle.allocations.specs.declared.posting.Posting.{Posting}
use Rattle.allocations.specs.declared.posting.GroupState.{GroupState}
use Rattle.plan_base.specs.declared.number.GroupNo.{GroupNo}
use Rattle.allocations.specs.Key.{key_cmp}
use Rattle.allocations.specs.Rising.{Rises, IsGap}
use Rattle.allocations.specs.Amounts.{amount_at, no_sums}
use Rattle.allocations.specs.Raw.{key_at, IsOfAccounts, IsGrouped, Tied}
use Rattle.allocations.specs.Store.{StoreSeen, no_group, group_at, numbers_of, empty_group, amount_keys, IsSound}
use Rattle.allocations.proofs.Order.{Rises-insert}
use Rattle.allocations.proofs.Registers.{map-insert}

-- another group at a place, and sums that follow
pub tied_set : (keys : List Key) (sums new : List Sums) (ps : List Posting) (gs : List GroupState) (j : ℕ) (g : GroupState) → Tied keys sums ps gs
    → j < length gs → IsOfAccounts (length keys) g → length new ≡ length sums
    → ((i : ℕ) → i < length keys → (get_or new i no_sums).balance ≡ (get_or sums i no_sums).balance)
    → ((i : ℕ) → i < length keys → (get_or new i no_sums).held + amount_at i (group_at gs j).holds ≡ (get_or sums i no_sums).held + amount_at i g.holds)
    → ((i : ℕ) → i < length keys → (get_or new i no_sums).held ≤ (get_or new i no_sums).balance)
    → Tied keys new ps (set gs j g)
tied_set keys sums new ps gs j g t l of_accounts lengths balance held covered = record {
  lengths = lengths ∙ t.lengths;
  apart = t.apart;
  located = t.located;
  of_accounts = All-set (IsOfAccounts (length keys)) gs j g of_accounts t.of_accounts;
  balance = λ i li. rw (balance i li) (t.balance i li);
  held = λ i li.
      let a = held i li in
      let b = t.held i li in
      let s = sum_by-set (λ (x : GroupState). amount_at i x.holds) gs j g no_group l in
      omega (arith, a, b, s);
  covered = covered;
}

pub grouped_set : (keys : List Key) (gs : List GroupState) (j : ℕ) (g : GroupState) → IsGrouped keys gs → g.group ≡ (group_at gs j).group
    → Rises key_cmp (amount_keys keys g.holds) → IsGrouped keys (set gs j g)
grouped_set keys gs j g h same rises = record {
  rising = rw (map-set_same (λ (x : GroupState). x.group.0) gs j g no_group (ap (λ (n : GroupNo). n.0) same)) h.rising;
  ordered = All-set (λ (x : GroupState). Rises key_cmp (map (λ m. key_at keys m.account) x.holds)) gs j g rises h.ordered;
}

All-insert : {X : Type 0} (P : X → Type 0) (xs : List X) (i : ℕ) (x : X) → P x → All P xs → All P (insert xs i x)
All-insert P xs i x one all = All-append P _ _ (All-take P i xs all) (All-cons P x _ one (All-drop P i xs all))

pub tied_open : (keys : List Key) (sums : List Sums) (ps : List Posting) (gs : List GroupState) (j : ℕ) (n : GroupNo) → Tied keys sums ps gs
    → Tied keys sums ps (insert gs j (empty_group n))
tied_open keys sums ps gs j n t = record {
  lengths = t.lengths;
  apart = t.apart;
  located = t.located;
  of_accounts = All-insert (IsOfAccounts (length keys)) gs j (empty_group n) (λ i d l. absurd (omega arith), tt) t.of_accounts;
  balance = t.balance;
  held = λ i li. let b = t.held i li in let s = sum_by-insert (λ (x : GroupState). amount_at i x.holds) gs j (empty_group n) in omega (arith, b, s);
  covered = t.covered;
}

pub grouped_open : (keys : List Key) (gs : List GroupState) (j : ℕ) (n : GroupNo) → IsGrouped keys gs → IsGap nat_cmp (numbers_of gs) n.0 j
    → IsGrouped keys (insert gs j (empty_group n))
grouped_open keys gs j n h g = record {
  rising = rw (map-insert (λ (x : GroupState). x.group.0) gs j (empty_group n)) (Rises-insert nat_cmp nat_cmp_total (numbers_of gs) n.0 j h.rising g);
  ordered = All-insert (λ (x : GroupState). Rises key_cmp (map (λ m. key_at keys m.account) x.holds)) gs j (empty_group n)
      (λ a b d l m. absurd (omega arith)) h.ordered;
}

-- a write to all of a list
pub put_all : {X : Type 0} (n : ℕ) (new old : List X) → n ≡ length old → length new ≡ length old → take n (new ++ drop (length new) old) ≡ new
put_all n new old e f = ap (λ (m : ℕ). take m (new ++ drop (length new) old)) (e ∙ sym f) ∙ take-append_seam new (drop (length new) old)

pub set_set : {X : Type 0} (xs : List X) (i : ℕ) (x y : X) → set (set xs i x) i y ≡ set xs i y
set_set {X} [] i x y = refl
set_set {X} (z ∷ zs) zero x y = refl
set_set {X} (z ∷ zs) (suc i) x y = ap (λ (l : List X). z ∷ l) (set_set zs i x y)

-- a group that is unbooked, and then has no charge that stands
pub emptied : (gs : List GroupState) (j : ℕ) → j < length gs
    → set (set gs j (record (group_at gs j) { holds = [] })) j (record (group_at (set gs j (record (group_at gs j) { holds = [] })) j) { ipp = None })
    ≡ set gs j (empty_group (group_at gs j).group)
emptied gs j l =
    let unbooked : GroupState = record (group_at gs j) { holds = [] } in
    let at : group_at (set gs j unbooked) j ≡ unbooked = get_or-set_same gs j unbooked no_group l in
    ap (λ (g : GroupState). set (set gs j unbooked) j (record g { ipp = None })) at ∙ set_set gs j unbooked (empty_group (group_at gs j).group)

-- a store whose sums are tied is sound
pub sound_of : (s : StoreSeen) (sums : List Sums) → Tied s.keys sums s.postings s.groups → IsGrouped s.keys s.groups → IsSound s
sound_of s sums t g = record {
  apart = t.apart;
  located = t.located;
  of_accounts = t.of_accounts;
  grouped = g;
  covered = λ i l. let h = t.held i l in let b = t.balance i l in let c = t.covered i l in omega (arith, h, b, c);
}
