-- The sums stay tied to the postings and the groups.
use Rattle.std.proofs.Common.{◌≡◌, ◌≢◌, ℕ, ◌+◌, ◌<◌, ◌≤◌, List, [], ◌∷◌, ◌++◌, length, get_or, set, refl, sym, ap, ◌∙◌, subst, ⊎_elim, arith, map}
use Rattle.std.proofs.Common.{Bool, true, false}
use Rattle.std.specs.Prelude.{All, Contains, if◌then◌else◌, ◌==◌, ◌&&◌}
use Rattle.std.proofs.lemmas.Bool.{cases_lt, cases_eq, eq-eqb, ne_eqb}
use Rattle.std.proofs.lemmas.Bool.Decides.{nat_tests}
use Rattle.std.proofs.lemmas.List.{get_or-set_same, get_or-set_other, length-set, length_push, get_or_append_left, get_or_push, get_or_default}
use Rattle.std.proofs.lemmas.List.Elements.{All-push, All-weaker, All-head, All-tail}
use Rattle.std.proofs.lemmas.List.Quantifiers.{all_pairs_push}
use Rattle.std.proofs.lemmas.Option.{IfSome_then}
use Rattle.std.proofs.lemmas.List.Sums.{sum_by_push, sum_by-le}
use Rattle.allocations.specs.declared.key.Key.{Key}
use Rattle.allocations.specs.declared.entry.EntryKind.{EntryKind}
use Rattle.allocations.specs.declared.entry.EntryKind.TheVariants.{Grant, Charge, Refund}
use Rattle.allocations.specs.declared.sums.Amount.{Amount}
use Rattle.allocations.specs.declared.sums.Sums.{Sums}
use Rattle.allocations.specs.declared.posting.Posting.{Posting}
use Rattle.allocations.specs.declared.posting.GroupState.{GroupState}
use Rattle.allocations.specs.Amounts.{amount_at, no_sums, sums_after, CanTake}
use Rattle.allocations.specs.Books.{is_kind}
use Rattle.allocations.specs.Raw.{key_at, no_key, IsGrouped, posted, held_at, IsOfAccounts, Tied}
use Rattle.allocations.specs.Store.{given_at}

pub posted-push : (kind : EntryKind) (i : ℕ) (ps : List Posting) (p : Posting)
    → posted kind i (ps ++ p ∷ []) ≡ posted kind i ps + (if is_kind kind p.kind && (p.account == i) then p.seconds else 0)
posted-push kind i ps p = sum_by_push _ ps p

-- the sums of account i after an entry on account a
step : (i a : ℕ) (kind : EntryKind) (n charged granted refunded : ℕ) (old new : Sums)
    → (a ≡ i → (new ≡ sums_after old kind n) × CanTake old kind n) → ((a ≡ i → ⊥) → new ≡ old) → old.balance + charged ≡ granted + refunded
    → (new.balance + (charged + (if is_kind Charge kind && (a == i) then n else 0)) ≡ (granted + (if is_kind Grant kind && (a == i) then n else 0))
    + (refunded + (if is_kind Refund kind && (a == i) then n else 0))) × (new.held ≡ old.held)
step i a Grant n charged granted refunded old new same other h =
    ⊎_elim
    (λ (e : a ≡ i).
    let q = same e in
    let b = eq-eqb a i e in
    let balance : new.balance ≡ (sums_after old Grant n).balance = ap (λ (s : Sums). s.balance) q.0 in
    let can = q.1 in
    (rw (b, balance) (omega (arith, can)), ap (λ (s : Sums). s.held) q.0))
    (λ (ne : a ≡ i → ⊥).
    let b = ne_eqb a i ne in
    let balance : new.balance ≡ old.balance = ap (λ (s : Sums). s.balance) (other ne) in
    (rw (b, balance) (omega arith), ap (λ (s : Sums). s.held) (other ne)))
    (cases_eq a i)
step i a Charge n charged granted refunded old new same other h =
    ⊎_elim
    (λ (e : a ≡ i).
    let q = same e in
    let b = eq-eqb a i e in
    let balance : new.balance ≡ (sums_after old Charge n).balance = ap (λ (s : Sums). s.balance) q.0 in
    let can = q.1 in
    (rw (b, balance) (omega (arith, can)), ap (λ (s : Sums). s.held) q.0))
    (λ (ne : a ≡ i → ⊥).
    let b = ne_eqb a i ne in
    let balance : new.balance ≡ old.balance = ap (λ (s : Sums). s.balance) (other ne) in
    (rw (b, balance) (omega arith), ap (λ (s : Sums). s.held) (other ne)))
    (cases_eq a i)
step i a Refund n charged granted refunded old new same other h =
    ⊎_elim
    (λ (e : a ≡ i).
    let q = same e in
    let b = eq-eqb a i e in
    let balance : new.balance ≡ (sums_after old Refund n).balance = ap (λ (s : Sums). s.balance) q.0 in
    let can = q.1 in
    (rw (b, balance) (omega (arith, can)), ap (λ (s : Sums). s.held) q.0))
    (λ (ne : a ≡ i → ⊥).
    let b = ne_eqb a i ne in
    let balance : new.balance ≡ old.balance = ap (λ (s : Sums). s.balance) (other ne) in
    (rw (b, balance) (omega arith), ap (λ (s : Sums). s.held) (other ne)))
    (cases_eq a i)

sums_after-held : (s : Sums) (kind : EntryKind) (n : ℕ) → (sums_after s kind n).held ≡ s.held
sums_after-held s Grant n = refl
sums_after-held s Charge n = refl
sums_after-held s Refund n = refl

pub tied_post : (keys : List Key) (sums : List Sums) (ps : List Posting) (gs : List GroupState) (p : Posting) → Tied keys sums ps gs
    → p.account < length keys → CanTake (get_or sums p.account no_sums) p.kind p.seconds
    → held_at p.account gs + posted Charge p.account (ps ++ p ∷ []) ≤ given_at p.account (ps ++ p ∷ [])
    → Tied keys (set sums p.account (sums_after (get_or sums p.account no_sums) p.kind p.seconds)) (ps ++ p ∷ []) gs
tied_post keys sums ps gs p t l c covered =
    let a : ℕ = p.account in
    let after : Sums = sums_after (get_or sums a no_sums) p.kind p.seconds in
    let within : a < length sums = omega (arith, t.lengths) in
    let each : (i : ℕ) → i < length keys
    → ((get_or (set sums a after) i no_sums).balance + posted Charge i (ps ++ p ∷ []) ≡ posted Grant i (ps ++ p ∷ [])
    + posted Refund i (ps ++ p ∷ [])) × ((get_or (set sums a after) i no_sums).held ≡ (get_or sums i no_sums).held) =
    λ i li.
    rw (posted-push Charge i ps p, posted-push Grant i ps p, posted-push Refund i ps p)
    (step i a p.kind p.seconds (posted Charge i ps) (posted Grant i ps) (posted Refund i ps) (get_or sums i no_sums) (get_or (set sums a after) i no_sums)
    (λ e. (
      subst (λ (j : ℕ). get_or (set sums a after) j no_sums ≡ sums_after (get_or sums j no_sums) p.kind p.seconds) e
          (get_or-set_same sums a after no_sums within),
      subst (λ (j : ℕ). CanTake (get_or sums j no_sums) p.kind p.seconds) e c,
    ))
    (λ ne. get_or-set_other sums a i after no_sums (λ e. ne (sym e))) (t.balance i li)) in
    record {
      lengths = length-set sums a after ∙ t.lengths;
      apart = t.apart;
      located = All-push (λ q. q.account < length keys) ps p t.located l;
      of_accounts = t.of_accounts;
      balance = λ i li. (each i li).0;
      held = λ i li. (each i li).1 ∙ t.held i li;
      covered = λ i li.
          ⊎_elim
          (λ (e : a ≡ i). let b = (each i li).0 in let h = (each i li).1 ∙ t.held i li in
          let c' = subst (λ (j : ℕ). held_at j gs + posted Charge j (ps ++ p ∷ []) ≤ given_at j (ps ++ p ∷ [])) e covered in
          omega (arith, b, h, c'))
          (λ (ne : a ≡ i → ⊥). rw (get_or-set_other sums a i after no_sums (λ e. ne (sym e))) (t.covered i li))
          (cases_eq a i);
    }

-- nothing is posted on an account that isn't there
not_kind : (b : Bool) (a n seconds : ℕ) → a < n → (if b && (a == n) then seconds else 0) ≤ 0
not_kind true a n seconds l = grind (arith, nat_tests)
not_kind false a n seconds l = omega arith

pub posted-none : (kind : EntryKind) (n : ℕ) (ps : List Posting) → All (λ p. p.account < n) ps → posted kind n ps ≡ 0
posted-none kind n ps h =
    let none = sum_by-le (λ (p : Posting). if is_kind kind p.kind && (p.account == n) then p.seconds else 0) 0 ps
    (All-weaker (λ p. p.account < n) (λ p. (if is_kind kind p.kind && (p.account == n) then p.seconds else 0) ≤ 0)
    (λ p l. not_kind (is_kind kind p.kind) p.account n p.seconds l) ps h) in
    omega (arith, none)

pub amount_at-none : (n : ℕ) (ms : List Amount) → All (λ m. m.account < n) ms → amount_at n ms ≡ 0
amount_at-none n ms h =
    let none = sum_by-le (λ (m : Amount). if m.account == n then m.seconds else 0) 0 ms
    (All-weaker (λ m. m.account < n) (λ m. (if m.account == n then m.seconds else 0) ≤ 0) (λ m l. not_kind true m.account n m.seconds l) ms h) in
    omega (arith, none)

pub held_at-none : (n : ℕ) (gs : List GroupState) → All (IsOfAccounts n) gs → held_at n gs ≡ 0
held_at-none n gs h =
    let none = sum_by-le (λ (g : GroupState). amount_at n g.holds) 0 gs
    (All-weaker (IsOfAccounts n) (λ g. amount_at n g.holds ≤ 0) (λ g l. let z = amount_at-none n g.holds l.0 in omega (arith, z)) gs h) in
    omega (arith, none)

pub IsOfAccounts-more : (n k : ℕ) → n ≤ k → (g : GroupState) → IsOfAccounts n g → IsOfAccounts k g
IsOfAccounts-more n k l g h = (
  All-weaker (λ m. m.account < n) (λ m. m.account < k) (λ m a. omega arith) g.holds h.0,
  IfSome_then g.ipp h.1 (λ m a. omega arith),
)

-- one more account
pub tied_add : (keys : List Key) (sums : List Sums) (ps : List Posting) (gs : List GroupState) (k : Key) → Tied keys sums ps gs
    → (Contains keys k → ⊥) → Tied (keys ++ k ∷ []) (sums ++ no_sums ∷ []) ps gs
tied_add keys sums ps gs k t new =
    let n : ℕ = length keys in
    let longer : length (keys ++ k ∷ []) ≡ n + 1 = length_push keys k in
    let none : (kind : EntryKind) → posted kind n ps ≡ 0 = λ kind. posted-none kind n ps t.located in
    let last : get_or (sums ++ no_sums ∷ []) n no_sums ≡ no_sums = get_or_push_at sums no_sums no_sums n t.lengths in
    record {
      lengths = length_push sums no_sums ∙ ap (λ (x : ℕ). x + 1) t.lengths ∙ sym longer;
      apart = all_pairs_push (λ a b. a ≢ b) keys k t.apart (λ i d l e. new (i, l, get_or_default' keys i k d l ∙ e));
      located = All-weaker (λ p. p.account < n) (λ p. p.account < length (keys ++ k ∷ [])) (λ p l. omega (arith, longer)) ps t.located;
      of_accounts = All-weaker (IsOfAccounts n) (IsOfAccounts (length (keys ++ k ∷ [])))
          (λ g h. IsOfAccounts-more n (length (keys ++ k ∷ [])) (omega (arith, longer)) g h) gs t.of_accounts;
      balance = λ i l. ⊎_elim
          (λ (b : i < n). rw (get_or_append_left sums (no_sums ∷ []) no_sums i (omega (arith, t.lengths))) (t.balance i b))
          (λ (b : n ≤ i). let e : i ≡ n = omega (arith, longer) in rw (e, last, none Charge, none Grant, none Refund) refl)
          (cases_lt i n);
      held = λ i l. ⊎_elim
          (λ (b : i < n). rw (get_or_append_left sums (no_sums ∷ []) no_sums i (omega (arith, t.lengths))) (t.held i b))
          (λ (b : n ≤ i). let e : i ≡ n = omega (arith, longer) in rw (e, last, held_at-none n gs t.of_accounts) refl)
          (cases_lt i n);
      covered = λ i l. ⊎_elim
          (λ (b : i < n). rw (get_or_append_left sums (no_sums ∷ []) no_sums i (omega (arith, t.lengths))) (t.covered i b))
          (λ (b : n ≤ i). let e : i ≡ n = omega (arith, longer) in rw (e, last) (omega arith))
          (cases_lt i n);
    }
  where
    get_or_push_at : {X : Type 0} (xs : List X) (x d : X) (n : ℕ) → length xs ≡ n → get_or (xs ++ x ∷ []) n d ≡ x
    get_or_push_at xs x d n e = get_or_push xs x d n e

    get_or_default' : {X : Type 0} (xs : List X) (i : ℕ) (d e : X) → i < length xs → get_or xs i d ≡ get_or xs i e
    get_or_default' xs i d e l = get_or_default xs i d e l

pub map_agree : {X Y : Type 0} (f g : X → Y) (xs : List X) → All (λ x. f x ≡ g x) xs → map f xs ≡ map g xs
map_agree f g [] h = refl
map_agree f g (x ∷ xs) h =
    let first : f x ≡ g x = All-head (λ y. f y ≡ g y) x xs h in
    let rest = map_agree f g xs (All-tail (λ y. f y ≡ g y) x xs h) in
    cc

-- an account keeps its key
pub key_at-kept : (keys : List Key) (k : Key) (i : ℕ) → i < length keys → key_at (keys ++ k ∷ []) i ≡ key_at keys i
key_at-kept keys k i l = get_or_append_left keys (k ∷ []) no_key i l

pub grouped_add : (keys : List Key) (k : Key) (gs : List GroupState) → All (IsOfAccounts (length keys)) gs → IsGrouped keys gs → IsGrouped (keys ++ k ∷ []) gs
grouped_add keys k gs of_accounts g = record {
  rising = g.rising;
  ordered = λ i d l.
      let state : GroupState = get_or gs i d in
      rw (map_agree (λ m. key_at (keys ++ k ∷ []) m.account) (λ m. key_at keys m.account) state.holds
      (All-weaker (λ m. m.account < length keys) (λ m. key_at (keys ++ k ∷ []) m.account ≡ key_at keys m.account)
      (λ m h. key_at-kept keys k m.account h) state.holds (of_accounts i d l).0))
      (g.ordered i d l);
}
