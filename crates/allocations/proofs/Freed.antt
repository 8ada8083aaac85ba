-- What is left of an account once a group is freed.
use Rattle.std.proofs.Common.{◌≡◌, ◌≢◌, ℕ, ◌+◌, ◌<◌, ◌≤◌, List, [], ◌∷◌, length, refl, ap, ◌∙◌, subst, arith, map, Bool, true, false, Some, None, Option}
use Rattle.std.specs.Prelude.{All, Any, AllPairs, Contains, IfSome, sum_by, slice_get, if◌then◌else◌, ◌==◌, ◌&&◌, nat_le}
use Rattle.std.specs.Option.{option_to_list}
use Rattle.std.proofs.lemmas.List.{map-append, get_or_default}
use Rattle.std.proofs.lemmas.Option.{slice_get_within, get_or_from_slice_get}
use Rattle.std.proofs.lemmas.List.Folds.{list_any-append, list_any_none, Any-from_list_any, list_any-from_Any}
use Rattle.std.proofs.lemmas.List.Elements.{All-weaker, All-append, All-cons, All-nil, All-set, All-map}
use Rattle.std.proofs.lemmas.List.Sums.{sum_by-cons}
use Rattle.allocations.specs.declared.key.Key.{Key}
use Rattle.allocations.specs.declared.entry.Entry.{Entry}
use Rattle.allocations.specs.declared.entry.EntryKind.{EntryKind}
use Rattle.allocations.specs.declared.entry.EntryKind.TheVariants.{Grant, Charge, Refund}
use Rattle.allocations.specs.declared.sums.Amount.{Amount}
use Rattle.allocations.specs.declared.posting.Posting.{Posting}
use Rattle.allocations.specs.declared.posting.GroupState.{GroupState}
use Rattle.allocations.specs.Key.{is_key, is_text}
use Rattle.allocations.specs.Books.{is_kind, has_grant, available_of}
use Rattle.allocations.specs.Refusals.{refusal_at, knows_proposal}
use Rattle.allocations.specs.declared.fault.LedgerFault.TheVariants.{NoSuchAllocation, NotEnoughTime}
use Rattle.allocations.specs.Raw.{no_key, key_at, entry_of, books_of, IsOfAccounts}
use Rattle.allocations.specs.Store.{StoreSeen, no_group, group_at, given_at, left_at, refund_posting, refunds_of, empty_group, freed_postings}
use Rattle.allocations.specs.Store.{freed_groups, freed_books, store_books, IsSound, IsGranted}
use Rattle.allocations.proofs.Keys.{is_key-true, is_text-refl, is_text-true}
use Rattle.allocations.proofs.Seen.{is_key-false, seconds_of-posted, held_of-held}

refunds_located : (n : ℕ) (g : GroupState) → IsOfAccounts n g → All (λ p. p.account < n) (refunds_of g)
refunds_located n g of_accounts = All-map (λ p. p.account < n) (refund_posting g.group) (option_to_list g.ipp) (of_option g.ipp of_accounts.1)
  where
    of_option : (o : Option Amount) → IfSome o (λ m. m.account < n) → All (λ m. m.account < n) (option_to_list o)
    of_option None h = All-nil (λ (m : Amount). m.account < n)
    of_option (Some m) h = All-cons (λ (m : Amount). m.account < n) m [] h (All-nil (λ (m : Amount). m.account < n))

pub freed_located : (s : StoreSeen) (old : Option ℕ) → IsSound s → IfSome old (λ j. j < length s.groups)
    → All (λ p. p.account < length s.keys) (freed_postings old s.postings s.groups)
freed_located s None g l = g.located
freed_located s (Some j) g l = All-append (λ p. p.account < length s.keys) s.postings (refunds_of (group_at s.groups j)) g.located
    (refunds_located (length s.keys) (group_at s.groups j) (g.of_accounts j no_group l))

pub freed_of_accounts : (s : StoreSeen) (old : Option ℕ) → IsSound s → All (IsOfAccounts (length s.keys)) (freed_groups old s.groups)
freed_of_accounts s None g = g.of_accounts
freed_of_accounts s (Some j) g = All-set (IsOfAccounts (length s.keys)) s.groups j (empty_group (group_at s.groups j).group)
    (All-nil (λ (m : Amount). m.account < length s.keys), tt) g.of_accounts

-- a grant stays when entries are added
pub freed_granted : (s : StoreSeen) (old : Option ℕ) (k : Key) → has_grant (store_books s).entries k ≡ true → has_grant (freed_books s old).entries k ≡ true
freed_granted s None k h = h
freed_granted s (Some j) k h =
    rw (
      map-append (entry_of s.keys) s.postings (refunds_of (group_at s.groups j)),
      list_any-append (λ (e : Entry). is_kind Grant e.kind && is_key e.key k) (map (entry_of s.keys) s.postings)
          (map (entry_of s.keys) (refunds_of (group_at s.groups j))),
      h,
    ) refl

-- an account that isn't known has no grant
pub unknown_granted : (keys : List Key) (ps : List Posting) (k : Key) → All (λ p. p.account < length keys) ps → (Contains keys k → ⊥)
    → has_grant (map (entry_of keys) ps) k ≡ false
unknown_granted keys ps k located absent =
    list_any_none (λ (e : Entry). is_kind Grant e.kind && is_key e.key k) (map (entry_of keys) ps)
    (All-map (λ (e : Entry). (is_kind Grant e.kind && is_key e.key k) ≡ false) (entry_of keys) ps
    (All-weaker (λ (p : Posting). p.account < length keys) (λ (p : Posting). (is_kind Grant p.kind && is_key (key_at keys p.account) k) ≡ false)
    (λ p l. rw (is_key-false (key_at keys p.account) k (λ e. absent (p.account, l, get_or_default keys p.account k no_key l ∙ e)))
    (and_false (is_kind Grant p.kind))) ps located))
  where
    and_false : (b : Bool) → (b && false) ≡ false
    and_false true = refl
    and_false false = refl

pub available_left : (keys : List Key) (ps : List Posting) (gs : List GroupState) (i : ℕ) (k : Key) → AllPairs (λ a b. a ≢ b) keys
    → All (λ p. p.account < length keys) ps → All (IsOfAccounts (length keys)) gs → slice_get keys i ≡ Some k
    → available_of (books_of keys ps gs) k ≡ left_at i ps gs
available_left keys ps gs i k apart located of_accounts at =
    let li : i < length keys = slice_get_within keys i k at in
    let key : key_at keys i ≡ k = get_or_from_slice_get keys i k no_key at in
    subst (λ (x : Key). available_of (books_of keys ps gs) x ≡ left_at i ps gs) key
    (rw (
      seconds_of-posted keys apart i li Grant ps located,
      seconds_of-posted keys apart i li Charge ps located,
      seconds_of-posted keys apart i li Refund ps located,
      held_of-held keys apart i li gs of_accounts,
    ) refl)

-- an account is given no more than all entries have
pub given-bounded : (keys : List Key) (ps : List Posting) (i : ℕ) → given_at i ps ≤ sum_by (λ e. e.seconds) (map (entry_of keys) ps)
given-bounded keys [] i = omega arith
given-bounded keys (p ∷ ps) i =
    let rest = given-bounded keys ps i in
    let one : (if is_kind Grant p.kind && (p.account == i) then p.seconds else 0)
    + (if is_kind Refund p.kind && (p.account == i) then p.seconds else 0) ≤ p.seconds = at_most p.kind (p.account == i) p.seconds in
    let g = sum_by-cons (λ (q : Posting). if is_kind Grant q.kind && (q.account == i) then q.seconds else 0) p ps in
    let r = sum_by-cons (λ (q : Posting). if is_kind Refund q.kind && (q.account == i) then q.seconds else 0) p ps in
    let e = sum_by-cons (λ (x : Entry). x.seconds) (entry_of keys p) (map (entry_of keys) ps) in
    omega (arith, rest, one, g, r, e)
  where
    at_most : (kind : EntryKind) (b : Bool) (n : ℕ) → (if is_kind Grant kind && b then n else 0) + (if is_kind Refund kind && b then n else 0) ≤ n
    at_most Grant true n = omega arith
    at_most Grant false n = omega arith
    at_most Charge b n = omega arith
    at_most Refund true n = omega arith
    at_most Refund false n = omega arith

pub refusal_unknown : (s : StoreSeen) (old : Option ℕ) (k : Key) (n : ℕ) → IsSound s → IfSome old (λ j. j < length s.groups) → (Contains s.keys k → ⊥)
    → refusal_at (freed_books s old) record { key = k; seconds = n } ≡ Some (NoSuchAllocation k.account)
refusal_unknown s old k n g l absent =
    let none : has_grant (freed_books s old).entries k ≡ false =
    unknown_granted s.keys (freed_postings old s.postings s.groups) k (freed_located s old g l) absent in
    ap (λ (b : Bool). if b then (if nat_le n (available_of (freed_books s old) k) then None
    else Some (NotEnoughTime n (available_of (freed_books s old) k))) else Some (NoSuchAllocation k.account)) none

pub refusal_known : (s : StoreSeen) (old : Option ℕ) (k : Key) (n i : ℕ) → IsSound s → IfSome old (λ j. j < length s.groups) → IsGranted s
    → slice_get s.keys i ≡ Some k
    → refusal_at (freed_books s old) record { key = k; seconds = n }
    ≡ (let left = left_at i (freed_postings old s.postings s.groups) (freed_groups old s.groups) in
    if nat_le n left then None else Some (NotEnoughTime n left))
refusal_known s old k n i g l granted at =
    let li : i < length s.keys = slice_get_within s.keys i k at in
    let grant : has_grant (store_books s).entries k ≡ true =
    subst (λ (x : Key). has_grant (store_books s).entries x ≡ true) (get_or_from_slice_get s.keys i k k at) (granted i k li) in
    let some : has_grant (freed_books s old).entries k ≡ true = freed_granted s old k grant in
    let left : available_of (freed_books s old) k ≡ left_at i (freed_postings old s.postings s.groups) (freed_groups old s.groups) =
    available_left s.keys (freed_postings old s.postings s.groups) (freed_groups old s.groups) i k g.apart (freed_located s old g l)
    (freed_of_accounts s old g) at in
    ap (λ (b : Bool). if b then (if nat_le n (available_of (freed_books s old) k) then None
    else Some (NotEnoughTime n (available_of (freed_books s old) k))) else Some (NoSuchAllocation k.account)) some
    ∙ ap (λ (x : ℕ). if nat_le n x then None else Some (NotEnoughTime n x)) left

and_parts : (a b : Bool) → (a && b) ≡ true → (a ≡ true) × (b ≡ true)
and_parts true b h = (refl, h)
and_parts false b h = cc

-- a proposal with an account is known
pub knows_true : (s : StoreSeen) (old : Option ℕ) (p : List ℕ) → IsGranted s → Any (λ k. k.proposal ≡ p) s.keys
    → knows_proposal (freed_books s old).entries p ≡ true
knows_true s old p granted any =
    let k : Key = any.1 in
    let grant : has_grant (store_books s).entries k ≡ true = subst (λ (x : Key). has_grant (store_books s).entries x ≡ true) any.3 (granted any.0 k any.2) in
    let entry = Any-from_list_any (λ (e : Entry). is_kind Grant e.kind && is_key e.key k) (store_books s).entries grant in
    let e : Entry = entry.1 in
    let both = and_parts (is_kind Grant e.kind) (is_key e.key k) entry.4 in
    let same : e.key.proposal ≡ p = ap (λ (x : Key). x.proposal) (is_key-true e.key k both.1) ∙ any.4 in
    let pass : (is_kind Grant e.kind && is_text e.key.proposal p) ≡ true = rw (both.0, same, is_text-refl p) refl in
    let here : knows_proposal (store_books s).entries p ≡ true = list_any-from_Any (λ (x : Entry). is_kind Grant x.kind && is_text x.key.proposal p)
    (store_books s).entries (entry.0, e, entry.2, entry.3, pass) in
    later old here
  where
    later : (o : Option ℕ) → knows_proposal (store_books s).entries p ≡ true → knows_proposal (freed_books s o).entries p ≡ true
    later None h = h
    later (Some j) h =
        rw (
          map-append (entry_of s.keys) s.postings (refunds_of (group_at s.groups j)),
          list_any-append (λ (e : Entry). is_kind Grant e.kind && is_text e.key.proposal p) (map (entry_of s.keys) s.postings)
              (map (entry_of s.keys) (refunds_of (group_at s.groups j))),
          h,
        ) refl

pub knows_false : (s : StoreSeen) (old : Option ℕ) (p : List ℕ) → IsSound s → IfSome old (λ j. j < length s.groups)
    → (Any (λ k. k.proposal ≡ p) s.keys → ⊥) → knows_proposal (freed_books s old).entries p ≡ false
knows_false s old p g l absent =
    list_any_none (λ (e : Entry). is_kind Grant e.kind && is_text e.key.proposal p) (freed_books s old).entries
    (All-map (λ (e : Entry). (is_kind Grant e.kind && is_text e.key.proposal p) ≡ false) (entry_of s.keys) (freed_postings old s.postings s.groups)
    (All-weaker (λ (q : Posting). q.account < length s.keys) (λ (q : Posting). (is_kind Grant q.kind && is_text (key_at s.keys q.account).proposal p) ≡ false)
    (λ q lq. fails (is_kind Grant q.kind) (is_text (key_at s.keys q.account).proposal p)
    (λ e. absent (
      q.account,
      key_at s.keys q.account,
      lq,
      get_or_default s.keys q.account (key_at s.keys q.account) no_key lq,
      is_text-true (key_at s.keys q.account).proposal p e,
    ))) (freed_postings old s.postings s.groups) (freed_located s old g l)))
  where
    fails : (a b : Bool) → (b ≡ true → ⊥) → (a && b) ≡ false
    fails true true h = absurd (h refl)
    fails true false h = refl
    fails false b h = refl
