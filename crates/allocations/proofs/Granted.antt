-- What one more account and one more entry leave of the books.
use Rattle.std.proofs.Common.{◌≡◌, ℕ, ◌-◌, ◌<◌, List, [], ◌∷◌, ◌++◌, length, get_or, refl, sym, ap, ◌∙◌, subst, inl, inr, ⊎_elim, arith, map, Bool}
use Rattle.std.proofs.Common.{true, false, Some, None, Option}
use Rattle.std.specs.Prelude.{All, Contains, IfSome, filter, fold, ◌&&◌, ◌||◌, ◌⊎◌}
use Rattle.std.specs.Option.{option_map}
use Rattle.std.specs.BTreeSet.{insert_key}
use Rattle.std.proofs.lemmas.List.{map-append}
use Rattle.std.proofs.lemmas.List.Elements.{All-weaker, All-contains, filter-append}
use Rattle.std.proofs.lemmas.List.Folds.{list_any-append, Any-from_list_any}
use Rattle.std.proofs.lemmas.List.Sums.{fold-append}
use Rattle.allocations.specs.declared.key.Key.{Key}
use Rattle.allocations.specs.declared.entry.Entry.{Entry}
use Rattle.allocations.specs.declared.entry.Hold.{Hold}
use Rattle.allocations.specs.declared.entry.EntryKind.{EntryKind}
use Rattle.allocations.specs.declared.entry.EntryKind.TheVariants.{Grant, Charge, Refund}
use Rattle.allocations.specs.declared.sums.Amount.{Amount}
use Rattle.allocations.specs.declared.posting.Posting.{Posting}
use Rattle.allocations.specs.declared.posting.GroupState.{GroupState}
use Rattle.allocations.specs.Key.{key_cmp, is_key}
use Rattle.std.specs.Prelude.{slice_get}
use Rattle.std.specs.Prelude.{◌↔◌}
use Rattle.std.proofs.lemmas.Option.{slice_get_within, get_or_from_slice_get, slice_get_cases}
use Rattle.std.proofs.lemmas.List.{length-map, get_or_default, get_or-map as get_or_map}
use Rattle.allocations.specs.Books.{GroupHolds, is_kind, seconds_of, balance_of, held_of, has_grant, accounts_of}
use Rattle.allocations.specs.Changes.{grant_entry, with_entry}
use Rattle.allocations.specs.Raw.{no_key, posted, held_at, key_at, entry_of, hold_of, group_of, books_of, IsOfAccounts}
use Rattle.allocations.specs.Store.{StoreSeen, given_at, with_posting, store_books, IsSound, IsGranted}
use Rattle.allocations.proofs.Keys.{is_key-refl, is_key-true}
use Rattle.allocations.proofs.Seen.{seconds_of-posted, held_of-held}
use Rattle.allocations.proofs.Tied.{map_agree, key_at-kept}

module _ (keys : List Key) (k : Key) where
  amount_kept : (m : Amount) → m.account < length keys → hold_of (keys ++ k ∷ []) m ≡ hold_of keys m
  amount_kept m l = ap (λ (x : Key). record { key = x; seconds = m.seconds }) (key_at-kept keys k m.account l)

  group_kept : (g : GroupState) → IsOfAccounts (length keys) g → group_of (keys ++ k ∷ []) g ≡ group_of keys g
  group_kept g p =
      let holds = map_agree (hold_of (keys ++ k ∷ [])) (hold_of keys) g.holds
      (All-weaker (λ m. m.account < length keys) (λ m. hold_of (keys ++ k ∷ []) m ≡ hold_of keys m) amount_kept g.holds p.0) in
      ap (λ (x : List Hold). record { group = g.group; holds = x; ipp = option_map (hold_of (keys ++ k ∷ [])) g.ipp }) holds
      ∙ ap (λ (x : Option Hold). record { group = g.group; holds = map (hold_of keys) g.holds; ipp = x }) (of_option g.ipp p.1)
    where
      of_option : (o : Option Amount) → IfSome o (λ m. m.account < length keys) → option_map (hold_of (keys ++ k ∷ [])) o ≡ option_map (hold_of keys) o
      of_option None h = refl
      of_option (Some m) h = ap (λ (x : Key). Some record { key = x; seconds = m.seconds }) (key_at-kept keys k m.account h)

  -- one more account changes nothing of the books
  pub books_kept : (ps : List Posting) (gs : List GroupState) → All (λ p. p.account < length keys) ps → All (IsOfAccounts (length keys)) gs
      → books_of (keys ++ k ∷ []) ps gs ≡ books_of keys ps gs
  books_kept ps gs located of_accounts =
      let entries = map_agree (entry_of (keys ++ k ∷ [])) (entry_of keys) ps
      (All-weaker (λ (p : Posting). p.account < length keys) (λ (p : Posting). entry_of (keys ++ k ∷ []) p ≡ entry_of keys p)
      (λ p l. ap (λ (x : Key). record { key = x; kind = p.kind; seconds = p.seconds; group = p.group; request = p.request })
      (key_at-kept keys k p.account l)) ps located) in
      let groups = map_agree (group_of (keys ++ k ∷ [])) (group_of keys) gs
      (All-weaker (IsOfAccounts (length keys)) (λ g. group_of (keys ++ k ∷ []) g ≡ group_of keys g) group_kept gs of_accounts) in
      ap (λ (x : List Entry). record { entries = x; holds = map (group_of (keys ++ k ∷ [])) gs }) entries
      ∙ ap (λ (x : List GroupHolds). record { entries = map (entry_of keys) ps; holds = x }) groups

-- entries that grant nothing leave the accounts
pub accounts_of-append : (es more : List Entry)
    → accounts_of (es ++ more) ≡ fold (insert_key key_cmp) (accounts_of es) (map (λ e. e.key) (filter (λ e. is_kind Grant e.kind) more))
accounts_of-append es more =
    ap (λ (l : List Entry). fold (insert_key key_cmp) [] (map (λ e. e.key) l)) (filter-append (λ e. is_kind Grant e.kind) es more)
    ∙ ap (λ (l : List Key). fold (insert_key key_cmp) [] l)
    (map-append (λ (e : Entry). e.key) (filter (λ e. is_kind Grant e.kind) es) (filter (λ e. is_kind Grant e.kind) more))
    ∙ fold-append (insert_key key_cmp) [] (map (λ e. e.key) (filter (λ e. is_kind Grant e.kind) es))
    (map (λ e. e.key) (filter (λ e. is_kind Grant e.kind) more))

-- a grant stays when entries are added
pub has_grant-append : (es more : List Entry) (k : Key) → has_grant es k ≡ true → has_grant (es ++ more) k ≡ true
has_grant-append es more k h = rw (list_any-append (λ (e : Entry). is_kind Grant e.kind && is_key e.key k) es more, h) refl

-- what an account's postings leave is what its entries leave
pub balance_at : (s : StoreSeen) (i : ℕ) (k : Key) → IsSound s → slice_get s.keys i ≡ Some k
    → balance_of (store_books s).entries k ≡ given_at i s.postings - posted Charge i s.postings
balance_at s i k g at =
    let li : i < length s.keys = slice_get_within s.keys i k at in
    subst (λ (x : Key). balance_of (store_books s).entries x ≡ given_at i s.postings - posted Charge i s.postings) (get_or_from_slice_get s.keys i k no_key at)
    (rw (
      seconds_of-posted s.keys g.apart i li Grant s.postings g.located,
      seconds_of-posted s.keys g.apart i li Charge s.postings g.located,
      seconds_of-posted s.keys g.apart i li Refund s.postings g.located,
    ) refl)

pub charged_at : (s : StoreSeen) (kind : EntryKind) (i : ℕ) (k : Key) → IsSound s → slice_get s.keys i ≡ Some k
    → seconds_of kind k (store_books s).entries ≡ posted kind i s.postings
charged_at s kind i k g at =
    let li : i < length s.keys = slice_get_within s.keys i k at in
    subst (λ (x : Key). seconds_of kind x (store_books s).entries ≡ posted kind i s.postings) (get_or_from_slice_get s.keys i k no_key at)
    (seconds_of-posted s.keys g.apart i li kind s.postings g.located)

pub held_of_at : (s : StoreSeen) (i : ℕ) (k : Key) → IsSound s → slice_get s.keys i ≡ Some k → held_of (store_books s).holds k ≡ held_at i s.groups
held_of_at s i k g at =
    let li : i < length s.keys = slice_get_within s.keys i k at in
    subst (λ (x : Key). held_of (store_books s).holds x ≡ held_at i s.groups) (get_or_from_slice_get s.keys i k no_key at)
    (held_of-held s.keys g.apart i li s.groups g.of_accounts)

-- one more posting is one more entry
pub posted_seen : (s : StoreSeen) (p : Posting) → store_books (with_posting s p) ≡ with_entry (entry_of s.keys p) (store_books s)
posted_seen s p = ap (λ (x : List Entry). record { entries = x; holds = map (group_of s.keys) s.groups }) (map-append (entry_of s.keys) s.postings (p ∷ []))

-- a grant is there once it is the last entry
pub has_grant-last : (es : List Entry) (k : Key) (n : ℕ) → has_grant (es ++ grant_entry k n ∷ []) k ≡ true
has_grant-last es k n = list_any-append (λ (e : Entry). is_kind Grant e.kind && is_key e.key k) es (grant_entry k n ∷ [])
    ∙ ap (λ (b : Bool). has_grant es k || (b || false)) (is_key-refl k) ∙ or_true (has_grant es k)
  where
    or_true : (b : Bool) → (b || (true || false)) ≡ true
    or_true true = refl
    or_true false = refl

-- each account has a grant once the new one has
pub granted_more : (s : StoreSeen) (es : List Entry) (key : Key) (n : ℕ) → (store_books s).entries ≡ es ++ grant_entry key n ∷ []
    → All (λ k. (has_grant es k ≡ true) ⊎ (k ≡ key)) s.keys → IsGranted s
granted_more s es key n e all i d l =
    let k : Key = get_or s.keys i d in
    let goes : has_grant (es ++ grant_entry key n ∷ []) k ≡ true =
    ⊎_elim
    (λ (h : has_grant es k ≡ true). has_grant-append es (grant_entry key n ∷ []) k h)
    (λ (same : k ≡ key). subst (λ (x : Key). has_grant (es ++ grant_entry key n ∷ []) x ≡ true) (sym same) (has_grant-last es key n))
    (all i d l) in
    subst (λ (x : List Entry). has_grant x k ≡ true) (sym e) goes

-- an account that is known has a grant
pub granted_at : (s : StoreSeen) (i : ℕ) (k : Key) → IsGranted s → slice_get s.keys i ≡ Some k → has_grant (store_books s).entries k ≡ true
granted_at s i k g at = subst (λ (x : Key). has_grant (store_books s).entries x ≡ true) (get_or_from_slice_get s.keys i k k at)
    (g i k (slice_get_within s.keys i k at))

-- an account with a grant is known
pub known_key : (keys : List Key) (ps : List Posting) (k : Key) → All (λ p. p.account < length keys) ps
    → has_grant (map (entry_of keys) ps) k ≡ true → Contains keys k
known_key keys ps k located h =
    let any = Any-from_list_any (λ (e : Entry). is_kind Grant e.kind && is_key e.key k) (map (entry_of keys) ps) h in
    let within : any.0 < length ps = rw length-map at any.2 in
    elim (slice_get_cases ps any.0).1 [
      | inl w ↦
          (let p : Posting = w.0 in
          let e : any.1 ≡ entry_of keys p = sym any.3 ∙ get_or_map (entry_of keys) ps any.0 p any.1 within ∙ ap (entry_of keys) w.3 in
          let pass : (is_kind Grant p.kind && is_key (key_at keys p.account) k) ≡ true =
          subst (λ (x : Entry). (is_kind Grant x.kind && is_key x.key k) ≡ true) e any.4 in
          let same : key_at keys p.account ≡ k =
          is_key-true (key_at keys p.account) k (second (is_kind Grant p.kind) (is_key (key_at keys p.account) k) pass) in
          let l : p.account < length keys = subst (λ (x : Posting). x.account < length keys) w.3 (located any.0 p within) in
          (p.account, l, get_or_default keys p.account k no_key l ∙ same))
      | inr w ↦ absurd (omega (arith, within, w.0))
    ]
  where
    second : (a b : Bool) → (a && b) ≡ true → b ≡ true
    second true b h = h
    second false b h = cc

-- the listed accounts are those with a grant
pub listed_granted : (s : StoreSeen) → IsSound s → IsGranted s → All (Contains s.keys) s.listed → All (Contains s.listed) s.keys → (k : Key)
    → Contains s.listed k ↔ (has_grant (store_books s).entries k ≡ true)
listed_granted s g granted listed all k = (
  (λ (c : Contains s.listed k). let here = All-contains (Contains s.keys) s.listed k listed c in
      subst (λ (x : Key). has_grant (store_books s).entries x ≡ true) here.2 (granted here.0 k here.1)),
  (λ (h : has_grant (store_books s).entries k ≡ true). All-contains (Contains s.listed) s.keys k all (known_key s.keys s.postings k g.located h)),
)
