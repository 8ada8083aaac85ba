-- The accounts of a ledger, as a list.
use Rattle.std.proofs.Common.{◌≡◌, ◌∙◌, ap, sym, subst, refl, ℕ, ◌+◌, ◌<◌, Bool, true, false, ◌&&◌, ◌||◌, cond, List, [], ◌∷◌, length, get_or, map}
use Rattle.std.proofs.Common.{filter, fold, arith, inl, inr, Option, Some, None}
use Rattle.std.specs.Prelude.{IsSome, if◌then◌else◌}
use Rattle.std.specs.List.{Contains}
use Rattle.std.specs.BTreeSet.{insert_key}
use Rattle.std.proofs.lemmas.List.{length-map, get_or-map}
use Rattle.std.proofs.lemmas.List.Elements.{All-map, Contains-get_or}
use Rattle.allocations.specs.declared.entry.Entry.{Entry}
use Rattle.allocations.specs.declared.entry.EntryKind.TheVariants.{Grant}
use Rattle.allocations.specs.declared.entry.Hold.{Hold}
use Rattle.allocations.specs.declared.key.Key.{Key}
use Rattle.allocations.specs.Books.{Books, is_kind, has_grant, held_of, balance_of, available_of, accounts_of}
use Rattle.allocations.specs.Key.{key_cmp, is_key}
use Rattle.allocations.specs.Rising.{Rises}
use Rattle.desk_events.specs.declared.reply.AccountBalance.{AccountBalance}
use Rattle.desk_core.specs.Showing.{account_balance}
use Rattle.desk_core.proofs.KeySets.{keys_from, is_on, rises_from, on_from, from_on}
use Rattle.desk_accounts.specs.Covered.{IsCovered}
use Rattle.desk_accounts.specs.Laws.{IsShown}

-- ---- the accounts are those with a grant

abbrev as_hold : Entry → Hold
as_hold e = record { key = e.key; seconds = 0 }

-- the grants, as holds on their accounts
abbrev grants_in : List Entry → List Hold
grants_in entries = map as_hold (filter (λ e. is_kind Grant e.kind) entries)

same_keys : (ks : List Key) (es : List Entry) → fold (insert_key key_cmp) ks (map (λ e. e.key) es) ≡ keys_from ks (map as_hold es)
same_keys ks [] = refl
same_keys ks (e ∷ es) = same_keys (insert_key key_cmp ks e.key) es

accounts_are : (entries : List Entry) → accounts_of entries ≡ keys_from [] (grants_in entries)
accounts_are entries = same_keys [] (filter (λ e. is_kind Grant e.kind) entries)

granted_is : (entries : List Entry) (key : Key) → is_on key (grants_in entries) ≡ has_grant entries key
granted_is [] key = refl
granted_is (e ∷ es) key = by (is_kind Grant e.kind) (granted_is es key)
  where
    by : (b : Bool) → is_on key (grants_in es) ≡ has_grant es key
        → is_on key (map as_hold (cond b (e ∷ filter (λ x. is_kind Grant x.kind) es) (filter (λ x. is_kind Grant x.kind) es)))
        ≡ ((b && is_key e.key key) || has_grant es key)
    by true rest = ap (λ (b : Bool). is_key e.key key || b) rest
    by false rest = rest

accounts_rise : (entries : List Entry) → Rises key_cmp (accounts_of entries)
accounts_rise entries = subst (Rises key_cmp) (sym (accounts_are entries)) (rises_from [] (grants_in entries) (λ i j d l m. absurd (omega arith)))

account_granted : (entries : List Entry) (key : Key) → Contains (accounts_of entries) key → has_grant entries key ≡ true
account_granted entries key c = elim (from_on [] (grants_in entries) key (subst (λ (ks : List Key). Contains ks key) (accounts_are entries) c)) [
  | inl none ↦ (let within : none.0 < 0 = none.1 in absurd (omega (arith, within)))
  | inr on ↦ sym (granted_is entries key) ∙ on
]

granted_account : (entries : List Entry) (key : Key) → has_grant entries key ≡ true → Contains (accounts_of entries) key
granted_account entries key e =
    subst (λ (ks : List Key). Contains ks key) (sym (accounts_are entries)) (on_from [] (grants_in entries) key (granted_is entries key ∙ e))

-- ---- what is shown of them

-- what the books say of an account, none where it has no grant
abbrev pub balance_at : Books → Key → Option ℕ
balance_at books key = if has_grant books.entries key then Some (balance_of books.entries key) else None

keys_back : (books : Books) (ks : List Key) → map (λ a. a.key) (map (account_balance books) ks) ≡ ks
keys_back books [] = refl
keys_back books (k ∷ ks) = ap (λ (l : List Key). k ∷ l) (keys_back books ks)

some_granted : (books : Books) (key : Key) → IsSome (balance_at books key) → has_grant books.entries key ≡ true
some_granted books key = by (has_grant books.entries key) (balance_of books.entries key)
  where
    by : (b : Bool) (n : ℕ) → IsSome (let o : Option ℕ = if b then Some n else None in o) → b ≡ true
    by true n h = refl
    by false n h = h

-- where what is held is covered, what is available is the rest of the balance
none_cut : (books : Books) (key : Key) → IsCovered books → available_of books key + held_of books.holds key ≡ balance_of books.entries key
none_cut books key covered = let few = covered key in omega (arith, few)

-- all accounts with a grant are listed, with their balances and what is available
pub all_shown : (books : Books) (balance : Key → Option ℕ) → IsCovered books → ((key : Key) → balance_at books key ≡ balance key)
    → IsShown balance (held_of books.holds) (map (account_balance books) (accounts_of books.entries))
all_shown books balance covered is =
    let ks : List Key = accounts_of books.entries in
    let of : Key → AccountBalance = account_balance books in
    record {
      rising = subst (Rises key_cmp) (sym (keys_back books ks)) (accounts_rise books.entries);
      each = All-map (λ a. balance a.key ≡ Some a.balance) of ks (λ i d l.
          let k : Key = get_or ks i d in
          let granted : has_grant books.entries k ≡ true = account_granted books.entries k (Contains-get_or ks i d l) in
          sym (is k) ∙ ap (λ (b : Bool). let o : Option ℕ = if b then Some (balance_of books.entries k) else None in o) granted);
      available = All-map (λ a. a.available + held_of books.holds a.key ≡ a.balance) of ks (λ i d l. none_cut books (get_or ks i d) covered);
      all = λ key some.
          let c : Contains ks key = granted_account books.entries key (some_granted books key (subst IsSome (sym (is key)) some)) in
          let count : length (map of ks) ≡ length ks = length-map ks of in
          let within : c.0 < length ks = c.1 in
          (c.0, of key, omega (arith, count, within), get_or-map of ks c.0 key (of key) c.1 ∙ ap of c.2, refl);
    }
