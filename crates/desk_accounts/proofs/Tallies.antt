-- What entries of a ledger, and entries of a history, say of an account.
use Rattle.std.proofs.Common.{◌≡◌, ◌∙◌, ap, sym, refl, ℕ, ◌+◌, ◌-◌, Bool, true, false, ◌&&◌, List, [], ◌∷◌, ◌++◌, sum_by, Option, Some, None, arith}
use Rattle.std.specs.Prelude.{◌||◌, if◌then◌else◌}
use Rattle.std.proofs.lemmas.List.{append-nil, append_assoc}
use Rattle.std.proofs.lemmas.List.Folds.{list_any-append}
use Rattle.std.proofs.lemmas.List.Sums.{sum_by-append, sum_by_push}
use Rattle.plan_base.specs.declared.number.GroupNo.{GroupNo}
use Rattle.plan_base.specs.declared.number.RequestNo.{RequestNo}
use Rattle.allocations.specs.declared.entry.Entry.{Entry}
use Rattle.allocations.specs.declared.entry.EntryKind.TheVariants.{Grant, Charge, Refund}
use Rattle.allocations.specs.declared.entry.Hold.{Hold}
use Rattle.allocations.specs.declared.key.Key.{Key}
use Rattle.allocations.specs.Books.{is_kind, seconds_of, has_grant}
use Rattle.allocations.specs.Changes.{grant_entry, request_entry, charge_entry, refund_entry}
use Rattle.allocations.specs.Key.{is_key}
use Rattle.desk_accounts.specs.Balance.{Told, GroupTold, granted_by, grants_to, charged_by, refunded_by, has_grant_told}

-- what an account is granted and whether it is, what it is charged, and what it gets back
pub record Tally : Type 0 where
  pub granted : ℕ
  pub has : Bool
  pub charged : ℕ
  pub back : ℕ

abbrev pub nothing : Tally
nothing = record { granted = 0; has = false; charged = 0; back = 0 }

abbrev pub plus : Tally → Tally → Tally
plus a b = record { granted = a.granted + b.granted; has = a.has || b.has; charged = a.charged + b.charged; back = a.back + b.back }

-- the balance that it makes
abbrev pub balance_from : Tally → Option ℕ
balance_from t = if t.has then Some (t.granted + t.back - t.charged) else None

-- of entries of a ledger
abbrev pub tally_of : List Entry → Key → Tally
tally_of entries key =
    record {
      granted = seconds_of Grant key entries;
      has = has_grant entries key;
      charged = seconds_of Charge key entries;
      back = seconds_of Refund key entries;
    }

-- of one entry of a history
abbrev pub tally_by : List GroupTold → Told → Key → Tally
tally_by groups t key = record { granted = granted_by key t; has = grants_to key t; charged = charged_by groups key t; back = refunded_by groups key t }

-- of the entries of a history
abbrev pub tally_told : List GroupTold → List Told → Key → Tally
tally_told groups entries key =
    record {
      granted = sum_by (granted_by key) entries;
      has = has_grant_told entries key;
      charged = sum_by (charged_by groups key) entries;
      back = sum_by (refunded_by groups key) entries;
    }

-- ---- sums

pub same_tally : (a b : Tally) → a.granted ≡ b.granted → a.has ≡ b.has → a.charged ≡ b.charged → a.back ≡ b.back → a ≡ b
same_tally a b p q r s =
    ap (λ (n : ℕ). let t : Tally = record { granted = n; has = a.has; charged = a.charged; back = a.back } in t) p
    ∙ ap (λ (h : Bool). let t : Tally = record { granted = b.granted; has = h; charged = a.charged; back = a.back } in t) q
    ∙ ap (λ (n : ℕ). let t : Tally = record { granted = b.granted; has = b.has; charged = n; back = a.back } in t) r
    ∙ ap (λ (n : ℕ). let t : Tally = record { granted = b.granted; has = b.has; charged = b.charged; back = n } in t) s

or_false : (b : Bool) → (b || false) ≡ b
or_false true = refl
or_false false = refl

plain : (n : ℕ) → 0 + n ≡ n
plain n = omega arith

plain_right : (n : ℕ) → n + 0 ≡ n
plain_right n = omega arith

pub plus-nothing : (a : Tally) → plus a nothing ≡ a
plus-nothing a = same_tally (plus a nothing) a (plain_right a.granted) (or_false a.has) (plain_right a.charged) (plain_right a.back)

pub nothing-plus : (a : Tally) → plus nothing a ≡ a
nothing-plus a = same_tally (plus nothing a) a (plain a.granted) refl (plain a.charged) (plain a.back)

pub tally-append : (xs ys : List Entry) (key : Key) → tally_of (xs ++ ys) key ≡ plus (tally_of xs key) (tally_of ys key)
tally-append xs ys key =
    same_tally (tally_of (xs ++ ys) key) (plus (tally_of xs key) (tally_of ys key))
    (sum_by-append (λ (e : Entry). if is_kind Grant e.kind && is_key e.key key then e.seconds else 0) xs ys)
    (list_any-append (λ (e : Entry). is_kind Grant e.kind && is_key e.key key) xs ys)
    (sum_by-append (λ (e : Entry). if is_kind Charge e.kind && is_key e.key key then e.seconds else 0) xs ys)
    (sum_by-append (λ (e : Entry). if is_kind Refund e.kind && is_key e.key key then e.seconds else 0) xs ys)

pub told-push : (groups : List GroupTold) (entries : List Told) (t : Told) (key : Key)
    → tally_told groups (entries ++ t ∷ []) key ≡ plus (tally_told groups entries key) (tally_by groups t key)
told-push groups entries t key =
    same_tally (tally_told groups (entries ++ t ∷ []) key) (plus (tally_told groups entries key) (tally_by groups t key))
    (sum_by_push (granted_by key) entries t)
    (list_any-append (grants_to key) entries (t ∷ []) ∙ ap (λ (b : Bool). has_grant_told entries key || b) (or_false (grants_to key t)))
    (sum_by_push (charged_by groups key) entries t)
    (sum_by_push (refunded_by groups key) entries t)

-- ---- single entries of a ledger

pub grant_tally : (k : Key) (s : ℕ) (key : Key)
    → tally_of (grant_entry k s ∷ []) key ≡ record { granted = if is_key k key then s else 0; has = is_key k key; charged = 0; back = 0 }
grant_tally k s key =
    same_tally (tally_of (grant_entry k s ∷ []) key) record { granted = if is_key k key then s else 0; has = is_key k key; charged = 0; back = 0 }
    (plain (if is_key k key then s else 0)) (or_false (is_key k key)) refl refl

pub charge_tally : (n : GroupNo) (h : Hold) (key : Key)
    → tally_of (charge_entry n h ∷ []) key ≡ record { granted = 0; has = false; charged = if is_key h.key key then h.seconds else 0; back = 0 }
charge_tally n h key =
    same_tally (tally_of (charge_entry n h ∷ []) key) record { granted = 0; has = false; charged = if is_key h.key key then h.seconds else 0; back = 0 }
    refl refl (plain (if is_key h.key key then h.seconds else 0)) refl

pub request_tally : (k : Key) (s : ℕ) (n : GroupNo) (q : RequestNo) (key : Key)
    → tally_of (request_entry k s n q ∷ []) key ≡ record { granted = 0; has = false; charged = if is_key k key then s else 0; back = 0 }
request_tally k s n q key =
    same_tally (tally_of (request_entry k s n q ∷ []) key) record { granted = 0; has = false; charged = if is_key k key then s else 0; back = 0 }
    refl refl (plain (if is_key k key then s else 0)) refl

pub refund_tally : (n : GroupNo) (h : Hold) (key : Key)
    → tally_of (refund_entry n h ∷ []) key ≡ record { granted = 0; has = false; charged = 0; back = if is_key h.key key then h.seconds else 0 }
refund_tally n h key =
    same_tally (tally_of (refund_entry n h ∷ []) key) record { granted = 0; has = false; charged = 0; back = if is_key h.key key then h.seconds else 0 }
    refl refl refl (plain (if is_key h.key key then h.seconds else 0))

-- ---- what is added to a ledger

-- entries are added that say this of each account
pub record Adds (before after : List Entry) (told : Key → Tally) : Type 0 where
  pub more : List Entry
  pub entries : after ≡ before ++ more
  pub tallies : (key : Key) → tally_of more key ≡ told key

pub adds_nothing : (xs : List Entry) → Adds xs xs (λ key. nothing)
adds_nothing xs = record { more = []; entries = sym (append-nil xs); tallies = λ key. refl }

pub adds_then : (xs ys zs : List Entry) (f g : Key → Tally) → Adds xs ys f → Adds ys zs g → Adds xs zs (λ key. plus (f key) (g key))
adds_then xs ys zs f g a b = record {
  more = a.more ++ b.more;
  entries = b.entries ∙ ap (λ (l : List Entry). l ++ b.more) a.entries ∙ append_assoc xs a.more b.more;
  tallies = λ key. tally-append a.more b.more key ∙ ap (λ (t : Tally). plus t (tally_of b.more key)) (a.tallies key) ∙ ap (plus (f key)) (b.tallies key);
}

pub adds_as : (xs ys : List Entry) (f g : Key → Tally) → Adds xs ys f → ((key : Key) → f key ≡ g key) → Adds xs ys g
adds_as xs ys f g a same = record { more = a.more; entries = a.entries; tallies = λ key. a.tallies key ∙ same key }
