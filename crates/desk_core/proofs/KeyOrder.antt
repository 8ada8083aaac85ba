-- Keys are ordered as the ledger orders them.
use Rattle.std.proofs.Common.{◌≡◌, ◌∙◌, ap, refl, List, [], ◌∷◌}
use Rattle.std.specs.Ordering.{nat_cmp, ordering_then, match_ordering}
use Rattle.std.specs.BTreeSet.{insert_key}
use Rattle.std.specs.Cmp.Lexicographic.{slice_cmp}
use Rattle.std.specs.declared.cmp.Ordering.{Ordering}
use Rattle.allocations.specs.declared.key.Account.{Account}
use Rattle.allocations.specs.declared.key.Account.TheVariants.{Standard, TimeCritical, RapidResponse, Ipp}
use Rattle.allocations.specs.declared.key.Key.{Key}
use Rattle.allocations.specs.contracts.key.AccountOrd.TheImpl as of_account
use Rattle.allocations.specs.contracts.key.KeyOrd.TheImpl as of_key
use Rattle.allocations.specs.Key.{key_cmp, account_rank}

account_order : (a b : Account) → of_account.cmp-value.it a b ≡ nat_cmp (account_rank a) (account_rank b)
account_order Standard Standard = refl
account_order Standard TimeCritical = refl
account_order Standard RapidResponse = refl
account_order Standard Ipp = refl
account_order TimeCritical Standard = refl
account_order TimeCritical TimeCritical = refl
account_order TimeCritical RapidResponse = refl
account_order TimeCritical Ipp = refl
account_order RapidResponse Standard = refl
account_order RapidResponse TimeCritical = refl
account_order RapidResponse RapidResponse = refl
account_order RapidResponse Ipp = refl
account_order Ipp Standard = refl
account_order Ipp TimeCritical = refl
account_order Ipp RapidResponse = refl
account_order Ipp Ipp = refl

pub key_order : (a b : Key) → of_key.cmp-value.it a b ≡ key_cmp a b
key_order a b =
    ap (λ (o : Ordering). ordering_then (slice_cmp nat_cmp a.proposal b.proposal) (ordering_then o (slice_cmp nat_cmp a.instrument b.instrument)))
    (account_order a.account b.account)

-- so a key goes to the same place by either
pub insert_order : (ks : List Key) (k : Key) → insert_key of_key.cmp-value.it ks k ≡ insert_key key_cmp ks k
insert_order [] k = refl
insert_order (x ∷ xs) k =
    ap (λ (o : Ordering). match_ordering o (k ∷ x ∷ xs) (x ∷ xs) (x ∷ insert_key of_key.cmp-value.it xs k)) (key_order k x)
    ∙ ap (λ (l : List Key). match_ordering (key_cmp k x) (k ∷ x ∷ xs) (x ∷ xs) (x ∷ l)) (insert_order xs k)
