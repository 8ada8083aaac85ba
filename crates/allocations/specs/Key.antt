-- The order of accounts.
use Rattle.std.specs.Prelude.{ℕ, Bool, List}
use Rattle.std.specs.Ordering.{nat_cmp, ordering_then, is_eq}
use Rattle.std.specs.Cmp.Lexicographic.{slice_cmp}
use Rattle.std.specs.declared.cmp.Ordering.{Ordering}
use Rattle.allocations.specs.declared.key.Account.{Account}
use Rattle.allocations.specs.declared.key.Account.TheVariants.{Standard, TimeCritical, RapidResponse, Ipp}
use Rattle.allocations.specs.declared.key.Key.{Key}

-- the place of an account among those of its proposal
abbrev pub account_rank : Account → ℕ
account_rank Standard = 0
account_rank TimeCritical = 1
account_rank RapidResponse = 2
account_rank Ipp = 3

-- keys are ordered by proposal, then account, then instrument type
abbrev pub key_cmp : Key → Key → Ordering
key_cmp a b =
    ordering_then (slice_cmp nat_cmp a.proposal b.proposal)
    (ordering_then (nat_cmp (account_rank a.account) (account_rank b.account)) (slice_cmp nat_cmp a.instrument b.instrument))

-- whether two keys are the same
abbrev pub is_key : Key → Key → Bool
is_key a b = is_eq (key_cmp a b)

-- whether two texts are the same
abbrev pub is_text : List ℕ → List ℕ → Bool
is_text a b = is_eq (slice_cmp nat_cmp a b)
