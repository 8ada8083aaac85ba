-- What contracts see of a register, and how it keeps its accounts.
use Rattle.std.specs.Prelude.{◌≡◌, List, map, All, Contains, slice_get, Some}
use Rattle.allocations.specs.declared.key.Key.{Key}
use Rattle.allocations.specs.declared.register.Listed.{Listed}
use Rattle.allocations.specs.Key.{key_cmp}
use Rattle.allocations.specs.Rising.{Rises}

-- the keys by place, and the keys in their order
pub record RegisterSeen : Type 0 where
  pub keys : List Key
  pub listed : List Key

-- the keys of a list of accounts
abbrev pub keys_of : List Listed → List Key
keys_of order = map (λ l. l.key) order

-- the list rises, and has each key, with its place
pub record IsRegister (keys : List Key) (order : List Listed) : Type 0 where
  pub rising : Rises key_cmp (keys_of order)
  pub places : All (λ l. slice_get keys l.place ≡ Some l.key) order
  pub all : All (Contains (keys_of order)) keys
