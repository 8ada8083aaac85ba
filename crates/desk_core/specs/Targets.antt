-- The targets of a document, and their numbers.
use Rattle.std.specs.Prelude.{◌≡◌, ◌≢◌, ℕ, ◌<◌, List, [], ◌++◌, length, map, filter_map, fold, Result, IfErr, OnOk, OnErr}
use Rattle.std.specs.List.{flat_map}
use Rattle.std.specs.Ordering.{nat_cmp}
use Rattle.std.specs.BTreeSet.{insert_key}
use Rattle.plan_base.specs.declared.number.TargetNo.{TargetNo}
use Rattle.request_model.specs.declared.request.ConfigDoc.{ConfigDoc}
use Rattle.request_model.specs.declared.request.RequestDoc.{RequestDoc}
use Rattle.site_model.specs.declared.fault.SiteFault.{SiteFault}
use Rattle.site_model.specs.declared.fault.SiteFault.TheVariants.{NoMemory}
use Rattle.site_model.specs.declared.fault.FullOf.TheVariants.{Targets}
use Rattle.site_model.specs.Limits.{most_targets, full}
use Rattle.site_model.specs.Names.{number_of, numbered}
use Rattle.site_model.specs.Network.{NetworkSeen}

-- ---- the names that get numbers

-- the names of the targets of configurations
abbrev pub names_of : List ConfigDoc → List (List ℕ)
names_of configurations = map (λ c. c.target) configurations

-- those of all requests, in their order
abbrev pub target_names : List RequestDoc → List (List ℕ)
target_names requests = flat_map (λ q. names_of q.configurations) requests

-- the targets once these names have numbers, each once
abbrev pub all_numbered : List (List ℕ) → List (List ℕ) → List (List ℕ)
all_numbered targets names = fold numbered targets names

-- the network with other targets
abbrev pub with_targets : List (List ℕ) → NetworkSeen → NetworkSeen
with_targets targets n = record n { registry = record n.registry { targets = targets } }

-- the network, with more targets
pub record IsGrown (old new : NetworkSeen) : Type 0 where
  pub more : List (List ℕ)
  pub is : new ≡ with_targets (old.registry.targets ++ more) old

-- there would be too many targets
pub record AreTooMany (targets names : List (List ℕ)) (fault : SiteFault) : Type 0 where
  pub is : fault ≡ full Targets
  pub many : most_targets < length (all_numbered targets names)

-- names get numbers, or there would be too many, or there is no memory, and some have got theirs
pub record Numbers (names : List (List ℕ)) (old new : NetworkSeen) {V : Type 0} (result : Result V SiteFault) : Type 0 where
  pub ok : OnOk result (new ≡ with_targets (all_numbered old.registry.targets names) old)
  pub refused : IfErr result (λ fault. fault ≢ NoMemory → AreTooMany old.registry.targets names fault)
  pub grown : OnErr result (IsGrown old new)

-- ---- their numbers

-- the numbers of the targets of configurations, each once, in rising order
abbrev pub numbers_of : List (List ℕ) → List ConfigDoc → List ℕ
numbers_of targets configurations = fold (insert_key nat_cmp) [] (filter_map (λ c. number_of targets c.target) configurations)

-- the targets of configurations by these numbers: each once, in rising order, and none for a name that has no number
abbrev pub targets_of : List (List ℕ) → List ConfigDoc → List TargetNo
targets_of targets configurations = map (λ n. record { 0 = n }) (numbers_of targets configurations)
