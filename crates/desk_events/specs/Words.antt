-- The words of replies and refusals, and of accounts in lines and replies.
use Rattle.std.specs.Prelude.{ℕ, List, codes}
use Rattle.allocations.specs.declared.key.Account.{Account}
use Rattle.allocations.specs.declared.key.Account.TheVariants as account
use Rattle.desk_events.specs.declared.refusal.FullOf.{FullOf}
use Rattle.desk_events.specs.declared.refusal.FullOf.TheVariants as full
use Rattle.plan_base.specs.declared.state.RequestState.{RequestState}
use Rattle.plan_base.specs.declared.state.RequestState.TheVariants as state

-- the word for the state of a request or of a group
abbrev pub state_word : RequestState → List ℕ
state_word state.Pending = codes "PENDING"
state_word state.Completed = codes "COMPLETED"
state_word state.WindowExpired = codes "WINDOW_EXPIRED"
state_word state.Canceled = codes "CANCELED"

-- the word for an account, as lines give it and replies tell it
abbrev pub account_word : Account → List ℕ
account_word account.Standard = codes "standard"
account_word account.TimeCritical = codes "time_critical"
account_word account.RapidResponse = codes "rapid_response"
account_word account.Ipp = codes "ipp"

-- the word for what a desk is full of
abbrev pub full_word : FullOf → List ℕ
full_word full.Instruments = codes "instruments"
full_word full.Telescopes = codes "telescopes"
full_word full.Sites = codes "sites"
full_word full.Targets = codes "targets"
full_word full.Visibility = codes "visibility"
full_word full.Closures = codes "closures"
full_word full.Accounts = codes "accounts"
full_word full.Requests = codes "requests"
