-- Which accounts are granted seconds.
use Rattle.std.specs.Prelude.{ℕ, List, [], bytes_eq, codes, if◌then◌else◌, Option, Some, None, ok_or, Result, Ok}
use Rattle.serde_json.specs.Data.{Members}
use Rattle.plan_json.specs.declared.member.Member.TheVariants as member
use Rattle.plan_json.specs.declared.fault.JsonFault.{JsonFault}
use Rattle.plan_json.specs.declared.fault.JsonFault.TheVariants.{OutOfRange}
use Rattle.plan_json.specs.Object.{member_of}
use Rattle.plan_json.specs.Reading.{◌>>=◌}
use Rattle.plan_json.specs.Text.{text_in}
use Rattle.allocations.specs.declared.key.Account.{Account}
use Rattle.allocations.specs.declared.key.Account.TheVariants as account
use Rattle.allocations.specs.declared.key.Key.{Key}

-- the account with that word
abbrev pub account_named : List ℕ → Option Account
account_named word =
    if bytes_eq word (codes "standard") then Some account.Standard
    else (if bytes_eq word (codes "time_critical") then Some account.TimeCritical
    else (if bytes_eq word (codes "rapid_response") then Some account.RapidResponse
    else (if bytes_eq word (codes "ipp") then Some account.Ipp
    else None)))

-- `account`: `standard`, `time_critical`, `rapid_response` or `ipp`; any other text is out of range
abbrev pub account_of : Members → Result Account JsonFault
account_of ms = member_of text_in ms member.Account >>= λ word. ok_or (account_named word) (OutOfRange member.Account)

-- `instrument_type`, which isn't read for `ipp`
abbrev pub account_instrument_of : Account → Members → Result (List ℕ) JsonFault
account_instrument_of account.Standard ms = member_of text_in ms member.InstrumentType
account_instrument_of account.TimeCritical ms = member_of text_in ms member.InstrumentType
account_instrument_of account.RapidResponse ms = member_of text_in ms member.InstrumentType
account_instrument_of account.Ipp ms = Ok []

-- `proposal`, `account`, `instrument_type`
abbrev pub key_of : Members → Result Key JsonFault
key_of ms =
    member_of text_in ms member.Proposal >>= λ proposal.
    account_of ms >>= λ account.
    account_instrument_of account ms >>= λ instrument.
    Ok (record { proposal = proposal; account = account; instrument = instrument })
