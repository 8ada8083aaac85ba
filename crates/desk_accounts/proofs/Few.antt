-- After each legal history the seconds that were granted are few.
use Rattle.std.proofs.Common.{◌≤◌, ◌<◌, ◌^◌, ℕ, Bool, true, false, cond, List, Option, Some, None, arith}
use Rattle.std.specs.Option.{option_map_or}
use Rattle.plan_base.specs.Limits.{most_version}
use Rattle.plan_io.specs.declared.lines.ScriptLine.{ScriptLine}
use Rattle.allocations.specs.declared.key.Key.{Key}
use Rattle.allocations.specs.Key.{is_key}
use Rattle.desk_events.specs.declared.entry.EventEntry.{EventEntry}
use Rattle.desk_core.specs.History.{replay, IsLegal}
use Rattle.desk_accounts.specs.Balance.{Told, GrantTold, grant_told, granted_by, seconds_granted, told_of, granted_told, all_granted}
use Rattle.desk_accounts.specs.Laws.{AreFewGrants}
use Rattle.desk_accounts.proofs.Covered.{sum_less}
use Rattle.desk_accounts.proofs.Histories.{legal_told}

-- an entry grants an account no more than it grants
part_granted : (key : Key) (t : Told) → granted_by key t ≤ seconds_granted t
part_granted key t = by (grant_told t)
  where
    on : (b : Bool) (n : ℕ) → cond b n 0 ≤ n
    on true n = omega arith
    on false n = omega arith

    by : (o : Option GrantTold) → option_map_or (λ (g : GrantTold). cond (is_key g.key key) g.seconds 0) o 0 ≤ option_map_or (λ (g : GrantTold). g.seconds) o 0
    by None = omega arith
    by (Some g) = on (is_key g.key key) g.seconds

account_granted : (entries : List Told) (key : Key) → granted_told entries key ≤ all_granted entries
account_granted entries key = sum_less (granted_by key) seconds_granted entries (λ i t l. part_granted key _)

pub grants_few : (scripts : List (List ScriptLine)) (history : List EventEntry) → IsLegal scripts history
    → AreFewGrants (told_of scripts history) (replay scripts history).version
grants_few scripts history h = record { account = account_granted (told_of scripts history); all = (legal_told scripts history h).grants }

pub grants_below : (scripts : List (List ScriptLine)) (history : List EventEntry) → IsLegal scripts history → (replay scripts history).version ≤ most_version
    → all_granted (told_of scripts history) < 10 ^ 15
grants_below scripts history h few = let all = (legal_told scripts history h).grants in omega (arith, all, few)
