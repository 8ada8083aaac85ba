-- How the state of a desk is kept.
use Rattle.std.specs.Option.{option_map}
use Rattle.desk_core.specs.declared.state.State.TheInside.{Inside}
use Rattle.desk_core.specs.Desk.{StateSeen, seen}
use Rattle.desk_core.specs.Kept.{IsState}

-- the state as it is seen
abbrev pub seen_state : Inside → StateSeen
seen_state a = record { version = a.version; desk = option_map seen a.desk }

-- it is one
abbrev pub IsInside : Inside → Type 0
IsInside a = IsState (seen_state a)
