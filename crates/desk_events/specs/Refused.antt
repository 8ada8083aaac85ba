-- What a refused entry has beside `caller`, `line` and `version`: the number of the refusal as `no`, its name as
-- `refused`, and its further members, in any order.
use Rattle.std.specs.Prelude.{ℕ, List, [], ◌∷◌, codes}
use Rattle.serde_json.specs.Data.{string}
use Rattle.plan_json.specs.Member.{name_of}
use Rattle.plan_json.specs.Operator.{operator_name}
use Rattle.plan_json.specs.Values.{Named, has, whole}
use Rattle.desk_events.specs.declared.refusal.Refusal.{Refusal}
use Rattle.desk_events.specs.declared.refusal.Refusal.TheVariants as refusal
use Rattle.desk_events.specs.Words.{state_word, account_word, full_word}
use Rattle.plan_doc.specs.Reason.{name_of_reason, fields_of_reason, members_of_fields}

-- the number and the name of a refusal, and its further members
abbrev pub refused : ℕ → List ℕ → List Named → List Named
refused n name ms = has (codes "no") (whole n) ∷ has (codes "refused") (string name) ∷ ms

-- the refusal of a claim that isn't certified: the name of the reason, and its fields
abbrev pub rejected : List ℕ → List Named → List Named
rejected name ms = refused 32 (codes "Rejected") (has (codes "reason") (string name) ∷ ms)

-- the members that tell a refusal: its number, its name, and the members, places, words and numbers that it names
abbrev pub members_of_refusal : Refusal → List Named
members_of_refusal refusal.NotJson = refused 1 (codes "NotJson") []
members_of_refusal refusal.NotObject = refused 2 (codes "NotObject") []
members_of_refusal (refusal.Missing m) = refused 3 (codes "Missing") (has (codes "member") (string (name_of m)) ∷ [])
members_of_refusal (refusal.WrongKind m) = refused 4 (codes "WrongKind") (has (codes "member") (string (name_of m)) ∷ [])
members_of_refusal (refusal.NotWhole m) = refused 5 (codes "NotWhole") (has (codes "member") (string (name_of m)) ∷ [])
members_of_refusal (refusal.OutOfRange m) = refused 6 (codes "OutOfRange") (has (codes "member") (string (name_of m)) ∷ [])
members_of_refusal (refusal.BadMoment m) = refused 7 (codes "BadMoment") (has (codes "member") (string (name_of m)) ∷ [])
members_of_refusal (refusal.BadShape count op) =
    refused 8 (codes "BadShape") (has (codes "count") (whole count) ∷ has (codes "operator") (string (operator_name op)) ∷ [])
members_of_refusal (refusal.BadWindow index window) =
    refused 9 (codes "BadWindow") (has (codes "index") (whole index) ∷ has (codes "window") (whole window) ∷ [])
members_of_refusal (refusal.BadCadence index) = refused 10 (codes "BadCadence") (has (codes "index") (whole index) ∷ [])
members_of_refusal (refusal.TooManyWindows count index) =
    refused 11 (codes "TooManyWindows") (has (codes "count") (whole count) ∷ has (codes "index") (whole index) ∷ [])
members_of_refusal (refusal.TooLong index seconds) =
    refused 12 (codes "TooLong") (has (codes "index") (whole index) ∷ has (codes "seconds") (whole seconds) ∷ [])
members_of_refusal refusal.NoSuchTelescope = refused 13 (codes "NoSuchTelescope") []
members_of_refusal refusal.NoSuchSite = refused 14 (codes "NoSuchSite") []
members_of_refusal refusal.Repeated = refused 15 (codes "Repeated") []
members_of_refusal (refusal.Full limit what) = refused 16 (codes "Full") (has (codes "limit") (whole limit) ∷ has (codes "what") (string (full_word what)) ∷ [])
members_of_refusal refusal.NoSuchProposal = refused 17 (codes "NoSuchProposal") []
members_of_refusal (refusal.NoSuchAllocation account) = refused 18 (codes "NoSuchAllocation") (has (codes "account") (string (account_word account)) ∷ [])
members_of_refusal (refusal.NotEnoughTime available needed) =
    refused 19 (codes "NotEnoughTime") (has (codes "available") (whole available) ∷ has (codes "needed") (whole needed) ∷ [])
members_of_refusal refusal.NotOpened = refused 20 (codes "NotOpened") []
members_of_refusal refusal.AlreadyOpened = refused 21 (codes "AlreadyOpened") []
members_of_refusal (refusal.OutsideSemester index) = refused 22 (codes "OutsideSemester") (has (codes "index") (whole index) ∷ [])
members_of_refusal (refusal.NoTelescope index) = refused 23 (codes "NoTelescope") (has (codes "index") (whole index) ∷ [])
members_of_refusal refusal.NoSuchGroup = refused 24 (codes "NoSuchGroup") []
members_of_refusal (refusal.GroupClosed state) = refused 25 (codes "GroupClosed") (has (codes "state") (string (state_word state)) ∷ [])
members_of_refusal (refusal.GroupStarted request) = refused 26 (codes "GroupStarted") (has (codes "request") (whole request.0) ∷ [])
members_of_refusal refusal.NoSuchRequest = refused 27 (codes "NoSuchRequest") []
members_of_refusal refusal.NotRunning = refused 28 (codes "NotRunning") []
members_of_refusal (refusal.UsedTooLong most used) = refused 29 (codes "UsedTooLong") (has (codes "most") (whole most) ∷ has (codes "used") (whole used) ∷ [])
members_of_refusal (refusal.ClockBack asked now) = refused 30 (codes "ClockBack") (has (codes "asked") (whole asked.0) ∷ has (codes "now") (whole now.0) ∷ [])
members_of_refusal (refusal.Stale asked newer) = refused 31 (codes "Stale") (has (codes "asked") (whole asked) ∷ has (codes "newer") (whole newer) ∷ [])
members_of_refusal (refusal.Rejected why) = rejected (name_of_reason why) (members_of_fields (fields_of_reason why))
members_of_refusal refusal.UnknownCommand = refused 33 (codes "UnknownCommand") []
members_of_refusal refusal.LineTooLong = refused 34 (codes "LineTooLong") []
members_of_refusal (refusal.MixedInstruments index) = refused 35 (codes "MixedInstruments") (has (codes "index") (whole index) ∷ [])
members_of_refusal (refusal.NoSuchInstrument index) = refused 36 (codes "NoSuchInstrument") (has (codes "index") (whole index) ∷ [])
members_of_refusal refusal.NothingPublished = refused 37 (codes "NothingPublished") []
members_of_refusal (refusal.TooManyStarts count) = refused 38 (codes "TooManyStarts") (has (codes "count") (whole count) ∷ [])
members_of_refusal (refusal.WindowPast index) = refused 40 (codes "WindowPast") (has (codes "index") (whole index) ∷ [])
