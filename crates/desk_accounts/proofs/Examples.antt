-- A short history worked out by hand: grants, charges and a refund.
use Rattle.std.specs.Prelude.{◌≡◌, ℕ, List, [], ◌∷◌, Some, None, Ok, refl}
use Rattle.plan_base.specs.declared.number.GroupNo.{GroupNo}
use Rattle.plan_base.specs.declared.number.RequestNo.{RequestNo}
use Rattle.plan_base.specs.declared.parts.Op.{Op}
use Rattle.plan_base.specs.declared.parts.Op.TheVariants.{Single, Many}
use Rattle.request_model.specs.declared.group.GroupDoc.{GroupDoc}
use Rattle.request_model.specs.declared.group.ObsKind.TheVariants.{Normal}
use Rattle.request_model.specs.declared.request.RequestDoc.{RequestDoc}
use Rattle.request_model.specs.declared.request.When.TheVariants.{Windows}
use Rattle.allocations.specs.declared.key.Account.TheVariants.{Standard, Ipp}
use Rattle.allocations.specs.declared.key.Key.{Key}
use Rattle.desk_events.specs.declared.command.Command.{Command}
use Rattle.desk_events.specs.declared.command.Command.TheVariants.{Grant, Submit, Amend, Withdraw, Clock, Report}
use Rattle.desk_events.specs.declared.refusal.Refusal.TheVariants.{NothingPublished}
use Rattle.desk_events.specs.declared.reply.Reply.{Reply}
use Rattle.desk_events.specs.declared.reply.Reply.TheVariants.{Granted, Submitted, Amended, Withdrawn, Clocked, Completed, Refused}
use Rattle.desk_accounts.specs.Balance.{Told, balance_told}

abbrev text : ℕ → List ℕ
text letter = letter ∷ []

-- proposal P, on instrument types of one letter
abbrev standard : ℕ → Key
standard instrument = record { proposal = text 80; account = Standard; instrument = text instrument }

abbrev ipp : Key
ipp = record { proposal = text 80; account = Ipp; instrument = [] }

abbrev request : ℕ → RequestDoc
request instrument = record {
  location = record { class = text 49; site = None; enclosure = None; telescope = None };
  when = Windows [];
  instrument = text instrument;
  configurations = [];
  threshold = 90;
  fade = 0;
}

abbrev group : Op → List RequestDoc → GroupDoc
group op requests = record { name = text 103; proposal = text 80; op = op; kind = Normal; ipp = 1500; priority = 10; requests = requests }

abbrev numbers : ℕ → ℕ → List RequestNo
numbers a b = record { 0 = a } ∷ record { 0 = b } ∷ []

abbrev one : ℕ → List RequestNo
one a = record { 0 = a } ∷ []

abbrev entry : Command → Reply → Told
entry command reply = record { line = Ok command; reply = reply }

abbrev number : ℕ → GroupNo
number n = record { 0 = n }

-- 1000 seconds on A, 900 on B and 500 of ipp, and a grant that is refused; a group of two requests that is charged 300 of ipp, the
-- second of which takes 280 seconds on B; a group that is charged 150, and one in its place that is charged 120, of two requests of
-- a cadence, of which the second takes 290 seconds on A; and a group that is charged 150 and withdrawn
abbrev history : List Told
history =
    entry (Grant (standard 65) 1000) (Granted 1000)
    ∷ entry (Grant (standard 66) 900) (Granted 900)
    ∷ entry (Grant ipp 500) (Granted 500)
    ∷ entry (Grant ipp 70) (Refused NothingPublished)
    ∷ entry (Submit (group Many (request 65 ∷ request 66 ∷ []))) (Submitted (number 1) 300 (numbers 1 2))
    ∷ entry (Submit (group Single (request 65 ∷ []))) (Submitted (number 2) 150 (one 3))
    ∷ entry (Clock (record { 0 = 60 })) (Clocked [] [] [] (one 2))
    ∷ entry (Report (record { 0 = 2 }) 95 280) (Completed [] 280)
    ∷ entry (Amend (number 2) (group Single (request 65 ∷ [])))
    (Amended (number 3) 120 (record { group = number 2; seconds = 150 } ∷ []) (number 2) (numbers 4 5))
    ∷ entry (Report (record { 0 = 5 }) 95 290) (Completed [] 290)
    ∷ entry (Submit (group Single (request 65 ∷ []))) (Submitted (number 4) 150 (one 6))
    ∷ entry (Withdraw (number 4)) (Withdrawn (record { group = number 4; seconds = 150 } ∷ []))
    ∷ []

-- 1000 less 290
of_a : balance_told history (standard 65) ≡ Some 710
of_a = refl

-- 900 less 280
of_b : balance_told history (standard 66) ≡ Some 620
of_b = refl

-- 500 less 300, 150, 120 and 150, with twice 150 given back
of_ipp : balance_told history ipp ≡ Some 80
of_ipp = refl

-- nothing was granted on C
of_c : balance_told history (standard 67) ≡ None
of_c = refl
