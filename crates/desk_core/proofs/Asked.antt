-- What documents ask for, request by request, and what calls say of it.
use Rattle.std.proofs.Common.{◌≡◌, ◌≢◌, ◌∙◌, ap, sym, refl, ℕ, ◌+◌, ◌<◌, List, [], ◌∷◌, ◌++◌, length, map, drop, suc, get_or, Result, Ok, Err, arith}
use Rattle.std.specs.List.{enumerate_from}
use Rattle.std.specs.Result.{IsErrAnd, result_err}
use Rattle.std.proofs.Math.Seq.{drop-cons}
use Rattle.std.proofs.lemmas.List.{append_assoc}
use Rattle.plan_base.specs.declared.parts.Op.{Op}
use Rattle.request_model.specs.declared.request.RequestDoc.{RequestDoc}
use Rattle.desk_events.specs.declared.fault.CommandFault.{CommandFault}
use Rattle.desk_events.specs.declared.fault.CommandFault.TheVariants.{Refused, NoMemory}
use Rattle.desk_events.specs.declared.refusal.Refusal.{Refusal}
use Rattle.desk_core.specs.Desk.{DeskSeen}
use Rattle.desk_core.specs.Refusals.{refusal_in, Says}
use Rattle.desk_core.specs.Asking.{follows, turned_into, MadeSeen, made_from, gathered}

-- ---- refusals

-- what follows a refusal is refused so
pub stops : {A B : Type 0} (r : Result A Refusal) (f : A → Result B Refusal) (fault : CommandFault) → fault ≢ NoMemory
    → result_err r ≡ refusal_in fault → result_err (follows r f) ≡ refusal_in fault
stops (Err refusal) f fault memory e = e
stops (Ok x) f NoMemory memory e = absurd (memory refl)
stops (Ok x) f (Refused refusal) memory e = absurd (cc)

-- it passed on why a call before it gave up
pub says_refused : {A B : Type 0} (value : A → B) (said : Result B Refusal) (fault : CommandFault) (result : Result A CommandFault)
    → IsErrAnd result (λ f. f ≡ fault) → (fault ≢ NoMemory → result_err said ≡ refusal_in fault) → Says value said result
says_refused value said fault (Ok x) is refused = absurd is
says_refused value said fault (Err f) is refused =
    record { ok = tt; refused = λ memory. refused (λ none. memory (is ∙ none)) ∙ ap refusal_in (sym is) }

-- ---- requests in a row

pub turned_nothing : (r : Result (List MadeSeen) Refusal) → r ≡ turned_into r (λ rest. [] ++ rest)
turned_nothing (Ok made) = refl
turned_nothing (Err refusal) = refl

turned_twice : (r : Result (List MadeSeen) Refusal) (made more : List MadeSeen)
    → turned_into (turned_into r (λ rest. more ++ rest)) (λ rest. made ++ rest) ≡ turned_into r (λ rest. (made ++ more) ++ rest)
turned_twice (Ok rest) made more = ap (λ (l : List MadeSeen). let r : Result (List MadeSeen) Refusal = Ok l in r) (sym (append_assoc made more rest))
turned_twice (Err refusal) made more = refl

-- the requests from place i on, of which the first are those made from that place
from_place : (d : DeskSeen) (op : Op) (rs : List RequestDoc) (i : ℕ) (x : RequestDoc) → i < length rs
    → gathered (map (made_from d op) (enumerate_from i (drop i rs))) ≡ follows (made_from d op (i, get_or rs i x))
    (λ made. turned_into (gathered (map (made_from d op) (enumerate_from (i + 1) (drop (i + 1) rs)))) (λ rest. made ++ rest))
from_place d op rs i x l =
    let next : suc i ≡ i + 1 = omega arith in
    ap (λ (qs : List RequestDoc). gathered (map (made_from d op) (enumerate_from i qs))) (drop-cons rs i x l ∙ ap (λ (n : ℕ). get_or rs i x ∷ drop n rs) next)

pub gathered_next : (d : DeskSeen) (op : Op) (rs : List RequestDoc) (i : ℕ) (x : RequestDoc) (made more : List MadeSeen) → i < length rs
    → made_from d op (i, get_or rs i x) ≡ Ok more
    → turned_into (gathered (map (made_from d op) (enumerate_from i (drop i rs)))) (λ rest. made ++ rest)
    ≡ turned_into (gathered (map (made_from d op) (enumerate_from (i + 1) (drop (i + 1) rs)))) (λ rest. (made ++ more) ++ rest)
gathered_next d op rs i x made more l e =
    let later = gathered (map (made_from d op) (enumerate_from (i + 1) (drop (i + 1) rs))) in
    ap (λ (r : Result (List MadeSeen) Refusal). turned_into r (λ rest. made ++ rest))
    (from_place d op rs i x l ∙ ap (λ (r : Result (List MadeSeen) Refusal). follows r (λ made. turned_into later (λ rest. made ++ rest))) e)
    ∙ turned_twice later made more

pub gathered_stops : (d : DeskSeen) (op : Op) (rs : List RequestDoc) (i : ℕ) (x : RequestDoc) (made : List MadeSeen) (fault : CommandFault)
    → i < length rs → fault ≢ NoMemory → result_err (made_from d op (i, get_or rs i x)) ≡ refusal_in fault
    → result_err (turned_into (gathered (map (made_from d op) (enumerate_from i (drop i rs)))) (λ rest. made ++ rest)) ≡ refusal_in fault
gathered_stops d op rs i x made fault l memory e =
    let later = gathered (map (made_from d op) (enumerate_from (i + 1) (drop (i + 1) rs))) in
    stops (gathered (map (made_from d op) (enumerate_from i (drop i rs)))) _ fault memory
    (ap result_err (from_place d op rs i x l) ∙ stops (made_from d op (i, get_or rs i x)) _ fault memory e)
