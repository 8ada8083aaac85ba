-- What a call that publishes decides.
use Rattle.std.proofs.Common.{◌≡◌, ◌≢◌, ℕ, Bool, true, false, cond, List, [], ◌∷◌, ◌++◌, refl}
use Rattle.std.proofs.Common.{sym, ap, ◌∙◌, subst, inl, inr, Option, Some, None, Result, Ok, Err}
use Rattle.std.specs.Prelude.{option_and_then, find}
use Rattle.std.specs.List.{list_any}
use Rattle.std.specs.Result.{IsErrAnd}
use Rattle.std.specs.Option.{unwrap_or, option_map, option_map_or}
use Rattle.std.proofs.lemmas.Bool.{or_cases, or_parts, eq-eqb}
use Rattle.plan_base.specs.declared.claim.Claim.{Claim}
use Rattle.plan_base.specs.declared.number.RequestNo.{RequestNo}
use Rattle.plan_base.specs.declared.verdict.Reason.{Reason}
use Rattle.plan_base.specs.Verdict.{IsVerdict}
use Rattle.plan_base.specs.declared.verdict.Verdict.TheVariants.{Yes, No}
use Rattle.desk_events.specs.declared.fault.CommandFault.{CommandFault}
use Rattle.desk_events.specs.declared.fault.CommandFault.TheVariants.{Refused, NoMemory}
use Rattle.desk_events.specs.declared.reply.Reply.{Reply}
use Rattle.desk_events.specs.declared.reply.Reply.TheVariants as reply
use Rattle.desk_events.specs.declared.refusal.Refusal.TheVariants.{Rejected, Stale}
use Rattle.desk_runs.specs.declared.group.Group.{Group}
use Rattle.desk_runs.specs.declared.group.Request.{Request}
use Rattle.desk_runs.specs.Numbers.{requests_of, is_request, has_request, group_with}
use Rattle.desk_runs.proofs.Places.{differs}
use Rattle.desk_core.specs.Desk.{DeskSeen}
use Rattle.desk_core.specs.DeskSnapshot.{snapshot_of}
use Rattle.desk_core.specs.Publishing.{with_publication, rejection, DecidesByVerdict}

-- ---- what a call decides

-- a claim for another version is stale
pub stale_is : (version : ℕ) (d : DeskSeen) (asked : ℕ) (claim : Claim) → asked ≢ version
    → DecidesByVerdict version d asked claim d (Err (Refused (Stale asked version)))
stale_is version d asked claim other = record {
  verdict = Yes 0 0;
  judged = λ _ same. absurd (other same);
  decides = record {
    ok = tt;
    refused = λ _. (Stale asked version, ap (λ b. cond b (rejection (Yes 0 0)) (Some (Stale asked version))) (differs asked version other), refl);
    unchanged = refl;
  };
}

-- where no memory was found, nothing is decided
pub no_memory_is : (version : ℕ) (d : DeskSeen) (asked : ℕ) (claim : Claim) → DecidesByVerdict version d asked claim d (Err NoMemory)
no_memory_is version d asked claim = record {
  verdict = Yes 0 0;
  judged = λ found. absurd (found refl);
  decides = record { ok = tt; refused = λ found. absurd (found refl); unchanged = refl };
}

pub no_memory_from : (version : ℕ) (d : DeskSeen) (asked : ℕ) (claim : Claim) (result : Result Reply CommandFault) → IsErrAnd result (λ fault. fault ≡ NoMemory)
    → DecidesByVerdict version d asked claim d result
no_memory_from version d asked claim (Ok reply) h = absurd h
no_memory_from version d asked claim (Err fault) h =
    subst (λ (f : CommandFault). DecidesByVerdict version d asked claim d (Err f)) (sym h) (no_memory_is version d asked claim)

-- a claim that isn't certified is rejected
pub rejected_is : (version : ℕ) (d : DeskSeen) (asked : ℕ) (claim : Claim) (reason : Reason) → asked ≡ version
    → IsVerdict (snapshot_of version d) claim (No reason)
    → DecidesByVerdict version d asked claim d (Err (Refused (Rejected reason)))
rejected_is version d asked claim reason same verdict = record {
  verdict = No reason;
  judged = λ _ _. verdict;
  decides = record {
    ok = tt;
    refused = λ _. (Rejected reason, ap (λ b. cond b (Some (Rejected reason)) (Some (Stale asked version))) (eq-eqb asked version same), refl);
    unchanged = refl;
  };
}

-- a claim that is certified is published
pub published_is : (version : ℕ) (d after : DeskSeen) (asked : ℕ) (claim : Claim) (value bound : ℕ) → asked ≡ version
    → IsVerdict (snapshot_of version d) claim (Yes value bound)
    → after ≡ with_publication version claim d → DecidesByVerdict version d asked claim after (Ok (reply.Published claim))
published_is version d after asked claim value bound same verdict is = record {
  verdict = Yes value bound;
  judged = λ _ _. verdict;
  decides = record {
    ok = (ap (λ b. cond b None (Some (Stale asked version))) (eq-eqb asked version same), refl, is);
    refused = tt;
    unchanged = tt;
  };
}

-- ---- the seconds of a request

found_first : {X : Type 0} (p : X → Bool) (xs ys : List X) → list_any p xs ≡ true → find p (xs ++ ys) ≡ find p xs
found_first p [] ys e = cc
found_first p (x ∷ xs) ys e = elim (or_cases (p x) (list_any p xs) e) [
  | inl here ↦ rw here refl
  | inr later ↦ ap (λ o. cond (p x) (Some x) o) (found_first p xs ys later)
]

found_later : {X : Type 0} (p : X → Bool) (xs ys : List X) → list_any p xs ≡ false → find p (xs ++ ys) ≡ find p ys
found_later p [] ys e = refl
found_later p (x ∷ xs) ys e = let both = or_parts (p x) (list_any p xs) e in rw both.0 (found_later p xs ys both.1)

-- the request of a group with a number
abbrev pub in_group : RequestNo → Group → Option Request
in_group n g = find (is_request n) g.requests

through_one : (g : Group) (gs : List Group) (n : RequestNo) → find (is_request n) (requests_of gs) ≡ option_and_then (in_group n) (group_with gs n)
    → (b : Bool) → has_request n g ≡ b
    → find (is_request n) (g.requests ++ requests_of gs) ≡ option_and_then (in_group n) (cond b (Some g) (group_with gs n))
through_one g gs n rest true e = found_first (is_request n) g.requests (requests_of gs) e
through_one g gs n rest false e = found_later (is_request n) g.requests (requests_of gs) e ∙ rest

-- a request is found through its group
pub found_through : (gs : List Group) (n : RequestNo) → find (is_request n) (requests_of gs) ≡ option_and_then (in_group n) (group_with gs n)
found_through [] n = refl
found_through (g ∷ gs) n = through_one g gs n (found_through gs n) (has_request n g) refl

or_nothing : (o : Option Request) → unwrap_or (option_map (λ q. q.seconds) o) 0 ≡ option_map_or (λ q. q.seconds) o 0
or_nothing None = refl
or_nothing (Some q) = refl

-- .. with its seconds
pub seconds_through : (gs : List Group) (n : RequestNo) (g : Group) → group_with gs n ≡ Some g
    → unwrap_or (option_map (λ q. q.seconds) (in_group n g)) 0 ≡ option_map_or (λ q. q.seconds) (find (is_request n) (requests_of gs)) 0
seconds_through gs n g e =
    or_nothing (in_group n g) ∙ ap (λ (o : Option Request). option_map_or (λ q. q.seconds) o 0) (sym (found_through gs n ∙ ap (option_and_then (in_group n)) e))

pub no_seconds : (gs : List Group) (n : RequestNo) → group_with gs n ≡ None → 0 ≡ option_map_or (λ q. q.seconds) (find (is_request n) (requests_of gs)) 0
no_seconds gs n e = ap (λ (o : Option Request). option_map_or (λ q. q.seconds) o 0) (sym (found_through gs n ∙ ap (option_and_then (in_group n)) e))
