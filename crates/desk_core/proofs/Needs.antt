-- What needs come to, and what is held for them.
use Rattle.std.proofs.Common.{ℕ, suc, ◌*◌, ◌≤◌, Bool, true, false, cond, List, [], ◌∷◌, length, map, filter, All, arith}
use Rattle.std.specs.List.{zip}
use Rattle.std.proofs.lemmas.List.Elements.{All-nil, All-cons, All-tail}
use Rattle.std.proofs.lemmas.List.Sums.{sum_by-le, sum_by-le-sum_by}
use Rattle.plan_base.specs.States.{is_pending}
use Rattle.request_model.specs.declared.group.GroupDoc.{GroupDoc}
use Rattle.allocations.specs.declared.entry.Hold.{Hold}
use Rattle.allocations.specs.declared.key.Key.{Key}
use Rattle.allocations.specs.Key.{is_key}
use Rattle.allocations.specs.Books.{held_in}
use Rattle.allocations.specs.Ledger.{seconds_of_holds}
use Rattle.desk_runs.specs.declared.group.Request.{Request}
use Rattle.desk_core.specs.declared.desk.Wanted.{Wanted}
use Rattle.desk_core.specs.Holds.{key_of, needs_of}

-- ---- sums

-- the needs of an account are part of all needs
pub held_at_most : (key : Key) (needs : List Hold) → held_in key needs ≤ seconds_of_holds needs
held_at_most key needs = sum_by-le-sum_by (λ h. if_key key h) (λ h. h.seconds) needs (λ h. at_most (is_key h.key key) h.seconds)
  where
    if_key : Key → Hold → ℕ
    if_key key h = cond (is_key h.key key) h.seconds 0

    at_most : (b : Bool) (n : ℕ) → cond b n 0 ≤ n
    at_most true n = omega arith
    at_most false n = omega arith

-- ---- the needs of requests

-- there is at most one for each request
pub few_needs : (document : GroupDoc) (requests : List Request) (wanted : List Wanted) → length (needs_of document (zip requests wanted)) ≤ length requests
few_needs document [] wanted = omega arith
few_needs document (q ∷ qs) [] = omega arith
few_needs document (q ∷ qs) (w ∷ ws) = by (is_pending q.state) (few_needs document qs ws)
  where
    by : (b : Bool) → length (needs_of document (zip qs ws)) ≤ length qs
        → length (map (λ p. let h : Hold = record { key = key_of document p.1; seconds = p.0.seconds } in
        h) (cond b ((q, w) ∷ filter (λ p. is_pending p.0.state) (zip qs ws)) (filter (λ p. is_pending p.0.state) (zip qs ws)))) ≤ suc (length qs)
    by true h = omega arith
    by false h = omega arith

-- each is of a request
pub short_needs : (document : GroupDoc) (requests : List Request) (wanted : List Wanted) → All (λ q. q.seconds ≤ 86400) requests
    → All (λ h. h.seconds ≤ 86400) (needs_of document (zip requests wanted))
short_needs document [] wanted h = All-nil (λ h. h.seconds ≤ 86400)
short_needs document (q ∷ qs) [] h = All-nil (λ h. h.seconds ≤ 86400)
short_needs document (q ∷ qs) (w ∷ ws) h = by (is_pending q.state) (short_needs document qs ws (All-tail (λ q. q.seconds ≤ 86400) q qs h))
  where
    by : (b : Bool) → All (λ h. h.seconds ≤ 86400) (needs_of document (zip qs ws))
        → All (λ h. h.seconds ≤ 86400) (map (λ p. let h : Hold = record { key = key_of document p.1; seconds = p.0.seconds } in
        h) (cond b ((q, w) ∷ filter (λ p. is_pending p.0.state) (zip qs ws)) (filter (λ p. is_pending p.0.state) (zip qs ws))))
    by true rest = All-cons (λ h. h.seconds ≤ 86400) _ (needs_of document (zip qs ws)) (h 0 q (omega arith)) rest
    by false rest = rest

-- so they come to little
pub small_needs : (document : GroupDoc) (requests : List Request) (wanted : List Wanted) → length requests ≤ 256
    → All (λ q. q.seconds ≤ 86400) requests → seconds_of_holds (needs_of document (zip requests wanted)) ≤ 22118400
small_needs document requests wanted few short =
    let needs = needs_of document (zip requests wanted) in
    let most = sum_by-le (λ h. h.seconds) 86400 needs (short_needs document requests wanted short) in
    let count = few_needs document requests wanted in
    omega (arith, scale (length needs) 256 (omega arith))
  where
    scale : (a b : ℕ) → a ≤ b → a * 86400 ≤ b * 86400
    scale a b h = omega arith
