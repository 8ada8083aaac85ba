-- Each request of a snapshot takes a slice at least.
use Rattle.std.proofs.Common.{◌≡◌, ℕ, ◌+◌, ◌-◌, ◌<◌, ◌≤◌, length, map, arith}
use Rattle.std.proofs.lemmas.Nat.{le-div}
use Rattle.std.proofs.lemmas.List.{length-map}
use Rattle.std.proofs.lemmas.List.Elements.{All-map}
use Rattle.plan_base.specs.declared.parts.Parts.{Parts}
use Rattle.plan_base.specs.declared.claim.Placement.{Placement}
use Rattle.plan_base.specs.Requests.{listed, place_of, IsKnown, seconds_of}
use Rattle.plan_base.specs.Snapshot.{IsOrderly}
use Rattle.plan_base.specs.Starts.{slices_for, size_of, IsPossibleStart}

pub known_seconds : (s : Parts) (r : ℕ) → IsOrderly s → IsKnown s r → 1 ≤ seconds_of s r
known_seconds s r o known =
    let count : length (map (λ x. x.request.seconds) (listed s)) ≡ length (listed s) = length-map (listed s) (λ x. x.request.seconds) in
    All-map (λ n. 1 ≤ n) (λ x. x.request.seconds) (listed s) (λ i d l. (o.ranges.seconds i d l).0) (place_of s r) 0 (omega arith)

one_slice : (len d : ℕ) → 0 < len → 1 ≤ d → 1 ≤ slices_for len d
one_slice len d h g = le-div 1 (d + len - 1) len h (omega arith)

pub size_above : (s : Parts) (r : ℕ) → IsOrderly s → IsKnown s r → 0 < size_of s r
size_above s r o known = let least : 60 ≤ s.len = o.ranges.len_least in
    let one : 1 ≤ size_of s r = one_slice s.len (seconds_of s r) (omega arith) (known_seconds s r o known) in omega arith

-- the size of a possible start is above 0
pub start_size_above : (s : Parts) → IsOrderly s → (p : Placement) → IsPossibleStart s p → 0 < size_of s p.request.0
start_size_above s o p possible = size_above s p.request.0 o possible.known
