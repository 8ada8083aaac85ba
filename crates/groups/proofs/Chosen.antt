-- From the prices of a group's requests to what it takes.
use Rattle.std.proofs.Common.{◌≡◌, ℕ, zero, suc, ◌<◌, ◌≤◌, Bool, true, false, ◌&&◌, nat_lt, int_lt, int_le, ℤ, pos, List, [], ◌∷◌, length, map, take}
use Rattle.std.proofs.Common.{drop, slice_index_or, None, All, AllPairs, refl, sym, ◌∙◌, ap, subst, arith}
use Rattle.std.specs.List.{list_all}
use Rattle.std.specs.Prelude.{if◌then◌else◌}
use Rattle.std.proofs.lemmas.Bool.Decides.{nat_tests}
use Rattle.std.proofs.lemmas.List.{get_or-map}
use Rattle.std.proofs.lemmas.List.Elements.{All-cons, All-head, All-tail, Contains-get_or}
use Rattle.plan_base.specs.declared.parts.Parts.{Parts}
use Rattle.plan_base.specs.declared.parts.GroupPart.{GroupPart}
use Rattle.plan_base.specs.declared.parts.Op.{Op}
use Rattle.plan_base.specs.declared.parts.Op.TheVariants.{Single, Many, OneOf, And}
use Rattle.plan_base.specs.Requests.{members, IsKind, IsOf}
use Rattle.plan_base.specs.Snapshot.{IsOrderly}
use Rattle.plan_base.specs.Bound.{price}
use Rattle.plan_base.specs.Round.{op_at, takes, is_taken}
use Rattle.plan_base.proofs.Orders.{pairs_head, pairs_tail}
use Rattle.plan_base.proofs.Totals.{total_map}
use Rattle.plan_base.proofs.Members.{is_of_member, members_rise}
use Rattle.plan_base.specs.NetPrices.{group_prices, price_sum, is_first_greatest}
use Rattle.groups.specs.Takings.{takes_at}

-- what the group at place g takes of its requests
pub taken_at : (s : Parts) (c : ℕ → ℤ) (g i : ℕ) (op : Op) → IsOrderly s → g < length s.groups → i < length (members s g) → IsKind s op g
    → is_taken s c (slice_index_or (members s g) i 0) ≡ takes op c (members s g) (slice_index_or (members s g) i 0)
taken_at s c g i op o l k kind =
    let r : ℕ = slice_index_or (members s g) i 0 in
    let of : IsOf s g r = is_of_member s g r o (Contains-get_or (members s g) i 0 k) in
    let some : GroupPart = record { group = record { 0 = 0 }; op = Single; requests = []; quota = None } in
    let op_is : op_at s g ≡ op = get_or-map (λ x. x.op) s.groups g some Single l ∙ kind some in
    ap (λ (h : ℕ). takes (op_at s h) c (members s h) r) of.1 ∙ ap (λ (k : Op). takes k c (members s g) r) op_is

-- the price of the request at a place of the group
pub price_at : (s : Parts) (prices : List ℤ) (g i : ℕ) → i < length (members s g)
    → slice_index_or (group_prices s prices g) i (pos 0) ≡ price s prices (slice_index_or (members s g) i 0)
price_at s prices g i l = get_or-map (price s prices) (members s g) i 0 (pos 0) l

above_test : (m r : ℕ) → r ≤ m → nat_lt m r ≡ false
above_test m r l = grind (arith, nat_tests)

below_test : (m r : ℕ) → m < r → nat_lt m r ≡ true
below_test m r l = grind (arith, nat_tests)

-- the test of a ONEOF for one of its requests
abbrev beats : (ℕ → ℤ) → ℤ → ℕ → ℕ → Bool
beats c p r m = if nat_lt m r then int_lt (c m) p else int_le (c m) p

from_here : (c : ℕ → ℤ) (p : ℤ) (r : ℕ) (ms : List ℕ) → All (λ m. r ≤ m) ms → list_all (beats c p r) ms ≡ list_all (λ x. int_le x p) (map c ms)
from_here c p r [] a = refl
from_here c p r (m ∷ ms) a =
    ap (λ (b : Bool). (if b then int_lt (c m) p else int_le (c m) p) && list_all (beats c p r) ms) (above_test m r (All-head (λ m. r ≤ m) m ms a))
    ∙ ap (λ (b : Bool). int_le (c m) p && b) (from_here c p r ms (All-tail (λ m. r ≤ m) m ms a))

and_join : (a b x y : Bool) → b ≡ (x && y) → (a && b) ≡ ((a && x) && y)
and_join true b x y e = e
and_join false b x y e = refl

above_each : (m : ℕ) (ms : List ℕ) → All (λ n. m < n) ms → All (λ n. m ≤ n) (m ∷ ms)
above_each m ms a = All-cons (λ n. m ≤ n) m ms (omega arith) (λ i d l. let less = a i d l in omega arith)

-- the requests before the one at i have a lower price than it, and the others no higher one
pub beats_all : (c : ℕ → ℤ) (p : ℤ) (r : ℕ) (ms : List ℕ) (i : ℕ) → AllPairs (λ a b. a < b) ms → i < length ms → slice_index_or ms i 0 ≡ r
    → list_all (beats c p r) ms ≡ (list_all (λ x. int_lt x p) (take i (map c ms)) && list_all (λ x. int_le x p) (drop i (map c ms)))
beats_all c p r [] i rise l e = absurd (omega arith)
beats_all c p r (m ∷ ms) zero rise l e =
    from_here c p r (m ∷ ms) (subst (λ (n : ℕ). All (λ k. n ≤ k) (m ∷ ms)) e (above_each m ms (pairs_head (λ a b. a < b) m ms rise)))
beats_all c p r (m ∷ ms) (suc i) rise l e =
    let less : m < slice_index_or ms i 0 = pairs_head (λ a b. a < b) m ms rise i 0 (omega arith) in
    let before : nat_lt m r ≡ true = below_test m r (omega arith) in
    ap (λ (b : Bool). (if b then int_lt (c m) p else int_le (c m) p) && list_all (beats c p r) ms) before
    ∙ and_join (int_lt (c m) p) (list_all (beats c p r) ms) _ _ (beats_all c p r ms i (pairs_tail (λ a b. a < b) m ms rise) (omega arith) e)

pub taken_single : (s : Parts) (prices : List ℤ) (g i : ℕ) → IsOrderly s → g < length s.groups → i < length (members s g) → IsKind s Single g
    → int_lt (pos 0) (slice_index_or (group_prices s prices g) i (pos 0)) ≡ is_taken s (price s prices) (slice_index_or (members s g) i 0)
taken_single s prices g i o l k kind = ap (int_lt (pos 0)) (price_at s prices g i k) ∙ sym (taken_at s (price s prices) g i Single o l k kind)

pub taken_many : (s : Parts) (prices : List ℤ) (g i : ℕ) → IsOrderly s → g < length s.groups → i < length (members s g) → IsKind s Many g
    → int_lt (pos 0) (slice_index_or (group_prices s prices g) i (pos 0)) ≡ is_taken s (price s prices) (slice_index_or (members s g) i 0)
taken_many s prices g i o l k kind = ap (int_lt (pos 0)) (price_at s prices g i k) ∙ sym (taken_at s (price s prices) g i Many o l k kind)

pub taken_and : (s : Parts) (prices : List ℤ) (g i : ℕ) → IsOrderly s → g < length s.groups → i < length (members s g) → IsKind s And g
    → int_lt (pos 0) (price_sum (group_prices s prices g)) ≡ is_taken s (price s prices) (slice_index_or (members s g) i 0)
taken_and s prices g i o l k kind = ap (int_lt (pos 0)) (sym (total_map (λ c. c) (price s prices) (members s g)))
    ∙ sym (taken_at s (price s prices) g i And o l k kind)

pub taken_one : (s : Parts) (prices : List ℤ) (g i : ℕ) → IsOrderly s → g < length s.groups → i < length (members s g) → IsKind s OneOf g
    → (int_lt (pos 0) (slice_index_or (group_prices s prices g) i (pos 0)) && is_first_greatest (group_prices s prices g) i)
    ≡ is_taken s (price s prices) (slice_index_or (members s g) i 0)
taken_one s prices g i o l k kind =
    let r : ℕ = slice_index_or (members s g) i 0 in
    let c : ℕ → ℤ = price s prices in
    let is : slice_index_or (group_prices s prices g) i (pos 0) ≡ c r = price_at s prices g i k in
    ap (λ (p : ℤ). int_lt (pos 0) p
    && (list_all (λ x. int_lt x p) (take i (group_prices s prices g)) && list_all (λ x. int_le x p) (drop i (group_prices s prices g)))) is
    ∙ ap (λ (b : Bool). int_lt (pos 0) (c r) && b) (sym (beats_all c (c r) r (members s g) i (members_rise s g o) k refl))
    ∙ sym (taken_at s c g i OneOf o l k kind)

-- what a group takes at the net prices of its requests
pub takes_is : (s : Parts) (net : List ℤ) (g i : ℕ) (op : Op) → IsOrderly s → g < length s.groups → i < length (members s g) → IsKind s op g
    → takes_at op (group_prices s net g) i ≡ is_taken s (price s net) (slice_index_or (members s g) i 0)
takes_is s net g i Single o l k kind = taken_single s net g i o l k kind
takes_is s net g i Many o l k kind = taken_many s net g i o l k kind
takes_is s net g i OneOf o l k kind = taken_one s net g i o l k kind
takes_is s net g i And o l k kind = taken_and s net g i o l k kind
