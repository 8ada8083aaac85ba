-- Which starts runs have.
use Rattle.std.proofs.Common.{◌≡◌, ℕ, ◌+◌, ◌-◌, ◌<◌, ◌≤◌, inl, inr, List, [], ◌∷◌, length, slice_index_or, AllPairs, Contains, refl, sym, ◌∙◌, ap, subst, arith}
use Rattle.std.specs.Prelude.{flat_map}
use Rattle.std.proofs.lemmas.List.FromFn.{length-map-range_with_len, get_or-map-range_with_len}
use Rattle.std.proofs.lemmas.List.Elements.{All-contains, Contains-append_left, Contains-append_right, Contains-append_cases}
use Rattle.plan_base.specs.declared.claim.Placement.{Placement}
use Rattle.plan_base.proofs.Pairs.{pairs_append}
use Rattle.plan_base.proofs.Orders.{contains_cases, contains_first, contains_rest, pairs_head, pairs_tail}
use Rattle.snapshot_starts.specs.declared.run.Run.{Run}
use Rattle.snapshot_starts.specs.Runs.{start_at, starts_of_run, starts_of}

-- ---- lists of lists

pub in_flat_map : {X A : Type 0} (f : X → List A) (xs : List X) (x : X) (a : A) → Contains xs x → Contains (f x) a → Contains (flat_map f xs) a
in_flat_map f [] x a c h = absurd (omega (arith, c.1))
in_flat_map f (y ∷ ys) x a c h = elim (contains_cases y x ys c) [
  | inl same ↦ Contains-append_left (f y) (flat_map f ys) a (subst (λ (z : _). Contains (f z) a) (sym same) h)
  | inr later ↦ Contains-append_right (f y) (flat_map f ys) a (in_flat_map f ys x a later h)
]

pub from_flat_map : {X A : Type 0} (f : X → List A) (xs : List X) (a : A) → Contains (flat_map f xs) a → (x : X) × Contains xs x × Contains (f x) a
from_flat_map f [] a c = absurd (omega (arith, c.1))
from_flat_map f (y ∷ ys) a c = elim (Contains-append_cases (f y) (flat_map f ys) a c) [
  | inl here ↦ (y, contains_first y ys, here)
  | inr later ↦ let rest = from_flat_map f ys a later in (rest.0, contains_rest y rest.0 ys rest.1, rest.2)
]

pub pairs_flat_map : {X A : Type 0} (Q : X → X → Type 0) (R : A → A → Type 0) (f : X → List A) (xs : List X) → AllPairs Q xs
    → ((x : X) → Contains xs x → AllPairs R (f x))
    → ((x y : X) (a b : A) → Q x y → Contains (f x) a → Contains (f y) b → R a b) → AllPairs R (flat_map f xs)
pairs_flat_map Q R f [] q each across = λ i j d l m. absurd (omega arith)
pairs_flat_map Q R f (x ∷ xs) q each across =
    pairs_append R (f x) (flat_map f xs) (each x (contains_first x xs))
    (pairs_flat_map Q R f xs (pairs_tail Q x xs q) (λ y c. each y (contains_rest x y xs c)) across)
    (λ a b in_first in_rest. let found = from_flat_map f xs b in_rest in
    across x found.0 a b (All-contains (Q x) xs found.0 (pairs_head Q x xs q) found.1) in_first found.2)

-- ---- the starts of runs

-- the start is one of the run
pub record IsIn (run : Run) (p : Placement) : Type 0 where
  pub request : p.request ≡ run.request
  pub telescope : p.telescope ≡ run.telescope
  pub from : run.first.0 ≤ p.slice.0
  pub to : p.slice.0 < run.first.0 + run.count

pub length_of_run : (run : Run) → length (starts_of_run run) ≡ run.count
length_of_run run = length-map-range_with_len (start_at run) run.first.0 run.count

pub at_in_run : (run : Run) (i : ℕ) (d : Placement) → i < run.count → slice_index_or (starts_of_run run) i d ≡ start_at run (run.first.0 + i)
at_in_run run i d l = get_or-map-range_with_len (start_at run) run.first.0 run.count i (run.first.0 + i) d l refl

is_start_at : (run : Run) (p : Placement) → p.request ≡ run.request → p.telescope ≡ run.telescope → start_at run p.slice.0 ≡ p
is_start_at run p r t i = record { request = sym r i; telescope = sym t i; slice = p.slice }

pub start_is : (run : Run) (p : Placement) → IsIn run p → start_at run p.slice.0 ≡ p
start_is run p h = is_start_at run p h.request h.telescope

pub in_run : (run : Run) (p : Placement) → IsIn run p → Contains (starts_of_run run) p
in_run run p h =
    let from : run.first.0 ≤ p.slice.0 = h.from in
    let to : p.slice.0 < run.first.0 + run.count = h.to in
    let count : length (starts_of_run run) ≡ run.count = length_of_run run in
    let i : ℕ = p.slice.0 - run.first.0 in
    let place : run.first.0 + i ≡ p.slice.0 = omega arith in
    (i, omega arith, at_in_run run i p (omega arith) ∙ ap (start_at run) place ∙ start_is run p h)

pub from_run : (run : Run) (p : Placement) → Contains (starts_of_run run) p → IsIn run p
from_run run p (i, l, e) =
    let count : length (starts_of_run run) ≡ run.count = length_of_run run in
    let below : i < run.count = omega arith in
    let is : start_at run (run.first.0 + i) ≡ p = sym (at_in_run run i p below) ∙ e in
    let slice : run.first.0 + i ≡ p.slice.0 = ap (λ (q : Placement). q.slice.0) is in
    record {
      request = sym (ap (λ (q : Placement). q.request) is);
      telescope = sym (ap (λ (q : Placement). q.telescope) is);
      from = omega arith;
      to = omega arith;
    }

pub in_starts : (runs : List Run) (run : Run) (p : Placement) → Contains runs run → IsIn run p → Contains (starts_of runs) p
in_starts runs run p c h = in_flat_map starts_of_run runs run p c (in_run run p h)

pub from_starts : (runs : List Run) (p : Placement) → Contains (starts_of runs) p → (run : Run) × Contains runs run × IsIn run p
from_starts runs p c = let found = from_flat_map starts_of_run runs p c in (found.0, found.1, from_run found.0 p found.2)
