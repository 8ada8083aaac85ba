-- What holds of a node and its children holds of each child.
use Rattle.std.proofs.Common.{◌≡◌, ℕ, zero, suc, ◌+◌, ◌≤◌, ◌<◌, true, false, Bool, ◌&&◌, List, [], ◌∷◌, ◌++◌, length, drop, slice_index_or, All, refl, arith}
use Rattle.std.proofs.lemmas.List.{length-append}
use Rattle.std.proofs.lemmas.List.Elements.{All-contains, All-contains_itself, Contains-append_left, Contains-append_right}
use Rattle.plan_base.specs.declared.parts.Parts.{Parts}
use Rattle.plan_base.specs.Requests.{IsKnown}
use Rattle.group_trees.specs.declared.tree.Tree.{Tree}
use Rattle.group_trees.specs.Trees.{Node, many, one_of, all_of, Nodes, and_then, seen, all_seen, has_child, is_full, are_full}
use Rattle.group_trees.specs.Choices.{leaves, all_leaves}
use Rattle.group_trees.specs.Pairs.{IsSound, AreSound}

and_left : (a b : Bool) → (a && b) ≡ true → a ≡ true
and_left true b h = refl
and_left false b h = h

and_right : (a b : Bool) → (a && b) ≡ true → b ≡ true
and_right true b h = h
and_right false b h = cc

all_left : (P : ℕ → Type 0) (xs ys : List ℕ) → All P (xs ++ ys) → All P xs
all_left P xs ys a = λ k d l. All-contains P (xs ++ ys) _ a (Contains-append_left xs ys _ (All-contains_itself xs k d l))

all_right : (P : ℕ → Type 0) (xs ys : List ℕ) → All P (xs ++ ys) → All P ys
all_right P xs ys a = λ k d l. All-contains P (xs ++ ys) _ a (Contains-append_right xs ys _ (All-contains_itself ys k d l))

pub sound_first : (s : Parts) (t : Node) (ts : Nodes) → AreSound s (and_then t ts) → IsSound s t
sound_first s t ts h =
    let few : length (leaves t ++ all_leaves ts) ≤ 1024 = h.few in
    let both : length (leaves t ++ all_leaves ts) ≡ length (leaves t) + length (all_leaves ts) = length-append (leaves t) (all_leaves ts) in
    record { known = all_left (IsKnown s) (leaves t) (all_leaves ts) h.known; few = omega arith; full = and_left (is_full t) (are_full ts) h.full }

pub sound_rest : (s : Parts) (t : Node) (ts : Nodes) → AreSound s (and_then t ts) → AreSound s ts
sound_rest s t ts h =
    let few : length (leaves t ++ all_leaves ts) ≤ 1024 = h.few in
    let both : length (leaves t ++ all_leaves ts) ≡ length (leaves t) + length (all_leaves ts) = length-append (leaves t) (all_leaves ts) in
    record { known = all_right (IsKnown s) (leaves t) (all_leaves ts) h.known; few = omega arith; full = and_right (is_full t) (are_full ts) h.full }

-- each child
pub sound_at : (s : Parts) (xs : List Tree) (i : ℕ) (d : Tree) → i < length xs → AreSound s (all_seen xs) → IsSound s (seen (slice_index_or xs i d))
sound_at s [] i d l h = absurd (omega arith)
sound_at s (x ∷ xs) zero d l h = sound_first s (seen x) (all_seen xs) h
sound_at s (x ∷ xs) (suc i) d l h = sound_at s xs i d (omega arith) (sound_rest s (seen x) (all_seen xs) h)

-- the children from place i on
pub sound_from : (s : Parts) (xs : List Tree) (i : ℕ) → AreSound s (all_seen xs) → AreSound s (all_seen (drop i xs))
sound_from s xs zero h = h
sound_from s [] (suc i) h = h
sound_from s (x ∷ xs) (suc i) h = sound_from s xs i (sound_rest s (seen x) (all_seen xs) h)

-- the children of a node of each kind
pub sound_many : (s : Parts) (ts : Nodes) → IsSound s (many ts) → AreSound s ts
sound_many s ts h = record { known = h.known; few = h.few; full = and_right (has_child ts) (are_full ts) h.full }

pub sound_one_of : (s : Parts) (ts : Nodes) → IsSound s (one_of ts) → AreSound s ts
sound_one_of s ts h = record { known = h.known; few = h.few; full = and_right (has_child ts) (are_full ts) h.full }

pub sound_all_of : (s : Parts) (ts : Nodes) → IsSound s (all_of ts) → AreSound s ts
sound_all_of s ts h = record { known = h.known; few = h.few; full = and_right (has_child ts) (are_full ts) h.full }

pub some_child : (xs : List Tree) → (has_child (all_seen xs) && are_full (all_seen xs)) ≡ true → 0 < length xs
some_child [] h = cc
some_child (x ∷ xs) h = omega arith
