-- Each group of a snapshot is of one kind, and has a request.
use Rattle.std.proofs.Common.{◌≡◌, ℕ, zero, suc, ◌+◌, ◌<◌, ◌≤◌, List, [], ◌∷◌, length, map, slice_index_or, All, refl, sym, ◌∙◌, arith}
use Rattle.std.proofs.lemmas.List.{length-map}
use Rattle.std.proofs.lemmas.List.Elements.{All-head, All-tail}
use Rattle.plan_base.specs.declared.parts.Parts.{Parts}
use Rattle.plan_base.specs.declared.parts.GroupPart.{GroupPart}
use Rattle.plan_base.specs.declared.parts.Op.{Op}
use Rattle.plan_base.specs.Requests.{IsKind, members_of, members}
use Rattle.plan_base.specs.Snapshot.{IsOrderly, most_requests}

-- the kind of a group of the snapshot
pub kind_of : (s : Parts) (g : ℕ) → g < length s.groups → (k : Op) × IsKind s k g
kind_of s g l = at s.groups g l
  where
    at : (xs : List GroupPart) (i : ℕ) → i < length xs → (k : Op) × ((d : GroupPart) → (slice_index_or xs i d).op ≡ k)
    at [] i l = absurd (omega arith)
    at (x ∷ xs) zero l = (x.op, λ d. refl)
    at (x ∷ xs) (suc i) l = at xs i (omega arith)

-- a group has one kind
pub one_kind : (s : Parts) (j k : Op) (g : ℕ) → g < length s.groups → IsKind s j g → IsKind s k g → j ≡ k
one_kind s j k g l a b = by s.groups g l a b
  where
    by : (xs : List GroupPart) (i : ℕ) → i < length xs → ((d : GroupPart) → (slice_index_or xs i d).op ≡ j)
        → ((d : GroupPart) → (slice_index_or xs i d).op ≡ k) → j ≡ k
    by [] i l a b = absurd (omega arith)
    by (x ∷ xs) zero l a b = sym (a x) ∙ b x
    by (x ∷ xs) (suc i) l a b = by xs i (omega arith) a b

-- a group of the snapshot has a request
pub some_member : (s : Parts) (g : ℕ) → IsOrderly s → g < length s.groups → 1 ≤ length (members s g)
some_member s g o l = at s.groups g l o.shapes
  where
    at : (xs : List GroupPart) (i : ℕ) → i < length xs → All (λ x. (1 ≤ length x.requests) × (length x.requests ≤ most_requests x.op)) xs
        → 1 ≤ length (slice_index_or (map members_of xs) i [])
    at [] i l a = absurd (omega arith)
    at (x ∷ xs) zero l a = let count : length (members_of x) ≡ length x.requests = length-map x.requests (λ q. q.request.0) in
        let some = All-head (λ y. (1 ≤ length y.requests) × (length y.requests ≤ most_requests y.op)) x xs a in omega (arith, some.0)
    at (x ∷ xs) (suc i) l a = at xs i (omega arith) (All-tail (λ y. (1 ≤ length y.requests) × (length y.requests ≤ most_requests y.op)) x xs a)
