-- From the prices of a group's requests to its rebate.
use Rattle.std.proofs.Common.{ℕ, ◌⊎◌, inl, inr, ℤ, ◌≤ℤ◌, List, [], ◌∷◌, map, All, sym, subst}
use Rattle.std.proofs.lemmas.List.Elements.{All-nil, All-cons, All-head, All-tail}
use Rattle.plan_base.specs.declared.parts.Parts.{Parts}
use Rattle.plan_base.specs.declared.parts.Op.TheVariants.{Single, Many, OneOf, And}
use Rattle.plan_base.specs.Requests.{IsKind, members}
use Rattle.plan_base.specs.Snapshot.{IsOrderly}
use Rattle.plan_base.specs.Bound.{IsRebate}
use Rattle.plan_base.proofs.Totals.{total_map}
use Rattle.plan_base.proofs.Members.{are_members, contains_from_map}
use Rattle.plan_base.proofs.Rebates.{rebate_of_any, rebate_of_one, rebate_of_and}
use Rattle.plan_base.specs.NetPrices.{positive, positive_sum, price_sum, IsGreatestPrice}

pub rebate_any : (s : Parts) (c : ℕ → ℤ) (g : ℕ) → IsOrderly s → IsKind s Single g ⊎ IsKind s Many g → IsRebate s c g (positive_sum (map c (members s g)))
rebate_any s c g o kind =
    subst (λ (b : ℤ). IsRebate s c g b) (total_map positive c (members s g)) (rebate_of_any s c g (members s g) (are_members s g o) kind)

pub rebate_and : (s : Parts) (c : ℕ → ℤ) (g : ℕ) → IsOrderly s → IsKind s And g → IsRebate s c g (positive (price_sum (map c (members s g))))
rebate_and s c g o kind =
    subst (λ (b : ℤ). IsRebate s c g (positive b)) (total_map (λ z. z) c (members s g)) (rebate_of_and s c g (members s g) (are_members s g o) kind)

pub all_from_map : {X Y : Type 0} (P : Y → Type 0) (f : X → Y) (xs : List X) → All P (map f xs) → All (λ x. P (f x)) xs
all_from_map P f [] a = All-nil (λ x. P (f x))
all_from_map P f (x ∷ xs) a = All-cons (λ y. P (f y)) x xs (All-head P (f x) (map f xs) a) (all_from_map P f xs (All-tail P (f x) (map f xs) a))

pub rebate_one : (s : Parts) (c : ℕ → ℤ) (g : ℕ) (b : ℤ) → IsOrderly s → IsKind s OneOf g → IsGreatestPrice (map c (members s g)) b → IsRebate s c g b
rebate_one s c g b o kind greatest =
    rebate_of_one s c g (members s g) b (are_members s g o) kind
    (record {
      least = greatest.least;
      above = all_from_map (λ z. z ≤ℤ b) c (members s g) greatest.above;
      reached = elim greatest.reached [
        | inl none ↦ inl none
        | inr has ↦ let found = contains_from_map c (members s g) b has in inr (found.0, found.1, sym found.2)
      ];
    })
