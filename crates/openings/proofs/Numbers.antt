-- Requests and starts, by their numbers.
use Rattle.std.proofs.Common.{◌≡◌, ℕ, ◌+◌, ◌<◌, ◌⊎◌, slice_index_or, sym, ◌∙◌, ap, arith}
use Rattle.std.proofs.lemmas.List.{get_or_default}
use Rattle.plan_base.specs.declared.parts.Parts.{Parts}
use Rattle.plan_base.specs.declared.claim.Placement.{Placement}
use Rattle.plan_base.specs.Requests.{listed, place_of, IsKnown}
use Rattle.plan_base.proofs.Known.{known_as}

pub below_or_at : (a b : ℕ) → a < b + 1 → (a < b) ⊎ (a ≡ b)
below_or_at a b h = grind arith

-- one number stands at a place
pub same_number : (s : Parts) (a b : ℕ) → IsKnown s a → IsKnown s b → place_of s a ≡ place_of s b → a ≡ b
same_number s a b known_a known_b at =
    let x = known_as s a known_a in
    let y = known_as s b known_b in
    let here : slice_index_or (listed s) (place_of s a) x.0 ≡ x.0 = x.1.at_place in
    let there : slice_index_or (listed s) (place_of s a) x.0 ≡ y.0 = ap (λ (i : ℕ). slice_index_or (listed s) i x.0) at
    ∙ get_or_default (listed s) (place_of s b) x.0 y.0 known_b ∙ y.1.at_place in
    sym x.1.number ∙ ap (λ z. z.request.request.0) (sym here ∙ there) ∙ y.1.number

pub same_start : (p q : Placement) → p.request.0 ≡ q.request.0 → p.telescope.0 ≡ q.telescope.0 → p.slice.0 ≡ q.slice.0 → p ≡ q
same_start p q r t k = λ i. record { request = record { 0 = r i }; telescope = record { 0 = t i }; slice = record { 0 = k i } }
