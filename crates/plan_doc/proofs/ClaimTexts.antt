-- The text of a claim of which nothing is lost is that of no other claim, whatever numbers that has.
use Rattle.std.proofs.Common.{◌≡◌, ◌≢◌, ℕ, ℤ, suc, drop, pos, negsuc, List, [], ◌∷◌, get_or, refl, sym, ap, ◌∙◌, subst, arith}
use Rattle.std.specs.List.{AllByRecursion}
use Rattle.serde_json.specs.Written.{compact_text}
use Rattle.plan_base.specs.declared.claim.Placement.{Placement}
use Rattle.plan_base.specs.declared.claim.Claim.{Claim}
use Rattle.plan_json.specs.Exact.{IsExact}
use Rattle.plan_json.specs.Values.{whole, integer}
use Rattle.plan_json.proofs.Decimals.{IsDigit, decimal_digits, decimal_some, same_number}
use Rattle.plan_json.proofs.Cuts.{IsTold, HaveSame, same_list, have_same}
use Rattle.plan_doc.specs.Written.{placement_data, claim_data}

-- ---- numbers

whole_told : IsTold whole
whole_told = record { one = λ m n exact same. same_number m n exact same; some = λ n. decimal_some n }

integer_one : (y z : ℤ) → IsExact (integer y) → compact_text (integer y) ≡ compact_text (integer z) → y ≡ z
integer_one (pos m) (pos n) exact same = ap pos (same_number m n exact same)
integer_one (pos m) (negsuc n) exact same = let digit = subst (AllByRecursion IsDigit) same (decimal_digits m) in absurd (omega (arith, digit.0))
integer_one (negsuc m) (pos n) exact same = let digit = subst (AllByRecursion IsDigit) (sym same) (decimal_digits n) in absurd (omega (arith, digit.0))
integer_one (negsuc m) (negsuc n) exact same =
    let more : suc m ≡ suc n = same_number (suc m) (suc n) (omega (arith, exact)) (ap (drop 1) same) in
    let one : m ≡ n = omega (arith, more) in
    ap negsuc one

integer_told : IsTold integer
integer_told = record { one = integer_one; some = integer_some }
  where
    integer_some : (z : ℤ) → compact_text (integer z) ≢ []
    integer_some (pos n) none = decimal_some n none
    integer_some (negsuc n) none = cc

-- ---- placements

abbrev placement_of : List ℕ → Placement
placement_of ns = record { request = record { 0 = get_or ns 0 0 }; telescope = record { 0 = get_or ns 1 0 }; slice = record { 0 = get_or ns 2 0 } }

placement_told : IsTold placement_data
placement_told = record {
  one = λ p q exact same.
      ap placement_of (same_list whole whole_told (p.request.0 ∷ p.telescope.0 ∷ p.slice.0 ∷ []) (q.request.0 ∷ q.telescope.0 ∷ q.slice.0 ∷ []) exact same);
  some = λ p none. cc;
}

-- ---- claims

abbrev made : List Placement → List ℤ → List ℕ → ℕ → ℕ → Claim
made ps zs us v b = record { placements = ps; prices = record { 0 = zs }; quota_prices = record { 0 = us }; value = v; bound = b }

one_made : (ps qs : List Placement) (zs ys : List ℤ) (us ws : List ℕ) (v w b a : ℕ) → ps ≡ qs → zs ≡ ys → us ≡ ws → v ≡ w → b ≡ a
    → made ps zs us v b ≡ made qs ys ws w a
one_made ps qs zs ys us ws v w b a p z u x y =
    ap (λ (ns : List Placement). made ns zs us v b) p ∙ ap (λ (ns : List ℤ). made qs ns us v b) z ∙ ap (λ (ns : List ℕ). made qs ys ns v b) u
    ∙ ap (λ (n : ℕ). made qs ys ws n b) x ∙ ap (λ (n : ℕ). made qs ys ws w n) y

abbrev first : List ℕ → ℕ
first xs = get_or xs 0 0

claim_by : (ps qs : List Placement) (zs ys : List ℤ) (us ws : List ℕ) (v w b a : ℕ) → IsExact (claim_data (made ps zs us v b))
    → HaveSame (claim_data (made ps zs us v b)) (claim_data (made qs ys ws w a)) → made ps zs us v b ≡ made qs ys ws w a
claim_by ps qs zs ys [] [] v w b a exact same =
    one_made ps qs zs ys [] [] v w b a
    (same_list placement_data placement_told ps qs exact.2.1 same.2.1)
    (same_list integer integer_told zs ys exact.2.2.1 same.2.2.1) refl (same_number v w exact.2.2.2.1 same.2.2.2.1) (same_number b a exact.1 same.1)
claim_by ps qs zs ys [] (x ∷ ws) v w b a exact same = absurd (omega (arith, ap first same.2.0))
claim_by ps qs zs ys (u ∷ us) [] v w b a exact same = absurd (omega (arith, ap first same.2.0))
claim_by ps qs zs ys (u ∷ us) (x ∷ ws) v w b a exact same =
    one_made ps qs zs ys (u ∷ us) (x ∷ ws) v w b a
    (same_list placement_data placement_told ps qs exact.2.2.1 same.2.2.1)
    (same_list integer integer_told zs ys exact.2.2.2.1 same.2.2.2.1)
    (same_list whole whole_told (u ∷ us) (x ∷ ws) exact.2.2.2.2.1 same.2.2.2.2.1)
    (same_number v w exact.2.2.2.2.2.1 same.2.2.2.2.2.1) (same_number b a exact.1 same.1)

pub one_claim : (c d : Claim) → IsExact (claim_data c) → compact_text (claim_data c) ≡ compact_text (claim_data d) → c ≡ d
one_claim c d exact same =
    claim_by c.placements d.placements c.prices.0 d.prices.0 c.quota_prices.0 d.quota_prices.0 c.value d.value c.bound d.bound exact
    (have_same (claim_data c) (claim_data d) same)
