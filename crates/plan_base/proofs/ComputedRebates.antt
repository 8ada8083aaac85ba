-- What a ONEOF and an AND of two requests give back at some prices.
use Rattle.std.proofs.Common.{◌≢◌, ℕ, zero, suc, ◌<◌, inr, ℤ, pos, neg_ℤ, ◌≤ℤ◌, [], ◌∷◌, None, slice_index_or, refl, arith}
use Rattle.std.proofs.lemmas.Int.{ints}
use Rattle.std.proofs.lemmas.List.Elements.{All-nil, All-cons}
use Rattle.std.proofs.lemmas.List.Kept.{AllPairs-cons}
use Rattle.plan_base.specs.declared.parts.Parts.{Parts}
use Rattle.plan_base.specs.declared.parts.Op.{Op}
use Rattle.plan_base.specs.declared.parts.Op.TheVariants.{OneOf, And}
use Rattle.plan_base.specs.Requests.{IsOf}
use Rattle.plan_base.specs.Bound.{price, IsRebate}
use Rattle.plan_base.proofs.Small.{asked, fading}
use Rattle.plan_base.proofs.Orders.{contains_first, contains_rest}
use Rattle.plan_base.proofs.Members.{member_is_of}
use Rattle.plan_base.proofs.Rebates.{AreMembers, rebate_of_one, rebate_of_and}

-- one group of requests 4 and 9
abbrev pair_of : Op → Parts
pair_of op = record fading {
  groups = record {
    group = record { 0 = 2 };
    op = op;
    requests = asked 4 300 70000 0 ∷ asked 9 300 60000 0
        ∷ [];
    quota = None;
  } ∷ [];
}

abbrev at_prices : Op → ℤ → ℤ → ℕ → ℤ
at_prices op a b = price (pair_of op) (a ∷ b ∷ [])

four_differs : (i : ℕ) (d : ℕ) → i < 1 → 4 ≢ slice_index_or (9 ∷ []) i d
four_differs zero d l = λ e. omega arith
four_differs (suc i) d l = absurd (omega arith)

both : (op : Op) → AreMembers (pair_of op) 0 (4 ∷ 9 ∷ [])
both op = record {
  once = AllPairs-cons (λ a b. a ≢ b) 4 (9 ∷ []) four_differs (λ i j d l m. absurd (omega arith));
  members = All-cons (IsOf (pair_of op) 0) 4 (9 ∷ []) (omega arith, refl)
      (All-cons (IsOf (pair_of op) 0) 9 [] (omega arith, refl) (All-nil (IsOf (pair_of op) 0)));
  complete = λ r is_of. member_is_of (pair_of op) 0 r is_of;
}

greater_of_two : IsRebate (pair_of OneOf) (at_prices OneOf (pos 5) (pos 7)) 0 (pos 7)
greater_of_two = rebate_of_one (pair_of OneOf) (at_prices OneOf (pos 5) (pos 7)) 0 (4 ∷ 9 ∷ []) (pos 7) (both OneOf) (λ d. refl) (record {
  least = omega (arith, ints);
  above = All-cons (λ r. at_prices OneOf (pos 5) (pos 7) r ≤ℤ pos 7) 4 (9 ∷ []) (omega (arith, ints))
      (All-cons (λ r. at_prices OneOf (pos 5) (pos 7) r ≤ℤ pos 7) 9 [] (omega (arith, ints)) (All-nil _));
  reached = inr (9, contains_rest 4 9 (9 ∷ []) (contains_first 9 []), refl);
})

sum_of_two : IsRebate (pair_of And) (at_prices And (pos 5) (neg_ℤ (pos 3))) 0 (pos 2)
sum_of_two = rebate_of_and (pair_of And) (at_prices And (pos 5) (neg_ℤ (pos 3))) 0 (4 ∷ 9 ∷ []) (both And) (λ d. refl)

none_of_two : IsRebate (pair_of And) (at_prices And (pos 5) (neg_ℤ (pos 7))) 0 (pos 0)
none_of_two = rebate_of_and (pair_of And) (at_prices And (pos 5) (neg_ℤ (pos 7))) 0 (4 ∷ 9 ∷ []) (both And) (λ d. refl)
