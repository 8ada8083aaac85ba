-- How often numbers are claimed, and which are claimed next.
use Rattle.std.proofs.Common.{◌≡◌, ℕ, suc, ◌+◌, ◌≤◌, ◌<◌, ◌==◌, Bool, cond, eq-eqb, ne_eqb, List, [], ◌∷◌, ◌++◌, length, All, ap, ◌∙◌, refl, add-zero}
use Rattle.std.proofs.Common.{arith, lt_of_not-le}
use Rattle.std.proofs.lemmas.List.Elements.{All-nil, All-cons}
use Rattle.std.proofs.lemmas.List.Sums.{sum_by-cons, sum_by-append}
use mathlib.Core.Logic.{dite}
use native.Mathlib.Decide.{dec_le, ℕ_discrete}
use Rattle.board.specs.Views.{times, EachOnce}

-- what was claimed by either of two seats
pub times_both : (number : ℕ) (xs ys : List ℕ) → times number (xs ++ ys) ≡ times number xs + times number ys
times_both number xs ys = sum_by-append (λ x. cond (x == number) 1 0) xs ys

pub times_one : (number x : ℕ) → times number (x ∷ []) ≡ cond (x == number) 1 0
times_one number x =
    let one : times number (x ∷ []) ≡ cond (x == number) 1 0 + times number [] = sum_by-cons (λ y. cond (y == number) 1 0) x [] in
    one ∙ add-zero (cond (x == number) 1 0)

-- the numbers are those from one count up to another, each once
pub record Follow (first count : ℕ) (numbers : List ℕ) : Type 0 where
  pub below : (number : ℕ) → number < first → times number numbers ≡ 0
  pub within : (number : ℕ) → first ≤ number → number < count → times number numbers ≡ 1
  pub above : (number : ℕ) → count ≤ number → times number numbers ≡ 0
  pub counted : count ≡ first + length numbers

pub none_follow : (first : ℕ) → Follow first first []
none_follow first = record {
  below = λ number lt. refl;
  within = λ number le lt. absurd (omega arith);
  above = λ number le. refl;
  counted = omega arith;
}

pub one_follows : (first count : ℕ) → count ≡ first + 1 → Follow first count (first ∷ [])
one_follows first count next =
    let other : (number : ℕ) → ¬ (first ≡ number) → times number (first ∷ []) ≡ 0 =
    λ number ne. times_one number first ∙ ap (λ (b : Bool). cond b 1 0) (ne_eqb first number ne) in
    let same : (number : ℕ) → first ≡ number → times number (first ∷ []) ≡ 1 =
    λ number e. times_one number first ∙ ap (λ (b : Bool). cond b 1 0) (eq-eqb first number e) in
    record {
      below = λ number lt. other number (λ e. absurd (omega arith));
      within = λ number le lt. same number (omega arith);
      above = λ number le. other number (λ e. absurd (omega arith));
      counted = omega arith;
    }

-- numbers that follow are claimed too
pub each_once_more : (first count : ℕ) (numbers : List ℕ) (old new : ℕ → ℕ) → EachOnce first old → Follow first count numbers
    → ((number : ℕ) → new number ≡ old number + times number numbers) → EachOnce count new
each_once_more first count numbers old new once follow more = λ number. (
  (λ lt. dite (dec_le first number)
      (λ le.
      let before : old number ≡ 0 = (once number).1 le in
      let now : times number numbers ≡ 1 = follow.within number le lt in
      let sum : new number ≡ old number + times number numbers = more number in
      omega arith)
      (λ no.
      let less : number < first = lt_of_not-le no in
      let before : old number ≡ 1 = (once number).0 less in
      let now : times number numbers ≡ 0 = follow.below number less in
      let sum : new number ≡ old number + times number numbers = more number in
      omega arith)),
  (λ le.
      let counted : count ≡ first + length numbers = follow.counted in
      let before : old number ≡ 0 = (once number).1 (omega arith) in
      let now : times number numbers ≡ 0 = follow.above number le in
      let sum : new number ≡ old number + times number numbers = more number in
      omega arith),
)

-- where no number from a count up stands in the list, all are below it
pub below_count : (count : ℕ) (xs : List ℕ) → ((number : ℕ) → count ≤ number → times number xs ≡ 0) → All (λ x. x < count) xs
below_count count [] none = All-nil (λ x. x < count)
below_count count (y ∷ ys) none =
    let small : y < count = dite (dec_le count y)
    (λ le.
    let whole : times y (y ∷ ys) ≡ 0 = none y le in
    let split : times y (y ∷ ys) ≡ cond (y == y) 1 0 + times y ys = sum_by-cons (λ x. cond (x == y) 1 0) y ys in
    let one : cond (y == y) 1 0 + times y ys ≡ 1 + times y ys = ap (λ (b : Bool). cond b 1 0 + times y ys) (eq-eqb y y refl) in
    absurd (omega arith))
    (λ no. lt_of_not-le no) in
    let rest : (number : ℕ) → count ≤ number → times number ys ≡ 0 = λ number le.
    let whole : times number (y ∷ ys) ≡ 0 = none number le in
    let split : times number (y ∷ ys) ≡ cond (y == number) 1 0 + times number ys = sum_by-cons (λ x. cond (x == number) 1 0) y ys in
    omega arith in
    All-cons (λ x. x < count) y ys small (below_count count ys rest)

-- and a number that stands in the list is below the count where all are
pub is_below : (count number : ℕ) (xs : List ℕ) → All (λ x. x < count) xs → 0 < times number xs → number < count
is_below count number [] all there = absurd (omega arith)
is_below count number (y ∷ ys) all there = dite (ℕ_discrete y number)
    (λ same. let here : y < count = all 0 0 (omega arith) in omega arith)
    (λ other.
    let split : times number (y ∷ ys) ≡ cond (y == number) 1 0 + times number ys = sum_by-cons (λ x. cond (x == number) 1 0) y ys in
    let none : cond (y == number) 1 0 + times number ys ≡ 0 + times number ys = ap (λ (b : Bool). cond b 1 0 + times number ys) (ne_eqb y number other) in
    is_below count number ys (λ i d lt. all (suc i) d (omega arith)) (omega arith))
