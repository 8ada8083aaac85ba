-- Why a set of seconds has one list.
use Rattle.std.proofs.Common.{◌≡◌, ℕ, ◌≤◌, false, List, [], ◌∷◌, refl, sym, ap, ◌∙◌, inl, inr, arith}
use Rattle.std.proofs.lemmas.Bool.{cases_lt}
use Rattle.std.proofs.lemmas.Bool.Decides.{nat_tests}
use Rattle.plan_base.specs.declared.span.Span.{Span}
use Rattle.interval_set.specs.Spans.{has}
use Rattle.interval_set.specs.Laws.{OneList, UnionCommutes, MeetCommutes, PartIsRestored}
use Rattle.interval_set.proofs.Seconds.{IsSplit, split, has_before}

-- up to the end of the first span only it has seconds
up_to_end : (s : Span) (later : List Span) → IsSplit s later → (x : ℕ) → x ≤ s.to.0 → has later x ≡ false
up_to_end s later h x le = has_before later x (λ k d lt. omega (arith, h.apart k d lt))

-- two lists with the same seconds begin together ..
begins_by : (s t : Span) (a b : List Span) → IsSplit s a → IsSplit t b → ((x : ℕ) → has (s ∷ a) x ≡ has (t ∷ b) x) → t.from.0 ≤ s.from.0
begins_by s t a b left right same = elim (cases_lt s.from.0 t.from.0) [
  | inl before ↦ grind (arith, nat_tests, same s.from.0, left.nonempty, right.nonempty, up_to_end t b right s.from.0 (omega (arith, right.nonempty)))
  | inr le ↦ le
]

-- .. and their first spans end together
ends_by : (s t : Span) (a b : List Span) → IsSplit s a → IsSplit t b → ((x : ℕ) → has (s ∷ a) x ≡ has (t ∷ b) x) → s.from.0 ≡ t.from.0 → t.to.0 ≤ s.to.0
ends_by s t a b left right same from = elim (cases_lt s.to.0 t.to.0) [
  | inl before ↦ grind (arith, nat_tests, same s.to.0, left.nonempty, right.nonempty, up_to_end s a left s.to.0 (omega arith))
  | inr le ↦ le
]

-- spans are the same where they begin and end together
same_span : (s t : Span) → s.from.0 ≡ t.from.0 → s.to.0 ≡ t.to.0 → s ≡ t
same_span s t from to =
    let span : ℕ → ℕ → Span = λ m n. record { from = record { 0 = m }; to = record { 0 = n } } in
    ap (λ m. span m s.to.0) from ∙ ap (span t.from.0) to

-- and so the later ones have the same seconds
same_later : (s t : Span) (a b : List Span) → IsSplit s a → IsSplit t b → ((x : ℕ) → has (s ∷ a) x ≡ has (t ∷ b) x)
    → s.from.0 ≡ t.from.0 → s.to.0 ≡ t.to.0 → (x : ℕ) → has a x ≡ has b x
same_later s t a b left right same from to x = elim (cases_lt s.to.0 x) [
  | inl after ↦ grind (arith, nat_tests, same x)
  | inr le ↦ up_to_end s a left x le ∙ sym (up_to_end t b right x (omega arith))
]

pub one_list : OneList
one_list [] [] left right same = refl
one_list [] (t ∷ b) left right same = grind (arith, nat_tests, same t.from.0, (split t b right).nonempty)
one_list (s ∷ a) [] left right same = grind (arith, nat_tests, same s.from.0, (split s a left).nonempty)
one_list (s ∷ a) (t ∷ b) left right same =
    let p = split s a left in
    let q = split t b right in
    let same' : (x : ℕ) → has (t ∷ b) x ≡ has (s ∷ a) x = λ x. sym (same x) in
    let from : s.from.0 ≡ t.from.0 = omega (arith, begins_by s t a b p q same, begins_by t s b a q p same') in
    let to : s.to.0 ≡ t.to.0 = omega (arith, ends_by s t a b p q same from, ends_by t s b a q p same' (sym from)) in
    let later : a ≡ b = one_list a b p.sorted q.sorted (same_later s t a b p q same from to) in
    ap (λ u. u ∷ a) (same_span s t from to) ∙ ap (λ l. t ∷ l) later

pub union_commutes : UnionCommutes
union_commutes a b one other left right = one_list one other left.sorted right.sorted (λ x. grind (arith, left.seconds x, right.seconds x))

pub meet_commutes : MeetCommutes
meet_commutes a b one other left right = one_list one other left.sorted right.sorted (λ x. grind (arith, left.seconds x, right.seconds x))

pub part_is_restored : PartIsRestored
part_is_restored whole part rest back sorted within taken added =
    one_list back whole added.sorted sorted (λ x. grind (arith, within x, taken.seconds x, added.seconds x))
