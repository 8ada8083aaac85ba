-- The spans of the seconds that pass are the one sorted list with gaps that has them.
use Rattle.std.proofs.Common.{◌≡◌, ℕ, zero, suc, ◌+◌, ◌<◌, ◌≤◌, Bool, true, false, cond, List, [], ◌∷◌, refl, sym, ◌∙◌, arith}
use Rattle.std.specs.Prelude.{◌&&◌, ◌||◌, ◌==◌, nat_lt, All, IsTrue}
use Rattle.std.proofs.lemmas.Bool.Decides.{nat_tests}
use Rattle.std.proofs.lemmas.List.Elements.{All-nil, All-cons, All-head, All-tail, All-weaker}
use Rattle.std.proofs.lemmas.List.Kept.{AllPairs-cons}
use Rattle.plan_base.specs.declared.span.Span.{Span}
use Rattle.interval_set.specs.Spans.{has, IsSortedApart, IsSetOf}
use Rattle.interval_set.proofs.Seconds.{split}
use Rattle.interval_set.proofs.OneList.{one_list}
use Rattle.desk_core.specs.Seconds.{second, with_second, spans_below, spans_of, end_of_time}

-- ---- one second more

-- no spans are a set of no seconds
none_sorted : IsSortedApart []
none_sorted = record { nonempty = All-nil (λ w. w.from.0 < w.to.0); apart = λ i j d lt in_range. absurd (omega arith) }

-- a span before a set of later ones
first_sorted : (s : Span) (later : List Span) → s.from.0 < s.to.0 → All (λ t. s.to.0 < t.from.0) later → IsSortedApart later → IsSortedApart (s ∷ later)
first_sorted s later full after sorted = record {
  nonempty = All-cons (λ w. w.from.0 < w.to.0) s later full sorted.nonempty;
  apart = AllPairs-cons (λ v w. v.to.0 < w.from.0) s later after sorted.apart;
}

-- what begins after a second still does
after_last : (s : Span) (b x : ℕ) → b < x → b < s.from.0 → (c : Bool)
    → All (λ t. b < t.from.0) (cond c (record s { to = record { 0 = x + 1 } } ∷ []) (s ∷ second x ∷ []))
after_last s b x lt here c = elim c as (λ v. All (λ t. b < t.from.0) (cond v (record s { to = record { 0 = x + 1 } } ∷ []) (s ∷ second x ∷ []))) [
  | true ↦ All-cons (λ t. b < t.from.0) (record s { to = record { 0 = x + 1 } }) [] here (All-nil (λ t. b < t.from.0))
  | false ↦ All-cons (λ t. b < t.from.0) s (second x ∷ []) here (All-cons (λ t. b < t.from.0) (second x) [] lt (All-nil (λ t. b < t.from.0)))
]

after_stays : (spans : List Span) (b x : ℕ) → b < x → All (λ t. b < t.from.0) spans → All (λ t. b < t.from.0) (with_second spans x)
after_stays [] b x lt after = All-cons (λ t. b < t.from.0) (second x) [] lt (All-nil (λ t. b < t.from.0))
after_stays (s ∷ []) b x lt after = after_last s b x lt (All-head (λ t. b < t.from.0) s [] after) (s.to.0 == x)
after_stays (s ∷ t ∷ spans) b x lt after =
    All-cons (λ u. b < u.from.0) s (with_second (t ∷ spans) x) (All-head (λ u. b < u.from.0) s (t ∷ spans) after)
    (after_stays (t ∷ spans) b x lt (All-tail (λ u. b < u.from.0) s (t ∷ spans) after))

-- the spans have the seconds of the old ones and second x, and end by it
record IsOneMore (old : List Span) (x : ℕ) (new : List Span) : Type 0 where
  pub seconds : (y : ℕ) → has new y ≡ (has old y || (y == x))
  pub sorted : IsSortedApart new
  pub ended : All (λ s. s.to.0 ≤ x + 1) new

second_sorted : (x : ℕ) → IsSortedApart (second x ∷ [])
second_sorted x = first_sorted (second x) [] (omega arith) (All-nil (λ t. x + 1 < t.from.0)) none_sorted

second_ended : (x : ℕ) → All (λ s. s.to.0 ≤ x + 1) (second x ∷ [])
second_ended x = All-cons (λ s. s.to.0 ≤ x + 1) (second x) [] (omega arith) (All-nil (λ s. s.to.0 ≤ x + 1))

-- second x goes on a span that ends there, or after one that has ended before
one_more_last : (s : Span) (x : ℕ) → s.from.0 < s.to.0 → s.to.0 ≤ x → (c : Bool) → c ≡ (s.to.0 == x)
    → IsOneMore (s ∷ []) x (cond c (record s { to = record { 0 = x + 1 } } ∷ []) (s ∷ second x ∷ []))
one_more_last s x full le c = elim c as
    (λ v. v ≡ (s.to.0 == x) → IsOneMore (s ∷ []) x (cond v (record s { to = record { 0 = x + 1 } } ∷ []) (s ∷ second x ∷ []))) [
      | true ↦ λ e.
          let touch : s.to.0 ≡ x = grind (arith, nat_tests) in
          record {
            seconds = λ y. grind (arith, nat_tests);
            sorted = first_sorted (record s { to = record { 0 = x + 1 } }) [] (omega arith) (All-nil (λ t. x + 1 < t.from.0)) none_sorted;
            ended = All-cons (λ t. t.to.0 ≤ x + 1) (record s { to = record { 0 = x + 1 } }) [] (omega arith) (All-nil (λ t. t.to.0 ≤ x + 1));
          }
      | false ↦ λ e.
          let before : s.to.0 < x = grind (arith, nat_tests) in
          record {
            seconds = λ y. grind (arith, nat_tests);
            sorted = first_sorted s (second x ∷ []) full (All-cons (λ t. s.to.0 < t.from.0) (second x) [] before (All-nil (λ t. s.to.0 < t.from.0)))
                (second_sorted x);
            ended = All-cons (λ t. t.to.0 ≤ x + 1) s (second x ∷ []) (omega arith) (second_ended x);
          }
    ]

one_more : (spans : List Span) (x : ℕ) → IsSortedApart spans → All (λ s. s.to.0 ≤ x) spans → IsOneMore spans x (with_second spans x)
one_more [] x sorted ended = record { seconds = λ y. grind (arith, nat_tests); sorted = second_sorted x; ended = second_ended x }
one_more (s ∷ []) x sorted ended = one_more_last s x (split s [] sorted).nonempty (All-head (λ t. t.to.0 ≤ x) s [] ended) (s.to.0 == x) refl
one_more (s ∷ t ∷ spans) x sorted ended =
    let h = split s (t ∷ spans) sorted in
    let later = All-tail (λ u. u.to.0 ≤ x) s (t ∷ spans) ended in
    let next : t.to.0 ≤ x = All-head (λ u. u.to.0 ≤ x) t spans later in
    let gap : s.to.0 < t.from.0 = All-head (λ u. s.to.0 < u.from.0) t spans h.apart in
    let full : t.from.0 < t.to.0 = (split t spans h.sorted).nonempty in
    let rest : IsOneMore (t ∷ spans) x (with_second (t ∷ spans) x) = one_more (t ∷ spans) x h.sorted later in
    record {
      seconds = λ y. grind (arith, rest.seconds y);
      sorted = first_sorted s (with_second (t ∷ spans) x) h.nonempty (after_stays (t ∷ spans) s.to.0 x (omega arith) h.apart) rest.sorted;
      ended = All-cons (λ u. u.to.0 ≤ x + 1) s (with_second (t ∷ spans) x) (omega arith) rest.ended;
    }

-- ---- all seconds below one

-- the spans are the set of the seconds below n that pass, and have ended by n
record IsBelow (test : ℕ → Bool) (n : ℕ) (spans : List Span) : Type 0 where
  pub set : IsSetOf (λ x. nat_lt x n && test x) spans
  pub ended : All (λ s. s.to.0 ≤ n) spans

below_next : (test : ℕ → Bool) (n : ℕ) (spans : List Span) → IsBelow test n spans → (c : Bool) → c ≡ test n
    → IsBelow test (suc n) (cond c (with_second spans n) spans)
below_next test n spans h c = elim c as (λ v. v ≡ test n → IsBelow test (suc n) (cond v (with_second spans n) spans)) [
  | true ↦ λ e.
      let more = one_more spans n h.set.sorted h.ended in
      record {
        set = record { seconds = λ x. grind (arith, nat_tests, more.seconds x, h.set.seconds x); sorted = more.sorted };
        ended = All-weaker (λ s. s.to.0 ≤ n + 1) (λ s. s.to.0 ≤ suc n) (λ s le. omega arith) (with_second spans n) more.ended;
      }
  | false ↦ λ e. record {
    set = record { seconds = λ x. grind (arith, nat_tests, h.set.seconds x); sorted = h.set.sorted };
    ended = All-weaker (λ s. s.to.0 ≤ n) (λ s. s.to.0 ≤ suc n) (λ s le. omega arith) spans h.ended;
  }
]

below : (test : ℕ → Bool) (n : ℕ) → IsBelow test n (spans_below test n)
unfolding spans_below
below test zero = record {
  set = record { seconds = λ x. grind (arith, nat_tests); sorted = none_sorted };
  ended = All-nil (λ s. s.to.0 ≤ 0);
}
below test (suc n) = below_next test n (spans_below test n) (below test n) (test n) refl

-- the spans of the seconds below n that pass are the set of these seconds
pub set_below : (test : ℕ → Bool) (n : ℕ) → IsSetOf (λ x. nat_lt x n && test x) (spans_below test n)
set_below test n = (below test n).set

-- .. and end by n
pub ended_below : (test : ℕ → Bool) (n : ℕ) → All (λ s. s.to.0 ≤ n) (spans_below test n)
ended_below test n = (below test n).ended

-- a set of seconds below n is the spans of those that pass
pub below_is : (test : ℕ → Bool) (n : ℕ) (spans : List Span) → IsSetOf (λ x. nat_lt x n && test x) spans → spans ≡ spans_below test n
below_is test n spans h =
    let one = set_below test n in
    one_list spans (spans_below test n) h.sorted one.sorted (λ x. h.seconds x ∙ sym (one.seconds x))

-- a set all of whose seconds lie below n too
pub all_below_is : (test : ℕ → Bool) (n : ℕ) (spans : List Span) → IsSetOf test spans → ((x : ℕ) → IsTrue (test x) → x < n) → spans ≡ spans_below test n
all_below_is test n spans h lie =
    below_is test n spans record { seconds = λ x. h.seconds x ∙ cut x (test x) refl; sorted = h.sorted }
  where
    cut : (x : ℕ) (b : Bool) → b ≡ test x → test x ≡ (nat_lt x n && test x)
    cut x true e = let lt : x < n = lie x (sym e) in grind (arith, nat_tests)
    cut x false e = grind (arith, nat_tests)

-- the set of the seconds of spans, all before the end of time
pub spans_of_is : (list set : List Span) → IsSetOf (has list) set → ((x : ℕ) → IsTrue (has list x) → x < end_of_time) → set ≡ spans_of list
spans_of_is list set h lie = all_below_is (has list) end_of_time set h lie
