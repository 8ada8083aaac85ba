-- How many spans a set has: each of them begins where a span of the lists that it is made of begins or ends.
use Rattle.std.proofs.Common.{◌≡◌, ◌≢◌, ℕ, ◌-◌, ◌<◌, ◌≤◌, Bool, true, false, true≢false, not, List, [], ◌∷◌, ◌++◌, ◌⊎◌, inl, inr, refl, sym, ◌∙◌}
use Rattle.std.proofs.Common.{length, length-append, get_or, map, arith}
use Rattle.std.specs.Prelude.{◌&&◌, nat_lt, All, AllPairs, Contains, filter}
use Rattle.std.proofs.lemmas.Bool.{cases_lt}
use Rattle.std.proofs.lemmas.Bool.Decides.{nat_tests}
use Rattle.std.proofs.lemmas.List.{length-map}
use Rattle.std.proofs.lemmas.List.Elements.{All-map, Contains-append_left, Contains-append_right}
use Rattle.std.proofs.lemmas.List.Folds.{list_any-append}
use Rattle.std.proofs.lemmas.List.Sums.{length-filter, count_by-le-length}
use Rattle.plan_base.specs.declared.span.Span.{Span}
use Rattle.plan_base.proofs.Lists.{AllPairs-map, length_among, contains_filter}
use Rattle.plan_base.proofs.Orders.{contains_rest}
use Rattle.interval_set.specs.Spans.{span_has, has, IsSortedApart, IsSetOf}
use Rattle.interval_set.specs.Laws.{SetIsNoLonger, UnionIsNoLonger, MeetIsShorter, DifferenceIsNoLonger}
use Rattle.interval_set.proofs.Seconds.{IsSplit, split, IsAt, at_place, at_is, rise, has_before, none_between, has_at, nonempty_at}

-- the seconds at which spans begin, and those at which they end
abbrev begins : List Span → List ℕ
begins spans = map (λ s. s.from.0) spans

abbrev ends : List Span → List ℕ
ends spans = map (λ s. s.to.0) spans

-- a second that a list has, though it lacks the one before, is the beginning of a span
begin_in : (spans : List Span) (x : ℕ) → has spans x ≡ true → (0 < x → has spans (x - 1) ≡ false) → Contains (begins spans) x
begin_in [] x member before = cc
begin_in (s ∷ spans) x member before = elim (cases_lt s.from.0 x) [
  | inl earlier ↦
      let lacks : has (s ∷ spans) (x - 1) ≡ false = before (omega arith) in
      let rest : has spans x ≡ true = grind (arith, nat_tests) in
      contains_rest s.from.0 x (begins spans) (begin_in spans x rest (λ _. grind arith))
  | inr le ↦ elim (cases_lt x s.from.0) [
    | inl later ↦
        let rest : has spans x ≡ true = grind (arith, nat_tests) in
        contains_rest s.from.0 x (begins spans) (begin_in spans x rest (λ positive. grind (arith, before positive)))
    | inr ge ↦ (0, omega arith, omega arith)
  ]
]

-- a second that a list lacks, though it has the one before, is the end of a span
end_in : (spans : List Span) (x : ℕ) → 0 < x → has spans (x - 1) ≡ true → has spans x ≡ false → Contains (ends spans) x
end_in [] x positive member lacks = cc
end_in (s ∷ spans) x positive member lacks = elim (cases_lt s.to.0 x) [
  | inl earlier ↦
      let rest : has spans (x - 1) ≡ true = grind (arith, nat_tests) in
      contains_rest s.to.0 x (ends spans) (end_in spans x positive rest (grind arith))
  | inr le ↦ elim (cases_lt x s.to.0) [
    | inl later ↦
        let rest : has spans (x - 1) ≡ true = grind (arith, nat_tests) in
        contains_rest s.to.0 x (ends spans) (end_in spans x positive rest (grind arith))
    | inr ge ↦ (0, omega arith, omega arith)
  ]
]

-- the spans of a set begin apart
begins_apart : (spans : List Span) → IsSortedApart spans → AllPairs (λ a b. a ≢ b) (begins spans)
begins_apart spans sorted = AllPairs-map (λ a b. a ≢ b) (λ s. s.from.0) spans
    (λ i j d lt in_range same. omega (arith, same, sorted.apart i j d lt in_range, sorted.nonempty i d (omega arith)))

-- a set has the second at which a span of it begins, and lacks the one before
begins_at : (spans : List Span) (k : ℕ) (s : Span) → IsSortedApart spans → IsAt spans k s
    → (has spans s.from.0 ≡ true) × (0 < s.from.0 → has spans (s.from.0 - 1) ≡ false)
begins_at spans k s sorted at = (
  has_at spans k s s.from.0 at (grind (arith, nat_tests, nonempty_at spans k s sorted at)),
  λ positive. none_between spans k (s.from.0 - 1)
      (λ j d below. omega (arith, sorted.apart j k d below at.in_range, begin_is d))
      (λ j d from lt. omega (arith, rise spans sorted k j d from lt, begin_is d)),
)
  where
    begin_is : (d : Span) → s.from.0 ≡ (get_or spans k d).from.0
    begin_is d = λ i. (at_is spans k s at d i).from.0

-- a set has no more spans than there are seconds at which it can begin
no_more : (spans : List Span) (starts : List ℕ) → IsSortedApart spans
    → ((x : ℕ) → has spans x ≡ true → (0 < x → has spans (x - 1) ≡ false) → Contains starts x) → length spans ≤ length starts
no_more spans starts sorted start =
    let each : All (Contains starts) (begins spans) = All-map (Contains starts) (λ s. s.from.0) spans
    (λ k d lt. let at = begins_at spans k (get_or spans k d) sorted (at_place spans k d lt) in start _ at.0 at.1) in
    omega (arith, length-map spans (λ s. s.from.0), length_among (begins spans) starts (begins_apart spans sorted) each)

pub set_is_no_longer : SetIsNoLonger
set_is_no_longer list set is =
    let few : length set ≤ length (begins list) = no_more set (begins list) is.sorted
    (λ x member before. begin_in list x (sym (is.seconds x) ∙ member) (λ positive. sym (is.seconds (x - 1)) ∙ before positive)) in
    omega (arith, length-map list (λ s. s.from.0))

pub union_is_no_longer : UnionIsNoLonger
union_is_no_longer a b union is =
    let together : IsSetOf (has (a ++ b)) union = record { seconds = λ x. is.seconds x ∙ sym (list_any-append (λ s. span_has s x) a b); sorted = is.sorted } in
    omega (arith, set_is_no_longer (a ++ b) union together, length-append a b)

-- one of two tests is false where both together are
either_false : (p q : Bool) → (p && q) ≡ false → (p ≡ false) ⊎ (q ≡ false)
either_false true q both = inr (grind arith)
either_false false q both = inl refl

-- a second of a that b lacks is one at which a span of a begins or one of b ends, where the second before isn't such a one
start_in_difference : (a b : List Span) (x : ℕ) → (has a x && not (has b x)) ≡ true → (0 < x → (has a (x - 1) && not (has b (x - 1))) ≡ false)
    → Contains (begins a ++ ends b) x
start_in_difference a b x member before =
    let mine : has a x ≡ true = grind arith in
    elim (cases_lt 0 x) [
      | inl positive ↦ elim (either_false _ _ (before positive)) [
        | inl begun ↦ Contains-append_left (begins a) (ends b) x (begin_in a x mine (λ _. begun))
        | inr ended ↦ Contains-append_right (begins a) (ends b) x (end_in b x positive (grind arith) (grind arith))
      ]
      | inr least ↦ Contains-append_left (begins a) (ends b) x (begin_in a x mine (λ positive. absurd (omega arith)))
    ]

pub difference_is_no_longer : DifferenceIsNoLonger
difference_is_no_longer a b difference is =
    let few : length difference ≤ length (begins a ++ ends b) = no_more difference (begins a ++ ends b) is.sorted
    (λ x member before. start_in_difference a b x (sym (is.seconds x) ∙ member) (λ positive. sym (is.seconds (x - 1)) ∙ before positive)) in
    omega (arith, length-append (begins a) (ends b), length-map a (λ s. s.from.0), length-map b (λ s. s.to.0))

-- the seconds past x at which spans begin
abbrev begins_past : ℕ → List Span → List ℕ
begins_past x spans = filter (λ y. nat_lt x y) (begins spans)

begins_past_few : (spans : List Span) (x : ℕ) → length (begins_past x spans) ≤ length spans
begins_past_few spans x =
    omega (arith, length-filter (λ y. nat_lt x y) (begins spans), count_by-le-length (λ y. nat_lt x y) (begins spans), length-map spans (λ s. s.from.0))

-- where a list has x, one of its spans doesn't begin past it
fewer_past : (spans : List Span) (x : ℕ) → has spans x ≡ true → length (begins_past x spans) < length spans
fewer_past [] x member = cc
fewer_past (s ∷ spans) x member = elim (cases_lt x s.from.0) [
  | inl later ↦
      let rest : has spans x ≡ true = grind (arith, nat_tests) in
      grind (arith, nat_tests, fewer_past spans x rest)
  | inr begun ↦ grind (arith, nat_tests, begins_past_few spans x)
]

-- a second past y that both lists have is one at which a span of either begins, where they don't both have the one before
start_in_meet : (a b : List Span) (x y : ℕ) → y < x → (has a x && has b x) ≡ true → (has a (x - 1) && has b (x - 1)) ≡ false
    → Contains (begins_past y a ++ begins_past y b) x
start_in_meet a b x y past member before =
    let later : nat_lt y x ≡ true = grind (arith, nat_tests) in
    elim (either_false _ _ before) [
      | inl mine ↦ Contains-append_left (begins_past y a) (begins_past y b) x
          (contains_filter (λ z. nat_lt y z) (begins a) x (begin_in a x (grind arith) (λ _. mine)) later)
      | inr theirs ↦ Contains-append_right (begins_past y a) (begins_past y b) x
          (contains_filter (λ z. nat_lt y z) (begins b) x (begin_in b x (grind arith) (λ _. theirs)) later)
    ]

-- the spans of a set after its first begin past the end of that one
later_begin : (s : Span) (later : List Span) (x : ℕ) → IsSplit s later → has later x ≡ true → s.to.0 < x
later_begin s later x first member = elim (cases_lt s.to.0 x) [
  | inl past ↦ past
  | inr within ↦ let none : has later x ≡ false = has_before later x (λ k d lt. omega (arith, first.apart k d lt)) in absurd (true≢false (sym member ∙ none))
]

-- both lists have a span that doesn't begin past the first common second; so the later common spans begin at fewer seconds
pub meet_is_shorter : MeetIsShorter
meet_is_shorter a b [] is = omega arith
meet_is_shorter a b (s ∷ later) is =
    let first = split s later is.sorted in
    let common : (has a s.from.0 && has b s.from.0) ≡ true = sym (is.seconds s.from.0) ∙ grind (arith, nat_tests, first.nonempty) in
    let few : length later ≤ length (begins_past s.from.0 a ++ begins_past s.from.0 b) = no_more later _ first.sorted
    (λ x member before.
    let past : s.to.0 < x = later_begin s later x first member in
    let lacks : has later (x - 1) ≡ false = before (omega arith) in
    start_in_meet a b x s.from.0 (omega (arith, first.nonempty)) (sym (is.seconds x) ∙ grind arith) (sym (is.seconds (x - 1)) ∙ grind (arith, nat_tests))) in
    omega (
      arith,
      length-append (begins_past s.from.0 a) (begins_past s.from.0 b),
      fewer_past a s.from.0 (grind arith),
      fewer_past b s.from.0 (grind arith),
    )
