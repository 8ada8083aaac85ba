-- What is done of a merge, and that its next step keeps it.
use Rattle.std.proofs.Common.{◌≡◌, ℕ, ◌+◌, ◌<◌, ◌≤◌, max, Bool, false, not, List, length, get_or, drop, length-drop, ap, ◌∙◌, inl, inr, arith}
use Rattle.std.specs.Prelude.{◌&&◌, ◌||◌, nat_le, All}
use Rattle.std.proofs.lemmas.Bool.{cases_lt}
use Rattle.std.proofs.lemmas.Bool.Decides.{nat_tests}
use Rattle.plan_base.specs.declared.number.Sec.{Sec}
use Rattle.plan_base.specs.declared.span.Span.{Span}
use Rattle.interval_set.specs.Spans.{span_has, has, IsSortedApart}
use Rattle.interval_set.specs.Steps.{BeginBy, CanAdd, Rise, Adds, IsCommon}
use Rattle.interval_set.proofs.Seconds.{has_before, IsAt, at_place, drop_at, rise, nonempty_at, from_on, after, next_is, rest_is, begin_later}

-- the spans up to place i have been added
pub record IsAddedSoFar (before spans : List Span) (i : ℕ) (done : List Span) : Type 0 where
  pub seconds : (x : ℕ) → (has before x || has spans x) ≡ (has done x || has (drop i spans) x)
  pub sorted : IsSortedApart done
  pub begin : CanAdd done (drop i spans)

-- once a span is added, those after it can be
can_add_rest : (new spans : List Span) (i : ℕ) (s : Span) → Rise spans → IsAt spans i s → BeginBy new s.from.0 → CanAdd new (drop (i + 1) spans)
can_add_rest new spans i s rise at begin =
    rest_is (λ t. BeginBy new t.from.0) spans i s at (λ k d lt. begin_later new s.from.0 _ (from_on spans i s rise at k d lt) begin)

pub added_next : (before spans done new : List Span) (i : ℕ) (s : Span) → Rise spans → IsAt spans i s
    → IsAddedSoFar before spans i done → Adds done s new → IsAddedSoFar before spans (i + 1) new
added_next before spans done new i s rise at so_far adds = record {
  seconds = λ x. so_far.seconds x ∙ rw (drop_at spans i s at, adds.seconds x) (grind arith);
  sorted = adds.sorted;
  begin = can_add_rest new spans i s rise at adds.begin;
}

-- the seconds of either list, done up to places i and j
pub record IsUnionSoFar (mine theirs : List Span) (i j : ℕ) (done : List Span) : Type 0 where
  pub seconds : (x : ℕ) → (has mine x || has theirs x) ≡ (has done x || (has (drop i mine) x || has (drop j theirs) x))
  pub sorted : IsSortedApart done
  pub place_mine : i ≤ length mine
  pub place_theirs : j ≤ length theirs
  pub begin_mine : CanAdd done (drop i mine)
  pub begin_theirs : CanAdd done (drop j theirs)

-- the next span of mine is added where it begins no later than that of theirs
pub union_mine : (mine theirs done new : List Span) (i j : ℕ) (a b : Span) → Rise mine → Rise theirs → IsAt mine i a → IsAt theirs j b
    → a.from.0 ≤ b.from.0 → IsUnionSoFar mine theirs i j done → Adds done a new → IsUnionSoFar mine theirs (i + 1) j new
union_mine mine theirs done new i j a b rise_mine rise_theirs at_mine at_theirs le so_far adds = record {
  seconds = λ x. so_far.seconds x ∙ rw (drop_at mine i a at_mine, adds.seconds x) (grind arith);
  sorted = adds.sorted;
  place_mine = omega (arith, at_mine.in_range);
  place_theirs = so_far.place_theirs;
  begin_mine = can_add_rest new mine i a rise_mine at_mine adds.begin;
  begin_theirs = λ k d lt. begin_later new a.from.0 _ (omega (arith, from_on theirs j b rise_theirs at_theirs k d lt)) adds.begin;
}

pub union_theirs : (mine theirs done new : List Span) (i j : ℕ) (a b : Span) → Rise mine → Rise theirs → IsAt mine i a → IsAt theirs j b
    → b.from.0 ≤ a.from.0 → IsUnionSoFar mine theirs i j done → Adds done b new → IsUnionSoFar mine theirs i (j + 1) new
union_theirs mine theirs done new i j a b rise_mine rise_theirs at_mine at_theirs le so_far adds = record {
  seconds = λ x. so_far.seconds x ∙ rw (drop_at theirs j b at_theirs, adds.seconds x) (grind arith);
  sorted = adds.sorted;
  place_mine = so_far.place_mine;
  place_theirs = omega (arith, at_theirs.in_range);
  begin_mine = λ k d lt. begin_later new b.from.0 _ (omega (arith, from_on mine i a rise_mine at_mine k d lt)) adds.begin;
  begin_theirs = can_add_rest new theirs j b rise_theirs at_theirs adds.begin;
}

-- the common seconds of two lists, done up to places i and j
pub record IsMeetSoFar (mine theirs : List Span) (i j : ℕ) (done : List Span) : Type 0 where
  pub seconds : (x : ℕ) → (has mine x && has theirs x) ≡ (has done x || (has (drop i mine) x && has (drop j theirs) x))
  pub sorted : IsSortedApart done
  pub begin : All (λ a. All (λ b. BeginBy done (max a.from.0 b.from.0)) (drop j theirs)) (drop i mine)

pub meet_can_add : (mine theirs done : List Span) (i j : ℕ) (a b both : Span) → IsAt mine i a → IsAt theirs j b
    → IsCommon a b both → IsMeetSoFar mine theirs i j done → BeginBy done both.from.0
meet_can_add mine theirs done i j a b both at_mine at_theirs common so_far =
    let begin = next_is (λ s. All (λ t. BeginBy done (max s.from.0 t.from.0)) (drop j theirs)) mine i a at_mine so_far.begin in
    rw common.from (next_is (λ t. BeginBy done (max a.from.0 t.from.0)) theirs j b at_theirs begin)

-- what is common with the span that ends first is common with the other span's
common_first : (a b : Span) (x : ℕ) (later_a later_b : Bool) → a.to.0 ≤ b.to.0 → (x ≤ b.to.0 → later_b ≡ false)
    → ((span_has a x || later_a) && (span_has b x || later_b)) ≡ ((span_has a x && span_has b x) || (later_a && (span_has b x || later_b)))
common_first a b x later_a later_b le none = elim (cases_lt b.to.0 x) [
  | inl past ↦ grind (arith, nat_tests)
  | inr within ↦ rw (none within) (grind arith)
]

common_second : (a b : Span) (x : ℕ) (later_a later_b : Bool) → b.to.0 ≤ a.to.0 → (x ≤ a.to.0 → later_a ≡ false)
    → ((span_has a x || later_a) && (span_has b x || later_b)) ≡ ((span_has a x && span_has b x) || ((span_has a x || later_a) && later_b))
common_second a b x later_a later_b le none = elim (cases_lt a.to.0 x) [
  | inl past ↦ grind (arith, nat_tests)
  | inr within ↦ rw (none within) (grind arith)
]

-- no second up to its end is one of a span after it
none_within : (spans : List Span) (i : ℕ) (s : Span) (x : ℕ) → IsSortedApart spans → IsAt spans i s → x ≤ s.to.0 → has (drop (i + 1) spans) x ≡ false
none_within spans i s x sorted at within = has_before (drop (i + 1) spans) x (λ k d lt. omega (arith, after spans i s sorted at k d lt))

pub meet_mine : (mine theirs done new : List Span) (i j : ℕ) (a b both : Span) → IsSortedApart mine → IsSortedApart theirs → IsAt mine i a → IsAt theirs j b
    → a.to.0 ≤ b.to.0 → IsCommon a b both → IsMeetSoFar mine theirs i j done → Adds done both new → IsMeetSoFar mine theirs (i + 1) j new
meet_mine mine theirs done new i j a b both sorted_mine sorted_theirs at_mine at_theirs le common so_far adds = record {
  seconds = λ x. so_far.seconds x ∙ rw (
    drop_at mine i a at_mine,
    drop_at theirs j b at_theirs,
    adds.seconds x,
    common.seconds x,
    common_first a b x (has (drop (i + 1) mine) x) (has (drop (j + 1) theirs) x) le (none_within theirs j b x sorted_theirs at_theirs),
  ) (grind arith);
  sorted = adds.sorted;
  begin = λ k d lt m e other_lt. begin_later new both.from.0 _ (omega (
    arith,
    common.from,
    after mine i a sorted_mine at_mine k d lt,
    nonempty_at mine i a sorted_mine at_mine,
    from_on theirs j b (rise theirs sorted_theirs) at_theirs m e other_lt,
  )) adds.begin;
}

pub meet_theirs : (mine theirs done new : List Span) (i j : ℕ) (a b both : Span) → IsSortedApart mine → IsSortedApart theirs → IsAt mine i a → IsAt theirs j b
    → b.to.0 ≤ a.to.0 → IsCommon a b both → IsMeetSoFar mine theirs i j done → Adds done both new → IsMeetSoFar mine theirs i (j + 1) new
meet_theirs mine theirs done new i j a b both sorted_mine sorted_theirs at_mine at_theirs le common so_far adds = record {
  seconds = λ x. so_far.seconds x ∙ rw (
    drop_at mine i a at_mine,
    drop_at theirs j b at_theirs,
    adds.seconds x,
    common.seconds x,
    common_second a b x (has (drop (i + 1) mine) x) (has (drop (j + 1) theirs) x) le (none_within mine i a x sorted_mine at_mine),
  ) (grind arith);
  sorted = adds.sorted;
  begin = λ k d lt m e other_lt. begin_later new both.from.0 _ (omega (
    arith,
    common.from,
    after theirs j b sorted_theirs at_theirs m e other_lt,
    nonempty_at theirs j b sorted_theirs at_theirs,
    from_on mine i a (rise mine sorted_mine) at_mine k d lt,
  )) adds.begin;
}

-- the seconds of mine that theirs doesn't have, done up to places i and j: from gap_from on, those of the rests are left
pub record IsDifferenceSoFar (mine theirs : List Span) (i j gap_from : ℕ) (done : List Span) : Type 0 where
  pub seconds : (x : ℕ) → (has mine x && not (has theirs x)) ≡ (has done x || (nat_le gap_from x && (has (drop i mine) x && not (has (drop j theirs) x))))
  pub sorted : IsSortedApart done
  pub begin : All (λ a. BeginBy done (max a.from.0 gap_from)) (drop i mine)
  pub gap : All (λ b. gap_from ≤ b.from.0) (drop j theirs)

pub gap_can_add : (mine theirs done : List Span) (i j : ℕ) (a gap both : Span) → IsAt mine i a
    → IsCommon a gap both → IsDifferenceSoFar mine theirs i j gap.from.0 done → BeginBy done both.from.0
gap_can_add mine theirs done i j a gap both at common so_far =
    rw common.from (next_is (λ s. BeginBy done (max s.from.0 gap.from.0)) mine i a at so_far.begin)

-- a span that ends within the gap is done with
pub gap_mine : (mine theirs done new : List Span) (i j : ℕ) (a gap both : Span) → IsSortedApart mine → IsAt mine i a
    → All (λ b. gap.to.0 ≤ b.from.0) (drop j theirs)
    → a.to.0 ≤ gap.to.0 → IsCommon a gap both → IsDifferenceSoFar mine theirs i j gap.from.0 done → Adds done both new
    → IsDifferenceSoFar mine theirs (i + 1) j gap.from.0 new
gap_mine mine theirs done new i j a gap both sorted at holes le common so_far adds = record {
  seconds = λ x. so_far.seconds x ∙ rw (drop_at mine i a at, adds.seconds x, common.seconds x) (elim (cases_lt x gap.to.0) [
    | inl within ↦ rw (has_before (drop j theirs) x (λ k d lt. omega (arith, holes k d lt))) (grind (arith, nat_tests))
    | inr past ↦ grind (arith, nat_tests)
  ]);
  sorted = adds.sorted;
  begin = λ k d lt. begin_later new both.from.0 _ (omega (arith, common.from, after mine i a sorted at k d lt, nonempty_at mine i a sorted at)) adds.begin;
  gap = so_far.gap;
}

-- the gap before a place ends before the spans from there on begin
pub holes_later : (theirs : List Span) (j : ℕ) (gap : Span) → IsSortedApart theirs → (j < length theirs → (d : Span) → gap.to ≡ (get_or theirs j d).from)
    → All (λ b. gap.to.0 ≤ b.from.0) (drop j theirs)
holes_later theirs j gap sorted before k d lt =
    let place : j < length theirs = omega (arith, length-drop j theirs) in
    omega (arith, ap (λ (s : Sec). s.0) (before place d), from_on theirs j (get_or theirs j d) (rise theirs sorted) (at_place theirs j d place) k d lt)

-- a gap that ends before a span does is ended by another
pub gap_ends : (theirs : List Span) (j : ℕ) (a gap : Span) → (length theirs ≤ j → gap.to ≡ a.to) → gap.to.0 < a.to.0 → j < length theirs
gap_ends theirs j a gap last lt = elim (cases_lt j (length theirs)) [
  | inl within ↦ within
  | inr past ↦ absurd (omega (arith, ap (λ (s : Sec). s.0) (last past)))
]

-- what is left at a gap's end is in the gap, or past the span that ends it
past_gap : (a b gap : Span) (x : ℕ) (later_a later_b : Bool) → gap.to.0 ≡ b.from.0 → b.from.0 < a.to.0 → gap.from.0 ≤ b.from.0 → b.from.0 < b.to.0
    → (x ≤ a.to.0 → later_a ≡ false) → (x ≤ b.to.0 → later_b ≡ false)
    → (nat_le gap.from.0 x && ((span_has a x || later_a) && not (span_has b x || later_b)))
    ≡ ((span_has a x && span_has gap x) || (nat_le b.to.0 x && ((span_has a x || later_a) && not later_b)))
past_gap a b gap x later_a later_b to lt le nonempty none_a none_b = elim (cases_lt x b.from.0) [
  | inl before ↦ rw (none_a (omega arith), none_b (omega arith)) (grind (arith, nat_tests))
  | inr from ↦ elim (cases_lt x b.to.0) [
    | inl inside ↦ rw (none_b (omega arith)) (grind (arith, nat_tests))
    | inr past ↦ grind (arith, nat_tests)
  ]
]

-- past a gap that ends within a span the next one begins where their span ends
pub gap_theirs : (mine theirs done new : List Span) (i j : ℕ) (a b gap both : Span) → IsSortedApart mine → IsSortedApart theirs
    → IsAt mine i a → IsAt theirs j b
    → gap.to.0 ≡ b.from.0 → b.from.0 < a.to.0 → IsCommon a gap both → IsDifferenceSoFar mine theirs i j gap.from.0 done → Adds done both new
    → IsDifferenceSoFar mine theirs i (j + 1) b.to.0 new
gap_theirs mine theirs done new i j a b gap both sorted_mine sorted_theirs at_mine at_theirs to lt common so_far adds = record {
  seconds = λ x.
      let le : gap.from.0 ≤ b.from.0 = next_is (λ t. gap.from.0 ≤ t.from.0) theirs j b at_theirs so_far.gap in
      so_far.seconds x ∙ rw (
        drop_at mine i a at_mine,
        drop_at theirs j b at_theirs,
        adds.seconds x,
        common.seconds x,
        past_gap a b gap x (has (drop (i + 1) mine) x) (has (drop (j + 1) theirs) x) to lt le (nonempty_at theirs j b sorted_theirs at_theirs)
            (none_within mine i a x sorted_mine at_mine) (none_within theirs j b x sorted_theirs at_theirs),
      ) (grind arith);
  sorted = adds.sorted;
  begin = λ k d lt. begin_later new both.from.0 _ (omega (
    arith,
    common.from,
    from_on mine i a (rise mine sorted_mine) at_mine k d lt,
    nonempty_at theirs j b sorted_theirs at_theirs,
    next_is (λ t. gap.from.0 ≤ t.from.0) theirs j b at_theirs so_far.gap,
  )) adds.begin;
  gap = λ k d lt. omega (arith, after theirs j b sorted_theirs at_theirs k d lt);
}
