-- Of each request the start that is tried first, as it is noted by its place, and all of them in order.
use Rattle.std.proofs.Common.{◌≡◌, ◌≢◌, ℕ, zero, suc, ◌+◌, ◌<◌, ◌⊎◌, inl, inr, Bool, true, false, cond, not, List, [], ◌∷◌, ◌++◌, length, map, take}
use Rattle.std.proofs.Common.{set, slice_index_or, Option, Some, None, All, AllPairs, Contains, IsPermutation, refl, sym, ◌∙◌, ap, subst, arith}
use Rattle.std.specs.Prelude.{filter_map}
use Rattle.std.proofs.lemmas.Bool.{cases_eq}
use Rattle.std.proofs.lemmas.List.{length-set, get_or-set_same, get_or-set_other, get_or_default, take_more, append-nil}
use Rattle.std.proofs.lemmas.List.Elements.{All-take, All-contains, All-map, Contains-append_left, Contains-push, Contains-push_cases, filter-append}
use Rattle.std.proofs.lemmas.List.Elements.{filter_map-append}
use Rattle.std.proofs.lemmas.List.Kept.{AllPairs-cons}
use Rattle.std.proofs.lemmas.List.Sorted.{All-permutation, Contains-permutation}
use Rattle.plan_base.specs.declared.parts.Parts.{Parts}
use Rattle.plan_base.specs.declared.parts.Op.TheVariants.{And}
use Rattle.plan_base.specs.declared.claim.Placement.{Placement}
use Rattle.plan_base.specs.Requests.{listed, place_of, group_of, IsKnown, IsKind}
use Rattle.plan_base.specs.Starts.{IsPossibleStart, worth_at}
use Rattle.plan_base.specs.Operators.{is_and}
use Rattle.plan_base.specs.Repaired.{outside_ands, IsTriedBefore}
use Rattle.plan_base.specs.Round.{op_at}
use Rattle.plan_base.proofs.Lists.{AllPairs-map, contains_map}
use Rattle.plan_base.proofs.Orders.{contains_cases, contains_first, contains_rest}
use Rattle.plan_base.proofs.Pairs.{all_of, all_pairs_permutation, all_pairs_from_neighbours}
use Rattle.groups.proofs.Rooms.{same_place}
use Rattle.repair.specs.declared.ranked.Ranked.{Ranked}
use Rattle.repair.specs.Repairs.{start_of, rank_of, IsRankedBefore, IsEarlier, IsForemost, IsNoted, AreNoted, AreOrdered}
use Rattle.repair.proofs.Blocked.{same_start, tried_by_numbers, tried_joins}
use Rattle.repair.proofs.Sorting.{outside_possible, outside_kind, ranks_join}

-- ---- two starts in the order of their ranks

-- of two ranks the one comes before the other, or both are of one start
same_or_tried : (s : Parts) (a b : Ranked) → a.worth.0 ≡ worth_at s (start_of a) → b.worth.0 ≡ worth_at s (start_of b) → IsRankedBefore a b
    → (start_of a ≡ start_of b) ⊎ IsTriedBefore s (start_of a) (start_of b)
same_or_tried s a b wa wb (inl h) = inr (inl (omega arith))
same_or_tried s a b wa wb (inr (e, inl h)) = inr (inr (omega arith, inl h))
same_or_tried s a b wa wb (inr (e, inr (r, inl h))) = inr (tried_by_numbers s (start_of a) (start_of b) (inr (omega arith, inr (r, inl h))))
same_or_tried s a b wa wb (inr (e, inr (r, inr (t, h)))) = elim (cases_eq a.slice.0 b.slice.0) [
  | inl same ↦ inl (same_start (start_of a) (start_of b) r t same)
  | inr other ↦ inr (tried_by_numbers s (start_of a) (start_of b) (inr (omega arith, inr (r, inr (t, omega arith)))))
]

-- ---- one start more

-- the starts outside every AND, with one more that is outside
outs_more : (s : Parts) (starts : List Placement) (x : Placement) → is_and (op_at s (group_of s x.request.0)) ≡ false
    → outside_ands s (starts ++ x ∷ []) ≡ outside_ands s starts ++ x ∷ []
outs_more s starts x outside =
    filter-append (λ p. not (is_and (op_at s (group_of s p.request.0)))) starts (x ∷ [])
    ∙ ap (λ (b : Bool). outside_ands s starts ++ cond (not b) (x ∷ []) []) outside

outs_same : (s : Parts) (starts : List Placement) (x : Placement) → is_and (op_at s (group_of s x.request.0)) ≡ true
    → outside_ands s (starts ++ x ∷ []) ≡ outside_ands s starts
outs_same s starts x inside =
    filter-append (λ p. not (is_and (op_at s (group_of s p.request.0)))) starts (x ∷ [])
    ∙ ap (λ (b : Bool). outside_ands s starts ++ cond (not b) (x ∷ []) []) inside ∙ append-nil (outside_ands s starts)

-- of no starts none is noted
pub noted_none : (s : Parts) (noted : List (Option Ranked)) → length noted ≡ length (listed s) → All (λ rank. rank ≡ None) noted → AreNoted s [] noted
noted_none s noted count none = record {
  count = count;
  each = λ place l. subst (IsNoted s [] place) (sym (none place None (omega arith))) (λ z c. absurd (omega (arith, c.1)));
}

foremost_more : (s : Parts) (starts : List Placement) (x p : Placement) → is_and (op_at s (group_of s x.request.0)) ≡ false → IsForemost s starts p
    → (x.request.0 ≡ p.request.0 → (p ≡ x) ⊎ IsTriedBefore s p x) → IsForemost s (starts ++ x ∷ []) p
foremost_more s starts x p outside is first = record {
  one = subst (λ (ps : List Placement). Contains ps p) (sym (outs_more s starts x outside)) (Contains-append_left (outside_ands s starts) (x ∷ []) p is.one);
  first = λ z c same. elim (Contains-push_cases (outside_ands s starts) x z (subst (λ (ps : List Placement). Contains ps z) (outs_more s starts x outside) c)) [
    | inl d ↦ is.first z d same
    | inr e ↦ subst (λ (q : Placement). (p ≡ q) ⊎ IsTriedBefore s p q) e (first (ap (λ (q : Placement). q.request.0) e ∙ same))
  ];
}

-- x is the first of its own, where it is before all others
foremost_last : (s : Parts) (starts : List Placement) (x : Placement) → is_and (op_at s (group_of s x.request.0)) ≡ false
    → ((z : Placement) → Contains (outside_ands s starts) z → z.request.0 ≡ x.request.0 → (x ≡ z) ⊎ IsTriedBefore s x z)
    → IsForemost s (starts ++ x ∷ []) x
foremost_last s starts x outside first = record {
  one = subst (λ (ps : List Placement). Contains ps x) (sym (outs_more s starts x outside)) (Contains-push (outside_ands s starts) x);
  first = λ z c same. elim (Contains-push_cases (outside_ands s starts) x z (subst (λ (ps : List Placement). Contains ps z) (outs_more s starts x outside) c)) [
    | inl d ↦ first z d same
    | inr e ↦ inl e
  ];
}

-- what is noted at a place where the start isn't of
noted_elsewhere : (s : Parts) (starts : List Placement) (x : Placement) (place : ℕ) (o : Option Ranked)
    → is_and (op_at s (group_of s x.request.0)) ≡ false → place_of s x.request.0 ≢ place → IsNoted s starts place o
    → IsNoted s (starts ++ x ∷ []) place o
noted_elsewhere s starts x place None outside other none =
    λ z c. elim (Contains-push_cases (outside_ands s starts) x z (subst (λ (ps : List Placement). Contains ps z) (outs_more s starts x outside) c)) [
      | inl d ↦ none z d
      | inr e ↦ subst (λ (q : Placement). place_of s q.request.0 ≢ place) e other
    ]
noted_elsewhere s starts x place (Some y) outside other (rank, at, is) =
    (rank, at, foremost_more s starts x (start_of y) outside is (λ same. absurd (other (ap (place_of s) same ∙ at))))

-- what is noted at its place
noted_here : (s : Parts) (starts : List Placement) (x : Placement) (place : ℕ) (o r : Option Ranked) → All (IsPossibleStart s) starts
    → is_and (op_at s (group_of s x.request.0)) ≡ false → IsKnown s x.request.0 → place ≡ place_of s x.request.0
    → IsNoted s starts place o → IsEarlier o (rank_of s x) r → IsNoted s (starts ++ x ∷ []) place r
noted_here s starts x place None r possible outside known at none e =
    subst (IsNoted s (starts ++ x ∷ []) place) (sym e)
    (refl, sym at, foremost_last s starts x outside (λ z c same. absurd (none z c (ap (place_of s) same ∙ sym at))))
noted_here s starts x place (Some y) r possible outside known at (rank, there, is) (inl (e, before)) =
    let same : y.worth.0 ≡ worth_at s (start_of y) = ap (λ (z : Ranked). z.worth.0) rank in
    subst (IsNoted s (starts ++ x ∷ []) place) (sym e)
    (rank, there, foremost_more s starts x (start_of y) outside is (λ own. same_or_tried s y (rank_of s x) same refl before))
noted_here s starts x place (Some y) r possible outside known at (rank, there, is) (inr (e, before)) =
    let own : IsPossibleStart s (start_of y) =
    All-contains (IsPossibleStart s) (outside_ands s starts) (start_of y) (outside_possible s starts possible) is.one in
    let same : y.request.0 ≡ x.request.0 = same_place s y.request.0 x.request.0 own.known known (there ∙ at) in
    let worth : y.worth.0 ≡ worth_at s (start_of y) = ap (λ (z : Ranked). z.worth.0) rank in
    let first : (x ≡ start_of y) ⊎ IsTriedBefore s x (start_of y) = same_or_tried s (rank_of s x) y refl worth before in
    subst (IsNoted s (starts ++ x ∷ []) place) (sym e) (
      refl,
      sym at,
      foremost_last s starts x outside (λ z c number. elim first [
        | inl equal ↦ subst (λ (q : Placement). (q ≡ z) ⊎ IsTriedBefore s q z) (sym equal) (is.first z c (number ∙ sym same))
        | inr tried ↦ elim (is.first z c (number ∙ sym same)) [
          | inl equal ↦ inr (subst (IsTriedBefore s x) equal tried)
          | inr later ↦ inr (tried_joins s x (start_of y) z tried later)
        ]
      ]),
    )

-- one start more, that is outside every AND
pub noted_more : (s : Parts) (starts : List Placement) (i : ℕ) (x : Placement) (place : ℕ) (noted : List (Option Ranked)) (r : Option Ranked)
    → All (IsPossibleStart s) starts → i < length starts → slice_index_or starts i x ≡ x
    → is_and (op_at s (group_of s x.request.0)) ≡ false → place ≡ place_of s x.request.0 → AreNoted s (take i starts) noted
    → IsEarlier (slice_index_or noted place None) (rank_of s x) r → AreNoted s (take (i + 1) starts) (set noted place r)
noted_more s starts i x place noted r possible l is outside at are earlier =
    let known : IsKnown s x.request.0 = (subst (IsPossibleStart s) is (possible i x l)).known in
    let count : length noted ≡ length (listed s) = are.count in
    subst (λ (ps : List Placement). AreNoted s ps (set noted place r))
    (sym (take_more starts i x l ∙ ap (λ (q : Placement). take i starts ++ q ∷ []) is)) (record {
      count = length-set noted place r ∙ count;
      each = λ k below. elim (cases_eq k place) [
        | inl same ↦ subst (λ (n : ℕ). IsNoted s (take i starts ++ x ∷ []) n (slice_index_or (set noted place r) n None)) (sym same)
            (subst (IsNoted s (take i starts ++ x ∷ []) place) (sym (get_or-set_same noted place r None (omega arith)))
            (noted_here s (take i starts) x place (slice_index_or noted place None) r
            (All-take (IsPossibleStart s) i starts possible) outside known at (are.each place (omega arith)) earlier))
        | inr other ↦ subst (IsNoted s (take i starts ++ x ∷ []) k) (sym (get_or-set_other noted place k r None other))
            (noted_elsewhere s (take i starts) x k (slice_index_or noted k None) outside (λ e. other (sym e ∙ sym at)) (are.each k below))
      ];
    })

-- the same, as the steps of a loop know it
pub noted_step : (s : Parts) (starts : List Placement) (i : ℕ) (d : Placement) (place : ℕ) (noted : List (Option Ranked)) (o r : Option Ranked)
    (y : Ranked) → All (IsPossibleStart s) starts → i < length starts → is_and (op_at s (group_of s (slice_index_or starts i d).request.0)) ≡ false
    → place ≡ place_of s (slice_index_or starts i d).request.0 → place < length (listed s) → AreNoted s (take i starts) noted
    → o ≡ slice_index_or noted place o → y ≡ rank_of s (slice_index_or starts i d) → IsEarlier o y r
    → AreNoted s (take (i + 1) starts) (set noted place r)
noted_step s starts i d place noted o r y possible l outside at within are there rank earlier =
    let x : Placement = slice_index_or starts i d in
    let count : length noted ≡ length (listed s) = are.count in
    let read : o ≡ slice_index_or noted place None = there ∙ get_or_default noted place o None (omega arith) in
    noted_more s starts i x place noted r possible l (get_or_default starts i x d l) outside at are
    (subst (λ (p : Option Ranked). IsEarlier p (rank_of s x) r) read (subst (λ (z : Ranked). IsEarlier o z r) rank earlier))

-- and one that isn't
pub noted_kept : (s : Parts) (starts : List Placement) (i : ℕ) (x : Placement) (noted : List (Option Ranked)) → i < length starts
    → slice_index_or starts i x ≡ x → is_and (op_at s (group_of s x.request.0)) ≡ true → AreNoted s (take i starts) noted
    → AreNoted s (take (i + 1) starts) noted
noted_kept s starts i x noted l is inside are =
    subst (λ (ps : List Placement). AreNoted s ps noted) (sym (take_more starts i x l ∙ ap (λ (q : Placement). take i starts ++ q ∷ []) is)) (record {
      count = are.count;
      each = λ k below. kept k (slice_index_or noted k None) (are.each k below);
    })
  where
    same : outside_ands s (take i starts ++ x ∷ []) ≡ outside_ands s (take i starts)
    same = outs_same s (take i starts) x inside

    kept : (k : ℕ) (o : Option Ranked) → IsNoted s (take i starts) k o → IsNoted s (take i starts ++ x ∷ []) k o
    kept k None none = λ z c. none z (subst (λ (ps : List Placement). Contains ps z) same c)
    kept k (Some y) (rank, at, is_first) = (
      rank,
      at,
      record {
        one = subst (λ (ps : List Placement). Contains ps (start_of y)) (sym same) is_first.one;
        first = λ z c own. is_first.first z (subst (λ (ps : List Placement). Contains ps z) same c) own;
      },
    )

-- ---- what is noted, listed

listed_of : (noted : List (Option Ranked)) (x : Ranked) → Contains (filter_map (λ r. r) noted) x → (k : ℕ) × (k < length noted)
    × (slice_index_or noted k None ≡ Some x)
listed_of [] x c = absurd (omega (arith, c.1))
listed_of (None ∷ os) x c = let rest = listed_of os x c in (suc rest.0, omega (arith, rest.1), rest.2)
listed_of (Some y ∷ os) x c = elim (contains_cases y x (filter_map (λ r. r) os) c) [
  | inl e ↦ (0, omega arith, ap (λ (z : Ranked). Some z) e)
  | inr d ↦ let rest = listed_of os x d in (suc rest.0, omega (arith, rest.1), rest.2)
]

is_listed : (noted : List (Option Ranked)) (k : ℕ) (x : Ranked) → k < length noted → slice_index_or noted k None ≡ Some x
    → Contains (filter_map (λ r. r) noted) x
is_listed [] k x l e = absurd (omega arith)
is_listed (None ∷ os) zero x l e = cc
is_listed (None ∷ os) (suc k) x l e = is_listed os k x (omega arith) e
is_listed (Some y ∷ os) zero x l e = let same : y ≡ x = cc in subst (Contains (y ∷ filter_map (λ r. r) os)) same (contains_first y (filter_map (λ r. r) os))
is_listed (Some y ∷ os) (suc k) x l e = contains_rest y x (filter_map (λ r. r) os) (is_listed os k x (omega arith) e)

-- numbers that are where they stand rise
rises : (f : Ranked → ℕ) (n : ℕ) (noted : List (Option Ranked))
    → ((k : ℕ) (x : Ranked) → k < length noted → slice_index_or noted k None ≡ Some x → f x ≡ n + k)
    → AllPairs (λ a b. f a < f b) (filter_map (λ r. r) noted)
rises f n [] at = λ i j d l m. absurd (omega arith)
rises f n (None ∷ os) at = rises f (n + 1) os (λ k x l e. let here : f x ≡ n + suc k = at (suc k) x (omega arith) e in omega arith)
rises f n (Some y ∷ os) at = AllPairs-cons (λ a b. f a < f b) y (filter_map (λ r. r) os)
    (all_of (λ z. f y < f z) (filter_map (λ r. r) os) (λ z c.
    let found = listed_of os z c in
    let there : f z ≡ n + suc found.0 = at (suc found.0) z (omega (arith, found.1)) found.2 in
    let here : f y ≡ n + 0 = at 0 y (omega arith) refl in
    omega arith))
    (rises f (n + 1) os (λ k x l e. let here : f x ≡ n + suc k = at (suc k) x (omega arith) e in omega arith))

pub listed_some : (noted : List (Option Ranked)) (i : ℕ) (d : Option Ranked) (items : List Ranked) (x : Ranked) → i < length noted
    → slice_index_or noted i d ≡ Some x → items ≡ filter_map (λ r. r) (take i noted) → items ++ x ∷ [] ≡ filter_map (λ r. r) (take (i + 1) noted)
listed_some noted i d items x l is so_far =
    ap (λ (xs : List Ranked). xs ++ x ∷ []) so_far
    ∙ sym (ap (filter_map (λ r. r)) (take_more noted i d l ∙ ap (λ (o : Option Ranked). take i noted ++ o ∷ []) is)
    ∙ filter_map-append (λ r. r) (take i noted) (Some x ∷ []))

pub listed_none : (noted : List (Option Ranked)) (i : ℕ) (d : Option Ranked) (items : List Ranked) → i < length noted
    → slice_index_or noted i d ≡ None → items ≡ filter_map (λ r. r) (take i noted) → items ≡ filter_map (λ r. r) (take (i + 1) noted)
listed_none noted i d items l is so_far =
    so_far
    ∙ sym (ap (filter_map (λ r. r)) (take_more noted i d l ∙ ap (λ (o : Option Ranked). take i noted ++ o ∷ []) is)
    ∙ filter_map-append (λ r. r) (take i noted) (None ∷ []) ∙ append-nil (filter_map (λ r. r) (take i noted)))

-- what is known of a rank that is listed
record IsKnownRank (s : Parts) (starts : List Placement) (x : Ranked) : Type 0 where
  pub worth : x.worth.0 ≡ worth_at s (start_of x)
  pub foremost : IsForemost s starts (start_of x)

known_rank : (s : Parts) (starts : List Placement) (noted : List (Option Ranked)) → AreNoted s starts noted
    → All (IsKnownRank s starts) (filter_map (λ r. r) noted)
known_rank s starts noted are = all_of (IsKnownRank s starts) (filter_map (λ r. r) noted) (λ x c.
    let found = listed_of noted x c in
    let count : length noted ≡ length (listed s) = are.count in
    let is : IsNoted s starts found.0 (Some x) = subst (IsNoted s starts found.0) found.2 (are.each found.0 (omega (arith, found.1))) in
    record { worth = ap (λ (z : Ranked). z.worth.0) is.0; foremost = is.2 })

ranks_apart : (s : Parts) (starts : List Placement) (noted : List (Option Ranked)) → AreNoted s starts noted
    → AllPairs (λ a b. place_of s a.request.0 ≢ place_of s b.request.0) (filter_map (λ r. r) noted)
ranks_apart s starts noted are =
    let rising : AllPairs (λ a b. place_of s a.request.0 < place_of s b.request.0) (filter_map (λ r. r) noted) =
    rises (λ x. place_of s x.request.0) 0 noted (λ k x l e.
    let count : length noted ≡ length (listed s) = are.count in
    let is : IsNoted s starts k (Some x) = subst (IsNoted s starts k) e (are.each k (omega arith)) in
    let at : place_of s x.request.0 ≡ k = is.1 in
    omega arith) in
    λ i j d l m. below_differs _ _ (rising i j d l m)
  where
    below_differs : (a b : ℕ) → a < b → a ≢ b
    below_differs a b less e = omega arith

-- what is noted, sorted, are the starts that are tried first, in order
pub ordered_from_noted : (s : Parts) (starts : List Placement) (noted : List (Option Ranked)) (ranks sorted : List Ranked)
    → All (IsPossibleStart s) starts → AreNoted s starts noted → ranks ≡ filter_map (λ r. r) noted → IsPermutation ranks sorted
    → ((k : ℕ) (d : Ranked) → k + 1 < length sorted → IsRankedBefore (slice_index_or sorted k d) (slice_index_or sorted (k + 1) d))
    → AreOrdered s starts (map start_of sorted)
ordered_from_noted s starts noted ranks sorted possible are is same near =
    let known : All (IsKnownRank s starts) sorted =
    All-permutation (IsKnownRank s starts) ranks sorted same (subst (All (IsKnownRank s starts)) (sym is) (known_rank s starts noted are)) in
    let apart : AllPairs (λ a b. place_of s a.request.0 ≢ place_of s b.request.0) sorted =
    all_pairs_permutation (λ a b. place_of s a.request.0 ≢ place_of s b.request.0) (λ x y other e. other (sym e)) ranks sorted same
    (subst (AllPairs (λ a b. place_of s a.request.0 ≢ place_of s b.request.0)) (sym is) (ranks_apart s starts noted are)) in
    let falling : AllPairs IsRankedBefore sorted = all_pairs_from_neighbours IsRankedBefore ranks_join sorted near in
    record {
      each = All-map (IsForemost s starts) start_of sorted (λ k d l. (known k d l).foremost);
      complete = λ z c.
          let own : IsPossibleStart s z = All-contains (IsPossibleStart s) (outside_ands s starts) z (outside_possible s starts possible) c in
          found z c own.known (slice_index_or noted (place_of s z.request.0) None) refl (are.each (place_of s z.request.0) own.known);
      falling = AllPairs-map (IsTriedBefore s) start_of sorted
          (λ i j d l m. elim (same_or_tried s (slice_index_or sorted i d) (slice_index_or sorted j d) (known i d (omega arith)).worth
          (known j d m).worth (falling i j d l m)) [
            | inl e ↦ absurd (apart i j d l m (ap (λ (q : Placement). place_of s q.request.0) e))
            | inr tried ↦ tried
          ]);
    }
  where
    found : (z : Placement) → Contains (outside_ands s starts) z → IsKnown s z.request.0 → (o : Option Ranked)
        → slice_index_or noted (place_of s z.request.0) None ≡ o → IsNoted s starts (place_of s z.request.0) o
        → (b : Placement) × Contains (map start_of sorted) b × (b.request.0 ≡ z.request.0)
    found z c k None e none = absurd (none z c refl)
    found z c k (Some x) e (rank, at, first) =
        let count : length noted ≡ length (listed s) = are.count in
        let own : IsPossibleStart s (start_of x) =
        All-contains (IsPossibleStart s) (outside_ands s starts) (start_of x) (outside_possible s starts possible) first.one in (
          start_of x,
          contains_map start_of sorted x (Contains-permutation ranks sorted x same
              (subst (λ (xs : List Ranked). Contains xs x) (sym is) (is_listed noted (place_of s z.request.0) x (omega arith) e))),
          same_place s x.request.0 z.request.0 own.known k at,
        )

-- what is tried is possible, and of no AND
pub ordered_possible : (s t : Parts) (starts : List Placement) (ranks items : List Ranked) → t ≡ s → items ≡ ranks → All (IsPossibleStart s) starts
    → AreOrdered s starts (map start_of ranks) → All (IsPossibleStart t) (map start_of items)
ordered_possible s t starts ranks items same read possible are =
    subst (λ (xs : List Ranked). All (IsPossibleStart t) (map start_of xs)) (sym read)
    (subst (λ (p : Parts). All (IsPossibleStart p) (map start_of ranks)) (sym same)
    (λ k d l. All-contains (IsPossibleStart s) (outside_ands s starts) _ (outside_possible s starts possible) (are.each k d l).one))

pub ordered_outside : (s t : Parts) (starts : List Placement) (ranks items : List Ranked) → t ≡ s → items ≡ ranks → All (IsPossibleStart s) starts
    → AreOrdered s starts (map start_of ranks) → All (λ p. ¬ (IsKind t And (group_of t p.request.0))) (map start_of items)
ordered_outside s t starts ranks items same read possible are =
    subst (λ (xs : List Ranked). All (λ p. ¬ (IsKind t And (group_of t p.request.0))) (map start_of xs)) (sym read)
    (subst (λ (p : Parts). All (λ q. ¬ (IsKind p And (group_of p q.request.0))) (map start_of ranks)) (sym same)
    (λ k d l. All-contains (λ q. ¬ (IsKind s And (group_of s q.request.0))) (outside_ands s starts) _ (outside_kind s starts possible) (are.each k d l).one))
