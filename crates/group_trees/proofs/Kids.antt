-- The sums over children, from a place on.
use Rattle.std.proofs.Common.{◌≡◌, ℕ, ◌+◌, ◌≤◌, ◌<◌, ◌⊎◌, inl, inr, ℤ, pos, ◌+ℤ◌, ◌≤ℤ◌, List, [], ◌∷◌, length, drop, slice_index_or, All, sym, ap, ◌∙◌}
use Rattle.std.proofs.Common.{subst, arith}
use Rattle.std.proofs.lemmas.List.{at_drop_more, drop_all}
use Rattle.plan_base.specs.declared.parts.Parts.{Parts}
use Rattle.plan_base.specs.Bound.{price}
use Rattle.plan_base.specs.NetPrices.{IsNetInRange}
use Rattle.group_trees.specs.declared.tree.Tree.{Tree}
use Rattle.group_trees.specs.declared.rebate.Greatest.{Greatest}
use Rattle.group_trees.specs.Trees.{Node, leaf, many, one_of, all_of, Nodes, seen, all_seen}
use Rattle.group_trees.specs.Choices.{IsTreeChoice, IsUnion, IsOfOne, IsWhole}
use Rattle.group_trees.specs.Rebates.{IsGreatest}
use Rattle.group_trees.specs.Pairs.{IsSome, IsPair, IsSum, AreSums, IsJoined, IsSound, AreSound}
use Rattle.group_trees.proofs.Choices.{choice_short, union_short, whole_short}
use Rattle.group_trees.proofs.Sums.{pair_more, pair_single, best_more, best_single, whole_more, whole_none, pair_beside, some_leaf, some_one_of}
use Rattle.group_trees.proofs.Sums.{some_all_of, greatest_between, pair_between, price_up_to}
use Rattle.group_trees.proofs.Sound.{sound_at, sound_from}

-- the elements from a place on
drop_here : (xs : List Tree) (i : ℕ) (x : Tree) → i < length xs → x ≡ slice_index_or xs i x → drop i xs ≡ x ∷ drop (i + 1) xs
drop_here xs i x l e = at_drop_more (λ (ys : List Tree). ys) xs i x l ∙ ap (λ (z : Tree). z ∷ drop (i + 1) xs) (sym e)

drop_end : (xs : List Tree) (i : ℕ) → length xs ≤ i → drop i xs ≡ []
drop_end xs i l = drop_all i xs l

pub sound_read : (s : Parts) (xs : List Tree) (i : ℕ) (x : Tree) → i < length xs → x ≡ slice_index_or xs i x → AreSound s (all_seen xs) → IsSound s (seen x)
sound_read s xs i x l e h = subst (λ (y : Tree). IsSound s (seen y)) (sym e) (sound_at s xs i x l h)

module _ (s : Parts) (prices : List ℤ) (xs : List Tree) (range : All IsNetInRange prices) (sound : AreSound s (all_seen xs)) where
  -- the last child alone
  pub union_last : (i : ℕ) (x : Tree) (sums : Greatest) → i + 1 ≡ length xs → x ≡ slice_index_or xs i x → IsPair (IsTreeChoice (seen x)) (price s prices) sums
      → IsPair (IsUnion (all_seen (drop i xs))) (price s prices) sums
  union_last i x sums l e h =
      let at_end : drop (i + 1) xs ≡ [] = drop_end xs (i + 1) (omega arith) in
      subst (λ (ys : List Tree). IsPair (IsUnion (all_seen ys)) (price s prices) sums)
      (sym (drop_here xs i x (omega arith) e ∙ ap (λ (ys : List Tree). x ∷ ys) at_end)) (pair_single (seen x) (price s prices) sums h)

  pub union_next : (i : ℕ) (x : Tree) (first rest sums : Greatest) → i < length xs → x ≡ slice_index_or xs i x
      → IsPair (IsTreeChoice (seen x)) (price s prices) first
      → IsPair (IsUnion (all_seen (drop (i + 1) xs))) (price s prices) rest → IsJoined first rest sums
      → IsPair (IsUnion (all_seen (drop i xs))) (price s prices) sums
  union_next i x first rest sums l e h k joined =
      subst (λ (ys : List Tree). IsPair (IsUnion (all_seen ys)) (price s prices) sums) (sym (drop_here xs i x l e))
      (pair_more (seen x) (all_seen (drop (i + 1) xs)) (price s prices) first rest sums h k joined)

  pub best_last : (i : ℕ) (x : Tree) (best : ℤ) → i + 1 ≡ length xs → x ≡ slice_index_or xs i x
      → IsGreatest (IsSome (IsTreeChoice (seen x))) (price s prices) best
      → IsGreatest (IsSome (IsOfOne (all_seen (drop i xs)))) (price s prices) best
  best_last i x best l e h =
      let at_end : drop (i + 1) xs ≡ [] = drop_end xs (i + 1) (omega arith) in
      subst (λ (ys : List Tree). IsGreatest (IsSome (IsOfOne (all_seen ys))) (price s prices) best)
      (sym (drop_here xs i x (omega arith) e ∙ ap (λ (ys : List Tree). x ∷ ys) at_end)) (best_single (seen x) (price s prices) best h)

  pub best_next : (i : ℕ) (x : Tree) (a b best : ℤ) → i < length xs → x ≡ slice_index_or xs i x → IsGreatest (IsSome (IsTreeChoice (seen x))) (price s prices) a
      → IsGreatest (IsSome (IsOfOne (all_seen (drop (i + 1) xs)))) (price s prices) b → a ≤ℤ best → b ≤ℤ best → (best ≡ a) ⊎ (best ≡ b)
      → IsGreatest (IsSome (IsOfOne (all_seen (drop i xs)))) (price s prices) best
  best_next i x a b best l e h k la lb one =
      subst (λ (ys : List Tree). IsGreatest (IsSome (IsOfOne (all_seen ys))) (price s prices) best) (sym (drop_here xs i x l e))
      (best_more (seen x) (all_seen (drop (i + 1) xs)) (price s prices) a b best h k la lb one)

  pub whole_end : (i : ℕ) → length xs ≤ i → IsGreatest (IsWhole (all_seen (drop i xs))) (price s prices) (pos 0)
  whole_end i l = subst (λ (ys : List Tree). IsGreatest (IsWhole (all_seen ys)) (price s prices) (pos 0)) (sym (drop_end xs i l)) (whole_none (price s prices))

  pub whole_next : (i : ℕ) (x : Tree) (a b sum : ℤ) → i < length xs → x ≡ slice_index_or xs i x → IsGreatest (IsSome (IsTreeChoice (seen x))) (price s prices) a
      → IsGreatest (IsWhole (all_seen (drop (i + 1) xs))) (price s prices) b → sum ≡ a +ℤ b → IsGreatest (IsWhole (all_seen (drop i xs))) (price s prices) sum
  whole_next i x a b sum l e h k is =
      subst (λ (ys : List Tree). IsGreatest (IsWhole (all_seen ys)) (price s prices) sum) (sym (drop_here xs i x l e))
      (whole_more (seen x) (all_seen (drop (i + 1) xs)) (price s prices) a b sum h k is)

  -- none of them is too great
  pub child_sums : (i : ℕ) (x : Tree) (sums : Greatest) → i < length xs → x ≡ slice_index_or xs i x
      → IsPair (IsTreeChoice (seen x)) (price s prices) sums → AreSums sums
  child_sums i x sums l e h =
      let one : IsSound s (seen x) = sound_read s xs i x l e sound in
      pair_between (IsTreeChoice (seen x)) (price s prices) sums (price_up_to 2000000000000 s prices range)
      (λ choice a. let short = choice_short (seen x) choice a in let few = one.few in omega arith) h

  pub union_sums : (i : ℕ) (sums : Greatest) → IsPair (IsUnion (all_seen (drop i xs))) (price s prices) sums → AreSums sums
  union_sums i sums h =
      let rest : AreSound s (all_seen (drop i xs)) = sound_from s xs i sound in
      pair_between (IsUnion (all_seen (drop i xs))) (price s prices) sums (price_up_to 2000000000000 s prices range)
      (λ choice a. let short = union_short (all_seen (drop i xs)) choice a in let few = rest.few in omega arith) h

  pub whole_sum : (i : ℕ) (sum : ℤ) → IsGreatest (IsWhole (all_seen (drop i xs))) (price s prices) sum → IsSum sum
  whole_sum i sum h =
      let rest : AreSound s (all_seen (drop i xs)) = sound_from s xs i sound in
      greatest_between (IsWhole (all_seen (drop i xs))) (price s prices) sum (price_up_to 2000000000000 s prices range)
      (λ choice a. let short = whole_short (all_seen (drop i xs)) choice a in let few = rest.few in omega arith) h

-- ---- the node over the children

module _ (s : Parts) (prices : List ℤ) where
  pub leaf_pair : (t : Node) (r : ℕ) (some : ℤ) (x : Greatest) → t ≡ leaf r → some ≡ price s prices r → x.some ≡ some → pos 0 ≤ℤ x.any → some ≤ℤ x.any
      → (x.any ≡ pos 0) ⊎ (x.any ≡ some)
      → IsPair (IsTreeChoice t) (price s prices) x
  leaf_pair t r some x e is same least above one =
      subst (λ (u : Node). IsPair (IsTreeChoice u) (price s prices) x) (sym e)
      (beside (leaf r) some x same least above one (some_leaf r (price s prices) some is))
    where
      beside : (t : Node) (some : ℤ) (x : Greatest) → x.some ≡ some → pos 0 ≤ℤ x.any → some ≤ℤ x.any → (x.any ≡ pos 0) ⊎ (x.any ≡ some)
          → IsGreatest (IsSome (IsTreeChoice t)) (price s prices) some → IsPair (IsTreeChoice t) (price s prices) x
      beside t some x same least above one h =
          pair_beside t (price s prices) x (subst (IsGreatest (IsSome (IsTreeChoice t)) (price s prices)) (sym same) h) least
          (subst (λ (z : ℤ). z ≤ℤ x.any) (sym same) above) (elim one [ inl e ↦ inl e | inr e ↦ inr (e ∙ sym same) ])

  pub many_pair : (t : Node) (ts : Nodes) (x : Greatest) → t ≡ many ts → IsPair (IsUnion ts) (price s prices) x → IsPair (IsTreeChoice t) (price s prices) x
  many_pair t ts x e h = subst (λ (u : Node). IsPair (IsTreeChoice u) (price s prices) x) (sym e) (record { any = h.any; some = h.some })

  pub one_of_pair : (t : Node) (ts : Nodes) (some : ℤ) (x : Greatest) → t ≡ one_of ts → IsGreatest (IsSome (IsOfOne ts)) (price s prices) some
      → x.some ≡ some → pos 0 ≤ℤ x.any → some ≤ℤ x.any → (x.any ≡ pos 0) ⊎ (x.any ≡ some)
      → IsPair (IsTreeChoice t) (price s prices) x
  one_of_pair t ts some x e h same least above one =
      subst (λ (u : Node). IsPair (IsTreeChoice u) (price s prices) x) (sym e)
      (pair_beside (one_of ts) (price s prices) x
      (subst (IsGreatest (IsSome (IsTreeChoice (one_of ts))) (price s prices)) (sym same) (some_one_of ts (price s prices) some h)) least
      (subst (λ (z : ℤ). z ≤ℤ x.any) (sym same) above) (elim one [ inl f ↦ inl f | inr f ↦ inr (f ∙ sym same) ]))

  pub all_of_pair : (t : Node) (xs : List Tree) (some : ℤ) (x : Greatest) → t ≡ all_of (all_seen xs) → 0 < length xs
      → IsGreatest (IsWhole (all_seen xs)) (price s prices) some → x.some ≡ some → pos 0 ≤ℤ x.any → some ≤ℤ x.any → (x.any ≡ pos 0) ⊎ (x.any ≡ some)
      → IsPair (IsTreeChoice t) (price s prices) x
  all_of_pair t [] some x e l h same least above one = absurd (omega arith)
  all_of_pair t (y ∷ ys) some x e l h same least above one =
      subst (λ (u : Node). IsPair (IsTreeChoice u) (price s prices) x) (sym e)
      (pair_beside (all_of (all_seen (y ∷ ys))) (price s prices) x
      (subst (IsGreatest (IsSome (IsTreeChoice (all_of (all_seen (y ∷ ys))))) (price s prices)) (sym same)
      (some_all_of (seen y) (all_seen ys) (price s prices) some h)) least (subst (λ (z : ℤ). z ≤ℤ x.any) (sym same) above)
      (elim one [ inl f ↦ inl f | inr f ↦ inr (f ∙ sym same) ]))
