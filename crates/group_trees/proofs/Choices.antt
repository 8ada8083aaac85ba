-- What choices of trees are made of: leaves of the tree, and no more than it has.
use Rattle.std.proofs.Common.{◌≡◌, ℕ, ◌+◌, ◌≤◌, inl, inr, List, [], ◌∷◌, ◌++◌, length, All, Contains, refl, sym, subst, arith}
use Rattle.std.proofs.lemmas.List.{length-append}
use Rattle.std.proofs.lemmas.List.Elements.{All-nil, All-append, All-weaker, All-contains_itself, Contains-append_left, Contains-append_right}
use Rattle.group_trees.specs.Trees.{Node, leaf, many, one_of, all_of, Nodes, none, and_then}
use Rattle.group_trees.specs.Choices.{leaves, all_leaves, IsTreeChoice, IsUnion, IsOfOne, IsWhole}

-- each tree allows the empty choice
mutual
  pub no_choice : (t : Node) → IsTreeChoice t []
  no_choice (leaf r) = inl refl
  no_choice (many ts) = no_union ts
  no_choice (one_of ts) = inl refl
  no_choice (all_of ts) = inl refl

  pub no_union : (ts : Nodes) → IsUnion ts []
  no_union none = refl
  no_union (and_then t ts) = ([], [], refl, no_choice t, no_union ts)

-- all of them are among xs
abbrev Among : List ℕ → List ℕ → Type 0
Among xs choice = All (Contains xs) choice

none_among : (xs choice : List ℕ) → choice ≡ [] → Among xs choice
none_among xs choice e = subst (Among xs) (sym e) (All-nil (Contains xs))

left_among : (xs ys choice : List ℕ) → Among xs choice → Among (xs ++ ys) choice
left_among xs ys choice a = All-weaker (Contains xs) (Contains (xs ++ ys)) (λ r c. Contains-append_left xs ys r c) choice a

right_among : (xs ys choice : List ℕ) → Among ys choice → Among (xs ++ ys) choice
right_among xs ys choice a = All-weaker (Contains ys) (Contains (xs ++ ys)) (λ r c. Contains-append_right xs ys r c) choice a

both_among : (xs ys choice first rest : List ℕ) → choice ≡ first ++ rest → Among xs first → Among ys rest → Among (xs ++ ys) choice
both_among xs ys choice first rest e a b =
    subst (Among (xs ++ ys)) (sym e) (All-append (Contains (xs ++ ys)) first rest (left_among xs ys first a) (right_among xs ys rest b))

-- a choice has leaves of the tree alone
mutual
  pub choice_among : (t : Node) (choice : List ℕ) → IsTreeChoice t choice → All (Contains (leaves t)) choice
  choice_among (leaf r) choice (inl e) = none_among (r ∷ []) choice e
  choice_among (leaf r) choice (inr e) = subst (Among (r ∷ [])) (sym e) (All-contains_itself (r ∷ []))
  choice_among (many ts) choice h = union_among ts choice h
  choice_among (one_of ts) choice (inl e) = none_among (all_leaves ts) choice e
  choice_among (one_of ts) choice (inr h) = one_among ts choice h
  choice_among (all_of ts) choice (inl e) = none_among (all_leaves ts) choice e
  choice_among (all_of ts) choice (inr h) = whole_among ts choice h

  pub union_among : (ts : Nodes) (choice : List ℕ) → IsUnion ts choice → All (Contains (all_leaves ts)) choice
  union_among none choice e = none_among [] choice e
  union_among (and_then t ts) choice (first, rest, e, a, b) =
      both_among (leaves t) (all_leaves ts) choice first rest e (choice_among t first a) (union_among ts rest b)

  pub one_among : (ts : Nodes) (choice : List ℕ) → IsOfOne ts choice → All (Contains (all_leaves ts)) choice
  one_among none choice h = absurd h
  one_among (and_then t ts) choice (inl a) = left_among (leaves t) (all_leaves ts) choice (choice_among t choice a)
  one_among (and_then t ts) choice (inr b) = right_among (leaves t) (all_leaves ts) choice (one_among ts choice b)

  pub whole_among : (ts : Nodes) (choice : List ℕ) → IsWhole ts choice → All (Contains (all_leaves ts)) choice
  whole_among none choice e = none_among [] choice e
  whole_among (and_then t ts) choice (first, rest, e, some, a, b) =
      both_among (leaves t) (all_leaves ts) choice first rest e (choice_among t first a) (whole_among ts rest b)

none_short : (n : ℕ) (choice : List ℕ) → choice ≡ [] → length choice ≤ n
none_short n choice e = subst (λ (xs : List ℕ). length xs ≤ n) (sym e) (omega arith)

both_short : (xs ys choice first rest : List ℕ) → choice ≡ first ++ rest → length first ≤ length xs → length rest ≤ length ys
    → length choice ≤ length (xs ++ ys)
both_short xs ys choice first rest e a b =
    let all : length (xs ++ ys) ≡ length xs + length ys = length-append xs ys in
    let parts : length (first ++ rest) ≡ length first + length rest = length-append first rest in
    subst (λ (zs : List ℕ). length zs ≤ length (xs ++ ys)) (sym e) (omega arith)

left_short : (xs ys choice : List ℕ) → length choice ≤ length xs → length choice ≤ length (xs ++ ys)
left_short xs ys choice a = let all : length (xs ++ ys) ≡ length xs + length ys = length-append xs ys in omega arith

right_short : (xs ys choice : List ℕ) → length choice ≤ length ys → length choice ≤ length (xs ++ ys)
right_short xs ys choice a = let all : length (xs ++ ys) ≡ length xs + length ys = length-append xs ys in omega arith

-- a choice has no more leaves than the tree
mutual
  pub choice_short : (t : Node) (choice : List ℕ) → IsTreeChoice t choice → length choice ≤ length (leaves t)
  choice_short (leaf r) choice (inl e) = none_short 1 choice e
  choice_short (leaf r) choice (inr e) = subst (λ (xs : List ℕ). length xs ≤ 1) (sym e) (omega arith)
  choice_short (many ts) choice h = union_short ts choice h
  choice_short (one_of ts) choice (inl e) = none_short (length (all_leaves ts)) choice e
  choice_short (one_of ts) choice (inr h) = one_short ts choice h
  choice_short (all_of ts) choice (inl e) = none_short (length (all_leaves ts)) choice e
  choice_short (all_of ts) choice (inr h) = whole_short ts choice h

  pub union_short : (ts : Nodes) (choice : List ℕ) → IsUnion ts choice → length choice ≤ length (all_leaves ts)
  union_short none choice e = none_short 0 choice e
  union_short (and_then t ts) choice (first, rest, e, a, b) =
      both_short (leaves t) (all_leaves ts) choice first rest e (choice_short t first a) (union_short ts rest b)

  pub one_short : (ts : Nodes) (choice : List ℕ) → IsOfOne ts choice → length choice ≤ length (all_leaves ts)
  one_short none choice h = absurd h
  one_short (and_then t ts) choice (inl a) = left_short (leaves t) (all_leaves ts) choice (choice_short t choice a)
  one_short (and_then t ts) choice (inr b) = right_short (leaves t) (all_leaves ts) choice (one_short ts choice b)

  pub whole_short : (ts : Nodes) (choice : List ℕ) → IsWhole ts choice → length choice ≤ length (all_leaves ts)
  whole_short none choice e = none_short 0 choice e
  whole_short (and_then t ts) choice (first, rest, e, some, a, b) =
      both_short (leaves t) (all_leaves ts) choice first rest e (choice_short t first a) (whole_short ts rest b)
