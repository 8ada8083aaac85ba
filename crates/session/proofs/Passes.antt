-- What is known of the passes of several callers, step by step.
use Rattle.std.proofs.Common.{◌≡◌, ◌≢◌, ℕ, zero, suc, ◌+◌, ◌<◌, ◌≤◌, List, [], ◌∷◌, ◌++◌, length, slice_get, slice_set, refl, sym, ◌∙◌, ap, subst}
use Rattle.std.proofs.Common.{arith, Option, Some, None}
use Rattle.std.proofs.Math.ListN.{get_or-append}
use Rattle.std.proofs.Common.{length-append, get_or-set_other, ◌⊎◌, inl, inr}
use Rattle.std.specs.Prelude.{slice_index_or}
use Rattle.plan_base.specs.declared.taken.Taken.{Taken as TakenParts}
use Rattle.plan_io.specs.declared.lines.ScriptLine.{ScriptLine}
use Rattle.desk_core.specs.History.{script_of}
use Rattle.desk_book.proofs.Keeping.{same_or_other}
use Rattle.desk_lock.proofs.Ranges.{open_in_range}
use Rattle.lanes.specs.Solving.{IsInRange}
use Rattle.desk_passes.specs.declared.desk.SharedDesk.{SharedDesk}
use Rattle.desk_passes.specs.declared.holders.CallAnswer.{CallAnswer}
use Rattle.desk_passes.specs.declared.holders.CallAnswer.TheVariants as answer
use Rattle.desk_passes.specs.declared.holders.Pass.{Pass}
use Rattle.desk_passes.specs.declared.holders.Receipt.{Receipt}
use Rattle.desk_passes.specs.declared.holders.Root.{Root}
use Rattle.desk_passes.specs.declared.seen.OpenTake.{OpenTake}
use Rattle.desk_passes.specs.declared.seen.PassPlace.{PassPlace}
use Rattle.desk_passes.specs.declared.seen.PassPlace.TheVariants.{NotMade, Out, Back}
use Rattle.desk_passes.specs.declared.seen.PassView.{PassView}
use Rattle.desk_passes.specs.Calls.{IsRootOf, IsPassOf, root_view, view, IsCalled}
use Rattle.desk_passes.specs.Rule.{place_of}
use Rattle.desk_passes.specs.Seen.{lines_done}
use Rattle.desk_passes.specs.Steps.{with_back}
use Rattle.desk_passes.proofs.Known.{taken_open}
use Rattle.session.specs.Passes.{IsFresh, IsOf, EachPass, OnlyOut}

-- ---- the same lines

-- two scripts have the same lines up to a place, so many
abbrev pub AgreeUpTo : ℕ → List ScriptLine → List ScriptLine → Type 0
AgreeUpTo n a b = (k : ℕ) → k < n → (line : ScriptLine) × (slice_get a k ≡ Some line) × (slice_get b k ≡ Some line)

pub agree_all : (n : ℕ) (a b : List ScriptLine) → AgreeUpTo n a b → slice_get a n ≡ None → slice_get b n ≡ None → a ≡ b
agree_all n [] [] agree x y = refl
agree_all zero [] (l ∷ b) agree x y = cc
agree_all (suc n) [] (l ∷ b) agree x y = let first = agree 0 (omega arith) in let clash : None ≡ Some first.0 = first.1 in absurd (cc)
agree_all zero (l ∷ a) b agree x y = cc
agree_all (suc n) (l ∷ a) [] agree x y = let first = agree 0 (omega arith) in let clash : None ≡ Some first.0 = first.2 in absurd (cc)
agree_all (suc n) (l ∷ a) (m ∷ b) agree x y =
    let first = agree 0 (omega arith) in
    let heads : Some l ≡ Some m = first.1 ∙ sym first.2 in
    let head : l ≡ m = cc in
    let tail : a ≡ b = agree_all n a b (λ k low. agree (suc k) (omega (arith, low))) x y in
    ap (λ (h : ScriptLine). h ∷ a) head ∙ ap (λ (t : List ScriptLine). m ∷ t) tail

agree_at : (n k : ℕ) (a b : List ScriptLine) (line : ScriptLine) → AgreeUpTo n a b → slice_get a n ≡ Some line → slice_get b n ≡ Some line
    → k < n + 1 → (k ≡ n) ⊎ (k ≢ n)
    → (l : ScriptLine) × (slice_get a k ≡ Some l) × (slice_get b k ≡ Some l)
agree_at n k a b line agree x y low (inl same) = (line, ap (slice_get a) same ∙ x, ap (slice_get b) same ∙ y)
agree_at n k a b line agree x y low (inr differs) = agree k (omega (arith, low, differs))

pub agree_more : (n : ℕ) (a b : List ScriptLine) (line other : ScriptLine) → AgreeUpTo n a b → slice_get a n ≡ Some line → slice_get b n ≡ Some other
    → line ≡ other → AgreeUpTo (n + 1) a b
agree_more n a b line other agree x y same k low =
    agree_at n k a b line agree x (y ∙ ap (λ (l : ScriptLine). Some l) (sym same)) low (same_or_other k n)

-- books with the same scripts of each caller have the same scripts
pub all_scripts : (a b : List (List ScriptLine)) → length a ≡ length b → ((k : ℕ) → k < length a → script_of a k ≡ script_of b k) → a ≡ b
all_scripts [] [] count same = refl
all_scripts [] (y ∷ b) count same = absurd (omega (arith, count))
all_scripts (x ∷ a) [] count same = absurd (omega (arith, count))
all_scripts (x ∷ a) (y ∷ b) count same =
    let tail : a ≡ b = all_scripts a b (omega (arith, count)) (λ k low. same (suc k) (omega (arith, low))) in
    ap (λ (h : List ScriptLine). h ∷ a) (same 0 (omega arith)) ∙ ap (λ (t : List (List ScriptLine)). y ∷ t) tail

-- ---- a line

-- what a call took is to be sought with settings in their ranges
pub called_range : (v w : PassView) (line : ScriptLine) (a : CallAnswer) (taken : TakenParts) (receipt : Receipt) → a ≡ answer.Taken taken receipt
    → IsCalled v line a w → w.caller ≡ v.caller
    → IsInRange taken.settings
called_range v w line a taken receipt is called same =
    let told : IsCalled v line (answer.Taken taken receipt) w = subst (λ (x : CallAnswer). IsCalled v line x w) is called in
    let adds = told.0.3 in
    let caller : ℕ = told.0.0.entry.caller in
    let t : OpenTake = record { taken = taken; line = line } in
    open_in_range adds.knows.0 caller taken adds.knows.1.full.book (taken_open w adds.knows.0 caller t adds.knows.1 (same ∙ adds.mine) told.1)

-- ---- the lines of a caller

-- so many lines of the pass's caller were called, and each has its reply
pub record Calling (desk : SharedDesk) (first : Pass) (count : ℕ) (pass : Pass) : Type 0 where
  pub of : IsPassOf desk pass
  pub caller : (view pass).caller ≡ (view first).caller
  pub shut : (view pass).take ≡ None
  pub done : lines_done (view pass).own ≤ count

-- ---- passes are made

pub record Made (desk : SharedDesk) (root : Root) (passes : List Pass) (count : ℕ) : Type 0 where
  pub of : IsRootOf desk root
  pub all : length passes ≡ count
  pub fresh : EachPass (IsFresh desk) passes
  pub out : OnlyOut (root_view root) count
  pub left : (caller : ℕ) → count ≤ caller → caller < 8 → place_of (root_view root).passes caller ≡ NotMade

-- ---- passes are given back

at_last : (xs : List Pass) (x d : Pass) → slice_index_or (xs ++ x ∷ []) (length xs) d ≡ x
at_last [] x d = refl
at_last (y ∷ xs) x d = at_last xs x d

pub fewer : (desk : SharedDesk) (xs ys : List Pass) (x : Pass) → ys ≡ xs ++ x ∷ [] → EachPass (IsOf desk) ys → EachPass (IsOf desk) xs
fewer desk xs ys x is each k d low =
    let more : length (xs ++ x ∷ []) ≡ length xs + 1 = length-append xs (x ∷ []) in
    let all : EachPass (IsOf desk) (xs ++ x ∷ []) = subst (EachPass (IsOf desk)) is each in
    subst (λ (p : Pass). IsOf desk k p) (get_or-append xs (x ∷ []) d k low) (all k d (omega (arith, low, more)))

pub last_of : (desk : SharedDesk) (xs ys : List Pass) (x : Pass) → ys ≡ xs ++ x ∷ [] → EachPass (IsOf desk) ys → (view x).caller ≡ Some (length xs)
last_of desk xs ys x is each =
    let more : length (xs ++ x ∷ []) ≡ length xs + 1 = length-append xs (x ∷ []) in
    let all : EachPass (IsOf desk) (xs ++ x ∷ []) = subst (EachPass (IsOf desk)) is each in
    ap (λ (p : Pass). (view p).caller) (sym (at_last xs x x)) ∙ (all (length xs) x (omega (arith, more))).mine

set_back : (passes : List PassPlace) (n : ℕ) → place_of (slice_set passes n Back) n ≡ Back
set_back [] zero = refl
set_back [] (suc n) = refl
set_back (x ∷ xs) zero = refl
set_back (x ∷ xs) (suc n) = set_back xs n

out_at : (passes : List PassPlace) (n caller : ℕ) → ((k : ℕ) → place_of passes k ≡ Out → k < n + 1) → place_of (slice_set passes n Back) caller ≡ Out
    → (caller ≡ n) ⊎ (caller ≢ n) → caller < n
out_at passes n caller only out (inl same) =
    let clash : Back ≡ Out = sym (set_back passes n) ∙ ap (place_of (slice_set passes n Back)) (sym same) ∙ out in absurd (cc)
out_at passes n caller only out (inr differs) =
    let low : caller < n + 1 = only caller (sym (get_or-set_other passes n caller Back Back differs) ∙ out) in omega (arith, low, differs)

pub out_fewer : (v w : PassView) (n : ℕ) (o : Option ℕ) → o ≡ Some n → w.passes ≡ with_back v.passes o → OnlyOut v (n + 1) → OnlyOut w n
out_fewer v w n o mine back only caller out =
    out_at v.passes n caller only (sym (ap (λ (ps : List PassPlace). place_of ps caller) (back ∙ ap (with_back v.passes) mine)) ∙ out) (same_or_other caller n)
