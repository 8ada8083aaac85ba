-- A list that is written item by item.
use Rattle.std.proofs.Common.{◌≡◌, ℕ, ◌+◌, ◌<◌, ◌≤◌, List, [], ◌∷◌, ◌++◌, Bool, false, true, length, get_or, take, drop, map, Result, Ok, Err, IsErr}
use Rattle.std.proofs.Common.{refl, sym, ap, ◌∙◌, subst, append_assoc, append-nil, arith}
use Rattle.std.specs.List.{All}
use Rattle.std.proofs.lemmas.List.{at_drop_all, at_drop_more, take_all}
use Rattle.std.proofs.lemmas.List.Elements.{All-more, All-head, All-tail, All-same, All-nil}
use Rattle.serde_json.specs.Data.{Data}
use Rattle.serde_json.specs.View.{items_of}
use Rattle.serde_json.specs.Written.{comma_if, items_text}
use Rattle.plan_json.specs.Adds.{text_of, IsFrontOf, Adds, AddsItems}
use Rattle.plan_json.specs.Exact.{IsWritten, AreWrittenItems}
use Rattle.plan_json.proofs.Fronts.{IsFrontOf-trans}

pub all_written : {T : Type 0} (n : ℕ) (f : T → Data) (xs : List T) → All (λ x. IsWritten n (f x)) xs → AreWrittenItems n (items_of (map f xs))
all_written n f [] h = record { exact = tt; in_order = tt; flat = omega arith }
all_written n f (x ∷ xs) h =
    let first = All-head (λ y. IsWritten n (f y)) x xs h in
    let rest = all_written n f xs (All-tail (λ y. IsWritten n (f y)) x xs h) in
    record { exact = (first.exact, rest.exact); in_order = (first.in_order, rest.in_order); flat = omega (arith, first.flat, rest.flat) }

-- the text of the items from k on
abbrev pub left_text : {T : Type 0} → (T → Data) → List T → ℕ → Bool → List ℕ
left_text f xs k is_later = items_text is_later (items_of (map f (drop k xs)))

-- Of the list xs, the first k items were added: what was there stays, and the text so far with that of the items left is
-- the whole.
pub record Wrote {T : Type 0} (n : ℕ) (f : T → Data) (xs : List T) (old new : List ℕ) (k : ℕ) (is_later : Bool) : Type 0 where
  pub front : IsFrontOf old new
  pub text : new ++ left_text f xs k is_later ≡ old ++ left_text f xs 0 false
  pub written : All (λ x. IsWritten n (f x)) (take k xs)

pub none_wrote : {T : Type 0} (n : ℕ) (f : T → Data) (xs : List T) (old : List ℕ) → Wrote n f xs old old 0 false
none_wrote n f xs old = record { front = ([], sym (append-nil old)); text = refl; written = All-nil (λ x. IsWritten n (f x)) }

pub more_wrote : {T : Type 0} (n : ℕ) (f : T → Data) (xs : List T) (old mid new : List ℕ) (k : ℕ) (is_later : Bool) (x : T) → k < length xs → x ≡ get_or xs k x
    → Wrote n f xs old mid k is_later → new ≡ mid ++ (comma_if is_later ++ text_of (f x)) → IsWritten n (f x) → Wrote n f xs old new (k + 1) true
unfolding text_of
more_wrote {T} n f xs old mid new k is_later x within is so_far added written =
    let whole : (mid ++ (comma_if is_later ++ text_of (f x))) ++ left_text f xs (k + 1) true ≡ mid
    ++ items_text is_later (items_of (map f (x ∷ drop (k + 1) xs))) =
    simp append_assoc in
    let left : items_text is_later (items_of (map f (x ∷ drop (k + 1) xs))) ≡ left_text f xs k is_later =
    ap (λ (y : T). items_text is_later (items_of (map f (y ∷ drop (k + 1) xs)))) is
    ∙ sym (at_drop_more (λ ys. items_text is_later (items_of (map f ys))) xs k x within) in
    record {
      front = IsFrontOf-trans old mid new so_far.front (_, added);
      text = ap (λ (s : List ℕ). s ++ left_text f xs (k + 1) true) added ∙ whole ∙ ap (λ (s : List ℕ). mid ++ s) left ∙ so_far.text;
      written = All-more (λ y. IsWritten n (f y)) xs k x within so_far.written (subst (λ y. IsWritten n (f y)) is written);
    }

pub part_wrote : {E T : Type 0} (n : ℕ) (r : Result (Unit {0}) E) (f : T → Data) (xs : List T) (old mid new : List ℕ) (k : ℕ) (is_later : Bool) → IsErr r
    → Wrote n f xs old mid k is_later → IsFrontOf mid new → AddsItems r old new n (items_of (map f xs))
part_wrote n (Ok v) f xs old mid new k is_later err so_far front = absurd cc
part_wrote n (Err e) f xs old mid new k is_later err so_far front =
    record { adds = record { ok = tt; err = IsFrontOf-trans old mid new so_far.front front }; holds = tt }

pub all_wrote : {E T : Type 0} (n : ℕ) (r : Result (Unit {0}) E) (f : T → Data) (xs : List T) (old mid new : List ℕ) (k : ℕ) (is_later : Bool) → length xs ≤ k
    → Wrote n f xs old mid k is_later → Adds r mid new (93 ∷ []) → AddsItems r old new n (items_of (map f xs))
all_wrote n (Err e) f xs old mid new k is_later over so_far adds =
    record { adds = record { ok = tt; err = IsFrontOf-trans old mid new so_far.front adds.err }; holds = tt }
all_wrote n (Ok v) f xs old mid new k is_later over so_far adds = record {
  adds = record {
    ok = adds.ok ∙ ap (λ (s : List ℕ). mid ++ s) (sym (at_drop_all (λ ys. items_text is_later (items_of (map f ys))) xs k over)) ∙ so_far.text;
    err = tt;
  };
  holds = all_written n f xs (All-same (λ x. IsWritten n (f x)) xs (take k xs) (sym (take_all k xs over)) so_far.written);
}
