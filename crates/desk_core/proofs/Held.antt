-- What is held for needs: of each account once, of one proposal, and no more than is needed.
use Rattle.std.proofs.Common.{◌≡◌, ◌≢◌, ◌∙◌, ap, sym, subst, refl, ℕ, suc, ◌+◌, ◌<◌, ◌≤◌, max, Bool, true, false, cond, List, [], ◌∷◌, length, map}
use Rattle.std.proofs.Common.{filter, fold, sum_by, All, get_or, arith}
use Rattle.std.specs.List.{Contains}
use Rattle.std.specs.Ordering.{is_eq}
use Rattle.std.specs.BTreeSet.{insert_key}
use Rattle.std.proofs.lemmas.Bool.{or_left}
use Rattle.std.proofs.lemmas.List.{length-map}
use Rattle.std.proofs.lemmas.List.Elements.{All-nil, All-cons, All-head, All-tail, All-map}
use Rattle.std.proofs.lemmas.List.Folds.{fold-map}
use Rattle.std.proofs.lemmas.List.Sums.{sum_by-le, sum_by-le-sum_by, sum_by-cons}
use Rattle.std.proofs.lemmas.Map.Views.{All-insert_key}
use Rattle.plan_base.specs.declared.parts.Op.{Op}
use Rattle.plan_base.specs.States.{is_pending}
use Rattle.request_model.specs.declared.group.GroupDoc.{GroupDoc}
use Rattle.request_model.specs.declared.group.ObsKind.{ObsKind}
use Rattle.request_model.specs.declared.group.ObsKind.TheVariants as kind
use Rattle.allocations.specs.declared.entry.Hold.{Hold}
use Rattle.allocations.specs.declared.key.Account.TheVariants.{Ipp}
use Rattle.allocations.specs.declared.key.Key.{Key}
use Rattle.allocations.specs.Key.{key_cmp, is_key}
use Rattle.allocations.specs.Books.{held_in}
use Rattle.allocations.specs.Ledger.{seconds_of_holds, IsHoldList}
use Rattle.allocations.specs.Refusals.{proposal_of}
use Rattle.allocations.specs.Rising.{Rises}
use Rattle.allocations.proofs.Keys.{is_key-refl, is_key-true}
use Rattle.desk_runs.specs.declared.group.Request.{Request}
use Rattle.plan_base.specs.Operators.{is_oneof}
use Rattle.desk_core.specs.declared.desk.Wanted.{Wanted}
use Rattle.desk_core.specs.Holds.{account_of, key_of, needs_of, keys_in, greatest_in, held_for, holds_of}
use Rattle.desk_core.proofs.KeySets.{keys_from, on_from}
use Rattle.desk_core.proofs.Fewer.{keys_rise}

-- ---- no more is held than is needed

-- of rising keys at most one is this one
one_key : (x : Key) (s : ℕ) (ks : List Key) → Rises key_cmp ks → sum_by (λ k. cond (is_key x k) s 0) ks ≤ s
one_key x s [] r = omega arith
one_key x s (k ∷ ks) r = by (is_key x k) refl (one_key x s ks (λ i j d l m. r (suc i) (suc j) d (omega arith) (omega arith)))
  where
    by : (b : Bool) → is_key x k ≡ b → sum_by (λ k. cond (is_key x k) s 0) ks ≤ s → sum_by (λ k. cond (is_key x k) s 0) (k ∷ ks) ≤ s
    by true e rest =
        let none : All (λ y. cond (is_key x y) s 0 ≤ 0) ks =
        λ i d l. other (get_or ks i d) (ap is_eq (ap (λ (z : Key). key_cmp z (get_or ks i d)) (is_key-true x k e)
        ∙ r 0 (suc i) d (omega arith) (omega arith))) in
        let sum = sum_by-cons (λ k. cond (is_key x k) s 0) k ks in
        let later = sum_by-le (λ k. cond (is_key x k) s 0) 0 ks none in
        let here : cond (is_key x k) s 0 ≡ s = ap (λ (b : Bool). cond b s 0) e in
        omega (arith, sum, later, here)
      where
        other : (y : Key) → is_key x y ≡ false → cond (is_key x y) s 0 ≤ 0
        other y f = rw f (omega arith)
    by false e rest =
        let sum = sum_by-cons (λ k. cond (is_key x k) s 0) k ks in
        let here : cond (is_key x k) s 0 ≡ 0 = ap (λ (b : Bool). cond b s 0) e in
        omega (arith, sum, here)

sum_of_both : (f g : Key → ℕ) (ks : List Key) → sum_by (λ k. f k + g k) ks ≡ sum_by f ks + sum_by g ks
sum_of_both f g [] = refl
sum_of_both f g (k ∷ ks) =
    let both = sum_by-cons (λ k. f k + g k) k ks in
    let first = sum_by-cons f k ks in
    let second = sum_by-cons g k ks in
    let rest = sum_of_both f g ks in
    omega (arith, both, first, second, rest)

sums_over : (needs : List Hold) (ks : List Key) → Rises key_cmp ks → sum_by (λ k. held_in k needs) ks ≤ seconds_of_holds needs
sums_over [] ks r = let most = sum_by-le (λ k. held_in k []) 0 ks (λ i d l. omega arith) in omega (arith, most)
sums_over (n ∷ ns) ks r =
    let here : Key → ℕ = λ k. cond (is_key n.key k) n.seconds 0 in
    let later : Key → ℕ = λ k. held_in k ns in
    let parts = sum_by-le-sum_by (λ k. held_in k (n ∷ ns)) (λ k. here k + later k) ks
    (λ k. let e = sum_by-cons (λ h. cond (is_key h.key k) h.seconds 0) n ns in omega (arith, e)) in
    let both = sum_of_both here later ks in
    let first = one_key n.key n.seconds ks r in
    let rest = sums_over ns ks r in
    let all = sum_by-cons (λ h. h.seconds) n ns in
    omega (arith, parts, both, first, rest, all)

greatest_from : (key : Key) (a : ℕ) (needs : List Hold) → fold (λ most h. cond (is_key h.key key) (max most h.seconds) most) a needs ≤ a + held_in key needs
greatest_from key a [] = omega arith
greatest_from key a (n ∷ ns) = by (is_key n.key key) refl (greatest_from key (cond (is_key n.key key) (max a n.seconds) a) ns)
  where
    by : (b : Bool) → is_key n.key key ≡ b → fold (λ most h. cond (is_key h.key key) (max most h.seconds) most) a (n ∷ ns) ≤ cond (is_key n.key key)
        (max a n.seconds) a + held_in key ns → fold (λ most h. cond (is_key h.key key) (max most h.seconds) most) a (n ∷ ns)
        ≤ a + held_in key (n ∷ ns)
    by true e rest =
        let here : cond (is_key n.key key) n.seconds 0 ≡ n.seconds = ap (λ (b : Bool). cond b n.seconds 0) e in
        let next : cond (is_key n.key key) (max a n.seconds) a ≡ max a n.seconds = ap (λ (b : Bool). cond b (max a n.seconds) a) e in
        let sum = sum_by-cons (λ h. cond (is_key h.key key) h.seconds 0) n ns in
        omega (arith, here, next, rest, sum)
    by false e rest =
        let here : cond (is_key n.key key) n.seconds 0 ≡ 0 = ap (λ (b : Bool). cond b n.seconds 0) e in
        let next : cond (is_key n.key key) (max a n.seconds) a ≡ a = ap (λ (b : Bool). cond b (max a n.seconds) a) e in
        let sum = sum_by-cons (λ h. cond (is_key h.key key) h.seconds 0) n ns in
        omega (arith, here, next, rest, sum)

held_for_at_most : (op : Op) (needs : List Hold) (key : Key) → held_for op needs key ≤ held_in key needs
held_for_at_most op needs key = by (is_oneof op)
  where
    by : (b : Bool) → cond b (greatest_in key needs) (held_in key needs) ≤ held_in key needs
    by true = let most = greatest_from key 0 needs in omega (arith, most)
    by false = omega arith

pub holds_at_most : (op : Op) (needs : List Hold) → seconds_of_holds (holds_of op needs) ≤ seconds_of_holds needs
holds_at_most op needs =
    let mapped : seconds_of_holds (holds_of op needs) ≡ sum_by (λ k. held_for op needs k) (keys_in needs) =
    fold-map (λ a h. a + h.seconds) (λ k. let h : Hold = record { key = k; seconds = held_for op needs k } in h) 0 (keys_in needs) in
    let most = sum_by-le-sum_by (λ k. held_for op needs k) (λ k. held_in k needs) (keys_in needs) (held_for_at_most op needs) in
    let all = sums_over needs (keys_in needs) (keys_rise needs) in
    omega (arith, mapped, most, all)

-- ---- what keys are held

keys_held : (op : Op) (needs : List Hold) → map (λ h. h.key) (holds_of op needs) ≡ keys_in needs
keys_held op needs = same (keys_in needs)
  where
    same : (ks : List Key) → map (λ h. h.key) (map (λ k. let h : Hold = record { key = k; seconds = held_for op needs k } in h) ks) ≡ ks
    same [] = refl
    same (k ∷ ks) = ap (λ (l : List Key). k ∷ l) (same ks)

-- what is so of the keys of needs is so of those that are held
keys_all : (P : Key → Type 0) (ks : List Key) (needs : List Hold) → All P ks → All (λ h. P h.key) needs → All P (keys_from ks needs)
keys_all P ks [] a h = a
keys_all P ks (n ∷ ns) a h = keys_all P (insert_key key_cmp ks n.key) ns (All-insert_key key_cmp n.key P ks a (All-head (λ h. P h.key) n ns h))
    (All-tail (λ h. P h.key) n ns h)

-- a key of the document's proposal, on the account of its observation type
pub record IsOf (document : GroupDoc) (key : Key) : Type 0 where
  pub proposal : key.proposal ≡ document.proposal
  pub account : key.account ≡ account_of document.kind

needs_are : (document : GroupDoc) (ps : List (Request × Wanted))
    → All (λ h. IsOf document h.key) (map (λ p. let h : Hold = record { key = key_of document p.1; seconds = p.0.seconds } in h) ps)
needs_are document [] = All-nil (λ h. IsOf document h.key)
needs_are document (p ∷ ps) = All-cons (λ h. IsOf document h.key) record { key = key_of document p.1; seconds = p.0.seconds } _
    (record { proposal = refl; account = refl }) (needs_are document ps)

not_ipp : (k : ObsKind) → account_of k ≢ Ipp
not_ipp kind.Normal e = absurd (cc)
not_ipp kind.TimeCritical e = absurd (cc)
not_ipp kind.RapidResponse e = absurd (cc)

held_are : (op : Op) (document : GroupDoc) (needs : List Hold) → All (λ h. IsOf document h.key) needs → All (λ h. IsOf document h.key) (holds_of op needs)
held_are op document needs of =
    All-map (λ h. IsOf document h.key) (λ k. let h : Hold = record { key = k; seconds = held_for op needs k } in
    h) (keys_in needs) (keys_all (IsOf document) [] needs (All-nil (IsOf document)) of)

some_held : (op : Op) (needs : List Hold) → 1 ≤ length needs → 1 ≤ length (holds_of op needs)
some_held op [] some = absurd (omega arith)
some_held op (n ∷ ns) some =
    let first : Contains (keys_in (n ∷ ns)) n.key = on_from [] (n ∷ ns) n.key (or_left (is_key n.key n.key) _ (is_key-refl n.key)) in
    let count : length (holds_of op (n ∷ ns)) ≡ length (keys_in (n ∷ ns)) =
    length-map (keys_in (n ∷ ns)) (λ k. let h : Hold = record { key = k; seconds = held_for op (n ∷ ns) k } in h) in
    let within : first.0 < length (keys_in (n ∷ ns)) = first.1 in
    omega (arith, within, count)

-- the holds for what requests need are a list that can be booked
pub is_hold_list : (op : Op) (document : GroupDoc) (ps : List (Request × Wanted)) → 1 ≤ length (needs_of document ps)
    → IsHoldList (holds_of op (needs_of document ps))
is_hold_list op document ps some = is (needs_of document ps) some (needs_are document (filter (λ p. is_pending p.0.state) ps))
  where
    is : (needs : List Hold) → 1 ≤ length needs → All (λ h. IsOf document h.key) needs → IsHoldList (holds_of op needs)
    is needs some of =
        let are = held_are op document needs of in
        record {
          some = some_held op needs some;
          rising = subst (Rises key_cmp) (sym (keys_held op needs)) (keys_rise needs);
          not_ipp = λ i d l e. not_ipp document.kind (sym (are i d l).account ∙ e);
          one_proposal = λ i j d l m. (are i d (omega arith)).proposal ∙ sym (are j d m).proposal;
        }

-- they are of the document's proposal
pub proposal_held : (op : Op) (document : GroupDoc) (ps : List (Request × Wanted)) → 1 ≤ length (needs_of document ps)
    → proposal_of (holds_of op (needs_of document ps)) ≡ document.proposal
proposal_held op document ps some =
    first (holds_of op (needs_of document ps)) (some_held op (needs_of document ps) some)
    (held_are op document (needs_of document ps) (needs_are document (filter (λ p. is_pending p.0.state) ps)))
  where
    first : (hs : List Hold) → 1 ≤ length hs → All (λ h. IsOf document h.key) hs → proposal_of hs ≡ document.proposal
    first [] n h = absurd (omega arith)
    first (x ∷ xs) n h = (All-head (λ h. IsOf document h.key) x xs h).proposal
