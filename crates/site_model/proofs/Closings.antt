-- The closures once each change was put in its place.
use Rattle.std.proofs.Common.{◌≡◌, ◌≢◌, ◌⊎◌, ℕ, ◌+◌, ◌<◌, ◌≤◌, List, [], ◌∷◌, ◌++◌, length, get_or, take, refl, sym, ap, ◌∙◌, subst, inl, inr, arith}
use Rattle.std.specs.Prelude.{All, Contains, slice_index_or, slice_set}
use Rattle.std.proofs.Math.ListN.{length-set}
use Rattle.std.proofs.lemmas.Bool.{cases_eq}
use Rattle.std.proofs.lemmas.List.{get_or-set_same, get_or-set_other, get_or_default, map-append, take_more}
use Rattle.std.proofs.lemmas.List.Elements.{All-nil, All-cons, All-head, All-tail, All-push, All-set, All-contains, Contains-get_or}
use Rattle.plan_base.specs.declared.number.TelescopeNo.{TelescopeNo}
use Rattle.plan_base.specs.declared.span.Span.{Span}
use Rattle.plan_base.proofs.Lists.{contains_map}
use Rattle.plan_base.proofs.Members.{contains_from_map}
use Rattle.site_model.specs.declared.changes.Change.{Change}
use Rattle.site_model.specs.declared.changes.Closed.{Closed}
use Rattle.site_model.specs.declared.fault.SiteFault.{SiteFault}
use Rattle.site_model.specs.declared.fault.FullOf.TheVariants.{Closures}
use Rattle.site_model.specs.Limits.{most_closures, full}
use Rattle.site_model.specs.Calendar.{set_at, with_changes, AreChanges, IsChanged, PassesClosures, IsClosureLine, IsFullClosure, IsListed}

pub length_with : (changes : List Closed) (old : List (List Span)) → length (with_changes old changes) ≡ length old
length_with [] old = refl
length_with (c ∷ changes) old = length_with changes (slice_set old c.telescope.0 c.spans) ∙ length-set old c.telescope.0 c.spans

-- the set of telescope t is what one of the changes gives
pub record IsTaken (P : Closed → Type 0) (t : ℕ) (set : List Span) : Type 0 where
  pub change : Closed
  pub is : P change
  pub telescope : change.telescope.0 ≡ t
  pub spans : change.spans ≡ set

-- no change is of telescope t, and its set stays
pub record IsKept (changes : List Closed) (t : ℕ) (old set : List Span) : Type 0 where
  pub none : All (λ (c : Closed). c.telescope.0 ≢ t) changes
  pub same : set ≡ old

pub taken_or_kept : (P : Closed → Type 0) (changes : List Closed) (old : List (List Span)) (t : ℕ) → All P changes
    → All (λ (c : Closed). c.telescope.0 < length old) changes
    → IsTaken P t (set_at (with_changes old changes) t) ⊎ IsKept changes t (set_at old t) (set_at (with_changes old changes) t)
taken_or_kept P [] old t all within = inr (record { none = All-nil (λ (c : Closed). c.telescope.0 ≢ t); same = refl })
taken_or_kept P (c ∷ changes) old t all within =
    let next : List (List Span) = slice_set old c.telescope.0 c.spans in
    let there : c.telescope.0 < length old = All-head (λ (c : Closed). c.telescope.0 < length old) c changes within in
    let later : All (λ (c : Closed). c.telescope.0 < length next) changes =
    subst (λ (n : ℕ). All (λ (c : Closed). c.telescope.0 < n) changes) (sym (length-set old c.telescope.0 c.spans))
    (All-tail (λ (c : Closed). c.telescope.0 < length old) c changes within) in
    elim (taken_or_kept P changes next t (All-tail P c changes all) later) [
      | inl taken ↦ inl taken
      | inr kept ↦ elim (cases_eq c.telescope.0 t) [
        | inl same ↦ inl (record {
          change = c;
          is = All-head P c changes all;
          telescope = same;
          spans = sym (kept.same ∙ ap (λ (n : ℕ). set_at next n) (sym same) ∙ get_or-set_same old c.telescope.0 c.spans [] there);
        })
        | inr other ↦ inr (record {
          none = All-cons (λ (c : Closed). c.telescope.0 ≢ t) c changes other kept.none;
          same = kept.same ∙ get_or-set_other old c.telescope.0 t c.spans [] (λ e. other (sym e));
        })
      ]
    ]

-- each change is of a telescope of the list
pub all_listed : (change : Change) (telescopes : List TelescopeNo) (spans : List Span) (old : List (List Span)) (changes : List Closed)
    → AreChanges change telescopes spans old changes → All (λ (c : Closed). Contains telescopes c.telescope) changes
all_listed change telescopes spans old changes are k d lt =
    subst (λ (ts : List TelescopeNo). Contains ts (slice_index_or changes k d).telescope) are.each
    (contains_map (λ (c : Closed). c.telescope) changes _ (Contains-get_or changes k d lt))

-- so it has a place
pub all_within : (change : Change) (telescopes : List TelescopeNo) (spans : List Span) (old : List (List Span)) (changes : List Closed)
    → All (λ (t : TelescopeNo). t.0 < length old) telescopes
    → AreChanges change telescopes spans old changes → All (λ (c : Closed). c.telescope.0 < length old) changes
all_within change telescopes spans old changes within are k d lt =
    All-contains (λ (t : TelescopeNo). t.0 < length old) telescopes _ within (all_listed change telescopes spans old changes are k d lt)

-- what is known of each change
record IsOf (change : Change) (telescopes : List TelescopeNo) (spans : List Span) (old : List (List Span)) (c : Closed) : Type 0 where
  changed : IsChanged change (set_at old c.telescope.0) spans c.spans
  few : length c.spans ≤ most_closures
  listed : Contains telescopes c.telescope

-- the number of a telescope
abbrev number : (t : ℕ) → TelescopeNo
number t = record { 0 = t }

-- the changes of a line make the closures after it
pub line_closed : (change : Change) (telescopes : List TelescopeNo) (spans : List Span) (old : List (List Span)) (changes : List Closed)
    → All (λ (t : TelescopeNo). t.0 < length old) telescopes
    → AreChanges change telescopes spans old changes → IsClosureLine change (IsListed telescopes) spans old (with_changes old changes)
line_closed change telescopes spans old changes within are =
    let Is : Closed → Type 0 = IsOf change telescopes spans old in
    let listed : All (λ (c : Closed). Contains telescopes c.telescope) changes = all_listed change telescopes spans old changes are in
    let all : All Is changes = λ k d lt. record { changed = are.changed k d lt; few = are.few k d lt; listed = listed k d lt } in
    let places : All (λ (c : Closed). c.telescope.0 < length old) changes = all_within change telescopes spans old changes within are in
    let unlisted : (t : ℕ) → All (λ (c : Closed). c.telescope.0 ≢ t) changes → IsListed telescopes t → ⊥ = λ t none in'.
    let found = contains_from_map (λ (c : Closed). c.telescope) changes (number t)
    (subst (λ (ts : List TelescopeNo). Contains ts (number t)) (sym are.each) in') in
    All-contains (λ (c : Closed). c.telescope.0 ≢ t) changes found.0 none found.1 (ap (λ (t : TelescopeNo). t.0) found.2) in
    record {
      inside = λ t in'. elim (taken_or_kept Is changes old t all places) [
        | inl taken ↦ subst (λ (s : List Span). IsChanged change (set_at old t) spans s) taken.spans
            (subst (λ (n : ℕ). IsChanged change (set_at old n) spans taken.change.spans) taken.telescope taken.is.changed)
        | inr kept ↦ absurd (unlisted t kept.none in')
      ];
      few = λ t in'. elim (taken_or_kept Is changes old t all places) [
        | inl taken ↦ subst (λ (s : List Span). length s ≤ most_closures) taken.spans taken.is.few
        | inr kept ↦ absurd (unlisted t kept.none in')
      ];
      outside = λ t out. elim (taken_or_kept Is changes old t all places) [
        | inl taken ↦ absurd (out (subst (λ (n : ℕ). IsListed telescopes n) taken.telescope taken.is.listed))
        | inr kept ↦ kept.same
      ];
      places = length_with changes old;
    }

-- closures stay within their limit where each change does
few_with : (changes : List Closed) (old : List (List Span)) → All (λ (c : Closed). length c.spans ≤ most_closures) changes
    → All (λ (s : List Span). length s ≤ most_closures) old → All (λ (s : List Span). length s ≤ most_closures) (with_changes old changes)
few_with [] old few all = all
few_with (c ∷ changes) old few all =
    few_with changes (slice_set old c.telescope.0 c.spans) (All-tail (λ (c : Closed). length c.spans ≤ most_closures) c changes few)
    (All-set (λ (s : List Span). length s ≤ most_closures) old c.telescope.0 c.spans
    (All-head (λ (c : Closed). length c.spans ≤ most_closures) c changes few) all)

pub closures_few : (change : Change) (telescopes : List TelescopeNo) (spans : List Span) (old : List (List Span)) (changes : List Closed)
    → AreChanges change telescopes spans old changes
    → All (λ (s : List Span). length s ≤ most_closures) old → All (λ (s : List Span). length s ≤ most_closures) (with_changes old changes)
closures_few change telescopes spans old changes are all = few_with changes old are.few all

-- the closures of the telescope at place i of the list, as the code reads them
pub closures_read : (telescopes : List TelescopeNo) (closures : List (List Span)) (i : ℕ) (d : TelescopeNo) (closed : List Span)
    → All (λ (t : TelescopeNo). t.0 < length closures) telescopes → i < length telescopes
    → closed ≡ get_or closures (get_or telescopes i d).0 closed → closed ≡ set_at closures (get_or telescopes i d).0
closures_read telescopes closures i d closed within lt read = read ∙ get_or_default closures (get_or telescopes i d).0 closed [] (within i d lt)

-- the line would fill the closures of one of the telescopes
pub full_next : (change : Change) (telescopes : List TelescopeNo) (spans : List Span) (closures : List (List Span)) (i : ℕ) (d : TelescopeNo)
    (closed : List Span) (fault : SiteFault)
    → All (λ (t : TelescopeNo). t.0 < length closures) telescopes → i < length telescopes → closed ≡ get_or closures (get_or telescopes i d).0 closed
    → PassesClosures change closed spans → fault ≡ full Closures → IsFullClosure change (IsListed telescopes) spans closures fault
full_next change telescopes spans closures i d closed fault within lt read passes full = record {
  telescope = (get_or telescopes i d).0;
  inside = Contains-get_or telescopes i d lt;
  passes = subst (λ (s : List Span). PassesClosures change s spans) (closures_read telescopes closures i d closed within lt read) passes;
  full = full;
}

-- one change more, of the next telescope
pub changes_next : (change : Change) (telescopes : List TelescopeNo) (spans : List Span) (closures : List (List Span)) (changes : List Closed) (i : ℕ)
    (d : TelescopeNo) (closed new : List Span)
    → All (λ (t : TelescopeNo). t.0 < length closures) telescopes → i < length telescopes → closed ≡ get_or closures (get_or telescopes i d).0 closed
    → IsChanged change closed spans new → length new ≤ most_closures → AreChanges change (take i telescopes) spans closures changes
    → AreChanges change (take (i + 1) telescopes) spans closures (changes ++ record { telescope = get_or telescopes i d; spans = new } ∷ [])
changes_next change telescopes spans closures changes i d closed new within lt read changed few are =
    let t : TelescopeNo = get_or telescopes i d in
    let c : Closed = record { telescope = t; spans = new } in
    record {
      each = map-append (λ (c : Closed). c.telescope) changes (c ∷ []) ∙ ap (λ (ts : List TelescopeNo). ts ++ t ∷ []) are.each
          ∙ sym (take_more telescopes i d lt);
      changed = All-push (λ (c : Closed). IsChanged change (set_at closures c.telescope.0) spans c.spans) changes c are.changed
          (subst (λ (s : List Span). IsChanged change s spans new) (closures_read telescopes closures i d closed within lt read) changed);
      few = All-push (λ (c : Closed). length c.spans ≤ most_closures) changes c are.few few;
    }

-- the changes that are left make the same closures as all of them did
pub record IsPutSoFar (old : List (List Span)) (changes : List Closed) (now : List (List Span)) (rest : List Closed) : Type 0 where
  pub closures : with_changes now rest ≡ with_changes old changes
  pub within : All (λ (c : Closed). c.telescope.0 < length now) rest

-- no change is put yet
pub none_put : (old : List (List Span)) (changes rest : List Closed) → rest ≡ changes → All (λ (c : Closed). c.telescope.0 < length old) changes
    → IsPutSoFar old changes old rest
none_put old changes rest is within =
    record {
      closures = ap (λ (cs : List Closed). with_changes old cs) is;
      within = subst (All (λ (c : Closed). c.telescope.0 < length old)) (sym is) within;
    }

-- the next change has a place
pub next_within : (old : List (List Span)) (changes : List Closed) (now : List (List Span)) (c : Closed) (rest left : List Closed) → left ≡ c ∷ rest
    → IsPutSoFar old changes now left → c.telescope.0 < length now
next_within old changes now c rest left is so_far =
    All-head (λ (c : Closed). c.telescope.0 < length now) c rest (subst (All (λ (c : Closed). c.telescope.0 < length now)) is so_far.within)

-- the next change is put there
pub next_put : (old : List (List Span)) (changes : List Closed) (now : List (List Span)) (c : Closed) (rest left : List Closed) → left ≡ c ∷ rest
    → IsPutSoFar old changes now left
    → IsPutSoFar old changes (slice_set now c.telescope.0 c.spans) rest
next_put old changes now c rest left is so_far = record {
  closures = ap (λ (cs : List Closed). with_changes now cs) (sym is) ∙ so_far.closures;
  within = subst (λ (n : ℕ). All (λ (c : Closed). c.telescope.0 < n) rest) (sym (length-set now c.telescope.0 c.spans))
      (All-tail (λ (c : Closed). c.telescope.0 < length now) c rest (subst (All (λ (c : Closed). c.telescope.0 < length now)) is so_far.within));
}

-- no change is left
pub all_put : (old : List (List Span)) (changes : List Closed) (now : List (List Span)) (left : List Closed) → length left ≡ 0
    → IsPutSoFar old changes now left → now ≡ with_changes old changes
all_put old changes now [] none so_far = so_far.closures
all_put old changes now (c ∷ left) none so_far = absurd (omega arith)
