-- What can be decided of possible starts, so that a start that isn't impossible is possible.
use Rattle.std.proofs.Common.{◌≡◌, ◌≢◌, ℕ, zero, suc, ◌≤◌, ◌<◌, ◌⊎◌, inl, inr, List, [], ◌∷◌, Contains, refl, sym, ap, subst, arith}
use Rattle.std.specs.Prelude.{Any}
use Rattle.plan_base.specs.declared.parts.Parts.{Parts}
use Rattle.plan_base.specs.declared.parts.Sky.{Sky}
use Rattle.plan_base.specs.declared.span.Span.{Span}
use Rattle.plan_base.specs.declared.number.TelescopeNo.{TelescopeNo}
use Rattle.plan_base.specs.declared.claim.Placement.{Placement}
use Rattle.plan_base.specs.Starts.{HasSecond, start_second, end_second, site_of, IsPossibleStart}
use Rattle.plan_base.proofs.Orders.{contains_cases, contains_first, contains_rest}

-- it holds, or it doesn't
abbrev pub Decided : Type 0 → Type 0
Decided P = P ⊎ ¬ P

pub stable : (P : Type 0) → Decided P → ¬ (¬ P) → P
stable P (inl p) h = p
stable P (inr n) h = absurd (h n)

pub decide_le : (a b : ℕ) → Decided (a ≤ b)
decide_le a b = by (cases a b)
  where
    cases : (a b : ℕ) → (a ≤ b) ⊎ (b < a)
    cases a b = grind arith

    by : (a ≤ b) ⊎ (b < a) → Decided (a ≤ b)
    by (inl l) = inl l
    by (inr l) = inr (λ m. omega arith)

pub decide_lt : (a b : ℕ) → Decided (a < b)
decide_lt a b = by (cases a b)
  where
    cases : (a b : ℕ) → (a < b) ⊎ (b ≤ a)
    cases a b = grind arith

    by : (a < b) ⊎ (b ≤ a) → Decided (a < b)
    by (inl l) = inl l
    by (inr l) = inr (λ m. omega arith)

pub decide_same : (a b : ℕ) → Decided (a ≡ b)
decide_same a b = by (cases a b)
  where
    cases : (a b : ℕ) → (a ≡ b) ⊎ (a ≢ b)
    cases a b = grind arith

    by : (a ≡ b) ⊎ (a ≢ b) → Decided (a ≡ b)
    by (inl e) = inl e
    by (inr n) = inr n

decide_both : (P Q : Type 0) → Decided P → Decided Q → Decided (P × Q)
decide_both P Q (inl p) (inl q) = inl (p, q)
decide_both P Q (inl p) (inr n) = inr (λ h. n h.1)
decide_both P Q (inr n) d = inr (λ h. n h.0)

any_cases : {X : Type 0} (P : X → Type 0) (x : X) (xs : List X) → Any P (x ∷ xs) → P x ⊎ Any P xs
any_cases P x xs (zero, y, l, e, p) = inl (subst P (sym e) p)
any_cases P x xs (suc k, y, l, e, p) = inr (k, y, omega arith, e, p)

any_rest : {X : Type 0} (P : X → Type 0) (x : X) (xs : List X) → Any P xs → Any P (x ∷ xs)
any_rest P x xs (k, y, l, e, p) = (suc k, y, omega arith, e, p)

any_none : {X : Type 0} (P : X → Type 0) → Any P [] → ⊥
any_none P (k, y, l, e, p) = omega arith

any_step : {X : Type 0} (P : X → Type 0) (x : X) (xs : List X) → Decided (P x) → Decided (Any P xs) → Decided (Any P (x ∷ xs))
any_step P x xs (inl p) d = inl (zero, x, omega arith, refl, p)
any_step P x xs (inr n) (inl a) = inl (any_rest P x xs a)
any_step P x xs (inr n) (inr m) = inr (λ a. elim (any_cases P x xs a) [ inl p ↦ n p | inr b ↦ m b ])

decide_any : {X : Type 0} (P : X → Type 0) → ((x : X) → Decided (P x)) → (xs : List X) → Decided (Any P xs)
decide_any P d [] = inr (any_none P)
decide_any P d (x ∷ xs) = any_step P x xs (d x) (decide_any P d xs)

same_telescope : (a b : TelescopeNo) → a.0 ≡ b.0 → a ≡ b
same_telescope a b e = ap (λ (n : ℕ). let x : TelescopeNo = record { 0 = n } in x) e

decide_telescope : (a b : TelescopeNo) → Decided (a ≡ b)
decide_telescope a b = by (decide_same a.0 b.0)
  where
    by : Decided (a.0 ≡ b.0) → Decided (a ≡ b)
    by (inl e) = inl (same_telescope a b e)
    by (inr n) = inr (λ e. n (ap (λ (t : TelescopeNo). t.0) e))

contains_step : (t x : TelescopeNo) (xs : List TelescopeNo) → Decided (x ≡ t) → Decided (Contains xs t) → Decided (Contains (x ∷ xs) t)
contains_step t x xs (inl e) d = inl (subst (λ (y : TelescopeNo). Contains (x ∷ xs) y) e (contains_first x xs))
contains_step t x xs (inr n) (inl c) = inl (contains_rest x t xs c)
contains_step t x xs (inr n) (inr m) = inr (λ c. elim (contains_cases x t xs c) [ inl e ↦ n e | inr rest ↦ m rest ])

contains_none : (t : TelescopeNo) → Contains [] t → ⊥
contains_none t (k, l, e) = omega arith

decide_contains : (t : TelescopeNo) (xs : List TelescopeNo) → Decided (Contains xs t)
decide_contains t [] = inr (contains_none t)
decide_contains t (x ∷ xs) = contains_step t x xs (decide_telescope x t) (decide_contains t xs)

decide_second : (x : ℕ) (w : Span) → Decided (HasSecond w x)
decide_second x w = decide_both (w.from.0 ≤ x) (x < w.to.0) (decide_le w.from.0 x) (decide_lt x w.to.0)

decide_window : (a b : ℕ) (w : Span) → Decided ((w.from.0 ≤ a) × (b ≤ w.to.0))
decide_window a b w = decide_both (w.from.0 ≤ a) (b ≤ w.to.0) (decide_le w.from.0 a) (decide_le b w.to.0)

three : (P Q R : Type 0) → Decided P → Decided Q → Decided R → Decided (P × Q × R)
three P Q R (inl p) (inl q) (inl r) = inl (p, q, r)
three P Q R (inl p) (inl q) (inr n) = inr (λ h. n h.2)
three P Q R (inl p) (inr n) d = inr (λ h. n h.1)
three P Q R (inr n) c d = inr (λ h. n h.0)

decide_sky : (target site x : ℕ) (y : Sky) → Decided ((y.target.0 ≡ target) × (y.site.0 ≡ site) × Any (λ w. HasSecond w x) y.spans)
decide_sky target site x y =
    three (y.target.0 ≡ target) (y.site.0 ≡ site) (Any (λ w. HasSecond w x) y.spans) (decide_same y.target.0 target) (decide_same y.site.0 site)
    (decide_any (λ w. HasSecond w x) (decide_second x) y.spans)

-- a start that isn't impossible is possible
pub possible_stable : (s : Parts) (p : Placement) → ¬ (¬ (IsPossibleStart s p)) → IsPossibleStart s p
possible_stable s p h = record {
  known = stable _ (decide_lt _ _) (λ n. h (λ g. n g.known));
  able = stable _ (decide_contains p.telescope _) (λ n. h (λ g. n g.able));
  begins = stable _ (decide_le _ _) (λ n. h (λ g. n g.begins));
  ends = stable _ (decide_le _ _) (λ n. h (λ g. n g.ends));
  window = stable _ (decide_any _ (decide_window (start_second s p) (end_second s p)) _) (λ n. h (λ g. n g.window));
  usable = λ x o. stable _ (decide_any _ (decide_second x) _) (λ n. h (λ g. n (g.usable x o)));
  visible = λ i d l x o. stable _ (decide_any _ (decide_sky _ (site_of s p.telescope.0) x) s.skies) (λ n. h (λ g. n (g.visible i d l x o)));
}
