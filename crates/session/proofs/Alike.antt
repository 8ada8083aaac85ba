-- Replies that differ in nothing but which claims of one bound and one value they publish, and what is counted of them.
use Rattle.std.proofs.Common.{◌≡◌, ℕ, ◌+◌, ◌⊎◌, cond, List, [], ◌∷◌, fold, refl, sym, ◌∙◌, ap, subst, inl, inr, Option, Some, None}
use Rattle.std.specs.List.{filter_map, last_or, count_by, sum_by}
use Rattle.std.specs.Option.{option_map_or}
use Rattle.plan_base.specs.declared.claim.Claim.{Claim}
use Rattle.desk_events.specs.declared.entry.EventEntry.{EventEntry}
use Rattle.desk_events.specs.declared.reply.Reply.{Reply}
use Rattle.desk_events.specs.declared.reply.Reply.TheVariants.{Published}
use Rattle.session.specs.declared.summary.Summary.{Summary}
use Rattle.session.specs.Summary.{is_refused, requests_in, claim_in, last_claim, summary_of}
use Rattle.session.proofs.Tallies.{later, last_cons, claim_by}

-- the same, or two claims of one bound and one value
abbrev pub AreAlike : Reply → Reply → Type 0
AreAlike r q = (r ≡ q) ⊎ ((c : Claim) × (d : Claim) × (r ≡ Published c) × (q ≡ Published d) × (c.bound ≡ d.bound) × (c.value ≡ d.value))

abbrev pub AllAlike : List EventEntry → List EventEntry → Type 0
AllAlike [] [] = Unit {0}
AllAlike [] (y ∷ k) = ⊥
AllAlike (x ∷ h) [] = ⊥
AllAlike (x ∷ h) (y ∷ k) = AreAlike x.reply y.reply × AllAlike h k

-- a number that is counted of each reply, the same of all claims
sums_alike : (f : Reply → ℕ) → ((r q : Reply) → AreAlike r q → f r ≡ f q) → (a : ℕ) (h k : List EventEntry) → AllAlike h k
    → fold (λ (n : ℕ) (x : EventEntry). n + f x.reply) a h ≡ fold (λ (n : ℕ) (x : EventEntry). n + f x.reply) a k
sums_alike f same a [] [] all = refl
sums_alike f same a [] (y ∷ k) all = absurd all
sums_alike f same a (x ∷ h) [] all = absurd all
sums_alike f same a (x ∷ h) (y ∷ k) all =
    ap (λ (n : ℕ). fold (λ (m : ℕ) (e : EventEntry). m + f e.reply) (a + n) h) (same x.reply y.reply all.0) ∙ sums_alike f same (a + f y.reply) h k all.1

abbrev refusals : Reply → ℕ
refusals r = cond (is_refused r) 1 0

refusals_alike : (r q : Reply) → AreAlike r q → refusals r ≡ refusals q
refusals_alike r q (inl same) = ap refusals same
refusals_alike r q (inr h) = ap refusals h.2 ∙ sym (ap refusals h.3)

requests_alike : (r q : Reply) → AreAlike r q → requests_in r ≡ requests_in q
requests_alike r q (inl same) = ap requests_in same
requests_alike r q (inr h) = ap requests_in h.2 ∙ sym (ap requests_in h.3)

-- claims, or none, of one bound and one value
abbrev bound_in : Option Claim → ℕ
bound_in o = option_map_or (λ c. c.bound) o 0

abbrev value_in : Option Claim → ℕ
value_in o = option_map_or (λ c. c.value) o 0

abbrev SameNumbers : Option Claim → Option Claim → Type 0
SameNumbers o p = (bound_in o ≡ bound_in p) × (value_in o ≡ value_in p)

later_same : (o p c : Option Claim) → SameNumbers o p → SameNumbers (later o c) (later p c)
later_same o p None h = h
later_same o p (Some c) h = (refl, refl)

later_alike : (o p : Option Claim) (r q : Reply) → SameNumbers o p → AreAlike r q → SameNumbers (later o (claim_in r)) (later p (claim_in q))
later_alike o p r q h (inl same) = subst (λ (x : Reply). SameNumbers (later o (claim_in r)) (later p (claim_in x))) same (later_same o p (claim_in r) h)
later_alike o p r q h (inr g) =
    subst (λ (x : Reply). SameNumbers (later o (claim_in x)) (later p (claim_in q))) (sym g.2)
    (subst (λ (x : Reply). SameNumbers (Some g.0) (later p (claim_in x))) (sym g.3) (g.4, g.5))

last_alike : (o p : Option Claim) (h k : List EventEntry) → SameNumbers o p → AllAlike h k
    → SameNumbers (last_or o (filter_map claim_by h)) (last_or p (filter_map claim_by k))
last_alike o p [] [] same all = same
last_alike o p [] (y ∷ k) same all = absurd all
last_alike o p (x ∷ h) [] same all = absurd all
last_alike o p (x ∷ h) (y ∷ k) same all =
    subst (λ (l : Option Claim). SameNumbers l (last_or p (filter_map claim_by (y ∷ k)))) (sym (last_cons o (claim_by x) (filter_map claim_by h)))
    (subst (λ (l : Option Claim). SameNumbers (last_or (later o (claim_by x)) (filter_map claim_by h)) l)
    (sym (last_cons p (claim_by y) (filter_map claim_by k)))
    (last_alike (later o (claim_by x)) (later p (claim_by y)) h k (later_alike o p x.reply y.reply same all.0) all.1))

abbrev counts : ℕ → ℕ → ℕ → ℕ → ℕ → Summary
counts bound lines refused requests value = record { bound = bound; lines = lines; refused = refused; requests = requests; value = value }

pub summaries_alike : (n : ℕ) (h k : List EventEntry) → AllAlike h k → summary_of n h ≡ summary_of n k
summaries_alike n h k all =
    let last = last_alike None None h k (refl, refl) all in
    let refused : count_by (λ x. is_refused x.reply) h ≡ count_by (λ x. is_refused x.reply) k = sums_alike refusals refusals_alike 0 h k all in
    let requests : sum_by (λ x. requests_in x.reply) h ≡ sum_by (λ x. requests_in x.reply) k = sums_alike requests_in requests_alike 0 h k all in
    ap (λ (b : ℕ). counts b n (count_by (λ x. is_refused x.reply) h) (sum_by (λ x. requests_in x.reply) h) (value_in (last_claim h))) last.0
    ∙ ap (λ (m : ℕ). counts (bound_in (last_claim k)) n m (sum_by (λ x. requests_in x.reply) h) (value_in (last_claim h))) refused
    ∙ ap (λ (m : ℕ). counts (bound_in (last_claim k)) n (count_by (λ x. is_refused x.reply) k) m (value_in (last_claim h))) requests
    ∙ ap (counts (bound_in (last_claim k)) n (count_by (λ x. is_refused x.reply) k) (sum_by (λ x. requests_in x.reply) k)) last.1
