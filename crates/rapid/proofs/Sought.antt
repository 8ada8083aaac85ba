-- Starts are looked at by slice, then telescope.
use Rattle.std.proofs.Common.{◌≡◌, ℕ, ◌+◌, ◌<◌, ◌≤◌, inl, inr, Some, None, Option, List, [], ◌∷◌, ◌++◌, length, slice_index_or, AllPairs, Contains}
use Rattle.std.proofs.Common.{sym, ◌∙◌, ap, subst, arith}
use Rattle.std.specs.Option.{MatchOption}
use Rattle.std.proofs.lemmas.Bool.{cases_lt, cases_order}
use Rattle.std.proofs.lemmas.List.{get_or_default}
use Rattle.std.proofs.lemmas.List.Elements.{All-contains, Contains-push}
use Rattle.plan_base.specs.declared.parts.Parts.{Parts}
use Rattle.plan_base.specs.declared.claim.Placement.{Placement}
use Rattle.plan_base.specs.declared.number.RequestNo.{RequestNo}
use Rattle.plan_base.specs.declared.number.SliceNo.{SliceNo}
use Rattle.plan_base.specs.declared.number.TelescopeNo.{TelescopeNo}
use Rattle.plan_base.specs.Requests.{IsKnown, telescopes_of}
use Rattle.plan_base.specs.Snapshot.{IsOrderly}
use Rattle.plan_base.specs.Saturated.{IsNoLater}
use Rattle.plan_base.specs.Starts.{IsPossibleStart, size_of, worth_at}
use Rattle.plan_base.proofs.Known.{known_has}
use Rattle.plan_base.proofs.Sizes.{start_size_above}
use Rattle.rapid.specs.declared.held.Held.{Held}
use Rattle.rapid.specs.declared.seeking.Found.{Found}
use Rattle.rapid.specs.Displaced.{IsWorthIt, Qualifies}
use Rattle.rapid.specs.Found.{IsFound, start_on, IsFirstAt, IsSought}
use Rattle.rapid.specs.Held.{plan_of}

-- what is said of an option at what it is
pub at_none : {X : Type 0} (P : Type 0) (Q : X → Type 0) (o : Option X) → MatchOption o P Q → o ≡ None → P
at_none P Q o h e = subst (λ (x : Option _). MatchOption x P Q) e h

pub at_some : {X : Type 0} (P : Type 0) (Q : X → Type 0) (o : Option X) (x : X) → MatchOption o P Q → o ≡ Some x → Q x
at_some P Q o x h e = subst (λ (y : Option _). MatchOption y P Q) e h

pub qualifies_possible : (s : Parts) (plan : List Placement) (p : Placement) → Qualifies s plan p → IsPossibleStart s p
qualifies_possible s plan p (gone, kept, worth_it) = All-contains (IsPossibleStart s) (kept ++ p ∷ []) p worth_it.feasible.possible (Contains-push kept p)

telescopes_rise : (s : Parts) (r : ℕ) → IsOrderly s → IsKnown s r → AllPairs (λ a b. a.0 < b.0) (telescopes_of s r)
telescopes_rise s r o k = known_has (λ (ts : List TelescopeNo). AllPairs (λ a b. a.0 < b.0) ts) (λ x. x.request.telescopes) [] s r o.telescopes_rise k

-- of telescopes that rise, one below that at place i stands before it
before_place : (ts : List TelescopeNo) (i : ℕ) (t : TelescopeNo) → AllPairs (λ a b. a.0 < b.0) ts → i < length ts → Contains ts t
    → t.0 < (slice_index_or ts i t).0 → (k : ℕ) × (k < i) × (slice_index_or ts k t ≡ t)
before_place ts i t rise l (k, m, e) less = elim (cases_order k i) [
  | inl same ↦ let at : (slice_index_or ts i t).0 ≡ t.0 = ap (λ (n : ℕ). (slice_index_or ts n t).0) (sym same) ∙ ap (λ (x : TelescopeNo). x.0) e in
      absurd (omega arith)
  | inr other ↦ elim other [
    | inl below ↦ (k, below, e)
    | inr above ↦ let more : (slice_index_or ts i t).0 < (slice_index_or ts k t).0 = rise i k t above m in
        let at : (slice_index_or ts k t).0 ≡ t.0 = ap (λ (x : TelescopeNo). x.0) e in absurd (omega arith)
  ]
]

module _ (s : Parts) (held : List Held) (request : RequestNo) (slice : SliceNo) (o : IsOrderly s) (known : IsKnown s request.0)
    (ts : List TelescopeNo) (are : telescopes_of s request.0 ≡ ts) where
  abbrev QualifiesOn : TelescopeNo → Type 0
  QualifiesOn t = Qualifies s (plan_of held) (start_on request slice t)

  able : (t : TelescopeNo) → QualifiesOn t → Contains ts t
  able t h = subst (λ (xs : List TelescopeNo). Contains xs t) are (qualifies_possible s (plan_of held) (start_on request slice t) h).able

  pub none_at : (i : ℕ) → length ts ≤ i → ((k : ℕ) (d : TelescopeNo) → k < i → ¬ (QualifiesOn (slice_index_or ts k d))) → (t : TelescopeNo) → ¬ (QualifiesOn t)
  none_at i l none t h = let c = able t h in none c.0 t (let m = c.1 in omega arith) (subst QualifiesOn (sym c.2) h)

  pub none_next : (i : ℕ) (d : TelescopeNo) → i < length ts → ((k : ℕ) (e : TelescopeNo) → k < i → ¬ (QualifiesOn (slice_index_or ts k e)))
      → ¬ (QualifiesOn (slice_index_or ts i d)) → (k : ℕ) (e : TelescopeNo) → k < i + 1 → ¬ (QualifiesOn (slice_index_or ts k e))
  none_next i d l none here k e less h = elim (cases_lt k i) [
    | inl below ↦ none k e below h
    | inr above ↦ let at : k ≡ i = omega arith in here (subst QualifiesOn (ap (λ (n : ℕ). slice_index_or ts n e) at ∙ get_or_default ts i e d l) h)
  ]

  pub one_at : (i : ℕ) (telescope d : TelescopeNo) (found : Found) → i < length ts → telescope ≡ slice_index_or ts i d
      → ((k : ℕ) (e : TelescopeNo) → k < i → ¬ (QualifiesOn (slice_index_or ts k e)))
      → IsFound s held (start_on request slice telescope) found → IsFirstAt s held request slice (Some found)
  one_at i telescope d found l is none h = (
    telescope,
    h,
    (λ t less q.
        let c = able t q in
        let here : telescope ≡ slice_index_or ts i t = is ∙ get_or_default ts i d t l in
        let place = before_place ts i t (subst (AllPairs (λ a b. a.0 < b.0)) are (telescopes_rise s request.0 o known)) l c
        (subst (λ (x : TelescopeNo). t.0 < x.0) here less) in
        none place.0 t place.1 (subst QualifiesOn (sym place.2) q)),
  )

start_is : (request : RequestNo) (n : ℕ) (q : Placement) → q.request.0 ≡ request.0 → q.slice.0 ≡ n → q ≡ start_on request (record { 0 = n }) q.telescope
start_is request n q e f = λ i. record { request = record { 0 = e i }; telescope = q.telescope; slice = record { 0 = f i } }

slice_is : (a : SliceNo) (b : SliceNo) → a.0 ≡ b.0 → a ≡ b
slice_is a b e = λ i. record { 0 = e i }

module _ (s : Parts) (held : List Held) (request : RequestNo) where
  abbrev NoneBefore : ℕ → Type 0
  NoneBefore n = (q : Placement) → q.request.0 ≡ request.0 → q.slice.0 < n → ¬ (Qualifies s (plan_of held) q)

  pub none_first : (n : ℕ) → n ≡ s.first.0 → NoneBefore n
  none_first n e q same less h = let begins : s.first.0 ≤ q.slice.0 = (qualifies_possible s (plan_of held) q h).begins in absurd (omega arith)

  pub none_more : (n : ℕ) → NoneBefore n → IsFirstAt s held request (record { 0 = n }) None → NoneBefore (n + 1)
  none_more n none here q same less h = elim (cases_lt q.slice.0 n) [
    | inl below ↦ none q same below h
    | inr above ↦ let at : q.slice.0 ≡ n = omega arith in here q.telescope (subst (Qualifies s (plan_of held)) (start_is request n q same at) h)
  ]

  pub none_whole : (n : ℕ) → IsOrderly s → s.first.0 + s.slices ≤ n → NoneBefore n → IsSought s held request.0 None
  none_whole n o l none q same h =
      let possible = qualifies_possible s (plan_of held) q h in
      let size : 0 < size_of s q.request.0 = start_size_above s o q possible in
      let ends : q.slice.0 + size_of s q.request.0 ≤ s.first.0 + s.slices = possible.ends in
      none q same (omega arith) h

  pub found_first : (n : ℕ) (found : Found) → NoneBefore n → IsFirstAt s held request (record { 0 = n }) (Some found) → IsSought s held request.0 (Some found)
  found_first n found none (telescope, h, lower) =
      let p : Placement = start_on request (record { 0 = n }) telescope in
      record {
        earliest = record {
          same_request = ap (λ (x : Placement). x.request.0) h.start;
          worth_it = subst (λ (x : Placement). IsWorthIt s (plan_of held) x found.gone.items found.kept.items) (sym h.start) h.worth_it;
          earliest = λ q same qualifies. subst (λ (x : Placement). IsNoLater x q) (sym h.start) (elim (cases_order n q.slice.0) [
            | inl at ↦ inr (
              slice_is (record { 0 = n }) q.slice at,
              elim (cases_lt q.telescope.0 telescope.0) [
                | inl below ↦ absurd (lower q.telescope below (subst (Qualifies s (plan_of held)) (start_is request n q same (sym at)) qualifies))
                | inr above ↦ above
              ],
            )
            | inr other ↦ elim other [
              | inl later ↦ inl later
              | inr before ↦ absurd (none q same before qualifies)
            ]
          ]);
        };
        gain = ap (λ (m : ℕ). m) (h.gain ∙ ap (worth_at s) (sym h.start));
      }
