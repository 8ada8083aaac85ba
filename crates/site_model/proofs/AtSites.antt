-- Which telescopes are at a site.
use Rattle.std.proofs.Common.{◌≡◌, ℕ, ◌+◌, ◌<◌, ◌≤◌, true, false, List, [], ◌∷◌, ◌++◌, Some, All, Contains, refl, sym, ap, subst, ◌∙◌, length}
use Rattle.std.proofs.Common.{slice_get, nat_eq, zero, suc, inl, inr, ◌⊎◌, arith}
use Rattle.std.specs.Map.{values_of}
use Rattle.std.proofs.lemmas.Bool.{eqb-true, eq-eqb}
use Rattle.std.proofs.lemmas.Option.{none-some, slice_get_within, same_Some}
use Rattle.std.proofs.lemmas.List.Elements.{All-nil, All-push, Contains-append_left, Contains-push}
use Rattle.plan_base.specs.declared.number.SiteNo.{SiteNo}
use Rattle.plan_base.specs.declared.number.TelescopeNo.{TelescopeNo}
use Rattle.site_model.specs.declared.code.Code.{Code}
use Rattle.site_model.specs.declared.telescope.Telescope.{Telescope}
use Rattle.site_model.specs.Kept.{IsOfSite, IsAtSite}
use Rattle.plan_base.specs.Limits.{most_telescopes}

-- the numbers are those of the telescopes of the site below n
pub record AtSoFar (entries : List (Code × Telescope)) (site : SiteNo) (n : ℕ) (numbers : List TelescopeNo) : Type 0 where
  pub each : All (λ m. IsOfSite entries site m.0) numbers
  pub all : (t : ℕ) → t < n → IsOfSite entries site t → Contains numbers record { 0 = t }
  pub within : All (λ m. m.0 < most_telescopes) numbers

-- a kept telescope has its entry
entry_of : (es : List (Code × Telescope)) (t : ℕ) (kept : Telescope) → slice_get (values_of es) t ≡ Some kept → (entry : Code × Telescope)
    × (slice_get es t ≡ Some entry) × (entry.1 ≡ kept)
entry_of [] t kept at = absurd (none-some kept at)
entry_of (e ∷ es) zero kept at = (e, refl, same_Some e.1 kept at)
entry_of (e ∷ es) (suc t) kept at = entry_of es t kept at

pub none_so_far : (es : List (Code × Telescope)) (site : SiteNo) → AtSoFar es site 0 []
none_so_far es site = record { each = All-nil _; all = λ t lt here. absurd (omega (arith, lt)); within = All-nil _ }

pub one_more : (es : List (Code × Telescope)) (site : SiteNo) (n : ℕ) (numbers : List TelescopeNo) (kept : Telescope) → AtSoFar es site n numbers
    → n < most_telescopes → slice_get (values_of es) n ≡ Some kept → nat_eq kept.site.0 site.0 ≡ true
    → AtSoFar es site (n + 1) (numbers ++ record { 0 = n } ∷ [])
one_more es site n numbers kept far few at same =
    let number : TelescopeNo = record { 0 = n } in
    let e = entry_of es n kept at in
    let here : IsOfSite es site n = (e.0, e.1, ap (λ k. k.site) e.2 ∙ ap (λ s. record { 0 = s }) (eqb-true kept.site.0 site.0 same)) in
    record {
      each = All-push (λ m. IsOfSite es site m.0) numbers number far.each here;
      all = λ t lt of. elim (older t lt) [
        | inl l ↦ Contains-append_left numbers (number ∷ []) record { 0 = t }
            (far.all t l of)
        | inr e ↦ subst (λ m. Contains (numbers ++ number ∷ []) record { 0 = m }) (sym e) (Contains-push numbers number)
      ];
      within = All-push (λ m. m.0 < most_telescopes) numbers number far.within few;
    }
  where
    older : (t : ℕ) → t < n + 1 → (t < n) ⊎ (t ≡ n)
    older t lt = grind arith

pub none_more : (es : List (Code × Telescope)) (site : SiteNo) (n : ℕ) (numbers : List TelescopeNo) (kept : Telescope) → AtSoFar es site n numbers
    → slice_get (values_of es) n ≡ Some kept → nat_eq kept.site.0 site.0 ≡ false → AtSoFar es site (n + 1) numbers
none_more es site n numbers kept far at other =
    record {
      each = far.each;
      all = λ t lt of. elim (older t lt) [ inl l ↦ far.all t l of | inr e ↦ absurd (apart (subst (IsOfSite es site) e of)) ];
      within = far.within;
    }
  where
    older : (t : ℕ) → t < n + 1 → (t < n) ⊎ (t ≡ n)
    older t lt = grind arith

    apart : IsOfSite es site n → ⊥
    apart of =
        let e = entry_of es n kept at in
        let same : of.0 ≡ e.0 = same_Some of.0 e.0 (sym of.1 ∙ e.1) in
        let number : kept.site.0 ≡ site.0 = sym (ap (λ k. k.site.0) e.2) ∙ sym (ap (λ x. x.1.site.0) same) ∙ ap (λ s. s.0) of.2 in
        grind (arith, eq-eqb kept.site.0 site.0 number)

pub at_site : (es : List (Code × Telescope)) (site : SiteNo) (n : ℕ) (numbers : List TelescopeNo) → AtSoFar es site n numbers → length es ≤ n
    → IsAtSite es site numbers
at_site es site n numbers far end =
    record { each = far.each; all = λ t of. far.all t (omega (arith, slice_get_within es t of.0 of.1, end)) of; within = far.within }
