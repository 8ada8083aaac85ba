-- Whether a start qualifies, as it is worked out.
use Rattle.std.proofs.Common.{◌≡◌, ℕ, ◌+◌, ◌-◌, ◌<◌, ◌≤◌, ◌^◌, Bool, not, List, length, filter, sum_by, Option, Some, All, refl, sym, ◌∙◌, ap, subst}
use Rattle.std.proofs.Common.{Fits, w64, arith}
use Rattle.std.proofs.lemmas.List.Filters.{sum_by-filter_both}
use Rattle.plan_base.specs.declared.parts.Parts.{Parts}
use Rattle.plan_base.specs.declared.claim.Placement.{Placement}
use Rattle.plan_base.specs.Requests.{quota_of}
use Rattle.plan_base.specs.Snapshot.{IsOrderly}
use Rattle.plan_base.specs.Starts.{IsPossibleStart}
use Rattle.plan_base.specs.Feasible.{quota_at}
use Rattle.rapid.specs.declared.held.Held.{Held}
use Rattle.rapid.specs.declared.seeking.Found.{Found}
use Rattle.rapid.specs.Displaced.{Qualifies}
use Rattle.rapid.specs.Found.{IsFound}
use Rattle.rapid.specs.Held.{held_of, goes_by, AreStruck, plan_of, HasPlaceBelow}
use Rattle.rapid.specs.Stage.{IsStage}
use Rattle.rapid.proofs.Judging.{found_is, not_worth, not_within}

pub places_within : (s : Parts) (held : List Held) (n : ℕ) → n ≡ length s.groups → All (HasPlaceBelow (length s.groups)) held → All (HasPlaceBelow n) held
places_within s held n e a = subst (λ (m : ℕ). All (HasPlaceBelow m) held) (sym e) a

pub sum_fits : (p : Held → Bool) (f : Held → ℕ) (held : List Held) (n m : ℕ) → n ≡ sum_by f (filter (λ h. not (p h)) held) → sum_by f held < 2 ^ 60
    → m ≤ 86400 → Fits w64 (n + m)
sum_fits p f held n m e small most = let both : sum_by f (filter p held) + sum_by f (filter (λ h. not (p h)) held) ≡ sum_by f held =
    sum_by-filter_both p (λ h. not (p h)) (λ x. refl) f held in omega arith

module _ (s : Parts) (held : List Held) (p : Placement) (o : IsOrderly s) (stage : IsStage s p.request.0 held) (possible : IsPossibleStart s p)
    (u : Option ℕ) (new : Held) (flags : List Bool) (n : ℕ) (quota_is : u ≡ quota_of s p.request.0) (new_is : new ≡ held_of s u p)
    (n_is : n ≡ length s.groups) (struck : AreStruck new held n flags) where
  abbrev own : Held
  own = held_of s (quota_of s p.request.0) p

  moved : new ≡ own
  moved = new_is ∙ ap (λ (v : Option ℕ). held_of s v p) quota_is

  struck_own : AreStruck own held (length s.groups) flags
  struck_own = subst (λ (h : Held). AreStruck h held (length s.groups) flags) moved (subst (λ (m : ℕ). AreStruck new held m flags) n_is struck)

  lost_own : (lost : ℕ) → lost ≡ sum_by (λ h. h.worth) (filter (goes_by flags new) held) → lost ≡ sum_by (λ h. h.worth) (filter (goes_by flags own) held)
  lost_own lost e = e ∙ ap (λ (x : Held). sum_by (λ h. h.worth) (filter (goes_by flags x) held)) moved

  counted_own : (counted : ℕ) → counted ≡ sum_by (λ h. h.counted) (filter (λ h. not (goes_by flags new h)) held)
      → counted + new.counted ≡ sum_by (λ h. h.counted) (filter (λ h. not (goes_by flags own h)) held) + own.counted
  counted_own counted e =
      let kept : counted ≡ sum_by (λ h. h.counted) (filter (λ h. not (goes_by flags own h)) held) = e
      ∙ ap (λ (x : Held). sum_by (λ h. h.counted) (filter (λ h. not (goes_by flags x h)) held)) moved in
      let mine : new.counted ≡ own.counted = ap (λ (x : Held). x.counted) moved in
      omega arith

  worth_own : new.worth ≡ own.worth
  worth_own = ap (λ (x : Held). x.worth) moved

  pub loses : (lost : ℕ) → lost ≡ sum_by (λ h. h.worth) (filter (goes_by flags new) held) → new.worth ≤ lost → ¬ (Qualifies s (plan_of held) p)
  loses lost e most = not_worth s held p o stage possible flags struck_own lost (lost_own lost e) (let w = worth_own in omega arith)

  pub passes_quota : (counted : ℕ) → counted ≡ sum_by (λ h. h.counted) (filter (λ h. not (goes_by flags new h)) held)
      → ¬ ((q : ℕ) → u ≡ Some q → counted + new.counted ≤ quota_at s q) → ¬ (Qualifies s (plan_of held) p)
  passes_quota counted e over = not_within s held p o stage possible flags struck_own (counted + new.counted) (counted_own counted e)
      (λ within. over (λ q f. within q (sym quota_is ∙ f)))

  pub is_worth_it : (lost counted : ℕ) (found : Found) → lost ≡ sum_by (λ h. h.worth) (filter (goes_by flags new) held)
      → counted ≡ sum_by (λ h. h.counted) (filter (λ h. not (goes_by flags new h)) held)
      → lost < new.worth → ((q : ℕ) → u ≡ Some q → counted + new.counted ≤ quota_at s q)
      → found.start ≡ p → found.gone.items ≡ plan_of (filter (goes_by flags new) held)
      → found.kept.items ≡ plan_of (filter (λ h. not (goes_by flags new h)) held) → found.gain ≡ new.worth - lost → IsFound s held p found
  is_worth_it lost counted found lost_e counted_e less within start gone kept gain =
      found_is s held p o stage possible flags struck_own found lost (counted + new.counted) (lost_own lost lost_e) (counted_own counted counted_e)
      (let w = worth_own in omega arith)
      (λ q e. within q (quota_is ∙ e)) start
      (gone ∙ ap (λ (x : Held). plan_of (filter (goes_by flags x) held)) moved)
      (kept ∙ ap (λ (x : Held). plan_of (filter (λ y. not (goes_by flags x y)) held)) moved)
      (let w = worth_own in omega arith)
