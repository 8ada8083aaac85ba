-- What is free, and what can be added.
use Rattle.std.proofs.Common.{◌≡◌, ◌≢◌, ℕ, ◌+◌, ◌<◌, ◌≤◌, inl, inr, Bool, true, false, cond, ◌==◌, List, [], ◌∷◌, ◌++◌, length, slice_index_or, Option}
use Rattle.std.proofs.Common.{Some, All, Contains, refl, sym, ◌∙◌, ap, subst, arith}
use Rattle.std.proofs.lemmas.Bool.Decides.{eqb_tells}
use Rattle.std.proofs.lemmas.List.{length_push}
use Rattle.plan_base.specs.declared.parts.Parts.{Parts}
use Rattle.plan_base.specs.declared.parts.Op.{Op}
use Rattle.plan_base.specs.declared.parts.Op.TheVariants.{OneOf}
use Rattle.plan_base.specs.declared.claim.Placement.{Placement}
use Rattle.plan_base.specs.Requests.{quota_of, seconds_of, IsKnown, IsOf, IsKind}
use Rattle.plan_base.specs.Snapshot.{IsOrderly}
use Rattle.plan_base.specs.Feasible.{requests_of, AreOfOneOneOf, is_quota, quota_seconds, quota_at}
use Rattle.plan_base.specs.FeasibleSoFar.{IsFeasibleSoFar}
use Rattle.plan_base.specs.Saturated.{IsFree, HasNoFree, IsEarliestFree}
use Rattle.plan_base.proofs.Filled.{fits_free}
use Rattle.plan_base.proofs.Adding.{FitsPlan, so_far_push, fits_from_push, seconds_towards}
use Rattle.plan_base.proofs.Known.{quota_known}
use Rattle.plan_base.proofs.Rebates.{one_kind}
use Rattle.repair.specs.Apart.{HasNoneApart, IsEarliestApart}
use Rattle.repair.specs.Steps.{AddsSome, Places}

named_share : (s : Parts) (q r : ℕ) → quota_of s r ≡ Some q → seconds_towards s q r ≡ seconds_of s r
named_share s q r named = ap (λ (o : Option ℕ). cond (is_quota q o) (seconds_of s r) 0) named ∙ by_test (q == q) (self q)
  where
    by_test : (b : Bool) → b ≡ true → cond b (seconds_of s r) 0 ≡ seconds_of s r
    by_test true e = refl
    by_test false e = cc

    self : (n : ℕ) → (n == n) ≡ true
    self n = elim (eqb_tells n n) [ inl same ↦ same.0 | inr other ↦ absurd (other.1 refl) ]

-- what can be added is within its quota
within_quota : (s : Parts) (plan : List Placement) (p : Placement) → IsOrderly s → IsFeasibleSoFar s (plan ++ p ∷ [])
    → (q : ℕ) → quota_of s p.request.0 ≡ Some q → quota_seconds s q (requests_of plan) + seconds_of s p.request.0 ≤ quota_at s q
within_quota s plan p orderly after q named =
    let known = (after.possible (length plan) p (let more : length (plan ++ p ∷ []) ≡ length plan + 1 = length_push plan p in omega arith)) in
    let fits : FitsPlan s plan p = fits_from_push s plan p after in
    let below : q < length s.quotas =
    quota_known s p.request.0 orderly (subst (λ (x : Placement). IsKnown s x.request.0) (last_is plan p) known.known) q named in
    let share : seconds_towards s q p.request.0 ≡ seconds_of s p.request.0 = named_share s q p.request.0 named in
    let within : quota_seconds s q (requests_of plan) + seconds_towards s q p.request.0 ≤ quota_at s q = fits.quota_free q below in
    omega arith
  where
    last_is : (plan : List Placement) (p : Placement) → slice_index_or (plan ++ p ∷ []) (length plan) p ≡ p
    last_is [] p = refl
    last_is (x ∷ xs) p = last_is xs p

-- where no start of a request is apart, none is free
pub none_free : (s : Parts) (plan : List Placement) (r : ℕ) → HasNoneApart s plan r → HasNoFree s plan r
none_free s plan r none p same free = none p same free.possible free.apart

-- the earliest start that is apart is the earliest that is free, if it can be added
pub earliest_free : (s : Parts) (plan : List Placement) (r : ℕ) (p : Placement) → IsOrderly s → IsEarliestApart s plan r p
    → IsFeasibleSoFar s (plan ++ p ∷ []) → IsEarliestFree s plan r p
earliest_free s plan r p orderly earliest after = record {
  same_request = earliest.same_request;
  free = record { possible = earliest.possible; apart = earliest.apart; within_quota = within_quota s plan p orderly after };
  earliest = λ q same free. earliest.earliest q same free.possible free.apart;
}

-- and else none is free
pub none_free_within : (s : Parts) (plan : List Placement) (r : ℕ) (p : Placement) → IsFeasibleSoFar s plan → IsEarliestApart s plan r p
    → ¬ (Contains (requests_of plan) r)
    → All (λ a. ¬ (AreOfOneOneOf s a r)) (requests_of plan) → ¬ (IsFeasibleSoFar s (plan ++ p ∷ [])) → HasNoFree s plan r
none_free_within s plan r p so_far earliest unplaced alone not_after q same free =
    let number : q.request.0 ≡ p.request.0 = same ∙ sym earliest.same_request in
    let free_p : IsFree s plan p = record {
      possible = earliest.possible;
      apart = earliest.apart;
      within_quota = λ k named. subst (λ (n : ℕ). quota_seconds s k (requests_of plan) + seconds_of s n ≤ quota_at s k) number
          (free.within_quota k (ap (quota_of s) number ∙ named));
    } in
    not_after (so_far_push s plan p so_far earliest.possible (fits_free s plan p so_far free_p
    (subst (λ (n : ℕ). ¬ (Contains (requests_of plan) n)) (sym earliest.same_request) unplaced)
    (subst (λ (n : ℕ). All (λ a. ¬ (AreOfOneOneOf s a n)) (requests_of plan)) (sym earliest.same_request) alone)))

-- a request of a group that isn't a ONEOF is of one ONEOF with no request
pub outside_oneofs : (s : Parts) (g r a : ℕ) (k : Op) → IsKind s k g → k ≢ OneOf → IsOf s g r → ¬ (AreOfOneOneOf s a r)
outside_oneofs s g r a k kind other of (h, one_of, left, right) =
    let same : h ≡ g = sym right.1 ∙ of.1 in
    other (one_kind s g k OneOf kind (subst (IsKind s OneOf) same one_of))

-- ---- steps

longer : (plan : List Placement) (p : Placement) → length plan < length (plan ++ p ∷ [])
longer plan p = let more : length (plan ++ p ∷ []) ≡ length plan + 1 = length_push plan p in omega arith

pub adds_placed : (s : Parts) (plan : List Placement) (r : ℕ) (b : Bool) (after : List Placement) → Places s plan r b after → AddsSome b plan after
adds_placed s plan r true after placed = subst (λ (xs : List Placement). length plan < length xs) (sym placed.2) (longer plan placed.0)
adds_placed s plan r false after placed = placed.1

-- two steps, of which the second adds something
pub adds_then_more : (a : Bool) (x y z : List Placement) → AddsSome a x y → AddsSome true y z → AddsSome true x z
adds_then_more true x y z first second = let one : length x < length y = first in let two : length y < length z = second in omega arith
adds_then_more false x y z first second = let two : length y < length z = second in subst (λ (l : List Placement). length l < length z) first two

-- and of which the second adds nothing
pub adds_then_none : (a : Bool) (x y z : List Placement) → AddsSome a x y → AddsSome false y z → AddsSome a x z
adds_then_none a x y z first second = subst (AddsSome a x) (sym second) first
