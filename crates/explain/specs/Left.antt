-- What is said of the requests that a claim leaves out.
use Rattle.std.specs.Prelude.{◌≡◌, ℕ, ◌⊎◌, Bool, not, ◌==◌, List, [], ◌∷◌, map, filter, All}
use Rattle.std.specs.List.{AllZip, list_any}
use Rattle.plan_base.specs.declared.parts.Parts.{Parts}
use Rattle.plan_base.specs.declared.claim.Placement.{Placement}
use Rattle.plan_base.specs.declared.claim.Claim.{Claim}
use Rattle.plan_base.specs.declared.verdict.Verdict.TheVariants as judged
use Rattle.plan_base.specs.Requests.{listed}
use Rattle.plan_base.specs.Starts.{ShareSlice}
use Rattle.plan_base.specs.Verdict.{IsVerdict}
use Rattle.explain.specs.declared.answer.Left.{Left}
use Rattle.explain.specs.declared.answer.ExplainAnswer.{ExplainAnswer}
use Rattle.explain.specs.declared.answer.ExplainAnswer.TheVariants.{Explained, No}
use Rattle.openings.specs.Openings.{IsStartFor}
use Rattle.explain.specs.Starts.{HasStarts}
use Rattle.explain.specs.Forced.{ForcedValue, Excludes, IsInNoGoodPlan}

-- the placement shares a slice with a possible start of request r
abbrev pub Blocks : Parts → ℕ → Placement → Type 0
Blocks s r p = (q : Placement) × IsStartFor s r q × ShareSlice s p q

-- ys has those of xs of which P holds, in their order, and no other
abbrev pub AreKept : {X : Type 0} → (X → Type 0) → List X → List X → Type 0
AreKept P [] ys = ys ≡ []
AreKept {X} P (x ∷ xs) ys = (P x × (zs : List X) × (ys ≡ x ∷ zs) × AreKept P xs zs) ⊎ (¬ (P x) × AreKept P xs ys)

-- what is said of request r, which the claim leaves out
pub record IsLeft (s : Parts) (claim : Claim) (r : ℕ) (left : Left) : Type 0 where
  pub request : left.request.0 ≡ r
  pub starts : HasStarts s r left.starts
  pub blocking : AreKept (Blocks s r) claim.placements left.blocking
  pub forced : ForcedValue s claim r left.forced

-- whether a plan places request r
abbrev pub is_placed : List Placement → ℕ → Bool
is_placed plan r = list_any (λ p. p.request.0 == r) plan

-- the requests that a plan leaves out, in the snapshot's order
abbrev pub left_out : Parts → List Placement → List ℕ
left_out s plan = filter (λ r. not (is_placed plan r)) (map (λ x. x.request.request.0) (listed s))

-- each request that the claim leaves out is explained, in order, and no other
abbrev pub IsExplanation : Parts → Claim → List Left → Type 0
IsExplanation s claim lefts = AllZip (IsLeft s claim) (left_out s claim.placements) lefts

-- the claim is certified, and what it leaves out is explained; or this is the first reason why it isn't
abbrev pub IsExplainAnswer : Parts → Claim → ExplainAnswer → Type 0
IsExplainAnswer s claim (Explained lefts) = IsVerdict s claim (judged.Yes claim.value claim.bound) × IsExplanation s claim lefts
IsExplainAnswer s claim (No reason) = IsVerdict s claim (judged.No reason)

-- each request that the answer excludes is in no feasible plan worth the claim's value
abbrev pub AreExclusionsSound : Parts → Claim → ExplainAnswer → Type 0
AreExclusionsSound s claim (Explained lefts) = All (λ left. Excludes claim left.forced → IsInNoGoodPlan s claim left.request.0) lefts
AreExclusionsSound s claim (No reason) = Unit {0}
