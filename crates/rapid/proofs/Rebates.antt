-- The rebates of a snapshot's groups stay where it has one more.
use Rattle.std.proofs.Common.{◌≡◌, ℕ, ◌<◌, inl, inr, ℤ, ◌≤ℤ◌, List, [], ◌∷◌, ◌++◌, length, slice_index_or, All, sym, ◌∙◌, subst}
use Rattle.std.proofs.lemmas.List.{get_or_append_left}
use Rattle.std.proofs.lemmas.List.Elements.{All-weaker}
use Rattle.plan_base.specs.declared.parts.Parts.{Parts}
use Rattle.plan_base.specs.declared.parts.GroupPart.{GroupPart}
use Rattle.plan_base.specs.declared.parts.RequestPart.{RequestPart}
use Rattle.plan_base.specs.declared.parts.Op.{Op}
use Rattle.plan_base.specs.declared.parts.Op.TheVariants.{OneOf, And}
use Rattle.plan_base.specs.Sums.{total}
use Rattle.plan_base.specs.Requests.{listed, IsOf, IsKind, AllOrNone}
use Rattle.plan_base.specs.Snapshot.{IsOrderly}
use Rattle.plan_base.specs.Bound.{net_price, IsAllowedChoice, IsRebate}
use Rattle.rapid.specs.Insertion.{with_group}
use Rattle.rapid.proofs.Appended.{kept, known_kept, of_old, kind_kept, whole_old}
use Rattle.rapid.proofs.Prices.{same_totals, net_kept}

module _ (s : Parts) (group : GroupPart) (before : IsOrderly s) where
  abbrev after : Parts
  after = with_group s group

  kind_more : (k : Op) (g : ℕ) → g < length s.groups → IsKind s k g → IsKind after k g
  kind_more k g l h d = subst (λ (x : GroupPart). x.op ≡ k) (sym (get_or_append_left s.groups (group ∷ []) d g l)) (h d)

  of_more : (g r : ℕ) → IsOf s g r → IsOf after g r
  of_more g r of = (known_kept s group r of.0, kept s group (λ x. x.group) 0 r of.0 ∙ of.1)

  whole_more : (g : ℕ) (rs : List ℕ) → AllOrNone after g rs → AllOrNone s g rs
  whole_more g rs (inl all) = inl (λ r of. all r (of_more g r of))
  whole_more g rs (inr none) = inr (λ r of. none r (of_more g r of))

  allowed_more : (g : ℕ) (rs : List ℕ) → g < length s.groups → IsAllowedChoice s g rs → IsAllowedChoice after g rs
  allowed_more g rs l h = record {
    members = All-weaker (IsOf s g) (IsOf after g) (λ r of. of_more g r of) rs h.members;
    once = h.once;
    one_of = λ kind. h.one_of (kind_kept s group OneOf g l kind);
    whole = λ kind. whole_old s group g rs before l (h.whole (kind_kept s group And g l kind));
  }

  allowed_old : (g : ℕ) (rs : List ℕ) → g < length s.groups → IsAllowedChoice after g rs → IsAllowedChoice s g rs
  allowed_old g rs l h = record {
    members = All-weaker (IsOf after g) (IsOf s g) (λ r of. of_old s group g r before l of) rs h.members;
    once = h.once;
    one_of = λ kind. h.one_of (kind_more OneOf g l kind);
    whole = λ kind. whole_more g rs (h.whole (kind_more And g l kind));
  }

  module _ (q : RequestPart) (only : group.requests ≡ q ∷ []) (o : IsOrderly (with_group s group)) (cs : List ℤ) (c : ℤ)
      (count : length cs ≡ length (listed s)) (us : List ℕ) where
    abbrev net_after : ℕ → ℤ
    net_after = net_price after (cs ++ c ∷ []) us

    abbrev net_before : ℕ → ℤ
    net_before = net_price s cs us

    sum_kept : (g : ℕ) (rs : List ℕ) → All (IsOf s g) rs → total net_after rs ≡ total net_before rs
    sum_kept g rs of = same_totals net_after net_before rs (λ i d l. net_kept s group q only o cs c count us (slice_index_or rs i d) (of i d l).0)

    pub rebate_kept : (g : ℕ) (b : ℤ) → g < length s.groups → IsRebate s net_before g b → IsRebate after net_after g b
    rebate_kept g b l rebate = record {
      reached = (rebate.reached.0, allowed_more g rebate.reached.0 l rebate.reached.1, sum_kept g rebate.reached.0 rebate.reached.1.members ∙ rebate.reached.2);
      bound = λ rs h.
          let before_so : IsAllowedChoice s g rs = allowed_old g rs l h in
          subst (λ (z : ℤ). z ≤ℤ b) (sym (sum_kept g rs before_so.members)) (rebate.bound rs before_so);
    }
