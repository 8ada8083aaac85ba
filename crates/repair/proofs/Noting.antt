-- The first start of each request, noted by its place.
use Rattle.std.proofs.Common.{◌≡◌, ◌≢◌, ℕ, ◌+◌, ◌-◌, ◌<◌, ◌≤◌, inl, inr, Bool, cond, ◌==◌, List, [], ◌∷◌, length, drop, set, slice_index_or, Option}
use Rattle.std.proofs.Common.{Some, None, find, All, sym, ◌∙◌, ap, subst, arith}
use Rattle.std.proofs.lemmas.Bool.Decides.{eqb_tells}
use Rattle.std.proofs.lemmas.List.{length-set, get_or-set_same, get_or-set_other, drop_more}
use Rattle.plan_base.specs.declared.parts.Parts.{Parts}
use Rattle.plan_base.specs.declared.claim.Placement.{Placement}
use Rattle.plan_base.specs.Requests.{listed, place_of, IsKnown}
use Rattle.plan_base.specs.Starts.{IsPossibleStart}
use Rattle.groups.proofs.Rooms.{same_place}
use Rattle.groups.proofs.Keeping.{found_placement}
use Rattle.std.proofs.lemmas.List.Elements.{All-contains}
use Rattle.repair.specs.Firsts.{AreFirsts, IsOwn, AreOwn}

-- of no starts there is none
pub firsts_none : (s : Parts) (firsts : List (Option Placement)) → length firsts ≡ length (listed s)
    → All (λ first. first ≡ None) firsts → AreFirsts s [] firsts
firsts_none s firsts count none = record { count = count; each = λ r known. none (place_of s r) None (let c = count in omega arith) }

-- with one start more in front, it is the first of its request
pub firsts_more : (s : Parts) (starts : List Placement) (firsts : List (Option Placement)) (p : Placement) (place : ℕ) → IsKnown s p.request.0
    → place ≡ place_of s p.request.0 → AreFirsts s starts firsts → AreFirsts s (p ∷ starts) (set firsts place (Some p))
firsts_more s starts firsts p place known at are = record {
  count = length-set firsts place (Some p) ∙ are.count;
  each = λ r is_known. elim (eqb_tells p.request.0 r) [
    | inl same ↦
        let here : place_of s r ≡ place = ap (place_of s) (sym same.1) ∙ sym at in
        let count : length firsts ≡ length (listed s) = are.count in
        ap (λ (k : ℕ). slice_index_or (set firsts place (Some p)) k None) here ∙ get_or-set_same firsts place (Some p) None (omega arith)
        ∙ ap (λ (b : Bool). cond b (Some p) (find (λ q. q.request.0 == r) starts)) (sym same.0)
    | inr other ↦
        let apart : place_of s r ≢ place = λ e. other.1 (same_place s p.request.0 r known is_known (sym at ∙ sym e)) in
        get_or-set_other firsts place (place_of s r) (Some p) None apart ∙ are.each r is_known
        ∙ ap (λ (b : Bool). cond b (Some p) (find (λ q. q.request.0 == r) starts)) (sym other.0)
  ];
}

-- noted starts of starts that are possible are possible, and each is one of its request
pub firsts_own : (s : Parts) (starts : List Placement) (firsts : List (Option Placement)) → All (IsPossibleStart s) starts
    → AreFirsts s starts firsts → AreOwn s firsts
firsts_own s starts firsts possible are = record {
  count = are.count;
  each = λ r p known is.
      let found = found_placement r starts p (sym (are.each r known) ∙ is) in
      record { request = found.1; possible = All-contains (IsPossibleStart s) starts p possible found.0 };
}

-- what stands at the place of a request
pub first_read : (s : Parts) (starts : List Placement) (firsts : List (Option Placement)) (r place : ℕ) (x : Option Placement)
    → AreFirsts s starts firsts → IsKnown s r → place ≡ place_of s r → x ≡ slice_index_or firsts place None → x ≡ find (λ q. q.request.0 == r) starts
first_read s starts firsts r place x are known at is =
    is ∙ ap (λ (k : ℕ). slice_index_or firsts k None) at ∙ are.each r known

-- what is noted of a request is its own
pub own_read : (s : Parts) (firsts : List (Option Placement)) (r place : ℕ) (x : Option Placement) (p : Placement) → AreOwn s firsts → IsKnown s r
    → place ≡ place_of s r → x ≡ slice_index_or firsts place None → x ≡ Some p → IsOwn s r p
own_read s firsts r place x p own known at is some =
    own.each r p known (sym (is ∙ ap (λ (k : ℕ). slice_index_or firsts k None) at) ∙ some)

-- one start more, from the last on
pub noted_more : (s : Parts) (starts : List Placement) (firsts : List (Option Placement)) (i : ℕ) (d : Placement) (place : ℕ) → 0 < i
    → i ≤ length starts → IsKnown s (slice_index_or starts (i - 1) d).request.0 → place ≡ place_of s (slice_index_or starts (i - 1) d).request.0
    → AreFirsts s (drop i starts) firsts → AreFirsts s (drop (i - 1) starts) (set firsts place (Some (slice_index_or starts (i - 1) d)))
noted_more s starts firsts i d place some within known at are =
    let p : Placement = slice_index_or starts (i - 1) d in
    let up : i ≡ i - 1 + 1 = omega arith in
    let rest : AreFirsts s (drop (i - 1 + 1) starts) firsts = subst (λ (n : ℕ). AreFirsts s (drop n starts) firsts) up are in
    subst (λ (xs : List Placement). AreFirsts s xs (set firsts place (Some p))) (sym (drop_more starts (i - 1) d (omega arith)))
    (firsts_more s (drop (i - 1 + 1) starts) firsts p place known at rest)

pub own_from : (s t : Parts) (starts : List Placement) (firsts items : List (Option Placement)) → t ≡ s → items ≡ firsts
    → All (IsPossibleStart s) starts → AreFirsts s starts firsts → AreOwn t items
own_from s t starts firsts items same read possible are =
    subst (λ (xs : List (Option Placement)). AreOwn t xs) (sym read)
    (subst (λ (p : Parts). AreOwn p firsts) (sym same) (firsts_own s starts firsts possible are))
