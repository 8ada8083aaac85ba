-- What a visit may take for granted of the requests of a group.
use Rattle.std.proofs.Common.{◌≡◌, ◌≢◌, ℕ, ◌<◌, List, [], length, slice_index_or, All, AllPairs, Contains, None, sym, ◌∙◌, ap, subst, arith}
use Rattle.std.proofs.lemmas.List.{length-map, get_or-map}
use Rattle.std.proofs.lemmas.List.Elements.{All-contains, Contains-get_or}
use Rattle.plan_base.specs.declared.parts.Parts.{Parts}
use Rattle.plan_base.specs.declared.parts.GroupPart.{GroupPart}
use Rattle.plan_base.specs.declared.parts.Op.{Op}
use Rattle.plan_base.specs.declared.parts.Op.TheVariants.{Single, OneOf}
use Rattle.plan_base.specs.declared.claim.Placement.{Placement}
use Rattle.plan_base.specs.Requests.{IsOf, IsKind, members_of, members}
use Rattle.plan_base.specs.Snapshot.{IsOrderly}
use Rattle.plan_base.specs.Feasible.{requests_of, AreOfOneOneOf}
use Rattle.plan_base.specs.Saturated.{HasNonePlaced}
use Rattle.plan_base.proofs.Members.{is_of_member, member_is_of, members_rise}
use Rattle.repair.specs.declared.entry.Entry.{Entry}
use Rattle.repair.specs.Entries.{numbers_of}
use Rattle.plan_base.proofs.Filled.{outside_untouched}
use Rattle.repair.proofs.Trying.{outside_oneofs}

-- of a group that isn't a ONEOF no request is of one ONEOF with any
pub outside_all : (s : Parts) (g : ℕ) (k : Op) (rs : List ℕ) → IsOrderly s → IsKind s k g → k ≢ OneOf → rs ≡ members s g
    → All (λ r. (a : ℕ) → ¬ (AreOfOneOneOf s a r)) rs
outside_all s g k rs orderly kind other same = subst (All (λ r. (a : ℕ) → ¬ (AreOfOneOneOf s a r))) (sym same)
    (λ i d l a. outside_oneofs s g (slice_index_or (members s g) i d) a k kind other (is_of_member s g _ orderly (Contains-get_or (members s g) i d l)))

pub alone_untouched : (s : Parts) (plan : List Placement) (g : ℕ) (rs : List ℕ) → HasNonePlaced s plan g → All (IsOf s g) rs
    → All (λ r. All (λ a. ¬ (AreOfOneOneOf s a r)) (requests_of plan)) rs
alone_untouched s plan g rs none of i d l = outside_untouched s plan g _ none (of i d l)

pub unplaced_all : (s : Parts) (plan : List Placement) (g : ℕ) (rs : List ℕ) → HasNonePlaced s plan g → All (IsOf s g) rs
    → All (λ r. ¬ (Contains (requests_of plan) r)) rs
unplaced_all s plan g rs none of i d l = All-contains (λ a. ¬ (Contains (requests_of plan) a)) (members s g) _ none (member_is_of s g _ (of i d l))

below_differs : (a b : ℕ) → a < b → a ≢ b
below_differs a b l e = omega arith

pub once_members : (s : Parts) (g : ℕ) (rs : List ℕ) → IsOrderly s → rs ≡ members s g → AllPairs (λ a b. a ≢ b) rs
once_members s g rs orderly same = subst (AllPairs (λ a b. a ≢ b)) (sym same) (λ i j d l m. below_differs _ _ (members_rise s g orderly i j d l m))

pub some_entries : (s : Parts) (g : ℕ) (entries : List Entry) → IsOrderly s → g < length s.groups → numbers_of entries ≡ members s g → 0 < length entries
some_entries s g entries orderly below same =
    let d : GroupPart = record { group = record { 0 = 0 }; op = Single; requests = []; quota = None } in
    let count : length (members s g) ≡ length (slice_index_or s.groups g d).requests =
    ap (λ (rs : List ℕ). length rs) (get_or-map members_of s.groups g d [] below)
    ∙ length-map (slice_index_or s.groups g d).requests (λ q. q.request.0) in
    let shape = (orderly.shapes g d below).0 in
    let numbers : length (numbers_of entries) ≡ length (members s g) = ap (λ (rs : List ℕ). length rs) same in
    let mapped : length (numbers_of entries) ≡ length entries = length-map entries (λ e. e.request.0) in
    omega arith

pub of_members : (s : Parts) (g : ℕ) (rs : List ℕ) → IsOrderly s → rs ≡ members s g → All (IsOf s g) rs
of_members s g rs orderly same = subst (All (IsOf s g)) (sym same) (λ i d l. is_of_member s g _ orderly (Contains-get_or (members s g) i d l))
