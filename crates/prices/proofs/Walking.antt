-- The groups of a snapshot, gone through one after another.
use Rattle.std.proofs.Common.{◌≡◌, ℕ, zero, suc, ◌+◌, ◌-◌, ◌<◌, ◌≤◌, ◌⊎◌, inl, inr, Bool, false, ℤ, List, [], ◌∷◌, ◌++◌, length, map, slice_index_or}
use Rattle.std.proofs.Common.{None, refl, sym, ◌∙◌, ap, subst, arith, length-append}
use Rattle.std.proofs.lemmas.List.{length-map, get_or-map, get_or_append_left, get_or-append-add}
use Rattle.plan_base.specs.declared.parts.Parts.{Parts}
use Rattle.plan_base.specs.declared.parts.GroupPart.{GroupPart}
use Rattle.plan_base.specs.declared.fault.Counted.TheVariants.{Requests, Quotas}
use Rattle.plan_base.specs.declared.parts.Op.TheVariants.{Single}
use Rattle.plan_base.specs.Requests.{Listed, listed_from, listed, place_of, members_of, members}
use Rattle.plan_base.specs.Snapshot.{IsOrderly}
use Rattle.plan_base.specs.Bound.{price}
use Rattle.plan_base.specs.Round.{is_taken}
use Rattle.plan_base.specs.NetPrices.{IsGroupRun}
use Rattle.groups.proofs.Runs.{IsRun, number_of, place_at}
use Rattle.prices.specs.Rounds.{number_at}
use Rattle.prices.specs.Takings.{AreTaken}
use Rattle.prices.proofs.Demanding.{nothing}

-- how many requests the groups before place g have
abbrev pub offset : List GroupPart → ℕ → ℕ
offset [] g = 0
offset (x ∷ xs) zero = 0
offset (x ∷ xs) (suc g) = length x.requests + offset xs g

pub offset_first : (xs : List GroupPart) → offset xs 0 ≡ 0
offset_first [] = refl
offset_first (x ∷ xs) = refl

pub offset_more : (xs : List GroupPart) (g : ℕ) (d : GroupPart) → g < length xs → offset xs (g + 1) ≡ offset xs g + length (slice_index_or xs g d).requests
offset_more [] g d l = absurd (omega arith)
offset_more (x ∷ xs) zero d l = let none : offset xs 0 ≡ 0 = offset_first xs in omega arith
offset_more (x ∷ xs) (suc g) d l =
    let at : suc g + 1 ≡ suc (g + 1) = omega arith in
    let here : offset (x ∷ xs) (suc g + 1) ≡ length x.requests + offset xs (g + 1) = ap (offset (x ∷ xs)) at in
    let rest : offset xs (g + 1) ≡ offset xs g + length (slice_index_or xs g d).requests = offset_more xs g d (omega arith) in
    omega arith

pub offset_all : (n : ℕ) (xs : List GroupPart) (g : ℕ) → length xs ≤ g → offset xs g ≡ length (listed_from n xs)
offset_all n [] g l = refl
offset_all n (x ∷ xs) zero l = absurd (omega arith)
offset_all n (x ∷ xs) (suc g) l =
    let here : List Listed = map (λ q. record { group = n; quota = x.quota; request = q }) x.requests in
    let count : length here ≡ length x.requests = length-map x.requests (λ q. record { group = n; quota = x.quota; request = q }) in
    let whole : length (here ++ listed_from (suc n) xs) ≡ length here + length (listed_from (suc n) xs) = length-append here (listed_from (suc n) xs) in
    let rest : offset xs g ≡ length (listed_from (suc n) xs) = offset_all (suc n) xs g (omega arith) in
    omega arith

-- a group's requests begin where those of the groups before it end
run_at : (n : ℕ) (xs : List GroupPart) (g : ℕ) → g < length xs → IsRun n xs g (offset xs g)
run_at n [] g l = absurd (omega arith)
run_at n (x ∷ xs) zero l =
    let here : List Listed = map (λ q. record { group = n; quota = x.quota; request = q }) x.requests in
    let count : length here ≡ length x.requests = length-map x.requests (λ q. record { group = n; quota = x.quota; request = q }) in
    let same : length (members_of x) ≡ length x.requests = length-map x.requests (λ q. q.request.0) in
    let whole : length (here ++ listed_from (suc n) xs) ≡ length here + length (listed_from (suc n) xs) = length-append here (listed_from (suc n) xs) in
    record {
      within = omega arith;
      each = λ i d k.
          let at : 0 + i ≡ i = omega arith in
          let left : slice_index_or (here ++ listed_from (suc n) xs) i d ≡ slice_index_or here i d =
          get_or_append_left here (listed_from (suc n) xs) d i (omega arith) in
          let first : slice_index_or here i d ≡ _ =
          get_or-map (λ q. record { group = n; quota = x.quota; request = q }) x.requests i d.request d (omega arith) in
          let second : slice_index_or (members_of x) i 0 ≡ (slice_index_or x.requests i d.request).request.0 =
          get_or-map (λ q. q.request.0) x.requests i d.request 0 (omega arith) in
          ap (λ (j : ℕ). number_of (slice_index_or (here ++ listed_from (suc n) xs) j d)) at ∙ ap number_of left ∙ ap number_of first ∙ sym second;
    }
run_at n (x ∷ xs) (suc g) l =
    let here : List Listed = map (λ q. record { group = n; quota = x.quota; request = q }) x.requests in
    let count : length here ≡ length x.requests = length-map x.requests (λ q. record { group = n; quota = x.quota; request = q }) in
    let rest : IsRun (suc n) xs g (offset xs g) = run_at (suc n) xs g (omega arith) in
    let whole : length (here ++ listed_from (suc n) xs) ≡ length here + length (listed_from (suc n) xs) = length-append here (listed_from (suc n) xs) in
    record {
      within = let less = rest.within in omega arith;
      each = λ i d k.
          let at : length x.requests + offset xs g + i ≡ length here + (offset xs g + i) = omega arith in
          ap (λ (j : ℕ). number_of (slice_index_or (here ++ listed_from (suc n) xs) j d)) at
          ∙ ap number_of (get_or-append-add here (listed_from (suc n) xs) (offset xs g + i) d) ∙ rest.each i d k;
    }

pub group_at : (s : Parts) (g : ℕ) → IsOrderly s → g < length s.groups → IsGroupRun s g (offset s.groups g)
group_at s g o l =
    let run : IsRun 0 s.groups g (offset s.groups g) = run_at 0 s.groups g l in
    let within : offset s.groups g + length (members s g) ≤ length (listed s) = run.within in
    record { within = within; each = λ i k. ap (place_of s) (sym (run.each i nothing k)) ∙ place_at s (offset s.groups g + i) nothing o (omega arith) }

-- the number of a group's request
pub number_here : (s : Parts) (g i : ℕ) → g < length s.groups → i < length (members s g)
    → number_at s (offset s.groups g + i) ≡ slice_index_or (members s g) i 0
number_here s g i l k =
    let run : IsRun 0 s.groups g (offset s.groups g) = run_at 0 s.groups g l in
    let within : offset s.groups g + length (members s g) ≤ length (listed s) = run.within in
    get_or-map (λ x. x.request.request.0) (listed s) (offset s.groups g + i) nothing 0 (omega arith) ∙ run.each i nothing k

-- the flags of the requests of the first g groups are written
pub record IsWalked (s : Parts) (net : List ℤ) (old flags : List Bool) (first g : ℕ) : Type 0 where
  pub begins : first ≡ offset s.groups g
  pub count : length flags ≡ length old
  pub taken : (k : ℕ) → k < first → slice_index_or flags k false ≡ is_taken s (price s net) (number_at s k)

below_or_from : (k first : ℕ) → (k < first) ⊎ (first ≤ k)
below_or_from k first = grind arith

pub walked_none : (s : Parts) (net : List ℤ) (flags : List Bool) → IsWalked s net flags flags 0 0
walked_none s net flags = record { begins = sym (offset_first s.groups); count = refl; taken = λ k m. absurd (omega arith) }

-- where a group's requests begin, and where they end
pub group_within : (s : Parts) (net : List ℤ) (old flags : List Bool) (first g : ℕ) → IsOrderly s → g < length s.groups
    → IsWalked s net old flags first g → IsGroupRun s g first
group_within s net old flags first g o l h = subst (λ (a : ℕ). IsGroupRun s g a) (sym h.begins) (group_at s g o l)

pub few_requests : (s : Parts) → IsOrderly s → length (listed s) ≤ 1024
few_requests s o = o.within Requests 0 0 (omega arith)

pub few_quotas : (s : Parts) → IsOrderly s → length s.quotas ≤ 1024
few_quotas s o = o.within Quotas 0 0 (omega arith)

pub walked_more : (s : Parts) (net : List ℤ) (old flags more : List Bool) (first g n : ℕ) → g < length s.groups → n ≡ length (members s g)
    → length more ≡ length flags
    → ((k : ℕ) → k < first → slice_index_or more k false ≡ slice_index_or flags k false)
    → ((i : ℕ) → i < length (members s g) → slice_index_or more (first + i) false ≡ is_taken s (price s net) (slice_index_or (members s g) i 0))
    → IsWalked s net old flags first g → IsWalked s net old more (first + n) (g + 1)
walked_more s net old flags more first g n l size count before group h =
    let x : GroupPart = record { group = record { 0 = 0 }; op = Single; requests = []; quota = None } in
    let own : length (members s g) ≡ length (slice_index_or s.groups g x).requests =
    ap (λ (rs : List ℕ). length rs) (get_or-map members_of s.groups g x [] l)
    ∙ length-map (slice_index_or s.groups g x).requests (λ q. q.request.0) in
    let begins : first ≡ offset s.groups g = h.begins in
    let ends : offset s.groups (g + 1) ≡ offset s.groups g + length (slice_index_or s.groups g x).requests = offset_more s.groups g x l in
    record {
      begins = omega arith;
      count = count ∙ h.count;
      taken = λ k m. elim (below_or_from k first) [
        | inl b ↦ before k b ∙ h.taken k b
        | inr f ↦
            let i : ℕ = k - first in
            let at : k ≡ first + i = omega arith in
            let place : k ≡ offset s.groups g + i = omega arith in
            let among : i < length (members s g) = omega arith in
            ap (λ (j : ℕ). slice_index_or more j false) at ∙ group i among
            ∙ ap (is_taken s (price s net)) (sym (ap (number_at s) place ∙ number_here s g i l among))
      ];
    }

pub walked_all : (s : Parts) (net : List ℤ) (old flags : List Bool) (first g : ℕ) → length s.groups ≤ g → IsWalked s net old flags first g
    → AreTaken s (price s net) flags
walked_all s net old flags first g l h =
    let all : offset s.groups g ≡ length (listed s) = offset_all 0 s.groups g l in
    let begins : first ≡ offset s.groups g = h.begins in
    λ k m. h.taken k (omega arith)
