-- What is asked for can be booked, and what is booked is what the books say.
use Rattle.std.proofs.Common.{◌≡◌, ◌≢◌, ℕ, suc, ◌+◌, ◌^◌, ◌<◌, ◌≤◌, List, [], ◌∷◌, ◌++◌, length, get_or, refl, sym, ap, ◌∙◌, subst, ⊎_elim, arith, map}
use Rattle.std.proofs.Common.{Bool, true, false, Some, None, Option}
use Rattle.std.specs.Prelude.{All, IfSome, find, option_and_then, sum_by, if◌then◌else◌, ◌==◌}
use Rattle.std.specs.Option.{option_map, option_to_list}
use Rattle.std.specs.Ordering.{match_ordering}
use Rattle.std.specs.BTreeSet.{replace_key}
use Rattle.std.specs.declared.cmp.Ordering.{Ordering}
use Rattle.std.specs.declared.cmp.Ordering.TheVariants.{Less, Equal, Greater}
use Rattle.std.proofs.lemmas.Bool.{cases_eq, eq-eqb, ne_eqb}
use Rattle.std.proofs.lemmas.Cmp.{tied_itself}
use Rattle.std.proofs.Math.ListN.{get_or-map}
use Rattle.std.proofs.lemmas.List.{map-append, length-map}
use Rattle.std.proofs.lemmas.List.Elements.{All-head, All-tail, All-weaker, All-set, All-nil, All-cons}
use Rattle.std.proofs.lemmas.List.Sums.{sum_by-cons, sum_by-le}
use Rattle.plan_base.specs.declared.number.GroupNo.{GroupNo}
use Rattle.allocations.specs.declared.key.Key.{Key}
use Rattle.allocations.specs.declared.key.Account.TheVariants.{Ipp}
use Rattle.allocations.specs.declared.entry.Hold.{Hold}
use Rattle.allocations.specs.declared.entry.EntryKind.TheVariants.{Grant, Charge, Refund}
use Rattle.allocations.specs.declared.sums.Amount.{Amount}
use Rattle.allocations.specs.declared.posting.Posting.{Posting}
use Rattle.allocations.specs.declared.posting.GroupState.{GroupState}
use Rattle.allocations.specs.Key.{key_cmp}
use Rattle.allocations.specs.Rising.{Rises}
use Rattle.allocations.specs.Amounts.{amount_at}
use Rattle.allocations.specs.Books.{GroupHolds, total_seconds}
use Rattle.allocations.specs.Raw.{key_at, entry_of, hold_of, group_of, books_of, posted, held_at}
use Rattle.allocations.specs.Changes.{group_cmp, ipp_of, charge_entry, standing, booked}
use Rattle.std.specs.Prelude.{nat_lt}
use Rattle.std.proofs.lemmas.Option.{same_Some}
use Rattle.allocations.specs.Refusals.{ipp_need, ipp_key, proposal_of}
use Rattle.allocations.specs.Store.{StoreSeen, group_at, given_at, left_at, amount_keys, refund_posting, refunds_of, freed_groups, freed_books, empty_group}
use Rattle.allocations.specs.Booking.{state_cmp, HoldsNothing, standing_of, charges_of, booked_groups}
use Rattle.allocations.proofs.Keys.{key_cmp_total}
use Rattle.allocations.proofs.Tied.{posted-push}
use Rattle.allocations.proofs.Freed.{given-bounded}

pub map_mapped : {X Y Z : Type 0} (f : X → Y) (g : Y → Z) (xs : List X) → map g (map f xs) ≡ map (λ x. g (f x)) xs
map_mapped f g [] = refl
map_mapped {X} {Y} {Z} f g (x ∷ xs) = ap (λ (l : List Z). g (f x) ∷ l) (map_mapped f g xs)

-- the keys of amounts that stand for holds are those of the holds
pub keys_of_holds : (keys : List Key) (ms : List Amount) (hs : List Hold) → map (hold_of keys) ms ≡ hs → amount_keys keys ms ≡ map (λ h. h.key) hs
keys_of_holds keys ms hs e = sym (map_mapped (hold_of keys) (λ (h : Hold). h.key) ms) ∙ ap (λ (l : List Hold). map (λ h. h.key) l) e

-- none of the amounts is of account i
amount_at-other : (i : ℕ) (ms : List Amount) → All (λ m. m.account ≢ i) ms → amount_at i ms ≡ 0
amount_at-other i ms h =
    let none = sum_by-le (λ (m : Amount). if m.account == i then m.seconds else 0) 0 ms
    (All-weaker (λ m. m.account ≢ i) (λ m. (if m.account == i then m.seconds else 0) ≤ 0) (λ m ne. let e = ne_eqb m.account i ne in
    rw e (omega arith)) ms h) in
    omega (arith, none)

-- amounts of rising keys are of different accounts, so each account is asked at most once
pub asked_once : (keys : List Key) (left : ℕ → ℕ) (i : ℕ) (ms : List Amount) → Rises key_cmp (amount_keys keys ms)
    → All (λ m. m.seconds ≤ left m.account) ms → amount_at i ms ≤ left i
asked_once keys left i [] r fit = omega arith
asked_once keys left i (m ∷ ms) r fit =
    let cons = sum_by-cons (λ (x : Amount). if x.account == i then x.seconds else 0) m ms in
    ⊎_elim
    (λ (e : m.account ≡ i).
    let others : All (λ x. x.account ≢ i) ms = λ k d l same.
    let less : key_cmp (key_at keys m.account) (get_or (amount_keys keys ms) k (key_at keys d.account)) ≡ Less =
    r 0 (suc k) (key_at keys d.account) (omega arith) (rw length-map (omega (arith, l))) in
    let at : get_or (amount_keys keys ms) k (key_at keys d.account) ≡ key_at keys (get_or ms k d).account =
    get_or-map (λ (x : Amount). key_at keys x.account) ms k d in
    let tie : key_cmp (key_at keys m.account) (get_or (amount_keys keys ms) k (key_at keys d.account)) ≡ Equal =
    rw (at, same, e) (tied_itself key_cmp_total (key_at keys i)) in
    cc in
    let none = amount_at-other i ms others in
    let first : m.seconds ≤ left m.account = All-head (λ x. x.seconds ≤ left x.account) m ms fit in
    let here : m.seconds ≤ left i = subst (λ (j : ℕ). m.seconds ≤ left j) e first in
    let one : (if m.account == i then m.seconds else 0) ≡ m.seconds = ap (λ (b : Bool). if b then m.seconds else 0) (eq-eqb m.account i e) in
    omega (arith, cons, none, here, one))
    (λ (ne : m.account ≡ i → ⊥).
    let rest = asked_once keys left i ms (λ a b d l k. r (suc a) (suc b) d (omega arith) (omega (arith, k)))
    (All-tail (λ x. x.seconds ≤ left x.account) m ms fit) in
    let one : (if m.account == i then m.seconds else 0) ≡ 0 = ap (λ (b : Bool). if b then m.seconds else 0) (ne_eqb m.account i ne) in
    omega (arith, cons, rest, one))
    (cases_eq m.account i)

-- no hold is of the ipp account
pub asked_ipp_alone : (keys : List Key) (ms : List Amount) (hs : List Hold) (a : ℕ) → map (hold_of keys) ms ≡ hs → All (λ h. h.key.account ≢ Ipp) hs
    → (key_at keys a).account ≡ Ipp → amount_at a ms ≡ 0
asked_ipp_alone keys ms hs a e not_ipp ipp =
    amount_at-other a ms (λ k d l same.
    let P : Hold → Type 0 = λ h. h.key.account ≢ Ipp in
    let all : All P (map (hold_of keys) ms) = subst (λ (x : List Hold). All P x) (sym e) not_ipp in
    let one : (get_or (map (hold_of keys) ms) k (hold_of keys d)).key.account ≢ Ipp = all k (hold_of keys d) (rw length-map l) in
    one (ap (λ (h : Hold). h.key.account) (get_or-map (hold_of keys) ms k d) ∙ ap (λ (j : ℕ). (key_at keys j).account) same ∙ ipp))

-- a group that holds nothing still holds nothing once another is freed
pub freed_nothing : (old : Option ℕ) (n : GroupNo) (gs : List GroupState) → HoldsNothing n gs → HoldsNothing n (freed_groups old gs)
freed_nothing None n gs h = h
freed_nothing (Some j) n gs h = All-set (λ (g : GroupState). g.group ≡ n → g.holds ≡ []) gs j (empty_group (group_at gs j).group) (λ _. refl) h

-- the changes of groups are seen as such
replace_by : (keys : List Key) (x g : GroupState) (xs : List GroupState) (rest : List GroupState) (seen : List GroupHolds)
    → map (group_of keys) rest ≡ seen → (o : Ordering)
    → map (group_of keys) (match_ordering o (g ∷ x ∷ xs) (g ∷ xs) (x ∷ rest))
    ≡ match_ordering o (group_of keys g ∷ group_of keys x ∷ map (group_of keys) xs)
    (group_of keys g ∷ map (group_of keys) xs) (group_of keys x ∷ seen)
replace_by keys x g xs rest seen e Less = refl
replace_by keys x g xs rest seen e Equal = refl
replace_by keys x g xs rest seen e Greater = ap (λ (l : List GroupHolds). group_of keys x ∷ l) e

pub replace_seen : (keys : List Key) (gs : List GroupState) (g : GroupState)
    → map (group_of keys) (replace_key state_cmp gs g) ≡ replace_key group_cmp (map (group_of keys) gs) (group_of keys g)
replace_seen keys [] g = refl
replace_seen keys (x ∷ xs) g = replace_by keys x g xs (replace_key state_cmp xs g) (replace_key group_cmp (map (group_of keys) xs) (group_of keys g))
    (replace_seen keys xs g) (state_cmp g x)

ipp_by : (keys : List Key) (x : GroupState) (rest : Option GroupState) (seen : Option GroupHolds)
    → option_and_then (λ (g : GroupHolds). g.ipp) seen ≡ option_map (hold_of keys) (option_and_then (λ (g : GroupState). g.ipp) rest) → (b : Bool)
    → option_and_then (λ (g : GroupHolds). g.ipp) (if b then Some (group_of keys x) else seen) ≡ option_map (hold_of keys)
    (option_and_then (λ (g : GroupState). g.ipp) (if b then Some x else rest))
ipp_by keys x rest seen e true = refl
ipp_by keys x rest seen e false = e

pub ipp_seen : (keys : List Key) (n : GroupNo) (gs : List GroupState) → ipp_of n (map (group_of keys) gs) ≡ option_map (hold_of keys) (standing_of n gs)
ipp_seen keys n [] = refl
ipp_seen keys n (x ∷ xs) = ipp_by keys x (find (λ g. g.group.0 == n.0) xs) (find (λ g. g.group.0 == n.0) (map (group_of keys) xs))
    (ipp_seen keys n xs) (x.group.0 == n.0)

standing_seen : (keys : List Key) (new old : Option Amount)
    → option_map (hold_of keys) (standing new old) ≡ standing (option_map (hold_of keys) new) (option_map (hold_of keys) old)
standing_seen keys None old = refl
standing_seen keys (Some m) old = refl

charges_seen : (keys : List Key) (n : GroupNo) (ipp : Option Amount)
    → map (entry_of keys) (charges_of n ipp) ≡ map (charge_entry n) (option_to_list (option_map (hold_of keys) ipp))
charges_seen keys n None = refl
charges_seen keys n (Some m) = refl

pub booked_seen : (keys : List Key) (ps : List Posting) (gs : List GroupState) (n : GroupNo) (ms : List Amount) (o : Option Amount) (hs : List Hold)
    (ipp : ℕ) → map (hold_of keys) ms ≡ hs → option_map (hold_of keys) o ≡ ipp_need hs ipp
    → books_of keys (ps ++ charges_of n o) (booked_groups n ms o gs) ≡ booked n hs ipp (books_of keys ps gs)
booked_seen keys ps gs n ms o hs ipp e f =
    let entries : map (entry_of keys) (ps ++ charges_of n o) ≡ map (entry_of keys) ps ++ map (charge_entry n) (option_to_list (ipp_need hs ipp)) =
    map-append (entry_of keys) ps (charges_of n o)
    ∙ ap (λ l. map (entry_of keys) ps ++ l) (charges_seen keys n o ∙ ap (λ (x : Option Hold). map (charge_entry n) (option_to_list x)) f) in
    let stands : option_map (hold_of keys) (standing o (standing_of n gs)) ≡ standing (ipp_need hs ipp) (ipp_of n (map (group_of keys) gs)) =
    standing_seen keys o (standing_of n gs) ∙ ap (λ (x : Option Hold). standing x (option_map (hold_of keys) (standing_of n gs))) f
    ∙ ap (λ (x : Option Hold). standing (ipp_need hs ipp) x) (sym (ipp_seen keys n gs)) in
    let group : group_of keys record { group = n; holds = ms; ipp = standing o (standing_of n gs) }
    ≡ record { group = n; holds = hs; ipp = standing (ipp_need hs ipp) (ipp_of n (map (group_of keys) gs)) } =
    ap (λ (x : List Hold). record { group = n; holds = x; ipp = option_map (hold_of keys) (standing o (standing_of n gs)) }) e
    ∙ ap (λ (x : Option Hold). record { group = n; holds = hs; ipp = x }) stands in
    let holds = replace_seen keys gs record { group = n; holds = ms; ipp = standing o (standing_of n gs) }
    ∙ ap (λ (g : GroupHolds). replace_key group_cmp (map (group_of keys) gs) g) group in
    ap (λ l. record { entries = l; holds = map (group_of keys) (booked_groups n ms o gs) }) entries
    ∙ ap (λ (l : List GroupHolds). record {
      entries = map (entry_of keys) ps ++ map (charge_entry n) (option_to_list (ipp_need hs ipp));
      holds = l;
    }) holds

-- a refund keeps its account in its range
pub refunds_fit : (s : StoreSeen) (j : ℕ) → total_seconds (freed_books s (Some j)) ≤ 1000000000000000000
    → All (λ p. given_at p.account s.postings + p.seconds < 2 ^ 64) (refunds_of (group_at s.groups j))
refunds_fit s j bound = by (group_at s.groups j).ipp refl
  where
    by : (o : Option Amount) → (group_at s.groups j).ipp ≡ o
        → All (λ p. given_at p.account s.postings + p.seconds < 2 ^ 64) (map (refund_posting (group_at s.groups j).group) (option_to_list o))
    by None e = All-nil (λ (p : Posting). given_at p.account s.postings + p.seconds < 2 ^ 64)
    by (Some m) e =
        let p : Posting = refund_posting (group_at s.groups j).group m in
        let given : given_at m.account (s.postings ++ p ∷ []) ≤ sum_by (λ x. x.seconds) (map (entry_of s.keys) (s.postings ++ p ∷ [])) =
        given-bounded s.keys (s.postings ++ p ∷ []) m.account in
        let total : sum_by (λ x. x.seconds) (map (entry_of s.keys) (s.postings ++ p ∷ [])) ≤ 1000000000000000000 = let b = rw e at bound in omega (arith, b) in
        let g = posted-push Grant m.account s.postings p in
        let r = posted-push Refund m.account s.postings p in
        let same : (if m.account == m.account then m.seconds else 0) ≡ m.seconds =
        ap (λ (b : Bool). if b then m.seconds else 0) (eq-eqb m.account m.account refl) in
        All-cons (λ (q : Posting). given_at q.account s.postings + q.seconds < 2 ^ 64) p [] (omega (arith, given, total, g, r, same))
        (All-nil (λ (q : Posting). given_at q.account s.postings + q.seconds < 2 ^ 64))

ipp_account : (keys : List Key) (m : Amount) (hs : List Hold) (ipp : ℕ) → Some (hold_of keys m) ≡ ipp_need hs ipp → (key_at keys m.account).account ≡ Ipp
ipp_account keys m hs ipp e = by (nat_lt 0 ipp) e
  where
    by : (b : Bool) → Some (hold_of keys m) ≡ (if b then Some record { key = ipp_key (proposal_of hs); seconds = ipp } else None)
        → (key_at keys m.account).account ≡ Ipp
    by true h = ap (λ (x : Hold). x.key.account) (same_Some (hold_of keys m) record { key = ipp_key (proposal_of hs); seconds = ipp } h)
    by false h = cc

-- the ipp charge fits beside the holds
pub ipp_room : (keys : List Key) (ps : List Posting) (gs : List GroupState) (ms : List Amount) (hs : List Hold) (ipp : ℕ) (o : Option Amount)
    → map (hold_of keys) ms ≡ hs → All (λ h. h.key.account ≢ Ipp) hs
    → ((i : ℕ) → i < length keys → held_at i gs + posted Charge i ps ≤ given_at i ps) → IfSome o (λ m. m.account < length keys)
    → IfSome o (λ m. m.seconds ≤ left_at m.account ps gs) → option_map (hold_of keys) o ≡ ipp_need hs ipp
    → IfSome o (λ m. held_at m.account gs + amount_at m.account ms + posted Charge m.account ps + m.seconds ≤ given_at m.account ps)
ipp_room keys ps gs ms hs ipp None e n c p f s = tt
ipp_room keys ps gs ms hs ipp (Some m) e n c p f s =
    let alone = asked_ipp_alone keys ms hs m.account e n (ipp_account keys m hs ipp s) in
    let covered = c m.account p in
    omega (arith, alone, covered, f)

-- the holds fit beside each other
pub holds_room : (keys : List Key) (ps : List Posting) (gs : List GroupState) (ms : List Amount) → Rises key_cmp (amount_keys keys ms)
    → ((i : ℕ) → i < length keys → held_at i gs + posted Charge i ps ≤ given_at i ps) → All (λ m. m.seconds ≤ left_at m.account ps gs) ms
    → (i : ℕ) → i < length keys → held_at i gs + amount_at i ms + posted Charge i ps ≤ given_at i ps
holds_room keys ps gs ms r c f i l =
    let once = asked_once keys (λ j. left_at j ps gs) i ms r f in
    let covered = c i l in
    omega (arith, once, covered)
