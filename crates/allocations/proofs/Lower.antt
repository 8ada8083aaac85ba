-- What is left of amounts that are lowered to holds.
use Rattle.std.proofs.Common.{append_assoc, ◌≡◌, ◌≢◌, ℕ, zero, suc, ◌+◌, ◌<◌, ◌≤◌, List, [], ◌∷◌, ◌++◌, length, get_or, set, take, drop, refl, sym, ap}
use Rattle.std.proofs.Common.{◌∙◌, subst, arith, map, Bool, true, false, Some, None, Option}
use Rattle.std.specs.Prelude.{All, Any, if◌then◌else◌, ◌==◌}
use Rattle.std.specs.declared.cmp.Ordering.TheVariants.{Less, Equal}
use Rattle.std.proofs.lemmas.Bool.{false≢true}
use Rattle.std.proofs.lemmas.Cmp.{tied_itself}
use Rattle.std.proofs.Math.Seq.{drop-cons}
use Rattle.std.proofs.Math.Numerals.{add-one}
use Rattle.std.proofs.lemmas.List.{length-map, length-set, length-drop, drop-set-lt, take_more_set}
use Rattle.std.proofs.lemmas.List.Elements.{All-head, All-tail, All-nil, All-cons}
use Rattle.std.proofs.lemmas.List.Sums.{sum_by-cons}
use Rattle.std.proofs.Math.ListN.{get_or-map}
use Rattle.allocations.specs.declared.key.Key.{Key}
use Rattle.allocations.specs.declared.entry.Hold.{Hold}
use Rattle.allocations.specs.declared.sums.Amount.{Amount}
use Rattle.allocations.specs.Key.{key_cmp, is_key}
use Rattle.allocations.specs.Rising.{Rises}
use Rattle.allocations.specs.Amounts.{amount_at}
use Rattle.allocations.specs.Raw.{key_at, hold_of}
use Rattle.allocations.specs.Store.{amount_keys}
use Rattle.allocations.specs.Lowered.{lowered_to, AreAtMost, IsFirstOn}
use Rattle.allocations.proofs.Keys.{key_cmp_total, is_key-true, is_key-refl}

-- one step of the loop
pub lowered_skip : (keys : List Key) (m : Amount) (ms : List Amount) (hs : List Hold) → IsFirstOn keys m.account hs None
    → lowered_to keys (m ∷ ms) hs ≡ lowered_to keys ms hs
lowered_skip keys m ms [] h = sym (lowered_none keys ms)
  where
    lowered_none : (keys : List Key) (ms : List Amount) → lowered_to keys ms [] ≡ []
    lowered_none keys [] = refl
    lowered_none keys (x ∷ xs) = refl
lowered_skip keys m ms (h ∷ hs) e = by (is_key (key_at keys m.account) h.key) e
  where
    by : (b : Bool) → None ≡ (if b then Some h.seconds else None)
        → (if b then record { account = m.account; seconds = h.seconds } ∷ lowered_to keys ms hs else lowered_to keys ms (h ∷ hs))
        ≡ lowered_to keys ms (h ∷ hs)
    by true n = cc
    by false n = refl

pub lowered_take : (keys : List Key) (m : Amount) (ms : List Amount) (hs : List Hold) (n : ℕ) → IsFirstOn keys m.account hs (Some n)
    → (lowered_to keys (m ∷ ms) hs ≡ record { account = m.account; seconds = n } ∷ lowered_to keys ms (drop 1 hs)) × (0 < length hs)
lowered_take keys m ms [] n h = cc
lowered_take keys m ms (h ∷ hs) n e = (by (is_key (key_at keys m.account) h.key) e, omega arith)
  where
    by : (b : Bool) → Some n ≡ (if b then Some h.seconds else None)
        → (if b then record { account = m.account; seconds = h.seconds } ∷ lowered_to keys ms hs else lowered_to keys ms (h ∷ hs))
        ≡ record { account = m.account; seconds = n } ∷ lowered_to keys ms hs
    by true s = let same : n ≡ h.seconds = cc in ap (λ (x : ℕ). record { account = m.account; seconds = x } ∷ lowered_to keys ms hs) (sym same)
    by false s = cc

pub first_is : (keys : List Key) (account : ℕ) (hs : List Hold) (h : Hold) (r : Option ℕ) → 0 < length hs → h ≡ get_or hs 0 h
    → r ≡ (if is_key (key_at keys account) h.key then Some h.seconds else None) → IsFirstOn keys account hs r
first_is keys account [] h r l e s = absurd (omega arith)
first_is keys account (x ∷ xs) h r l e s = subst (λ (y : Hold). r ≡ (if is_key (key_at keys account) y.key then Some y.seconds else None)) e s

drop_one : {X : Type 0} (zs : List X) (k : ℕ) → drop 1 (drop k zs) ≡ drop (suc k) zs
drop_one [] zero = refl
drop_one [] (suc k) = refl
drop_one (z ∷ zs) zero = refl
drop_one (z ∷ zs) (suc k) = drop_one zs k

-- how far a loop has lowered amounts: the first ones are done, and the rest are as they were
pub record Lowers (keys : List Key) (all : List Amount) (holds : List Hold) (now : List Amount) (kept index : ℕ) : Type 0 where
  pub behind : kept ≤ index
  pub within : kept ≤ length holds
  pub same : length now ≡ length all
  pub rest : drop index now ≡ drop index all
  pub done : take kept now ++ lowered_to keys (drop index now) (drop kept holds) ≡ lowered_to keys all holds

module _ (keys : List Key) (all : List Amount) (holds : List Hold) (now : List Amount) (kept index : ℕ) (s : Lowers keys all holds now kept index)
    (l : index < length all) where
  -- the amount at the index is as it was
  pub at_index : (d : Amount) → get_or now index d ≡ get_or all index d
  at_index d =
      let a : drop index now ≡ get_or now index d ∷ drop (suc index) now = drop-cons now index d (let e = s.same in omega (arith, e)) in
      let b : drop index all ≡ get_or all index d ∷ drop (suc index) all = drop-cons all index d l in
      let r = s.rest in
      cc

  rest_more : drop (index + 1) now ≡ drop (index + 1) all
  rest_more = rw add-one (sym (drop_one now index) ∙ ap (λ (z : List Amount). drop 1 z) s.rest ∙ drop_one all index)

  -- the amount is dropped
  pub lowers_skip : (d : Amount) → IsFirstOn keys (get_or now index d).account (drop kept holds) None → Lowers keys all holds now kept (index + 1)
  lowers_skip d first =
      let cons : drop index now ≡ get_or now index d ∷ drop (suc index) now = drop-cons now index d (let e = s.same in omega (arith, e)) in
      let skip = lowered_skip keys (get_or now index d) (drop (suc index) now) (drop kept holds) first in
      record {
        behind = let b = s.behind in omega (arith, b);
        within = s.within;
        same = s.same;
        rest = rest_more;
        done = rw add-one (ap (λ (x : List Amount). take kept now ++ x)
            (sym skip ∙ ap (λ (x : List Amount). lowered_to keys x (drop kept holds)) (sym cons)) ∙ s.done);
      }

  -- the amount is kept, with the seconds of the hold
  pub lowers_take : (d : Amount) (n : ℕ) → IsFirstOn keys (get_or now index d).account (drop kept holds) (Some n)
      → Lowers keys all holds (set now kept record { account = (get_or now index d).account; seconds = n }) (kept + 1) (index + 1)
  lowers_take d n first =
      let cons : drop index now ≡ get_or now index d ∷ drop (suc index) now = drop-cons now index d (let e = s.same in omega (arith, e)) in
      let take' = lowered_take keys (get_or now index d) (drop (suc index) now) (drop kept holds) n first in
      let m : Amount = record { account = (get_or now index d).account; seconds = n } in
      let b = s.behind in
      let room : kept < length now = let e = s.same in omega (arith, e, b) in
      record {
        behind = omega (arith, b);
        within = let t = take'.1 in let d' = length-drop kept holds in omega (arith, t, d');
        same = length-set now kept m ∙ s.same;
        rest = drop-set-lt (index + 1) now kept m (omega (arith, b)) ∙ rest_more;
        done =
            rw (take_more_set now kept m room, drop-set-lt (index + 1) now kept m (omega (arith, b)), append_assoc, add-one, add-one)
            (ap (λ (x : List Amount). take kept now ++ x)
            (ap (λ (x : List Hold). m ∷ lowered_to keys (drop (suc index) now) x) (sym (drop_one holds kept)) ∙ sym take'.0
            ∙ ap (λ (x : List Amount). lowered_to keys x (drop kept holds)) (sym cons))
            ∙ s.done);
      }

pub lowered_places : (keys : List Key) (n : ℕ) (ms : List Amount) (hs : List Hold) → All (λ m. m.account < n) ms
    → All (λ m. m.account < n) (lowered_to keys ms hs)
lowered_places keys n [] hs all = All-nil (λ (m : Amount). m.account < n)
lowered_places keys n (m ∷ ms) [] all = All-nil (λ (x : Amount). x.account < n)
lowered_places keys n (m ∷ ms) (h ∷ hs) all =
    let tail = All-tail (λ (x : Amount). x.account < n) m ms all in
    let head : m.account < n = All-head (λ (x : Amount). x.account < n) m ms all in
    by (lowered_places keys n ms hs tail) (lowered_places keys n ms (h ∷ hs) tail) head (is_key (key_at keys m.account) h.key)
  where
    by : All (λ x. x.account < n) (lowered_to keys ms hs) → All (λ x. x.account < n) (lowered_to keys ms (h ∷ hs)) → m.account < n → (b : Bool)
        → All (λ x. x.account < n) (if b then record { account = m.account; seconds = h.seconds } ∷ lowered_to keys ms hs
        else lowered_to keys ms (h ∷ hs))
    by a b l true = All-cons (λ (x : Amount). x.account < n) record { account = m.account; seconds = h.seconds } (lowered_to keys ms hs) l a
    by a b l false = b

-- what some amount of a list says, where it isn't the first
any_later : (P : Amount → Type 0) (m : Amount) (ms : List Amount) → Any P (m ∷ ms) → (P m → ⊥) → Any P ms
any_later P m ms (zero, x, l, e, p) apart = absurd (apart (subst P (sym e) p))
any_later P m ms (suc k, x, l, e, p) apart = (k, x, omega arith, e, p)

-- a hold of another account isn't at most the first amount
others : (keys : List Key) (m : Amount) (ms : List Amount) (hs : List Hold) → All (λ h. key_at keys m.account ≢ h.key) hs
    → AreAtMost keys (m ∷ ms) hs → AreAtMost keys ms hs
others keys m ms hs apart most k d l =
    any_later (λ (x : Amount). (key_at keys x.account ≡ (get_or hs k d).key) × ((get_or hs k d).seconds ≤ x.seconds)) m ms
    (most k d l) (λ p. apart k d l p.0)

-- the keys of later holds differ from that of the first
later_apart : (key : Key) (h : Hold) (hs : List Hold) → Rises key_cmp (map (λ x. x.key) (h ∷ hs)) → key ≡ h.key → All (λ x. key ≢ x.key) hs
later_apart key h hs r e k d l same =
    let less : key_cmp h.key (get_or (map (λ (x : Hold). x.key) hs) k d.key) ≡ Less = r 0 (suc k) d.key (omega arith) (rw length-map (omega (arith, l))) in
    let at : get_or (map (λ (x : Hold). x.key) hs) k d.key ≡ (get_or hs k d).key = get_or-map (λ (x : Hold). x.key) hs k d in
    let tie : key_cmp h.key (get_or (map (λ (x : Hold). x.key) hs) k d.key) ≡ Equal = rw (at, ← same, e) (tied_itself key_cmp_total h.key) in
    cc

-- where the first amount is of another account than the first hold, it is of none of them
none_first : (keys : List Key) (m : Amount) (ms : List Amount) (h : Hold) (hs : List Hold) → Rises key_cmp (amount_keys keys (m ∷ ms))
    → Rises key_cmp (map (λ x. x.key) (h ∷ hs)) → AreAtMost keys (m ∷ ms) (h ∷ hs) → key_at keys m.account ≢ h.key
    → All (λ x. key_at keys m.account ≢ x.key) (h ∷ hs)
none_first keys m ms h hs rm rh most ne =
    let here = any_later (λ (x : Amount). (key_at keys x.account ≡ h.key) × (h.seconds ≤ x.seconds)) m ms (most 0 h (omega arith)) (λ p. ne p.0) in
    let x : Amount = here.1 in
    let less : key_cmp (key_at keys m.account) (get_or (amount_keys keys ms) here.0 (key_at keys x.account)) ≡ Less =
    rm 0 (suc here.0) (key_at keys x.account) (omega arith) (rw length-map (let w = here.2 in omega (arith, w))) in
    let at : get_or (amount_keys keys ms) here.0 (key_at keys x.account) ≡ key_at keys (get_or ms here.0 x).account =
    get_or-map (λ (y : Amount). key_at keys y.account) ms here.0 x in
    let below : key_cmp (key_at keys m.account) h.key ≡ Less = rw (at, here.3, here.4.0) at less in
    All-cons (λ (y : Hold). key_at keys m.account ≢ y.key) h hs ne (λ k d l same.
    let up : key_cmp h.key (get_or (map (λ (y : Hold). y.key) hs) k d.key) ≡ Less = rh 0 (suc k) d.key (omega arith) (rw length-map (omega (arith, l))) in
    let there : get_or (map (λ (y : Hold). y.key) hs) k d.key ≡ (get_or hs k d).key = get_or-map (λ (y : Hold). y.key) hs k d in
    let up' : key_cmp h.key (key_at keys m.account) ≡ Less = rw (there, ← same) at up in
    let around : key_cmp h.key h.key ≡ Less = key_cmp_total.trans h.key (key_at keys m.account) h.key up' below in
    let tie : key_cmp h.key h.key ≡ Equal = tied_itself key_cmp_total h.key in
    cc)

tail_rises : (k : Key) (ks : List Key) → Rises key_cmp (k ∷ ks) → Rises key_cmp ks
tail_rises k ks r i j d l m = r (suc i) (suc j) d (omega arith) (omega (arith, m))

either : (b : Bool) (x y : ℕ) → x ≤ y → (if b then x else 0) ≤ (if b then y else 0)
either true x y l = l
either false x y l = omega arith

-- a hold of the first amount's account is at most that amount
first_most : (keys : List Key) (m : Amount) (ms : List Amount) (h : Hold) → Rises key_cmp (amount_keys keys (m ∷ ms))
    → Any (λ x. (key_at keys x.account ≡ h.key) × (h.seconds ≤ x.seconds)) (m ∷ ms) → key_at keys m.account ≡ h.key → h.seconds ≤ m.seconds
first_most keys m ms h r (zero, x, l, e, p) same = subst (λ (y : Amount). h.seconds ≤ y.seconds) (sym e) p.1
first_most keys m ms h r (suc k, x, l, e, p) same =
    let less : key_cmp (key_at keys m.account) (get_or (amount_keys keys ms) k (key_at keys x.account)) ≡ Less =
    r 0 (suc k) (key_at keys x.account) (omega arith) (rw length-map (omega (arith, l))) in
    let at : get_or (amount_keys keys ms) k (key_at keys x.account) ≡ key_at keys (get_or ms k x).account =
    get_or-map (λ (y : Amount). key_at keys y.account) ms k x in
    let there : get_or (amount_keys keys ms) k (key_at keys x.account) ≡ h.key = at ∙ ap (λ (y : Amount). key_at keys y.account) e ∙ p.0 in
    let tie : key_cmp (key_at keys m.account) (get_or (amount_keys keys ms) k (key_at keys x.account)) ≡ Equal =
    rw (there, same) (tied_itself key_cmp_total h.key) in
    cc

-- what is left stands for the holds, and is no more of any account
pub record IsLowered (keys : List Key) (ms : List Amount) (hs : List Hold) (low : List Amount) : Type 0 where
  pub stand : map (hold_of keys) low ≡ hs
  pub less : (i : ℕ) → amount_at i low ≤ amount_at i ms

pub lowered_is : (keys : List Key) (ms : List Amount) (hs : List Hold) → Rises key_cmp (amount_keys keys ms) → Rises key_cmp (map (λ h. h.key) hs)
    → AreAtMost keys ms hs → IsLowered keys ms hs (lowered_to keys ms hs)
lowered_is keys [] [] rm rh most = record { stand = refl; less = λ i. omega arith }
lowered_is keys [] (h ∷ hs) rm rh most = let any = most 0 h (omega arith) in absurd (let w = any.2 in omega (arith, w))
lowered_is keys (m ∷ ms) [] rm rh most = record { stand = refl; less = λ i. omega arith }
lowered_is keys (m ∷ ms) (h ∷ hs) rm rh most =
    by (is_key (key_at keys m.account) h.key) refl
    (λ same. lowered_is keys ms hs (tail_rises (key_at keys m.account) (amount_keys keys ms) rm) (tail_rises h.key (map (λ x. x.key) hs) rh)
    (others keys m ms hs (later_apart (key_at keys m.account) h hs rh same)
    (All-tail (λ (x : Hold). Any (λ (y : Amount). (key_at keys y.account ≡ x.key) × (x.seconds ≤ y.seconds)) (m ∷ ms)) h hs most)))
    (λ ne. lowered_is keys ms (h ∷ hs) (tail_rises (key_at keys m.account) (amount_keys keys ms) rm) rh
    (others keys m ms (h ∷ hs) (none_first keys m ms h hs rm rh most ne) most))
  where
    by : (b : Bool) → is_key (key_at keys m.account) h.key ≡ b → (key_at keys m.account ≡ h.key → IsLowered keys ms hs (lowered_to keys ms hs))
        → (key_at keys m.account ≢ h.key → IsLowered keys ms (h ∷ hs) (lowered_to keys ms (h ∷ hs)))
        → IsLowered keys (m ∷ ms) (h ∷ hs) (if b then record { account = m.account; seconds = h.seconds } ∷ lowered_to keys ms hs
        else lowered_to keys ms (h ∷ hs))
    by true e kept dropped =
        let same : key_at keys m.account ≡ h.key = is_key-true (key_at keys m.account) h.key e in
        let rest = kept same in
        let low : Amount = record { account = m.account; seconds = h.seconds } in
        let most' : h.seconds ≤ m.seconds = first_most keys m ms h rm (most 0 h (omega arith)) same in
        record {
          stand = ap (λ (k : Key). record { key = k; seconds = h.seconds } ∷ map (hold_of keys) (lowered_to keys ms hs)) same
              ∙ ap (λ (l : List Hold). h ∷ l) rest.stand;
          less = λ i.
              let a = sum_by-cons (λ (x : Amount). if x.account == i then x.seconds else 0) low (lowered_to keys ms hs) in
              let b = sum_by-cons (λ (x : Amount). if x.account == i then x.seconds else 0) m ms in
              let r = rest.less i in
              let one : (if m.account == i then h.seconds else 0) ≤ (if m.account == i then m.seconds else 0) =
              either (m.account == i) h.seconds m.seconds most' in
              omega (arith, a, b, r, one);
        }
    by false e kept dropped =
        let rest = dropped (λ same. absurd (false≢true (sym e ∙ ap (λ (k : Key). is_key k h.key) same ∙ is_key-refl h.key))) in
        record {
          stand = rest.stand;
          less = λ i. let b = sum_by-cons (λ (x : Amount). if x.account == i then x.seconds else 0) m ms in let r = rest.less i in omega (arith, b, r);
        }
