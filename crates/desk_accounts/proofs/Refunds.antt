-- Groups that are refunded were open and are closed then, so none is refunded twice.
use Rattle.std.proofs.Common.{◌≡◌, ◌≢◌, ◌∙◌, ap, sym, subst, refl, ℕ, zero, suc, ◌+◌, ◌<◌, nat_lt, Bool, true, false, cond, not, ◌&&◌, List, [], ◌∷◌}
use Rattle.std.proofs.Common.{◌++◌, length, map, filter, get_or, All, Option, Some, None, arith}
use Rattle.std.specs.Prelude.{AllPairs}
use Rattle.std.specs.List.{AllZip, Any, Contains, zip}
use Rattle.std.specs.Option.{IfSome, option_to_list}
use Rattle.std.proofs.lemmas.Bool.{false_from_ne_true}
use Rattle.std.proofs.lemmas.List.{length-map, length-append, get_or-map, get_or_default, get_or_append_left}
use Rattle.std.proofs.lemmas.List.Elements.{All-nil, All-cons, All-head, All-tail, All-weaker, Contains-get_or}
use Rattle.std.proofs.lemmas.List.Kept.{AllPairs-cons}
use Rattle.plan_base.specs.declared.number.GroupNo.{GroupNo}
use Rattle.allocations.specs.Refusals.{ipp_key}
use Rattle.desk_runs.specs.declared.group.Group.{Group}
use Rattle.desk_runs.specs.Progress.{Progress}
use Rattle.desk_runs.specs.Sound.{IsLater}
use Rattle.desk_runs.specs.States.{is_open, any_in}
use Rattle.plan_base.specs.States.{is_completed}
use Rattle.desk_runs.proofs.Opened.{open_back}
use Rattle.desk_runs.proofs.Places.{IsCountedFrom, counted_from, counted_head, counted_tail}
use Rattle.desk_events.specs.declared.reply.GroupRefund.{GroupRefund}
use Rattle.desk_core.specs.declared.desk.Submitted.{Submitted}
use Rattle.desk_core.specs.Desk.{DeskSeen}
use Rattle.desk_core.specs.Endings.{endings_of, refunds_in}
use Rattle.desk_core.specs.Holds.{groups_along, refunds_of, with_progress}
use Rattle.desk_core.specs.Kept.{IsDesk}
use Rattle.desk_core.proofs.Along.{AreAlong}
use Rattle.desk_core.proofs.WentOn.{as_submitted, are_along}
use Rattle.desk_accounts.proofs.Back.{back_in, refund_told, all_of, back_more, refunds_told}
use Rattle.desk_accounts.proofs.Known.{groups_in, group_charge}

-- ---- closed groups

-- the group with this number is there, and closed
abbrev pub IsClosedIn : List (Submitted × Group) → GroupNo → Type 0
IsClosedIn ps n = Any (λ p. (p.1.number ≡ n) × (is_open p.1 ≡ false)) ps

-- more groups leave it so
pub closed_more : (ps qs : List (Submitted × Group)) (n : GroupNo) → IsClosedIn ps n → IsClosedIn (ps ++ qs) n
closed_more ps qs n c =
    let count : length (ps ++ qs) ≡ length ps + length qs = length-append ps qs in
    let within : c.0 < length ps = c.2 in
    (c.0, c.1, omega (arith, count, within), get_or_append_left ps qs c.1 c.0 c.2 ∙ c.3, c.4)

number_in : (ps : List (Submitted × Group)) (k : ℕ) (d : Submitted × Group) → IsCountedFrom 0 (map (λ p. p.1.number.0) ps) → k < length ps
    → (get_or ps k d).1.number.0 ≡ k + 1
number_in ps k d counted l =
    let count : length (map (λ (p : Submitted × Group). p.1.number.0) ps) ≡ length ps = length-map ps (λ p. p.1.number.0) in
    let at : get_or (map (λ (p : Submitted × Group). p.1.number.0) ps) k 0 ≡ 0 + k + 1 = counted k (omega (arith, count, l)) in
    let same : get_or (map (λ (p : Submitted × Group). p.1.number.0) ps) k 0 ≡ (get_or ps k d).1.number.0 =
    get_or-map (λ (p : Submitted × Group). p.1.number.0) ps k d 0 l in
    omega (arith, at, same)

-- numbers stand once, so no group with this number is open
closed_once : (ps : List (Submitted × Group)) (n : GroupNo) → IsCountedFrom 0 (map (λ p. p.1.number.0) ps) → IsClosedIn ps n
    → All (λ p. p.1.number ≡ n → is_open p.1 ≡ false) ps
closed_once ps n counted c = λ k d l same.
    let here : (get_or ps k d).1.number.0 ≡ k + 1 = number_in ps k d counted l in
    let there : (get_or ps c.0 c.1).1.number.0 ≡ c.0 + 1 = number_in ps c.0 c.1 counted c.2 in
    let one : (get_or ps k d).1.number.0 ≡ n.0 = ap (λ (m : GroupNo). m.0) same in
    let other : (get_or ps c.0 c.1).1.number.0 ≡ n.0 = ap (λ (p : Submitted × Group). p.1.number.0) c.3 ∙ ap (λ (m : GroupNo). m.0) c.4.0 in
    let place : k ≡ c.0 = omega (arith, here, there, one, other) in
    let is : get_or ps k d ≡ c.1 = get_or_default ps k d c.1 l ∙ ap (λ (i : ℕ). get_or ps i c.1) place ∙ c.3 in
    ap (λ (p : Submitted × Group). is_open p.1) is ∙ c.4.1

-- ---- groups along

-- what holds of all groups as they were, holds of them along; and so what holds of all as they are
along_from : (P : Submitted × Group → Type 0) (ws : List Submitted) (gs hs : List Group) → All P (zip ws gs) → All (λ p. P (p.0, p.1.0)) (zip ws (zip gs hs))
along_from P [] gs hs h = All-nil (λ p. P (p.0, p.1.0))
along_from P (w ∷ ws) [] hs h = All-nil (λ p. P (p.0, p.1.0))
along_from P (w ∷ ws) (g ∷ gs) [] h = All-nil (λ p. P (p.0, p.1.0))
along_from P (w ∷ ws) (g ∷ gs) (x ∷ hs) h =
    All-cons (λ p. P (p.0, p.1.0)) (w, (g, x)) (zip ws (zip gs hs)) (All-head P (w, g) (zip ws gs) h) (along_from P ws gs hs (All-tail P (w, g) (zip ws gs) h))

along_to : (P : Submitted × Group → Type 0) (ws : List Submitted) (gs hs : List Group) → AllZip IsLater gs hs → All P (zip ws hs)
    → All (λ p. P (p.0, p.1.1)) (zip ws (zip gs hs))
along_to P [] gs hs z h = All-nil (λ p. P (p.0, p.1.1))
along_to P (w ∷ ws) [] hs z h = All-nil (λ p. P (p.0, p.1.1))
along_to P (w ∷ ws) (g ∷ gs) [] z h = absurd z
along_to P (w ∷ ws) (g ∷ gs) (x ∷ hs) z h =
    All-cons (λ p. P (p.0, p.1.1)) (w, (g, x)) (zip ws (zip gs hs)) (All-head P (w, x) (zip ws hs) h)
    (along_to P ws gs hs z.1 (All-tail P (w, x) (zip ws hs) h))

-- groups that go on stay closed
pub still_closed : (ws : List Submitted) (gs hs : List Group) (n : GroupNo) → AllZip IsLater gs hs → IsClosedIn (zip ws gs) n → IsClosedIn (zip ws hs) n
still_closed [] gs hs n z c = let l : c.0 < 0 = c.2 in absurd (omega (arith, l))
still_closed (w ∷ ws) [] hs n z c = let l : c.0 < 0 = c.2 in absurd (omega (arith, l))
still_closed (w ∷ ws) (g ∷ gs) [] n z c = absurd z
still_closed (w ∷ ws) (g ∷ gs) (x ∷ hs) n z c = by (λ r. still_closed ws gs hs n z.1 r) c.0 c.1 c.2 c.3 c.4
  where
    by : (IsClosedIn (zip ws gs) n → IsClosedIn (zip ws hs) n) → (k : ℕ) (p : Submitted × Group) → k < length (zip (w ∷ ws) (g ∷ gs))
        → get_or (zip (w ∷ ws) (g ∷ gs)) k p ≡ p → (p.1.number ≡ n) × (is_open p.1 ≡ false) → IsClosedIn (zip (w ∷ ws) (x ∷ hs)) n
    by later zero p l is h = (
      0,
      (w, x),
      omega arith,
      refl,
      (
        z.0.number ∙ ap (λ (q : Submitted × Group). q.1.number) is ∙ h.0,
        false_from_ne_true (is_open x)
            (λ o. let bad : false ≡ true = sym h.1 ∙ sym (ap (λ (q : Submitted × Group). is_open q.1) is) ∙ open_back g x z.0 o in cc),
      ),
    )
    by later (suc k) p l is h =
        let rest : IsClosedIn (zip ws hs) n = later (k, p, omega (arith, l), is, h) in
        let within : rest.0 < length (zip ws hs) = rest.2 in
        (suc rest.0, rest.1, omega (arith, within), rest.3, rest.4)

-- ---- refunds

-- a refund of a group that closes, of what it was charged
pub record IsBackOf (p : Submitted × (Group × Group)) (r : GroupRefund) : Type 0 where
  pub opened : is_open p.1.0 ≡ true
  pub closed : is_open p.1.1 ≡ false
  pub group : r.group ≡ p.1.1.number
  pub seconds : r.seconds ≡ p.0.charged

back_is : (p : Submitted × (Group × Group)) → IfSome (back_in p) (IsBackOf p)
back_is p = by (is_open p.1.0) (is_open p.1.1) (any_in is_completed p.1.1) (nat_lt 0 p.0.charged) refl refl
  where
    by : (a b c q : Bool) → is_open p.1.0 ≡ a → is_open p.1.1 ≡ b
        → IfSome
        (cond a
        (refund_told p (cond (a && not b && not c) (cond q (Some (record { key = ipp_key p.0.document.proposal; seconds = p.0.charged })) None) None))
        None)
        (IsBackOf p)
    by true false false true o n = record { opened = o; closed = n; group = refl; seconds = refl }
    by true false false false o n = tt
    by true false true q o n = tt
    by true true c q o n = tt
    by false b c q o n = tt

-- what is told of these groups
abbrev told_back : List (Submitted × (Group × Group)) → List GroupRefund
told_back ps = refunds_in (endings_of (filter all_of ps))

if_weaker : (P Q : GroupRefund → Type 0) (o : Option GroupRefund) → ((r : GroupRefund) → P r → Q r) → IfSome o P → IfSome o Q
if_weaker P Q None f h = tt
if_weaker P Q (Some r) f h = f r h

all_back : (P : GroupRefund → Type 0) (ps : List (Submitted × (Group × Group))) → All (λ p. IfSome (back_in p) P) ps → All P (told_back ps)
all_back P [] h = All-nil P
all_back P (p ∷ ps) h =
    subst (All P) (back_more p ps) (by (back_in p) (All-head (λ q. IfSome (back_in q) P) p ps h) (all_back P ps (All-tail (λ q. IfSome (back_in q) P) p ps h)))
  where
    by : (o : Option GroupRefund) → IfSome o P → All P (told_back ps) → All P (option_to_list o ++ told_back ps)
    by None i rest = rest
    by (Some r) i rest = All-cons P r (told_back ps) i rest

-- refunds are of different groups
abbrev pub AreApart : List GroupRefund → Type 0
AreApart rs = AllPairs (λ r s. r.group ≢ s.group) rs

-- with numbers above b
abbrev AreAbove : ℕ → List GroupRefund → Type 0
AreAbove b rs = All (λ r. b < r.group.0) rs × AreApart rs

apart_back : (b : ℕ) (ps : List (Submitted × (Group × Group))) → All (λ p. IsLater p.1.0 p.1.1) ps → IsCountedFrom b (map (λ p. p.1.0.number.0) ps)
    → AreAbove b (told_back ps)
apart_back b [] later counted = (All-nil (λ r. b < r.group.0), λ i j d l m. let none : j < 0 = m in absurd (omega (arith, none)))
apart_back b (p ∷ ps) later counted =
    subst (AreAbove b) (back_more p ps)
    (by (back_in p) (back_is p)
    (apart_back (b + 1) ps (All-tail (λ q. IsLater q.1.0 q.1.1) p ps later) (counted_tail b p.1.0.number.0 (map (λ q. q.1.0.number.0) ps) counted)))
  where
    by : (o : Option GroupRefund) → IfSome o (IsBackOf p) → AreAbove (b + 1) (told_back ps) → AreAbove b (option_to_list o ++ told_back ps)
    by None i rest = (All-weaker (λ r. b + 1 < r.group.0) (λ r. b < r.group.0) (λ r l. omega (arith, l)) (told_back ps) rest.0, rest.1)
    by (Some r) i rest =
        let first : p.1.0.number.0 ≡ b + 1 = counted_head b p.1.0.number.0 (map (λ q. q.1.0.number.0) ps) counted in
        let number : r.group.0 ≡ p.1.0.number.0 = ap (λ (n : GroupNo). n.0) (i.group ∙ (All-head (λ q. IsLater q.1.0 q.1.1) p ps later).number) in (
          All-cons (λ s. b < s.group.0) r (told_back ps) (omega (arith, first, number))
              (All-weaker (λ s. b + 1 < s.group.0) (λ s. b < s.group.0) (λ s l. omega (arith, l)) (told_back ps) rest.0),
          AllPairs-cons (λ s t. s.group ≢ t.group) r (told_back ps)
              (All-weaker (λ s. b + 1 < s.group.0) (λ s. r.group ≢ s.group)
              (λ s l same.
              let equal : r.group.0 ≡ s.group.0 = ap (λ (n : GroupNo). n.0) same in
              absurd (omega (arith, first, number, l, equal))) (told_back ps) rest.0) rest.1,
        )

-- ---- what refunds do to groups

-- each is of a group that was there, of its charge; of a group that was closed none is made; no two are of one group; the groups are
-- closed then, and so are those that were
pub record GivesBack (rs : List GroupRefund) (before after : List (Submitted × Group)) : Type 0 where
  pub charged : All (λ r. Contains (map group_charge before) (r.group, r.seconds)) rs
  pub fresh : (n : GroupNo) → IsClosedIn before n → All (λ r. n ≢ r.group) rs
  pub apart : AreApart rs
  pub closed : All (λ r. IsClosedIn after r.group) rs
  pub stay : (n : GroupNo) → IsClosedIn before n → IsClosedIn after n

-- no refund
pub none_back : (before after : List (Submitted × Group)) → ((n : GroupNo) → IsClosedIn before n → IsClosedIn after n) → GivesBack [] before after
none_back before after stay = record {
  charged = All-nil (λ r. Contains (map group_charge before) (r.group, r.seconds));
  fresh = λ n c. All-nil (λ r. n ≢ r.group);
  apart = λ i j d l m. let none : j < 0 = m in absurd (omega (arith, none));
  closed = All-nil (λ r. IsClosedIn after r.group);
  stay = stay;
}

-- more groups come
pub back_then : (rs : List GroupRefund) (before between after : List (Submitted × Group)) → GivesBack rs before between
    → ((n : GroupNo) → IsClosedIn between n → IsClosedIn after n)
    → GivesBack rs before after
back_then rs before between after h stay = record {
  charged = h.charged;
  fresh = h.fresh;
  apart = h.apart;
  closed = All-weaker (λ r. IsClosedIn between r.group) (λ r. IsClosedIn after r.group) (λ r c. stay r.group c) rs h.closed;
  stay = λ n c. stay n (h.stay n c);
}

pub numbered_along : (ws : List Submitted) (gs : List Group) → length ws ≡ length gs → map (λ p. p.1.number.0) (zip ws gs) ≡ map (λ g. g.number.0) gs
numbered_along [] [] n = refl
numbered_along [] (g ∷ gs) n = absurd (omega (arith, n))
numbered_along (w ∷ ws) [] n = absurd (omega (arith, n))
numbered_along (w ∷ ws) (g ∷ gs) n = ap (λ (l : List ℕ). g.number.0 ∷ l) (numbered_along ws gs (omega (arith, n)))

-- groups that go on
pub progress_back : (d : DeskSeen) (after : Progress) → IsDesk d → AllZip IsLater d.progress.groups after.groups
    → GivesBack (refunds_of d after) (groups_in d) (groups_in (with_progress after d))
progress_back d after h z =
    let ps : List (Submitted × (Group × Group)) = groups_along d after in
    let along : AreAlong 0 ps d.books.holds = are_along d after h z in
    let counted : IsCountedFrom 0 (map (λ p. p.1.number.0) (groups_in d)) =
    subst (IsCountedFrom 0) (sym (numbered_along d.groups d.progress.groups (as_submitted d h)))
    (counted_from (map (λ g. g.number.0) d.progress.groups) h.sound.numbered.groups) in
    let was : All (λ p. Contains (map group_charge (groups_in d)) (group_charge (p.0, p.1.0))) ps =
    along_from (λ p. Contains (map group_charge (groups_in d)) (group_charge p)) d.groups d.progress.groups after.groups (charges_listed (groups_in d)) in
    let is : All (λ p. Contains (groups_in (with_progress after d)) (p.0, p.1.1)) ps =
    along_to (λ p. Contains (groups_in (with_progress after d)) p) d.groups d.progress.groups after.groups z
    (λ k e l. Contains-get_or (groups_in (with_progress after d)) k e l) in
    subst (λ (rs : List GroupRefund). GivesBack rs (groups_in d) (groups_in (with_progress after d))) (refunds_told d after h z) (record {
      charged =
          all_back (λ r. Contains (map group_charge (groups_in d)) (r.group, r.seconds)) ps
          (λ k e l. charged_one (get_or ps k e) (along.later k e l) (was k e l));
      fresh = λ n c.
          let once : All (λ p. p.1.0.number ≡ n → is_open p.1.0 ≡ false) ps =
          along_from (λ p. p.1.number ≡ n → is_open p.1 ≡ false) d.groups d.progress.groups after.groups (closed_once (groups_in d) n counted c) in
          all_back (λ r. n ≢ r.group) ps (λ k e l. fresh_one n (get_or ps k e) (along.later k e l) (once k e l));
      apart = (apart_back 0 ps along.later along.counted).1;
      closed =
          all_back (λ r. IsClosedIn (groups_in (with_progress after d)) r.group) ps
          (λ k e l. closed_one (groups_in (with_progress after d)) (get_or ps k e) (is k e l));
      stay = λ n c. still_closed d.groups d.progress.groups after.groups n z c;
    })
  where
    charges_listed : (qs : List (Submitted × Group)) → All (λ p. Contains (map group_charge qs) (group_charge p)) qs
    charges_listed qs = λ k e l.
        let count : length (map group_charge qs) ≡ length qs = length-map qs group_charge in
        (k, omega (arith, count, l), get_or-map group_charge qs k e (group_charge (get_or qs k e)) l)

    charged_one : (p : Submitted × (Group × Group)) → IsLater p.1.0 p.1.1 → Contains (map group_charge (groups_in d)) (group_charge (p.0, p.1.0))
        → IfSome (back_in p) (λ r. Contains (map group_charge (groups_in d)) (r.group, r.seconds))
    charged_one p later c =
        if_weaker (IsBackOf p) (λ r. Contains (map group_charge (groups_in d)) (r.group, r.seconds)) (back_in p)
        (λ r b. subst (Contains (map group_charge (groups_in d)))
        (ap (λ (n : GroupNo). let x : GroupNo × ℕ = (n, p.0.charged) in x) (sym (b.group ∙ later.number))
        ∙ ap (λ (s : ℕ). let x : GroupNo × ℕ = (r.group, s) in x) (sym b.seconds)) c)
        (back_is p)

    fresh_one : (n : GroupNo) (p : Submitted × (Group × Group)) → IsLater p.1.0 p.1.1 → (p.1.0.number ≡ n → is_open p.1.0 ≡ false)
        → IfSome (back_in p) (λ r. n ≢ r.group)
    fresh_one n p later shut =
        if_weaker (IsBackOf p) (λ r. n ≢ r.group) (back_in p)
        (λ r b same. let bad : true ≡ false = sym b.opened ∙ shut (sym (same ∙ b.group ∙ later.number)) in cc) (back_is p)

    closed_one : (qs : List (Submitted × Group)) (p : Submitted × (Group × Group)) → Contains qs (p.0, p.1.1) → IfSome (back_in p) (λ r. IsClosedIn qs r.group)
    closed_one qs p c =
        if_weaker (IsBackOf p) (λ r. IsClosedIn qs r.group) (back_in p) (λ r b. (c.0, (p.0, p.1.1), c.1, c.2, (sym b.group, b.closed))) (back_is p)
