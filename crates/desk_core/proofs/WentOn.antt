-- A desk whose groups have gone on.
use Rattle.std.proofs.Common.{◌≡◌, ℕ, suc, ◌+◌, ◌<◌, ◌≤◌, ◌^◌, ◌==◌, true, false, List, [], ◌∷◌, ◌++◌, length, map, fold, sum_by, All, get_or, refl}
use Rattle.std.proofs.Common.{sym, ◌∙◌, ap, subst, arith, inl, inr, ◌⊎◌, Option, Some, None}
use Rattle.std.specs.List.{AllZip, zip, list_any, filter_map}
use Rattle.std.specs.Option.{IfSome}
use Rattle.std.specs.Bool.{IsTrue}
use Rattle.std.proofs.lemmas.List.Elements.{All-nil, All-cons, All-head, All-tail, length_all_zip}
use Rattle.std.proofs.lemmas.List.Sums.{sum_by-cons}
use Rattle.plan_base.specs.declared.number.GroupNo.{GroupNo}
use Rattle.plan_base.specs.declared.parts.Op.{Op}
use Rattle.plan_base.specs.Snapshot.{most_requests}
use Rattle.plan_json.specs.Moment.{last_moment}
use Rattle.plan_json.specs.Ranges.{IsBetween}
use Rattle.allocations.specs.declared.entry.Entry.{Entry}
use Rattle.allocations.specs.declared.entry.Hold.{Hold}
use Rattle.allocations.specs.declared.key.Key.{Key}
use Rattle.allocations.specs.Books.{GroupHolds, has_grant}
use Rattle.allocations.proofs.Granted.{has_grant-append}
use Rattle.desk_runs.specs.declared.group.Group.{Group}
use Rattle.desk_runs.specs.declared.group.Request.{Request}
use Rattle.desk_runs.specs.Owners.{pending_count, pending_of}
use Rattle.desk_runs.specs.Progress.{Progress}
use Rattle.desk_runs.specs.Laws.{GoesOn}
use Rattle.desk_runs.specs.Sound.{IsSound, IsLaterRequest, IsLater, is_told, AreTold}
use Rattle.desk_runs.proofs.Places.{counted_from}
use Rattle.desk_runs.proofs.Counts.{pending_sum}
use Rattle.desk_core.specs.declared.desk.Submitted.{Submitted}
use Rattle.desk_core.specs.Desk.{DeskSeen}
use Rattle.desk_core.specs.Holds.{after_group, groups_along, refund_of, refunds_of, with_progress}
use Rattle.desk_core.specs.Kept.{LastsADay, IsAlong, IsHeldFor, IsDesk}
use Rattle.desk_core.specs.Endings.{endings_of, refunds_in, told_along}
use Rattle.desk_core.proofs.Along.{all_seconds, AreAlong, EndsAll, ends_all}
use Rattle.desk_core.proofs.ToldAlong.{refunds_all, few_endings, IsKeyed, AreAfter, after_all}

-- ---- groups as they were submitted, as they were, and as they are

held_all : (ws : List Submitted) (gs hs : List Group) (es : List GroupHolds) → length ws ≡ length gs → AllZip IsLater gs hs → AllZip IsHeldFor (zip ws gs) es
    → AllZip (λ p e. IsHeldFor (p.0, p.1.0) e) (zip ws (zip gs hs)) es
held_all [] gs hs [] n z h = tt
held_all [] gs hs (e ∷ es) n z h = absurd h
held_all (w ∷ ws) [] hs es n z h = absurd (omega arith)
held_all (w ∷ ws) (g ∷ gs) [] es n z h = absurd z
held_all (w ∷ ws) (g ∷ gs) (x ∷ hs) [] n z h = absurd h
held_all (w ∷ ws) (g ∷ gs) (x ∷ hs) (e ∷ es) n z h = (h.0, held_all ws gs hs es (omega arith) z.1 h.1)

later_all : (ws : List Submitted) (gs hs : List Group) → AllZip IsLater gs hs → All (λ p. IsLater p.1.0 p.1.1) (zip ws (zip gs hs))
later_all [] gs hs z = All-nil (λ p. IsLater p.1.0 p.1.1)
later_all (w ∷ ws) [] hs z = All-nil (λ p. IsLater p.1.0 p.1.1)
later_all (w ∷ ws) (g ∷ gs) [] z = absurd z
later_all (w ∷ ws) (g ∷ gs) (x ∷ hs) z = All-cons (λ p. IsLater p.1.0 p.1.1) (w, (g, x)) (zip ws (zip gs hs)) z.0 (later_all ws gs hs z.1)

numbers_all : (ws : List Submitted) (gs hs : List Group) → length ws ≡ length gs → AllZip IsLater gs hs
    → map (λ p. p.1.0.number.0) (zip ws (zip gs hs)) ≡ map (λ g. g.number.0) gs
numbers_all [] [] hs n z = refl
numbers_all [] (g ∷ gs) hs n z = absurd (omega arith)
numbers_all (w ∷ ws) [] hs n z = refl
numbers_all (w ∷ ws) (g ∷ gs) [] n z = absurd z
numbers_all (w ∷ ws) (g ∷ gs) (x ∷ hs) n z = ap (λ (l : List ℕ). g.number.0 ∷ l) (numbers_all ws gs hs (omega arith) z.1)

others_all : (cs : List Group) (ws : List Submitted) (gs hs : List Group) → AllZip IsLater gs hs → AllZip (λ g h. is_told cs g ≡ false → h ≡ g) gs hs
    → All (λ p. is_told cs p.1.1 ≡ false → p.1.1 ≡ p.1.0) (zip ws (zip gs hs))
others_all cs [] gs hs z o = All-nil (λ p. is_told cs p.1.1 ≡ false → p.1.1 ≡ p.1.0)
others_all cs (w ∷ ws) [] hs z o = All-nil (λ p. is_told cs p.1.1 ≡ false → p.1.1 ≡ p.1.0)
others_all cs (w ∷ ws) (g ∷ gs) [] z o = absurd z
others_all cs (w ∷ ws) (g ∷ gs) (x ∷ hs) z o =
    All-cons (λ p. is_told cs p.1.1 ≡ false → p.1.1 ≡ p.1.0) (w, (g, x)) (zip ws (zip gs hs))
    (λ no. o.0 (ap (λ (n : GroupNo). list_any (λ c. c.number.0 == n.0) cs) (sym z.0.number) ∙ no)) (others_all cs ws gs hs z.1 o.1)

pairs_all : (ws : List Submitted) (gs hs : List Group) → length ws ≡ length gs → map (λ p. p.1) (zip ws (zip gs hs)) ≡ zip gs hs
pairs_all [] [] hs n = refl
pairs_all [] (g ∷ gs) hs n = absurd (omega arith)
pairs_all (w ∷ ws) [] hs n = absurd (omega arith)
pairs_all (w ∷ ws) (g ∷ gs) [] n = refl
pairs_all (w ∷ ws) (g ∷ gs) (x ∷ hs) n = ap (λ (l : List (Group × Group)). (g, x) ∷ l) (pairs_all ws gs hs (omega arith))

pending_all : (ws : List Submitted) (gs hs : List Group) → sum_by (λ p. pending_of p.1.0) (zip ws (zip gs hs)) ≤ sum_by pending_of gs
pending_all [] gs hs = omega arith
pending_all (w ∷ ws) [] hs = omega arith
pending_all (w ∷ ws) (g ∷ gs) [] = omega arith
pending_all (w ∷ ws) (g ∷ gs) (x ∷ hs) =
    let rest : sum_by (λ p. pending_of p.1.0) (zip ws (zip gs hs)) ≤ sum_by pending_of gs = pending_all ws gs hs in
    let a = sum_by-cons (λ (p : Submitted × (Group × Group)). pending_of p.1.0) (w, (g, x)) (zip ws (zip gs hs)) in
    let b = sum_by-cons pending_of g gs in
    omega (arith, rest, a, b)

-- as many as were submitted
pub as_submitted : (d : DeskSeen) → IsDesk d → length d.groups ≡ length d.progress.groups
as_submitted d h = as_many (length d.network.registry.targets) d.groups d.progress.groups h.along
  where
    as_many : (targets : ℕ) (ws : List Submitted) (gs : List Group) → AllZip (IsAlong targets) ws gs → length ws ≡ length gs
    as_many targets [] [] a = refl
    as_many targets [] (g ∷ gs) a = absurd a
    as_many targets (w ∷ ws) [] a = absurd a
    as_many targets (w ∷ ws) (g ∷ gs) a = ap suc (as_many targets ws gs a.1)

pub are_along : (d : DeskSeen) (after : Progress) → IsDesk d → AllZip IsLater d.progress.groups after.groups → AreAlong 0 (groups_along d after) d.books.holds
are_along d after h z = record {
  held = held_all d.groups d.progress.groups after.groups d.books.holds (as_submitted d h) z h.held;
  later = later_all d.groups d.progress.groups after.groups z;
  counted = subst (λ (l : List ℕ). (i : ℕ) → i < length l → get_or l i 0 ≡ 0 + i + 1)
      (sym (numbers_all d.groups d.progress.groups after.groups (as_submitted d h) z))
      (counted_from (map (λ g. g.number.0) d.progress.groups) h.sound.numbered.groups);
}

-- ---- what ends

-- the books then are those that the endings leave of the groups that are told
pub ends_of : (d : DeskSeen) (after : Progress) (cs : List Group) → IsDesk d → AllZip IsLater d.progress.groups after.groups
    → AreTold d.progress.groups cs after.groups
    → all_seconds d.books ≤ 10 ^ 18 → EndsAll d.books (groups_along d after) (told_along cs d after)
ends_of d after cs h z told few =
    ends_all (λ p. is_told cs p.1.1) 0 d.books.entries [] (groups_along d after) d.books.holds (All-nil (λ x. x.group.0 ≤ 0)) (are_along d after h z)
    (others_all cs d.groups d.progress.groups after.groups z told.others) few

-- and what is refunded is told
pub refunds_are : (d : DeskSeen) (after : Progress) (cs : List Group) → IsDesk d → AllZip IsLater d.progress.groups after.groups
    → AreTold d.progress.groups cs after.groups → refunds_in (endings_of (told_along cs d after)) ≡ refunds_of d after
refunds_are d after cs h z told =
    refunds_all (λ p. is_told cs p.1.1) 0 d.books.entries [] (groups_along d after) d.books.holds (All-nil (λ x. x.group.0 ≤ 0)) (are_along d after h z)
    (others_all cs d.groups d.progress.groups after.groups z told.others)
    ∙ ap (filter_map (refund_of d.books)) (pairs_all d.groups d.progress.groups after.groups (as_submitted d h))

-- no more than may be pending
pub few_of : (d : DeskSeen) (after : Progress) (cs : List Group) → IsDesk d → length (endings_of (told_along cs d after)) ≤ 1024
few_of d after cs h =
    let a = few_endings (λ p. is_told cs p.1.1) (groups_along d after) in
    let b = pending_all d.groups d.progress.groups after.groups in
    let c = pending_sum d.progress.groups in
    let most : pending_count d.progress.groups ≤ 1024 = h.pending in
    omega (arith, a, b, c, most)

-- ---- the desk then

asked_then : (qs rs : List Request) → AllZip IsLaterRequest qs rs → All LastsADay qs → All LastsADay rs
asked_then [] [] z h = All-nil LastsADay
asked_then [] (r ∷ rs) z h = absurd z
asked_then (q ∷ qs) [] z h = absurd z
asked_then (q ∷ qs) (r ∷ rs) z h = All-cons LastsADay r rs (subst (λ (n : ℕ). IsBetween 1 86400 n) (sym z.0.seconds) (All-head LastsADay q qs h))
    (asked_then qs rs z.1 (All-tail LastsADay q qs h))

pub along_then : (targets : ℕ) (w : Submitted) (g h : Group) → IsAlong targets w g → IsLater g h → IsAlong targets w h
along_then targets w g h a later =
    let same : length g.requests ≡ length h.requests = length_all_zip IsLaterRequest g.requests h.requests later.requests in
    record {
      document = a.document;
      count = a.count ∙ same;
      shape = subst (λ (n : ℕ). IsBetween 1 (most_requests h.op) n) same
          (subst (λ (op : Op). IsBetween 1 (most_requests op) (length g.requests)) (sym later.op) a.shape);
      wanted = a.wanted;
      asked = asked_then g.requests h.requests later.requests a.asked;
    }

all_along : (targets : ℕ) (ws : List Submitted) (gs hs : List Group) → AllZip (IsAlong targets) ws gs → AllZip IsLater gs hs → AllZip (IsAlong targets) ws hs
all_along targets [] [] [] a z = tt
all_along targets [] [] (x ∷ hs) a z = absurd z
all_along targets [] (g ∷ gs) hs a z = absurd a
all_along targets (w ∷ ws) [] hs a z = absurd a
all_along targets (w ∷ ws) (g ∷ gs) [] a z = absurd z
all_along targets (w ∷ ws) (g ∷ gs) (x ∷ hs) a z = (along_then targets w g x a.0 z.0, all_along targets ws gs hs a.1 z.1)

held_now : (ws : List Submitted) (gs hs : List Group) (es : List GroupHolds) → length ws ≡ length gs → AllZip IsLater gs hs
    → AllZip (λ p e. IsHeldFor (p.0, p.1.1) e) (zip ws (zip gs hs)) es → AllZip IsHeldFor (zip ws hs) es
held_now [] gs hs [] n z h = tt
held_now [] gs hs (e ∷ es) n z h = absurd h
held_now (w ∷ ws) [] hs es n z h = absurd (omega arith)
held_now (w ∷ ws) (g ∷ gs) [] es n z h = absurd z
held_now (w ∷ ws) (g ∷ gs) (x ∷ hs) [] n z h = absurd h
held_now (w ∷ ws) (g ∷ gs) (x ∷ hs) (e ∷ es) n z h = (h.0, held_now ws gs hs es (omega arith) z.1 h.1)

granted_all : (xs more : List Entry) (es others : List GroupHolds) → AllZip IsKeyed es others → All (λ g. All (λ h. IsTrue (has_grant xs h.key)) g.holds) es
    → All (λ g. All (λ h. IsTrue (has_grant (xs ++ more) h.key)) g.holds) others
granted_all xs more [] [] z h = All-nil (λ g. All (λ h. IsTrue (has_grant (xs ++ more) h.key)) g.holds)
granted_all xs more [] (x ∷ others) z h = absurd z
granted_all xs more (e ∷ es) [] z h = absurd z
granted_all xs more (e ∷ es) (x ∷ others) z h =
    All-cons (λ g. All (λ h. IsTrue (has_grant (xs ++ more) h.key)) g.holds) x others
    (λ k d l.
    let any = z.0 k d l in
    let there : IsTrue (has_grant xs (get_or e.holds any.0 any.1).key) =
    All-head (λ g. All (λ h. IsTrue (has_grant xs h.key)) g.holds) e es h any.0 any.1 any.2 in
    has_grant-append xs more (get_or x.holds k d).key (subst (λ (key : Key). IsTrue (has_grant xs key)) (ap (λ (o : Hold). o.key) any.3 ∙ any.4) there))
    (granted_all xs more es others z.1 (All-tail (λ g. All (λ h. IsTrue (has_grant xs h.key)) g.holds) e es h))

charged_one : (xs more : List Entry) (o n : Option Hold) → (n ≡ o) ⊎ (n ≡ None) → IfSome o (λ h. IsTrue (has_grant xs h.key))
    → IfSome n (λ h. IsTrue (has_grant (xs ++ more) h.key))
charged_one xs more o n (inl same) h = subst (λ (x : Option Hold). IfSome x (λ y. IsTrue (has_grant (xs ++ more) y.key))) (sym same) (by o h)
  where
    by : (x : Option Hold) → IfSome x (λ y. IsTrue (has_grant xs y.key)) → IfSome x (λ y. IsTrue (has_grant (xs ++ more) y.key))
    by None e = tt
    by (Some y) e = has_grant-append xs more y.key e
charged_one xs more o n (inr none) h = subst (λ (x : Option Hold). IfSome x (λ y. IsTrue (has_grant (xs ++ more) y.key))) (sym none) tt

charged_all : (xs more : List Entry) (es others : List GroupHolds) → AllZip (λ e x. (x.ipp ≡ e.ipp) ⊎ (x.ipp ≡ None)) es others
    → All (λ g. IfSome g.ipp (λ h. IsTrue (has_grant xs h.key))) es → All (λ g. IfSome g.ipp (λ h. IsTrue (has_grant (xs ++ more) h.key))) others
charged_all xs more [] [] z h = All-nil (λ g. IfSome g.ipp (λ h. IsTrue (has_grant (xs ++ more) h.key)))
charged_all xs more [] (x ∷ others) z h = absurd z
charged_all xs more (e ∷ es) [] z h = absurd z
charged_all xs more (e ∷ es) (x ∷ others) z h =
    All-cons (λ g. IfSome g.ipp (λ h. IsTrue (has_grant (xs ++ more) h.key))) x others
    (charged_one xs more e.ipp x.ipp z.0 (All-head (λ g. IfSome g.ipp (λ h. IsTrue (has_grant xs h.key))) e es h))
    (charged_all xs more es others z.1 (All-tail (λ g. IfSome g.ipp (λ h. IsTrue (has_grant xs h.key))) e es h))

-- a desk whose groups have gone on is one
pub progress_keeps : (d : DeskSeen) (after : Progress) → IsDesk d → IsSound after → GoesOn d.progress after → after.len ≡ d.progress.len
    → after.moment.0 ≤ last_moment
    → IsDesk (with_progress after d)
progress_keeps d after h sound on len moment =
    let then : AreAfter d.books (fold after_group d.books (groups_along d after)) (groups_along d after) [] d.books.holds =
    after_all 0 d.books.entries [] (groups_along d after) d.books.holds (All-nil (λ x. x.group.0 ≤ 0)) (are_along d after h on.later) in
    record {
      opening = h.opening;
      len = len ∙ h.len;
      moment = moment;
      sound = sound;
      along = all_along (length d.network.registry.targets) d.groups d.progress.groups after.groups h.along on.later;
      pending = let a : pending_count after.groups ≤ pending_count d.progress.groups = on.pending in
          let b : pending_count d.progress.groups ≤ 1024 = h.pending in omega (arith, a, b);
      once = on.once h.once;
      held = subst (AllZip IsHeldFor (zip d.groups after.groups)) (sym then.holds)
          (held_now d.groups d.progress.groups after.groups then.others (as_submitted d h) on.later then.held);
      granted =
          subst (λ (xs : List Entry). All (λ g. All (λ x. IsTrue (has_grant xs x.key)) g.holds) (with_progress after d).books.holds) (sym then.entries)
          (subst (All (λ g. All (λ x. IsTrue (has_grant (d.books.entries ++ then.more) x.key)) g.holds)) (sym then.holds)
          (granted_all d.books.entries then.more d.books.holds then.others then.keyed h.granted));
      charged =
          subst (λ (xs : List Entry). All (λ g. IfSome g.ipp (λ x. IsTrue (has_grant xs x.key))) (with_progress after d).books.holds) (sym then.entries)
          (subst (All (λ g. IfSome g.ipp (λ x. IsTrue (has_grant (d.books.entries ++ then.more) x.key)))) (sym then.holds)
          (charged_all d.books.entries then.more d.books.holds then.others then.charged h.charged));
      closures = h.closures;
      published = h.published;
    }

-- no seconds are added
pub progress_seconds : (d : DeskSeen) (after : Progress) → IsDesk d → AllZip IsLater d.progress.groups after.groups → all_seconds d.books ≤ 10 ^ 18
    → all_seconds (with_progress after d).books ≤ all_seconds d.books
progress_seconds d after h z few =
    (ends_all (λ p. true) 0 d.books.entries [] (groups_along d after) d.books.holds (All-nil (λ x. x.group.0 ≤ 0)) (are_along d after h z)
    (λ k e l no. let bad : true ≡ false = no in cc) few).seconds
