-- The books, once groups have gone on.
use Rattle.std.proofs.Common.{◌≡◌, ◌≢◌, ℕ, ◌+◌, ◌<◌, ◌≤◌, ◌^◌, Bool, true, false, cond, not, ◌&&◌, List, [], ◌∷◌, ◌++◌, length, map, filter, fold, All}
use Rattle.std.proofs.Common.{get_or, refl, sym, ◌∙◌, ap, subst, arith, inl, inr, Option, Some, None}
use Rattle.std.specs.List.{AllZip, Any}
use Rattle.std.specs.Option.{option_to_list, option_map_or, IfSome}
use Rattle.std.proofs.lemmas.Bool.{cases_Bool, and_parts, and_cases}
use Rattle.std.proofs.lemmas.List.{append-nil, append_assoc}
use Rattle.std.proofs.lemmas.List.Elements.{All-nil, All-cons, All-head, All-tail, All-append, All-weaker}
use Rattle.std.proofs.lemmas.List.Sums.{sum_by-append}
use Rattle.plan_base.specs.declared.number.GroupNo.{GroupNo}
use Rattle.allocations.specs.declared.entry.Entry.{Entry}
use Rattle.allocations.specs.declared.entry.Hold.{Hold}
use Rattle.allocations.specs.Books.{Books, GroupHolds, total_seconds}
use Rattle.allocations.specs.Changes.{ipp_of, refund_entry, with_holds, without_ipp, released}
use Rattle.allocations.specs.Ledger.{seconds_of_holds}
use Rattle.desk_runs.specs.declared.group.Group.{Group}
use Rattle.desk_runs.specs.States.{is_open, any_in}
use Rattle.plan_base.specs.States.{is_completed}
use Rattle.desk_runs.specs.Sound.{IsLater}
use Rattle.desk_runs.proofs.Places.{IsCountedFrom, counted_head, counted_tail}
use Rattle.desk_core.specs.declared.desk.Submitted.{Submitted}
use Rattle.desk_core.specs.Holds.{held_by, is_refunded, after_group}
use Rattle.desk_core.specs.Kept.{standing, IsHeldFor}
use Rattle.desk_core.specs.Endings.{ending_of, endings_of, ended, CanEnd, CanEndAll}
use Rattle.desk_core.proofs.Fewer.{IsLess, group_less}
pub use Rattle.desk_core.proofs.OneAlong.{
  books_at,
  ipp_at,
  entry_after,
  more_after,
  IsThere,
  after_at,
  ended_at,
  charge_in,
  seconds_in,
  all_seconds,
  seconds_at,
  total_at,
  no_more_at,
  released_at,
}

-- ---- all groups

-- groups from number b + 1 on, with their entries, that have gone on
pub record AreAlong (b : ℕ) (ps : List (Submitted × (Group × Group))) (es : List GroupHolds) : Type 0 where
  pub held : AllZip (λ p e. IsHeldFor (p.0, p.1.0) e) ps es
  pub later : All (λ p. IsLater p.1.0 p.1.1) ps
  pub counted : IsCountedFrom b (map (λ p. p.1.0.number.0) ps)

pub along_tail : (b : ℕ) (p : Submitted × (Group × Group)) (ps : List (Submitted × (Group × Group))) (e : GroupHolds) (es : List GroupHolds)
    → AreAlong b (p ∷ ps) (e ∷ es) → AreAlong (b + 1) ps es
along_tail b p ps e es h = record {
  held = h.held.1;
  later = All-tail (λ q. IsLater q.1.0 q.1.1) p ps h.later;
  counted = counted_tail b p.1.0.number.0 (map (λ q. q.1.0.number.0) ps) h.counted;
}

-- their entries have other numbers than those before
above : (b : ℕ) (ps : List (Submitted × (Group × Group))) (es : List GroupHolds) → AllZip (λ p e. IsHeldFor (p.0, p.1.0) e) ps es
    → IsCountedFrom b (map (λ p. p.1.0.number.0) ps) → All (λ x. b < x.group.0) es
above b [] [] h c = All-nil (λ x. b < x.group.0)
above b [] (e ∷ es) h c = absurd h
above b (p ∷ ps) [] h c = absurd h
above b (p ∷ ps) (e ∷ es) h c =
    let first : p.1.0.number.0 ≡ b + 1 = counted_head b p.1.0.number.0 (map (λ q. q.1.0.number.0) ps) c in
    let same : e.group.0 ≡ p.1.0.number.0 = ap (λ (n : GroupNo). n.0) h.0.group in
    All-cons (λ x. b < x.group.0) e es (omega arith)
    (All-weaker (λ x. b + 1 < x.group.0) (λ x. b < x.group.0) (λ x l. omega arith) es
    (above (b + 1) ps es h.1 (counted_tail b p.1.0.number.0 (map (λ q. q.1.0.number.0) ps) c)))

pub there_at : (b : ℕ) (front : List GroupHolds) (p : Submitted × (Group × Group)) (ps : List (Submitted × (Group × Group)))
    (e : GroupHolds) (es : List GroupHolds)
    → All (λ x. x.group.0 ≤ b) front → AreAlong b (p ∷ ps) (e ∷ es) → IsThere p front e es
there_at b front p ps e es low h =
    let later : IsLater p.1.0 p.1.1 = All-head (λ q. IsLater q.1.0 q.1.1) p ps h.later in
    let first : p.1.0.number.0 ≡ b + 1 = counted_head b p.1.0.number.0 (map (λ q. q.1.0.number.0) ps) h.counted in
    let number : p.1.1.number.0 ≡ p.1.0.number.0 = ap (λ (n : GroupNo). n.0) later.number in
    record {
      before = All-weaker (λ x. x.group.0 ≤ b) (λ x. x.group.0 ≢ p.1.1.number.0) (λ x l same. absurd (omega arith)) front low;
      here = h.held.0.group ∙ sym later.number;
      after = All-weaker (λ x. b + 1 < x.group.0) (λ x. x.group.0 ≢ p.1.1.number.0) (λ x l same. absurd (omega arith)) es
          (above (b + 1) ps es h.held.1 (counted_tail b p.1.0.number.0 (map (λ q. q.1.0.number.0) ps) h.counted));
    }

pub moved_at : (b : ℕ) (xs : List Entry) (front : List GroupHolds) (p : Submitted × (Group × Group)) (ps : List (Submitted × (Group × Group)))
    (e : GroupHolds) (es : List GroupHolds) → All (λ x. x.group.0 ≤ b) front → AreAlong b (p ∷ ps) (e ∷ es)
    → after_group (books_at xs front (e ∷ es)) p ≡ books_at (xs ++ more_after p e) (front ++ entry_after p e ∷ []) es
moved_at b xs front p ps e es low h =
    after_at p xs front e es (there_at b front p ps e es low h)
    ∙ ap (λ (l : List GroupHolds). let c : Books = record { entries = xs ++ more_after p e; holds = l } in
    c) (sym (append_assoc front (entry_after p e ∷ []) es))

pub group_after : (p : Submitted × (Group × Group)) (e : GroupHolds) → (entry_after p e).group ≡ e.group
group_after p e = by (is_open p.1.0) (is_refunded p.1.0 p.1.1)
  where
    by : (a b : Bool) → (cond a (cond b (without_ipp (with_holds (held_by p.0 p.1.1) e)) (with_holds (held_by p.0 p.1.1) e)) e).group ≡ e.group
    by true true = refl
    by true false = refl
    by false b = refl

-- the entries so far have the numbers so far
pub low_at : (b : ℕ) (front : List GroupHolds) (p : Submitted × (Group × Group)) (ps : List (Submitted × (Group × Group))) (e : GroupHolds)
    (es : List GroupHolds) (x : GroupHolds) → All (λ y. y.group.0 ≤ b) front → AreAlong b (p ∷ ps) (e ∷ es) → x.group ≡ e.group
    → All (λ y. y.group.0 ≤ b + 1) (front ++ x ∷ [])
low_at b front p ps e es x low h same =
    let first : p.1.0.number.0 ≡ b + 1 = counted_head b p.1.0.number.0 (map (λ q. q.1.0.number.0) ps) h.counted in
    let number : x.group.0 ≡ p.1.0.number.0 = ap (λ (n : GroupNo). n.0) (same ∙ h.held.0.group) in
    All-append (λ y. y.group.0 ≤ b + 1) front (x ∷ []) (All-weaker (λ y. y.group.0 ≤ b) (λ y. y.group.0 ≤ b + 1) (λ y l. omega arith) front low)
    (All-cons (λ y. y.group.0 ≤ b + 1) x [] (omega arith) (All-nil (λ y. y.group.0 ≤ b + 1)))

-- ---- what the ledger asks for

get_at : (front : List GroupHolds) (e : GroupHolds) (es : List GroupHolds) → get_or (front ++ e ∷ es) (length front) e ≡ e
get_at [] e es = refl
get_at (x ∷ front) e es = get_at front e es

long_at : (front : List GroupHolds) (e : GroupHolds) (es : List GroupHolds) → length front < length (front ++ e ∷ es)
long_at [] e es = omega arith
long_at (x ∷ front) e es = let rest : length front < length (front ++ e ∷ es) = long_at front e es in omega arith

if_back : (P : Hold → Type 0) (b : Bool) (o : Option Hold) → ((h : Hold) → o ≡ Some h → P h) → IfSome (cond b o None) P
if_back P true (Some h) f = f h refl
if_back P true None f = tt
if_back P false o f = tt

can_at : (p : Submitted × (Group × Group)) (xs : List Entry) (front : List GroupHolds) (e : GroupHolds) (es : List GroupHolds) → IsThere p front e es
    → is_open p.1.0 ≡ true → IsLater p.1.0 p.1.1 → IsHeldFor (p.0, p.1.0) e
    → all_seconds (books_at xs front (e ∷ es)) ≤ 10 ^ 18 → CanEnd (books_at xs front (e ∷ es)) (ending_of p)
can_at p xs front e es t opened later held few =
    let n : GroupNo = p.1.1.number in
    let hs : List Hold = held_by p.0 p.1.1 in
    let o : Option Hold = standing p.0.document.proposal p.0.charged in
    let less : IsLess hs (held_by p.0 p.1.0) = group_less p.0 p.1.0 p.1.1 later in
    let ipp : e.ipp ≡ o = held.charge opened in
    let books : released n hs (books_at xs front (e ∷ es)) ≡ books_at xs front (with_holds hs e ∷ es) = released_at p xs front e es hs t in
    record {
      rising = less.rising;
      at_most = λ k d l. (
        length front,
        e,
        long_at front e es,
        get_at front e es,
        (t.here, subst (Any (λ x. (x.key ≡ (get_or hs k d).key) × ((get_or hs k d).seconds ≤ x.seconds))) (sym held.holds) (less.within k d l)),
      );
      stands = if_back (λ h. ipp_of n (released n hs (books_at xs front (e ∷ es))).holds ≡ Some h) (is_refunded p.1.0 p.1.1) o
          (λ h is. ap (λ (b : Books). ipp_of n b.holds) books ∙ ipp_at n front (with_holds hs e) es t.before t.here ∙ ipp ∙ is);
      bound = if_back (λ h. total_seconds (released n hs (books_at xs front (e ∷ es))) + h.seconds ≤ 10 ^ 18) (is_refunded p.1.0 p.1.1) o
          (λ h is.
          let charge : charge_in e ≡ h.seconds = ap (λ (x : Option Hold). option_map_or (λ y. y.seconds) x 0) (ipp ∙ is) in
          let now = ap total_seconds books in
          let total = total_at xs front (with_holds hs e) es in
          let before = seconds_at xs front e es in
          let fewer : seconds_of_holds hs ≤ seconds_of_holds (held_by p.0 p.1.0) = less.seconds in
          let same : seconds_of_holds e.holds ≡ seconds_of_holds (held_by p.0 p.1.0) = ap seconds_of_holds held.holds in
          omega (arith, charge, now, total, before, fewer, same, few));
    }

-- ---- a group that is passed by

pub refunded_self : (a c : Bool) → (a && not a && c) ≡ false
refunded_self true c = refl
refunded_self false c = refl

self_entry : (w : Submitted) (g : Group) (e : GroupHolds) → IsHeldFor (w, g) e → (entry_after (w, (g, g)) e ≡ e) × (more_after (w, (g, g)) e ≡ [])
self_entry w g e held =
    let no : is_refunded g g ≡ false = refunded_self (is_open g) (not (any_in is_completed g)) in
    let same : with_holds (held_by w g) e ≡ e = ap (λ (hs : List Hold). with_holds hs e) (sym held.holds) in (
      ap (λ (b : Bool). cond (is_open g) (cond b (without_ipp (with_holds (held_by w g) e)) (with_holds (held_by w g) e)) e) no
          ∙ ap (λ (x : GroupHolds). cond (is_open g) x e) same ∙ one (is_open g) e,
      ap (λ (b : Bool). cond (is_open g) (cond b (map (refund_entry g.number) (option_to_list e.ipp)) []) []) no ∙ none (is_open g),
    )
  where
    one : (b : Bool) (x : GroupHolds) → cond b x x ≡ x
    one true x = refl
    one false x = refl

    none : (b : Bool) → (let l : List Entry = cond b [] [] in l) ≡ []
    none true = refl
    none false = refl

passed_by : (p : Submitted × (Group × Group)) (t : Bool) (e : GroupHolds) → (t && is_open p.1.0) ≡ false → (t ≡ false → p.1.1 ≡ p.1.0)
    → IsHeldFor (p.0, p.1.0) e
    → (entry_after p e ≡ e) × (more_after p e ≡ [])
passed_by p t e neither other held = elim (and_cases t (is_open p.1.0) neither) [
  | inl untold ↦
      let self = self_entry p.0 p.1.0 e held in
      (ap (λ (h : Group). entry_after (p.0, (p.1.0, h)) e) (other untold) ∙ self.0, ap (λ (h : Group). more_after (p.0, (p.1.0, h)) e) (other untold) ∙ self.1)
  | inr closed ↦ (
    ap (λ (b : Bool). cond b (cond (is_refunded p.1.0 p.1.1) (without_ipp (with_holds (held_by p.0 p.1.1) e)) (with_holds (held_by p.0 p.1.1) e)) e) closed,
    ap (λ (b : Bool). cond b (cond (is_refunded p.1.0 p.1.1) (map (refund_entry p.1.1.number) (option_to_list e.ipp)) []) []) closed,
  )
]

-- ---- endings

pub ending_more : (t : Submitted × (Group × Group) → Bool) (p : Submitted × (Group × Group)) (ps : List (Submitted × (Group × Group)))
    → t p ≡ true → is_open p.1.0 ≡ true
    → endings_of (filter t (p ∷ ps)) ≡ ending_of p ∷ endings_of (filter t ps)
ending_more t p ps told opened =
    ap (λ (b : Bool). endings_of (cond b (p ∷ filter t ps) (filter t ps))) told
    ∙ ap (λ (b : Bool). map ending_of (cond b (p ∷ filter (λ q. is_open q.1.0) (filter t ps)) (filter (λ q. is_open q.1.0) (filter t ps)))) opened

pub ending_none : (t : Submitted × (Group × Group) → Bool) (p : Submitted × (Group × Group)) (ps : List (Submitted × (Group × Group)))
    → (t p && is_open p.1.0) ≡ false
    → endings_of (filter t (p ∷ ps)) ≡ endings_of (filter t ps)
ending_none t p ps neither = elim (and_cases (t p) (is_open p.1.0) neither) [
  | inl untold ↦ ap (λ (b : Bool). endings_of (cond b (p ∷ filter t ps) (filter t ps))) untold
  | inr closed ↦ either (t p) (ap
      (λ (b : Bool). map ending_of (cond b (p ∷ filter (λ q. is_open q.1.0) (filter t ps)) (filter (λ q. is_open q.1.0) (filter t ps)))) closed)
]
  where
    either : (b : Bool) → endings_of (p ∷ filter t ps) ≡ endings_of (filter t ps)
        → endings_of (cond b (p ∷ filter t ps) (filter t ps)) ≡ endings_of (filter t ps)
    either true e = e
    either false e = refl

-- ---- all of it

-- the books once these groups have gone on are those that some of their endings leave, which the ledger can make, and no
-- seconds are added
pub record EndsAll (books : Books) (ps some : List (Submitted × (Group × Group))) : Type 0 where
  pub same : fold after_group books ps ≡ fold ended books (endings_of some)
  pub can : CanEndAll books (endings_of some)
  pub seconds : all_seconds (fold after_group books ps) ≤ all_seconds books

pub ends_all : (t : Submitted × (Group × Group) → Bool) (b : ℕ) (xs : List Entry) (front : List GroupHolds) (ps : List (Submitted × (Group × Group)))
    (es : List GroupHolds) → All (λ x. x.group.0 ≤ b) front → AreAlong b ps es
    → All (λ p. t p ≡ false → p.1.1 ≡ p.1.0) ps → all_seconds (books_at xs front es) ≤ 10 ^ 18 → EndsAll (books_at xs front es) ps (filter t ps)
ends_all t b xs front [] [] low h others few = record { same = refl; can = tt; seconds = omega arith }
ends_all t b xs front [] (e ∷ es) low h others few = absurd h.held
ends_all t b xs front (p ∷ ps) [] low h others few = absurd h.held
ends_all t b xs front (p ∷ ps) (e ∷ es) low h others few =
    let there : IsThere p front e es = there_at b front p ps e es low h in
    let later : IsLater p.1.0 p.1.1 = All-head (λ q. IsLater q.1.0 q.1.1) p ps h.later in
    let held : IsHeldFor (p.0, p.1.0) e = h.held.0 in
    let x : GroupHolds = entry_after p e in
    let ys : List Entry = xs ++ more_after p e in
    let before : Books = books_at xs front (e ∷ es) in
    let between : Books = books_at ys (front ++ x ∷ []) es in
    let reach : books_at ys front (x ∷ es) ≡ between = ap (λ (l : List GroupHolds). let c : Books = record { entries = ys; holds = l } in
    c) (sym (append_assoc front (x ∷ []) es)) in
    let moved : after_group before p ≡ between = moved_at b xs front p ps e es low h in
    let low_too : All (λ y. y.group.0 ≤ b + 1) (front ++ x ∷ []) = low_at b front p ps e es x low h (group_after p e) in
    let fewer : all_seconds between ≤ all_seconds before =
    let a = ap all_seconds reach in
    let c = seconds_at ys front x es in
    let d = seconds_at xs front e es in
    let f = sum_by-append (λ (y : Entry). y.seconds) xs (more_after p e) in
    let g = no_more_at p e later held in
    omega (arith, a, c, d, f, g) in
    let rest : EndsAll between ps (filter t ps) = ends_all t (b + 1) ys (front ++ x ∷ []) ps es low_too (along_tail b p ps e es h)
    (All-tail (λ q. t q ≡ false → q.1.1 ≡ q.1.0) p ps others) (omega (arith, fewer, few)) in
    let on : fold after_group before (p ∷ ps) ≡ fold after_group between ps = ap (λ (z : Books). fold after_group z ps) moved in
    let seconds : all_seconds (fold after_group before (p ∷ ps)) ≤ all_seconds before = let a = ap all_seconds on in let c = rest.seconds in
    omega (arith, a, c, fewer) in
    elim (cases_Bool (t p && is_open p.1.0)) [
      | inl both ↦
          let parts = and_parts (t p) (is_open p.1.0) both in
          let more : endings_of (filter t (p ∷ ps)) ≡ ending_of p ∷ endings_of (filter t ps) = ending_more t p ps parts.0 parts.1 in
          let step : ended before (ending_of p) ≡ between = sym (ended_at p xs front e es there parts.1 (held.charge parts.1)) ∙ moved in
          record {
            same = on ∙ rest.same ∙ ap (λ (z : Books). fold ended z (endings_of (filter t ps))) (sym step) ∙ ap (fold ended before) (sym more);
            can = subst (CanEndAll before) (sym more) (
              can_at p xs front e es there parts.1 later held few,
              subst (λ (z : Books). CanEndAll z (endings_of (filter t ps))) (sym step) rest.can,
            );
            seconds = seconds;
          }
      | inr neither ↦
          let none : endings_of (filter t (p ∷ ps)) ≡ endings_of (filter t ps) = ending_none t p ps neither in
          let stays = passed_by p (t p) e neither (All-head (λ q. t q ≡ false → q.1.1 ≡ q.1.0) p ps others) held in
          let back : between ≡ before =
          sym reach ∙ ap (λ (l : List Entry). books_at (xs ++ l) front (x ∷ es)) stays.1
          ∙ ap (λ (l : List Entry). books_at l front (x ∷ es)) (append-nil xs) ∙ ap (λ (y : GroupHolds). books_at xs front (y ∷ es)) stays.0 in
          record {
            same = on ∙ rest.same ∙ ap (λ (z : Books). fold ended z (endings_of (filter t ps))) back ∙ ap (fold ended before) (sym none);
            can = subst (CanEndAll before) (sym none) (subst (λ (z : Books). CanEndAll z (endings_of (filter t ps))) back rest.can);
            seconds = seconds;
          }
    ]
