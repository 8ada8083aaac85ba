-- What is told of groups that have gone on, and what the books hold then.
use Rattle.std.proofs.Common.{◌≡◌, ℕ, suc, ◌+◌, ◌≤◌, Bool, true, false, cond, not, ◌&&◌, List, [], ◌∷◌, ◌++◌, length, map, filter, fold, sum_by, All}
use Rattle.std.proofs.Common.{get_or, refl, sym, ◌∙◌, ap, subst, arith, inl, inr, ◌⊎◌, Option, Some, None}
use Rattle.std.specs.List.{AllZip, Any, filter_map, cons_option}
use Rattle.std.specs.Option.{option_map}
use Rattle.std.proofs.lemmas.Bool.{cases_Bool, and_parts, and_cases, false_from_ne_true}
use Rattle.std.proofs.lemmas.List.{append-nil, append_assoc, get_or_default}
use Rattle.std.proofs.lemmas.List.Elements.{All-head, All-tail}
use Rattle.std.proofs.lemmas.List.Sums.{sum_by-cons}
use Rattle.plan_base.specs.declared.number.GroupNo.{GroupNo}
use Rattle.allocations.specs.declared.entry.Entry.{Entry}
use Rattle.allocations.specs.declared.entry.Hold.{Hold}
use Rattle.allocations.specs.Books.{Books, GroupHolds}
use Rattle.allocations.specs.Changes.{ipp_of, with_holds, without_ipp}
use Rattle.desk_runs.specs.declared.group.Group.{Group}
use Rattle.desk_runs.specs.States.{is_open, any_in}
use Rattle.plan_base.specs.States.{is_pending, is_completed}
use Rattle.desk_runs.specs.Owners.{pending_of}
use Rattle.desk_runs.specs.Sound.{IsLater}
use Rattle.desk_runs.proofs.Opened.{open_back}
use Rattle.desk_runs.proofs.Counts.{some_count}
use Rattle.desk_events.specs.declared.reply.GroupRefund.{GroupRefund}
use Rattle.desk_core.specs.declared.desk.Submitted.{Submitted}
use Rattle.desk_core.specs.declared.ending.Ending.{Ending}
use Rattle.desk_core.specs.Holds.{held_by, is_refunded, after_group, refund_of}
use Rattle.desk_core.specs.Kept.{standing, IsHeldFor}
use Rattle.desk_core.specs.Endings.{ending_of, endings_of, refund_in, refunds_in}
use Rattle.desk_core.proofs.Fewer.{group_less, closed_holds}
use Rattle.desk_core.proofs.OneAlong.{books_at, ipp_at, entry_after, more_after, IsThere}
use Rattle.desk_core.proofs.Along.{AreAlong, along_tail, there_at, moved_at, group_after, low_at, refunded_self, ending_more, ending_none}

-- ---- refunds

back_told : (n : GroupNo) (b : Bool) (o : Option Hold) → option_map (λ h. let r : GroupRefund = record { group = n; seconds = h.seconds } in
    r) (cond b o None) ≡ cond b (option_map (λ h. let r : GroupRefund = record { group = n; seconds = h.seconds } in r) o) None
back_told n true o = refl
back_told n false o = refl

not_back : (p : Submitted × (Group × Group)) (t : Bool) → (t && is_open p.1.0) ≡ false → (t ≡ false → p.1.1 ≡ p.1.0) → is_refunded p.1.0 p.1.1 ≡ false
not_back p t neither other = elim (and_cases t (is_open p.1.0) neither) [
  | inl untold ↦ ap (is_refunded p.1.0) (other untold) ∙ refunded_self (is_open p.1.0) (not (any_in is_completed p.1.0))
  | inr closed ↦ ap (λ (b : Bool). b && not (is_open p.1.1) && not (any_in is_completed p.1.1)) closed
]

-- the refunds that are told are those of the endings
pub refunds_all : (t : Submitted × (Group × Group) → Bool) (b : ℕ) (xs : List Entry) (front : List GroupHolds)
    (ps : List (Submitted × (Group × Group))) (es : List GroupHolds) → All (λ x. x.group.0 ≤ b) front → AreAlong b ps es
    → All (λ p. t p ≡ false → p.1.1 ≡ p.1.0) ps → refunds_in (endings_of (filter t ps)) ≡ filter_map (refund_of (books_at xs front es)) (map (λ p. p.1) ps)
refunds_all t b xs front [] es low h others = refl
refunds_all t b xs front (p ∷ ps) [] low h others = absurd h.held
refunds_all t b xs front (p ∷ ps) (e ∷ es) low h others =
    let there : IsThere p front e es = there_at b front p ps e es low h in
    let held : IsHeldFor (p.0, p.1.0) e = h.held.0 in
    let books : Books = books_at xs front (e ∷ es) in
    let low_too : All (λ y. y.group.0 ≤ b + 1) (front ++ e ∷ []) = low_at b front p ps e es e low h refl in
    let whole : books_at xs (front ++ e ∷ []) es ≡ books = ap (λ (l : List GroupHolds). let c : Books = record { entries = xs; holds = l } in
    c) (append_assoc front (e ∷ []) es) in
    let rest : refunds_in (endings_of (filter t ps)) ≡ filter_map (refund_of books) (map (λ q. q.1) ps) =
    refunds_all t (b + 1) xs (front ++ e ∷ []) ps es low_too (along_tail b p ps e es h) (All-tail (λ q. t q ≡ false → q.1.1 ≡ q.1.0) p ps others)
    ∙ ap (λ (c : Books). filter_map (refund_of c) (map (λ q. q.1) ps)) whole in
    let told : Option Hold → Option GroupRefund = option_map (λ h. let r : GroupRefund = record { group = p.1.1.number; seconds = h.seconds } in r) in
    elim (cases_Bool (t p && is_open p.1.0)) [
      | inl both ↦
          let parts = and_parts (t p) (is_open p.1.0) both in
          let same : refund_in (ending_of p) ≡ refund_of books p.1 =
          back_told p.1.1.number (is_refunded p.1.0 p.1.1) (standing p.0.document.proposal p.0.charged)
          ∙ ap (λ (o : Option Hold). cond (is_refunded p.1.0 p.1.1) (told o) None)
          (sym (ipp_at p.1.1.number front e es there.before there.here ∙ held.charge parts.1)) in
          ap refunds_in (ending_more t p ps parts.0 parts.1)
          ∙ ap (λ (o : Option GroupRefund). cons_option o (refunds_in (endings_of (filter t ps)))) same
          ∙ ap (cons_option (refund_of books p.1)) rest
      | inr neither ↦
          let none : refund_of books p.1 ≡ None =
          ap (λ (b : Bool). cond b (told (ipp_of p.1.1.number books.holds)) None)
          (not_back p (t p) neither (All-head (λ q. t q ≡ false → q.1.1 ≡ q.1.0) p ps others)) in
          ap refunds_in (ending_none t p ps neither) ∙ rest
          ∙ ap (λ (o : Option GroupRefund). cons_option o (filter_map (refund_of books) (map (λ q. q.1) ps))) (sym none)
    ]

-- ---- how many end

-- no more than there are pending requests
pub few_endings : (t : Submitted × (Group × Group) → Bool) (ps : List (Submitted × (Group × Group)))
    → length (endings_of (filter t ps)) ≤ sum_by (λ p. pending_of p.1.0) ps
few_endings t [] = omega arith
few_endings t (p ∷ ps) =
    let sum : sum_by (λ q. pending_of q.1.0) (p ∷ ps) ≡ pending_of p.1.0 + sum_by (λ q. pending_of q.1.0) ps =
    sum_by-cons (λ (q : Submitted × (Group × Group)). pending_of q.1.0) p ps in
    let rest : length (endings_of (filter t ps)) ≤ sum_by (λ q. pending_of q.1.0) ps = few_endings t ps in
    elim (cases_Bool (t p && is_open p.1.0)) [
      | inl both ↦
          let parts = and_parts (t p) (is_open p.1.0) both in
          let more : length (endings_of (filter t (p ∷ ps))) ≡ suc (length (endings_of (filter t ps))) = ap length (ending_more t p ps parts.0 parts.1) in
          let one : 1 ≤ pending_of p.1.0 = some_count (λ q. is_pending q.state) p.1.0.requests parts.1 in
          omega (arith, sum, rest, more, one)
      | inr neither ↦ let none : length (endings_of (filter t (p ∷ ps))) ≡ length (endings_of (filter t ps)) =
          ap length (ending_none t p ps neither) in omega (arith, sum, rest, none)
    ]

-- no more refunds than endings
pub few_refunds : (endings : List Ending) → length (refunds_in endings) ≤ length endings
few_refunds [] = omega arith
few_refunds (e ∷ endings) = by (refund_in e) (few_refunds endings)
  where
    by : (o : Option GroupRefund) → length (refunds_in endings) ≤ length endings → length (cons_option o (refunds_in endings)) ≤ suc (length endings)
    by None h = omega arith
    by (Some r) h = omega arith

-- ---- what the books hold then

-- an entry that was for a group is for it once it has gone on
held_then : (p : Submitted × (Group × Group)) (e : GroupHolds) → IsLater p.1.0 p.1.1 → IsHeldFor (p.0, p.1.0) e → IsHeldFor (p.0, p.1.1) (entry_after p e)
held_then p e later held = record {
  group = group_after p e ∙ held.group ∙ sym later.number;
  holds = elim (cases_Bool (is_open p.1.0)) [
    | inl opened ↦ ap (λ (b : Bool).
        (cond b (cond (is_refunded p.1.0 p.1.1) (without_ipp (with_holds (held_by p.0 p.1.1) e)) (with_holds (held_by p.0 p.1.1) e)) e).holds) opened
        ∙ either (is_refunded p.1.0 p.1.1)
    | inr closed ↦
        ap (λ (b : Bool). (cond b (cond (is_refunded p.1.0 p.1.1) (without_ipp (with_holds (held_by p.0 p.1.1) e)) (with_holds (held_by p.0 p.1.1) e))
        e).holds) closed
        ∙ held.holds ∙ closed_holds p.0 p.1.0 closed ∙ sym (closed_holds p.0 p.1.1 (still_closed p.1.0 p.1.1 later closed))
  ];
  charge = λ opened.
      let before : is_open p.1.0 ≡ true = open_back p.1.0 p.1.1 later opened in
      let kept : is_refunded p.1.0 p.1.1 ≡ false = ap (λ (b : Bool). is_open p.1.0 && not b && not (any_in is_completed p.1.1)) opened
      ∙ off (is_open p.1.0) (not (any_in is_completed p.1.1)) in
      ap (λ (b : Bool). (cond (is_open p.1.0) (cond b (without_ipp (with_holds (held_by p.0 p.1.1) e)) (with_holds (held_by p.0 p.1.1) e)) e).ipp) kept
      ∙ ap (λ (b : Bool). (cond b (with_holds (held_by p.0 p.1.1) e) e).ipp) before ∙ held.charge before;
}
  where
    either : (b : Bool) → (cond b (without_ipp (with_holds (held_by p.0 p.1.1) e)) (with_holds (held_by p.0 p.1.1) e)).holds ≡ held_by p.0 p.1.1
    either true = refl
    either false = refl

    off : (a c : Bool) → (a && false && c) ≡ false
    off true c = refl
    off false c = refl

    still_closed : (g h : Group) → IsLater g h → is_open g ≡ false → is_open h ≡ false
    still_closed g h l closed = false_from_ne_true (is_open h) (λ o. let bad : false ≡ true = sym closed ∙ open_back g h l o in cc)

any_more : {X : Type 0} (P Q : X → Type 0) (xs : List X) → ((x : X) → P x → Q x) → Any P xs → Any Q xs
any_more P Q xs f a = (a.0, a.1, a.2, a.3, f a.1 a.4)

-- its holds are on accounts on which it held before
abbrev pub IsKeyed : GroupHolds → GroupHolds → Type 0
IsKeyed e x = All (λ h. Any (λ o. o.key ≡ h.key) e.holds) x.holds

keyed_self : (e : GroupHolds) → IsKeyed e e
keyed_self e = λ k d l. (k, get_or e.holds k d, l, get_or_default e.holds k (get_or e.holds k d) d l, refl)

keyed_less : (p : Submitted × (Group × Group)) (e x : GroupHolds) → IsLater p.1.0 p.1.1 → IsHeldFor (p.0, p.1.0) e → x.holds ≡ held_by p.0 p.1.1 → IsKeyed e x
keyed_less p e x later held is =
    subst (λ (hs : List Hold). All (λ h. Any (λ o. o.key ≡ h.key) e.holds) hs) (sym is)
    (λ k d l.
    let h : Hold = get_or (held_by p.0 p.1.1) k d in
    subst (Any (λ o. o.key ≡ h.key)) (sym held.holds)
    (any_more (λ o. (o.key ≡ h.key) × (h.seconds ≤ o.seconds)) (λ o. o.key ≡ h.key) (held_by p.0 p.1.0) (λ o both. both.0)
    ((group_less p.0 p.1.0 p.1.1 later).within k d l)))

keyed_then : (p : Submitted × (Group × Group)) (e : GroupHolds) → IsLater p.1.0 p.1.1 → IsHeldFor (p.0, p.1.0) e → IsKeyed e (entry_after p e)
keyed_then p e later held = by (is_open p.1.0) (is_refunded p.1.0 p.1.1)
  where
    by : (a b : Bool) → IsKeyed e (cond a (cond b (without_ipp (with_holds (held_by p.0 p.1.1) e)) (with_holds (held_by p.0 p.1.1) e)) e)
    by true true = keyed_less p e (without_ipp (with_holds (held_by p.0 p.1.1) e)) later held refl
    by true false = keyed_less p e (with_holds (held_by p.0 p.1.1) e) later held refl
    by false b = keyed_self e

charge_then : (p : Submitted × (Group × Group)) (e : GroupHolds) → ((entry_after p e).ipp ≡ e.ipp) ⊎ ((entry_after p e).ipp ≡ None)
charge_then p e = by (is_open p.1.0) (is_refunded p.1.0 p.1.1)
  where
    by : (a b : Bool) → ((cond a (cond b (without_ipp (with_holds (held_by p.0 p.1.1) e)) (with_holds (held_by p.0 p.1.1) e)) e).ipp ≡ e.ipp)
        ⊎ ((cond a (cond b (without_ipp (with_holds (held_by p.0 p.1.1) e)) (with_holds (held_by p.0 p.1.1) e)) e).ipp ≡ None)
    by true true = inr refl
    by true false = inl refl
    by false b = inl refl

-- what the ledger's entries and the books' are then
pub record AreAfter (books after : Books) (ps : List (Submitted × (Group × Group))) (front es : List GroupHolds) : Type 0 where
  pub more : List Entry
  pub others : List GroupHolds
  pub entries : after.entries ≡ books.entries ++ more
  pub holds : after.holds ≡ front ++ others
  pub held : AllZip (λ p e. IsHeldFor (p.0, p.1.1) e) ps others
  pub keyed : AllZip IsKeyed es others
  pub charged : AllZip (λ e x. (x.ipp ≡ e.ipp) ⊎ (x.ipp ≡ None)) es others

pub after_all : (b : ℕ) (xs : List Entry) (front : List GroupHolds) (ps : List (Submitted × (Group × Group))) (es : List GroupHolds)
    → All (λ x. x.group.0 ≤ b) front
    → AreAlong b ps es
    → AreAfter (books_at xs front es) (fold after_group (books_at xs front es) ps) ps front es
after_all b xs front [] [] low h = record { more = []; others = []; entries = sym (append-nil xs); holds = refl; held = tt; keyed = tt; charged = tt }
after_all b xs front [] (e ∷ es) low h = absurd h.held
after_all b xs front (p ∷ ps) [] low h = absurd h.held
after_all b xs front (p ∷ ps) (e ∷ es) low h =
    let later : IsLater p.1.0 p.1.1 = All-head (λ q. IsLater q.1.0 q.1.1) p ps h.later in
    let held : IsHeldFor (p.0, p.1.0) e = h.held.0 in
    let x : GroupHolds = entry_after p e in
    let ys : List Entry = xs ++ more_after p e in
    let between : Books = books_at ys (front ++ x ∷ []) es in
    let moved : after_group (books_at xs front (e ∷ es)) p ≡ between = moved_at b xs front p ps e es low h in
    let rest : AreAfter between (fold after_group between ps) ps (front ++ x ∷ []) es =
    after_all (b + 1) ys (front ++ x ∷ []) ps es (low_at b front p ps e es x low h (group_after p e)) (along_tail b p ps e es h) in
    let on : fold after_group (books_at xs front (e ∷ es)) (p ∷ ps) ≡ fold after_group between ps = ap (λ (z : Books). fold after_group z ps) moved in
    record {
      more = more_after p e ++ rest.more;
      others = x ∷ rest.others;
      entries = ap (λ (z : Books). z.entries) on ∙ rest.entries ∙ append_assoc xs (more_after p e) rest.more;
      holds = ap (λ (z : Books). z.holds) on ∙ rest.holds ∙ append_assoc front (x ∷ []) rest.others;
      held = (held_then p e later held, rest.held);
      keyed = (keyed_then p e later held, rest.keyed);
      charged = (charge_then p e, rest.charged);
    }
