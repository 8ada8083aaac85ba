-- One entry of the books, once its group has gone on.
use Rattle.std.proofs.Common.{◌≡◌, ◌≢◌, ℕ, ◌+◌, ◌≤◌, ◌==◌, Bool, true, false, cond, List, [], ◌∷◌, ◌++◌, map, sum_by, All, refl, sym, ◌∙◌, ap, arith}
use Rattle.std.proofs.Common.{Option, Some, None}
use Rattle.std.specs.List.{find}
use Rattle.std.specs.Option.{option_to_list, option_map_or, option_and_then, option_or, is_some}
use Rattle.std.proofs.lemmas.Bool.{eq-eqb}
use Rattle.std.proofs.lemmas.List.{append-nil, map-append}
use Rattle.std.proofs.lemmas.List.Elements.{All-weaker}
use Rattle.std.proofs.lemmas.List.Folds.{find-append}
use Rattle.std.proofs.lemmas.List.Sums.{sum_by-append, sum_by-cons}
use Rattle.plan_base.specs.declared.number.GroupNo.{GroupNo}
use Rattle.allocations.specs.declared.entry.Entry.{Entry}
use Rattle.allocations.specs.declared.entry.Hold.{Hold}
use Rattle.allocations.specs.Books.{Books, GroupHolds, total_seconds}
use Rattle.allocations.specs.Changes.{ipp_of, refund_entry, with_holds, without_ipp, change_group, released, refunded}
use Rattle.allocations.specs.Ledger.{seconds_of_holds}
use Rattle.allocations.proofs.Numbered.{map_none, find_none}
use Rattle.desk_runs.specs.declared.group.Group.{Group}
use Rattle.desk_runs.specs.States.{is_open}
use Rattle.desk_runs.specs.Sound.{IsLater}
use Rattle.desk_runs.proofs.Places.{differs}
use Rattle.desk_core.specs.declared.desk.Submitted.{Submitted}
use Rattle.desk_core.specs.Holds.{held_by, is_refunded, after_group}
use Rattle.desk_core.specs.Kept.{standing, standing_seconds, IsHeldFor}
use Rattle.desk_core.specs.Endings.{ending_of, ended}
use Rattle.desk_core.proofs.Fewer.{group_less}

-- ---- one entry of the books

-- books whose groups are these, one after them and these
abbrev pub books_at : List Entry → List GroupHolds → List GroupHolds → Books
books_at xs front es = record { entries = xs; holds = front ++ es }

pub other_numbers : (n : ℕ) (es : List GroupHolds) → All (λ x. x.group.0 ≢ n) es → All (λ x. (x.group.0 == n) ≡ false) es
other_numbers n es h = All-weaker (λ x. x.group.0 ≢ n) (λ x. (x.group.0 == n) ≡ false) (λ x e. differs x.group.0 n e) es h

pub hit : (b : Bool) (x y : GroupHolds) (rest : List GroupHolds) → b ≡ true → (let l : List GroupHolds = cond b x y ∷ rest in l) ≡ x ∷ rest
hit true x y rest e = refl
hit false x y rest e = cc

-- a change of one group changes its entry alone
pub change_at : (n : GroupNo) (f : GroupHolds → GroupHolds) (front : List GroupHolds) (e : GroupHolds) (es : List GroupHolds) → All (λ x. x.group.0 ≢ n.0) front
    → e.group ≡ n → All (λ x. x.group.0 ≢ n.0) es
    → change_group n f (front ++ e ∷ es) ≡ front ++ f e ∷ es
change_at n f front e es before same after =
    let step : GroupHolds → GroupHolds = λ g. cond (g.group.0 == n.0) (f g) g in
    map-append step front (e ∷ es)
    ∙ ap (λ (l : List GroupHolds). l ++ map step (e ∷ es)) (map_none (λ g. g.group.0) front n.0 f (other_numbers n.0 front before))
    ∙ ap (λ (l : List GroupHolds). front ++ l)
    (ap (λ (l : List GroupHolds). step e ∷ l) (map_none (λ g. g.group.0) es n.0 f (other_numbers n.0 es after))
    ∙ hit (e.group.0 == n.0) (f e) e es (eq-eqb e.group.0 n.0 (ap (λ (m : GroupNo). m.0) same)))

pub found_at : (b : Bool) (e : GroupHolds) (o : Option GroupHolds) → b ≡ true → cond b (Some e) o ≡ Some e
found_at true e o h = refl
found_at false e o h = cc

-- its ipp charge is that of its entry
pub ipp_at : (n : GroupNo) (front : List GroupHolds) (e : GroupHolds) (es : List GroupHolds) → All (λ x. x.group.0 ≢ n.0) front → e.group ≡ n
    → ipp_of n (front ++ e ∷ es) ≡ e.ipp
ipp_at n front e es before same =
    let test : GroupHolds → Bool = λ g. g.group.0 == n.0 in
    ap (option_and_then (λ g. g.ipp))
    (find-append test front (e ∷ es)
    ∙ ap (λ (o : Option GroupHolds). option_or o (find test (e ∷ es))) (find_none (λ g. g.group.0) front n.0 (other_numbers n.0 front before))
    ∙ found_at (e.group.0 == n.0) e (find test es) (eq-eqb e.group.0 n.0 (ap (λ (m : GroupNo). m.0) same)))

-- ---- one group that has gone on

-- its entry then
abbrev pub entry_after : Submitted × (Group × Group) → GroupHolds → GroupHolds
entry_after p e = cond (is_open p.1.0) (cond (is_refunded p.1.0 p.1.1) (without_ipp (with_holds (held_by p.0 p.1.1) e)) (with_holds (held_by p.0 p.1.1) e)) e

-- and the entries of the ledger that it adds
abbrev pub more_after : Submitted × (Group × Group) → GroupHolds → List Entry
more_after p e = cond (is_open p.1.0) (cond (is_refunded p.1.0 p.1.1) (map (refund_entry p.1.1.number) (option_to_list e.ipp)) []) []

-- it stands there
pub record IsThere (p : Submitted × (Group × Group)) (front : List GroupHolds) (e : GroupHolds) (es : List GroupHolds) : Type 0 where
  pub before : All (λ x. x.group.0 ≢ p.1.1.number.0) front
  pub here : e.group ≡ p.1.1.number
  pub after : All (λ x. x.group.0 ≢ p.1.1.number.0) es

pub released_at : (p : Submitted × (Group × Group)) (xs : List Entry) (front : List GroupHolds) (e : GroupHolds) (es : List GroupHolds)
    (hs : List Hold) → IsThere p front e es
    → released p.1.1.number hs (books_at xs front (e ∷ es)) ≡ books_at xs front (with_holds hs e ∷ es)
released_at p xs front e es hs t =
    ap (λ (l : List GroupHolds). let b : Books = record { entries = xs; holds = l } in
    b) (change_at p.1.1.number (with_holds hs) front e es t.before t.here t.after)

pub refunded_at : (p : Submitted × (Group × Group)) (xs : List Entry) (front : List GroupHolds) (e : GroupHolds) (es : List GroupHolds) → IsThere p front e es
    → refunded p.1.1.number (books_at xs front (e ∷ es)) ≡ books_at (xs ++ map (refund_entry p.1.1.number) (option_to_list e.ipp)) front (without_ipp e ∷ es)
refunded_at p xs front e es t =
    ap (λ (o : Option Hold). let b : Books = record {
      entries = xs ++ map (refund_entry p.1.1.number) (option_to_list o);
      holds = change_group p.1.1.number without_ipp (front ++ e ∷ es);
    } in b) (ipp_at p.1.1.number front e es t.before t.here)
    ∙ ap (λ (l : List GroupHolds). let b : Books = record { entries = xs ++ map (refund_entry p.1.1.number) (option_to_list e.ipp); holds = l } in
    b) (change_at p.1.1.number without_ipp front e es t.before t.here t.after)

-- the books then
pub after_at : (p : Submitted × (Group × Group)) (xs : List Entry) (front : List GroupHolds) (e : GroupHolds) (es : List GroupHolds) → IsThere p front e es
    → after_group (books_at xs front (e ∷ es)) p ≡ books_at (xs ++ more_after p e) front (entry_after p e ∷ es)
after_at p xs front e es t = by (is_open p.1.0) (is_refunded p.1.0 p.1.1)
  where
    by : (a b : Bool) → (let held : Books = released p.1.1.number (held_by p.0 p.1.1) (books_at xs front (e ∷ es)) in
        cond a (cond b (refunded p.1.1.number held) held) (books_at xs front (e ∷ es)))
        ≡ books_at (xs ++ cond a (cond b (map (refund_entry p.1.1.number) (option_to_list e.ipp)) []) []) front
        (cond a (cond b (without_ipp (with_holds (held_by p.0 p.1.1) e)) (with_holds (held_by p.0 p.1.1) e)) e ∷ es)
    by true true =
        ap (refunded p.1.1.number) (released_at p xs front e es (held_by p.0 p.1.1) t)
        ∙ refunded_at p xs front (with_holds (held_by p.0 p.1.1) e) es (record { before = t.before; here = t.here; after = t.after })
    by true false =
        released_at p xs front e es (held_by p.0 p.1.1) t
        ∙ ap (λ (l : List Entry). books_at l front (with_holds (held_by p.0 p.1.1) e ∷ es)) (sym (append-nil xs))
    by false b = ap (λ (l : List Entry). books_at l front (e ∷ es)) (sym (append-nil xs))

-- where no charge stands, none is given back
pub nothing_back : (p : Submitted × (Group × Group)) (xs : List Entry) (front : List GroupHolds) (e : GroupHolds) (es : List GroupHolds) (hs : List Hold)
    → IsThere p front e es → e.ipp ≡ None
    → refunded p.1.1.number (released p.1.1.number hs (books_at xs front (e ∷ es))) ≡ released p.1.1.number hs (books_at xs front (e ∷ es))
nothing_back p xs front e es hs t none =
    let held : released p.1.1.number hs (books_at xs front (e ∷ es)) ≡ books_at xs front (with_holds hs e ∷ es) = released_at p xs front e es hs t in
    ap (refunded p.1.1.number) held
    ∙ refunded_at p xs front (with_holds hs e) es (record { before = t.before; here = t.here; after = t.after })
    ∙ ap (λ (o : Option Hold). books_at (xs ++ map (refund_entry p.1.1.number) (option_to_list o)) front (without_ipp (with_holds hs e) ∷ es)) none
    ∙ ap (λ (l : List Entry). books_at l front (without_ipp (with_holds hs e) ∷ es)) (append-nil xs)
    ∙ ap (λ (o : Option Hold). books_at xs front (record { group = e.group; holds = hs; ipp = o } ∷ es)) (sym none)
    ∙ sym held

pub either_way : (held : Books) (n : GroupNo) (b : Bool) (o : Option Hold) → (o ≡ None → refunded n held ≡ held)
    → cond b (refunded n held) held ≡ cond (is_some (cond b o None)) (refunded n held) held
either_way held n false o h = refl
either_way held n true (Some x) h = refl
either_way held n true None h = h refl

-- where the group was open, they are those that its ending leaves
pub ended_at : (p : Submitted × (Group × Group)) (xs : List Entry) (front : List GroupHolds) (e : GroupHolds) (es : List GroupHolds) → IsThere p front e es
    → is_open p.1.0 ≡ true → e.ipp ≡ standing p.0.document.proposal p.0.charged
    → after_group (books_at xs front (e ∷ es)) p ≡ ended (books_at xs front (e ∷ es)) (ending_of p)
ended_at p xs front e es t opened ipp =
    let held : Books = released p.1.1.number (held_by p.0 p.1.1) (books_at xs front (e ∷ es)) in
    ap (λ (a : Bool). cond a (cond (is_refunded p.1.0 p.1.1) (refunded p.1.1.number held) held) (books_at xs front (e ∷ es))) opened
    ∙ either_way held p.1.1.number (is_refunded p.1.0 p.1.1) (standing p.0.document.proposal p.0.charged)
    (λ none. nothing_back p xs front e es (held_by p.0 p.1.1) t (ipp ∙ none))

-- ---- seconds

-- the seconds of a charge that stands
abbrev pub charge_in : GroupHolds → ℕ
charge_in e = option_map_or (λ h. h.seconds) e.ipp 0

-- the seconds of an entry of the books, with its charge
abbrev pub worth_of : GroupHolds → ℕ
worth_of e = seconds_of_holds e.holds + charge_in e

abbrev pub seconds_in : List Entry → ℕ
seconds_in xs = sum_by (λ x. x.seconds) xs

-- all seconds
abbrev pub all_seconds : Books → ℕ
all_seconds books = total_seconds books + standing_seconds books.holds

-- without those of one entry
abbrev pub rest_of : List Entry → List GroupHolds → List GroupHolds → ℕ
rest_of xs front es = seconds_in xs + (sum_by (λ g. seconds_of_holds g.holds) front + sum_by (λ g. seconds_of_holds g.holds) es)
    + (sum_by charge_in front + sum_by charge_in es)

pub seconds_at : (xs : List Entry) (front : List GroupHolds) (e : GroupHolds) (es : List GroupHolds)
    → all_seconds (books_at xs front (e ∷ es)) ≡ rest_of xs front es + worth_of e
seconds_at xs front e es =
    let a = sum_by-append (λ (g : GroupHolds). seconds_of_holds g.holds) front (e ∷ es) in
    let b = sum_by-cons (λ (g : GroupHolds). seconds_of_holds g.holds) e es in
    let c = sum_by-append charge_in front (e ∷ es) in
    let d = sum_by-cons charge_in e es in
    omega (arith, a, b, c, d)

pub total_at : (xs : List Entry) (front : List GroupHolds) (e : GroupHolds) (es : List GroupHolds)
    → total_seconds (books_at xs front (e ∷ es)) ≡ seconds_in xs
    + (sum_by (λ g. seconds_of_holds g.holds) front + sum_by (λ g. seconds_of_holds g.holds) es) + seconds_of_holds e.holds
total_at xs front e es =
    let a = sum_by-append (λ (g : GroupHolds). seconds_of_holds g.holds) front (e ∷ es) in
    let b = sum_by-cons (λ (g : GroupHolds). seconds_of_holds g.holds) e es in
    omega (arith, a, b)

pub back_worth : (n : GroupNo) (o : Option Hold) → seconds_in (map (refund_entry n) (option_to_list o)) ≡ option_map_or (λ h. h.seconds) o 0
back_worth n None = refl
back_worth n (Some h) = let one = sum_by-cons (λ (x : Entry). x.seconds) (refund_entry n h) [] in
    one ∙ (let plain : h.seconds + 0 ≡ h.seconds = omega arith in plain)

-- what a group holds then, with its charge and what is given back, is no more than before
pub no_more_at : (p : Submitted × (Group × Group)) (e : GroupHolds) → IsLater p.1.0 p.1.1 → IsHeldFor (p.0, p.1.0) e
    → seconds_in (more_after p e) + worth_of (entry_after p e) ≤ worth_of e
no_more_at p e later held = by (is_open p.1.0) (is_refunded p.1.0 p.1.1)
  where
    by : (a b : Bool) → seconds_in (cond a (cond b (map (refund_entry p.1.1.number) (option_to_list e.ipp)) []) [])
        + worth_of (cond a (cond b (without_ipp (with_holds (held_by p.0 p.1.1) e)) (with_holds (held_by p.0 p.1.1) e)) e) ≤ worth_of e
    by true true =
        let less : seconds_of_holds (held_by p.0 p.1.1) ≤ seconds_of_holds (held_by p.0 p.1.0) = (group_less p.0 p.1.0 p.1.1 later).seconds in
        let same : seconds_of_holds e.holds ≡ seconds_of_holds (held_by p.0 p.1.0) = ap seconds_of_holds held.holds in
        let back = back_worth p.1.1.number e.ipp in
        omega (arith, less, same, back)
    by true false =
        let less : seconds_of_holds (held_by p.0 p.1.1) ≤ seconds_of_holds (held_by p.0 p.1.0) = (group_less p.0 p.1.0 p.1.1 later).seconds in
        let same : seconds_of_holds e.holds ≡ seconds_of_holds (held_by p.0 p.1.0) = ap seconds_of_holds held.holds in
        omega (arith, less, same)
    by false b = omega arith
