-- A group that is amended: where it stands, and what is left of the books once it is withdrawn.
use Rattle.std.proofs.Common.{◌≡◌, ◌∙◌, ap, sym, subst, refl, ℕ, zero, suc, ◌+◌, ◌-◌, ◌<◌, ◌≤◌, ◌^◌, ◌==◌, nat_lt, Bool, true, false, cond, not, ◌&&◌}
use Rattle.std.proofs.Common.{◌||◌, List, [], ◌∷◌, ◌++◌, length, map, filter, fold, sum_by, drop, All, get_or, Option, Some, None, arith, inl, inr}
use Rattle.std.proofs.Common.{◌⊎◌}
use Rattle.std.specs.List.{AllZip, zip, list_any, slice_get, find, cons_option}
use Rattle.std.specs.Option.{option_or, option_map, option_to_list}
use Rattle.std.specs.Prelude.{option_and_then}
use Rattle.std.proofs.lemmas.Bool.{eqb-true, cases_lt, or_parts}
use Rattle.std.proofs.lemmas.List.{append-nil}
use Rattle.std.proofs.lemmas.List.Elements.{All-nil, All-cons, All-head, All-tail}
use Rattle.std.proofs.lemmas.List.Folds.{find-append}
use Rattle.std.proofs.lemmas.List.Sums.{sum_by-cons}
use Rattle.std.proofs.lemmas.Option.{slice_get_within, get_or_from_slice_get}
use Rattle.plan_base.specs.declared.number.GroupNo.{GroupNo}
use Rattle.plan_base.specs.declared.number.RequestNo.{RequestNo}
use Rattle.plan_base.specs.declared.parts.Op.{Op}
use Rattle.plan_base.specs.declared.state.RequestState.TheVariants.{Canceled}
use Rattle.plan_base.specs.States.{is_pending, is_completed, is_over}
use Rattle.allocations.specs.declared.entry.Entry.{Entry}
use Rattle.allocations.specs.declared.entry.Hold.{Hold}
use Rattle.allocations.specs.Refusals.{ipp_key}
use Rattle.allocations.specs.Books.{Books, GroupHolds, total_seconds}
use Rattle.allocations.specs.Changes.{ipp_of, refund_entry, with_holds, without_ipp, change_group, released, freed}
use Rattle.desk_runs.specs.declared.change.Change.{Change}
use Rattle.desk_runs.specs.declared.group.Ask.{Ask}
use Rattle.desk_runs.specs.declared.group.Group.{Group}
use Rattle.desk_runs.specs.declared.group.Request.{Request}
use Rattle.desk_runs.specs.declared.observation.Observation.{Observation}
use Rattle.desk_runs.specs.Adding.{requests_from, next_group, with_group}
use Rattle.desk_runs.specs.Changes.{changed}
use Rattle.desk_runs.specs.Clock.{with_state, became}
use Rattle.desk_runs.specs.Numbers.{requests_of, group_at, is_group}
use Rattle.desk_runs.specs.Owners.{pending_count, pending_of}
use Rattle.desk_runs.specs.Progress.{Progress}
use Rattle.desk_runs.specs.Reports.{canceled, withdrawn}
use Rattle.desk_runs.specs.Sound.{IsCounted, IsSound, IsWithdrawable}
use Rattle.desk_runs.specs.States.{is_open, any_in}
use Rattle.desk_runs.specs.Turning.{no_group, group_of}
use Rattle.desk_runs.proofs.Counts.{none_count, pending_sum}
use Rattle.desk_runs.proofs.GoingOn.{withdrawal_goes_on}
use Rattle.desk_runs.proofs.Opened.{as_many, as_many_requests}
use Rattle.desk_runs.proofs.Places.{IsCountedFrom, counted_from, found_from, found_none, number_at}
use Rattle.desk_runs.proofs.Single.{picked_from, picked_passes}
use Rattle.desk_runs.proofs.Moves.{is_among}
use Rattle.desk_runs.proofs.Withdrawn.{IsWithdrawal, withdrawal}
use Rattle.desk_events.specs.declared.reply.GroupRefund.{GroupRefund}
use Rattle.desk_core.specs.declared.desk.Submitted.{Submitted}
use Rattle.desk_core.specs.declared.ending.Ending.{Ending}
use Rattle.desk_core.specs.Desk.{DeskSeen}
use Rattle.desk_core.specs.Kept.{IsDesk, IsHeldFor, standing}
use Rattle.desk_core.specs.Endings.{ending_of, endings_of, ended, told_along, refunds_in}
use Rattle.desk_core.specs.Holds.{held_by, is_refunded, after_group, groups_along, refunds_of}
use Rattle.desk_core.specs.Closing.{IsAmendable, without_group, refund_for}
use Rattle.desk_core.proofs.Along.{all_seconds}
use Rattle.desk_core.proofs.Fewer.{closed_holds}
use Rattle.desk_core.proofs.ToldAt.{picked, one_ends, told_length}
use Rattle.desk_core.proofs.WentOn.{ends_of, refunds_are}

-- ---- where a group stands

pub record StandsAt (gs : List Group) (n : GroupNo) (g : Group) : Type 0 where
  pub low : 1 ≤ n.0
  pub high : n.0 ≤ length gs
  pub there : slice_get gs (n.0 - 1) ≡ Some g

pub stands_at : (gs : List Group) (n : GroupNo) (g : Group) → IsCounted (map (λ x. x.number.0) gs) → group_at gs n ≡ Some g → StandsAt gs n g
stands_at gs n g h e = by (cases_lt 0 n.0) (counted_from (map (λ x. x.number.0) gs) h)
  where
    by : (0 < n.0) ⊎ (n.0 ≤ 0) → IsCountedFrom 0 (map (λ x. x.number.0) gs) → StandsAt gs n g
    by (inr none) counted = let bad : None ≡ Some g = sym (found_none 0 gs n counted none) ∙ e in absurd (cc)
    by (inl some) counted =
        let at : slice_get gs (n.0 - 1) ≡ Some g = sym (found_from 0 gs n (n.0 - 1) counted (omega arith)) ∙ e in
        let within = slice_get_within gs (n.0 - 1) g at in
        record { low = omega arith; high = omega (arith, within); there = at }

-- ---- how many are pending without it

none_pending : (qs : List Request) → list_any (λ q. is_pending q.state) (map (λ q. cond (is_pending q.state) (with_state Canceled q) q) qs) ≡ false
none_pending [] = refl
none_pending (q ∷ qs) = by (is_pending q.state) refl (none_pending qs)
  where
    by : (b : Bool) → is_pending q.state ≡ b → list_any (λ q. is_pending q.state) (map (λ q. cond (is_pending q.state) (with_state Canceled q) q) qs)
        ≡ false → (is_pending (cond b (with_state Canceled q) q).state
        || list_any (λ q. is_pending q.state) (map (λ q. cond (is_pending q.state) (with_state Canceled q) q) qs)) ≡ false
    by true e rest = rest
    by false e rest = ap (λ (b : Bool). b || list_any (λ q. is_pending q.state) (map (λ q. cond (is_pending q.state) (with_state Canceled q) q) qs)) e ∙ rest

-- a group that is canceled isn't open
pub canceled_closed : (g : Group) → is_open (canceled g) ≡ false
canceled_closed g = none_pending g.requests

canceled_none : (g : Group) → pending_of (canceled g) ≡ 0
canceled_none g = none_count (λ q. is_pending q.state) (canceled g).requests (canceled_closed g)

-- a sum over a list of which those that pass are changed
swapped : {X : Type 0} (h : X → ℕ) (p : X → Bool) (f : X → X) (xs : List X)
    → sum_by h (map (λ x. cond (p x) (f x) x) xs) + sum_by h (filter p xs) ≡ sum_by h xs + sum_by h (map f (filter p xs))
swapped h p f [] = refl
swapped h p f (x ∷ xs) = by (p x) (swapped h p f xs)
  where
    by : (b : Bool) → sum_by h (map (λ x. cond (p x) (f x) x) xs) + sum_by h (filter p xs) ≡ sum_by h xs + sum_by h (map f (filter p xs))
        → sum_by h (cond b (f x) x ∷ map (λ x. cond (p x) (f x) x) xs) + sum_by h (cond b (x ∷ filter p xs) (filter p xs)) ≡ sum_by h (x ∷ xs)
        + sum_by h (map f (cond b (x ∷ filter p xs) (filter p xs)))
    by true rest =
        let a = sum_by-cons h (f x) (map (λ x. cond (p x) (f x) x) xs) in
        let b = sum_by-cons h x (filter p xs) in
        let c = sum_by-cons h x xs in
        let d = sum_by-cons h (f x) (map f (filter p xs)) in
        omega (arith, rest, a, b, c, d)
    by false rest =
        let a = sum_by-cons h x (map (λ x. cond (p x) (f x) x) xs) in
        let c = sum_by-cons h x xs in
        omega (arith, rest, a, c)

pub pending_without : (s : Progress) (n : GroupNo) (g : Group) → IsSound s → group_at s.groups n ≡ Some g
    → pending_count (withdrawn n s).groups + pending_of g ≡ pending_count s.groups
pending_without s n g h e =
    let pick : filter (is_group n) s.groups ≡ g ∷ [] = picked_from 0 s.groups n g (counted_from (map (λ x. x.number.0) s.groups) h.numbered.groups) e in
    let sums = swapped pending_of (is_group n) canceled s.groups in
    let before : sum_by pending_of (filter (is_group n) s.groups) ≡ pending_of g = ap (sum_by pending_of) pick ∙ one pending_of g in
    let after : sum_by pending_of (map canceled (filter (is_group n) s.groups)) ≡ 0 = ap (λ (l : List Group). sum_by pending_of (map canceled l)) pick
    ∙ one pending_of (canceled g) ∙ canceled_none g in
    let left = pending_sum (withdrawn n s).groups in
    let all = pending_sum s.groups in
    omega (arith, sums, before, after, left, all)
  where
    one : (f : Group → ℕ) (x : Group) → sum_by f (x ∷ []) ≡ f x
    one f x = let a = sum_by-cons f x [] in omega (arith, a)

-- ---- the next group

-- it is the same without the old one
pub next_without : (op : Op) (asks : List Ask) (s : Progress) (n : GroupNo) → next_group op asks (withdrawn n s) ≡ next_group op asks s
next_without op asks s n =
    let later = (withdrawal_goes_on s n).later in
    ap (λ (k : ℕ). let x : Group = record {
      number = record { 0 = k + 1 };
      op = op;
      requests = requests_from (length (requests_of (withdrawn n s).groups) + 1) asks;
    } in x) (as_many s.groups (withdrawn n s).groups later)
    ∙ ap (λ (k : ℕ). let x : Group = record { number = record { 0 = length s.groups + 1 }; op = op; requests = requests_from (k + 1) asks } in
    x) (as_many_requests s.groups (withdrawn n s).groups later)

-- the old one may still be withdrawn beside it
pub still_withdrawable : (op : Op) (asks : List Ask) (s : Progress) (n : GroupNo) → IsAmendable n s → IsWithdrawable n (with_group op asks s)
still_withdrawable op asks s n h = record {
  group = h.group;
  there = find-append (is_group n) s.groups (next_group op asks s ∷ [])
      ∙ ap (λ (o : Option Group). option_or o (find (is_group n) (next_group op asks s ∷ []))) h.there;
  idle = h.idle;
}

-- ---- the books without it

-- where no charge of a group stands, none is given back
no_charge : (n : GroupNo) (es : List GroupHolds) → All (λ e. (e.group.0 == n.0) ≡ true → e.ipp ≡ None) es
    → (ipp_of n (change_group n (with_holds []) es) ≡ None)
    × (change_group n without_ipp (change_group n (with_holds []) es) ≡ change_group n (with_holds []) es)
no_charge n [] h = (refl, refl)
no_charge n (e ∷ es) h = by (e.group.0 == n.0) refl (All-head (λ e. (e.group.0 == n.0) ≡ true → e.ipp ≡ None) e es h)
    (no_charge n es (All-tail (λ e. (e.group.0 == n.0) ≡ true → e.ipp ≡ None) e es h))
  where
    by : (b : Bool) → (e.group.0 == n.0) ≡ b → ((e.group.0 == n.0) ≡ true → e.ipp ≡ None) → (ipp_of n (change_group n (with_holds []) es) ≡ None)
        × (change_group n without_ipp (change_group n (with_holds []) es) ≡ change_group n (with_holds []) es)
        → (ipp_of n (change_group n (with_holds []) (e ∷ es)) ≡ None)
        × (change_group n without_ipp (change_group n (with_holds []) (e ∷ es)) ≡ change_group n (with_holds []) (e ∷ es))
    by true t first rest =
        let others : List GroupHolds = change_group n (with_holds []) es in
        let head : GroupHolds = with_holds [] e in
        let list : change_group n (with_holds []) (e ∷ es) ≡ head ∷ others = ap (λ (b : Bool). cond b head e ∷ others) t in
        let settled : without_ipp head ≡ head =
        ap (λ (o : Option Hold). let g : GroupHolds = record { group = e.group; holds = []; ipp = o } in g) (sym (first t)) in (
          ap (ipp_of n) list ∙ ap (λ (b : Bool). option_and_then (λ g. g.ipp) (cond b (Some head) (find (λ g. g.group.0 == n.0) others))) t ∙ first t,
          ap (change_group n without_ipp) list ∙ ap (λ (b : Bool). cond b (without_ipp head) head ∷ change_group n without_ipp others) t
              ∙ ap (λ (g : GroupHolds). g ∷ change_group n without_ipp others) settled ∙ ap (λ (l : List GroupHolds). head ∷ l) rest.1 ∙ sym list,
        )
    by false t first rest =
        let others : List GroupHolds = change_group n (with_holds []) es in
        let list : change_group n (with_holds []) (e ∷ es) ≡ e ∷ others = ap (λ (b : Bool). cond b (with_holds [] e) e ∷ others) t in (
          ap (ipp_of n) list ∙ ap (λ (b : Bool). option_and_then (λ g. g.ipp) (cond b (Some e) (find (λ g. g.group.0 == n.0) others))) t ∙ rest.0,
          ap (change_group n without_ipp) list ∙ ap (λ (b : Bool). cond b (without_ipp e) e ∷ change_group n without_ipp others) t
              ∙ ap (λ (l : List GroupHolds). e ∷ l) rest.1 ∙ sym list,
        )

-- a group that holds nothing, and whose charge is given back where it stands, is free
ended_free : (books : Books) (n : GroupNo) (proposal : List ℕ) (charged : ℕ)
    → (nat_lt 0 charged ≡ false → All (λ e. (e.group.0 == n.0) ≡ true → e.ipp ≡ None) books.holds)
    → ended books (record { group = n; holds = []; refund = standing proposal charged }) ≡ freed n books
ended_free books n proposal charged none = by (nat_lt 0 charged) refl
  where
    by : (b : Bool) → nat_lt 0 charged ≡ b → ended books (record { group = n; holds = []; refund = standing proposal charged }) ≡ freed n books
    by true t = ap (λ (b : Bool). ended books
        (record { group = n; holds = []; refund = cond b (Some record { key = ipp_key proposal; seconds = charged }) None })) t
    by false t =
        let same = no_charge n books.holds (none t) in
        let of : List Entry → List GroupHolds → Books = λ xs es. record { entries = xs; holds = es } in
        let gone : freed n books ≡ released n [] books =
        ap (λ (o : Option Hold). of (books.entries ++ map (refund_entry n) (option_to_list o))
        (change_group n without_ipp (change_group n (with_holds []) books.holds))) same.0
        ∙ ap (λ (xs : List Entry). of xs (change_group n without_ipp (change_group n (with_holds []) books.holds))) (append-nil books.entries)
        ∙ ap (of books.entries) same.1 in
        ap (λ (b : Bool). ended books (record {
          group = n;
          holds = [];
          refund = cond b (Some record { key = ipp_key proposal; seconds = charged }) None;
        })) t ∙ sym gone

-- the entries of the books are those of the groups
stands_none : (n : ℕ) (ws : List Submitted) (gs : List Group) (es : List GroupHolds) → AllZip IsHeldFor (zip ws gs) es
    → All (λ p. p.1.number.0 ≡ n → (is_open p.1 ≡ true) × (standing p.0.document.proposal p.0.charged ≡ None)) (zip ws gs)
    → All (λ e. (e.group.0 == n) ≡ true → e.ipp ≡ None) es
stands_none n [] gs [] h a = All-nil (λ e. (e.group.0 == n) ≡ true → e.ipp ≡ None)
stands_none n [] gs (e ∷ es) h a = absurd h
stands_none n (w ∷ ws) [] [] h a = All-nil (λ e. (e.group.0 == n) ≡ true → e.ipp ≡ None)
stands_none n (w ∷ ws) [] (e ∷ es) h a = absurd h
stands_none n (w ∷ ws) (g ∷ gs) [] h a = absurd h
stands_none n (w ∷ ws) (g ∷ gs) (e ∷ es) h a =
    let P : Submitted × Group → Type 0 = λ p. p.1.number.0 ≡ n → (is_open p.1 ≡ true) × (standing p.0.document.proposal p.0.charged ≡ None) in
    All-cons (λ e. (e.group.0 == n) ≡ true → e.ipp ≡ None) e es
    (λ t. let is : e.group.0 ≡ n = eqb-true e.group.0 n t in
    let none = All-head P (w, g) (zip ws gs) a (ap (λ (k : GroupNo). k.0) (sym h.0.group) ∙ is) in h.0.charge none.0 ∙ none.1)
    (stands_none n ws gs es h.1 (All-tail P (w, g) (zip ws gs) a))

-- ---- what ends

none_completed : (qs : List Request) → list_any (λ q. is_completed q.state) qs ≡ false
    → list_any (λ q. is_completed q.state) (map (λ q. cond (is_pending q.state) (with_state Canceled q) q) qs) ≡ false
none_completed [] e = refl
none_completed (q ∷ qs) e =
    let parts = or_parts (is_completed q.state) (list_any (λ q. is_completed q.state) qs) e in
    by (is_pending q.state) parts.0 (none_completed qs parts.1)
  where
    by : (b : Bool) → is_completed q.state ≡ false
        → list_any (λ q. is_completed q.state) (map (λ q. cond (is_pending q.state) (with_state Canceled q) q) qs) ≡ false
        → (is_completed (cond b (with_state Canceled q) q).state
        || list_any (λ q. is_completed q.state) (map (λ q. cond (is_pending q.state) (with_state Canceled q) q) qs)) ≡ false
    by true e rest = rest
    by false e rest = ap (λ (b : Bool). b || list_any (λ q. is_completed q.state) (map (λ q. cond (is_pending q.state) (with_state Canceled q) q) qs)) e ∙ rest

canceled_refunded : (g : Group) → is_open g ≡ true → any_in is_completed g ≡ false → is_refunded g (canceled g) ≡ true
canceled_refunded g opened none =
    ap (λ (b : Bool). b && not (is_open (canceled g)) && not (any_in is_completed (canceled g))) opened
    ∙ ap (λ (b : Bool). true && not b && not (any_in is_completed (canceled g))) (canceled_closed g)
    ∙ ap (λ (b : Bool). true && not false && not b) (none_completed g.requests none)

-- what becomes of what the group holds
ending_is : (w : Submitted) (g : Group) (n : GroupNo) → g.number ≡ n → is_open g ≡ true → any_in is_completed g ≡ false
    → ending_of (w, (g, canceled g)) ≡ record { group = n; holds = []; refund = standing w.document.proposal w.charged }
ending_is w g n number opened none =
    let of : GroupNo → List Hold → Bool → Ending = λ k hs b. record { group = k; holds = hs; refund = cond b (standing w.document.proposal w.charged) None } in
    ap (λ (k : GroupNo). of k (held_by w (canceled g)) (is_refunded g (canceled g))) number
    ∙ ap (λ (hs : List Hold). of n hs (is_refunded g (canceled g))) (closed_holds w (canceled g) (canceled_closed g))
    ∙ ap (of n []) (canceled_refunded g opened none)

told_refund : (n : GroupNo) (proposal : List ℕ) (charged : ℕ)
    → refunds_in (record { group = n; holds = []; refund = standing proposal charged } ∷ []) ≡ refund_for n charged
told_refund n proposal charged = by (nat_lt 0 charged)
  where
    by : (b : Bool) → cons_option (option_map (λ h. let r : GroupRefund = record { group = n; seconds = h.seconds } in
        r) (cond b (Some (let x : Hold = record { key = ipp_key proposal; seconds = charged } in x)) None)) []
        ≡ cond b ((let r : GroupRefund = record { group = n; seconds = charged } in r) ∷ []) []
    by true = refl
    by false = refl

one_of : {X : Type 0} (x : X) (xs : List X) → xs ≡ x ∷ drop 1 xs → length xs ≡ 1 → xs ≡ x ∷ []
one_of x [] e n = absurd (omega (arith, n))
one_of x (y ∷ []) e n = e
one_of x (y ∷ z ∷ zs) e n = absurd (omega (arith, n))

pair_at : (ws : List Submitted) (gs : List Group) (i : ℕ) (q : Submitted × Group) (w : Submitted) (g : Group) → i < length (zip ws gs)
    → slice_get ws i ≡ Some w → slice_get gs i ≡ Some g → get_or (zip ws gs) i q ≡ (w, g)
pair_at [] gs i q w g l a b = absurd (omega (arith, l))
pair_at (x ∷ ws) [] i q w g l a b = absurd (omega (arith, l))
pair_at (x ∷ ws) (y ∷ gs) zero q w g l a b =
    let first : x ≡ w = cc in
    let second : y ≡ g = cc in
    ap (λ (v : Submitted). let p : Submitted × Group = (v, y) in p) first ∙ ap (λ (v : Group). let p : Submitted × Group = (w, v) in p) second
pair_at (x ∷ ws) (y ∷ gs) (suc i) q w g l a b = pair_at ws gs i q w g (omega (arith, l)) a b

short_zip : (ws : List Submitted) (gs : List Group) → length (zip ws gs) ≤ length gs
short_zip [] gs = omega arith
short_zip (w ∷ ws) [] = omega arith
short_zip (w ∷ ws) (g ∷ gs) = let rest = short_zip ws gs in omega (arith, rest)

-- the desk without the group
pub record IsFreed (d : DeskSeen) (n : GroupNo) : Type 0 where
  pub low : 1 ≤ n.0
  pub high : n.0 ≤ length d.progress.groups
  pub group : Group
  pub is : group_of d.progress.groups n ≡ group
  pub there : group_at d.progress.groups n ≡ Some group
  pub submitted : Submitted
  pub was : slice_get d.groups (n.0 - 1) ≡ Some submitted
  pub books : (without_group n d).books ≡ freed n d.books
  pub refunds : refunds_of d (withdrawn n d.progress) ≡ refund_for n submitted.charged
  pub seconds : total_seconds (freed n d.books) ≤ all_seconds d.books

pub is_freed : (d : DeskSeen) (n : GroupNo) → IsDesk d → IsAmendable n d.progress → all_seconds d.books ≤ 10 ^ 18 → IsFreed d n
is_freed d n h a few =
    let s : Progress = d.progress in
    let g : Group = a.group in
    let at = stands_at s.groups n g h.sound.numbered.groups a.there in
    let over : List RequestNo = became is_over g.requests (canceled g).requests in
    let kept : List Observation = filter (λ o. not (is_among o.request over)) s.kept in
    let c : Change = record { now = s.moment; groups = canceled g ∷ []; kept = kept; running = s.running } in
    let w : IsWithdrawal s n c = withdrawal s n g kept over h.sound a.there a.idle refl refl in
    let pick : filter (is_group n) s.groups ≡ g ∷ [] =
    picked_from 0 s.groups n g (counted_from (map (λ x. x.number.0) s.groups) h.sound.numbered.groups) a.there in
    let number : g.number.0 ≡ n.0 = eqb-true g.number.0 n.0 (picked_passes (is_group n) s.groups g pick) in
    let same_number : g.number ≡ n = ap (λ (k : ℕ). let m : GroupNo = record { 0 = k } in m) number in
    let ps : List (Submitted × (Group × Group)) = told_along (canceled g ∷ []) d (changed s c) in
    let one = picked d c 0 (canceled g) h w.can (omega arith) refl in
    let p : Submitted × (Group × Group) = one.one in
    let was : slice_get d.groups (n.0 - 1) ≡ Some p.0 = ap (λ (k : ℕ). slice_get d.groups (k - 1)) (sym number) ∙ one.told.submitted in
    let list : ps ≡ p ∷ [] = one_of p ps one.rest (told_length d c h w.can) in
    let ending : ending_of (p.0, (g, canceled g)) ≡ record { group = n; holds = []; refund = standing p.0.document.proposal p.0.charged } =
    ending_is p.0 g n same_number a.opened a.none in
    let stands : g ≡ group_of s.groups g.number =
    sym (get_or_from_slice_get s.groups (g.number.0 - 1) g no_group (ap (λ (k : ℕ). slice_get s.groups (k - 1)) number ∙ at.there)) in
    let endings : endings_of ps ≡ ending_of (p.0, (g, canceled g)) ∷ [] =
    ap endings_of list ∙ one_ends d p p.0 g (canceled g) one.told one.told.submitted stands a.opened in
    let all = ends_of d (changed s c) (canceled g ∷ []) h w.can.later w.can.told few in
    let books : fold after_group d.books (groups_along d (changed s c)) ≡ freed n d.books =
    all.same ∙ ap (fold ended d.books) endings ∙ ap (ended d.books) ending
    ∙ ended_free d.books n p.0.document.proposal p.0.charged (λ t. stands_none n.0 d.groups s.groups d.books.holds h.held (λ i q l e.
    let short = short_zip d.groups s.groups in
    let pair : get_or (zip d.groups s.groups) i q ≡ (p.0, g) =
    here d.groups s.groups i q p.0 g n.0 l (omega (arith, short)) h.sound.numbered.groups e was at.there in
    subst (λ (x : Submitted × Group). (is_open x.1 ≡ true) × (standing x.0.document.proposal x.0.charged ≡ None)) (sym pair)
    (a.opened, ap (λ (b : Bool). cond b (Some (let x : Hold = record { key = ipp_key p.0.document.proposal; seconds = p.0.charged } in x)) None) t))) in
    record {
      low = at.low;
      high = at.high;
      group = g;
      is = get_or_from_slice_get s.groups (n.0 - 1) g no_group at.there;
      there = a.there;
      submitted = p.0;
      was = was;
      books = ap (λ (q : Progress). fold after_group d.books (groups_along d q)) (sym w.does) ∙ books;
      seconds = omega (arith, ap total_seconds books, all.seconds);
      refunds =
          ap (refunds_of d) (sym w.does) ∙ sym (refunds_are d (changed s c) (canceled g ∷ []) h w.can.later w.can.told) ∙ ap refunds_in endings
          ∙ ap (λ (e : Ending). refunds_in (e ∷ [])) ending ∙ told_refund n p.0.document.proposal p.0.charged;
    }
  where
    here : (ws : List Submitted) (gs : List Group) (i : ℕ) (q : Submitted × Group) (w : Submitted) (g : Group) (n : ℕ) → i < length (zip ws gs)
        → i < length gs → IsCounted (map (λ x. x.number.0) gs) → (get_or (zip ws gs) i q).1.number.0 ≡ n → slice_get ws (n - 1) ≡ Some w
        → slice_get gs (n - 1) ≡ Some g → get_or (zip ws gs) i q ≡ (w, g)
    here ws gs i q w g n l m counted e a b =
        let second : (get_or (zip ws gs) i q).1 ≡ get_or gs i q.1 = second_at ws gs i q l in
        let number = number_at gs i q.1 counted m in
        let same : (get_or (zip ws gs) i q).1.number.0 ≡ (get_or gs i q.1).number.0 = ap (λ (x : Group). x.number.0) second in
        let place : i ≡ n - 1 = omega (arith, number, same, e) in
        pair_at ws gs i q w g l (ap (slice_get ws) place ∙ a) (ap (slice_get gs) place ∙ b)
      where
        second_at : (ws : List Submitted) (gs : List Group) (i : ℕ) (q : Submitted × Group) → i < length (zip ws gs)
            → (get_or (zip ws gs) i q).1 ≡ get_or gs i q.1
        second_at [] gs i q l = absurd (omega (arith, l))
        second_at (x ∷ ws) [] i q l = absurd (omega (arith, l))
        second_at (x ∷ ws) (y ∷ gs) zero q l = refl
        second_at (x ∷ ws) (y ∷ gs) (suc i) q l = second_at ws gs i q (omega (arith, l))
