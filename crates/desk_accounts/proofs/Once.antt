-- No group is refunded twice, and no request is completed twice.
use Rattle.std.proofs.Common.{◌≡◌, ◌≢◌, ◌∙◌, ap, sym, subst, refl, ℕ, zero, suc, ◌<◌, List, [], ◌∷◌, ◌++◌, length, get_or, map, All, Option, Some, None, arith}
use Rattle.std.specs.Prelude.{AllPairs}
use Rattle.std.specs.List.{Any, Contains, cons_option}
use Rattle.std.specs.Option.{IfSome, option_to_list}
use Rattle.std.proofs.lemmas.Grind.{flat_map-append}
use Rattle.std.proofs.lemmas.List.{append-nil}
use Rattle.std.proofs.lemmas.List.Elements.{All-nil, All-cons, All-head, All-tail, All-append, All-weaker, filter_map-append}
use Rattle.std.proofs.lemmas.List.Kept.{AllPairs-cons}
use Rattle.plan_base.specs.declared.number.GroupNo.{GroupNo}
use Rattle.plan_base.specs.declared.number.RequestNo.{RequestNo}
use Rattle.desk_events.specs.declared.reply.GroupRefund.{GroupRefund}
use Rattle.desk_core.specs.Desk.{StateSeen, start}
use Rattle.desk_accounts.specs.Balance.{Told, GroupTold, refunds_in, all_refunds, completed_told, all_completed}
use Rattle.desk_accounts.specs.Laws.{IsRefundOf}
use Rattle.desk_accounts.proofs.Completing.{IsOverIn, Completes}
use Rattle.desk_accounts.proofs.Goes.{groups_of, runs_of}
use Rattle.desk_accounts.proofs.Known.{charge_told}
use Rattle.desk_accounts.proofs.Refunds.{IsClosedIn, AreApart, GivesBack}

-- ---- pairs

pairs_both : {X : Type 0} (R : X → X → Type 0) (xs ys : List X) → AllPairs R xs → AllPairs R ys → All (λ x. All (R x) ys) xs → AllPairs R (xs ++ ys)
pairs_both R [] ys h k across = k
pairs_both R (x ∷ xs) ys h k across =
    AllPairs-cons R x (xs ++ ys)
    (All-append (R x) xs ys (λ j d l. h 0 (suc j) d (omega arith) (omega (arith, l))) (All-head (λ y. All (R y) ys) x xs across))
    (pairs_both R xs ys (λ i j d below l. h (suc i) (suc j) d (omega (arith, below)) (omega (arith, l))) k (All-tail (λ y. All (R y) ys) x xs across))

some_all : {X : Type 0} (P : X → Type 0) (o : Option X) → IfSome o P → All P (option_to_list o)
some_all P None h = All-nil P
some_all P (Some x) h = All-cons P x [] h (All-nil P)

single : {X : Type 0} (R : X → X → Type 0) (o : Option X) → AllPairs R (option_to_list o)
single R None = λ i j d below l. let none : j < 0 = l in absurd (omega (arith, none))
single R (Some x) = λ i j d below l. let one : j < 1 = l in absurd (omega (arith, below, one))

-- ---- what was told so far

-- the groups that were refunded are closed, and the requests that were completed are over; each once
pub record AreOnce (entries : List Told) (s : StateSeen) : Type 0 where
  pub closed : All (λ r. IsClosedIn (groups_of s) r.group) (all_refunds entries)
  pub apart : AreApart (all_refunds entries)
  pub over : All (IsOverIn (runs_of s)) (all_completed entries)
  pub once : AllPairs (λ m n. m ≢ n) (all_completed entries)

-- before the first
pub none_yet : AreOnce [] start
none_yet = record {
  closed = All-nil (λ r. IsClosedIn [] r.group);
  apart = λ i j d below l. let none : j < 0 = l in absurd (omega (arith, none));
  over = All-nil (IsOverIn []);
  once = λ i j d below l. let none : j < 0 = l in absurd (omega (arith, none));
}

refunds-push : (entries : List Told) (t : Told) → all_refunds (entries ++ t ∷ []) ≡ all_refunds entries ++ refunds_in t.reply
refunds-push entries t =
    flat_map-append (λ (x : Told). refunds_in x.reply) entries (t ∷ [])
    ∙ ap (λ (l : List GroupRefund). all_refunds entries ++ l) (append-nil (refunds_in t.reply))

one_completed : (o : Option RequestNo) → cons_option o [] ≡ option_to_list o
one_completed None = refl
one_completed (Some n) = refl

completed-push : (entries : List Told) (t : Told) → all_completed (entries ++ t ∷ []) ≡ all_completed entries ++ option_to_list (completed_told t)
completed-push entries t =
    filter_map-append completed_told entries (t ∷ []) ∙ ap (λ (l : List RequestNo). all_completed entries ++ l) (one_completed (completed_told t))

-- one entry more
pub once_more : (entries : List Told) (t : Told) (before after : StateSeen) → AreOnce entries before
    → GivesBack (refunds_in t.reply) (groups_of before) (groups_of after)
    → Completes (completed_told t) (runs_of before) (runs_of after) → AreOnce (entries ++ t ∷ []) after
once_more entries t before after h back done =
    let old : List GroupRefund = all_refunds entries in
    let new : List GroupRefund = refunds_in t.reply in
    let older : List RequestNo = all_completed entries in
    let newer : List RequestNo = option_to_list (completed_told t) in
    record {
      closed =
          subst (All (λ r. IsClosedIn (groups_of after) r.group)) (sym (refunds-push entries t))
          (All-append (λ r. IsClosedIn (groups_of after) r.group) old new
          (All-weaker (λ r. IsClosedIn (groups_of before) r.group) (λ r. IsClosedIn (groups_of after) r.group) (λ r c. back.stay r.group c) old h.closed)
          back.closed);
      apart =
          subst AreApart (sym (refunds-push entries t))
          (pairs_both (λ r s. r.group ≢ s.group) old new h.apart back.apart (λ k d l. back.fresh (get_or old k d).group (h.closed k d l)));
      over =
          subst (All (IsOverIn (runs_of after))) (sym (completed-push entries t))
          (All-append (IsOverIn (runs_of after)) older newer (All-weaker (IsOverIn (runs_of before)) (IsOverIn (runs_of after)) done.stay older h.over)
          (some_all (IsOverIn (runs_of after)) (completed_told t) done.over));
      once =
          subst (AllPairs (λ m n. m ≢ n)) (sym (completed-push entries t))
          (pairs_both (λ m n. m ≢ n) older newer h.once (single (λ m n. m ≢ n) (completed_told t))
          (λ k d l. some_all (λ m. get_or older k d ≢ m) (completed_told t) (done.fresh (get_or older k d) (h.over k d l))));
    }

-- ---- the charge of a group that is told

charge_found : (groups : List GroupTold) (r : GroupRefund) → Contains (map charge_told groups) (r.group, r.seconds) → Any (IsRefundOf r) groups
charge_found [] r c = let l : c.0 < 0 = c.1 in absurd (omega (arith, l))
charge_found (g ∷ groups) r c = by (λ d. charge_found groups r d) c.0 c.1 c.2
  where
    by : (Contains (map charge_told groups) (r.group, r.seconds) → Any (IsRefundOf r) groups) → (k : ℕ) → k < length (map charge_told (g ∷ groups))
        → get_or (map charge_told (g ∷ groups)) k (r.group, r.seconds) ≡ (r.group, r.seconds) → Any (IsRefundOf r) (g ∷ groups)
    by later zero l is = (0, g, omega arith, refl, record { group = sym (ap (λ (x : GroupNo × ℕ). x.0) is); seconds = sym (ap (λ (x : GroupNo × ℕ). x.1) is) })
    by later (suc k) l is =
        let rest : Any (IsRefundOf r) groups = later (k, omega (arith, l), is) in
        let within : rest.0 < length groups = rest.2 in
        (suc rest.0, rest.1, omega (arith, within), rest.3, rest.4)

-- a refund of a charge that is told
pub all_charged : (groups : List GroupTold) (rs : List GroupRefund) → All (λ r. Contains (map charge_told groups) (r.group, r.seconds)) rs
    → All (λ r. Any (IsRefundOf r) groups) rs
all_charged groups rs h = All-weaker (λ r. Contains (map charge_told groups) (r.group, r.seconds)) (λ r. Any (IsRefundOf r) groups) (charge_found groups) rs h
