-- Lists of a request's starts that grow, and the greatest of what they give.
use Rattle.std.proofs.Common.{◌≡◌, ◌≢◌, ℕ, ◌+◌, ◌*◌, ◌^◌, ◌<◌, ◌≤◌, ◌⊎◌, inl, inr, ℤ, pos, neg_ℤ, ◌-ℤ◌, ◌≤ℤ◌, List, [], ◌∷◌, ◌++◌, length}
use Rattle.std.proofs.Common.{length-append, Option, Some, None, All, Contains, MatchOption, refl, sym, ◌∙◌, subst, arith}
use Rattle.std.proofs.lemmas.Int.{ints}
use Rattle.std.proofs.lemmas.List.Elements.{All-nil, All-cons, All-append, All-contains, All-weaker, Contains-append_left, Contains-append_right}
use Rattle.plan_base.specs.declared.parts.Parts.{Parts}
use Rattle.plan_base.specs.declared.claim.Placement.{Placement}
use Rattle.plan_base.specs.Snapshot.{IsOrderly}
use Rattle.plan_base.specs.Starts.{IsPossibleStart, size_of}
use Rattle.plan_base.specs.Bound.{IsStartList, weight, surplus, IsBest}
use Rattle.plan_base.specs.Tables.{slice_after, horizon_end}
use Rattle.plan_base.specs.Verdict.{IsPriceInRange}
use Rattle.plan_base.proofs.Known.{telescope_known}
use Rattle.plan_base.proofs.Limits.{best_between, weight_between}
use Rattle.plan_base.proofs.Orders.{contains_first}
use Rattle.plan_base.proofs.Sizes.{start_size_above}
use Rattle.explain.specs.Through.{IsBestUntil, IsThrough, IsGain}
use Rattle.openings.specs.Openings.{IsStartFor, IsStartAt}
use Rattle.explain.specs.Forced.{CanTake, IsDetour, IsGreatestDetour}
use Rattle.explain.specs.Starts.{HasStartsWhere, HasStarts}
use Rattle.explain.specs.Crossings.{IsOnBefore, IsOn, IsBeforeTelescope, IsLargerOf, count_of, IsGainAt, IsGainIfAny, IsGreatestGain}
use Rattle.explain.specs.Crossings.{AreGainsTo, IsDetourInRange, IsDetourIfAny, IsCrossing, IsGreatestDetourTo, IsPassedTo}
use Rattle.openings.proofs.Numbers.{below_or_at, same_start}
use Rattle.explain.proofs.Passing.{through_is}
use Rattle.explain.proofs.Pieces.{pairs_append}

below_next : (a b : ℕ) → a < b → a < b + 1
below_next a b l = omega arith

at_next : (a b : ℕ) → a ≡ b → a < b + 1
at_next a b e = omega arith

module _ (s : Parts) (r : ℕ) where
  pub starts_none : (P : Placement → Type 0) → ((p : Placement) → IsStartFor s r p → ¬ (P p)) → HasStartsWhere s r P 0
  starts_none P none = (
    [],
    record {
      possible = All-nil (IsStartFor s r);
      which = All-nil P;
      once = λ i j d l m. absurd (omega arith);
      complete = λ p start is. absurd (none p start is);
    },
    refl,
  )

  -- the same starts
  pub starts_same : (P Q : Placement → Type 0) (n : ℕ) → ((p : Placement) → IsStartFor s r p → P p → Q p)
      → ((p : Placement) → IsStartFor s r p → Q p → P p) → HasStartsWhere s r P n → HasStartsWhere s r Q n
  starts_same P Q n to from (starts, are, count) = (
    starts,
    record {
      possible = are.possible;
      which = λ i d l. to _ (are.possible i d l) (are.which i d l);
      once = are.once;
      complete = λ p start is. are.complete p start (from p start is);
    },
    count,
  )

  -- those of P and those of Q, of which none is among both
  pub starts_both : (P Q R : Placement → Type 0) (n m : ℕ) → ((p : Placement) → P p → ¬ (Q p)) → ((p : Placement) → P p → R p)
      → ((p : Placement) → Q p → R p) → ((p : Placement) → R p → P p ⊎ Q p)
      → HasStartsWhere s r P n → HasStartsWhere s r Q m → HasStartsWhere s r R (n + m)
  starts_both P Q R n m apart first second either (xs, are_p, count_p) (ys, are_q, count_q) = (
    xs ++ ys,
    record {
      possible = All-append (IsStartFor s r) xs ys are_p.possible are_q.possible;
      which = All-append R xs ys (All-weaker P R first xs are_p.which) (All-weaker Q R second ys are_q.which);
      once = pairs_append (λ a b. a ≢ b) xs ys are_p.once are_q.once (λ i d l j e k same. apart _ (are_p.which i d l) (subst Q (sym same) (are_q.which j e k)));
      complete = λ p start is. elim (either p is) [
        | inl is_p ↦ Contains-append_left xs ys p (are_p.complete p start is_p)
        | inr is_q ↦ Contains-append_right xs ys p (are_q.complete p start is_q)
      ];
    },
    let size : length (xs ++ ys) ≡ length xs + length ys = length-append xs ys in omega arith,
  )

  -- one start
  pub starts_one : (P : Placement → Type 0) (p : Placement) → IsStartFor s r p → P p
      → ((q : Placement) → IsStartFor s r q → P q → q ≡ p) → HasStartsWhere s r P 1
  starts_one P p start is only = (
    p ∷ [],
    record {
      possible = All-cons (IsStartFor s r) p [] start (All-nil (IsStartFor s r));
      which = All-cons P p [] is (All-nil P);
      once = λ i j d l m. absurd (omega arith);
      complete = λ q is_start is_q. subst (Contains (p ∷ [])) (sym (only q is_start is_q)) (contains_first p []);
    },
    refl,
  )

module _ (s : Parts) (prices : List ℤ) (t r : ℕ) (orderly : IsOrderly s) where
  same_at : (p q : Placement) → IsStartAt s t r p → IsStartAt s t r q → p.slice.0 ≡ q.slice.0 → p ≡ q
  same_at p q hp hq at = same_start p q (hp.start.same_request ∙ sym hq.start.same_request) (hp.same_telescope ∙ sym hq.same_telescope) at

  no_start : (k : ℕ) → ((p : Placement) → IsStartAt s t r p → p.slice.0 ≢ k) → HasStartsWhere s r (λ p. (p.telescope.0 ≡ t) × (p.slice.0 ≡ k)) 0
  no_start k none = starts_none s r (λ p. (p.telescope.0 ≡ t) × (p.slice.0 ≡ k)) (λ p start at. none p (record { start = start; same_telescope = at.0 }) at.1)

  one_start : (k : ℕ) (g : ℤ) → IsGainAt s prices t r k g → HasStartsWhere s r (λ p. (p.telescope.0 ≡ t) × (p.slice.0 ≡ k)) 1
  one_start k g gain = starts_one s r (λ p. (p.telescope.0 ≡ t) × (p.slice.0 ≡ k)) gain.start gain.is_start.start (gain.is_start.same_telescope, gain.at)
      (λ q start at. same_at q gain.start (record { start = start; same_telescope = at.0 }) gain.is_start (at.1 ∙ sym gain.at))

  more_starts : (k n m : ℕ) → HasStartsWhere s r (IsOnBefore t k) n → HasStartsWhere s r (λ p. (p.telescope.0 ≡ t) × (p.slice.0 ≡ k)) m
      → HasStartsWhere s r (IsOnBefore t (k + 1)) (n + m)
  more_starts k n m before here =
      starts_both s r (IsOnBefore t k) (λ p. (p.telescope.0 ≡ t) × (p.slice.0 ≡ k)) (IsOnBefore t (k + 1)) n m
      (λ p is at. below_not_at p.slice.0 k is.1 at.1)
      (λ p is. (is.0, let l : p.slice.0 < k = is.1 in omega arith))
      (λ p at. (at.0, let e : p.slice.0 ≡ k = at.1 in omega arith))
      (λ p is. elim (below_or_at p.slice.0 k is.1) [ inl below ↦ inl (is.0, below) | inr at ↦ inr (is.0, at) ])
      before here
    where
      below_not_at : (a b : ℕ) → a < b → a ≢ b
      below_not_at a b l e = omega arith

  -- a gain by itself
  own : (k : ℕ) (g : ℤ) (p : Placement) → IsGainAt s prices t r k g → IsStartAt s t r p → p.slice.0 ≡ k → IsGain s prices t p g
  own k g p gain start at = subst (λ (q : Placement). IsGain s prices t q g) (same_at gain.start p gain.is_start start (gain.at ∙ sym at)) gain.gain

  -- no greater gain than the larger
  grown : (k : ℕ) (b g c : ℤ) → IsGreatestGain s prices t r k b → IsGainAt s prices t r k g → b ≤ℤ c → g ≤ℤ c → (c ≡ b) ⊎ (c ≡ g)
      → IsGreatestGain s prices t r (k + 1) c
  grown k b g c old gain first second one = record {
    reached = elim one [
      | inl e ↦ (old.reached.0, old.reached.1, below_next old.reached.0.slice.0 k old.reached.2, subst (IsGain s prices t old.reached.0) (sym e) old.reached.3)
      | inr e ↦ (gain.start, gain.is_start, at_next gain.start.slice.0 k gain.at, subst (IsGain s prices t gain.start) (sym e) gain.gain)
    ];
    bound = λ p start l. elim (below_or_at p.slice.0 k l) [
      | inl below ↦ let d = old.bound p start below in let m : d.0 ≤ℤ b = d.2 in (d.0, d.1, omega (arith, ints))
      | inr at ↦ (g, own k g p gain start at, second)
    ];
  }

  -- none before, and one
  first_gain : (k : ℕ) (g : ℤ) → ((p : Placement) → IsStartAt s t r p → ¬ (p.slice.0 < k)) → IsGainAt s prices t r k g → IsGreatestGain s prices t r (k + 1) g
  first_gain k g none gain = record {
    reached = (gain.start, gain.is_start, at_next gain.start.slice.0 k gain.at, gain.gain);
    bound = λ p start l. elim (below_or_at p.slice.0 k l) [
      | inl below ↦ absurd (none p start below)
      | inr at ↦ (g, own k g p gain start at, omega (arith, ints))
    ];
  }

  stays : (k : ℕ) (b : ℤ) → IsGreatestGain s prices t r k b → ((p : Placement) → IsStartAt s t r p → p.slice.0 ≢ k) → IsGreatestGain s prices t r (k + 1) b
  stays k b old none = record {
    reached = (old.reached.0, old.reached.1, below_next old.reached.0.slice.0 k old.reached.2, old.reached.3);
    bound = λ p start l. elim (below_or_at p.slice.0 k l) [ inl below ↦ old.bound p start below | inr at ↦ absurd (none p start at) ];
  }

  -- the gains with those of one slice more
  pub gains_more : (k n m : ℕ) (greatest gain next : Option ℤ) → AreGainsTo s prices t r k n greatest → IsGainIfAny s prices t r k gain
      → m ≡ n + count_of gain → IsLargerOf greatest gain next → AreGainsTo s prices t r (k + 1) m next
  gains_more k n m None None next old none count larger = record {
    starts = subst (HasStartsWhere s r (IsOnBefore t (k + 1))) (sym count) (more_starts k n 0 old.starts (no_start k none));
    gain = subst (λ o. MatchOption o ((p : Placement) → IsStartAt s t r p → ¬ (p.slice.0 < k + 1)) (IsGreatestGain s prices t r (k + 1))) (sym larger)
        (λ p start l. elim (below_or_at p.slice.0 k l) [ inl below ↦ old.gain p start below | inr at ↦ none p start at ]);
  }
  gains_more k n m None (Some g) next old gain count larger = record {
    starts = subst (HasStartsWhere s r (IsOnBefore t (k + 1))) (sym count) (more_starts k n 1 old.starts (one_start k g gain));
    gain = subst (λ o. MatchOption o ((p : Placement) → IsStartAt s t r p → ¬ (p.slice.0 < k + 1)) (IsGreatestGain s prices t r (k + 1))) (sym larger)
        (first_gain k g old.gain gain);
  }
  gains_more k n m (Some b) None next old none count larger = record {
    starts = subst (HasStartsWhere s r (IsOnBefore t (k + 1))) (sym count) (more_starts k n 0 old.starts (no_start k none));
    gain = subst (λ o. MatchOption o ((p : Placement) → IsStartAt s t r p → ¬ (p.slice.0 < k + 1)) (IsGreatestGain s prices t r (k + 1))) (sym larger)
        (stays k b old.gain none);
  }
  gains_more k n m (Some b) (Some g) next old gain count (c, is, first, second, one) = record {
    starts = subst (HasStartsWhere s r (IsOnBefore t (k + 1))) (sym count) (more_starts k n 1 old.starts (one_start k g gain));
    gain = subst (λ o. MatchOption o ((p : Placement) → IsStartAt s t r p → ¬ (p.slice.0 < k + 1)) (IsGreatestGain s prices t r (k + 1))) (sym is)
        (grown k b g c old.gain gain first second one);
  }

  pub gains_none : AreGainsTo s prices t r s.first.0 0 None
  gains_none = record {
    starts = starts_none s r (IsOnBefore t s.first.0) (λ p start is. not_before p.slice.0 s.first.0 start.possible.begins is.1);
    gain = λ p start. not_before p.slice.0 s.first.0 start.start.possible.begins;
  }
    where
      not_before : (a b : ℕ) → b ≤ a → ¬ (a < b)
      not_before a b h l = omega arith

  in_horizon : (p : Placement) → IsStartFor s r p → p.slice.0 < horizon_end s
  in_horizon p start =
      let some : 0 < size_of s p.request.0 = start_size_above s orderly p start.possible in
      let ends : p.slice.0 + size_of s p.request.0 ≤ horizon_end s = start.possible.ends in
      omega arith

  -- the gains before slice k are all, where no start is at it or later
  pub gains_all : (k n : ℕ) (greatest : Option ℤ) → ((p : Placement) → IsStartAt s t r p → p.slice.0 < k) → AreGainsTo s prices t r k n greatest
      → AreGainsTo s prices t r (horizon_end s) n greatest
  gains_all k n None before gains = record {
    starts = starts_same s r (IsOnBefore t k) (IsOnBefore t (horizon_end s)) n (λ p start is. (is.0, in_horizon p start))
        (λ p start is. (is.0, before p (record { start = start; same_telescope = is.0 }))) gains.starts;
    gain = λ p start l. gains.gain p start (before p start);
  }
  gains_all k n (Some b) before gains = record {
    starts = starts_same s r (IsOnBefore t k) (IsOnBefore t (horizon_end s)) n (λ p start is. (is.0, in_horizon p start))
        (λ p start is. (is.0, before p (record { start = start; same_telescope = is.0 }))) gains.starts;
    gain = record {
      reached = let found = gains.gain.reached in (found.0, found.1, in_horizon found.0 found.1.start, found.3);
      bound = λ p start l. gains.gain.bound p start (before p start);
    };
  }

  -- all gains of the horizon give what the telescope gives through the request
  pub through_gains : (n : ℕ) (greatest : Option ℤ) → AreGainsTo s prices t r (horizon_end s) n greatest
      → MatchOption greatest (¬ (CanTake s t r)) (IsThrough s prices t r)
  through_gains n None gains = λ can. gains.gain can.0 can.1 (in_horizon can.0 can.1.start)
  through_gains n (Some b) gains =
      let found = gains.gain.reached in
      through_is s prices t orderly r b (
        found.0,
        record { possible = found.1.start.possible; same_telescope = found.1.same_telescope },
        found.1.start.same_request,
        found.3,
      )
      (λ p start is_r. gains.gain.bound p
      (record { start = record { possible = start.possible; same_request = is_r }; same_telescope = start.same_telescope })
      (in_horizon p (record { possible = start.possible; same_request = is_r })))

  pub starts_on : (n : ℕ) (greatest : Option ℤ) → AreGainsTo s prices t r (horizon_end s) n greatest → HasStartsWhere s r (IsOn t) n
  starts_on n greatest gains = starts_same s r (IsOnBefore t (horizon_end s)) (IsOn t) n (λ p start is. is.0)
      (λ p start is. (is, in_horizon p start)) gains.starts

  -- a list of the one start
  single : (p : Placement) → IsStartAt s t r p → IsStartList s t s.first.0 (p ∷ [])
  single p start = record {
    possible = All-cons (IsPossibleStart s) p [] start.start.possible (All-nil (IsPossibleStart s));
    same_telescope = All-cons (λ q. q.telescope.0 ≡ t) p [] start.same_telescope (All-nil (λ q. q.telescope.0 ≡ t));
    later = All-cons (λ q. s.first.0 ≤ q.slice.0) p [] start.start.possible.begins (All-nil (λ q. s.first.0 ≤ q.slice.0));
    disjoint = λ i j d l m. absurd (omega arith);
  }

  pub is_detour : (through best : ℤ) → All IsPriceInRange prices → IsThrough s prices t r through → IsBest s prices t s.first.0 best
      → IsDetour s prices t r (through -ℤ best) × IsDetourInRange (through -ℤ best)
  is_detour through best range is_through is_best =
      let no_more : through ≤ℤ best = subst (λ (z : ℤ). z ≤ℤ best) is_through.reached.2 (is_best.bound is_through.reached.0 is_through.reached.1.list) in
      let has = is_through.reached.1.has in
      let list = is_through.reached.1.list in
      let p : Placement = has.1 in
      let start : IsStartAt s t r p =
      record {
        start = record {
          possible = All-contains (IsPossibleStart s) is_through.reached.0 p list.possible (has.0, has.2, has.3);
          same_request = has.4;
        };
        same_telescope = All-contains (λ q. q.telescope.0 ≡ t) is_through.reached.0 p list.same_telescope
            (has.0, has.2, has.3);
      } in
      let least : surplus s prices (p ∷ []) ≤ℤ through = is_through.bound (p ∷ []) (record { list = single p start; has = (0, p, omega arith, refl, has.4) }) in
      let low : neg_ℤ (pos (10 ^ 12)) ≤ℤ weight s prices p = (weight_between s prices p orderly range start.start.possible).0 in
      let best_low : pos 0 ≤ℤ best = (best_between s prices t s.first.0 best orderly range is_best).0 in
      let best_high : best ≤ℤ pos 1440414720000000 = (best_between s prices t s.first.0 best orderly range is_best).1 in
      (record { through = through; best = best; is_through = is_through; is_best = is_best; difference = refl }, (omega (arith, ints), omega (arith, ints)))

  -- what ends by a slice gives no more than the best
  pub until_between : (k : ℕ) (until best : ℤ) → All IsPriceInRange prices → IsBestUntil s prices t k until → IsBest s prices t s.first.0 best
      → (pos 0 ≤ℤ until) × (until ≤ℤ pos 1440414720000000)
  until_between k until best range is_until is_best =
      let list = is_until.reached.1 in
      let most : surplus s prices is_until.reached.0 ≤ℤ best =
      is_best.bound is_until.reached.0
      (record {
        possible = list.possible;
        same_telescope = list.same_telescope;
        later = λ i d l. (list.possible i d l).begins;
        disjoint = list.disjoint;
      }) in
      let is : surplus s prices is_until.reached.0 ≡ until = is_until.reached.2 in
      let least : pos 0 ≤ℤ until = is_until.bound []
      (record {
        possible = All-nil (IsPossibleStart s);
        same_telescope = All-nil (λ p. p.telescope.0 ≡ t);
        ended = All-nil (λ p. slice_after s p ≤ k);
        disjoint = λ i j d l m. absurd (omega arith);
      }) in
      let best_high : best ≤ℤ pos 1440414720000000 = (best_between s prices t s.first.0 best orderly range is_best).1 in
      (least, omega (arith, ints))

module _ (s : Parts) (prices : List ℤ) (r : ℕ) (orderly : IsOrderly s) where
  pub passed_none : IsPassedTo s prices r 0 0 None
  passed_none = record {
    starts = starts_none s r (IsBeforeTelescope 0) (λ p start is. absurd (omega (arith, is)));
    few = omega arith;
    greatest = λ t l. absurd (omega arith);
  }

  grown_detour : (n : ℕ) (b d c : ℤ) → IsGreatestDetourTo s prices r n b → CanTake s n r → IsDetour s prices n r d → IsDetourInRange d → b ≤ℤ c
      → d ≤ℤ c → (c ≡ b) ⊎ (c ≡ d) → IsGreatestDetourTo s prices r (n + 1) c
  grown_detour n b d c old can is range first second one = record {
    reached = elim one [
      | inl e ↦ (old.reached.0, below_next old.reached.0 n old.reached.1, old.reached.2, subst (IsDetour s prices old.reached.0 r) (sym e) old.reached.3)
      | inr e ↦ (n, omega arith, can, subst (IsDetour s prices n r) (sym e) is)
    ];
    bound = λ t l take. elim (below_or_at t n l) [
      | inl below ↦ let x = old.bound t below take in let m : x.0 ≤ℤ b = x.2 in (x.0, x.1, omega (arith, ints))
      | inr at ↦ (d, subst (λ (u : ℕ). IsDetour s prices u r d) (sym at) is, second)
    ];
    range = elim one [ inl e ↦ subst IsDetourInRange (sym e) old.range | inr e ↦ subst IsDetourInRange (sym e) range ];
  }

  first_detour : (n : ℕ) (d : ℤ) → ((t : ℕ) → t < n → ¬ (CanTake s t r)) → CanTake s n r → IsDetour s prices n r d → IsDetourInRange d
      → IsGreatestDetourTo s prices r (n + 1) d
  first_detour n d none can is range = record {
    reached = (n, omega arith, can, is);
    bound = λ t l take. elim (below_or_at t n l) [
      | inl below ↦ absurd (none t below take)
      | inr at ↦ (d, subst (λ (u : ℕ). IsDetour s prices u r d) (sym at) is, omega (arith, ints))
    ];
    range = range;
  }

  detour_stays : (n : ℕ) (b : ℤ) → IsGreatestDetourTo s prices r n b → ¬ (CanTake s n r) → IsGreatestDetourTo s prices r (n + 1) b
  detour_stays n b old none = record {
    reached = (old.reached.0, below_next old.reached.0 n old.reached.1, old.reached.2, old.reached.3);
    bound = λ t l take. elim (below_or_at t n l) [ inl below ↦ old.bound t below take | inr at ↦ absurd (none (subst (λ (u : ℕ). CanTake s u r) at take)) ];
    range = old.range;
  }

  -- a detour tells that the telescope can take the request
  taken : (t : ℕ) (d : ℤ) → IsDetour s prices t r d → CanTake s t r
  taken t d is =
      let has = is.is_through.reached.1.has in
      let list = is.is_through.reached.1.list in (
        has.1,
        record {
          start = record {
            possible = All-contains (IsPossibleStart s) is.is_through.reached.0 has.1 list.possible (has.0, has.2, has.3);
            same_request = has.4;
          };
          same_telescope = All-contains (λ q. q.telescope.0 ≡ t) is.is_through.reached.0 has.1 list.same_telescope
              (has.0, has.2, has.3);
        },
      )

  greatest_more : (n : ℕ) (old detour next : Option ℤ) → MatchOption old ((t : ℕ) → t < n → ¬ (CanTake s t r)) (IsGreatestDetourTo s prices r n)
      → IsDetourIfAny s prices n r detour → IsLargerOf old detour next
      → MatchOption next ((t : ℕ) → t < n + 1 → ¬ (CanTake s t r)) (IsGreatestDetourTo s prices r (n + 1))
  greatest_more n None None next before none larger =
      subst (λ o. MatchOption o ((t : ℕ) → t < n + 1 → ¬ (CanTake s t r)) (IsGreatestDetourTo s prices r (n + 1))) (sym larger)
      (λ t l. elim (below_or_at t n l) [ inl below ↦ before t below | inr at ↦ λ take. none (subst (λ (u : ℕ). CanTake s u r) at take) ])
  greatest_more n None (Some d) next before is larger =
      subst (λ o. MatchOption o ((t : ℕ) → t < n + 1 → ¬ (CanTake s t r)) (IsGreatestDetourTo s prices r (n + 1))) (sym larger)
      (first_detour n d before (taken n d is.0) is.0 is.1)
  greatest_more n (Some b) None next before none larger =
      subst (λ o. MatchOption o ((t : ℕ) → t < n + 1 → ¬ (CanTake s t r)) (IsGreatestDetourTo s prices r (n + 1))) (sym larger) (detour_stays n b before none)
  greatest_more n (Some b) (Some d) next before is (c, e, first, second, one) =
      subst (λ o. MatchOption o ((t : ℕ) → t < n + 1 → ¬ (CanTake s t r)) (IsGreatestDetourTo s prices r (n + 1))) (sym e)
      (grown_detour n b d c before (taken n d is.0) is.0 is.1 first second one)

  -- one telescope more
  pub passed_more : (n count starts : ℕ) (old detour next : Option ℤ) → IsPassedTo s prices r n count old → IsCrossing s prices n r starts detour
      → IsLargerOf old detour next → IsPassedTo s prices r (n + 1) (count + starts) next
  passed_more n count starts old detour next passed crossing larger = record {
    starts = starts_both s r (IsBeforeTelescope n) (IsOn n) (IsBeforeTelescope (n + 1)) count starts
        (λ p is at. below_not_at p.telescope.0 n is at)
        (λ p is. below_next p.telescope.0 n is)
        (λ p at. at_next p.telescope.0 n at)
        (λ p is. below_or_at p.telescope.0 n is)
        passed.starts crossing.starts;
    few = let a : count ≤ n * 1440 = passed.few in let b : starts ≤ 1440 = crossing.few in omega arith;
    greatest = greatest_more n old detour next passed.greatest crossing.is_detour larger;
  }
    where
      below_not_at : (a b : ℕ) → a < b → a ≢ b
      below_not_at a b l e = omega arith

  -- all starts
  pub all_starts : (count : ℕ) → HasStartsWhere s r (IsBeforeTelescope (length s.telescopes)) count → HasStarts s r count
  all_starts count = starts_same s r (IsBeforeTelescope (length s.telescopes)) (λ p. Unit {0}) count (λ p start is. tt)
      (λ p start any. telescope_known s p orderly start.possible)

  pub greatest_detour : (b : ℤ) → IsGreatestDetourTo s prices r (length s.telescopes) b → IsGreatestDetour s prices r b
  greatest_detour b greatest = record {
    reached = (greatest.reached.0, greatest.reached.2, greatest.reached.3);
    bound = λ t take. greatest.bound t
        (subst (λ (n : ℕ). n < length s.telescopes) take.1.same_telescope (telescope_known s take.0 orderly take.1.start.possible)) take;
  }
