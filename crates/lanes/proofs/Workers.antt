-- What a worker keeps, step by step.
use Rattle.std.proofs.Common.{◌≡◌, ℕ, ◌+◌, ◌≤◌, ◌<◌, ◌⊎◌, inl, inr, Bool, true, false, not, nat_lt, List, [], ◌∷◌, ◌++◌, length, map, take}
use Rattle.std.proofs.Common.{slice_index_or, slice_set, refl, sym, ap, subst, ◌∙◌, arith}
use Rattle.std.specs.Prelude.{All, Contains}
use Rattle.std.proofs.lemmas.List.{length-set, length-take-le, get_or-take, get_or-set_same, get_or-set_other, take_more_set, take-take, length-append}
use Rattle.std.proofs.lemmas.List.{get_or_default}
use Rattle.std.specs.Vec.{with_item}
use Rattle.std.proofs.Math.Seq.{take-set-lt}
use Rattle.std.proofs.lemmas.List.Elements.{All-set, Contains-append_right}
use Rattle.std.proofs.lemmas.Bool.{false≢true}
use Rattle.plan_base.specs.declared.parts.Parts.{Parts}
use Rattle.plan_base.specs.declared.claim.Settings.{Settings}
use Rattle.plan_base.specs.declared.claim.Placement.{Placement}
use Rattle.plan_base.specs.Snapshot.{IsOrderly}
use Rattle.plan_base.specs.Feasible.{IsFeasible}
use Rattle.plan_base.specs.declared.fault.Counted.TheVariants.{Requests}
use Rattle.plan_base.proofs.Limits.{length_of_plan}
use Rattle.plan_base.proofs.Orders.{contains_first}
use Rattle.board.specs.declared.seat.SeatView.{SeatView}
use Rattle.board.specs.declared.seat.BoardSeat.{BoardSeat}
use Rattle.board.specs.Seats.{view}
use Rattle.board.specs.Steps.{after_claim, after_lower, after_raise, IsCounterFor}
use Rattle.lanes.specs.declared.lane_prices.LanePrices.{LanePrices}
use Rattle.lanes.specs.declared.worker.LaneFound.{LaneFound}
use Rattle.lanes.specs.declared.worker.Worker.{Worker}
use Rattle.lanes.specs.Rounds.{IsLane, IsAnswer, IsLaneNow, Stepping, IsSolvedAt}
use Rattle.lanes.specs.Found.{FoundSeen, bettered, cleared, ArePrices, IsFound}
use Rattle.lanes.specs.Searched.{IsMetFor}
use Rattle.lanes.specs.InStep.{IsMadeIn, IsInStep}
use Rattle.lanes.specs.Working.{IsEquipped, IsSameWorker, IsWorking, AreFresh, HasMade, IsLook, HasMetAt, IsNoneLeft, AreStoppedStill, IsNextMade}
use Rattle.lanes.specs.Working.{IsStopped, IsDone}
use Rattle.lanes.proofs.Lists.{same_or_not}
use Rattle.lanes.proofs.Finding.{none_found, either_prices}
use Rattle.lanes.proofs.InStep.{looked, claimed_other, begun}
use Rattle.lanes.proofs.RoundInStep.{given, round_made}
use Rattle.lanes.proofs.Stopping.{stopped_one}
use Rattle.lanes.proofs.Ending.{searched}
use Rattle.lanes.proofs.Keeping.{AreMade, kept_of, kept}

-- a feasible plan has few placements
pub few_placed : (s : Parts) (plan : List Placement) → IsOrderly s → IsFeasible s plan → length plan ≤ 1024
few_placed s plan orderly feasible = let l = length_of_plan s plan feasible in let most = orderly.within Requests 0 0 (omega arith) in omega arith

-- what a worker has room for, after a step that changes nothing of it
pub equipped_on : (L : ℕ) (w u : Worker L) → IsEquipped L w → IsSameWorker L w u → length u.steps.lanes ≡ length w.steps.lanes
    → length u.lanes.items ≡ length w.lanes.items
    → All (λ y. ArePrices w.steps.snapshot y.found.prices y.found.quota_prices) u.lanes.items → u.taken ≤ w.share
    → (view u.seat).seats ≡ (view w.seat).seats → (view u.seat).tickets ≡ (view w.seat).tickets → IsEquipped L u
equipped_on L w u h same lanes founds prices taken seats tickets = record {
  orderly = subst IsOrderly (sym same.snapshot) h.orderly;
  rounds = (let e = ap (λ (x : Settings). x.rounds) same.settings in let m = h.rounds in omega arith);
  lanes = (let e = ap (λ (x : Settings). x.lanes) same.settings in let m = h.lanes in omega arith);
  prices_count = lanes ∙ h.prices_count;
  founds_count = founds ∙ h.founds_count;
  some = (let e = same.share in let m = h.some in omega arith);
  share = (let e = same.share in let m = h.share in omega arith);
  room = h.room;
  taken = (let e = same.share in omega arith);
  prices = subst (λ (s : Parts). All (λ y. ArePrices s y.found.prices y.found.quota_prices) u.lanes.items) (sym same.snapshot) prices;
  seats = seats ∙ h.seats;
  no_tickets = tickets ∙ h.no_tickets;
}

-- the lanes in step are among those for which there is room
pub lanes_fit : (L : ℕ) (w : Worker L) → IsWorking L w → (w.taken ≤ length w.steps.lanes) × (w.taken ≤ length w.lanes.items)
    × (w.share ≤ length w.steps.lanes) × (w.share ≤ length w.lanes.items)
lanes_fit L w h =
    let a = h.equipped.taken in let b = h.equipped.share in let c = h.equipped.prices_count in let d = h.equipped.founds_count in
    ((omega arith), (omega arith), (omega arith), (omega arith))

-- after a look
pub working_looked : (L : ℕ) (w : Worker L) (seat : BoardSeat) → IsWorking L w → IsLook (view w.seat) (view seat) → IsWorking L (record w { seat = seat })
working_looked L w seat h look = record {
  equipped = equipped_on L w (record w { seat = seat }) h.equipped (record { settings = refl; opening = refl; snapshot = refl; share = refl }) refl
      refl h.equipped.prices h.equipped.taken look.seats look.tickets;
  in_step = looked w.steps.snapshot w.settings w.opening (view w.seat) (view seat) w.found (take w.taken w.steps.lanes)
      (take w.taken w.lanes.items) look h.in_step;
}

-- after a number was claimed that is no lane
pub working_none_left : (L : ℕ) (w : Worker L) (seat : BoardSeat) (n : ℕ) → IsWorking L w → view seat ≡ after_claim (view w.seat) n → w.settings.lanes ≤ n
    → IsWorking L (record w { seat = seat })
working_none_left L w seat n h is beyond = record {
  equipped = equipped_on L w (record w { seat = seat }) h.equipped (record { settings = refl; opening = refl; snapshot = refl; share = refl }) refl
      refl h.equipped.prices h.equipped.taken
      (ap (λ (v : SeatView). v.seats) is) (ap (λ (v : SeatView). v.tickets) is);
  in_step = subst (λ (v : SeatView). IsInStep w.steps.snapshot w.settings w.opening v w.found (take w.taken w.steps.lanes)
      (take w.taken w.lanes.items)) (sym is)
      (claimed_other w.steps.snapshot w.settings w.opening (view w.seat) w.found (take w.taken w.steps.lanes) (take w.taken w.lanes.items) h.in_step n beyond);
}

-- the number that was claimed is among the claims
pub claimed_now : (v w : SeatView) (n : ℕ) → w ≡ after_claim v n → Contains w.claims n
claimed_now v w n is = subst (λ (u : SeatView). Contains u.claims n) (sym is) (Contains-append_right v.claims (n ∷ []) n (contains_first n []))

pub claims_longer : (v w : SeatView) (n : ℕ) → w ≡ after_claim v n → length w.claims ≡ length v.claims + 1
claims_longer v w n is = ap (λ (u : SeatView). length u.claims) is ∙ length-append v.claims (n ∷ [])

-- after a lane was claimed and begun
pub in_step_begun : (s t : Parts) (settings : Settings) (opening : ℕ) (v w : SeatView) (f : FoundSeen) (lanes next : List LanePrices)
    (founds : List LaneFound) (taken n : ℕ) (y : LaneFound)
    → IsInStep s settings opening v f (take taken lanes) (take taken founds) → t ≡ s → w ≡ after_claim v n → IsCounterFor v n → n < settings.lanes
    → taken < length lanes → taken < length founds
    → IsLaneNow s taken n 0 lanes next → y.stopped ≡ false → y.found ≡ cleared (slice_index_or founds taken y).found
    → All (λ z. ArePrices s z.found.prices z.found.quota_prices) founds
    → IsInStep t settings opening w f (take (taken + 1) next) (take (taken + 1) (slice_set founds taken y))
in_step_begun s t settings opening v w f lanes next founds taken n y h same is counter known lanes_lt founds_lt now going found prices =
    let x : LanePrices = now.prices in
    let nothing : IsFound s settings.workers (IsMadeIn x) 0 [] y.found =
    none_found s settings.workers (IsMadeIn x) y.found 0 (λ j k m. (let a = m.1 in let b = now.rounds in absurd (omega arith)))
    (ap (λ (g : FoundSeen). g.bound) found) (ap (λ (g : FoundSeen). g.value) found) (ap (λ (g : FoundSeen). g.plan) found)
    (subst (λ (g : FoundSeen). ArePrices s g.prices g.quota_prices) (sym found) (prices taken y founds_lt)) in
    let here = begun s settings opening v f (take taken lanes) (take taken founds) h n x y counter known now.same_lane now.rounds going nothing in
    let names : take (taken + 1) next ≡ take taken lanes ++ x ∷ [] = ap (λ (xs : List LanePrices). take (taken + 1) xs) now.set
    ∙ take_more_set lanes taken x lanes_lt in
    subst (λ (p : Parts). IsInStep p settings opening w f (take (taken + 1) next) (take (taken + 1) (slice_set founds taken y))) (sym same)
    (subst (λ (u : SeatView). IsInStep s settings opening u f (take (taken + 1) next) (take (taken + 1) (slice_set founds taken y))) (sym is)
    (subst (λ (xs : List LanePrices). IsInStep s settings opening (after_claim v n) f xs (take (taken + 1) (slice_set founds taken y))) (sym names)
    (subst (λ (ys : List LaneFound). IsInStep s settings opening (after_claim v n) f (take taken lanes ++ x ∷ []) ys)
    (sym (take_more_set founds taken y founds_lt)) here)))

-- what a lane in step has found, where there is one
plan_at : (s : Parts) (settings : Settings) (opening : ℕ) (v : SeatView) (f : FoundSeen) (lanes : List LanePrices)
    (founds : List LaneFound) (l : ℕ) (e : LaneFound)
    → IsInStep s settings opening v f lanes founds → l < length lanes → IsFeasible s (slice_index_or founds l e).found.plan
plan_at s settings opening v f [] founds l e h lt = absurd (omega arith)
plan_at s settings opening v f (x ∷ xs) founds l e h lt = (h.each l x e lt).found.feasible

pub plan_few : (L : ℕ) (w : Worker L) (l : ℕ) (y : LaneFound) → IsWorking L w → l < w.taken → y ≡ slice_index_or w.lanes.items l y → length y.found.plan ≤ 1024
plan_few L w l y h lt is =
    let counted : length (take w.taken w.steps.lanes) ≡ w.taken = length-take-le w.taken w.steps.lanes (let a = h.equipped.taken in
    let b = h.equipped.share in let c = h.equipped.prices_count in omega arith) in
    let feasible = plan_at w.steps.snapshot w.settings w.opening (view w.seat) w.found (take w.taken w.steps.lanes)
    (take w.taken w.lanes.items) l y h.in_step (omega arith) in
    let same : slice_index_or (take w.taken w.lanes.items) l y ≡ y = get_or-take w.taken w.lanes.items l y lt ∙ sym is in
    few_placed w.steps.snapshot y.found.plan h.equipped.orderly (subst (λ (z : LaneFound). IsFeasible w.steps.snapshot z.found.plan) same feasible)

-- after what lanes in step have found was kept
pub working_kept : (L : ℕ) (w u : Worker L) (n : ℕ) → IsWorking L w → HasMade L w w.settings.rounds → n ≡ w.taken
    → u ≡ record w { found = kept_of w.found (take n w.lanes.items) }
    → IsWorking L (record u { taken = 0 })
working_kept L w u n h made whole is =
    let fits : w.taken ≤ length w.steps.lanes = (let a = h.equipped.taken in let b = h.equipped.share in let c = h.equipped.prices_count in omega arith) in
    let long : length (take w.taken w.steps.lanes) ≡ w.taken = length-take-le w.taken w.steps.lanes fits in
    let all : AreMade (take w.taken w.steps.lanes) (take w.taken w.lanes.items) w.settings.rounds = λ l d e lt.
    let less : l < w.taken = omega arith in
    subst (λ (y : LaneFound). (y.stopped ≡ true) ⊎ ((slice_index_or (take w.taken w.steps.lanes) l d).made ≡ w.settings.rounds))
    (sym (get_or-take w.taken w.lanes.items l e less))
    (subst (λ (x : LanePrices). ((slice_index_or w.lanes.items l e).stopped ≡ true) ⊎ (x.made ≡ w.settings.rounds))
    (sym (get_or-take w.taken w.steps.lanes l d less)) (made l d e less)) in
    let here = kept w.steps.snapshot w.settings w.opening (view w.seat) w.found (take w.taken w.steps.lanes)
    (take w.taken w.lanes.items) h.equipped.orderly h.in_step all in
    subst (λ (z : Worker L). IsWorking L (record z { taken = 0 })) (sym is)
    (subst (λ (i : ℕ). IsWorking L (record w { found = kept_of w.found (take i w.lanes.items); taken = 0 })) (sym whole) (record {
      equipped = equipped_on L w _ h.equipped (record { settings = refl; opening = refl; snapshot = refl; share = refl }) refl refl h.equipped.prices
          (omega arith) refl refl;
      in_step = here;
    }))

-- a lane in step stops
pub working_stopped : (L : ℕ) (w : Worker L) (l : ℕ) (y : LaneFound) → IsWorking L w → IsMetFor (view w.seat) → l < w.taken
    → (w.settings.workers ≡ 1 → HasMetAt w.found w.lanes.items l)
    → y.found ≡ (slice_index_or w.lanes.items l y).found → IsWorking L (record w { lanes = with_item w.lanes l y })
working_stopped L w l y h met lt why found =
    let fits : w.taken ≤ length w.steps.lanes = (let a = h.equipped.taken in let b = h.equipped.share in let c = h.equipped.prices_count in omega arith) in
    let also : w.taken ≤ length w.lanes.items = (let a = h.equipped.taken in let b = h.equipped.share in let c = h.equipped.founds_count in omega arith) in
    let long : length (take w.taken w.steps.lanes) ≡ w.taken = length-take-le w.taken w.steps.lanes fits in
    let cut : take (l + 1) (take w.taken w.lanes.items) ≡ take (l + 1) w.lanes.items = take-take (l + 1) w.taken w.lanes.items (omega arith) in
    let same : slice_index_or (take w.taken w.lanes.items) l y ≡ slice_index_or w.lanes.items l y = get_or-take w.taken w.lanes.items l y lt in
    record {
      equipped = equipped_on L w (record w { lanes = with_item w.lanes l y }) h.equipped
          (record { settings = refl; opening = refl; snapshot = refl; share = refl }) refl (length-set w.lanes.items l y)
          (All-set (λ z. ArePrices w.steps.snapshot z.found.prices z.found.quota_prices) w.lanes.items l y
          (subst (λ (g : FoundSeen). ArePrices w.steps.snapshot g.prices g.quota_prices) (sym found) (h.equipped.prices l y (omega arith))) h.equipped.prices)
          h.equipped.taken refl refl;
      in_step = subst (λ (ys : List LaneFound). IsInStep w.steps.snapshot w.settings w.opening (view w.seat) w.found (take w.taken w.steps.lanes) ys)
          (sym (take-set-lt w.taken w.lanes.items l y lt))
          (stopped_one w.steps.snapshot w.settings w.opening (view w.seat) w.found (take w.taken w.steps.lanes)
          (take w.taken w.lanes.items) h.in_step l (omega arith) y y met
          (λ alone. (let m = why alone in record {
            bound = m.bound;
            value = m.value;
            found_bound = subst (λ (ys : List LaneFound). Contains (w.found.bound ∷ map (λ z. z.found.bound) ys) m.bound) (sym cut) m.found_bound;
            found_value = subst (λ (ys : List LaneFound). Contains (w.found.value ∷ map (λ z. z.found.value) ys) m.value) (sym cut) m.found_value;
            met = m.met;
          }))
          (found ∙ ap (λ (z : LaneFound). z.found) (sym same)));
    }

-- after a lane in step made its next round
pub in_step_found : (s t : Parts) (settings : Settings) (opening : ℕ) (v w : SeatView) (f : FoundSeen) (lanes next : List LanePrices)
    (founds : List LaneFound) (taken l : ℕ)
    (x : LanePrices) (y : LaneFound) (bound value low high : ℕ) (plan : List Placement)
    → IsInStep s settings opening v f (take taken lanes) (take taken founds) → IsOrderly s → t ≡ s → l < taken → taken ≤ length lanes → taken ≤ length founds
    → slice_index_or lanes l x ≡ x → x.made < settings.rounds → IsAnswer s x bound value plan → IsLaneNow s l x.lane (x.made + 1) lanes next
    → w ≡ after_raise (after_lower v bound low) value high → y.stopped ≡ (slice_index_or founds l y).stopped
    → y.found ≡ bettered (slice_index_or founds l y).found (given x bound value plan)
    → IsInStep t settings opening w f (take taken next) (take taken (slice_set founds l y))
in_step_found s t settings opening v w f lanes next founds taken l x y bound value low high plan h orderly same lt fits also is left
    answer now told stopped found =
    let after : LanePrices = now.prices in
    let here : slice_index_or (take taken lanes) l x ≡ x = get_or-take taken lanes l x lt ∙ is in
    let there : slice_index_or (take taken founds) l y ≡ slice_index_or founds l y = get_or-take taken founds l y lt in
    let long : length (take taken lanes) ≡ taken = length-take-le taken lanes fits in
    let made = round_made s settings opening v f (take taken lanes) (take taken founds) h orderly l (omega arith) x after
    (record { lane = now.same_lane ∙ ap (λ (z : LanePrices). z.lane) (sym here); made = now.rounds ∙ ap (λ (z : LanePrices). z.made + 1) (sym here) })
    (let m = ap (λ (z : LanePrices). z.made) here in omega arith) bound value low high plan
    (subst (λ (z : LanePrices). IsAnswer s z bound value plan) (sym here) answer) y y
    (stopped ∙ ap (λ (z : LaneFound). z.stopped) (sym there))
    (found ∙ ap (λ (z : LaneFound). bettered z.found (given x bound value plan)) (sym there)
    ∙ ap (λ (z : LanePrices). bettered (slice_index_or (take taken founds) l y).found (given z bound value plan)) (sym here)) in
    let names : take taken next ≡ slice_set (take taken lanes) l after = ap (λ (xs : List LanePrices). take taken xs) now.set
    ∙ take-set-lt taken lanes l after lt in
    subst (λ (p : Parts). IsInStep p settings opening w f (take taken next) (take taken (slice_set founds l y))) (sym same)
    (subst (λ (u : SeatView). IsInStep s settings opening u f (take taken next) (take taken (slice_set founds l y))) (sym told)
    (subst (λ (xs : List LanePrices). IsInStep s settings opening (after_raise (after_lower v bound low) value high) f xs
    (take taken (slice_set founds l y))) (sym names)
    (subst (λ (ys : List LaneFound). IsInStep s settings opening (after_raise (after_lower v bound low) value high) f (slice_set (take taken lanes) l after) ys)
    (sym (take-set-lt taken founds l y lt)) made)))

-- the prices of what is better are those of one or the other
pub prices_bettered : (s : Parts) (f : FoundSeen) (x : LanePrices) (bound value : ℕ) (plan : List Placement) → IsLane s x → ArePrices s f.prices f.quota_prices
    → ArePrices s (bettered f (given x bound value plan)).prices (bettered f (given x bound value plan)).quota_prices
prices_bettered s f x bound value plan lane are = either_prices s (nat_lt bound f.bound) f.prices x.prices.0 f.quota_prices x.quota_prices.0 are
    (record { count = lane.count; quota_count = lane.quota_count; range = lane.range; quota_range = lane.quota_range })

pub not_false : (b : Bool) → not b ≡ false → b ≡ true
not_false true e = refl
not_false false e = absurd (false≢true (sym e))

-- where none is left, or bound and value have met before a round was made of the lanes in step, the worker is done
pub worker_done : (L : ℕ) (w : Worker L) → IsWorking L w → AreFresh L w → ((w.taken ≡ 0) × IsNoneLeft w.settings (view w.seat))
    ⊎ IsMetFor (view w.seat) → IsDone L w
worker_done L w h fresh why =
    let fits = lanes_fit L w h in
    let long : length (take w.taken w.steps.lanes) ≡ w.taken = length-take-le w.taken w.steps.lanes fits.0 in
    record {
      searched = searched w.steps.snapshot w.settings w.opening (view w.seat) w.found (take w.taken w.steps.lanes) (take w.taken w.lanes.items)
          (λ l d lt. ap (λ (x : LanePrices). x.made) (get_or-take w.taken w.steps.lanes l d (omega arith)) ∙ fresh l d (omega arith))
          (elim why [ inl none ↦ inl (long ∙ none.0) | inr met ↦ inr met ]) h.in_step;
      ended = elim why [ inl none ↦ inl none.1 | inr met ↦ inr met ];
      seats = h.equipped.seats;
      no_tickets = h.equipped.no_tickets;
    }

pub not_true : (b : Bool) → b ≡ false → false ≡ b
not_true b e = sym e

-- another takes its place that has stopped where it had
pub stopped_still : (founds : List LaneFound) (l : ℕ) (y : LaneFound) → l < length founds → y.stopped ≡ (slice_index_or founds l y).stopped
    → AreStoppedStill founds (slice_set founds l y)
stopped_still founds l y lt same k e stopped = elim (same_or_not k l) [
  | inl is ↦ ap (λ (z : LaneFound). z.stopped) (ap (λ (i : ℕ). slice_index_or (slice_set founds l y) i e) is ∙ get_or-set_same founds l y e lt) ∙ same
      ∙ ap (λ (z : LaneFound). z.stopped) (get_or_default founds l y e lt ∙ ap (λ (i : ℕ). slice_index_or founds i e) (sym is)) ∙ stopped
  | inr other ↦ ap (λ (z : LaneFound). z.stopped) (get_or-set_other founds l k y e other) ∙ stopped
]

-- after its round, a look, and a stop
pub next_stopped : (L l : ℕ) (w u n : Worker L) (seat : BoardSeat) → IsNextMade L l w u → IsLook (view u.seat) (view seat)
    → IsStopped L (record u { seat = seat }) n → IsNextMade L l w n
next_stopped L l w u n seat next look stop = record {
  same = record {
    settings = stop.settings ∙ next.same.settings;
    opening = stop.opening ∙ next.same.opening;
    snapshot = ap (λ (x : Stepping). x.snapshot) stop.steps ∙ next.same.snapshot;
    share = stop.share ∙ next.same.share;
  };
  taken = stop.taken ∙ next.taken;
  claims = ap (λ (x : BoardSeat). (view x).claims) stop.seat ∙ look.claims ∙ next.claims;
  lanes = λ d. subst (λ (x : Stepping). IsLaneNow w.steps.snapshot l (slice_index_or w.steps.lanes l d).lane
      ((slice_index_or w.steps.lanes l d).made + 1) w.steps.lanes x.lanes) (sym stop.steps) (next.lanes d);
  stopped = λ k e yes. stop.stopped k e (next.stopped k e yes);
  solved = λ k other yes. subst (λ (x : Stepping). IsSolvedAt x k) (sym stop.steps) (next.solved k other yes);
}

-- after its telescopes were solved
pub working_solved : (L : ℕ) (w : Worker L) (steps : Stepping) → IsWorking L w → steps.snapshot ≡ w.steps.snapshot → steps.lanes ≡ w.steps.lanes
    → IsWorking L (record w { steps = steps })
working_solved L w steps h snapshot lanes = record {
  equipped = equipped_on L w (record w { steps = steps }) h.equipped (record { settings = refl; opening = refl; snapshot = snapshot; share = refl })
      (ap (λ (xs : List LanePrices). length xs) lanes) refl
      h.equipped.prices h.equipped.taken refl refl;
  in_step = subst (λ (s : Parts). IsInStep s w.settings w.opening (view w.seat) w.found (take w.taken steps.lanes) (take w.taken w.lanes.items)) (sym snapshot)
      (subst (λ (xs : List LanePrices). IsInStep w.steps.snapshot w.settings w.opening (view w.seat) w.found (take w.taken xs)
      (take w.taken w.lanes.items)) (sym lanes) h.in_step);
}
