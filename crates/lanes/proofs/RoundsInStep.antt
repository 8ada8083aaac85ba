-- A round of all lanes in step, one after another.
use Rattle.std.proofs.Common.{◌≡◌, ◌≢◌, ℕ, ◌+◌, ◌≤◌, ◌<◌, inl, inr, true, List, slice_index_or, ap, ◌∙◌, arith}
use Rattle.std.proofs.lemmas.List.{get_or-set_same, get_or-set_other}
use Rattle.board.specs.declared.board.Board.{Board}
use Rattle.board.specs.Seats.{view, IsSeatOf}
use Rattle.lanes.specs.declared.lane_prices.LanePrices.{LanePrices}
use Rattle.lanes.specs.declared.worker.LaneFound.{LaneFound}
use Rattle.lanes.specs.declared.worker.Worker.{Worker}
use Rattle.lanes.specs.Rounds.{IsSolvedAt}
use Rattle.lanes.specs.Working.{IsWorking, IsSameWorker, IsPartMade, IsNextMade}
use Rattle.lanes.proofs.Lists.{same_or_not}
use Rattle.lanes.proofs.Workers.{lanes_fit}

-- the first lanes have made the round, and the others are solved for it
pub record IsRoundGoing (L : ℕ) (board : Board) (start now : Worker L) (round first : ℕ) : Type 0 where
  pub seat : IsSeatOf board now.seat
  pub working : IsWorking L now
  pub same : IsSameWorker L start now
  pub claims : (view now.seat).claims ≡ (view start.seat).claims
  pub taken : now.taken ≡ start.taken
  pub made : IsPartMade L now round first
  pub solved : (k : ℕ) → first ≤ k → k < L → IsSolvedAt now.steps k

pub same_through : (L : ℕ) (a b c : Worker L) → IsSameWorker L a b → IsSameWorker L b c → IsSameWorker L a c
same_through L a b c x y = record {
  settings = y.settings ∙ x.settings;
  opening = y.opening ∙ x.opening;
  snapshot = y.snapshot ∙ x.snapshot;
  share = y.share ∙ x.share;
}

module _ (L : ℕ) (board : Board) (start now : Worker L) (round l : ℕ) (h : IsRoundGoing L board start now round l) (lt : l < now.taken) where
  -- a lane that has stopped is passed over
  pub round_past : ((e : LaneFound) → (slice_index_or now.lanes.items l e).stopped ≡ true) → IsRoundGoing L board start now round (l + 1)
  round_past stopped = record {
    seat = h.seat;
    working = h.working;
    same = h.same;
    claims = h.claims;
    taken = h.taken;
    made = record {
      done = λ k d e below within. elim (same_or_not k l) [
        | inl same ↦ inl (ap (λ (i : ℕ). (slice_index_or now.lanes.items i e).stopped) same ∙ stopped e)
        | inr other ↦ h.made.done k d e (omega (arith, other)) within
      ];
      left = λ k d e above within. h.made.left k d e (omega arith) within;
    };
    solved = λ k above within. h.solved k (omega arith) within;
  }

  -- another has made the round
  pub round_on : (next : Worker L) → IsSeatOf board next.seat → IsWorking L next → IsNextMade L l now next → IsRoundGoing L board start next round (l + 1)
  round_on next seat working made =
      let fits = lanes_fit L now h.working in
      let at : (d : LanePrices) → (slice_index_or next.steps.lanes l d).made ≡ (slice_index_or now.steps.lanes l d).made + 1 = λ d.
      (let n = made.lanes d in ap (λ (xs : List LanePrices). (slice_index_or xs l d).made) n.set
      ∙ ap (λ (z : LanePrices). z.made) (get_or-set_same now.steps.lanes l n.prices d (omega arith)) ∙ n.rounds) in
      let elsewhere : (k : ℕ) (d : LanePrices) → k ≢ l → (slice_index_or next.steps.lanes k d).made ≡ (slice_index_or now.steps.lanes k d).made = λ k d other.
      (let n = made.lanes d in ap (λ (xs : List LanePrices). (slice_index_or xs k d).made) n.set
      ∙ ap (λ (z : LanePrices). z.made) (get_or-set_other now.steps.lanes l k n.prices d other)) in
      record {
        seat = seat;
        working = working;
        same = same_through L start now next h.same made.same;
        claims = made.claims ∙ h.claims;
        taken = made.taken ∙ h.taken;
        made = record {
          done = λ k d e below within. elim (same_or_not k l) [
            | inl same ↦ elim (h.made.left l d e (omega arith) lt) [
              | inl stopped ↦ inl (ap (λ (i : ℕ). (slice_index_or next.lanes.items i e).stopped) same ∙ made.stopped l e stopped)
              | inr is ↦ inr (ap (λ (i : ℕ). (slice_index_or next.steps.lanes i d).made) same ∙ at d ∙ ap (λ (i : ℕ). i + 1) is)
            ]
            | inr other ↦ elim (h.made.done k d e (omega (arith, other)) (let t = made.taken in omega arith)) [
              | inl stopped ↦ inl (made.stopped k e stopped)
              | inr is ↦ inr (elsewhere k d other ∙ is)
            ]
          ];
          left = λ k d e above within. elim (h.made.left k d e (omega arith) (let t = made.taken in omega arith)) [
            | inl stopped ↦ inl (made.stopped k e stopped)
            | inr is ↦ inr (elsewhere k d (λ same. absurd (omega (arith, same))) ∙ is)
          ];
        };
        solved = λ k above within. made.solved k (λ same. absurd (omega (arith, same))) (h.solved k (omega arith) within);
      }
