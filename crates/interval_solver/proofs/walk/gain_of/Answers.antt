use Rattle.std.proofs.Common.{rules, ◌≡◌, ◌<◌, ◌≤◌, ℕ, ℤ, pos, ◌+ℤ◌, ◌-ℤ◌, List, length, slice_index_or, All, FitsSigned, w64, to_z, of_z, sym, ◌∙◌}
use Rattle.std.proofs.Common.{ap, subst, arith}
use Rattle.std.proofs.lemmas.Int.{to_z-of_z}
use Rattle.std.proofs.lemmas.List.{length-map}
use Rattle.plan_base.specs.Verdict.{IsPriceInRange}
use Rattle.interval_solver.specs.Tables.{IsEntry}
use Rattle.interval_solver.specs.Lanes.{number_in, lane, IsForLanes}
use Rattle.interval_solver.proofs.LaneFilling.{lane_all}
use Rattle.interval_solver.proofs.walk.gain_of.Goals as goal

-- what was read of a lane
read_is : (n : ℕ) (P : ℤ → Type 0) (lists : List (List ℤ)) (k l : ℕ) (z : ℤ) → l < n → k < length lists → z ≡ slice_index_or (lane l lists) k (pos 0)
    → All (IsForLanes n P) lists → P z
read_is n P lists k l z below within is all = subst P (sym is) (lane_all n P lists l below all k (pos 0) (omega (arith, length-map lists (number_in l))))

module _ (w : ℕ) (a p t : ℤ) (h : w ≤ 288000000) (is : a ≡ pos w) (price : IsPriceInRange p) (entry : IsEntry t) where
  worth_fits : FitsSigned w64 a
  worth_fits = search rules

  price_fits : FitsSigned w64 p
  price_fits = let low = price.0 in let high = price.1 in search rules

  entry_fits : FitsSigned w64 t
  entry_fits = let low = entry.0 in let high = entry.1 in search rules

  weight_fits : FitsSigned w64 (a -ℤ p)
  weight_fits = let low = price.0 in let high = price.1 in search rules

  sum_fits : FitsSigned w64 ((a -ℤ p) +ℤ t)
  sum_fits = let low = price.0 in let high = price.1 in let least = entry.0 in let most = entry.1 in search rules

  difference_fits : FitsSigned w64 (to_z w64 (of_z w64 a) -ℤ to_z w64 (of_z w64 p))
  difference_fits = rw (to_z-of_z w64 a worth_fits, to_z-of_z w64 p price_fits) weight_fits

  gain_fits : FitsSigned w64 (to_z w64 (of_z w64 (to_z w64 (of_z w64 a) -ℤ to_z w64 (of_z w64 p))) +ℤ to_z w64 (of_z w64 t))
  gain_fits = rw (to_z-of_z w64 a worth_fits, to_z-of_z w64 p price_fits, to_z-of_z w64 t entry_fits, to_z-of_z w64 (a -ℤ p) weight_fits) sum_fits

  gain_is : to_z w64 (of_z w64 (to_z w64 (of_z w64 (to_z w64 (of_z w64 a) -ℤ to_z w64 (of_z w64 p))) +ℤ to_z w64 (of_z w64 t))) ≡ (pos w -ℤ p) +ℤ t
  gain_is = rw (to_z-of_z w64 a worth_fits, to_z-of_z w64 p price_fits, to_z-of_z w64 t entry_fits, to_z-of_z w64 (a -ℤ p) weight_fits)
      (to_z-of_z w64 ((a -ℤ p) +ℤ t) sum_fits ∙ ap (λ (z : ℤ). (z -ℤ p) +ℤ t) is)

pub overflow_sub-result : goal.overflow_sub-result
overflow_sub-result g c =
    difference_fits c.args.start.worth c.from.result c.number_at-price.result c.number_at-after.result c.requires.worth c.from.ensures
    (read_is g.row.L IsPriceInRange c.args.prices.now c.args.start.place c.args.lane_place c.number_at-price.result c.requires.lane c.requires.place
    c.number_at-price.ensures c.requires.prices)
    (read_is g.row.L IsEntry c.args.table.now c.args.start.after c.args.lane_place c.number_at-after.result c.requires.lane c.requires.after
    c.number_at-after.ensures c.requires.entries)

pub overflow_add-result : goal.overflow_add-result
overflow_add-result g c =
    gain_fits c.args.start.worth c.from.result c.number_at-price.result c.number_at-after.result c.requires.worth c.from.ensures
    (read_is g.row.L IsPriceInRange c.args.prices.now c.args.start.place c.args.lane_place c.number_at-price.result c.requires.lane c.requires.place
    c.number_at-price.ensures c.requires.prices)
    (read_is g.row.L IsEntry c.args.table.now c.args.start.after c.args.lane_place c.number_at-after.result c.requires.lane c.requires.after
    c.number_at-after.ensures c.requires.entries)

pub returns : goal.returns
returns g c =
    gain_is c.args.start.worth c.from.result c.number_at-price.result c.number_at-after.result c.requires.worth c.from.ensures
    (read_is g.row.L IsPriceInRange c.args.prices.now c.args.start.place c.args.lane_place c.number_at-price.result c.requires.lane c.requires.place
    c.number_at-price.ensures c.requires.prices)
    (read_is g.row.L IsEntry c.args.table.now c.args.start.after c.args.lane_place c.number_at-after.result c.requires.lane c.requires.after
    c.number_at-after.ensures c.requires.entries)
    ∙ ap (λ (p : ℤ). (pos c.args.start.worth -ℤ p) +ℤ c.number_at-after.result) c.number_at-price.ensures
    ∙ ap (λ (t : ℤ). (pos c.args.start.worth -ℤ slice_index_or (lane c.args.lane_place c.args.prices.now) c.args.start.place (pos 0)) +ℤ t)
    c.number_at-after.ensures
