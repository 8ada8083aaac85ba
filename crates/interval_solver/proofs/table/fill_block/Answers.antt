use Rattle.std.proofs.Common.{rules, ◌+◌, ◌*◌, ◌<◌, ℕ, length, pos, FitsSigned, w64, refl, ◌∙◌, subst, arith}
use Rattle.std.proofs.lemmas.List.Elements.{All-replicate, Contains-get_or}
use Rattle.interval_solver.specs.declared.start.Start.{Start}
use Rattle.interval_solver.specs.Filling.{AreFilledFrom}
use Rattle.interval_solver.proofs.Covered.{single_within, whole_fits, whole_rest_best}
use Rattle.interval_solver.proofs.table.fill_block.Goals as goal

pub block_best-best-requires : goal.block_best-best-requires
block_best-best-requires g c =
    let fits = λ (k : ℕ) (d : Start) (l : k < length c.row.result.now).
    whole_fits c.args.rows.now c.args.wholes.now c.args.singles.now c.requires.cover
    (length c.args.prices.now) c.args.block c.row.result.now _ c.requires.fit c.row.ensures (Contains-get_or c.row.result.now k d l) in (
      search rules,
      (
        omega arith,
        (
          λ k d l. (fits k d l).0,
          (
            λ k d l. (fits k d l).1,
            (
              λ k d l. let within = (fits k d l).2 in let count = c.requires.filled.count in omega arith,
              (c.requires.prices, (c.requires.filled.entries, All-replicate (FitsSigned w64) g.row.L (pos 0) (search rules))),
            ),
          ),
        ),
      ),
    )

pub fill_slice-requires : goal.fill_slice-requires
fill_slice-requires g c =
    let blocks = c.requires.cover.blocks in
    let filled : AreFilledFrom g.row.L c.args.rows.now c.args.prices.now c.args.table.now ((4 * c.args.block + 3) + 1) =
    subst (AreFilledFrom g.row.L c.args.rows.now c.args.prices.now c.args.table.now) (omega arith) c.requires.filled in (
      search rules,
      (
        omega arith,
        (
          c.requires.few,
          (
            c.requires.fit,
            (
              c.requires.prices,
              (
                filled,
                (
                  c.block_best-best.ensures.fit.3,
                  (
                    single_within c.args.rows.now c.args.wholes.now c.args.singles.now c.requires.cover
                        (4 * c.args.block + 3) c.row-fourth.result.now c.row-fourth.ensures,
                    whole_rest_best c.args.rows.now c.args.wholes.now c.args.singles.now c.requires.cover
                        (length c.args.prices.now) c.requires.fit c.args.prices.now c.args.table.now c.args.table.now c.args.block
                        c.requires.filled.count filled.count (λ k h. refl) g.row.L 3 (4 * c.args.block + 3) c.row.result.now c.row-fourth.result.now _
                        (omega arith) (omega arith) c.row.ensures c.row-fourth.ensures c.block_best-best.ensures.fourth,
                  ),
                ),
              ),
            ),
          ),
        ),
      ),
    )

pub fill_slice-requires-2 : goal.fill_slice-requires-2
fill_slice-requires-2 g c =
    let blocks = c.requires.cover.blocks in
    let filled : AreFilledFrom g.row.L c.args.rows.now c.args.prices.now c.fill_slice.new.table ((4 * c.args.block + 2) + 1) =
    subst (AreFilledFrom g.row.L c.args.rows.now c.args.prices.now c.fill_slice.new.table) (omega arith) c.fill_slice.ensures.filled in (
      search rules,
      (
        omega arith,
        (
          c.requires.few,
          (
            c.requires.fit,
            (
              c.requires.prices,
              (
                filled,
                (
                  c.block_best-best.ensures.fit.2,
                  (
                    single_within c.args.rows.now c.args.wholes.now c.args.singles.now c.requires.cover
                        (4 * c.args.block + 2) c.row-third.result.now c.row-third.ensures,
                    whole_rest_best c.args.rows.now c.args.wholes.now c.args.singles.now c.requires.cover
                        (length c.args.prices.now) c.requires.fit c.args.prices.now c.args.table.now c.fill_slice.new.table c.args.block
                        c.requires.filled.count filled.count (λ k h. c.fill_slice.ensures.later k (omega arith)) g.row.L 2
                        (4 * c.args.block + 2) c.row.result.now c.row-third.result.now _ (omega arith)
                        (omega arith) c.row.ensures c.row-third.ensures c.block_best-best.ensures.third,
                  ),
                ),
              ),
            ),
          ),
        ),
      ),
    )

pub fill_slice-requires-3 : goal.fill_slice-requires-3
fill_slice-requires-3 g c =
    let blocks = c.requires.cover.blocks in
    let filled : AreFilledFrom g.row.L c.args.rows.now c.args.prices.now c.fill_slice-2.new.table ((4 * c.args.block + 1) + 1) =
    subst (AreFilledFrom g.row.L c.args.rows.now c.args.prices.now c.fill_slice-2.new.table) (omega arith) c.fill_slice-2.ensures.filled in (
      search rules,
      (
        omega arith,
        (
          c.requires.few,
          (
            c.requires.fit,
            (
              c.requires.prices,
              (
                filled,
                (
                  c.block_best-best.ensures.fit.1,
                  (
                    single_within c.args.rows.now c.args.wholes.now c.args.singles.now c.requires.cover
                        (4 * c.args.block + 1) c.row-second.result.now c.row-second.ensures,
                    whole_rest_best c.args.rows.now c.args.wholes.now c.args.singles.now c.requires.cover
                        (length c.args.prices.now) c.requires.fit c.args.prices.now c.args.table.now c.fill_slice-2.new.table c.args.block
                        c.requires.filled.count filled.count (λ k h. c.fill_slice-2.ensures.later k (omega arith)
                        ∙ c.fill_slice.ensures.later k (omega arith)) g.row.L 1 (4 * c.args.block + 1) c.row.result.now c.row-second.result.now _
                        (omega arith) (omega arith) c.row.ensures c.row-second.ensures c.block_best-best.ensures.second,
                  ),
                ),
              ),
            ),
          ),
        ),
      ),
    )

pub fill_slice-requires-4 : goal.fill_slice-requires-4
fill_slice-requires-4 g c =
    let blocks = c.requires.cover.blocks in
    let filled : AreFilledFrom g.row.L c.args.rows.now c.args.prices.now c.fill_slice-3.new.table ((4 * c.args.block) + 1) = c.fill_slice-3.ensures.filled in (
      search rules,
      (
        omega arith,
        (
          c.requires.few,
          (
            c.requires.fit,
            (
              c.requires.prices,
              (
                filled,
                (
                  c.block_best-best.ensures.fit.0,
                  (
                    single_within c.args.rows.now c.args.wholes.now c.args.singles.now c.requires.cover (4 * c.args.block) c.row-2.result.now c.row-2.ensures,
                    whole_rest_best c.args.rows.now c.args.wholes.now c.args.singles.now c.requires.cover
                        (length c.args.prices.now) c.requires.fit c.args.prices.now c.args.table.now c.fill_slice-3.new.table c.args.block
                        c.requires.filled.count filled.count (λ k h. c.fill_slice-3.ensures.later k (omega arith)
                        ∙ c.fill_slice-2.ensures.later k (omega arith) ∙ c.fill_slice.ensures.later k (omega arith)) g.row.L 0
                        (4 * c.args.block) c.row.result.now c.row-2.result.now _ (omega arith)
                        (omega arith) c.row.ensures c.row-2.ensures c.block_best-best.ensures.first,
                  ),
                ),
              ),
            ),
          ),
        ),
      ),
    )
