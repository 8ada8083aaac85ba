use Rattle.std.proofs.Common.{◌∙◌, arith}
use Rattle.repair.proofs.Sorting.{not_less}
use Rattle.repair.proofs.Foremost.{ordered_from_noted}
use Rattle.repair.proofs.ranked.rank_starts.Goals as goal

pub returns-clause-ordered : goal.returns-clause-ordered
returns-clause-ordered c =
    ordered_from_noted c.args.snapshot.now c.args.starts.now c.note_ranks.new.noted.items c.list_noted.new.ranked.items c.sort_unstable.new.self.items
    c.requires.possible c.note_ranks.ensures (c.list_noted.ensures.listed ∙ cc) c.sort_unstable.ensures.permutation
    (λ k d l. not_less _ _ (c.sort_unstable.ensures.sorted k d (omega arith) l))
