-- The rows by which a snapshot's requests are found.
use Rattle.std.specs.Prelude.{ℕ, suc, List, [], ◌∷◌, ◌++◌}
use Rattle.plan_base.specs.declared.parts.GroupPart.{GroupPart}
use Rattle.plan_base.specs.declared.parts.RequestPart.{RequestPart}
use Rattle.plan_base.specs.declared.rows.Row.{Row}

-- the rows of requests of the group at place g, of which the first has place i there
abbrev pub rows_within : ℕ → ℕ → List RequestPart → List Row
rows_within g i [] = []
rows_within g i (q ∷ qs) = record { request = q.request; group = g; place = i } ∷ rows_within g (suc i) qs

-- the rows of groups, of which the first has place g
abbrev pub rows_from : ℕ → List GroupPart → List Row
rows_from g [] = []
rows_from g (x ∷ xs) = rows_within g 0 x.requests ++ rows_from (suc g) xs
