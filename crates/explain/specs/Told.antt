-- What is said of a request that a claim leaves out, as it is written.
use Rattle.std.specs.Prelude.{ℕ, List, [], ◌∷◌, codes}
use Rattle.std.specs.List.{flat_map}
use Rattle.serde_json.specs.Data.{Data, null, boolean}
use Rattle.plan_json.specs.Values.{whole, integer, list_of, has, object_of}
use Rattle.plan_json.specs.Line.{line_of}
use Rattle.plan_doc.specs.Written.{placement_data}
use Rattle.explain.specs.declared.answer.Forced.{Forced}
use Rattle.explain.specs.declared.answer.Forced.TheVariants.{NoStart, Bound}
use Rattle.explain.specs.declared.answer.Left.{Left}
use Rattle.explain.specs.Forced.{is_excluded}

-- the bound, or `null` where there is no start
abbrev pub forced_data : Forced → Data
forced_data NoStart = null
forced_data (Bound b) = integer b

-- `blocking`, `excluded`, `forced`, `request` and `starts`, where the claim has this value
abbrev pub left_data : ℕ → Left → Data
left_data value left =
    object_of
    (has (codes "blocking") (list_of placement_data left.blocking)
    ∷ has (codes "excluded") (boolean (is_excluded value left.forced))
    ∷ has (codes "forced") (forced_data left.forced)
    ∷ has (codes "request") (whole left.request.0)
    ∷ has (codes "starts") (whole left.starts)
    ∷ [])

-- a line each
abbrev pub lines_of_lefts : ℕ → List Left → List ℕ
lines_of_lefts value lefts = flat_map (λ left. line_of (left_data value left)) lefts
