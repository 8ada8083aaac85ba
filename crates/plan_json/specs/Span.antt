-- Which JSON values are spans.
use Rattle.std.specs.Prelude.{List, [], ◌∷◌, nat_lt, if◌then◌else◌, Result, Ok, Err}
use Rattle.plan_base.specs.Limits.{most_spans}
use Rattle.serde_json.specs.Data.{Data, Members}
use Rattle.plan_base.specs.declared.number.Sec.{Sec}
use Rattle.plan_base.specs.declared.span.Span.{Span}
use Rattle.plan_json.specs.declared.member.Member.{Member}
use Rattle.plan_json.specs.declared.fault.JsonFault.{JsonFault}
use Rattle.plan_json.specs.declared.fault.JsonFault.TheVariants.{WrongKind, OutOfRange}
use Rattle.plan_json.specs.Reading.{result_and_then}
use Rattle.plan_json.specs.Moment.{moment_in}
use Rattle.plan_json.specs.List.{elements_in}
use Rattle.plan_json.specs.Elements.{each_of}

-- the span of two moments, if the first comes before the second
abbrev pub span_between : Member → Sec → Sec → Result Span JsonFault
span_between m from to = if nat_lt from.0 to.0 then Ok (record { from = from; to = to }) else Err (OutOfRange m)

-- the span that two values are, the first one's fault before the second one's
abbrev pub span_of_pair : Member → Data → Data → Result Span JsonFault
span_of_pair m from to = result_and_then (λ f. result_and_then (span_between m f) (moment_in m to)) (moment_in m from)

-- the span that a list's elements are, if there are two
abbrev pub span_of_elements : Member → List Data → Result Span JsonFault
span_of_elements m [] = Err (WrongKind m)
span_of_elements m (a ∷ []) = Err (WrongKind m)
span_of_elements m (a ∷ b ∷ []) = span_of_pair m a b
span_of_elements m (a ∷ b ∷ c ∷ ds) = Err (WrongKind m)

-- the span that a value is: a list of two moments
abbrev pub span_in : Member → Data → Result Span JsonFault
span_in m d = result_and_then (span_of_elements m) (elements_in m d)

-- the spans that the member is: a list of at most 512
abbrev pub spans_of : Members → Member → Result (List Span) JsonFault
spans_of ms m = each_of span_in 0 most_spans ms m
