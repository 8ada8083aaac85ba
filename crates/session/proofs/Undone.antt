-- Where memory is wanting before a line is done, or a line names no caller.
use Rattle.std.proofs.Common.{◌≡◌, ℕ, ◌+◌, List, length, refl, subst, inr}
use Rattle.std.specs.declared.option.Option.{Option}
use Rattle.plan_io.specs.declared.lines.ScriptLine.{ScriptLine}
use Rattle.plan_io.specs.declared.sink.PutAnswer.TheVariants as put
use Rattle.plan_io.specs.declared.status.Status.{Status}
use Rattle.plan_io.specs.declared.status.Status.TheVariants.{WriteFault, NoMemory, NoCaller}
use Rattle.plan_io.specs.Sink.{Adds, Puts}
use Rattle.plan_io.specs.Limits.{most_input_lines}
use Rattle.session.specs.Limits.{most_live_bytes}
use Rattle.session.specs.Live.{HasReadFirst, HasNoCaller, no_caller_text, IsLive}
use Rattle.session.specs.LiveParts.{HasReadSome, IsRefused}
use Rattle.session.proofs.Naming.{some_none, one_fewer}

-- memory was wanting where some lines were read
pub undone_memory : (a b w : Option (List ℕ)) → HasReadSome a b → IsLive a b w w NoMemory
undone_memory a b w some = inr (some.0, some.1, refl)

-- memory was wanting before the first line
pub undone_first : (a w : Option (List ℕ)) → IsLive a a w w NoMemory
undone_first a w = undone_memory a a w (some_none a)

-- the lines before the one without a caller
named_first : (a b : Option (List ℕ)) (lines : List ScriptLine) → HasNoCaller a b lines → HasReadFirst a b lines
named_first a b lines none = record { read = one_fewer most_live_bytes most_input_lines a b lines none.line none.read; named = none.named }

-- a line names no caller
pub refused_line : (a b w w' : Option (List ℕ)) (number : ℕ) (status : Status)
    → (lines : List ScriptLine) × HasNoCaller a b lines × (number ≡ length lines + 1) → IsRefused number w w' status → IsLive a b w w' status
refused_line a b w w' number NoCaller read written = (read.0, read.1, subst (λ (n : ℕ). Adds w w' (no_caller_text n)) read.2 written)
refused_line a b w w' number WriteFault read written =
    inr (read.0, read.1, subst (λ (n : ℕ). Puts w w' put.WriteFault (no_caller_text n)) read.2 written)
refused_line a b w w' number NoMemory read written = inr (read.0, named_first a b read.0 read.1, written)
refused_line a b w w' number status read written = absurd written
