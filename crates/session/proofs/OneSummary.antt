-- The summary of a workload is a function of its number.
use Rattle.std.proofs.Common.{◌≡◌, ℕ, ◌<◌, List, ◌++◌, slice_index_or, length, sym, ◌∙◌, ap, arith}
use Rattle.std.specs.Option.{option_map}
use Rattle.std.proofs.lemmas.Option.{slice_get-map, get_or_from_slice_get}
use Rattle.plan_io.specs.declared.lines.ScriptLine.TheVariants.{Bytes, TooLong}
use Rattle.desk_events.specs.Line.{command_of_line}
use Rattle.workload.specs.Lines.{document_at, line_at, workload_lines}
use Rattle.workload.proofs.Asked.{asks_no_plan}
use Rattle.workload.proofs.Places.{line_there}
use Rattle.workload.proofs.Written.{lines_are_read_back}
use Rattle.session.specs.Laws.{PlansLast, LinesHaveOneSummary, NumberHasOneSummary, RunsWriteOneLine}
use Rattle.session.specs.Summary.{workload_script, summary_text}
use Rattle.session.proofs.Alike.{summaries_alike}
use Rattle.session.proofs.OneHistory.{one_history}
use Rattle.session.proofs.Reading.{line_none}
use Rattle.session.proofs.Tallies.{script_length}

pub lines_have_one : LinesHaveOneSummary
lines_have_one lines h k plans sound whole sound' whole' = summaries_alike (length lines) h k (one_history lines h k plans sound whole sound' whole')

-- the line at a place
script_at : (number place : ℕ) → place < 211 → slice_index_or (workload_script number) place TooLong ≡ Bytes (line_at number 4 place)
script_at number place few =
    get_or_from_slice_get (workload_script number) place (Bytes (line_at number 4 place)) TooLong
    (slice_get-map (λ bytes. Bytes bytes) (workload_lines number 4) place ∙ ap (option_map (λ bytes. Bytes bytes)) (line_there number 4 place few))

plans_last : (number : ℕ) → PlansLast (workload_script number)
plans_last number place more plan =
    let few : place < 210 = omega (arith, more, script_length number) in
    let within : place < 211 = omega (arith, few) in
    line_none (line_at number 4 place) (document_at number 4 place) (lines_are_read_back number 4 place (omega arith) within) (asks_no_plan number 4 place few)
    (ap command_of_line (sym (script_at number place within)) ∙ plan)

pub number_has_one : NumberHasOneSummary
number_has_one number a b p q =
    p.summed ∙ lines_have_one (workload_script number) p.history q.history (plans_last number) p.sound p.whole q.sound q.whole ∙ sym q.summed

pub runs_write_one : RunsWriteOneLine
runs_write_one number held now held' now' run run' =
    let same : run'.0 ≡ run.0 = run'.1.2 ∙ ap summary_text (number_has_one number run'.1.0 run.1.0 run'.1.1 run.1.1) ∙ sym run.1.2 in
    (run.0, run.2, run'.2 ∙ ap (λ (line : List ℕ). held' ++ line) same)
