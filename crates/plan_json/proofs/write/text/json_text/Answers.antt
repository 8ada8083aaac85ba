use Rattle.std.proofs.Common.{◌++◌, ◌∙◌, ap}
use Rattle.plan_json.specs.Adds.{text_of}
use Rattle.plan_json.specs.Object.{data_of}
use Rattle.plan_json.proofs.TextsBack.{texts_are_read_back}
use Rattle.plan_json.proofs.write.text.json_text.Goals as goal

pub returns-clause-reads_back : goal.returns-clause-reads_back
returns-clause-reads_back g c =
    ap data_of (c.in_ok-write_json.ensures.adds.ok ∙ ap (λ old. old ++ text_of (g.T.Json.value c.args.value.now)) c.new-out.ensures.items)
    ∙ texts_are_read_back (g.T.Json.value c.args.value.now) c.in_ok-write_json.ensures.holds
