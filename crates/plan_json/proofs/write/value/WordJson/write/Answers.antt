use Rattle.plan_json.proofs.Literals.{adds_word}
use Rattle.plan_json.proofs.write.value.WordJson.write.Goals as goal

pub returns : goal.returns
returns c = adds_word _ _ _ _ c.args.self.now.text.now c.args.self.now.is_quoted c.as_bytes.ensures.value c.put.ensures
