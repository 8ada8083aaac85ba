use Rattle.plan_json.proofs.Escapes.{escape-more}
use Rattle.plan_json.proofs.write.quoted.is_plain.Goals as goal

pub loop-byte-preserved : goal.loop-byte-preserved
loop-byte-preserved c = escape-more c.args.text.now c.loop-byte.byte-index c.loop-byte-test.true c.if-byte-lt32.false c.if-byte-eq34.false
    c.if-byte-eq92.false c.loop-byte.invariant
