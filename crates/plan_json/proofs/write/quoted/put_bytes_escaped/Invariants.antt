use Rattle.std.proofs.Common.{◌≡◌, ◌++◌, drop}
use Rattle.json.specs.Print.{escape}
use Rattle.plan_json.specs.Adds.{IsFrontOf}
use Rattle.plan_json.proofs.write.quoted.put_bytes_escaped.Given as goal

-- what was there stays, and the text so far with that of the bytes left is the whole
abbrev pub invariant-loop-byte : goal.invariant-loop-byte
invariant-loop-byte l = IsFrontOf l.initial.out.items l.out.items × (l.out.items ++ escape (drop l.byte-index l.text) ≡ l.initial.out.items ++ escape l.text)
