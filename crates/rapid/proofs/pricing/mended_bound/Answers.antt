use Rattle.std.proofs.Common.{w64, arith}
use Rattle.std.proofs.lemmas.Int.{ints, to_z_pos}
use Rattle.rapid.proofs.pricing.mended_bound.Goals as goal

pub returns : goal.returns
returns c = omega (arith, ints, to_z_pos w64 c.args.bound (omega arith))
