use Rattle.session.proofs.Numbers.{too_many}
use Rattle.session.proofs.words.mode_of.Goals as goal

pub returns-in_default-2 : goal.returns-in_default-2
returns-in_default-2 c = too_many c.args.words.now c.in_default.len_at_least
